use Rattle.std.proofs.Common.{arith}
use Rattle.pim_time.proofs.Walks.{at_same, over_month}
use Rattle.pim_time.proofs.calendar.days_before_month.Goals as goal

pub loop-passed-preserved : goal.loop-passed-preserved
loop-passed-preserved c =
    (at_same _ _ _ (over_month _ c.args.year c.loop-passed.passed c.loop-passed.invariant.0 (omega arith)) (omega arith), omega arith)
