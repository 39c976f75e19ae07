use Rattle.pim_time.proofs.Words.{refl, arith, date_of}
use Rattle.pim_time.proofs.Walks.{at_same, over_year}
use Rattle.pim_time.proofs.calendar.days_before_year.Goals as goal

pub loop-passed-preserved : goal.loop-passed-preserved
loop-passed-preserved c =
    (at_same _ _ _ (over_year _ c.loop-passed.passed c.loop-passed.invariant.0) (omega arith), omega arith)

pub loop-passed-init : goal.loop-passed-init
unfolding date_of
loop-passed-init c = (refl, omega arith)
