use Rattle.sorted_blocks.proofs.Seeking.{halved}
use Rattle.std.proofs.Common.{refl, arith}
use Rattle.sorted_blocks.proofs.find.seek.Goals as goal

pub loop-left-preserved : goal.loop-left-preserved
loop-left-preserved g c =
    let less = c.one_if_less-is_less.ensures in
    halved (g.P.Probe.order c.args.probe.now) c.args.row.now c.args.low c.loop-left.low c.loop-left.left _ c.one_if_less-is_less.result c.loop-left.invariant (omega (arith, c.loop-left-test.true)) refl less.most less.less less.not_less
