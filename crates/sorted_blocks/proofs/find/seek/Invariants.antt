use Rattle.sorted_blocks.proofs.Seeking.{IsLeft}
use Rattle.sorted_blocks.proofs.find.seek.Given as goal

abbrev pub invariant-loop-left : goal.invariant-loop-left
invariant-loop-left g l = IsLeft (g.P.Probe.order l.probe) l.row l.fn.low l.low l.left

abbrev pub decreases-loop-left : goal.decreases-loop-left
decreases-loop-left g l = l.left
