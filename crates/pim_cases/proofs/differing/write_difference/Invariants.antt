use Rattle.std.proofs.Common.{length}
use Rattle.pim_cases.proofs.differing.write_difference.Given as goal

abbrev pub decreases-loop-wanted : goal.decreases-loop-wanted
decreases-loop-wanted l = length l.left
