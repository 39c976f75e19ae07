use Rattle.std.proofs.Common.{length}
use Rattle.pim_cases.proofs.scenario.compare.Given as goal

abbrev pub decreases-loop-rest : goal.decreases-loop-rest
decreases-loop-rest l = length l.rest
