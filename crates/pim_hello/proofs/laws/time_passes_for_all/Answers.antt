use Rattle.pim_hello.proofs.OneNeighbour.{time_passes_for_all}
use Rattle.pim_hello.proofs.laws.time_passes_for_all.Goals as goal

pub returns : goal.returns
returns c = time_passes_for_all
