use Rattle.pim_hello.proofs.OneNeighbour.{exactly_the_ended_go}
use Rattle.pim_hello.proofs.laws.exactly_the_ended_go.Goals as goal

pub returns : goal.returns
returns c = exactly_the_ended_go
