use Rattle.pim_form.proofs.OneNeighbour.{asked_for_all}
use Rattle.pim_form.proofs.laws.one_neighbour_gets_all.Goals as goal

pub returns : goal.returns
returns c = λ rps via neighbour demand all have source group tree. asked_for_all rps via neighbour all demand have source group tree
