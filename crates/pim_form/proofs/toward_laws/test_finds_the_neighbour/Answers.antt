use Rattle.pim_form.proofs.AskedForAll.{test_tells}
use Rattle.pim_form.proofs.toward_laws.test_finds_the_neighbour.Goals as goal

pub returns : goal.returns
returns c = λ family rps via neighbour form is. test_tells rps via neighbour family form is
