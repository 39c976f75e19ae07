use Rattle.pim_container.proofs.Agreement.{agrees}
use Rattle.pim_container.proofs.laws.classic_agrees.Goals as goal

pub returns : goal.returns
returns c = agrees
