use Rattle.pim_container.proofs.Exactly.{agrees_exactly}
use Rattle.pim_container.proofs.laws.classic_agrees_exactly.Goals as goal

pub returns : goal.returns
returns c = agrees_exactly
