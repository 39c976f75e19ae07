use Rattle.pim_settling.proofs.Wanting.{settled_wants}
use Rattle.pim_settling.proofs.laws.settled_wants.Goals as goal

pub returns : goal.returns
returns c = settled_wants
