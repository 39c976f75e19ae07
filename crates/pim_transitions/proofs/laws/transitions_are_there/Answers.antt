use Rattle.pim_transitions.proofs.Existing.{are_there}
use Rattle.pim_transitions.proofs.laws.transitions_are_there.Goals as goal

pub returns : goal.returns
returns c = are_there
