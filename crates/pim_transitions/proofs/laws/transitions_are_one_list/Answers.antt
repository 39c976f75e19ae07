use Rattle.pim_transitions.proofs.OneList.{one_list_of}
use Rattle.pim_transitions.proofs.laws.transitions_are_one_list.Goals as goal

pub returns : goal.returns
returns c = one_list_of
