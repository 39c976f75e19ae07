use Rattle.pim_choice_laws.proofs.Filters.{both_end_in_a_fault}
use Rattle.pim_choice_laws.proofs.laws.both_end_in_a_fault.Goals as goal

pub returns : goal.returns
returns c = both_end_in_a_fault
