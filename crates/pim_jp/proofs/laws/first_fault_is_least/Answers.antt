use Rattle.pim_jp.proofs.Order.{first_of_faults}
use Rattle.pim_jp.proofs.laws.first_fault_is_least.Goals as goal

pub returns : goal.returns
returns c = first_of_faults c.first_of_parts_is_least.ensures
