use Rattle.pim_audit.proofs.ChangeOrder.{due_up}
use Rattle.pim_audit.proofs.laws.due_entries_are_in_order.Goals as goal

pub returns : goal.returns
returns c = λ family asked wanted of_asked of_wanted. due_up family asked wanted (λ addresses. (c.addresses_are_in_order.ensures addresses).0) of_asked of_wanted
