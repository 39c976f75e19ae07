use Rattle.pim_change.proofs.Sorted.{addresses_in_order}
use Rattle.pim_change.proofs.laws.addresses_are_in_order.Goals as goal

pub returns : goal.returns
returns c = addresses_in_order
