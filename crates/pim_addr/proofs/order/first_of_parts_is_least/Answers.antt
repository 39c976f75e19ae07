use Rattle.pim_addr.proofs.Places.{first_of_parts_is_least}
use Rattle.pim_addr.proofs.order.first_of_parts_is_least.Goals as goal

pub returns : goal.returns
returns c = first_of_parts_is_least
