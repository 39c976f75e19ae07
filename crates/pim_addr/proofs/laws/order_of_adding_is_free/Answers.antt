use Rattle.pim_addr.proofs.AnyOrder.{order_of_adding_is_free}
use Rattle.pim_addr.proofs.laws.order_of_adding_is_free.Goals as goal

pub returns : goal.returns
returns c = order_of_adding_is_free
