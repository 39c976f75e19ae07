use Rattle.pim_addr.proofs.Numbers.{numbers_are_in_order}
use Rattle.pim_addr.proofs.family.numbers_are_in_order.Goals as goal

pub returns : goal.returns
returns c = numbers_are_in_order
