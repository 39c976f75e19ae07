use Rattle.pim_down.proofs.Act.{IsAscending-hearing}
use Rattle.pim_down.proofs.laws.hearing_keeps_the_order.Goals as goal

pub returns : goal.returns
returns c = IsAscending-hearing
