use Rattle.pim_down.proofs.Act.{IsAscending-act}
use Rattle.pim_down.proofs.laws.event_keeps_the_order.Goals as goal

pub returns : goal.returns
returns c = IsAscending-act
