use Rattle.pim_down.proofs.Silence.{order}
use Rattle.pim_down.proofs.laws.run_keeps_the_order.Goals as goal

pub returns : goal.returns
returns c = order
