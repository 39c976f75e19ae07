use Rattle.pim_down.proofs.FirstDue.{weight_fired, weight_later}
use Rattle.pim_down.proofs.laws.timers_run_out.Goals as goal

pub returns : goal.returns
returns c = (weight_fired, weight_later 1)
