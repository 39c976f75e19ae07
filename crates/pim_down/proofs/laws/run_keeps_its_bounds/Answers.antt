use Rattle.pim_down.proofs.Runs.{bounds}
use Rattle.pim_down.proofs.laws.run_keeps_its_bounds.Goals as goal

pub returns : goal.returns
returns c = bounds
