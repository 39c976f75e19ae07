use Rattle.pim_down.proofs.Time.{runs_once}
use Rattle.pim_down.proofs.laws.run_has_one_end.Goals as goal

pub returns : goal.returns
returns c = runs_once
