use Rattle.pim_router.proofs.Runs.{run_once}
use Rattle.pim_router.proofs.laws.run_has_one_end.Goals as goal

pub returns : goal.returns
returns c = run_once
