use Rattle.pim_mirror.proofs.RouterRuns.{runs_as_machines}
use Rattle.pim_mirror.proofs.laws.router_runs_as_its_machines.Goals as goal

pub returns : goal.returns
returns c = runs_as_machines
