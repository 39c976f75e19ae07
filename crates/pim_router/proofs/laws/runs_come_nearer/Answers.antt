use Rattle.pim_router.proofs.Onward.{nearer}
use Rattle.pim_router.proofs.laws.runs_come_nearer.Goals as goal

pub returns : goal.returns
returns c = nearer c.timers_run_out.ensures
