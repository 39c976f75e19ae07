use Rattle.pim_router.proofs.Happenings.{all_go_on}
use Rattle.pim_router.proofs.laws.every_state_goes_on.Goals as goal

pub returns : goal.returns
returns c = all_go_on c.timers_run_out.ensures
