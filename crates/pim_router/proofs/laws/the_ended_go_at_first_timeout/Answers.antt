use Rattle.pim_router.proofs.Timeouts.{ended_at_first}
use Rattle.pim_router.proofs.laws.the_ended_go_at_first_timeout.Goals as goal

pub returns : goal.returns
returns c = ended_at_first c.time_is_over_from_next_end.ensures
