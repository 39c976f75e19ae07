use Rattle.pim_router.proofs.Timeouts.{nobody_before}
use Rattle.pim_router.proofs.laws.nobody_goes_before_first_timeout.Goals as goal

pub returns : goal.returns
returns c = nobody_before c.time_is_over_from_next_end.ensures
