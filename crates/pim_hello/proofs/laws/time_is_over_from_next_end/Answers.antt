use Rattle.pim_hello.proofs.NextEnd.{over_from_next}
use Rattle.pim_hello.proofs.laws.time_is_over_from_next_end.Goals as goal

pub returns : goal.returns
returns c = over_from_next
