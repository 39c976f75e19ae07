use Rattle.pim_fresh.proofs.Demanding.{asking_tells}
use Rattle.pim_fresh.proofs.laws.demanding_has_units.Goals as goal

pub returns : goal.returns
returns c = asking_tells c.keys_are_distinct.ensures
