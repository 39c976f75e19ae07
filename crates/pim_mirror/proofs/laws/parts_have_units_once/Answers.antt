use Rattle.pim_mirror.proofs.Once.{parts_tell}
use Rattle.pim_mirror.proofs.laws.parts_have_units_once.Goals as goal

pub returns : goal.returns
returns c = parts_tell c.demanding_has_units.ensures
