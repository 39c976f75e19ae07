use Rattle.pim_mirror.proofs.Headlines.{twice_is_once}
use Rattle.pim_mirror.proofs.headline_laws.normalising_twice_is_once.Goals as goal

pub returns : goal.returns
returns c = twice_is_once c.one_normal_form.ensures
