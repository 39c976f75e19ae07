use Rattle.pim_down.proofs.OneList.{at_its_key}
use Rattle.pim_down.proofs.laws.change_acts_at_its_key.Goals as goal

pub returns : goal.returns
returns c = at_its_key
