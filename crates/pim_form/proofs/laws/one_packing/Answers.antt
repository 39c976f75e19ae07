use Rattle.pim_form.proofs.OnePacking.{one_packing}
use Rattle.pim_form.proofs.laws.one_packing.Goals as goal

pub returns : goal.returns
returns c = one_packing
