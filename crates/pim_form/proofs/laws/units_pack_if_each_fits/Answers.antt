use Rattle.pim_form.proofs.SomePacking.{packs_if_each_fits}
use Rattle.pim_form.proofs.laws.units_pack_if_each_fits.Goals as goal

pub returns : goal.returns
returns c = packs_if_each_fits
