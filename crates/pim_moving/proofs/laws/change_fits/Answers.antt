use Rattle.pim_moving.proofs.Fitting.{fits_too}
use Rattle.pim_moving.proofs.laws.change_fits.Goals as goal

pub returns : goal.returns
returns c = fits_too
