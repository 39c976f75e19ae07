use Rattle.pim_change.proofs.NewStars.{new_stars_alone}
use Rattle.pim_change.proofs.laws.new_stars_alone_are_too_big.Goals as goal

pub returns : goal.returns
returns c = new_stars_alone
