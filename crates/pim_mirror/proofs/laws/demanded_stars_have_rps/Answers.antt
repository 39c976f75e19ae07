use Rattle.pim_mirror.proofs.TableStars.{asked_stars}
use Rattle.pim_mirror.proofs.laws.demanded_stars_have_rps.Goals as goal

pub returns : goal.returns
returns c = asked_stars c.test_finds_the_neighbour.ensures
