use Rattle.sorted_blocks.proofs.Within.{place_within}
use Rattle.sorted_blocks.proofs.laws.place_is_within.Goals as goal

pub returns : goal.returns
returns g c = place_within
