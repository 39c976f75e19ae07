use Rattle.pim_mirror.proofs.Asks.{part_demands}
use Rattle.pim_mirror.proofs.laws.part_demands.Goals as goal

pub returns : goal.returns
returns c = part_demands
