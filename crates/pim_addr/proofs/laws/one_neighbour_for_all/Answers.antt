use Rattle.pim_addr.proofs.OneRow.{one_neighbour_for_all}
use Rattle.pim_addr.proofs.laws.one_neighbour_for_all.Goals as goal

pub returns : goal.returns
returns c = one_neighbour_for_all
