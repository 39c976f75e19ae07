use Rattle.pim_addr.proofs.AnyOrder.{route_map_has_one_list}
use Rattle.pim_addr.proofs.laws.route_map_has_one_list.Goals as goal

pub returns : goal.returns
returns c = route_map_has_one_list
