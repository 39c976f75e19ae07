use Rattle.pim_addr.proofs.OneMoreRow.{no_rows}
use Rattle.pim_addr.proofs.route_map.RouteMap.new.Goals as goal

pub invariant_of-result : goal.invariant_of-result
invariant_of-result g c = no_rows g.F.Family.family g.F.Family.bytes_of g.F.Family.value_of c.new.result.items c.new-2.result.items c.new-3.result.items c.new.ensures.items c.new-2.ensures.items c.new-3.ensures.items
