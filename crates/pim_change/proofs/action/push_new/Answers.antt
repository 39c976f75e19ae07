use Rattle.pim_change.proofs.Words.{on_ok_weaker, units_seen}
use Rattle.pim_change.proofs.Units.{new_told}
use Rattle.pim_change.proofs.action.push_new.Goals as goal

pub returns : goal.returns
returns g c =
    let bytes_of = g.F.Family.bytes_of in
    on_ok_weaker c.push_each.result
    (λ is. new_told bytes_of c.group.result (units_seen bytes_of c.args.units.now.items) c.args.new.now
    c.sources.result.now (units_seen bytes_of c.push_star_join.new.units.items)
    (units_seen bytes_of c.push_each.new.units.items) c.group.ensures c.sources.ensures
    c.in_ok-push_star_join.ensures is)
    c.push_each.ensures
