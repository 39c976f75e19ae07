use Rattle.pim_change.proofs.Words.{on_ok_weaker, units_seen}
use Rattle.pim_change.proofs.Units.{group_told}
use Rattle.pim_change.proofs.action.push_both.Goals as goal

pub returns : goal.returns
returns g c =
    let bytes_of = g.F.Family.bytes_of in
    on_ok_weaker c.push_lacking-2.result
    (λ is. group_told bytes_of c.group-group.result (units_seen bytes_of c.args.units.now.items) c.args.old.now
    c.args.new.now c.sources-before.result.now c.sources-after.result.now
    (units_seen bytes_of c.push_star.new.units.items)
    (units_seen bytes_of c.push_lacking.new.units.items) (units_seen bytes_of c.push_lacking-2.new.units.items)
    c.group-group.ensures c.sources-before.ensures c.sources-after.ensures c.in_ok-push_star.ensures
    c.in_ok-push_lacking.ensures is)
    c.push_lacking-2.ensures
