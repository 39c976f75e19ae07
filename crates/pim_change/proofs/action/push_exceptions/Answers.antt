use Rattle.pim_change.proofs.Words.{on_ok_weaker, units_seen}
use Rattle.pim_change.proofs.Units.{exceptions_told}
use Rattle.pim_change.proofs.action.push_exceptions.Goals as goal

pub returns : goal.returns
returns g c =
    let bytes_of = g.F.Family.bytes_of in
    on_ok_weaker c.push_lacking-2.result
    (λ is. exceptions_told bytes_of c.group-group.result (units_seen bytes_of c.args.units.now.items)
    c.args.old.now.group c.exceptions-before.result.now c.exceptions-after.result.now c.args.old.now.star
    c.args.new.now.star
    (units_seen bytes_of c.push_lacking.new.units.items) (units_seen bytes_of c.push_lacking-2.new.units.items)
    c.group-group.ensures c.exceptions-before.ensures c.exceptions-after.ensures c.requires.old c.requires.new
    c.in_ok-push_lacking.ensures is)
    c.push_lacking-2.ensures
