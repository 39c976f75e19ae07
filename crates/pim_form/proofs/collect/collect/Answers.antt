use Rattle.pim_form.proofs.Words.{sym, subst, IsFormOf, wants_at}
use Rattle.pim_form.proofs.CollectedWants.{port_form}
use Rattle.pim_form.proofs.Merging.{kept_of_draft}
use Rattle.pim_form.proofs.collect.collect.Goals as goal

pub invariant_of-result : goal.invariant_of-result
invariant_of-result g c =
    let form = port_form c.keys_are_distinct.ensures g.F.Family.family c.args.ports.now c.args.port c.is_sound.ensures in
    kept_of_draft g.F.Family.bytes_of g.F.Family.family c.push_port.new.row.items c.push_port.new.places.items _ c.in_ok-push_port.ensures form.normal

pub returns : goal.returns
returns g c =
    subst (IsFormOf g.F.Family.family (wants_at c.args.port c.args.ports.now)) (sym c.in_ok-push_port.ensures.seen)
    (port_form c.keys_are_distinct.ensures g.F.Family.family c.args.ports.now c.args.port c.is_sound.ensures)
