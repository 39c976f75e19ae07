use Rattle.std.proofs.Common.{◌∙◌, ◌++◌, List, ap, map}
use Rattle.std.specs.List.{flat_map}
use Rattle.pim_down.specs.Seen.{event_seen}
use Rattle.pim_down.specs.declared.machines.event.Event.{Event}
use Rattle.pim_audit.specs.Compared.{entries_of, gone_at, new_at}
use Rattle.pim_audit.specs.Seen.{dues_seen}
use Rattle.pim_audit.specs.Touched.{machines_seen}
use Rattle.pim_audit.specs.declared.due.Due.{Due}
use Rattle.pim_audit.proofs.Comparing.{all_gone, all_new, gone_apart, new_apart}
use Rattle.pim_audit.proofs.changes.changes_of.Goals as goal

pub put_in_order-requires : goal.put_in_order-requires
put_in_order-requires g c =
    let bytes_of = g.F.Family.bytes_of in
    new_apart c.args.is_known g.F.Family.family c.args.sides.now c.args.dues.now (machines_seen bytes_of c.args.machines.now.keys)
    c.in_ok-push_machines.ensures.apart (map (event_seen bytes_of) c.push_machines.new.changes.new.items)
    (c.in_ok-push_machines.ensures.new
    ∙ ap (λ (l : List (Event g.row.F-Addr.Denot)). map (event_seen bytes_of) l
    ++ flat_map (new_at c.args.is_known g.F.Family.family c.args.sides.now c.args.dues.now)
    (entries_of (machines_seen bytes_of c.args.machines.now.keys))) c.new.ensures.items)

pub put_dues_in_order-requires : goal.put_dues_in_order-requires
put_dues_in_order-requires g c =
    let bytes_of = g.F.Family.bytes_of in
    gone_apart c.args.is_known g.F.Family.family c.args.sides.now c.args.dues.now (machines_seen bytes_of c.args.machines.now.keys)
    c.in_ok-push_machines.ensures.apart (dues_seen bytes_of c.push_machines.new.changes.gone.items)
    (c.in_ok-push_machines.ensures.gone
    ∙ ap (λ (l : List (Due g.row.F-Addr.Denot)). dues_seen bytes_of l
    ++ flat_map (gone_at c.args.is_known g.F.Family.family c.args.sides.now c.args.dues.now)
    (entries_of (machines_seen bytes_of c.args.machines.now.keys))) c.new-2.ensures.items)

pub returns-clause-new : goal.returns-clause-new
returns-clause-new g c =
    let bytes_of = g.F.Family.bytes_of in
    all_new c.args.is_known g.F.Family.family c.args.sides.now c.args.dues.now (machines_seen bytes_of c.args.machines.now.keys)
    c.in_ok-push_machines.ensures.apart (map (event_seen bytes_of) c.push_machines.new.changes.new.items)
    (map (event_seen bytes_of) c.put_in_order.new.entries.items)
    (c.in_ok-push_machines.ensures.new
    ∙ ap (λ (l : List (Event g.row.F-Addr.Denot)). map (event_seen bytes_of) l
    ++ flat_map (new_at c.args.is_known g.F.Family.family c.args.sides.now c.args.dues.now)
    (entries_of (machines_seen bytes_of c.args.machines.now.keys))) c.new.ensures.items)
    c.in_ok-put_in_order.ensures.same

pub returns-clause-gone : goal.returns-clause-gone
returns-clause-gone g c =
    let bytes_of = g.F.Family.bytes_of in
    all_gone c.args.is_known g.F.Family.family c.args.sides.now c.args.dues.now (machines_seen bytes_of c.args.machines.now.keys)
    c.in_ok-push_machines.ensures.apart (dues_seen bytes_of c.push_machines.new.changes.gone.items)
    (dues_seen bytes_of c.put_dues_in_order.new.dues.items) c.is_sound.ensures
    (c.in_ok-push_machines.ensures.gone
    ∙ ap (λ (l : List (Due g.row.F-Addr.Denot)). dues_seen bytes_of l
    ++ flat_map (gone_at c.args.is_known g.F.Family.family c.args.sides.now c.args.dues.now)
    (entries_of (machines_seen bytes_of c.args.machines.now.keys))) c.new-2.ensures.items)
    c.in_ok-put_dues_in_order.ensures.order c.in_ok-put_dues_in_order.ensures.same
