use Rattle.std.proofs.Common.{◌++◌, ap, map, refl}
use Rattle.std.specs.List.{flat_map}
use Rattle.pim_down.specs.Seen.{event_seen}
use Rattle.pim_audit.specs.Compared.{entries_of, gone_at, new_at}
use Rattle.pim_audit.specs.Seen.{dues_seen}
use Rattle.pim_audit.specs.Touched.{machine_seen, machines_seen}
use Rattle.pim_audit.proofs.Comparing.{added_all, added_next, entries_apart}
use Rattle.pim_audit.proofs.Machines.{ascending, ordered}
use Rattle.pim_audit.proofs.changes.push_machines.Goals as goal

pub loop-machine-preserved : goal.loop-machine-preserved
loop-machine-preserved g c =
    let bytes_of = g.F.Family.bytes_of in
    let machine = machine_seen bytes_of c.in-Some.field-0.now in
    let left = machines_seen bytes_of c.loop-machine.machine-iterator in
    let others = machines_seen bytes_of c.next.new.self in
    let first = ap (machines_seen bytes_of) c.in-Some.ensures.steps in
    record {
      new = added_next (new_at c.args.is_known g.F.Family.family c.args.sides.now c.args.dues.now) machine left others
          (map (event_seen bytes_of) c.loop-machine.changes.new.items) (map (event_seen bytes_of) c.push_machine.new.changes.new.items)
          (map (event_seen bytes_of) c.args.changes.now.new.items ++ flat_map
          (new_at c.args.is_known g.F.Family.family c.args.sides.now c.args.dues.now)
          (entries_of (machines_seen bytes_of c.args.machines.now.keys)))
          first c.in_ok-push_machine.ensures.new c.loop-machine.invariant.new;
      gone = added_next (gone_at c.args.is_known g.F.Family.family c.args.sides.now c.args.dues.now) machine left others
          (dues_seen bytes_of c.loop-machine.changes.gone.items) (dues_seen bytes_of c.push_machine.new.changes.gone.items)
          (dues_seen bytes_of c.args.changes.now.gone.items ++ flat_map
          (gone_at c.args.is_known g.F.Family.family c.args.sides.now c.args.dues.now)
          (entries_of (machines_seen bytes_of c.args.machines.now.keys)))
          first c.in_ok-push_machine.ensures.gone c.loop-machine.invariant.gone;
    }

pub returns-clause-new : goal.returns-clause-new
returns-clause-new g c =
    let bytes_of = g.F.Family.bytes_of in
    added_all (new_at c.args.is_known g.F.Family.family c.args.sides.now c.args.dues.now)
    (machines_seen bytes_of c.loop-machine.machine-iterator) (map (event_seen bytes_of) c.loop-machine.changes.new.items)
    (map (event_seen bytes_of) c.args.changes.now.new.items ++ flat_map
    (new_at c.args.is_known g.F.Family.family c.args.sides.now c.args.dues.now)
    (entries_of (machines_seen bytes_of c.args.machines.now.keys)))
    (ap (machines_seen bytes_of) c.in-None.ensures.steps.0) c.loop-machine.invariant.new

pub returns-clause-gone : goal.returns-clause-gone
returns-clause-gone g c =
    let bytes_of = g.F.Family.bytes_of in
    added_all (gone_at c.args.is_known g.F.Family.family c.args.sides.now c.args.dues.now)
    (machines_seen bytes_of c.loop-machine.machine-iterator) (dues_seen bytes_of c.loop-machine.changes.gone.items)
    (dues_seen bytes_of c.args.changes.now.gone.items ++ flat_map
    (gone_at c.args.is_known g.F.Family.family c.args.sides.now c.args.dues.now)
    (entries_of (machines_seen bytes_of c.args.machines.now.keys)))
    (ap (machines_seen bytes_of) c.in-None.ensures.steps.0) c.loop-machine.invariant.gone

pub returns-clause-apart : goal.returns-clause-apart
returns-clause-apart g c =
    let bytes_of = g.F.Family.bytes_of in
    entries_apart (machines_seen bytes_of c.args.machines.now.keys)
    (ascending bytes_of _ c.args.machines.now.keys c.into_iter-machine-iterator.ensures.into_iter_gives.4
    (ordered bytes_of g.F.Addr.Ord.cmp g.met.F.Family.order_of_bytes _ (λ g h. refl) (λ g h t. refl) (λ g h t. refl)
    (λ g h s. refl) (λ g h s t. refl) (λ g h s t. refl) (λ g h s. refl) (λ g h s t. refl) (λ g h s t. refl)))
