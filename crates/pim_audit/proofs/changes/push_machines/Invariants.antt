use Rattle.std.proofs.Common.{◌≡◌, ◌++◌, map}
use Rattle.std.specs.List.{flat_map}
use Rattle.pim_down.specs.Seen.{event_seen}
use Rattle.pim_audit.specs.Compared.{entries_of, gone_at, new_at}
use Rattle.pim_audit.specs.Seen.{dues_seen}
use Rattle.pim_audit.specs.Touched.{machines_seen}
use Rattle.pim_audit.proofs.changes.push_machines.Given as goal

-- what was added, and what changed of the machines that are left, are all
abbrev pub invariant-loop-machine : goal.invariant-loop-machine
invariant-loop-machine g l =
    let bytes_of = g.F.Family.bytes_of in
    let family = g.F.Family.family in
    record {
      new : map (event_seen bytes_of) l.changes.new.items
          ++ flat_map (new_at l.is_known family l.sides l.dues) (entries_of (machines_seen bytes_of l.machine-iterator))
          ≡ map (event_seen bytes_of) l.fn.changes.new.items
          ++ flat_map (new_at l.is_known family l.sides l.dues) (entries_of (machines_seen bytes_of l.machines.keys));
      gone : dues_seen bytes_of l.changes.gone.items
          ++ flat_map (gone_at l.is_known family l.sides l.dues) (entries_of (machines_seen bytes_of l.machine-iterator))
          ≡ dues_seen bytes_of l.fn.changes.gone.items
          ++ flat_map (gone_at l.is_known family l.sides l.dues) (entries_of (machines_seen bytes_of l.machines.keys));
    }
