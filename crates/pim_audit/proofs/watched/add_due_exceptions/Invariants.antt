use Rattle.std.specs.Map.{values_of}
use Rattle.pim_audit.specs.Seen.{dues_seen}
use Rattle.pim_audit.specs.Touched.{machines_seen}
use Rattle.pim_audit.specs.Watched.{MachinesGrow}
use Rattle.pim_audit.proofs.Watching.{HasDueExceptionsBut}
use Rattle.pim_audit.proofs.watched.add_due_exceptions.Given as goal

-- the exceptions before this one were added
abbrev pub invariant-loop-held : goal.invariant-loop-held
invariant-loop-held g l =
    let bytes_of = g.F.Family.bytes_of in
    record {
      but : HasDueExceptionsBut (dues_seen bytes_of (values_of l.held-iterator)) l.dues (bytes_of l.group)
          (machines_seen bytes_of l.machines.keys);
      grows : MachinesGrow (machines_seen bytes_of l.fn.machines.keys) (machines_seen bytes_of l.machines.keys);
    }
