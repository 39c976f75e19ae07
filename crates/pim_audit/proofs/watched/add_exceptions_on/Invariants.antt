use Rattle.std.proofs.Common.{◌≡◌}
use Rattle.pim_audit.specs.Touched.{machines_seen}
use Rattle.pim_audit.specs.Watched.{MachinesGrow}
use Rattle.pim_audit.proofs.ExceptionWalk.{HasPassed}
use Rattle.pim_audit.proofs.HeldMachines.{walk, left_count}
use Rattle.pim_audit.proofs.watched.add_exceptions_on.Given as goal

-- the walk is in the group, and the exceptions up to its machine were added
abbrev pub invariant-loop-record : goal.invariant-loop-record
invariant-loop-record g l =
    let bytes_of = g.F.Family.bytes_of in
    record {
      walks : l.walk ≡ walk l.port (bytes_of l.group) l.ports.records l.walk.behind.what;
      has : HasPassed l.port (bytes_of l.group) l.ports.records l.walk.behind.what (machines_seen bytes_of l.machines.keys);
      grows : MachinesGrow (machines_seen bytes_of l.fn.machines.keys) (machines_seen bytes_of l.machines.keys);
    }

-- the machines that are left
abbrev pub decreases-loop-record : goal.decreases-loop-record
decreases-loop-record g l = left_count l.port (g.F.Family.bytes_of l.group) l.ports.records l.walk.behind.what
