use Rattle.pim_audit.specs.Touched.{machines_seen}
use Rattle.pim_audit.specs.Watched.{HasExceptionsBelow, MachinesGrow}
use Rattle.pim_audit.proofs.watched.add_exceptions.Given as goal

-- the exceptions of the ports so far were added
abbrev pub invariant-loop-port : goal.invariant-loop-port
invariant-loop-port g l =
    let bytes_of = g.F.Family.bytes_of in
    record {
      has : HasExceptionsBelow l.port l.ports (bytes_of l.group) (machines_seen bytes_of l.machines.keys);
      grows : MachinesGrow (machines_seen bytes_of l.fn.machines.keys) (machines_seen bytes_of l.machines.keys);
    }
