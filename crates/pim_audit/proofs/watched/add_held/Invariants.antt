use Rattle.pim_audit.specs.Touched.{machines_seen}
use Rattle.pim_audit.specs.Watched.{MachinesGrow}
use Rattle.pim_audit.proofs.Watching.{HasHeldBut}
use Rattle.pim_audit.proofs.watched.add_held.Given as goal

-- the machines of the records before this one were added
abbrev pub invariant-loop-held : goal.invariant-loop-held
invariant-loop-held g l = record {
  but : HasHeldBut l.held-iterator l.ports.records (machines_seen g.F.Family.bytes_of l.machines.keys);
  grows : MachinesGrow (machines_seen g.F.Family.bytes_of l.fn.machines.keys)
      (machines_seen g.F.Family.bytes_of l.machines.keys);
}
