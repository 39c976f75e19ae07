use Rattle.pim_audit.specs.Seen.{dues_seen}
use Rattle.pim_audit.specs.Touched.{machines_seen}
use Rattle.pim_audit.specs.Watched.{MachinesGrow}
use Rattle.pim_audit.proofs.Watching.{HasDueBut}
use Rattle.pim_audit.proofs.watched.add_due.Given as goal

-- the machines of the entries before this one were added
abbrev pub invariant-loop-held : goal.invariant-loop-held
invariant-loop-held g l = record {
  but : HasDueBut (dues_seen g.F.Family.bytes_of l.held-iterator) l.dues (machines_seen g.F.Family.bytes_of l.machines.keys);
  grows : MachinesGrow (machines_seen g.F.Family.bytes_of l.fn.machines.keys)
      (machines_seen g.F.Family.bytes_of l.machines.keys);
}
