use Rattle.std.proofs.Common.{drop}
use Rattle.pim_local.specs.Seen.{joins_seen}
use Rattle.pim_audit.specs.Touched.{machines_seen}
use Rattle.pim_audit.specs.Watched.{MachinesGrow}
use Rattle.pim_audit.proofs.Watching.{HasLocalBut}
use Rattle.pim_audit.proofs.watched.add_local.Given as goal

-- the machines of the joins before this one were added
abbrev pub invariant-loop-join : goal.invariant-loop-join
invariant-loop-join g l = record {
  but : HasLocalBut (joins_seen g.F.Family.bytes_of (drop l.join-index l.join-items)) l.local
      (machines_seen g.F.Family.bytes_of l.machines.keys);
  grows : MachinesGrow (machines_seen g.F.Family.bytes_of l.fn.machines.keys)
      (machines_seen g.F.Family.bytes_of l.machines.keys);
}
