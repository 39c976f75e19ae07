use Rattle.std.proofs.Common.{drop}
use Rattle.pim_audit.specs.Touched.{machines_seen}
use Rattle.pim_audit.proofs.Watching.{WatchesBut}
use Rattle.pim_audit.proofs.watched.watched_machines.Given as goal

-- the touched machines before this one are watched
abbrev pub invariant-loop-machine : goal.invariant-loop-machine
invariant-loop-machine g l =
    let bytes_of = g.F.Family.bytes_of in
    WatchesBut l.sides l.dues (machines_seen bytes_of (drop l.machine-index l.machine-items)) l.touched.machines
    (machines_seen bytes_of l.machines.keys)
