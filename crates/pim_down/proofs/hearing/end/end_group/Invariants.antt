use Rattle.pim_down.proofs.Words.{◌-◌, length, at}
use Rattle.pim_down.proofs.Ending.{EndsTo}
use Rattle.pim_down.proofs.Looking.{IsNext}
use Rattle.pim_down.proofs.hearing.end.end_group.Given as goal

abbrev pub invariant-loop-group : goal.invariant-loop-group
invariant-loop-group g l = record {
  ends : EndsTo g.F.Family.bytes_of l.port (g.F.Family.bytes_of l.group) l.fn.records.items l.records.items (at l.records l.place);
  next : IsNext l.records l.place;
}

abbrev pub decreases-loop-group : goal.decreases-loop-group
decreases-loop-group g l = length l.records.items - at l.records l.place
