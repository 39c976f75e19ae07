use Rattle.pim_down.proofs.Words.{◌≡◌, ◌-◌, length, at, on_rpts, records_seen}
use Rattle.pim_down.proofs.Each.{ChangedTo}
use Rattle.pim_down.proofs.Rpts.{AreBehind}
use Rattle.pim_down.proofs.Looking.{IsNext}
use Rattle.pim_down.proofs.hearing.hear.join_rpts.Given as goal

abbrev pub invariant-loop-group : goal.invariant-loop-group
invariant-loop-group g l = record {
  changed : ChangedTo (on_rpts l.port (g.F.Family.bytes_of l.group)) (records_seen g.F.Family.bytes_of l.fn.records.items) (records_seen g.F.Family.bytes_of l.records.items) (at l.records l.place);
  behind : AreBehind g.F.Family.bytes_of l.port (g.F.Family.bytes_of l.group) l.fn.records.items (at l.records l.place);
  next : IsNext l.records l.place;
  long : length l.records.items ≡ length l.fn.records.items;
  capacity : l.records.capacity ≡ l.fn.records.capacity;
}

abbrev pub decreases-loop-group : goal.decreases-loop-group
decreases-loop-group g l = length l.records.items - at l.records l.place
