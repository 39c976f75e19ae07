use Rattle.pim_emit.proofs.Words.{◌≡◌, length, units_of, left_at, position_seen, IsPosition}
use Rattle.pim_emit.proofs.Action.{AreUnderway}
use Rattle.pim_emit.proofs.canonical.write_canonical.Given as goal

abbrev pub invariant-loop-length : goal.invariant-loop-length
invariant-loop-length g l = record {
  underway : AreUnderway g.F.Family.family l.writer l.demand (position_seen g.F.Family.bytes_of l.position) l.count l.sent
      (g.D.Drain.contents l.initial.out) (g.D.Drain.contents l.out);
  position : IsPosition g.F.Family.family (position_seen g.F.Family.bytes_of l.position);
  room : length l.buffer ≡ length l.initial.buffer;
  failures : g.D.Drain.failures l.out ≡ g.D.Drain.failures l.initial.out;
}

abbrev pub decreases-loop-length : goal.decreases-loop-length
decreases-loop-length g l = length (units_of (left_at (position_seen g.F.Family.bytes_of l.position) l.demand.form))
