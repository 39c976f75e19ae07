use Rattle.pim_emit.proofs.Words.{◌≡◌, length, units_of, left_at, position_seen, IsPosition}
use Rattle.pim_emit.proofs.KeptMessages.{AreKept}
use Rattle.pim_emit.proofs.kept.keep_all.Given as goal

abbrev pub invariant-loop-length : goal.invariant-loop-length
invariant-loop-length g l = record {
  kept : AreKept g.F.Family.family l.writer l.demand (position_seen g.F.Family.bytes_of l.position) l.messages;
  position : IsPosition g.F.Family.family (position_seen g.F.Family.bytes_of l.position);
  room : length l.buffer ≡ length l.initial.buffer;
}

abbrev pub decreases-loop-length : goal.decreases-loop-length
decreases-loop-length g l = length (units_of (left_at (position_seen g.F.Family.bytes_of l.position) l.demand.form))
