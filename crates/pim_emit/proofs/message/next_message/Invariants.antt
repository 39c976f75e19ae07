use Rattle.pim_emit.proofs.Words.{◌≡◌, length, draft_seen, IsDraft, steps_left, position_seen}
use Rattle.pim_emit.proofs.message.next_message.Given as goal

-- the message began at the position
abbrev pub invariant-loop-draft : goal.invariant-loop-draft
invariant-loop-draft g l = record {
  made : IsDraft g.F.Family.family l.writer.budget l.demand (position_seen g.F.Family.bytes_of l.initial.position) (draft_seen g.F.Family.bytes_of l.draft) l.bytes;
  room : length l.bytes ≡ l.writer.budget;
  start : l.position ≡ l.initial.position;
}

abbrev pub decreases-loop-draft : goal.decreases-loop-draft
decreases-loop-draft g l = steps_left g.F.Family.family l.writer.budget l.demand (draft_seen g.F.Family.bytes_of l.draft)
