use Rattle.pim_jp.proofs.Words.{◌≡◌, ◌||◌, List, ℕ, true, length, Entry, is_in, HasAddress, is_listed, has_mark}
use Rattle.pim_jp.proofs.clashes.marked.mark_entries.Given as goal

abbrev pub invariant-loop-entry : goal.invariant-loop-entry
invariant-loop-entry g l = record {
  can_next : (goal.iterator-loop-entry g).can_next l.entry-iterator;
  is_finite : (goal.iterator-loop-entry g).is_finite l.entry-iterator;
  source_room : length l.source_marks ≡ length l.initial.source_marks;
  rpt_room : length l.rpt_marks ≡ length l.initial.rpt_marks;
  marked : (this : Entry (List ℕ)) → HasAddress g.F.Family.family this → is_listed g.F.Family.value_of l.fn.sources l.fn.rpts this ≡ true
      → (has_mark g.F.Family.value_of l.fn.sources l.fn.rpts l.initial.source_marks l.initial.rpt_marks this || is_in l.fn.entries this)
      ≡ (has_mark g.F.Family.value_of l.fn.sources l.fn.rpts l.source_marks l.rpt_marks this || is_in l.entry-iterator this);
}
