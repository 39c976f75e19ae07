use Rattle.pim_jp.proofs.Words.{◌≡◌, ◌≤◌, ◌||◌, ℕ, length, take, drop, is_among, is_marked}
use Rattle.pim_jp.proofs.clashes.marked.copy_marked.Given as goal

abbrev pub invariant-loop-index : goal.invariant-loop-index
invariant-loop-index g l = record {
  bound : l.done ≤ l.index;
  room : length l.copies ≡ length l.initial.copies;
  copied : (this : ℕ) → is_marked g.F.Family.value_of l.fn.numbers l.fn.marks this
      ≡ (is_among g.F.Family.value_of (take l.done l.copies) this || is_marked g.F.Family.value_of (drop l.index l.fn.numbers) (drop l.index l.fn.marks) this);
}
