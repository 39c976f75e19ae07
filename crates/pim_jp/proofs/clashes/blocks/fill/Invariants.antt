use Rattle.pim_jp.proofs.Words.{◌≡◌, ◌+◌, ◌≤◌, ◌||◌, List, ℕ, length, take, drop, Entry, is_in, HasAddress, is_listed}
use Rattle.pim_jp.proofs.clashes.blocks.fill.Given as goal

abbrev pub invariant-loop-index : goal.invariant-loop-index
invariant-loop-index g l = record {
  free : l.front + length l.block ≤ l.back + l.index;
  bound : l.back ≤ length l.block;
  taken : length l.entries + l.index ≡ length l.initial.entries;
  listed : (this : Entry (List ℕ)) → HasAddress g.F.Family.family this
      → is_in l.initial.entries this ≡ (is_listed g.F.Family.value_of (take l.front l.block) (drop l.back l.block) this || is_in l.entries this);
}
