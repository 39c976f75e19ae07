use Rattle.pim_jp.proofs.Words.{◌≡◌, ◌*◌, ◌-◌, ◌≤◌, ◌<◌, ℕ, false, drop, length, source_length, entry_at, is_listed}
use Rattle.pim_jp.proofs.clashes.blocks.first_listed.Given as goal

abbrev pub invariant-loop-place : goal.invariant-loop-place
invariant-loop-place g l = record {
  bound : l.place ≤ l.fn.count;
  room : length l.block ≡ length l.initial.block;
  left : l.rest ≡ drop (l.place * source_length g.F.Family.family) l.fn.bytes;
  before : (place : ℕ) → place < l.place → is_listed g.F.Family.value_of l.fn.listed.sources.now l.fn.listed.rpts.now (entry_at g.F.Family.family place l.fn.bytes) ≡ false;
}

abbrev pub decreases-loop-place : goal.decreases-loop-place
decreases-loop-place g l = l.fn.count - l.place
