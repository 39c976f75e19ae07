use Rattle.pim_jp.proofs.Words.{◌≡◌, ◌*◌, ◌<◌, ℕ, false, drop, source_length, entry_at, is_listed}
use Rattle.pim_jp.proofs.clashes.blocks.first_listed_of_few.Given as goal

abbrev pub invariant-loop-place : goal.invariant-loop-place
invariant-loop-place g l = record {
  left : l.rest ≡ drop (l.place * source_length g.F.Family.family) l.fn.bytes;
  before : (place : ℕ) → place < l.place → is_listed g.F.Family.value_of l.fn.listed.sources.now l.fn.listed.rpts.now (entry_at g.F.Family.family place l.fn.bytes) ≡ false;
}
