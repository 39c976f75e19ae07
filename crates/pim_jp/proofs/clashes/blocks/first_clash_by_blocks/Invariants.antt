use Rattle.pim_jp.proofs.Words.{◌≡◌, ◌≤◌, ◌<◌, ℕ, true, length, is_in, entry_at}
use Rattle.pim_jp.proofs.clashes.blocks.first_clash_by_blocks.Given as goal

abbrev pub invariant-loop-left : goal.invariant-loop-left
invariant-loop-left g l = record {
  bound : l.end ≤ l.fn.count;
  apart : (place : ℕ) → place < l.end
      → is_in l.fn.joined (entry_at g.F.Family.family place l.fn.bytes) ≡ is_in l.left (entry_at g.F.Family.family place l.fn.bytes);
  clash : l.end < l.fn.count → is_in l.fn.joined (entry_at g.F.Family.family l.end l.fn.bytes) ≡ true;
}

abbrev pub decreases-loop-left : goal.decreases-loop-left
decreases-loop-left g l = length l.left
