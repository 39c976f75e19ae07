use Rattle.pim_jp.proofs.Words.{◌≡◌, List, ℕ, true, length, Entry, is_in, HasAddress, is_listed}
use Rattle.pim_jp.proofs.clashes.swapped.from_listed.Given as goal

abbrev pub invariant-loop-left : goal.invariant-loop-left
invariant-loop-left g l = record {
  room : length l.together ≡ length l.initial.together;
  same : (this : Entry (List ℕ)) → HasAddress g.F.Family.family this → is_listed g.F.Family.value_of l.fn.listed.sources.now l.fn.listed.rpts.now this ≡ true
      → is_in l.fn.entries this ≡ is_in l.left this;
}

abbrev pub decreases-loop-left : goal.decreases-loop-left
decreases-loop-left g l = length l.left
