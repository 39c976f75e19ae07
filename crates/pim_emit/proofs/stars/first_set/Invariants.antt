use Rattle.pim_emit.proofs.Words.{◌≡◌, ℕ, Bool, false, some_below, AreFlags}
use Rattle.pim_emit.proofs.stars.first_set.Given as goal

-- none before this one is set
abbrev pub invariant-loop-place : goal.invariant-loop-place
invariant-loop-place l = (test : ℕ → Bool) → AreFlags l.count test l.flags → some_below l.place test ≡ false
