-- Some number below a bound that passes a test.
use Rattle.pim_form.proofs.Words.{◌≡◌, ℕ, zero, suc, ◌+◌, ◌<◌, ◌≤◌, Bool, true, false, ◌||◌, refl, add-one, arith}
use Rattle.pim_form.proofs.Words.{⊎_elim, cases_lt, some_below}

pub none_more : (test : ℕ → Bool) (count : ℕ) → some_below count test ≡ false → test count ≡ false → some_below (count + 1) test ≡ false
unfolding some_below
none_more test count before here = rw (add-one count, here, before) refl

or_true : (b : Bool) → b || true ≡ true
or_true true = refl
or_true false = refl

pub found_below : (test : ℕ → Bool) (count at : ℕ) → at < count → test at ≡ true → some_below count test ≡ true
unfolding some_below
found_below test zero at below here = absurd (omega arith)
found_below test (suc count) at below here =
    ⊎_elim
    (λ (early : at < count). rw (found_below test count at early here) (or_true (test count)))
    (λ (late : count ≤ at). let same : count ≡ at = omega arith in rw (same, here) refl)
    (cases_lt at count)
