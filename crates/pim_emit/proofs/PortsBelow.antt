-- What is true of the ports below a number.
use Rattle.pim_emit.proofs.Words.{◌≡◌, ℕ, zero, suc, ◌+◌, ◌<◌, ◌≤◌, Bool, true, false, ◌&&◌, ◌||◌, List, Option, None, refl, sym}
use Rattle.pim_emit.proofs.Words.{ap, subst, add-one, arith, ⊎_elim, cases_lt, or_left, or_right, or_parts, some_below, IsLeast}
use Rattle.pim_emit.proofs.Above.{by_test}

-- ---- some port, or none

pub none_at_all : (test : ℕ → Bool) → some_below 0 test ≡ false
unfolding some_below
none_at_all test = refl

pub none_more : (test : ℕ → Bool) (count : ℕ) → some_below count test ≡ false → test count ≡ false → some_below (count + 1) test ≡ false
unfolding some_below
none_more test count before here = rw (add-one count, here, before) refl

pub found_below : (test : ℕ → Bool) (count at : ℕ) → at < count → test at ≡ true → some_below count test ≡ true
unfolding some_below
found_below test zero at below here = absurd (omega arith)
found_below test (suc count) at below here =
    ⊎_elim
    (λ (early : at < count). or_right (test count) (some_below count test) (found_below test count at early here))
    (λ (late : count ≤ at). let same : count ≡ at = omega arith in or_left (test count) (some_below count test) (subst (λ n. test n ≡ true) (sym same) here))
    (cases_lt at count)

-- where none passes one test, none passes another that asks for more
pub none_of_fewer : (test this : ℕ → Bool) (count : ℕ) → ((at : ℕ) → test at ≡ false → this at ≡ false) → some_below count test ≡ false → some_below count this ≡ false
unfolding some_below
none_of_fewer test this zero fewer none = refl
none_of_fewer test this (suc count) fewer none =
    let parts = or_parts (test count) (some_below count test) none in
    rw (fewer count parts.0, none_of_fewer test this count fewer parts.1) refl

-- the port that passes
pub which_below : (test : ℕ → Bool) (count : ℕ) → some_below count test ≡ true → (at : ℕ) × (at < count) × (test at ≡ true)
unfolding some_below
which_below test zero some = absurd cc
which_below test (suc count) some =
    by_test (test count)
    (λ e. let below : count < suc count = omega arith in (count, below, e))
    (λ e. let found = which_below test count (subst (λ b. b || some_below count test ≡ true) e some) in
    let below : found.0 < suc count = omega (arith, found.1) in (found.0, below, found.2))

-- a test that every port shares stands in front
pub and_below : (always : Bool) (test : ℕ → Bool) (count : ℕ) → some_below count (λ port. always && test port) ≡ (always && some_below count test)
unfolding some_below
and_below true test zero = refl
and_below false test zero = refl
and_below true test (suc count) = ap (λ b. test count || b) (and_below true test count)
and_below false test (suc count) = and_below false test count

-- ---- the least over the ports

module _ (test : ℕ → List ℕ → Bool) where
  pub least_of_none : IsLeast (λ address. some_below 0 (λ port. test port address)) None
  unfolding some_below
  least_of_none = λ address. refl

  pub least_of_more : (count : ℕ) (one other least : Option (List ℕ)) → IsLeast (λ address. some_below count (λ port. test port address)) one → IsLeast (test count) other
      → ((before here : List ℕ → Bool) → IsLeast before one → IsLeast here other → IsLeast (λ address. here address || before address) least)
      → IsLeast (λ address. some_below (count + 1) (λ port. test port address)) least
  unfolding some_below
  least_of_more count one other least before here lesser =
      subst (λ n. IsLeast (λ address. some_below n (λ port. test port address)) least) (sym (add-one count))
      (lesser (λ address. some_below count (λ port. test port address)) (test count) before here)

  pub least_of_all : (count ports : ℕ) (least : Option (List ℕ)) → count ≡ ports → IsLeast (λ address. some_below count (λ port. test port address)) least
      → IsLeast (λ address. some_below ports (λ port. test port address)) least
  least_of_all count ports least same is = subst (λ n. IsLeast (λ address. some_below n (λ port. test port address)) least) same is
