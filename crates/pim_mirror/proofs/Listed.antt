-- Tests of the elements of a list, and what they say of each.
use Rattle.pim_mirror.proofs.Words.{◌≡◌, ◌≢◌, ◌∙◌, ℕ, Bool, true, false, List, [], ◌∷◌, ◌&&◌, ◌||◌, map, not, refl, sym}
use Rattle.pim_mirror.proofs.Words.{ap, subst, list_all, list_any, AllByRecursion, IsDistinct, pointwise, same_text}
use Rattle.pim_mirror.proofs.Words.{lists_equiv, nat_eq, nat_eq_equiv, false≢true, are_different}

pub both : (a b : Bool) → (a && b) ≡ true → (a ≡ true) × (b ≡ true)
both true b e = (refl, e)
both false b e = absurd (false≢true e)

pub together : (a b : Bool) → a ≡ true → b ≡ true → (a && b) ≡ true
together true b a_true b_true = b_true
together false b a_true b_true = absurd (false≢true a_true)

pub true_or_false : (b : Bool) → (b ≡ true → ⊥) → b ≡ false
true_or_false true refuted = absurd (refuted refl)
true_or_false false refuted = refl

pub not_true : (b : Bool) → not b ≡ true → b ≡ false
not_true true e = absurd (false≢true e)
not_true false e = refl

module _ {X : Type 0} (test : X → Bool) (P : X → Type 0) where
  none_is : ((x : X) → test x ≡ false → P x) → (xs : List X) → list_any test xs ≡ false → AllByRecursion P xs
  none_is one [] e = tt
  none_is one (x ∷ xs) e = by (test x) refl e (none_is one xs)
    where
      by : (b : Bool) → test x ≡ b → (b || list_any test xs) ≡ false → (list_any test xs ≡ false → AllByRecursion P xs) → AllByRecursion P (x ∷ xs)
      by true t f others = absurd (false≢true (sym f))
      by false t f others = (one x t, others f)

  none_pass : ((x : X) → P x → test x ≡ false) → (xs : List X) → AllByRecursion P xs → list_any test xs ≡ false
  none_pass one [] each = refl
  none_pass one (x ∷ xs) each = rw (one x each.0) (none_pass one xs each.1)

-- the same of what is seen of each
module _ {X Y : Type 0} (seen : X → Y) (test : X → Bool) (P : Y → Type 0) where
  pub each_seen_is : ((x : X) → test x ≡ true → P (seen x)) → (xs : List X) → list_all test xs ≡ true → AllByRecursion P (map seen xs)
  each_seen_is one [] e = tt
  each_seen_is one (x ∷ xs) e = let parts = both (test x) (list_all test xs) e in (one x parts.0, each_seen_is one xs parts.1)

  pub all_seen_pass : ((x : X) → P (seen x) → test x ≡ true) → (xs : List X) → AllByRecursion P (map seen xs) → list_all test xs ≡ true
  all_seen_pass one [] each = refl
  all_seen_pass one (x ∷ xs) each = together (test x) (list_all test xs) (one x each.0) (all_seen_pass one xs each.1)

  pub none_seen_is : ((x : X) → test x ≡ false → P (seen x)) → (xs : List X) → list_any test xs ≡ false → AllByRecursion P (map seen xs)
  none_seen_is one [] e = tt
  none_seen_is one (x ∷ xs) e = by (test x) refl e (none_seen_is one xs)
    where
      by : (b : Bool) → test x ≡ b → (b || list_any test xs) ≡ false → (list_any test xs ≡ false → AllByRecursion P (map seen xs)) → AllByRecursion P (map seen (x ∷ xs))
      by true t f others = absurd (false≢true (sym f))
      by false t f others = (one x t, others f)

  pub none_seen_pass : ((x : X) → P (seen x) → test x ≡ false) → (xs : List X) → AllByRecursion P (map seen xs) → list_any test xs ≡ false
  none_seen_pass one [] each = refl
  none_seen_pass one (x ∷ xs) each = rw (one x each.0) (none_seen_pass one xs each.1)

-- ---- addresses

pub same_address : (a b : List ℕ) → pointwise nat_eq a b ≡ true → a ≡ b
same_address a b e = same_text a b (sym e)

pub itself : (a : List ℕ) → pointwise nat_eq a a ≡ true
itself a = (lists_equiv nat_eq_equiv).refl a

pub other_address : (a b : List ℕ) → pointwise nat_eq a b ≡ false → b ≢ a
other_address a b e same = false≢true (sym e ∙ subst (λ (c : List ℕ). pointwise nat_eq a c ≡ true) (sym same) (itself a))

pub another_address : (a b : List ℕ) → b ≢ a → pointwise nat_eq a b ≡ false
another_address a b differs = true_or_false (pointwise nat_eq a b) (λ e. differs (sym (same_address a b e)))

pub they_differ : (xs : List (List ℕ)) → are_different xs ≡ true → IsDistinct (pointwise nat_eq) xs
unfolding are_different IsDistinct
they_differ [] e = tt
they_differ (x ∷ xs) e =
    let parts = both (not (list_any (pointwise nat_eq x) xs)) (are_different xs) e in (
      none_is (pointwise nat_eq x) (λ y. pointwise nat_eq x y ≡ false) (λ y f. f) xs (not_true (list_any (pointwise nat_eq x) xs) parts.0),
      they_differ xs parts.1,
    )

pub test_tells : (xs : List (List ℕ)) → IsDistinct (pointwise nat_eq) xs → are_different xs ≡ true
unfolding are_different IsDistinct
test_tells [] d = refl
test_tells (x ∷ xs) d =
    rw (none_pass (pointwise nat_eq x) (λ y. pointwise nat_eq x y ≡ false) (λ y f. f) xs d.0) (test_tells xs d.1)

module _ {X : Type 0} (address_of : X → List ℕ) where
  pub any_of : (a : List ℕ) (xs : List X) → list_any (pointwise nat_eq a) (map address_of xs) ≡ list_any (λ x. pointwise nat_eq a (address_of x)) xs
  any_of a [] = refl
  any_of a (x ∷ xs) = ap (λ b. pointwise nat_eq a (address_of x) || b) (any_of a xs)

  pub met_again : (left behind : List X) (x : X) → left ≡ x ∷ behind →
      list_any (λ y. pointwise nat_eq (address_of x) (address_of y)) behind ≡ true → are_different (map address_of left) ≡ false
  unfolding are_different
  met_again left behind x split found = rw split (rw (any_of (address_of x) behind) (rw found refl))

  pub not_met : (left behind : List X) (x : X) → left ≡ x ∷ behind →
      list_any (λ y. pointwise nat_eq (address_of x) (address_of y)) behind ≡ false → are_different (map address_of behind) ≡ are_different (map address_of left)
  unfolding are_different
  not_met left behind x split found = rw split (rw (any_of (address_of x) behind) (rw found refl))

pub false_not : (b : Bool) → b ≡ false → not b ≡ true
false_not true e = absurd (false≢true (sym e))
false_not false e = refl
