-- Addresses in order: they ascend, so that each stands there once.
use Rattle.pim_change.proofs.Words.{◌≡◌, ℕ, ◌+◌, ◌≤◌, Bool, true, false, cond, ◌||◌, ◌∙◌, List, [], ◌∷◌, ◌++◌, refl}
use Rattle.pim_change.proofs.Words.{sym, ap, subst, arith, AllByRecursion, flat_map, IsStrictlySortedBy, Less, Equal}
use Rattle.pim_change.proofs.Words.{Greater, nat_cmp, slice_cmp, nat_list_cmp_total, same_address, is_listed, inserted}
use Rattle.pim_change.proofs.Words.{in_order, AddressesAreInOrder}
use Rattle.std.specs.declared.cmp.Ordering.{Ordering}
use Rattle.pim_form.specs.Merge.{by_order}
use Rattle.pim_change.proofs.Addresses.{same_is, less_apart, equal_is, greater_less}

abbrev pub Below : List ℕ → List (List ℕ) → Type 0
Below x xs = AllByRecursion (λ y. slice_cmp nat_cmp x y ≡ Less) xs

abbrev pub Ascend : List (List ℕ) → Type 0
Ascend xs = IsStrictlySortedBy (slice_cmp nat_cmp) xs

below_through : (x y : List ℕ) (xs : List (List ℕ)) → slice_cmp nat_cmp x y ≡ Less → Below y xs → Below x xs
below_through x y [] less below = tt
below_through x y (z ∷ xs) less below = (nat_list_cmp_total.trans x y z less below.0, below_through x y xs less below.1)

-- ---- addresses in order

-- what holds of all addresses holds of them in order
inserted_all : (P : List ℕ → Type 0) (x : List ℕ) (xs : List (List ℕ)) → P x → AllByRecursion P xs → AllByRecursion P (inserted x xs)
unfolding inserted
inserted_all P x [] own all = (own, tt)
inserted_all P x (y ∷ ys) own all =
    elim (slice_cmp nat_cmp x y) as (λ o. AllByRecursion P (by_order o (x ∷ y ∷ ys) (y ∷ ys) (y ∷ inserted x ys))) [
      | Less ↦ (own, all)
      | Equal ↦ all
      | Greater ↦ (all.0, inserted_all P x ys own all.1)
    ]

pub in_order_all : (P : List ℕ → Type 0) (xs : List (List ℕ)) → AllByRecursion P xs → AllByRecursion P (in_order xs)
unfolding in_order
in_order_all P [] all = tt
in_order_all P (x ∷ xs) all = inserted_all P x (in_order xs) all.0 (in_order_all P xs all.1)

pub all_both : (P : List ℕ → Type 0) (one other : List (List ℕ)) → AllByRecursion P one → AllByRecursion P other → AllByRecursion P (one ++ other)
all_both P [] other all others = others
all_both P (x ∷ one) other all others = (all.0, all_both P one other all.1 others)

-- and so for the addresses of two lists
pub either_all : (P : List ℕ → Type 0) (one other : List (List ℕ)) → AllByRecursion P one → AllByRecursion P other → AllByRecursion P (in_order (one ++ other))
either_all P one other all others = in_order_all P (one ++ other) (all_both P one other all others)

inserted_sorted : (x : List ℕ) (xs : List (List ℕ)) → Ascend xs → Ascend (inserted x xs)
unfolding inserted IsStrictlySortedBy
inserted_sorted x [] sorted = (tt, tt)
inserted_sorted x (y ∷ ys) sorted = by (slice_cmp nat_cmp x y) refl (inserted_sorted x ys sorted.1)
  where
    by : (o : Ordering) → slice_cmp nat_cmp x y ≡ o → Ascend (inserted x ys) → Ascend (by_order o (x ∷ y ∷ ys) (y ∷ ys) (y ∷ inserted x ys))
    by Less o further = ((o, below_through x y ys o sorted.0), sorted)
    by Equal o further = sorted
    by Greater o further = (inserted_all (λ z. slice_cmp nat_cmp y z ≡ Less) x ys (greater_less x y o) sorted.0, further)

pub in_order_sorted : (xs : List (List ℕ)) → Ascend (in_order xs)
unfolding in_order IsStrictlySortedBy
in_order_sorted [] = tt
in_order_sorted (x ∷ xs) = inserted_sorted x (in_order xs) (in_order_sorted xs)

or_twice : (p q : Bool) → (p || q) ≡ (p || (p || q))
or_twice true q = refl
or_twice false q = refl

or_turned : (p q r : Bool) → (q || (p || r)) ≡ (p || (q || r))
or_turned true true r = refl
or_turned true false r = refl
or_turned false q r = refl

inserted_listed : (a x : List ℕ) (xs : List (List ℕ)) → is_listed a (inserted x xs) ≡ (same_address a x || is_listed a xs)
unfolding inserted
inserted_listed a x [] = refl
inserted_listed a x (y ∷ ys) = by (slice_cmp nat_cmp x y) refl (inserted_listed a x ys)
  where
    by : (o : Ordering) → slice_cmp nat_cmp x y ≡ o → is_listed a (inserted x ys) ≡ (same_address a x || is_listed a ys)
        → is_listed a (by_order o (x ∷ y ∷ ys) (y ∷ ys) (y ∷ inserted x ys)) ≡ (same_address a x || (same_address a y || is_listed a ys))
    by Less o further = refl
    by Equal o further =
        or_twice (same_address a y) (is_listed a ys)
        ∙ ap (λ (z : List ℕ). same_address a z || (same_address a y || is_listed a ys)) (sym (equal_is x y o))
    by Greater o further = ap (λ b. same_address a y || b) further ∙ or_turned (same_address a x) (same_address a y) (is_listed a ys)

in_order_listed : (a : List ℕ) (xs : List (List ℕ)) → is_listed a (in_order xs) ≡ is_listed a xs
unfolding in_order
in_order_listed a [] = refl
in_order_listed a (x ∷ xs) = inserted_listed a x (in_order xs) ∙ ap (λ b. same_address a x || b) (in_order_listed a xs)

pub addresses_in_order : AddressesAreInOrder
addresses_in_order xs = (in_order_sorted xs, λ a. in_order_listed a xs)

-- ---- counts

abbrev pub one_if : Bool → ℕ
one_if b = cond b 1 0

unfoldable pub count : {A : Type 0} → (A → Bool) → List A → ℕ
count test [] = 0
count test (x ∷ xs) = cond (test x) 1 0 + count test xs

pub count_append : {A : Type 0} (test : A → Bool) (xs ys : List A) → count test (xs ++ ys) ≡ count test xs + count test ys
unfolding count
count_append test [] ys = omega arith
count_append test (x ∷ xs) ys = let rest = count_append test xs ys in omega (arith, rest)

pub count_flat : {A B : Type 0} (test : B → Bool) (f : A → List B) (of : A → Bool) (xs : List A) → ((x : A) → count test (f x) ≤ cond (of x) 1 0) → count test (flat_map f xs) ≤ count of xs
unfolding count
count_flat test f of [] each = omega arith
count_flat test f of (x ∷ xs) each =
    let first = each x in
    let rest = count_flat test f of xs each in
    let both = count_append test (f x) (flat_map f xs) in
    omega (arith, first, rest, both)

none_below : (g : List ℕ) (xs : List (List ℕ)) → Below g xs → count (same_address g) xs ≡ 0
unfolding count
none_below g [] below = refl
none_below g (x ∷ xs) below =
    let first = ap one_if (less_apart g x below.0) in
    let rest = none_below g xs below.1 in
    omega (arith, first, rest)

pub count_once : (g : List ℕ) (xs : List (List ℕ)) → Ascend xs → count (same_address g) xs ≤ 1
unfolding count IsStrictlySortedBy
count_once g [] sorted = omega arith
count_once g (x ∷ xs) sorted =
    elim (same_address g x) as (λ b. same_address g x ≡ b → cond b 1 0 + count (same_address g) xs ≤ 1) [
      | true ↦ λ s.
          let none = none_below g xs (subst (λ (y : List ℕ). Below y xs) (sym (same_is g x s)) sorted.0) in
          omega (arith, none)
      | false ↦ λ s. let rest = count_once g xs sorted.1 in omega (arith, rest)
    ] refl
