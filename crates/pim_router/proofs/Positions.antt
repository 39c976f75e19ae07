-- The first place that passes a test, in a list seen through a function.
use Rattle.pim_router.proofs.Words.{◌≡◌, Bool, true, false, List, [], ◌∷◌, map, length, ◌≤◌, ◌+◌, nat_lt, Some, None, refl, arith}
use Rattle.pim_router.proofs.Words.{if◌then◌else◌, position, position_or_len, AllByRecursion, ltb-false, length-map}

prefix_step : {A B : Type 0} (test : B → Bool) (see : A → B) (x : A) (xs : List A) (b : Bool) → test (see x) ≡ b →
    position_or_len test (map see xs) ≡ position_or_len (λ x. test (see x)) xs →
    position_or_len test (map see (x ∷ xs)) ≡ position_or_len (λ x. test (see x)) (x ∷ xs)
prefix_step test see x xs true is more = rw is refl
prefix_step test see x xs false is more = rw (is, more) refl

prefix_map : {A B : Type 0} (test : B → Bool) (see : A → B) (xs : List A) →
    position_or_len test (map see xs) ≡ position_or_len (λ x. test (see x)) xs
prefix_map test see [] = refl
prefix_map test see (x ∷ xs) = prefix_step test see x xs (test (see x)) refl (prefix_map test see xs)

pub position_map : {A B : Type 0} (test : B → Bool) (see : A → B) (xs : List A) →
    position test (map see xs) ≡ position (λ x. test (see x)) xs
position_map test see xs = rw (prefix_map test see xs, length-map xs see) refl

-- ---- what is never passed

all_fail_step : {A : Type 0} (test : A → Bool) (x : A) (xs : List A) (b : Bool) → test x ≡ b →
    (length xs ≤ position_or_len test xs → AllByRecursion (λ x. test x ≡ false) xs) →
    length (x ∷ xs) ≤ position_or_len test (x ∷ xs) → AllByRecursion (λ x. test x ≡ false) (x ∷ xs)
all_fail_step test x xs true is more long =
    let none : position_or_len test (x ∷ xs) ≡ 0 = rw is refl in
    absurd (omega (arith, none, long))
all_fail_step test x xs false is more long =
    let one : position_or_len test (x ∷ xs) ≡ 1 + position_or_len test xs = rw is refl in
    (is, more (omega (arith, one, long)))

all_fail : {A : Type 0} (test : A → Bool) (xs : List A) → length xs ≤ position_or_len test xs →
    AllByRecursion (λ x. test x ≡ false) xs
all_fail test [] long = tt
all_fail test (x ∷ xs) long = all_fail_step test x xs (test x) refl (all_fail test xs) long

no_clash : {A : Type 0} (place : A) → Some place ≡ None → ⊥
no_clash place e = cc

not_found : {A : Type 0} (found : Bool) (place : A) → (if found then Some place else None) ≡ None → found ≡ false
not_found true place none = absurd (no_clash place none)
not_found false place none = refl

pub none_passes : {A : Type 0} (test : A → Bool) (xs : List A) → position test xs ≡ None →
    AllByRecursion (λ x. test x ≡ false) xs
none_passes test xs none = all_fail test xs
    (ltb-false (position_or_len test xs) (length xs)
    (not_found (nat_lt (position_or_len test xs) (length xs)) (position_or_len test xs) none))
