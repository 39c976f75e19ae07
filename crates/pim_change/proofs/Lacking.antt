-- What one list in order has that another one lacks: one step of a walk over both.
use Rattle.pim_change.proofs.Words.{◌≡◌, ◌∙◌, ℕ, true, false, ◌||◌, not, cond, List, [], ◌∷◌, refl, ap, subst, Less}
use Rattle.pim_change.proofs.Words.{Equal, Greater, AllByRecursion, IsStrictlySortedBy, nat_cmp, slice_cmp}
use Rattle.pim_change.proofs.Words.{AreAscending, same_address, is_listed, lacking}
use Rattle.pim_change.proofs.Addresses.{same_itself, equal_is, greater_less, less_apart_back, all_behind}
use Rattle.pim_change.proofs.Addresses.{unlisted_below}

-- nothing is lacking but what is there
pub lacking_all : (xs : List (List ℕ)) → lacking xs [] ≡ xs
lacking_all [] = refl
lacking_all (x ∷ xs) = ap (λ (zs : List (List ℕ)). x ∷ zs) (lacking_all xs)

-- two lists that hold the same of these are lacking alike
lacking_alike : (xs ys zs : List (List ℕ)) → AllByRecursion (λ x. is_listed x ys ≡ is_listed x zs) xs
    → lacking xs ys ≡ lacking xs zs
lacking_alike [] ys zs all = refl
lacking_alike (x ∷ xs) ys zs all =
    rw all.0 (ap (λ (l : List (List ℕ)). cond (not (is_listed x zs)) (x ∷ l) l) (lacking_alike xs ys zs all.1))

-- what stands behind an address isn't it
past_first : (y : List ℕ) (xs ys : List (List ℕ)) → AllByRecursion (λ x. slice_cmp nat_cmp y x ≡ Less) xs
    → AllByRecursion (λ x. is_listed x (y ∷ ys) ≡ is_listed x ys) xs
past_first y [] ys below = tt
past_first y (x ∷ xs) ys below = (rw (less_apart_back y x below.0) refl, past_first y xs ys below.1)

pub lacking_less : (x y : List ℕ) (xs ys : List (List ℕ)) → slice_cmp nat_cmp x y ≡ Less → AreAscending (y ∷ ys)
    → lacking (x ∷ xs) (y ∷ ys) ≡ x ∷ lacking xs (y ∷ ys)
unfolding IsStrictlySortedBy
lacking_less x y xs ys less up =
    let none : is_listed x (y ∷ ys) ≡ false = unlisted_below x (y ∷ ys) (less, all_behind x y ys less up.0) in
    ap (λ b. cond (not b) (x ∷ lacking xs (y ∷ ys)) (lacking xs (y ∷ ys))) none

pub lacking_equal : (x y : List ℕ) (xs ys : List (List ℕ)) → slice_cmp nat_cmp x y ≡ Equal → AreAscending (x ∷ xs)
    → lacking (x ∷ xs) (y ∷ ys) ≡ lacking xs ys
unfolding IsStrictlySortedBy
lacking_equal x y xs ys equal up =
    let same : x ≡ y = equal_is x y equal in
    let here : is_listed x (y ∷ ys) ≡ true =
    subst (λ a. (same_address x a || is_listed x ys) ≡ true) same (ap (λ b. b || is_listed x ys) (same_itself x)) in
    ap (λ b. cond (not b) (x ∷ lacking xs (y ∷ ys)) (lacking xs (y ∷ ys))) here
    ∙ lacking_alike xs (y ∷ ys) ys
    (past_first y xs ys (subst (λ a. AllByRecursion (λ z. slice_cmp nat_cmp a z ≡ Less) xs) same up.0))

pub lacking_greater : (x y : List ℕ) (xs ys : List (List ℕ)) → slice_cmp nat_cmp x y ≡ Greater → AreAscending (x ∷ xs)
    → lacking (x ∷ xs) (y ∷ ys) ≡ lacking (x ∷ xs) ys
unfolding IsStrictlySortedBy
lacking_greater x y xs ys greater up =
    let less = greater_less x y greater in
    lacking_alike (x ∷ xs) (y ∷ ys) ys (past_first y (x ∷ xs) ys (less, all_behind y x xs less up.0))
