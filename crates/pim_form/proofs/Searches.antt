-- What a search among addresses in order finds.
use Rattle.std.proofs.Common.{◌≡◌, ◌∙◌, sym, ap, ℕ, zero, suc, ◌≤◌, ◌<◌, Bool, true, false, ◌||◌, List, [], ◌∷◌, Ordering, length, get_or, map, refl, ⊎_elim, arith, add-one}
use Rattle.pim_form.proofs.Words.{cases_lt, IsSortedBy, IsStrictlySortedBy, IsNonDecreasingBy, IsPartitionPoint}
use Rattle.pim_form.proofs.Words.{nat_cmp, is_lt, ordering_index, ordering_reverse, Less, Equal, Greater, slice_cmp}
use Rattle.pim_form.proofs.Words.{nat_list_cmp_total, searchable_from_sorted, AreAscending, same_address, is_listed}
use Rattle.pim_form.proofs.Addresses.{same_itself, equal_is, less_apart, greater_less, less_apart_back}

module _ {A : Type 0} (bytes_of : A → List ℕ) where
  steps : (xs : List A) → AreAscending (map bytes_of xs) → (k : ℕ) (d : A) → suc k < length xs → is_lt (slice_cmp nat_cmp (bytes_of (get_or xs (suc k) d)) (bytes_of (get_or xs k d))) ≡ false
  unfolding IsStrictlySortedBy
  steps [] up k d below = absurd (omega arith)
  steps (x ∷ []) up k d below = absurd (omega arith)
  steps (x ∷ y ∷ xs) up zero d below = ap is_lt (nat_list_cmp_total.antisymm (bytes_of y) (bytes_of x) ∙ ap ordering_reverse up.0.0)
  steps (x ∷ y ∷ xs) up (suc k) d below = steps (y ∷ xs) up.1 k d (omega arith)

  is_sorted : (xs : List A) → AreAscending (map bytes_of xs) → IsSortedBy (λ a b. is_lt (slice_cmp nat_cmp (bytes_of a) (bytes_of b))) xs
  is_sorted xs up = λ k d low high. rw (add-one k) (steps xs up k d (omega arith))

  listed_at : (xs : List A) (a : List ℕ) (i : ℕ) (d : A) → i < length xs → same_address a (bytes_of (get_or xs i d)) ≡ true → is_listed a (map bytes_of xs) ≡ true
  listed_at [] a i d below same = absurd (omega arith)
  listed_at (x ∷ xs) a zero d below same = rw same refl
  listed_at (x ∷ xs) a (suc i) d below same =
      let others = listed_at xs a i d (omega arith) same in
      by (same_address a (bytes_of x)) (is_listed a (map bytes_of xs)) others
    where
      by : (p q : Bool) → q ≡ true → (p || q) ≡ true
      by true q h = refl
      by false q h = h

  unlisted_all : (xs : List A) (a : List ℕ) → ((i : ℕ) (d : A) → i < length xs → same_address a (bytes_of (get_or xs i d)) ≡ false) → is_listed a (map bytes_of xs) ≡ false
  unlisted_all [] a none = refl
  unlisted_all (x ∷ xs) a none = rw (none 0 x (omega arith)) (unlisted_all xs a (λ i d below. none (suc i) d (omega arith)))

  -- `cmp` compares with the address that is looked for
  module _ (sought : List ℕ) (cmp : A → Ordering) (order : (a : A) → cmp a ≡ slice_cmp nat_cmp (bytes_of a) sought) where
    pub same_at : (xs : List A) (i : ℕ) (d : A) → ((d : A) → cmp (get_or xs i d) ≡ Equal) → bytes_of (get_or xs i d) ≡ sought
    same_at xs i d same = equal_is (bytes_of (get_or xs i d)) sought (sym (order (get_or xs i d)) ∙ same d)

    pub found : (xs : List A) (i : ℕ) (d : A) → i < length xs → ((d : A) → cmp (get_or xs i d) ≡ Equal) → is_listed sought (map bytes_of xs) ≡ true
    found xs i d below same = listed_at xs sought i d below (rw (same_at xs i d same) (same_itself sought))

    pub missed : (xs : List A) (i : ℕ) → AreAscending (map bytes_of xs)
        → (IsNonDecreasingBy (λ y. ordering_index (cmp y)) xs → IsPartitionPoint (λ y. cmp y ≡ Less) (λ y. cmp y ≡ Greater) xs i)
        → is_listed sought (map bytes_of xs) ≡ false
    missed xs i up point =
        let rises = searchable_from_sorted nat_list_cmp_total bytes_of xs sought (is_sorted xs up) in
        let rises' : IsNonDecreasingBy (λ y. ordering_index (cmp y)) xs = λ j k d low high. rw (order (get_or xs j d), order (get_or xs k d)) (rises j k d low high) in
        let sides = point rises' in
        unlisted_all xs sought (λ k d below.
        ⊎_elim
        (λ (before : k < i). less_apart_back (bytes_of (get_or xs k d)) sought (sym (order (get_or xs k d)) ∙ sides.0 k d (omega arith) before))
        (λ (behind : i ≤ k). less_apart sought (bytes_of (get_or xs k d)) (greater_less (bytes_of (get_or xs k d)) sought (sym (order (get_or xs k d)) ∙ sides.1 k d behind below)))
        (cases_lt k i))
