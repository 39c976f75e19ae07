-- Addresses: when two are the same, and what their order says of it.
use Rattle.pim_form.proofs.Words.{◌≡◌, ◌∙◌, ℕ, true, false, List, [], ◌∷◌, refl, sym, ap, subst, Less, Equal, Greater}
use Rattle.pim_form.proofs.Words.{AllByRecursion, nat_cmp, ordering_reverse, is_eq, slice_cmp, texts_ties, nat_list_cmp_total}
use Rattle.pim_form.proofs.Words.{tied_itself, false≢true, IsStrictlySortedBy, AreAscending, same_address, is_listed}
use Rattle.std.specs.FinMap.{slice_cmp-IsAntisymmetric, nat_cmp-IsAntisymmetric}

pub same_itself : (a : List ℕ) → same_address a a ≡ true
same_itself a = texts_ties a a ∙ ap is_eq (tied_itself nat_list_cmp_total a)

equal_from : (a b : List ℕ) → is_eq (slice_cmp nat_cmp a b) ≡ true → a ≡ b
equal_from a b =
    elim (slice_cmp nat_cmp a b) as (λ r. slice_cmp nat_cmp a b ≡ r → is_eq r ≡ true → a ≡ b) [
      | Less ↦ λ e h. absurd (false≢true h)
      | Equal ↦ λ e h. slice_cmp-IsAntisymmetric nat_cmp-IsAntisymmetric a b e
      | Greater ↦ λ e h. absurd (false≢true h)
    ] refl

pub same_is : (a b : List ℕ) → same_address a b ≡ true → a ≡ b
same_is a b h = equal_from a b (sym (texts_ties a b) ∙ h)

pub equal_is : (a b : List ℕ) → slice_cmp nat_cmp a b ≡ Equal → a ≡ b
equal_is a b h = slice_cmp-IsAntisymmetric nat_cmp-IsAntisymmetric a b h

pub less_apart : (a b : List ℕ) → slice_cmp nat_cmp a b ≡ Less → same_address a b ≡ false
less_apart a b h = texts_ties a b ∙ ap is_eq h

pub greater_less : (a b : List ℕ) → slice_cmp nat_cmp a b ≡ Greater → slice_cmp nat_cmp b a ≡ Less
greater_less a b h = nat_list_cmp_total.antisymm b a ∙ ap ordering_reverse h

pub less_apart_back : (a b : List ℕ) → slice_cmp nat_cmp a b ≡ Less → same_address b a ≡ false
less_apart_back a b h = texts_ties b a ∙ ap is_eq (nat_list_cmp_total.antisymm b a ∙ ap ordering_reverse h)

-- ---- lists in ascending order

pub IsBelowAll-trans : (a b : List ℕ) (xs : List (List ℕ)) → slice_cmp nat_cmp a b ≡ Less → AllByRecursion (λ x. slice_cmp nat_cmp b x ≡ Less) xs
    → AllByRecursion (λ x. slice_cmp nat_cmp a x ≡ Less) xs
IsBelowAll-trans a b [] less below = tt
IsBelowAll-trans a b (x ∷ xs) less below = (nat_list_cmp_total.trans a b x less below.0, IsBelowAll-trans a b xs less below.1)

pub unlisted_below : (a : List ℕ) (xs : List (List ℕ)) → AllByRecursion (λ x. slice_cmp nat_cmp a x ≡ Less) xs → is_listed a xs ≡ false
unlisted_below a [] below = refl
unlisted_below a (x ∷ xs) below = rw (less_apart a x below.0) (unlisted_below a xs below.1)

unlisted_before : (a x : List ℕ) (xs : List (List ℕ)) → slice_cmp nat_cmp a x ≡ Less → AllByRecursion (λ y. slice_cmp nat_cmp x y ≡ Less) xs → is_listed a (x ∷ xs) ≡ false
unlisted_before a x xs less below = unlisted_below a (x ∷ xs) (less, IsBelowAll-trans a x xs less below)

pub listed_first : (x : List ℕ) (xs : List (List ℕ)) → is_listed x (x ∷ xs) ≡ true
listed_first x xs = rw (same_itself x) refl

listed_behind : (s x : List ℕ) (xs : List (List ℕ)) → same_address s x ≡ false → is_listed s (x ∷ xs) ≡ is_listed s xs
listed_behind s x xs apart = rw apart refl

same_tails : (s x y : List ℕ) (xs ys : List (List ℕ)) → x ≡ y → AllByRecursion (λ z. slice_cmp nat_cmp x z ≡ Less) xs → AllByRecursion (λ z. slice_cmp nat_cmp y z ≡ Less) ys
    → is_listed s (x ∷ xs) ≡ is_listed s (y ∷ ys) → is_listed s xs ≡ is_listed s ys
same_tails s x y xs ys e below_x below_y same =
    elim (same_address s x) as (λ t. same_address s x ≡ t → is_listed s xs ≡ is_listed s ys) [
      | true ↦ λ h.
          let here : s ≡ x = same_is s x h in
          subst (λ a. is_listed a xs ≡ is_listed a ys) (sym here) (unlisted_below x xs below_x ∙ sym (subst (λ a. is_listed a ys ≡ false) (sym e) (unlisted_below y ys below_y)))
      | false ↦ λ h. sym (listed_behind s x xs h) ∙ same ∙ listed_behind s y ys (subst (λ a. same_address s a ≡ false) e h)
    ] refl

-- two such lists that hold the same of the addresses of a kind, and hold no others, are one
pub same_lists : (Kind : List ℕ → Type 0) (xs ys : List (List ℕ)) → AreAscending xs → AreAscending ys → AllByRecursion Kind xs → AllByRecursion Kind ys
    → ((s : List ℕ) → Kind s → is_listed s xs ≡ is_listed s ys) → xs ≡ ys
unfolding IsStrictlySortedBy
same_lists Kind [] [] up_x up_y are_x are_y same = refl
same_lists Kind [] (y ∷ ys) up_x up_y are_x are_y same = absurd (false≢true (same y are_y.0 ∙ listed_first y ys))
same_lists Kind (x ∷ xs) [] up_x up_y are_x are_y same = absurd (false≢true (sym (same x are_x.0) ∙ listed_first x xs))
same_lists Kind (x ∷ xs) (y ∷ ys) up_x up_y are_x are_y same =
    elim (slice_cmp nat_cmp x y) as (λ r. slice_cmp nat_cmp x y ≡ r → x ∷ xs ≡ y ∷ ys) [
      | Less ↦ λ e. absurd (false≢true (sym (unlisted_before x y ys e up_y.0) ∙ sym (same x are_x.0) ∙ listed_first x xs))
      | Equal ↦ λ e.
          let head = equal_is x y e in
          let tail = same_lists Kind xs ys up_x.1 up_y.1 are_x.1 are_y.1 (λ s is. same_tails s x y xs ys head up_x.0 up_y.0 (same s is)) in
          λ i. head i ∷ tail i
      | Greater ↦ λ e. absurd (false≢true (sym (unlisted_before y x xs (greater_less x y e) up_x.0) ∙ same y are_y.0 ∙ listed_first y ys))
    ] refl
