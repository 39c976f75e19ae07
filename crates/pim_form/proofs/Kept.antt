-- A form as it is kept: its first group, and then the others; and the group at a place.
use Rattle.pim_form.proofs.Words.{◌≡◌, ◌∙◌, ℕ, zero, suc, ◌<◌, Bool, true, false, ◌||◌, List, [], ◌∷◌, length, map, get_or, refl}
use Rattle.pim_form.proofs.Words.{sym, ap, subst, arith, Less, AllByRecursion, IsStrictlySortedBy, nat_cmp, slice_cmp}
use Rattle.pim_form.proofs.Words.{AddressFamily, GroupPlace, Tree, GroupForm, AreAscending, same_address, is_listed, groups_of}
use Rattle.pim_form.proofs.Words.{IsNormalGroup, group_wants, form_wants, place_group, place_seen, form_seen, IsKept}
use Rattle.pim_form.proofs.Addresses.{less_apart_back}
use Rattle.pim_form.proofs.OneForm.{at_first, of_others}

pub all_at : {A : Type 0} (P : A → Type 0) (xs : List A) → AllByRecursion P xs → (i : ℕ) (d : A) → i < length xs → P (get_or xs i d)
all_at P [] all i d below = absurd (omega arith)
all_at P (x ∷ xs) all zero d below = all.0
all_at P (x ∷ xs) all (suc i) d below = all_at P xs all.1 i d (omega arith)

unlisted_form : (form : List GroupForm) (s group : List ℕ) (tree : Tree) → is_listed group (groups_of form) ≡ false → form_wants form s group tree ≡ false
unlisted_form [] s group tree none = refl
unlisted_form (a ∷ form) s group tree none =
    let parts = both (same_address group a.group) (is_listed group (groups_of form)) none in
    rw parts.0 (unlisted_form form s group tree parts.1)
  where
    both : (p q : Bool) → (p || q) ≡ false → (p ≡ false) × (q ≡ false)
    both true q h = absurd cc
    both false q h = (refl, h)

below_at : (a : List ℕ) (form : List GroupForm) → AllByRecursion (λ g. slice_cmp nat_cmp a g ≡ Less) (groups_of form) → (i : ℕ) (d : GroupForm) → i < length form → slice_cmp nat_cmp a (get_or form i d).group ≡ Less
below_at a [] below i d less = absurd (omega arith)
below_at a (x ∷ form) below zero d less = below.0
below_at a (x ∷ form) below (suc i) d less = below_at a form below.1 i d (omega arith)

wants_at : (form : List GroupForm) → AreAscending (groups_of form) → (i : ℕ) (d : GroupForm) → i < length form → (s : List ℕ) (tree : Tree)
    → form_wants form s (get_or form i d).group tree ≡ group_wants (get_or form i d) s tree
unfolding IsStrictlySortedBy
wants_at [] up i d below s tree = absurd (omega arith)
wants_at (a ∷ form) up zero d below s tree = at_first a form s tree up.0
wants_at (a ∷ form) up (suc i) d below s tree =
    let inside : i < length form = omega arith in
    let less = below_at a.group form up.0 i d inside in
    of_others a form s (get_or form i d).group tree (less_apart_back a.group (get_or form i d).group less) ∙ wants_at form up.1 i d inside s tree

module _ {A : Type 0} (bytes_of : A → List ℕ) (row : List A) where
  pub form_first : (place : GroupPlace A) (places : List (GroupPlace A)) → form_seen bytes_of row (place ∷ places) ≡ place_seen bytes_of row place ∷ form_seen bytes_of row places
  form_first place places = refl

  pub places_count : (places : List (GroupPlace A)) → length (form_seen bytes_of row places) ≡ length places
  places_count [] = refl
  places_count (place ∷ places) = ap suc (places_count places)

  pub groups_seen : (places : List (GroupPlace A)) → groups_of (form_seen bytes_of row places) ≡ map (place_group bytes_of) places
  groups_seen [] = refl
  groups_seen (place ∷ places) = ap (λ (gs : List (List ℕ)). place_group bytes_of place ∷ gs) (groups_seen places)

  pub seen_at : (places : List (GroupPlace A)) (i : ℕ) (d : GroupPlace A) → i < length places → get_or (form_seen bytes_of row places) i (place_seen bytes_of row d) ≡ place_seen bytes_of row (get_or places i d)
  seen_at [] i d below = absurd (omega arith)
  seen_at (place ∷ places) zero d below = refl
  seen_at (place ∷ places) (suc i) d below = seen_at places i d (omega arith)

  module _ (family : AddressFamily) (places : List (GroupPlace A)) (kept : IsKept bytes_of family row places) where
    pub ascending : AreAscending (map (place_group bytes_of) places)
    ascending = subst AreAscending (groups_seen places) kept.normal.ascending

    pub normal_at : (i : ℕ) (d : GroupPlace A) → i < length places → IsNormalGroup family (place_seen bytes_of row (get_or places i d))
    normal_at i d below =
        subst (IsNormalGroup family) (seen_at places i d below)
        (all_at (IsNormalGroup family) (form_seen bytes_of row places) kept.normal.groups i (place_seen bytes_of row d) (rw (places_count places) below))

    pub wants_found : (i : ℕ) (d : GroupPlace A) (s group : List ℕ) (tree : Tree) → i < length places → place_group bytes_of (get_or places i d) ≡ group
        → form_wants (form_seen bytes_of row places) s group tree ≡ group_wants (place_seen bytes_of row (get_or places i d)) s tree
    wants_found i d s group tree below is =
        let at = wants_at (form_seen bytes_of row places) kept.normal.ascending i (place_seen bytes_of row d) (rw (places_count places) below) s tree in
        let same = seen_at places i d below in
        subst (λ g. form_wants (form_seen bytes_of row places) s g tree ≡ group_wants (place_seen bytes_of row (get_or places i d)) s tree) is
        (subst (λ (this : GroupForm). form_wants (form_seen bytes_of row places) s this.group tree ≡ group_wants this s tree) same at)

    pub wants_none : (s group : List ℕ) (tree : Tree) → is_listed group (map (place_group bytes_of) places) ≡ false → form_wants (form_seen bytes_of row places) s group tree ≡ false
    wants_none s group tree none = unlisted_form (form_seen bytes_of row places) s group tree (rw (groups_seen places) none)

pub none_kept : {A : Type 0} (bytes_of : A → List ℕ) (row : List A) (family : AddressFamily) (places : List (GroupPlace A)) → places ≡ [] → IsKept bytes_of family row places
unfolding IsStrictlySortedBy
none_kept {A} bytes_of row family places none = subst (IsKept bytes_of family row) (sym none) (record { within = tt; normal = record { ascending = tt; groups = tt } })
