-- Parts of a row that meet, and what of a kept form is kept.
use Rattle.std.proofs.Common.{◌≡◌, ◌∙◌, ℕ, ◌+◌, ◌-◌, ◌≤◌, ◌<◌, List, [], ◌∷◌, ◌++◌, length, map, take, drop, refl, sym, ap, subst, arith, length-drop}
use Rattle.pim_form.proofs.Words.{drop-append-le, drop-take, length-take, map-append, take-add, AllByRecursion}
use Rattle.pim_form.proofs.Words.{IsStrictlySortedBy, nat_cmp, Less, slice_cmp, AddressFamily, GroupPlace, AreAscending}
use Rattle.pim_form.proofs.Words.{IsNormalGroup, groups_of, between, IsWithin, place_group, place_seen, form_seen, IsKept}
use Rattle.pim_form.proofs.Lists.{all_append, all_front, all_behind, all_map, all_mapped}
use Rattle.pim_form.proofs.Kept.{ascending}

module _ {A : Type 0} where
  meets_by : (start middle count : ℕ) (row : List A) → start ≤ middle → middle ≤ length row
      → between start (middle + count) row ≡ between start middle row ++ between middle (middle + count) row
  meets_by start middle count row low high =
      let long : start ≤ length (take middle row) = omega (arith, length-take middle row) in
      ap (drop start) (take-add middle count row) ∙ drop-append-le start (take middle row) (take count (drop middle row)) long
      ∙ ap (λ (xs : List A). between start middle row ++ xs) (sym (drop-take middle count row))

  -- two parts that meet are one
  pub meets : (start middle end : ℕ) (row : List A) → start ≤ middle → middle ≤ end → end ≤ length row
      → between start end row ≡ between start middle row ++ between middle end row
  meets start middle end row low high within =
      let e : middle + (end - middle) ≡ end = omega arith in
      subst (λ end. between start end row ≡ between start middle row ++ between middle end row) e (meets_by start middle (end - middle) row low (omega arith))

  pub length-between : (start end : ℕ) (row : List A) → start ≤ end → end ≤ length row → length (between start end row) ≡ end - start
  length-between start end row low within = omega (arith, length-drop start (take end row), length-take end row)

  pub record First (xs : List A) : Type 0 where
    pub first : A
    pub others : List A
    pub is : xs ≡ first ∷ others

  pub first_of : (xs : List A) → 0 < length xs → First xs
  first_of [] some = absurd (omega arith)
  first_of (x ∷ xs) some = record { first = x; others = xs; is = refl }

  pub lone : (xs : List A) (x : A) (others : List A) → xs ≡ x ∷ others → length xs ≡ 1 → xs ≡ x ∷ []
  lone xs x [] is one = is
  lone xs x (y ∷ others) is one = absurd (omega (arith, ap length is))

-- ---- lists of addresses in order

pub ascending_front : (xs ys : List (List ℕ)) → AreAscending (xs ++ ys) → AreAscending xs
unfolding IsStrictlySortedBy
ascending_front [] ys up = tt
ascending_front (x ∷ xs) ys up = (all_front (λ y. slice_cmp nat_cmp x y ≡ Less) xs ys up.0, ascending_front xs ys up.1)

pub ascending_behind : (xs ys : List (List ℕ)) → AreAscending (xs ++ ys) → AreAscending ys
unfolding IsStrictlySortedBy
ascending_behind [] ys up = up
ascending_behind (x ∷ xs) ys up = ascending_behind xs ys up.1

-- ---- places

module _ {A : Type 0} (bytes_of : A → List ℕ) (family : AddressFamily) (row : List A) where
  abbrev pub IsGood : GroupPlace A → Type 0
  IsGood place = IsNormalGroup family (place_seen bytes_of row place)

  pub record Holds (places : List (GroupPlace A)) : Type 0 where
    pub within : AllByRecursion (IsWithin (length row)) places
    pub ascending : AreAscending (map (place_group bytes_of) places)
    pub good : AllByRecursion IsGood places

  seen_groups : (places : List (GroupPlace A)) → map (place_group bytes_of) places ≡ groups_of (form_seen bytes_of row places)
  seen_groups [] = refl
  seen_groups (place ∷ places) = ap (λ (gs : List (List ℕ)). place_group bytes_of place ∷ gs) (seen_groups places)

  pub holds : (places : List (GroupPlace A)) → IsKept bytes_of family row places → Holds places
  holds places kept = record {
    within = kept.within;
    ascending = ascending bytes_of row family places kept;
    good = all_mapped IsGood (IsNormalGroup family) (place_seen bytes_of row) (λ place h. h) places kept.normal.groups;
  }

  pub kept : (places : List (GroupPlace A)) → Holds places → IsKept bytes_of family row places
  kept places are = record {
    within = are.within;
    normal = record {
      ascending = subst AreAscending (seen_groups places) are.ascending;
      groups = all_map IsGood (IsNormalGroup family) (place_seen bytes_of row) (λ place h. h) places are.good;
    };
  }

  pub holds_front : (xs ys : List (GroupPlace A)) → Holds (xs ++ ys) → Holds xs
  holds_front xs ys are = record {
    within = all_front (IsWithin (length row)) xs ys are.within;
    ascending = ascending_front (map (place_group bytes_of) xs) (map (place_group bytes_of) ys)
        (subst AreAscending (map-append (place_group bytes_of) xs ys) are.ascending);
    good = all_front IsGood xs ys are.good;
  }

  pub holds_behind : (xs ys : List (GroupPlace A)) → Holds (xs ++ ys) → Holds ys
  holds_behind xs ys are = record {
    within = all_behind (IsWithin (length row)) xs ys are.within;
    ascending = ascending_behind (map (place_group bytes_of) xs) (map (place_group bytes_of) ys)
        (subst AreAscending (map-append (place_group bytes_of) xs ys) are.ascending);
    good = all_behind IsGood xs ys are.good;
  }

  -- a piece of the same group in the place of another
  pub holds_with : (xs ys : List (GroupPlace A)) (p q : GroupPlace A) → Holds (xs ++ p ∷ ys) → place_group bytes_of p ≡ place_group bytes_of q → IsWithin (length row) q → IsGood q
      → Holds (xs ++ q ∷ ys)
  holds_with xs ys p q are same within good =
      let behind = holds_behind xs (p ∷ ys) are in
      let front = holds_front xs (p ∷ ys) are in
      let groups : map (place_group bytes_of) (xs ++ p ∷ ys) ≡ map (place_group bytes_of) (xs ++ q ∷ ys) =
      map-append (place_group bytes_of) xs (p ∷ ys)
      ∙ ap (λ (g : List ℕ). map (place_group bytes_of) xs ++ g ∷ map (place_group bytes_of) ys) same
      ∙ sym (map-append (place_group bytes_of) xs (q ∷ ys)) in
      record {
        within = all_append (IsWithin (length row)) xs (q ∷ ys) front.within (within, behind.within.1);
        ascending = subst AreAscending groups are.ascending;
        good = all_append IsGood xs (q ∷ ys) front.good (good, behind.good.1);
      }
