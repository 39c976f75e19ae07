-- One step of a walk over two lists in order.
use Rattle.pim_form.proofs.Words.{◌≡◌, ◌∙◌, ℕ, List, [], ◌∷◌, ◌++◌, length, map, refl, sym, ap, subst, Less, Equal, Greater}
use Rattle.pim_form.proofs.Words.{nat_cmp, slice_cmp, by_order, merged_into, merged_by, common, IsStrictlySortedBy, AreAscending}
use Rattle.std.proofs.lemmas.List.{append_assoc, append-nil, nil_from_length}
use Rattle.pim_form.proofs.Merged.{merged_none, common_none, common_below, common_above, common_both}

module _ {A B : Type 0} (address_of : B → List ℕ) (both : B → B → B) (f : A → B) where
  abbrev Merges : List A → List A → List A → List B → Type 0
  Merges row one other all = map f row ++ merged_by address_of both (map f one) (map f other) ≡ all

  map_append : (xs ys : List A) → map f (xs ++ ys) ≡ map f xs ++ map f ys
  map_append [] ys = refl
  map_append (x ∷ xs) ys = ap (λ (zs : List B). f x ∷ zs) (map_append xs ys)

  more : (row row' : List A) (x : A) (rest : List B) → row' ≡ row ++ x ∷ [] → map f row' ++ rest ≡ map f row ++ f x ∷ rest
  more row row' x rest is = ap (λ (r : List A). map f r ++ rest) is ∙ ap (λ (r : List B). r ++ rest) (map_append row (x ∷ [])) ∙ append_assoc (map f row) (f x ∷ []) rest

  pub first_none : (row one other : List A) (all : List B) → one ≡ [] → Merges row one other all → map f row ++ map f other ≡ all
  unfolding merged_by
  first_none row one other all none so_far = subst (λ o. Merges row o other all) none so_far

  pub second_none : (row one other : List A) (all : List B) → other ≡ [] → Merges row one other all → map f row ++ map f one ≡ all
  second_none row one other all none so_far = ap (λ (o : List B). map f row ++ o) (sym (merged_none address_of both (map f one))) ∙ subst (λ o. Merges row one o all) none so_far

  append_none : (xs : List A) → xs ++ [] ≡ xs
  append_none [] = refl
  append_none (x ∷ xs) = ap (λ (zs : List A). x ∷ zs) (append_none xs)

  -- where one of the lists has ended, the others are appended
  pub ended_first : (row row' row'' one other : List A) (all : List B) → length one ≡ 0 → row' ≡ row ++ one → Merges row one other all → row'' ≡ row' ++ other → map f row'' ≡ all
  ended_first row row' row'' one other all none is so_far is' =
      let empty = nil_from_length one none in
      let same : row' ≡ row = is ∙ ap (λ (xs : List A). row ++ xs) empty ∙ append_none row in
      ap (map f) is' ∙ ap (λ (r : List A). map f (r ++ other)) same ∙ map_append row other ∙ first_none row one other all empty so_far

  pub ended_second : (row row' row'' one other : List A) (all : List B) → length other ≡ 0 → row' ≡ row ++ one → Merges row one other all → row'' ≡ row' ++ other → map f row'' ≡ all
  ended_second row row' row'' one other all none is so_far is' =
      let empty = nil_from_length other none in
      let same : row'' ≡ row' = is' ∙ ap (λ (xs : List A). row' ++ xs) empty ∙ append_none row' in
      ap (map f) same ∙ ap (map f) is ∙ map_append row one ∙ second_none row one other all empty so_far

  module _ (row row' one one' other other' : List A) (x y : A) (all : List B) (is_one : one ≡ x ∷ one') (is_other : other ≡ y ∷ other') where
    opened : Merges row one other all → map f row ++ by_order (slice_cmp nat_cmp (address_of (f x)) (address_of (f y))) (f x ∷ merged_by address_of both (map f one') (f y ∷ map f other')) (both (f x) (f y) ∷ merged_by address_of both (map f one') (map f other')) (f y ∷ merged_into address_of both (f x) (merged_by address_of both (map f one')) (map f other')) ≡ all
    unfolding merged_by merged_into
    opened so_far = subst (λ o. Merges row (x ∷ one') o all) is_other (subst (λ o. Merges row o other all) is_one so_far)

    pub step_less : slice_cmp nat_cmp (address_of (f x)) (address_of (f y)) ≡ Less → row' ≡ row ++ x ∷ [] → Merges row one other all → Merges row' one' other all
    step_less less is so_far =
        subst (λ (o : List A). Merges row' one' o all) (sym is_other)
        (more row row' x (merged_by address_of both (map f one') (map f (y ∷ other'))) is
        ∙ subst (λ r. map f row ++ by_order r (f x ∷ merged_by address_of both (map f one') (f y ∷ map f other')) (both (f x) (f y) ∷ merged_by address_of both (map f one') (map f other')) (f y ∷ merged_into address_of both (f x) (merged_by address_of both (map f one')) (map f other')) ≡ all) less (opened so_far))

    pub step_greater : slice_cmp nat_cmp (address_of (f x)) (address_of (f y)) ≡ Greater → row' ≡ row ++ y ∷ [] → Merges row one other all → Merges row' one other' all
    unfolding merged_by
    step_greater greater is so_far =
        subst (λ (o : List A). Merges row' o other' all) (sym is_one)
        (more row row' y (merged_by address_of both (map f (x ∷ one')) (map f other')) is
        ∙ subst (λ r. map f row ++ by_order r (f x ∷ merged_by address_of both (map f one') (f y ∷ map f other')) (both (f x) (f y) ∷ merged_by address_of both (map f one') (map f other')) (f y ∷ merged_into address_of both (f x) (merged_by address_of both (map f one')) (map f other')) ≡ all) greater (opened so_far))

    -- `both` of the two is the first one
    pub step_equal : slice_cmp nat_cmp (address_of (f x)) (address_of (f y)) ≡ Equal → both (f x) (f y) ≡ f x → row' ≡ row ++ x ∷ [] → Merges row one other all → Merges row' one' other' all
    step_equal equal first is so_far =
        more row row' x (merged_by address_of both (map f one') (map f other')) is
        ∙ ap (λ b. map f row ++ b ∷ merged_by address_of both (map f one') (map f other')) (sym first)
        ∙ subst (λ r. map f row ++ by_order r (f x ∷ merged_by address_of both (map f one') (f y ∷ map f other')) (both (f x) (f y) ∷ merged_by address_of both (map f one') (map f other')) (f y ∷ merged_into address_of both (f x) (merged_by address_of both (map f one')) (map f other')) ≡ all) equal (opened so_far)

-- ---- what is in both lists

module _ {A : Type 0} (f : A → List ℕ) where
  -- what was appended and what is still to be told is all
  pub record IsMeeting (row one other : List A) (all : List (List ℕ)) : Type 0 where
    pub first : AreAscending (map f one)
    pub second : AreAscending (map f other)
    pub so_far : map f row ++ common (map f one) (map f other) ≡ all

  pub met_second : (row one other : List A) (all : List (List ℕ)) → length other ≡ 0 → IsMeeting row one other all → map f row ≡ all
  met_second row one other all none meets =
      let empty = nil_from_length other none in
      sym (append-nil (map f row)) ∙ ap (λ (zs : List (List ℕ)). map f row ++ zs) (sym (common_none (map f one))) ∙ subst (λ o. map f row ++ common (map f one) (map f o) ≡ all) empty meets.so_far

  module _ (row row' one one' other other' : List A) (x y : A) (all : List (List ℕ)) (is_one : one ≡ x ∷ one') (is_other : other ≡ y ∷ other') (meets : IsMeeting row one other all) where
    up_one : AreAscending (map f (x ∷ one'))
    up_one = subst (λ o. AreAscending (map f o)) is_one meets.first

    up_other : AreAscending (map f (y ∷ other'))
    up_other = subst (λ o. AreAscending (map f o)) is_other meets.second

    opened_both : map f row ++ common (map f (x ∷ one')) (map f (y ∷ other')) ≡ all
    opened_both = subst (λ o. map f row ++ common (map f (x ∷ one')) (map f o) ≡ all) is_other (subst (λ o. map f row ++ common (map f o) (map f other) ≡ all) is_one meets.so_far)

    pub meet_less : slice_cmp nat_cmp (f x) (f y) ≡ Less → IsMeeting row one' other all
    unfolding IsStrictlySortedBy
    meet_less less = record {
      first = up_one.1;
      second = meets.second;
      so_far = subst (λ o. map f row ++ common (map f one') (map f o) ≡ all) (sym is_other)
          (ap (λ (zs : List (List ℕ)). map f row ++ zs) (sym (common_below (f x) (f y) (map f one') (map f other') less up_other)) ∙ opened_both);
    }

    pub meet_greater : slice_cmp nat_cmp (f x) (f y) ≡ Greater → IsMeeting row one other' all
    unfolding IsStrictlySortedBy
    meet_greater greater = record {
      first = meets.first;
      second = up_other.1;
      so_far = subst (λ o. map f row ++ common (map f o) (map f other') ≡ all) (sym is_one)
          (ap (λ (zs : List (List ℕ)). map f row ++ zs) (sym (common_above (f x) (f y) (map f one') (map f other') greater up_one)) ∙ opened_both);
    }

    pub meet_equal : slice_cmp nat_cmp (f x) (f y) ≡ Equal → row' ≡ row ++ x ∷ [] → IsMeeting row' one' other' all
    unfolding IsStrictlySortedBy
    meet_equal equal is = record {
      first = up_one.1;
      second = up_other.1;
      so_far = more {B = List ℕ} (λ a. a) (λ a b. a) f row row' x (common (map f one') (map f other')) is
          ∙ ap (λ (zs : List (List ℕ)). map f row ++ zs) (sym (common_both (f x) (f y) (map f one') (map f other') equal up_one)) ∙ opened_both;
    }
