-- A form that is being made, and what is still to come.
use Rattle.pim_form.proofs.Words.{◌≡◌, ◌∙◌, ℕ, List, [], ◌∷◌, ◌++◌, length, refl, sym, ap, subst, Less, Equal, Greater}
use Rattle.pim_form.proofs.Words.{AllByRecursion, nat_cmp, slice_cmp, AddressFamily, GroupPlace, GroupForm, IsNormal}
use Rattle.pim_form.proofs.Words.{IsWithin, place_seen, form_seen, AreKept, IsKept, IsDraft, by_order, merged_into}
use Rattle.pim_form.proofs.Words.{merged_by, group_of, both_groups, merged}
use Rattle.std.proofs.lemmas.List.{append_assoc, append-nil, nil_from_length}
use Rattle.pim_form.proofs.Merged.{merged_none}

-- ---- one step over two lists

module _ {B : Type 0} (address_of : B → List ℕ) (both : B → B → B) (one' other' : List B) (x y : B) where
  of_first : slice_cmp nat_cmp (address_of x) (address_of y) ≡ Less → merged_by address_of both (x ∷ one') (y ∷ other') ≡ x ∷ merged_by address_of both one' (y ∷ other')
  unfolding merged_by merged_into
  of_first e = ap (λ r. by_order r (x ∷ merged_by address_of both one' (y ∷ other')) (both x y ∷ merged_by address_of both one' other') (y ∷ merged_into address_of both x (merged_by address_of both one') other')) e

  of_both : slice_cmp nat_cmp (address_of x) (address_of y) ≡ Equal → merged_by address_of both (x ∷ one') (y ∷ other') ≡ both x y ∷ merged_by address_of both one' other'
  unfolding merged_by merged_into
  of_both e = ap (λ r. by_order r (x ∷ merged_by address_of both one' (y ∷ other')) (both x y ∷ merged_by address_of both one' other') (y ∷ merged_into address_of both x (merged_by address_of both one') other')) e

  of_second : slice_cmp nat_cmp (address_of x) (address_of y) ≡ Greater → merged_by address_of both (x ∷ one') (y ∷ other') ≡ y ∷ merged_by address_of both (x ∷ one') other'
  unfolding merged_by merged_into
  of_second e = ap (λ r. by_order r (x ∷ merged_by address_of both one' (y ∷ other')) (both x y ∷ merged_by address_of both one' other') (y ∷ merged_into address_of both x (merged_by address_of both one') other')) e

-- ---- what is still to come

module _ {A : Type 0} (bytes_of : A → List ℕ) where
  -- the groups that are there and those still to come are all
  pub record IsRest (row : List A) (places : List (GroupPlace A)) (left all : List GroupForm) : Type 0 where
    pub within : AllByRecursion (IsWithin (length row)) places
    pub so_far : form_seen bytes_of row places ++ left ≡ all

  -- a group was appended
  abbrev pub Adds : List A → List A → List (GroupPlace A) → List (GroupPlace A) → GroupForm → Type 0
  Adds row row' places places' this = (form : List GroupForm) → IsDraft bytes_of row places form → IsDraft bytes_of row' places' (form ++ this ∷ [])

  pub rest_step : (row row' : List A) (places places' : List (GroupPlace A)) (this : GroupForm) (left all : List GroupForm) → Adds row row' places places' this → IsRest row places (this ∷ left) all → IsRest row' places' left all
  rest_step row row' places places' this left all adds rest =
      let draft = adds (form_seen bytes_of row places) (record { within = rest.within; seen = refl }) in
      record { within = draft.within; so_far = ap (λ (form : List GroupForm). form ++ left) draft.seen ∙ append_assoc (form_seen bytes_of row places) (this ∷ []) left ∙ rest.so_far }

  pub draft_of_rest : (row : List A) (places : List (GroupPlace A)) (left all : List GroupForm) → left ≡ [] → IsRest row places left all → IsDraft bytes_of row places all
  draft_of_rest row places left all none rest =
      record { within = rest.within; seen = sym (append-nil (form_seen bytes_of row places)) ∙ ap (λ (l : List GroupForm). form_seen bytes_of row places ++ l) (sym none) ∙ rest.so_far }

  -- ---- two forms

  pub record IsMerging (family : AddressFamily) (row_one row_other : List A) (left right : List (GroupPlace A)) (row : List A) (places : List (GroupPlace A)) (all : List GroupForm) : Type 0 where
    pub one : AreKept bytes_of family row_one left
    pub other : AreKept bytes_of family row_other right
    pub rest : IsRest row places (merged (form_seen bytes_of row_one left) (form_seen bytes_of row_other right)) all

  module _ (family : AddressFamily) (row_one row_other : List A) where
    kept_behind : (row : List A) (left left' : List (GroupPlace A)) (a : GroupPlace A) → left ≡ a ∷ left' → AreKept bytes_of family row left → AreKept bytes_of family row left'
    kept_behind row left left' a is kept = let kept' : AreKept bytes_of family row (a ∷ left') = subst (AreKept bytes_of family row) is kept in (kept'.0.1, kept'.1.1)

    module _ (left left' right right' : List (GroupPlace A)) (a b : GroupPlace A) (row row' : List A) (places places' : List (GroupPlace A)) (all : List GroupForm) (is_left : left ≡ a ∷ left') (is_right : right ≡ b ∷ right') (merging : IsMerging family row_one row_other left right row places all) where
      opened : IsRest row places (merged (form_seen bytes_of row_one (a ∷ left')) (form_seen bytes_of row_other (b ∷ right'))) all
      opened = subst (λ l. IsRest row places (merged (form_seen bytes_of row_one (a ∷ left')) (form_seen bytes_of row_other l)) all) is_right (subst (λ l. IsRest row places (merged (form_seen bytes_of row_one l) (form_seen bytes_of row_other right)) all) is_left merging.rest)

      pub merge_less : slice_cmp nat_cmp (bytes_of a.group) (bytes_of b.group) ≡ Less → Adds row row' places places' (place_seen bytes_of row_one a) → IsMerging family row_one row_other left' right row' places' all
      merge_less less adds = record {
        one = kept_behind row_one left left' a is_left merging.one;
        other = merging.other;
        rest = subst (λ l. IsRest row' places' (merged (form_seen bytes_of row_one left') (form_seen bytes_of row_other l)) all) (sym is_right)
            (rest_step row row' places places' (place_seen bytes_of row_one a) _ all adds
            (subst (λ l. IsRest row places l all) (of_first group_of both_groups (form_seen bytes_of row_one left') (form_seen bytes_of row_other right') (place_seen bytes_of row_one a) (place_seen bytes_of row_other b) less) opened));
      }

      pub merge_equal : slice_cmp nat_cmp (bytes_of a.group) (bytes_of b.group) ≡ Equal → Adds row row' places places' (both_groups (place_seen bytes_of row_one a) (place_seen bytes_of row_other b)) → IsMerging family row_one row_other left' right' row' places' all
      merge_equal equal adds = record {
        one = kept_behind row_one left left' a is_left merging.one;
        other = kept_behind row_other right right' b is_right merging.other;
        rest = rest_step row row' places places' (both_groups (place_seen bytes_of row_one a) (place_seen bytes_of row_other b)) _ all adds
            (subst (λ l. IsRest row places l all) (of_both group_of both_groups (form_seen bytes_of row_one left') (form_seen bytes_of row_other right') (place_seen bytes_of row_one a) (place_seen bytes_of row_other b) equal) opened);
      }

      pub merge_greater : slice_cmp nat_cmp (bytes_of a.group) (bytes_of b.group) ≡ Greater → Adds row row' places places' (place_seen bytes_of row_other b) → IsMerging family row_one row_other left right' row' places' all
      merge_greater greater adds = record {
        one = merging.one;
        other = kept_behind row_other right right' b is_right merging.other;
        rest = subst (λ l. IsRest row' places' (merged (form_seen bytes_of row_one l) (form_seen bytes_of row_other right')) all) (sym is_left)
            (rest_step row row' places places' (place_seen bytes_of row_other b) _ all adds
            (subst (λ l. IsRest row places l all) (of_second group_of both_groups (form_seen bytes_of row_one left') (form_seen bytes_of row_other right') (place_seen bytes_of row_one a) (place_seen bytes_of row_other b) greater) opened));
      }

    -- one of the two has ended, and the groups that are left of each are appended
    module _ (left right : List (GroupPlace A)) (row row' row'' : List A) (places places' places'' : List (GroupPlace A)) (all : List GroupForm)
        (first : (form : List GroupForm) → IsDraft bytes_of row places form → IsDraft bytes_of row' places' (form ++ form_seen bytes_of row_one left))
        (second : (form : List GroupForm) → IsDraft bytes_of row' places' form → IsDraft bytes_of row'' places'' (form ++ form_seen bytes_of row_other right))
        (merging : IsMerging family row_one row_other left right row places all) where
      both_appended : IsDraft bytes_of row'' places'' ((form_seen bytes_of row places ++ form_seen bytes_of row_one left) ++ form_seen bytes_of row_other right)
      both_appended = second _ (first (form_seen bytes_of row places) (record { within = merging.rest.within; seen = refl }))

      pub merged_first : length left ≡ 0 → IsDraft bytes_of row'' places'' all
      unfolding merged_by
      merged_first none =
          let empty : left ≡ [] = nil_from_length left none in
          let here : form_seen bytes_of row places ++ form_seen bytes_of row_other right ≡ all = subst (λ l. form_seen bytes_of row places ++ merged (form_seen bytes_of row_one l) (form_seen bytes_of row_other right) ≡ all) empty merging.rest.so_far in
          subst (IsDraft bytes_of row'' places'')
          (ap (λ (l : List (GroupPlace A)). (form_seen bytes_of row places ++ form_seen bytes_of row_one l) ++ form_seen bytes_of row_other right) empty
          ∙ ap (λ (f : List GroupForm). f ++ form_seen bytes_of row_other right) (append-nil (form_seen bytes_of row places)) ∙ here) both_appended

      pub merged_second : length right ≡ 0 → IsDraft bytes_of row'' places'' all
      merged_second none =
          let empty : right ≡ [] = nil_from_length right none in
          let here : form_seen bytes_of row places ++ form_seen bytes_of row_one left ≡ all =
          ap (λ (l : List GroupForm). form_seen bytes_of row places ++ l) (sym (merged_none group_of both_groups (form_seen bytes_of row_one left)))
          ∙ subst (λ l. form_seen bytes_of row places ++ merged (form_seen bytes_of row_one left) (form_seen bytes_of row_other l) ≡ all) empty merging.rest.so_far in
          subst (IsDraft bytes_of row'' places'')
          (ap (λ (l : List (GroupPlace A)). (form_seen bytes_of row places ++ form_seen bytes_of row_one left) ++ form_seen bytes_of row_other l) empty
          ∙ append-nil (form_seen bytes_of row places ++ form_seen bytes_of row_one left) ∙ here) both_appended

  -- ---- forms that are kept

  pub starts : (family : AddressFamily) (row_one row_other : List A) (left right : List (GroupPlace A)) (row : List A) (places : List (GroupPlace A)) →
      IsKept bytes_of family row_one left → IsKept bytes_of family row_other right → places ≡ [] →
      IsMerging family row_one row_other left right row places (merged (form_seen bytes_of row_one left) (form_seen bytes_of row_other right))
  starts family row_one row_other left right row places is_one is_other none = record {
    one = (is_one.within, is_one.normal.groups);
    other = (is_other.within, is_other.normal.groups);
    rest = subst (λ p. IsRest row p (merged (form_seen bytes_of row_one left) (form_seen bytes_of row_other right)) (merged (form_seen bytes_of row_one left) (form_seen bytes_of row_other right))) (sym none) (record { within = tt; so_far = refl });
  }

  pub kept_of_draft : (family : AddressFamily) (row : List A) (places : List (GroupPlace A)) (form : List GroupForm) → IsDraft bytes_of row places form → IsNormal family form → IsKept bytes_of family row places
  kept_of_draft family row places form draft normal = record { within = draft.within; normal = subst (IsNormal family) (sym draft.seen) normal }
