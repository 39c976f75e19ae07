-- What of a group comes next behind a place in a form.
use Rattle.pim_emit.proofs.Words.{◌≡◌, ◌∙◌, ℕ, Bool, true, false, List, [], ◌∷◌, ◌++◌, Option, None, Some, map, refl}
use Rattle.pim_emit.proofs.Words.{sym, ap, subst, if◌then◌else◌, is_some, AddressFamily, IsGroupAddress, is_above}
use Rattle.pim_emit.proofs.Words.{GroupForm, IsNormal, IsNormalGroup, groups_of, is_empty, group_in, group_units}
use Rattle.pim_emit.proofs.Words.{units_of, source_unit, Position, Start, Within, Behind, above, next_above, star_of}
use Rattle.pim_emit.proofs.Words.{sources_in, groups_above, left_at, is_past, piece_form, IsPiece, IsNextPiece}
use Rattle.pim_emit.proofs.Above.{above_none, above_first, next_group, next_group_holds, no_next_group}
use Rattle.pim_emit.proofs.InForm.{group_named, sources_ascend}

-- ---- a place between groups

-- behind the place are the groups above this bound
pub record IsBetween (position : Position (List ℕ)) (bound : Option (List ℕ)) (form : List GroupForm) : Type 0 where
  pub units : units_of (left_at position form) ≡ units_of (groups_above bound form)
  pub past : (group : List ℕ) → is_above bound group ≡ true → is_past position group ≡ true

pub all_groups : (form : List GroupForm) → groups_above None form ≡ form
all_groups [] = refl
all_groups (this ∷ form) = ap (λ l. this ∷ l) (all_groups form)

all_above : (xs : List (List ℕ)) → above None xs ≡ xs
all_above [] = refl
all_above (x ∷ xs) = ap (λ l. x ∷ l) (all_above xs)

pub between_start : (form : List GroupForm) → IsBetween Start None form
between_start form = record { units = ap units_of (sym (all_groups form)); past = λ group over. refl }

pub between_behind : (group : List ℕ) (form : List GroupForm) → IsBetween (Behind group) (Some group) form
between_behind group form = record { units = refl; past = λ g over. over }

-- within a group of which no source is left
pub between_within : (group : List ℕ) (from : Option (List ℕ)) (form : List GroupForm) → next_above from (sources_in group form) ≡ None → IsBetween (Within group from) (Some group) form
between_within group from form none =
    let empty = above_none from (sources_in group form) none in
    record {
      units = ap (λ l. map (source_unit (group_in group form).group) l ++ units_of (groups_above (Some group) form)) empty;
      past = λ g over. refl;
    }

-- ---- the next group

whole_star : (starred : Bool) (star : Option (List (List ℕ))) → starred ≡ is_some star → (if starred then star else None) ≡ star
whole_star true star e = refl
whole_star false None e = refl
whole_star false (Some xs) e = absurd cc

pub group_piece : (family : AddressFamily) (position : Position (List ℕ)) (bound : Option (List ℕ)) (form : List GroupForm) (group : List ℕ) (starred : Bool) → IsNormal family form → IsBetween position bound form
    → next_above bound (groups_of form) ≡ Some group → starred ≡ is_some (star_of group form) → IsPiece family position form (record { group = group; starred = starred; from = None })
group_piece family position bound form group starred normal between found star =
    let next = next_group bound form group normal.ascending found in
    let is : IsNormalGroup family (group_in group form) = next_group_holds (IsNormalGroup family) bound form group normal.ascending normal.groups found in
    let whole : piece_form (record { group = group; starred = starred; from = None }) form ≡ group_in group form =
    λ i. record { group = sym next.named i; star = whole_star starred (star_of group form) star i; sources = all_above (sources_in group form) i } in
    record {
      group = subst (IsGroupAddress family) next.named is.group;
      star = λ e. sym star ∙ e;
      some = subst (λ (this : GroupForm). is_empty this.star this.sources ≡ false) (sym whole) is.some;
      past = between.past group next.over;
      units = between.units ∙ ap units_of next.first ∙ ap (λ (this : GroupForm). group_units this ++ units_of (groups_above (Some group) form)) (sym whole);
    }

pub no_piece : (family : AddressFamily) (position : Position (List ℕ)) (bound : Option (List ℕ)) (form : List GroupForm) → IsBetween position bound form → next_above bound (groups_of form) ≡ None
    → IsNextPiece family position form None
no_piece family position bound form between none = between.units ∙ ap units_of (no_next_group bound form none)

-- ---- what is left of a group

not_empty : (group source : List ℕ) (rest sources : List (List ℕ)) → sources ≡ source ∷ rest → is_empty None sources ≡ false
not_empty group source rest sources is = ap (is_empty None) is

pub rest_piece : (family : AddressFamily) (group : List ℕ) (from : Option (List ℕ)) (form : List GroupForm) → IsNormal family form → IsGroupAddress family group → is_some (next_above from (sources_in group form)) ≡ true
    → IsPiece family (Within group from) form (record { group = group; starred = false; from = from })
rest_piece family group from form normal is_group some = by (next_above from (sources_in group form)) refl some
  where
    by : (r : Option (List ℕ)) → next_above from (sources_in group form) ≡ r → is_some r ≡ true → IsPiece family (Within group from) form (record { group = group; starred = false; from = from })
    by None e h = absurd cc
    by (Some source) e h =
        let first = above_first from (sources_in group form) source (sources_ascend family group form normal) e in
        record {
          group = is_group;
          star = λ f. absurd cc;
          some = not_empty group source (above (Some source) (sources_in group form)) (above from (sources_in group form)) first;
          past = refl;
          units = ap (λ (g : List ℕ). map (source_unit g) (above from (sources_in group form)) ++ units_of (groups_above (Some group) form)) (group_named group form);
        }

-- behind this place are the groups above the bound, if the branch that was taken is so
pub at_position : {position place : Position (List ℕ)} {bound here : Option (List ℕ)} (form : List GroupForm) → position ≡ place → bound ≡ here → IsBetween place here form → IsBetween position bound form
at_position {position} {place} {bound} {here} form places bounds between = subst (λ p. IsBetween p bound form) (sym places) (subst (λ b. IsBetween place b form) (sym bounds) between)

pub none_there : {A : Type 0} (o : Option A) → is_some o ≡ false → o ≡ None
none_there None none = refl
none_there (Some a) none = absurd cc
