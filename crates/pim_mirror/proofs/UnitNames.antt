-- Which machines units name: a form names those of its units, and in the order of a form no two units name one.
use Rattle.pim_mirror.proofs.Words.{◌≡◌, ◌∙◌, ℕ, Bool, true, false, ◌&&◌, ◌||◌, List, [], ◌∷◌, ◌++◌, Option, None, Some, map}
use Rattle.pim_mirror.proofs.Words.{refl, sym, ap, ap₂, AllByRecursion, list_any, flat_map, false≢true, list_any-append, What}
use Rattle.pim_mirror.proofs.Words.{Star, Source, Rpt, GroupForm, same_address, is_listed, WantUnit, star_unit, source_unit}
use Rattle.pim_mirror.proofs.Words.{star_units, group_units, units_of, group_names, form_names}
use Rattle.pim_mirror.proofs.ListParts.{all_behind}
use Rattle.pim_mirror.proofs.SameAddresses.{same_both, less_apart, first_true, second_true, and_false, or_none, and_or}
use Rattle.pim_mirror.proofs.UnitOrder.{Comes, AreOrdered}

star_names : List (List ℕ) → What (List ℕ) → Bool
star_names exceptions Star = true
star_names exceptions (Source t) = false
star_names exceptions (Rpt t) = is_listed t exceptions

source_names : List ℕ → What (List ℕ) → Bool
source_names source Star = false
source_names source (Source t) = same_address t source
source_names source (Rpt t) = false

abbrev star_part : Option (List (List ℕ)) → What (List ℕ) → Bool
star_part None w = false
star_part (Some exceptions) w = star_names exceptions w

module _ (h : List ℕ) (w : What (List ℕ)) where
  unit_names : WantUnit → Bool
  unit_names (star_unit g exceptions) = same_address h g && star_names exceptions w
  unit_names (source_unit g source) = same_address h g && source_names source w

  pub some_names : List WantUnit → Bool
  some_names units = list_any unit_names units

  names_both : (xs ys : List WantUnit) → some_names (xs ++ ys) ≡ (some_names xs || some_names ys)
  unfolding some_names
  names_both xs ys = list_any-append unit_names xs ys

  -- ---- a form names the machines of its units

  names_star : (g : List ℕ) (star : Option (List (List ℕ))) → some_names (star_units g star) ≡ (same_address h g && star_part star w)
  unfolding some_names unit_names
  names_star g None = sym (and_false (same_address h g))
  names_star g (Some exceptions) = or_none (same_address h g && star_names exceptions w)

  names_sources : (g : List ℕ) (xs : List (List ℕ)) → some_names (map (source_unit g) xs) ≡ (same_address h g && list_any (λ s. source_names s w) xs)
  unfolding some_names unit_names
  names_sources g [] = sym (and_false (same_address h g))
  names_sources g (x ∷ xs) = ap (λ b. (same_address h g && source_names x w) || b) (names_sources g xs) ∙ and_or (same_address h g) (source_names x w) (list_any (λ s. source_names s w) xs)

none_of : (xs : List (List ℕ)) → list_any (λ (x : List ℕ). false) xs ≡ false
none_of [] = refl
none_of (x ∷ xs) = none_of xs

group_part : (star : Option (List (List ℕ))) (xs : List (List ℕ)) (g : List ℕ) (w : What (List ℕ)) →
    (star_part star w || list_any (λ s. source_names s w) xs) ≡ group_names (record { group = g; star = star; sources = xs }) w
unfolding star_names source_names
group_part None xs g Star = none_of xs
group_part None xs g (Source t) = refl
group_part None xs g (Rpt t) = none_of xs
group_part (Some exceptions) xs g Star = refl
group_part (Some exceptions) xs g (Source t) = refl
group_part (Some exceptions) xs g (Rpt t) = ap (λ b. is_listed t exceptions || b) (none_of xs) ∙ or_none (is_listed t exceptions)

no_both : (w : What (List ℕ)) (exceptions : List (List ℕ)) (source : List ℕ) → star_names exceptions w ≡ true → source_names source w ≡ true → ⊥
unfolding star_names source_names
no_both Star exceptions source star listed = false≢true listed
no_both (Source t) exceptions source star listed = false≢true star
no_both (Rpt t) exceptions source star listed = false≢true listed

same_sources : (w : What (List ℕ)) (s t : List ℕ) → source_names s w ≡ true → source_names t w ≡ true → same_address s t ≡ true
unfolding source_names
same_sources Star s t listed again = absurd (false≢true listed)
same_sources (Source u) s t listed again = same_both u s t listed again
same_sources (Rpt u) s t listed again = absurd (false≢true listed)

module _ (h : List ℕ) (w : What (List ℕ)) where
  names_group : (this : GroupForm) → some_names h w (group_units this) ≡ (same_address h this.group && group_names this w)
  names_group this =
      names_both h w (star_units this.group this.star) (map (source_unit this.group) this.sources)
      ∙ ap₂ (λ a b. a || b) (names_star h w this.group this.star) (names_sources h w this.group this.sources)
      ∙ and_or (same_address h this.group) (star_part this.star w) (list_any (λ s. source_names s w) this.sources)
      ∙ ap (λ b. same_address h this.group && b) (group_part this.star this.sources this.group w)

  pub units_name : (form : List GroupForm) → some_names h w (units_of form) ≡ form_names form h w
  unfolding some_names
  units_name [] = refl
  units_name (this ∷ form) = names_both h w (group_units this) (units_of form) ∙ ap₂ (λ a b. a || b) (names_group this) (units_name form)

  -- ---- no two units name one machine

  clash : (one other : WantUnit) → Comes one other → unit_names h w one ≡ true → unit_names h w other ≡ true → ⊥
  unfolding Comes unit_names
  clash (star_unit g e) (star_unit k f) comes listed again =
      false≢true (sym comes ∙ same_both h g k (first_true (same_address h g) (star_names e w) listed) (first_true (same_address h k) (star_names f w) again))
  clash (star_unit g e) (source_unit k t) comes listed again =
      no_both w e t (second_true (same_address h g) (star_names e w) listed) (second_true (same_address h k) (source_names t w) again)
  clash (source_unit g s) (star_unit k f) comes listed again =
      no_both w f s (second_true (same_address h k) (star_names f w) again) (second_true (same_address h g) (source_names s w) listed)
  clash (source_unit g s) (source_unit k t) comes listed again =
      let groups = same_both h g k (first_true (same_address h g) (source_names s w) listed) (first_true (same_address h k) (source_names t w) again) in
      false≢true (sym (less_apart s t (comes groups)) ∙ same_sources w s t (second_true (same_address h g) (source_names s w) listed) (second_true (same_address h k) (source_names t w) again))

  clash_later : (one : WantUnit) (units : List WantUnit) → AllByRecursion (Comes one) units → unit_names h w one ≡ true → some_names h w units ≡ true → ⊥
  unfolding some_names
  clash_later one [] comes listed again = false≢true again
  clash_later one (other ∷ units) comes listed again =
      elim (unit_names h w other) as (λ b. unit_names h w other ≡ b → (b || some_names h w units) ≡ true → ⊥) [
        | true ↦ λ e f. clash one other comes.0 listed e
        | false ↦ λ e f. clash_later one units comes.1 listed f
      ] refl again

  pub clash_lists : (xs ys : List WantUnit) → AreOrdered (xs ++ ys) → some_names h w xs ≡ true → some_names h w ys ≡ true → ⊥
  unfolding some_names AreOrdered
  clash_lists [] ys ordered listed again = false≢true listed
  clash_lists (x ∷ xs) ys ordered listed again =
      elim (unit_names h w x) as (λ b. unit_names h w x ≡ b → (b || some_names h w xs) ≡ true → ⊥) [
        | true ↦ λ e f. clash_later x ys (all_behind (Comes x) xs ys ordered.0) e again
        | false ↦ λ e f. clash_lists xs ys ordered.1 f again
      ] refl listed

  -- ---- parts

  pub parts_name : (parts : List (List GroupForm)) → some_names h w (flat_map units_of parts) ≡ list_any (λ part. form_names part h w) parts
  unfolding some_names
  parts_name [] = refl
  parts_name (part ∷ parts) = names_both h w (units_of part) (flat_map units_of parts) ∙ ap₂ (λ a b. a || b) (units_name part) (parts_name parts)
