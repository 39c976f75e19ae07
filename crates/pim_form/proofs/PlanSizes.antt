-- How many entries units have, and whether a run with one more group fits a message.
use Rattle.pim_form.proofs.Words.{◌≡◌, ℕ, ◌+◌, true, false, List, [], ◌∷◌, ◌++◌, Option, None, Some, length, map, nat_le, refl}
use Rattle.pim_form.proofs.Words.{sym, ap, subst, arith, AllByRecursion, and_from, le-leb, false_from_ne_true, flat_map-append}
use Rattle.pim_form.proofs.Words.{AddressFamily, GroupForm, AreAscending, groups_of, source_unit, star_units, group_units}
use Rattle.pim_form.proofs.Words.{units_of, run_entries, run_groups, run_size, fits, most_groups, HasRoom}
use Rattle.pim_form.proofs.Units.{IsSome, count_groups}
use Rattle.pim_form.proofs.OnePacking.{entries_append, fits_parts}

abbrev pub entries_of_star : Option (List (List ℕ)) → ℕ
entries_of_star None = 0
entries_of_star (Some exceptions) = 1 + length exceptions

entries_of_sources : (group : List ℕ) (sources : List (List ℕ)) → run_entries (map (source_unit group) sources) ≡ length sources
unfolding run_entries
entries_of_sources group [] = refl
entries_of_sources group (x ∷ sources) = omega (arith, entries_of_sources group sources)

entries_of_units : (group : List ℕ) (star : Option (List (List ℕ))) → run_entries (star_units group star) ≡ entries_of_star star
unfolding run_entries
entries_of_units group None = refl
entries_of_units group (Some exceptions) = omega arith

pub group_entries : (this : GroupForm) → run_entries (group_units this) ≡ entries_of_star this.star + length this.sources
group_entries this =
    let whole = entries_append (star_units this.group this.star) (map (source_unit this.group) this.sources) in
    let star = entries_of_units this.group this.star in
    let sources = entries_of_sources this.group this.sources in
    omega arith

pub units_append : (one other : List GroupForm) → units_of (one ++ other) ≡ units_of one ++ units_of other
units_append one other = flat_map-append group_units one other

pub no_entries : run_entries [] ≡ 0
unfolding run_entries
no_entries = refl

pub entries_more : (form : List GroupForm) (this : GroupForm) → run_entries (units_of (form ++ this ∷ [])) ≡ run_entries (units_of form) + (entries_of_star this.star + length this.sources)
entries_more form this =
    let units = ap run_entries (units_append form (this ∷ [])) in
    let front = entries_append (units_of form) (units_of (this ∷ [])) in
    let here = entries_append (group_units this) [] in
    let count = group_entries this in
    let none = no_entries in
    omega arith

module _ (family : AddressFamily) (budget : ℕ) (form : List GroupForm) (up : AreAscending (groups_of form)) (some : AllByRecursion IsSome form) where
  pub fits_by : HasRoom family budget (length form) (run_entries (units_of form)) → fits family budget (units_of form) ≡ true
  fits_by room =
      let groups = count_groups form up some in
      let size : HasRoom family budget (run_groups (units_of form)) (run_entries (units_of form)) =
      subst (λ n. HasRoom family budget n (run_entries (units_of form))) (sym groups) room in
      and_from (nat_le (run_size family (units_of form)) budget) (nat_le (run_groups (units_of form)) most_groups)
      (le-leb (run_size family (units_of form)) budget size.0) (le-leb (run_groups (units_of form)) most_groups size.1)

  pub fits_not : (HasRoom family budget (length form) (run_entries (units_of form)) → ⊥) → fits family budget (units_of form) ≡ false
  fits_not full = false_from_ne_true (fits family budget (units_of form)) (λ h.
      full (subst (λ n. HasRoom family budget n (run_entries (units_of form))) (count_groups form up some) (fits_parts family budget (units_of form) h)))
