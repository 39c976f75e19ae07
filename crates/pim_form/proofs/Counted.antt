-- How many entries the groups of a part have.
use Rattle.pim_form.proofs.Words.{◌≡◌, ◌∙◌, ℕ, ◌+◌, ◌<◌, ◌^◌, List, [], ◌∷◌, Option, None, Some, Bool, is_some, length}
use Rattle.pim_form.proofs.Words.{map, ap, arith, from_bool, GroupForm, exceptions_of, source_unit, star_units}
use Rattle.pim_form.proofs.Words.{group_units, units_of, run_entries}
use Rattle.pim_form.proofs.OnePacking.{entries_append}
use Rattle.pim_form.proofs.Spelled.{sources_entries}

star_entries_counted : (group : List ℕ) (star : Option (List (List ℕ))) (has : Bool) (count : ℕ) → has ≡ is_some star → count ≡ from_bool has → run_entries (star_units group star) ≡ count + length (exceptions_of star)
unfolding run_entries
star_entries_counted group None has count same counts = omega (arith, counts ∙ ap from_bool same)
star_entries_counted group (Some exceptions) has count same counts = omega (arith, counts ∙ ap from_bool same)

pub group_counted : (this : GroupForm) (has : Bool) (count : ℕ) → has ≡ is_some this.star → count ≡ from_bool has → run_entries (group_units this) ≡ count + length (exceptions_of this.star) + length this.sources
group_counted this has count same counts =
    omega (arith, entries_append (star_units this.group this.star) (map (source_unit this.group) this.sources), star_entries_counted this.group this.star has count same counts, sources_entries this.group this.sources)

more_entries : (left others : List GroupForm) (this : GroupForm) → left ≡ this ∷ others → run_entries (units_of left) ≡ run_entries (group_units this) + run_entries (units_of others)
more_entries left others this is = ap (λ (part : List GroupForm). run_entries (units_of part)) is ∙ entries_append (group_units this) (units_of others)

no_entries : (left : List GroupForm) → left ≡ [] → run_entries (units_of left) ≡ 0
unfolding run_entries
no_entries left none = ap (λ (part : List GroupForm). run_entries (units_of part)) none

pub few_of_first : (left others : List GroupForm) (this : GroupForm) (count all : ℕ) → left ≡ this ∷ others → count + run_entries (units_of left) ≡ all → all < 2 ^ 16 → count + run_entries (group_units this) < 2 ^ 16
few_of_first left others this count all is counted few = omega (arith, more_entries left others this is)

pub one_more_counted : (left others : List GroupForm) (this : GroupForm) (count more all : ℕ) → left ≡ this ∷ others → count + run_entries (units_of left) ≡ all → more ≡ run_entries (group_units this)
    → (count + more) + run_entries (units_of others) ≡ all
one_more_counted left others this count more all is counted counts = omega (arith, more_entries left others this is)

pub all_counted : (left : List GroupForm) (count all : ℕ) → left ≡ [] → count + run_entries (units_of left) ≡ all → count ≡ all
all_counted left count all none counted = omega (arith, no_entries left none)
