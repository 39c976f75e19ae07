-- How many units a form has: no more than there are records of which it is told.
use Rattle.pim_form.proofs.Words.{◌≡◌, ◌∙◌, ℕ, zero, suc, ◌+◌, ◌*◌, ◌≤◌, Bool, true, false, cond, List, [], ◌∷◌, ◌++◌, Option}
use Rattle.pim_form.proofs.Words.{None, Some, map, length, refl, arith, length-append, Less, Equal, Greater, filter, nat_cmp}
use Rattle.pim_form.proofs.Words.{slice_cmp, length-map, AddressFamily, RouteTable, rp_of, What, Star, Source, Rpt, State, Record}
use Rattle.pim_form.proofs.Words.{IsSound, Downstream, GroupForm, same_address, is_empty, is_joined, is_pruned, fresh}
use Rattle.pim_form.proofs.Words.{with_exception, star_with, sources_with, added, closed, collected_behind, collected, of_port}
use Rattle.pim_form.proofs.Words.{by_order, merged_into, merged_by, itself, first_of, united, both_stars, both_groups, group_of}
use Rattle.pim_form.proofs.Words.{merged, via_of, star_rpf_neighbour, is_neighbour, is_reached, star_toward, group_toward}
use Rattle.pim_form.proofs.Words.{form_toward, star_units, source_unit, group_units, units_of, form_below, demanded_form}
use Rattle.pim_form.proofs.PortDemand.{are_of_port}

-- ---- lists whose items have a size

total : {A : Type 0} → (A → ℕ) → List A → ℕ
total size [] = 0
total size (x ∷ xs) = size x + total size xs

total_append : {A : Type 0} (size : A → ℕ) (xs ys : List A) → total size (xs ++ ys) ≡ total size xs + total size ys
unfolding total
total_append size [] ys = omega arith
total_append size (x ∷ xs) ys = omega (arith, total_append size xs ys)

total_ones : {A : Type 0} (xs : List A) → total (λ x. 1) xs ≡ length xs
unfolding total
total_ones [] = refl
total_ones (x ∷ xs) = omega (arith, total_ones xs)

-- two lists made one are no larger than both together, where each two items that are made one are no larger
module _ {A : Type 0} (address_of : A → List ℕ) (both : A → A → A) (size : A → ℕ) (join : (a b : A) → size (both a b) ≤ size a + size b) where
  total_into : (a : A) (others : List A → List A) (q : ℕ) → ((ys : List A) → total size (others ys) ≤ q + total size ys) → (ys : List A) → total size (merged_into address_of both a others ys) ≤ (size a + q) + total size ys
  unfolding merged_into total
  total_into a others q step [] = omega (arith, step [])
  total_into a others q step (b ∷ ys) =
      elim (slice_cmp nat_cmp (address_of a) (address_of b)) as (λ r. total size (by_order r (a ∷ others (b ∷ ys)) (both a b ∷ others ys) (b ∷ merged_into address_of both a others ys)) ≤ (size a + q) + (size b + total size ys)) [
        | Less ↦ omega (arith, step (b ∷ ys))
        | Equal ↦ omega (arith, join a b, step ys)
        | Greater ↦ omega (arith, total_into a others q step ys)
      ]

  total_merged : (xs ys : List A) → total size (merged_by address_of both xs ys) ≤ total size xs + total size ys
  unfolding merged_by total
  total_merged [] ys = omega arith
  total_merged (x ∷ xs) ys = total_into x (merged_by address_of both xs) (total size xs) (total_merged xs) ys

-- ---- groups

abbrev star_count : Option (List (List ℕ)) → ℕ
star_count None = 0
star_count (Some exceptions) = 1

abbrev units_in : GroupForm → ℕ
units_in this = star_count this.star + length this.sources

units_are : (group : List ℕ) (star : Option (List (List ℕ))) (sources : List (List ℕ)) → length (star_units group star ++ map (source_unit group) sources) ≡ star_count star + length sources
units_are group None sources = omega (arith, length-map sources (source_unit group))
units_are group (Some exceptions) sources = omega (arith, length-map sources (source_unit group))

units_total : (form : List GroupForm) → length (units_of form) ≡ total units_in form
unfolding total
units_total [] = refl
units_total (this ∷ form) =
    length-append (group_units this) (units_of form) ∙ (λ i. units_are this.group this.star this.sources i + units_total form i)

-- ---- two forms made one

united_count : (xs ys : List (List ℕ)) → length (united xs ys) ≤ length xs + length ys
united_count xs ys =
    omega (arith, total_merged itself first_of (λ x. 1) (λ a b. omega arith) xs ys, total_ones xs, total_ones ys, total_ones (united xs ys))

both_count : (a b : Option (List (List ℕ))) → star_count (both_stars a b) ≤ star_count a + star_count b
both_count None b = omega arith
both_count (Some xs) None = omega arith
both_count (Some xs) (Some ys) = omega arith

merged_units : (one other : List GroupForm) → total units_in (merged one other) ≤ total units_in one + total units_in other
merged_units = total_merged group_of both_groups units_in (λ a b. omega (arith, both_count a.star b.star, united_count a.sources b.sources))

-- ---- the records of a port

more_sources : (s : List ℕ) (xs : List (List ℕ)) → length (xs ++ s ∷ []) ≡ suc (length xs)
more_sources s xs = omega (arith, length-append xs (s ∷ []))

same_star : (s : List ℕ) (star : Option (List (List ℕ))) → star_count (with_exception s star) ≡ star_count star
same_star s None = refl
same_star s (Some exceptions) = refl

with_one : (what : What (List ℕ)) (state : State) (star : Option (List (List ℕ))) (sources : List (List ℕ)) → star_count (star_with what state star) + length (sources_with what state sources) ≤ suc (star_count star + length sources)
with_one Star state star sources =
    elim (is_joined (Some state)) as (λ b. star_count (cond b (Some []) star) + length sources ≤ suc (star_count star + length sources)) [
      | true ↦ omega arith
      | false ↦ omega arith
    ]
with_one (Source s) state star sources =
    elim (is_joined (Some state)) as (λ b. star_count star + length (cond b (sources ++ s ∷ []) sources) ≤ suc (star_count star + length sources)) [
      | true ↦ omega (arith, more_sources s sources)
      | false ↦ omega arith
    ]
with_one (Rpt s) state star sources =
    elim (is_pruned (Some state)) as (λ b. star_count (cond b (with_exception s star) star) + length sources ≤ suc (star_count star + length sources)) [
      | true ↦ omega (arith, same_star s star)
      | false ↦ omega arith
    ]

added_units : (held : Record (List ℕ)) (form : GroupForm) → units_in (added held form) ≤ suc (units_in form)
added_units held form = with_one held.key.what held.machine.state form.star form.sources

closed_units : (form : GroupForm) → total units_in (closed form) ≤ units_in form
unfolding total
closed_units form =
    elim (is_empty form.star form.sources) as (λ b. total units_in (cond b [] (form ∷ [])) ≤ units_in form) [
      | true ↦ omega arith
      | false ↦ omega arith
    ]

behind_units : (form : GroupForm) (records : List (Record (List ℕ))) → total units_in (collected_behind form records) ≤ units_in form + length records
unfolding collected_behind
behind_units form [] = omega (arith, closed_units form)
behind_units form (held ∷ records) =
    elim (same_address held.key.group form.group) as (λ b. total units_in (cond b (collected_behind (added held form) records) (closed form ++ collected_behind (added held (fresh held.key.group)) records)) ≤ units_in form + suc (length records)) [
      | true ↦ omega (arith, behind_units (added held form) records, added_units held form)
      | false ↦ omega (arith, total_append units_in (closed form) (collected_behind (added held (fresh held.key.group)) records), closed_units form, behind_units (added held (fresh held.key.group)) records, added_units held (fresh held.key.group))
    ]

collected_units : (records : List (Record (List ℕ))) → total units_in (collected records) ≤ length records
unfolding collected total
collected_units [] = omega arith
collected_units (held ∷ records) = omega (arith, behind_units (added held (fresh held.key.group)) records, added_units held (fresh held.key.group))

-- ---- what one neighbour is asked for

fewer : (test : List ℕ → Bool) (xs : List (List ℕ)) → length (filter test xs) ≤ length xs
fewer test [] = omega arith
fewer test (x ∷ xs) =
    elim (test x) as (λ b. length (cond b (x ∷ filter test xs) (filter test xs)) ≤ suc (length xs)) [
      | true ↦ omega (arith, fewer test xs)
      | false ↦ omega (arith, fewer test xs)
    ]

module _ (rps via : List ℕ → Option (List ℕ)) (neighbour : List ℕ) where
  star_left : (group : List ℕ) (star : Option (List (List ℕ))) → star_count (star_toward rps via neighbour group star) ≤ star_count star
  star_left group star =
      elim (is_neighbour neighbour (star_rpf_neighbour via (rps group))) as (λ b. star_count (cond b star None) ≤ star_count star) [
        | true ↦ omega arith
        | false ↦ omega arith
      ]

  group_units_left : (this : GroupForm) → units_in (group_toward rps via neighbour this) ≤ units_in this
  group_units_left this = omega (arith, star_left this.group this.star, fewer (is_reached rps via neighbour) this.sources)

  units_left : (form : List GroupForm) → total units_in (form_toward rps via neighbour form) ≤ total units_in form
  unfolding form_toward total
  units_left [] = omega arith
  units_left (this ∷ form) =
      elim (is_empty (group_toward rps via neighbour this).star (group_toward rps via neighbour this).sources) as (λ b. total units_in (cond b (form_toward rps via neighbour form) (group_toward rps via neighbour this ∷ form_toward rps via neighbour form)) ≤ units_in this + total units_in form) [
        | true ↦ omega (arith, units_left form)
        | false ↦ omega (arith, group_units_left this, units_left form)
      ]

-- ---- all ports

module _ (family : AddressFamily) (state : Downstream) (sound : IsSound family state) where
  units_below : (count : ℕ) → total units_in (form_below count state) ≤ count * 100000
  unfolding form_below total
  units_below zero = omega arith
  units_below (suc count) =
      let port = are_of_port family state count sound in
      omega (arith, merged_units (collected (of_port count state)) (form_below count state), collected_units (of_port count state), port.few, units_below count)

  pub few_units : (table : RouteTable) (neighbour : List ℕ) → length (units_of (demanded_form family table neighbour state)) ≤ 6400000
  unfolding demanded_form
  few_units table neighbour =
      let left = units_left (rp_of family table) (via_of family table) neighbour (form_below state.ports state) in
      let below = units_below state.ports in
      let most = sound.ports in
      omega (arith, units_total (form_toward (rp_of family table) (via_of family table) neighbour (form_below state.ports state)), left, below, most)
