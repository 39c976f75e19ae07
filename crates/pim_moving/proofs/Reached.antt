-- Forms toward a neighbour: their stars have RPs, and what is wanted of them is asked of it.
use Rattle.std.proofs.Common.{◌≡◌, ℕ, Bool, true, false, ◌&&◌, List, [], ◌∷◌, Option, None, Some, option_map, if◌then◌else◌, nat_lt, filter, refl}
use Rattle.std.specs.List.{AllByRecursion, list_all}
use Rattle.std.proofs.lemmas.Bool.{false≢true}
use Rattle.pim_addr.specs.declared.family.AddressFamily.{AddressFamily}
use Rattle.pim_addr.specs.Address.{IsSourceAddress}
use Rattle.pim_addr.specs.Routes.{Row, RouteTable, matches, longer_of, longest, led_to, rp_of, IsRealRow, IsRouteTable}
use Rattle.pim_down.specs.Time.{Downstream}
use Rattle.pim_form.specs.Messages.{IsRpOf, HaveRps}
use Rattle.pim_form.specs.NormalForm.{GroupForm, IsFormOf, form_wants}
use Rattle.pim_form.specs.Toward.{via_of, star_rpf_neighbour, rpf_neighbour, is_neighbour, is_star_toward, is_group_toward, is_toward}
use Rattle.pim_form.specs.TowardLaws.{demand_toward, TestFindsTheNeighbour}
use Rattle.pim_form.specs.Wants.{wants}
use Rattle.pim_moving.specs.Changing.{IsFormToward}

first_true : (a b : Bool) → (a && b) ≡ true → a ≡ true
first_true true b e = refl
first_true false b e = e

second_true : (a b : Bool) → (a && b) ≡ true → b ≡ true
second_true true b e = e
second_true false b e = absurd (false≢true e)

-- ---- RPs

abbrev IfRow : (Row → Type 0) → Option Row → Type 0
IfRow P None = Unit {0}
IfRow P (Some row) = P row

abbrev IfSource : AddressFamily → Option (List ℕ) → Type 0
IfSource family None = Unit {0}
IfSource family (Some to) = IsSourceAddress family to

the_longer : (P : Row → Type 0) (row : Row) (other : Option Row) → P row → IfRow P other → P (longer_of row other)
the_longer P row None is is_other = is
the_longer P row (Some other) is is_other = by (nat_lt row.0.bits other.0.bits)
  where
    by : (b : Bool) → P (if b then other else row)
    by true = is_other
    by false = is

-- what is true of all rows is true of the one by which an address is led
the_longest : (P : Row → Type 0) (test : Row → Bool) (rows : List Row) → AllByRecursion P rows → IfRow P (longest (filter test rows))
the_longest P test [] all = tt
the_longest P test (row ∷ rows) all =
    elim (test row) as (λ b. IfRow P (longest (if b then row ∷ filter test rows else filter test rows))) [
      | true ↦ the_longer P row (longest (filter test rows)) all.0 (the_longest P test rows all.1)
      | false ↦ the_longest P test rows all.1
    ]

leads : (family : AddressFamily) (row : Option Row) → IfRow (IsRealRow family) row → IfSource family (option_map (λ (row : Row). row.1) row)
leads family None is = tt
leads family (Some row) is = (is.to, is.source)

led_to_source : (family : AddressFamily) (address : List ℕ) (rows : List Row) → AllByRecursion (IsRealRow family) rows → IfSource family (led_to family address rows)
unfolding led_to
led_to_source family address rows are = leads family (longest (filter (matches family address) rows)) (the_longest (IsRealRow family) (matches family address) rows are)

module _ (family : AddressFamily) (table : RouteTable) (neighbour : List ℕ) where
  module _ (sound : IsRouteTable family table) where
    star_has_rp : (group : List ℕ) (star : Option (List (List ℕ))) → is_star_toward (rp_of family table) (via_of family table) neighbour group star ≡ true → IsRpOf family (rp_of family table group) star
    star_has_rp group None asked = tt
    star_has_rp group (Some exceptions) asked = by (rp_of family table group) (led_to_source family group table.rps sound.rps.real) asked
      where
        by : (rp : Option (List ℕ)) → IfSource family rp → is_neighbour neighbour (star_rpf_neighbour (via_of family table) rp) ≡ true → IsRpOf family rp (Some exceptions)
        by None is asked = false≢true asked
        by (Some rp) is asked = is

    pub stars_have_rps : (form : List GroupForm) → is_toward (rp_of family table) (via_of family table) neighbour form ≡ true → HaveRps family (rp_of family table) form
    stars_have_rps [] test = tt
    stars_have_rps (this ∷ form) test =
        let here = first_true (is_group_toward (rp_of family table) (via_of family table) neighbour this) (is_toward (rp_of family table) (via_of family table) neighbour form) test in
        let others = second_true (is_group_toward (rp_of family table) (via_of family table) neighbour this) (is_toward (rp_of family table) (via_of family table) neighbour form) test in
        let star = first_true (is_star_toward (rp_of family table) (via_of family table) neighbour this.group this.star) (list_all (λ source. is_neighbour neighbour (via_of family table source)) this.sources) here in
        (star_has_rp this.group this.star star, stars_have_rps form others)

  -- ---- what is asked

  -- where only this neighbour is asked for what is meant, all that is wanted is asked of it
  all_asked : (wanted meant asked : Bool) → wanted ≡ meant → (meant ≡ true → asked ≡ true) → (wanted && asked) ≡ meant
  all_asked true true asked e f = f refl
  all_asked true false asked e f = absurd cc
  all_asked false true asked e f = absurd cc
  all_asked false false asked e f = refl

  pub asks_for : TestFindsTheNeighbour → (state : Downstream) (form : List GroupForm) → IsFormToward family table neighbour form → IsFormOf family (wants state) form → IsFormOf family (demand_toward family table neighbour state) form
  asks_for tests state form is of =
      let rps = rp_of family table in
      let via = via_of family table in
      let only = (tests family rps via neighbour form is.normal).0 is.toward in
      record {
        normal = is.normal;
        wants = λ source group tree valid of_group.
            all_asked (wants state source group tree) (form_wants form source group tree) (is_neighbour neighbour (rpf_neighbour rps via source group tree)) (of.wants source group tree valid of_group)
            (λ meant. only source group tree valid of_group meant);
      }
