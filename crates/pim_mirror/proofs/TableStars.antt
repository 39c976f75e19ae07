-- The stars that are asked of a neighbour under a route table have RPs.
use Rattle.pim_mirror.proofs.Words.{◌≡◌, ◌∙◌, ℕ, Bool, true, false, List, [], ◌∷◌, Option, None, Some, option_map, if◌then◌else◌}
use Rattle.pim_mirror.proofs.Words.{nat_lt, filter, AllByRecursion, list_all, false≢true, AddressFamily, IsSourceAddress, Row}
use Rattle.pim_mirror.proofs.Words.{RouteTable, matches, longer_of, longest, led_to, rp_of, IsRealRow, IsRouteTable, GroupForm}
use Rattle.pim_mirror.proofs.Words.{IsRpOf, HaveRps, via_of, star_rpf_neighbour, rpf_neighbour, is_neighbour, is_star_toward}
use Rattle.pim_mirror.proofs.Words.{is_group_toward, is_toward, TestFindsTheNeighbour, wants, DemandedStarsHaveRps}
use Rattle.pim_mirror.proofs.SameAddresses.{first_true, second_true}

abbrev IfRow : (Row → Type 0) → Option Row → Type 0
IfRow P None = Unit {0}
IfRow P (Some row) = P row

abbrev IfSource : AddressFamily → Option (List ℕ) → Type 0
IfSource family None = Unit {0}
IfSource family (Some to) = IsSourceAddress family to

the_longer : (P : Row → Type 0) (row : Row) (other : Option Row) → P row → IfRow P other → P (longer_of row other)
the_longer P row None is is_other = is
the_longer P row (Some other) is is_other = by (nat_lt row.0.bits other.0.bits)
  where
    by : (b : Bool) → P (if b then other else row)
    by true = is_other
    by false = is

-- what is true of all rows is true of the one that an address is led by
the_longest : (P : Row → Type 0) (test : Row → Bool) (rows : List Row) → AllByRecursion P rows → IfRow P (longest (filter test rows))
the_longest P test [] all = tt
the_longest P test (row ∷ rows) all =
    elim (test row) as (λ b. IfRow P (longest (if b then row ∷ filter test rows else filter test rows))) [
      | true ↦ the_longer P row (longest (filter test rows)) all.0 (the_longest P test rows all.1)
      | false ↦ the_longest P test rows all.1
    ]

leads : (family : AddressFamily) (row : Option Row) → IfRow (IsRealRow family) row → IfSource family (option_map (λ (row : Row). row.1) row)
leads family None is = tt
leads family (Some row) is = (is.to, is.source)

led_to_source : (family : AddressFamily) (address : List ℕ) (rows : List Row) → AllByRecursion (IsRealRow family) rows → IfSource family (led_to family address rows)
unfolding led_to
led_to_source family address rows are = leads family (longest (filter (matches family address) rows)) (the_longest (IsRealRow family) (matches family address) rows are)

module _ (family : AddressFamily) (table : RouteTable) (sound : IsRouteTable family table) (neighbour : List ℕ) where
  star_has_rp : (group : List ℕ) (star : Option (List (List ℕ))) → is_star_toward (rp_of family table) (via_of family table) neighbour group star ≡ true → IsRpOf family (rp_of family table group) star
  star_has_rp group None demanded = tt
  star_has_rp group (Some exceptions) demanded = by (rp_of family table group) (led_to_source family group table.rps sound.rps.real) demanded
    where
      by : (rp : Option (List ℕ)) → IfSource family rp → is_neighbour neighbour (star_rpf_neighbour (via_of family table) rp) ≡ true → IsRpOf family rp (Some exceptions)
      by None is demanded = false≢true demanded
      by (Some rp) is demanded = is

  stars_have_rps : (form : List GroupForm) → is_toward (rp_of family table) (via_of family table) neighbour form ≡ true → HaveRps family (rp_of family table) form
  stars_have_rps [] test = tt
  stars_have_rps (this ∷ form) test =
      let here = first_true (is_group_toward (rp_of family table) (via_of family table) neighbour this) (is_toward (rp_of family table) (via_of family table) neighbour form) test in
      let others = second_true (is_group_toward (rp_of family table) (via_of family table) neighbour this) (is_toward (rp_of family table) (via_of family table) neighbour form) test in
      let star = first_true (is_star_toward (rp_of family table) (via_of family table) neighbour this.group this.star) (list_all (λ source. is_neighbour neighbour (via_of family table source)) this.sources) here in
      (star_has_rp this.group this.star star, stars_have_rps form others)

pub asked_stars : TestFindsTheNeighbour → DemandedStarsHaveRps
asked_stars tests family table neighbour state form sound is =
    let rps = rp_of family table in
    let via = via_of family table in
    stars_have_rps family table sound neighbour form ((tests family rps via neighbour form is.normal).1 (λ s group tree valid is_group wanted.
    second_true (wants state s group tree) (is_neighbour neighbour (rpf_neighbour rps via s group tree)) (is.wants s group tree valid is_group ∙ wanted)))
