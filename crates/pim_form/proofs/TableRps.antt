-- What a sound route table leads to.
use Rattle.pim_form.proofs.Words.{◌≡◌, ℕ, Bool, true, false, List, [], ◌∷◌, Option, None, Some, option_map}
use Rattle.pim_form.proofs.Words.{if◌then◌else◌, nat_lt, is_some, refl, false≢true, AllByRecursion, filter}
use Rattle.pim_form.proofs.Words.{AddressFamily, IsSourceAddress, Row, RouteTable, matches, longer_of, longest, led_to}
use Rattle.pim_form.proofs.Words.{rp_of, IsRealRow, IsRouteTable, GroupForm, IsRp, IsRpOf, HaveRps, star_rpf_neighbour}
use Rattle.pim_form.proofs.Words.{is_neighbour, is_star_toward, is_group_toward, is_toward}
use Rattle.pim_form.proofs.KeptForm.{all_filter}
use Rattle.pim_form.proofs.AskedForAll.{first_true, second_true}

abbrev IfRow : (Row → Type 0) → Option Row → Type 0
IfRow P None = Unit {0}
IfRow P (Some row) = P row

longer : (P : Row → Type 0) (row : Row) (other : Option Row) → P row → IfRow P other → P (longer_of row other)
longer P row None is is_other = is
longer P row (Some other) is is_other = by (nat_lt row.0.bits other.0.bits)
  where
    by : (b : Bool) → P (if b then other else row)
    by true = is_other
    by false = is

all_longest : (P : Row → Type 0) (rows : List Row) → AllByRecursion P rows → IfRow P (longest rows)
all_longest P [] all = tt
all_longest P (row ∷ rows) all = longer P row (longest rows) all.0 (all_longest P rows all.1)

abbrev IfSource : AddressFamily → Option (List ℕ) → Type 0
IfSource family None = Unit {0}
IfSource family (Some to) = IsSourceAddress family to

leads : (family : AddressFamily) (row : Option Row) → IfRow (IsRealRow family) row → IfSource family (option_map (λ (row : Row). row.1) row)
leads family None is = tt
leads family (Some row) is = (is.to, is.source)

led_to_source : (family : AddressFamily) (address : List ℕ) (rows : List Row) → AllByRecursion (IsRealRow family) rows → IfSource family (led_to family address rows)
unfolding led_to
led_to_source family address rows are =
    leads family (longest (filter (matches family address) rows))
    (all_longest (IsRealRow family) (filter (matches family address) rows) (all_filter (IsRealRow family) (matches family address) rows are))

-- the RP of a group is a valid source
pub rp_is_source : (family : AddressFamily) (table : RouteTable) (group : List ℕ) → IsRouteTable family table → is_some (rp_of family table group) ≡ true → IsRp family (rp_of family table group)
rp_is_source family table group sound some = by (rp_of family table group) (led_to_source family group table.rps sound.rps.real) some
  where
    by : (rp : Option (List ℕ)) → IfSource family rp → is_some rp ≡ true → IsRp family rp
    by None is some = absurd (false≢true some)
    by (Some rp) is some = is

module _ (family : AddressFamily) (table : RouteTable) (sound : IsRouteTable family table) (via : List ℕ → Option (List ℕ)) (neighbour : List ℕ) where
  led_is_some : (rp : Option (List ℕ)) → is_neighbour neighbour (star_rpf_neighbour via rp) ≡ true → is_some rp ≡ true
  led_is_some None demanded = demanded
  led_is_some (Some rp) demanded = refl

  star_has_rp : (group : List ℕ) (star : Option (List (List ℕ))) → is_star_toward (rp_of family table) via neighbour group star ≡ true → IsRpOf family (rp_of family table group) star
  star_has_rp group None demanded = tt
  star_has_rp group (Some xs) demanded = rp_is_source family table group sound (led_is_some (rp_of family table group) demanded)

  -- each star of a form that passes the test has an RP
  pub have_rps : (form : List GroupForm) → is_toward (rp_of family table) via neighbour form ≡ true → HaveRps family (rp_of family table) form
  have_rps [] test = tt
  have_rps (this ∷ form) test =
      let here = first_true (is_group_toward (rp_of family table) via neighbour this) (is_toward (rp_of family table) via neighbour form) test in
      let others = second_true (is_group_toward (rp_of family table) via neighbour this) (is_toward (rp_of family table) via neighbour form) test in
      (star_has_rp this.group this.star (first_true (is_star_toward (rp_of family table) via neighbour this.group this.star) _ here), have_rps form others)
