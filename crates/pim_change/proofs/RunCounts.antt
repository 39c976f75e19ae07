-- The units that one message holds: how they are counted, one by one, and that the first fits.
use Rattle.pim_change.proofs.Words.{◌≡◌, ◌∙◌, ◌↔◌, ℕ, zero, suc, ◌+◌, ◌-◌, ◌≤◌, ◌<◌, Bool, true, false, not, IsTrue, List, []}
use Rattle.pim_change.proofs.Words.{◌∷◌, ◌++◌, Option, None, Some, length, map, take, drop, get_or, nat_le, refl, sym, ap, subst}
use Rattle.pim_change.proofs.Words.{arith, if◌then◌else◌, false≢true, both_ways, leb-true, le-leb, and_parts, and_from, take_more}
use Rattle.pim_change.proofs.Words.{drop_more, map-append, length-map, AddressFamily, Ipv4, Ipv6, same_address, WantUnit}
use Rattle.pim_change.proofs.Words.{source_unit, star_unit, unit_group, unit_entries, run_entries, is_of_group, groups_behind}
use Rattle.pim_change.proofs.Words.{run_groups, run_size, fits, most_groups, StopsBefore, Unit, JoinStar, Action, star_joined}
use Rattle.pim_change.proofs.Words.{star_pruned, of_source, ChangeUnit, action_seen, unit_seen, units_seen, action_fits, too_big}
use Rattle.pim_change.proofs.Words.{weight, weights}
use mir.Val.{bool_byte}
use Rattle.std.specs.Borrow.{Bor}
use Rattle.pim_change.specs.declared.unit.Action.{Action as ActionOf}
use Rattle.pim_change.specs.Runs.{last_group}
use Rattle.pim_change.proofs.Addresses.{same_is, same_itself}
use Rattle.pim_change.proofs.RunSizes.{weight_group}

-- ---- one more unit behind a run

groups_more : (before : Option (List ℕ)) (run : List WantUnit) (next : WantUnit)
    → groups_behind before (run ++ next ∷ [])
    ≡ groups_behind before run + (if is_of_group (last_group before run) (unit_group next) then 0 else 1)
unfolding groups_behind last_group
groups_more before [] next = omega arith
groups_more before (this ∷ run) next = omega (arith, groups_more (Some (unit_group this)) run next)

entries_more : (run : List WantUnit) (next : WantUnit)
    → run_entries (run ++ next ∷ []) ≡ run_entries run + unit_entries next
unfolding run_entries
entries_more [] next = omega arith
entries_more (this ∷ run) next = omega (arith, entries_more run next)

one_group : (b t : Bool) → b ≡ not t → (if t then zero else suc zero) ≡ bool_byte b
one_group true true is = absurd (false≢true (sym is))
one_group true false is = refl
one_group false true is = refl
one_group false false is = absurd (false≢true is)

-- what is equal in the code is the same address
pub alike : (equal : Bool) (a b : List ℕ) → (IsTrue equal ↔ (a ≡ b)) → equal ≡ same_address a b
alike true a b law = sym (ap (same_address a) (sym (law.0 refl)) ∙ same_itself a)
alike false a b law = by (same_address a b) refl
  where
    by : (t : Bool) → same_address a b ≡ t → false ≡ same_address a b
    by true same = absurd (false≢true (law.1 (same_is a b same)))
    by false same = sym same

-- ---- one unit alone

single : (group source : List ℕ) → run_groups (source_unit group source ∷ []) ≤ most_groups
unfolding groups_behind
single group source = omega arith

small : (family : AddressFamily) (budget : ℕ) (group source : List ℕ) → 70 ≤ budget
    → run_size family (source_unit group source ∷ []) ≤ budget
unfolding groups_behind run_entries
small Ipv4 budget group source least = omega (arith, least)
small Ipv6 budget group source least = omega (arith, least)

nothing : run_groups [] ≤ most_groups
unfolding groups_behind
nothing = omega arith

empty : (family : AddressFamily) (budget : ℕ) → 70 ≤ budget → run_size family [] ≤ budget
unfolding groups_behind run_entries
empty Ipv4 budget least = omega (arith, least)
empty Ipv6 budget least = omega (arith, least)

star_room : (family : AddressFamily) (budget : ℕ) (group : List ℕ) (exceptions : List (List ℕ))
    → run_size family (star_unit group exceptions ∷ []) ≤ budget → length exceptions + 1 ≤ budget
unfolding groups_behind run_entries
star_room Ipv4 budget group exceptions size = omega (arith, size)
star_room Ipv6 budget group exceptions size = omega (arith, size)

-- ---- a list of units, one unit on

module _ {A : Type 0} (bytes_of : A → List ℕ) where
  abbrev pub run_to : List (Unit A) → ℕ → List WantUnit
  run_to units n = weights (units_seen bytes_of (take n units))

  run_more : (units : List (Unit A)) (n : ℕ) (d : Unit A) → n < length units
      → run_to units (n + 1) ≡ run_to units n ++ weight (unit_seen bytes_of (get_or units n d)) ∷ []
  run_more units n d below =
      ap (λ (l : List (Unit A)). weights (units_seen bytes_of l)) (take_more units n d below)
      ∙ ap weights (map-append (unit_seen bytes_of) (take n units) (get_or units n d ∷ []))
      ∙ map-append weight (units_seen bytes_of (take n units)) (unit_seen bytes_of (get_or units n d) ∷ [])

  last_at : (before : Option (List ℕ)) (units : List (Unit A)) (n : ℕ) (d : Unit A) → n < length units
      → last_group before (run_to units (suc n)) ≡ Some (bytes_of (get_or units n d).group)
  unfolding last_group
  last_at before [] n d below = absurd (omega arith)
  last_at before (unit ∷ units) zero d below =
      ap Some (weight_group (bytes_of unit.group) (action_seen bytes_of unit.action))
  last_at before (unit ∷ units) (suc n) d below =
      last_at (Some (unit_group (weight (unit_seen bytes_of unit)))) units n d (omega arith)

  pub begins_first : (units : List (Unit A)) (n : ℕ) (group : List ℕ) → n ≡ 0
      → true ≡ not (is_of_group (last_group None (run_to units n)) group)
  unfolding last_group
  begins_first units n group first =
      sym (ap (λ (k : ℕ). not (is_of_group (last_group None (run_to units k)) group)) first)

  pub begins_next : (units : List (Unit A)) (n : ℕ) (d : Unit A) (group : List ℕ) (equal : Bool) → (n ≡ 0 → ⊥)
      → n < length units → (IsTrue equal ↔ (bytes_of (get_or units (n - 1) d).group ≡ group))
      → not equal ≡ not (is_of_group (last_group None (run_to units n)) group)
  begins_next units zero d group equal some below law = absurd (some refl)
  begins_next units (suc n) d group equal some below law =
      let before : suc n - 1 ≡ n = omega arith in
      let here : IsTrue equal ↔ (bytes_of (get_or units n d).group ≡ group) =
      subst (λ (k : ℕ). IsTrue equal ↔ (bytes_of (get_or units k d).group ≡ group)) before law in
      ap not (alike equal (bytes_of (get_or units n d).group) group here)
      ∙ ap (λ (last : Option (List ℕ)). not (is_of_group last group))
      (sym (last_at None units n d (omega (arith, below))))

  groups_next : (units : List (Unit A)) (n : ℕ) (d : Unit A) (counted more : ℕ) (begins : Bool) → n < length units
      → run_groups (run_to units n) ≡ counted
      → begins ≡ not (is_of_group (last_group None (run_to units n)) (bytes_of (get_or units n d).group))
      → more ≡ bool_byte begins → run_groups (run_to units (n + 1)) ≡ counted + more
  groups_next units n d counted more begins below so_far is more_is =
      let next = get_or units n d in
      let of_group : unit_group (weight (unit_seen bytes_of next)) ≡ bytes_of next.group =
      weight_group (bytes_of next.group) (action_seen bytes_of next.action) in
      let one : (if is_of_group (last_group None (run_to units n)) (unit_group (weight (unit_seen bytes_of next)))
      then zero else suc zero) ≡ bool_byte begins =
      ap (λ (group : List ℕ). if is_of_group (last_group None (run_to units n)) group then zero else suc zero) of_group
      ∙ one_group begins (is_of_group (last_group None (run_to units n)) (bytes_of next.group)) is in
      let all = groups_more None (run_to units n) (weight (unit_seen bytes_of next)) in
      omega (arith, ap run_groups (run_more units n d below), all, one, so_far, more_is)

  entries_next : (units : List (Unit A)) (n : ℕ) (d : Unit A) (counted more : ℕ) → n < length units
      → run_entries (run_to units n) ≡ counted → more ≡ unit_entries (weight (unit_seen bytes_of (get_or units n d)))
      → run_entries (run_to units (n + 1)) ≡ counted + more
  entries_next units n d counted more below so_far is =
      let all = entries_more (run_to units n) (weight (unit_seen bytes_of (get_or units n d))) in
      omega (arith, ap run_entries (run_more units n d below), all, so_far, is)

  -- a unit that is counted, by what is known of it where it is read
  pub counted_next : (units : List (Unit A)) (n : ℕ) (unit : Unit A) (groups more_groups entries more_entries : ℕ)
      (begins : Bool) → n < length units → unit ≡ get_or units n unit → run_groups (run_to units n) ≡ groups
      → run_entries (run_to units n) ≡ entries
      → begins ≡ not (is_of_group (last_group None (run_to units n)) (bytes_of unit.group))
      → more_groups ≡ bool_byte begins → more_entries ≡ unit_entries (weight (unit_seen bytes_of unit))
      → (run_groups (run_to units (n + 1)) ≡ groups + more_groups)
      × (run_entries (run_to units (n + 1)) ≡ entries + more_entries)
  counted_next units n unit groups more_groups entries more_entries begins below is so_many so_long begins_is one
      some =
      let begins_here = begins_is ∙ ap (λ (u : Unit A). not (is_of_group (last_group None (run_to units n))
      (bytes_of u.group))) is in
      let entries_here = some ∙ ap (λ (u : Unit A). unit_entries (weight (unit_seen bytes_of u))) is in (
        groups_next units n unit groups more_groups begins below so_many begins_here one,
        entries_next units n unit entries more_entries below so_long entries_here,
      )

  module _ (family : AddressFamily) (budget : ℕ) where
    pub stops_here : (units : List (Unit A)) (n : ℕ) (d : Unit A) → n < length units
        → fits family budget (run_to units (n + 1)) ≡ false
        → StopsBefore family budget (run_to units n) (weights (units_seen bytes_of (drop n units)))
    stops_here units n d below full =
        subst (λ (l : List (Unit A)). StopsBefore family budget (run_to units n) (weights (units_seen bytes_of l)))
        (sym (drop_more units n d below))
        (subst (λ (run : List WantUnit). fits family budget run ≡ false) (run_more units n d below) full)

    -- ---- units of which each fits alone

    fits_first : (this : ChangeUnit) (units : List ChangeUnit) → too_big family budget (this ∷ units) ≡ None
        → (action_fits family budget this.group this.action ≡ true) × (too_big family budget units ≡ None)
    unfolding too_big
    fits_first this units none =
        by (action_fits family budget this.group this.action) (too_big family budget units) none
      where
        by : (b : Bool) (others : Option (List ℕ)) → (if b then others else Some this.group) ≡ None
            → (b ≡ true) × (others ≡ None)
        by true others is = (refl, is)
        by false others is = absurd cc

    pub fits_at : (units : List (Unit A)) (n : ℕ) (d : Unit A) → n < length units
        → too_big family budget (units_seen bytes_of units) ≡ None
        → action_fits family budget (bytes_of (get_or units n d).group)
        (action_seen bytes_of (get_or units n d).action) ≡ true
    fits_at [] n d below none = absurd (omega arith)
    fits_at (unit ∷ units) zero d below none =
        (fits_first (unit_seen bytes_of unit) (units_seen bytes_of units) none).0
    fits_at (unit ∷ units) (suc n) d below none =
        fits_at units n d (omega arith) (fits_first (unit_seen bytes_of unit) (units_seen bytes_of units) none).1

    pub fits_behind : (units : List (Unit A)) (n : ℕ) → too_big family budget (units_seen bytes_of units) ≡ None
        → too_big family budget (units_seen bytes_of (drop n units)) ≡ None
    fits_behind units zero none = none
    fits_behind [] (suc n) none = none
    fits_behind (unit ∷ units) (suc n) none =
        fits_behind units n (fits_first (unit_seen bytes_of unit) (units_seen bytes_of units) none).1

    one_fits : (run : List WantUnit) → run_size family run ≤ budget → run_groups run ≤ most_groups
        → fits family budget run ≡ true
    one_fits run size groups =
        and_from (nat_le (run_size family run) budget) (nat_le (run_groups run) most_groups)
        (le-leb (run_size family run) budget size) (le-leb (run_groups run) most_groups groups)

    -- and such a unit is never left over
    pub some_fit : (units : List (Unit A)) (n : ℕ) (d : Unit A) → n < length units → 70 ≤ budget
        → too_big family budget (units_seen bytes_of units) ≡ None → fits family budget (run_to units (n + 1)) ≡ false
        → 0 < n
    some_fit [] n d below least none full = absurd (omega arith)
    some_fit (unit ∷ units) (suc n) d below least none full = omega arith
    some_fit (unit ∷ units) zero d below least none full =
        let this = unit_seen bytes_of unit in
        absurd (both_ways (fits family budget (weight this ∷ [])) full
        (alone this.group this.action (fits_first this (units_seen bytes_of units) none).0))
      where
        alone : (group : List ℕ) (action : Action) → action_fits family budget group action ≡ true
            → fits family budget (weight (record { group = group; action = action }) ∷ []) ≡ true
        alone group (star_joined exceptions) is = is
        alone group star_pruned is =
            one_fits (source_unit group [] ∷ []) (small family budget group [] least) (single group [])
        alone group (of_source kind source) is =
            one_fits (source_unit group source ∷ []) (small family budget group source least) (single group source)

    -- ---- what is known of what fits

    pub none_fit : 70 ≤ budget → fits family budget [] ≡ true
    none_fit least = one_fits [] (empty family budget least) nothing

-- what the star of a unit that fits names
pub few_exceptions : {A : Type 0} (bytes_of : A → List ℕ) (family : AddressFamily) (budget : ℕ) (group : List ℕ)
    (action : ActionOf A) (exceptions : Bor (List A)) → budget ≤ 65000 → action ≡ JoinStar exceptions
    → action_fits family budget group (action_seen bytes_of action) ≡ true → length exceptions.now + 1 ≤ 65000
few_exceptions bytes_of family budget group action exceptions most is fitting =
    let alone : fits family budget (star_unit group (map bytes_of exceptions.now) ∷ []) ≡ true =
    subst (λ (t : ActionOf _). action_fits family budget group (action_seen bytes_of t) ≡ true) is fitting in
    let both = and_parts (nat_le (run_size family (star_unit group (map bytes_of exceptions.now) ∷ [])) budget)
    (nat_le (run_groups (star_unit group (map bytes_of exceptions.now) ∷ [])) most_groups) alone in
    let size = leb-true (run_size family (star_unit group (map bytes_of exceptions.now) ∷ [])) budget both.0 in
    let room = star_room family budget group (map bytes_of exceptions.now) size in
    omega (arith, room, most, length-map exceptions.now bytes_of)
