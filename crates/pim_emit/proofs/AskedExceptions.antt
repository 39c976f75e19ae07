-- The star of a group that is asked for, and its exceptions, among the (S,G,rpt) machines of a port that has (*,G).
use Rattle.pim_emit.proofs.Words.{◌≡◌, ◌∙◌, ◌<◌, ◌≤◌, ℕ, suc, Bool, true, false, ◌&&◌, not, List, Option, None, Some, length}
use Rattle.pim_emit.proofs.Words.{refl, sym, ap, subst, arith, Less, list_any, is_some, false≢true, and_parts, and_from}
use Rattle.pim_emit.proofs.Words.{IsGroupAddress, IsSourceAddress, RouteTable, rp_of, AddressFamily, is_above, Key, Rpt, Record}
use Rattle.pim_emit.proofs.Words.{State, rpt_count_on, address_cmp, source_of, KeysAreDistinct, machine_at, IsSound, IsReal}
use Rattle.pim_emit.proofs.Words.{Downstream, IsDemandedForm, GroupForm, most_exceptions, is_listed, same_address, exceptions_of}
use Rattle.pim_emit.proofs.Words.{group_in, via_of, star_rpf_neighbour, is_neighbour, is_pruned, some_below, state_on, wants}
use Rattle.pim_emit.proofs.Words.{wants_on, Shared, IsLeast, above, next_above, star_of, exceptions_in, is_starred, has_rpt}
use Rattle.pim_emit.proofs.Words.{IsSomeBelow, RptsLeft, AreRptsOn, AreRpts, IsFirstBelow, AreStars}
use Rattle.pim_emit.specs.declared.stars.Stars.{Stars}
use Rattle.pim_emit.proofs.Addresses.{same_itself}
use Rattle.pim_emit.proofs.Above.{by_test, above_first, above_none}
use Rattle.pim_emit.proofs.AskedSources.{HasLists, lists_of}
use Rattle.pim_emit.proofs.CountAbove.{count_above, fewer_above}
use Rattle.pim_emit.proofs.FewExceptions.{few_held}
use Rattle.pim_emit.proofs.FirstRecords.{held_at, any_at}
use Rattle.pim_emit.proofs.ListedAbove.{over, AllPass, none_left, listed_next, unlisted_passed, all_listed, above_all}
use Rattle.pim_emit.proofs.NextMachines.{key_of, told_state}
use Rattle.pim_emit.proofs.PortsBelow.{found_below, which_below}

pruned_is_some : (state : Option State) → is_pruned state ≡ true → is_some state ≡ true
pruned_is_some None e = e
pruned_is_some (Some state) e = refl

-- the ports that have the star, in the machines that are seen
pub stars_inside : (seen state : Downstream) (group : List ℕ) (stars : Stars) → state ≡ seen → AreStars seen group stars → AreStars state group stars
stars_inside seen state group stars same are = subst (λ (d : Downstream). AreStars d group stars) (sym same) are

pub first_of_stars : (state : Downstream) (group : List ℕ) (stars : Stars) (first : Option ℕ) → AreStars state group stars → stars.first ≡ first
    → IsFirstBelow state.ports (is_starred state group) first
first_of_stars state group stars first are same = subst (IsFirstBelow state.ports (is_starred state group)) same are.least

-- the machines that are left, in those that are seen, and on the port that is the first one
pub rpts_inside : (state seen : Downstream) (group : List ℕ) (first : Option ℕ) (rpts : RptsLeft) → state ≡ seen → AreRpts seen group first rpts → AreRpts state group first rpts
rpts_inside state seen group first rpts same are = subst (λ (d : Downstream). AreRpts d group first rpts) (sym same) are

pub on_first : (state : Downstream) (group : List ℕ) (port : ℕ) (first : Option ℕ) (rpts : RptsLeft) → first ≡ Some port → AreRpts state group first rpts → AreRptsOn state port group rpts
on_first state group port first rpts same are = subst (λ (f : Option ℕ). AreRpts state group f rpts) same are

pub of_first : (state : Downstream) (group : List ℕ) (port : ℕ) (first : Option ℕ) (rpts : RptsLeft) → first ≡ Some port → AreRptsOn state port group rpts → AreRpts state group first rpts
of_first state group port first rpts same are = subst (λ (f : Option ℕ). AreRpts state group f rpts) (sym same) are

-- the neighbour that is asked for a star is told from the upstream
pub is_reached : (family : AddressFamily) (table : RouteTable) (neighbour group : List ℕ) (upstream : Option (List ℕ)) (answer : Bool) → upstream ≡ star_rpf_neighbour (via_of family table) (rp_of family table group)
    → answer ≡ is_neighbour neighbour upstream → answer ≡ is_neighbour neighbour (star_rpf_neighbour (via_of family table) (rp_of family table group))
is_reached family table neighbour group upstream answer is answers = answers ∙ ap (λ a. is_neighbour neighbour a) is

module _ (family : AddressFamily) (table : RouteTable) (neighbour : List ℕ) (state : Downstream) (form : List GroupForm) (demand : IsDemandedForm family table neighbour state form)
    (group : List ℕ) (is_group : IsGroupAddress family group) where
  abbrev reached : Bool
  reached = is_neighbour neighbour (star_rpf_neighbour (via_of family table) (rp_of family table group))

  -- where some port has (*,G), there is a star if the RP is reached
  pub star_if_reached : (first : Option ℕ) (answer : Bool) → IsSomeBelow state.ports (is_starred state group) first → is_some first ≡ true → answer ≡ reached → answer ≡ is_some (star_of group form)
  star_if_reached None answer none some is = absurd (false≢true some)
  star_if_reached (Some port) answer starred some is =
      is ∙ sym ((demand.groups group is_group).star ∙ ap (λ b. b && reached) (found_below (is_starred state group) state.ports port starred.0 starred.1))

  -- a group that has a star has it on some port
  pub some_port_has_star : (first : Option ℕ) → IsFirstBelow state.ports (is_starred state group) first → is_some (star_of group form) ≡ true → first ≡ None → ⊥
  some_port_has_star None none star is = false≢true (sym ((demand.groups group is_group).star ∙ ap (λ b. b && reached) none) ∙ star)
  some_port_has_star (Some port) first star is = cc

  lists : HasLists family (group_in group form)
  lists = lists_of family group form demand.is.normal.groups

  -- ---- how many exceptions there are

  pub few_exceptions : length (exceptions_in group form) ≤ most_exceptions
  few_exceptions = lists.few_exceptions

  pub one_exception_fewer : (bound : Option (List ℕ)) (exception : List ℕ) → Some exception ≡ next_above bound (exceptions_in group form)
      → length (above bound (exceptions_in group form)) ≡ suc (length (above (Some exception) (exceptions_in group form)))
  one_exception_fewer bound exception is = ap length (above_first bound (exceptions_in group form) exception lists.exceptions_ascending (sym is))

  pub none_above : (bound : Option (List ℕ)) → None ≡ next_above bound (exceptions_in group form) → length (above bound (exceptions_in group form)) ≡ 0
  none_above bound is = ap length (above_none bound (exceptions_in group form) (sym is))

  -- ---- which comes next

  -- all are above an address below all sources
  pub all_over : (low : List ℕ) → ((source : List ℕ) → IsSourceAddress family source → address_cmp low source ≡ Less) → above (Some low) (exceptions_in group form) ≡ exceptions_in group form
  all_over low below =
      above_all low (exceptions_in group form)
      (all_listed (IsSourceAddress family) (λ source. address_cmp low source ≡ Less) (exceptions_in group form) lists.exceptions (λ source valid listed. below source valid))

  module _ (apart : KeysAreDistinct) (sound : IsSound family state) (star : is_some (star_of group form) ≡ true) (port : ℕ) (below : port < state.ports) (starred : is_starred state group port ≡ true) where
    -- what the code looks for
    abbrev pub IsLeastRpt : Option (List ℕ) → Option (List ℕ) → Type 0
    IsLeastRpt bound least = IsLeast (over bound (has_rpt state port group)) least

    has_source : (source : List ℕ) → has_rpt state port group source ≡ true → IsSourceAddress family source
    has_source source is =
        let held = told_state (machine_at (key_of port group (Rpt source)) state.records) is in
        (held_at apart (IsReal family state.ports) (key_of port group (Rpt source)) held.0 state.records sound.real held.1).source

    is_held : (source : List ℕ) → has_rpt state port group source ≡ true → list_any (λ (held : Record (List ℕ)). same_address source (source_of held.key.what)) state.records ≡ true
    is_held source is =
        let held = told_state (machine_at (key_of port group (Rpt source)) state.records) is in
        any_at apart (λ (key : Key (List ℕ)). same_address source (source_of key.what)) (key_of port group (Rpt source)) held.0 state.records held.1 (same_itself source)

    listed_unless_wanted : (source : List ℕ) → IsSourceAddress family source → is_listed source (exceptions_in group form) ≡ not (wants state source group Shared)
    listed_unless_wanted source valid = (demand.groups group is_group).exceptions star source valid

    -- an exception is pruned on the port, since that has the star
    pruned : (source : List ℕ) → wants state source group Shared ≡ false → has_rpt state port group source ≡ true
    pruned source unwanted =
        by_test (is_pruned (state_on state.records port group (Rpt source)))
        (λ e. pruned_is_some (state_on state.records port group (Rpt source)) e)
        (λ e. absurd (false≢true (sym unwanted ∙ found_below (wants_on state.records source group Shared) state.ports port below
        (and_from (is_starred state group port) (not (is_pruned (state_on state.records port group (Rpt source)))) starred (ap not e)))))

    all_held : AllPass (has_rpt state port group) (exceptions_in group form)
    all_held = all_listed (IsSourceAddress family) (λ source. has_rpt state port group source ≡ true) (exceptions_in group form) lists.exceptions
        (λ source valid listed.
        by_test (wants state source group Shared)
        (λ e. absurd (false≢true (sym (ap not e) ∙ sym (listed_unless_wanted source valid) ∙ listed)))
        (λ e. pruned source e))

    found_valid : (bound : Option (List ℕ)) (source : List ℕ) → IsLeastRpt bound (Some source) → IsSourceAddress family source
    found_valid bound source is = has_source source (and_parts (is_above bound source) (has_rpt state port group source) is.0).1

    pub no_exception_left : (bound : Option (List ℕ)) → IsLeastRpt bound None → next_above bound (exceptions_in group form) ≡ None
    no_exception_left bound is = none_left (has_rpt state port group) bound (exceptions_in group form) all_held is

    pub unwanted_next : (bound : Option (List ℕ)) (source : List ℕ) → IsLeastRpt bound (Some source) → false ≡ wants state source group Shared → next_above bound (exceptions_in group form) ≡ Some source
    unwanted_next bound source is unwanted =
        listed_next (has_rpt state port group) bound source (exceptions_in group form) all_held lists.exceptions_ascending is (listed_unless_wanted source (found_valid bound source is) ∙ ap not (sym unwanted))

    pub wanted_passed : (bound : Option (List ℕ)) (source : List ℕ) → IsLeastRpt bound (Some source) → true ≡ wants state source group Shared
        → next_above bound (exceptions_in group form) ≡ next_above (Some source) (exceptions_in group form)
    wanted_passed bound source is wanted =
        unlisted_passed (has_rpt state port group) bound source (exceptions_in group form) all_held is (listed_unless_wanted source (found_valid bound source is) ∙ ap not (sym wanted))

    pub fewer_rpts : (bound : Option (List ℕ)) (source : List ℕ) → IsLeastRpt bound (Some source)
        → count_above (λ (held : Record (List ℕ)). source_of held.key.what) (Some source) state.records < count_above (λ (held : Record (List ℕ)). source_of held.key.what) bound state.records
    fewer_rpts bound source is =
        let passes = and_parts (is_above bound source) (has_rpt state port group source) is.0 in
        fewer_above (λ (held : Record (List ℕ)). source_of held.key.what) bound source state.records passes.0 (is_held source passes.1)

    -- the port has no fewer (S,G,rpt) machines
    pub few_by_rpts : length (exceptions_in group form) ≤ rpt_count_on port state.records
    few_by_rpts = few_held apart state port group (exceptions_in group form) lists.exceptions_ascending all_held

  bare_of_all : (most : ℕ) (star : Option (List (List ℕ))) → is_some star ≡ false → length (exceptions_of star) ≤ most
  bare_of_all most None bare = omega arith
  bare_of_all most (Some exceptions) bare = absurd cc

  pub few_on_all : KeysAreDistinct → IsSound family state → (most : ℕ) → ((port : ℕ) → port < state.ports → rpt_count_on port state.records ≤ most) → length (exceptions_in group form) ≤ most
  few_on_all apart sound most all =
      by_test (is_some (star_of group form))
      (λ star.
      let starred = (and_parts (some_below state.ports (is_starred state group)) reached (sym (demand.groups group is_group).star ∙ star)).0 in
      let found = which_below (is_starred state group) state.ports starred in
      omega (arith, few_by_rpts apart sound star found.0 found.1 found.2, all found.0 found.1))
      (λ bare. bare_of_all most (star_of group form) bare)
