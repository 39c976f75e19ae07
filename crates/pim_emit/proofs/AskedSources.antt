-- The sources of a group that is asked for, among those that some port has joined.
use Rattle.pim_emit.proofs.Words.{◌≡◌, ◌∙◌, ◌<◌, ◌≤◌, ℕ, Bool, true, false, ◌&&◌, ◌||◌, List, [], ◌∷◌, Option, None, Some, length}
use Rattle.pim_emit.proofs.Words.{refl, sym, ap, subst, arith, AllByRecursion, list_any, is_some, IsStrictlySortedBy, false≢true}
use Rattle.pim_emit.proofs.Words.{and_parts, IsGroupAddress, IsSourceAddress, RouteTable, AddressFamily, is_above, Key, Source}
use Rattle.pim_emit.proofs.Words.{Record, source_of, KeysAreDistinct, machine_at, IsSound, IsReal, Downstream, IsDemandedForm}
use Rattle.pim_emit.proofs.Words.{DemandedFormIsDemanded, demanded_form, GroupForm, IsNormalGroup, AreAscending, AreExceptions}
use Rattle.pim_emit.proofs.Words.{most_exceptions, same_address, is_listed, exceptions_of, group_in, unwanted, via_of}
use Rattle.pim_emit.proofs.Words.{is_neighbour, state_on, some_below, IsLeast, next_above, sources_in, is_source_joined}
use Rattle.pim_emit.proofs.Addresses.{same_is, same_itself}
use Rattle.pim_emit.proofs.Above.{by_test}
use Rattle.pim_emit.proofs.CountAbove.{count_above, fewer_above}
use Rattle.pim_emit.proofs.FirstRecords.{held_at, any_at}
use Rattle.pim_emit.proofs.LeastOfTwo.{least_of_same}
use Rattle.pim_emit.proofs.ListedAbove.{over, AllPass, none_left, listed_next, unlisted_passed, all_listed}
use Rattle.pim_emit.proofs.NextMachines.{key_of, told_state, joined_is_some}
use Rattle.pim_emit.proofs.PortsBelow.{which_below, found_below, and_below}

-- what holds of each group of a form, and of one that it doesn't have, holds of what it has of any
group_in_holds : (P : GroupForm → Type 0) (group : List ℕ) (form : List GroupForm) → P (unwanted group) → AllByRecursion P form → P (group_in group form)
unfolding group_in
group_in_holds P group [] absent all = absent
group_in_holds P group (this ∷ form) absent all =
    by_test (same_address group this.group)
    (λ e. rw e all.0)
    (λ e. rw e (group_in_holds P group form absent all.1))

-- the lists of a group are in order, and of valid sources
pub record HasLists (family : AddressFamily) (this : GroupForm) : Type 0 where
  pub ascending : AreAscending this.sources
  pub sources : AllByRecursion (IsSourceAddress family) this.sources
  pub exceptions_ascending : AreAscending (exceptions_of this.star)
  pub exceptions : AllByRecursion (IsSourceAddress family) (exceptions_of this.star)
  pub few_exceptions : length (exceptions_of this.star) ≤ most_exceptions

nothing_rises : AreAscending []
unfolding IsStrictlySortedBy
nothing_rises = tt

no_lists : (family : AddressFamily) (group : List ℕ) → HasLists family (unwanted group)
no_lists family group = record { ascending = nothing_rises; sources = tt; exceptions_ascending = nothing_rises; exceptions = tt; few_exceptions = omega arith }

normal_lists : (family : AddressFamily) (this : GroupForm) → IsNormalGroup family this → HasLists family this
normal_lists family this normal = by this.star normal.exceptions
  where
    by : (star : Option (List (List ℕ))) → AreExceptions family star → HasLists family (record { group = this.group; star = star; sources = this.sources })
    by None is = record { ascending = normal.ascending; sources = normal.sources; exceptions_ascending = nothing_rises; exceptions = tt; few_exceptions = omega arith }
    by (Some exceptions) is = record { ascending = normal.ascending; sources = normal.sources; exceptions_ascending = is.0; exceptions = is.1; few_exceptions = is.2 }

all_normal_lists : (family : AddressFamily) (form : List GroupForm) → AllByRecursion (IsNormalGroup family) form → AllByRecursion (HasLists family) form
all_normal_lists family [] all = tt
all_normal_lists family (this ∷ form) all = (normal_lists family this all.0, all_normal_lists family form all.1)

pub lists_of : (family : AddressFamily) (group : List ℕ) (form : List GroupForm) → AllByRecursion (IsNormalGroup family) form → HasLists family (group_in group form)
lists_of family group form all = group_in_holds (HasLists family) group form (no_lists family group) (all_normal_lists family form all)

-- the form that is seen of what is asked for
pub asked_as_seen : (law : DemandedFormIsDemanded) (family : AddressFamily) (table : RouteTable) (neighbour : List ℕ) (state : Downstream) (form : List GroupForm) → IsSound family state
    → demanded_form family table neighbour state ≡ form → IsDemandedForm family table neighbour state form
asked_as_seen law family table neighbour state form sound seen = subst (λ (f : List GroupForm). IsDemandedForm family table neighbour state f) seen (law family table neighbour state sound)

-- a list on which an address above the bound stands has a first one above it
listed_is_some : (bound : Option (List ℕ)) (address : List ℕ) (addresses : List (List ℕ)) → is_above bound address ≡ true → is_listed address addresses ≡ true → is_some (next_above bound addresses) ≡ true
listed_is_some bound address [] over listed = absurd (false≢true listed)
listed_is_some bound address (first ∷ addresses) over listed =
    by_test (is_above bound first)
    (λ e. rw e refl)
    (λ e. rw e (by_test (same_address address first)
    (λ same. absurd (false≢true (sym e ∙ subst (λ (a : List ℕ). is_above bound a ≡ true) (same_is address first same) over)))
    (λ other. listed_is_some bound address addresses over (subst (λ b. b || list_any (same_address address) addresses ≡ true) other listed))))

-- whether a source is reached, as a test of its upstream tells
pub is_via : (family : AddressFamily) (table : RouteTable) (neighbour source : List ℕ) (upstream : Option (List ℕ)) (answer reported : Bool) → upstream ≡ via_of family table source
    → answer ≡ is_neighbour neighbour upstream → answer ≡ reported → is_neighbour neighbour (via_of family table source) ≡ reported
is_via family table neighbour source upstream answer reported is answers carries = sym (ap (λ a. is_neighbour neighbour a) is) ∙ sym answers ∙ carries

module _ (apart : KeysAreDistinct) (family : AddressFamily) (table : RouteTable) (neighbour : List ℕ) (state : Downstream) (sound : IsSound family state)
    (form : List GroupForm) (demand : IsDemandedForm family table neighbour state form) (group : List ℕ) (is_group : IsGroupAddress family group) where
  abbrev wanted : List ℕ → Bool
  wanted source = some_below state.ports (is_source_joined state group source)

  -- what the code looks for
  abbrev pub IsLeastSource : Option (List ℕ) → Option (List ℕ) → Type 0
  IsLeastSource bound least = IsLeast (λ source. some_below state.ports (λ port. is_above bound source && is_source_joined state group source port)) least

  least_wanted : (bound least : Option (List ℕ)) → IsLeastSource bound least → IsLeast (over bound wanted) least
  least_wanted bound least is =
      least_of_same (λ source. some_below state.ports (λ port. is_above bound source && is_source_joined state group source port)) (over bound wanted) least
      (λ source. and_below (is_above bound source) (is_source_joined state group source) state.ports) is

  has_source : (source : List ℕ) → wanted source ≡ true → IsSourceAddress family source
  has_source source is =
      let port = which_below (is_source_joined state group source) state.ports is in
      let held = told_state (machine_at (key_of port.0 group (Source source)) state.records) (joined_is_some (state_on state.records port.0 group (Source source)) port.2) in
      (held_at apart (IsReal family state.ports) (key_of port.0 group (Source source)) held.0 state.records sound.real held.1).source

  is_held : (source : List ℕ) → wanted source ≡ true → list_any (λ (held : Record (List ℕ)). same_address source (source_of held.key.what)) state.records ≡ true
  is_held source is =
      let port = which_below (is_source_joined state group source) state.ports is in
      let held = told_state (machine_at (key_of port.0 group (Source source)) state.records) (joined_is_some (state_on state.records port.0 group (Source source)) port.2) in
      any_at apart (λ (key : Key (List ℕ)). same_address source (source_of key.what)) (key_of port.0 group (Source source)) held.0 state.records held.1 (same_itself source)

  listed_if_reached : (source : List ℕ) → wanted source ≡ true → is_listed source (sources_in group form) ≡ is_neighbour neighbour (via_of family table source)
  listed_if_reached source is =
      (demand.groups group is_group).sources source (has_source source is) ∙ ap (λ b. b && is_neighbour neighbour (via_of family table source)) is

  lists : HasLists family (group_in group form)
  lists = lists_of family group form demand.is.normal.groups

  all_wanted : AllPass wanted (sources_in group form)
  all_wanted = all_listed (IsSourceAddress family) (λ source. wanted source ≡ true) (sources_in group form) lists.sources
      (λ source is listed. (and_parts (wanted source) (is_neighbour neighbour (via_of family table source)) (sym ((demand.groups group is_group).sources source is) ∙ listed)).0)

  found_wanted : (bound : Option (List ℕ)) (source : List ℕ) → IsLeastSource bound (Some source) → wanted source ≡ true
  found_wanted bound source is = (and_parts (is_above bound source) (wanted source) (least_wanted bound (Some source) is).0).1

  pub no_source_left : (bound : Option (List ℕ)) → IsLeastSource bound None → next_above bound (sources_in group form) ≡ None
  no_source_left bound is = none_left wanted bound (sources_in group form) all_wanted (least_wanted bound None is)

  pub reached_next : (bound : Option (List ℕ)) (source : List ℕ) → IsLeastSource bound (Some source) → is_neighbour neighbour (via_of family table source) ≡ true
      → next_above bound (sources_in group form) ≡ Some source
  reached_next bound source is reached =
      listed_next wanted bound source (sources_in group form) all_wanted lists.ascending (least_wanted bound (Some source) is) (listed_if_reached source (found_wanted bound source is) ∙ reached)

  pub unreached_passed : (bound : Option (List ℕ)) (source : List ℕ) → IsLeastSource bound (Some source) → is_neighbour neighbour (via_of family table source) ≡ false
      → next_above bound (sources_in group form) ≡ next_above (Some source) (sources_in group form)
  unreached_passed bound source is unreached =
      unlisted_passed wanted bound source (sources_in group form) all_wanted (least_wanted bound (Some source) is) (listed_if_reached source (found_wanted bound source is) ∙ unreached)

  pub fewer_sources : (bound : Option (List ℕ)) (source : List ℕ) → IsLeastSource bound (Some source)
      → count_above (λ (held : Record (List ℕ)). source_of held.key.what) (Some source) state.records < count_above (λ (held : Record (List ℕ)). source_of held.key.what) bound state.records
  fewer_sources bound source is =
      let passes = and_parts (is_above bound source) (wanted source) (least_wanted bound (Some source) is).0 in
      fewer_above (λ (held : Record (List ℕ)). source_of held.key.what) bound source state.records passes.0 (is_held source passes.1)

  -- where a source above the bound that some port has joined is reached, the group has one
  pub reached_is_some : (bound : Option (List ℕ)) (port : ℕ) (source : List ℕ) → port < state.ports → IsLeast (λ source. is_above bound source && is_source_joined state group source port) (Some source)
      → is_neighbour neighbour (via_of family table source) ≡ true → is_some (next_above bound (sources_in group form)) ≡ true
  reached_is_some bound port source below is reached =
      let passes = and_parts (is_above bound source) (is_source_joined state group source port) is.0 in
      listed_is_some bound source (sources_in group form) passes.0
      (listed_if_reached source (found_below (is_source_joined state group source) state.ports port below passes.1) ∙ reached)
