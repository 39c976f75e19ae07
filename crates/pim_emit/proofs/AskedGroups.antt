-- The groups that are asked for, among those with a record on some port.
use Rattle.pim_emit.proofs.Words.{◌≡◌, ◌∙◌, ◌<◌, ℕ, Bool, true, false, ◌&&◌, ◌||◌, not, List, [], ◌∷◌, Option, None, Some, eqb}
use Rattle.pim_emit.proofs.Words.{refl, sym, subst, AllByRecursion, list_any, is_some, false≢true, eq-eqb, and_parts, and_from}
use Rattle.pim_emit.proofs.Words.{or_left, or_right, IsGroupAddress, IsSourceAddress, RouteTable, rp_of, AddressFamily, is_above}
use Rattle.pim_emit.proofs.Words.{Key, What, Star, Source, Machine, Record, KeysAreDistinct, machine_at, is_on, IsSound, IsReal}
use Rattle.pim_emit.proofs.Words.{Downstream, IsDemandedForm, GroupForm, IsNormalGroup, groups_of, is_empty, is_listed}
use Rattle.pim_emit.proofs.Words.{same_address, group_in, via_of, star_rpf_neighbour, is_neighbour, state_on, some_below, IsLeast}
use Rattle.pim_emit.proofs.Words.{next_above, star_of, sources_in, is_starred, is_source_joined, has_group}
use Rattle.pim_emit.proofs.Addresses.{same_is, same_itself}
use Rattle.pim_emit.proofs.Above.{by_test}
use Rattle.pim_emit.proofs.AskedSources.{lists_of}
use Rattle.pim_emit.proofs.CountAbove.{count_above, fewer_above}
use Rattle.pim_emit.proofs.FirstRecords.{any_at}
use Rattle.pim_emit.proofs.LeastOfTwo.{least_of_same}
use Rattle.pim_emit.proofs.ListedAbove.{over, AllPass, none_left, listed_next, unlisted_passed, all_listed}
use Rattle.pim_emit.proofs.NextMachines.{key_of, told_state, joined_is_some}
use Rattle.pim_emit.proofs.PortsBelow.{which_below, found_below, and_below}

-- ---- lists

-- one of the items that pass
any_of : {A : Type 0} (P : A → Type 0) (test : A → Bool) (items : List A) → AllByRecursion P items → list_any test items ≡ true → (item : A) × P item × (test item ≡ true)
any_of P test [] all any = absurd (false≢true any)
any_of P test (item ∷ items) all any =
    by_test (test item)
    (λ e. (item, all.0, e))
    (λ e. any_of P test items all.1 (subst (λ b. b || list_any test items ≡ true) e any))

any_wider : {A : Type 0} (test wider : A → Bool) (items : List A) → ((item : A) → test item ≡ true → wider item ≡ true) → list_any test items ≡ true → list_any wider items ≡ true
any_wider test wider [] widens any = any
any_wider test wider (item ∷ items) widens any =
    by_test (test item)
    (λ e. or_left (wider item) (list_any wider items) (widens item e))
    (λ e. or_right (wider item) (list_any wider items) (any_wider test wider items widens (subst (λ b. b || list_any test items ≡ true) e any)))

-- the first of a list that isn't empty
first_listed : (P : List ℕ → Type 0) (addresses : List (List ℕ)) → AllByRecursion P addresses → is_some (next_above None addresses) ≡ true → (address : List ℕ) × P address × (is_listed address addresses ≡ true)
first_listed P [] all some = absurd (false≢true some)
first_listed P (address ∷ addresses) all some = (address, all.0, or_left (same_address address address) (is_listed address addresses) (same_itself address))

-- ---- the groups of a form

some_told : (star : Option (List (List ℕ))) (sources : List (List ℕ)) → not (is_empty star sources) ≡ (is_some star || is_some (next_above None sources))
some_told None [] = refl
some_told None (source ∷ sources) = refl
some_told (Some exceptions) sources = refl

-- whether the form has something of the group
abbrev has_something : List ℕ → List GroupForm → Bool
has_something group form = is_some (star_of group form) || is_some (next_above None (sources_in group form))

listed_group : (family : AddressFamily) (group : List ℕ) (form : List GroupForm) → AllByRecursion (IsNormalGroup family) form
    → is_listed group (groups_of form) ≡ not (is_empty (group_in group form).star (group_in group form).sources)
unfolding group_in
listed_group family group [] all = refl
listed_group family group (this ∷ form) all =
    by_test (same_address group this.group)
    (λ e. rw (e, all.0.some) refl)
    (λ e. rw e (listed_group family group form all.1))

groups_are : (family : AddressFamily) (form : List GroupForm) → AllByRecursion (IsNormalGroup family) form → AllByRecursion (IsGroupAddress family) (groups_of form)
groups_are family [] all = tt
groups_are family (this ∷ form) all = (all.0.group, groups_are family form all.1)

module _ (apart : KeysAreDistinct) (family : AddressFamily) (table : RouteTable) (neighbour : List ℕ) (state : Downstream) (sound : IsSound family state)
    (form : List GroupForm) (demand : IsDemandedForm family table neighbour state form) where
  abbrev is_held : List ℕ → Bool
  is_held group = some_below state.ports (has_group state group)

  -- what the code looks for
  abbrev pub IsLeastGroup : Option (List ℕ) → Option (List ℕ) → Type 0
  IsLeastGroup bound least = IsLeast (λ group. some_below state.ports (λ port. is_above bound group && has_group state group port)) least

  least_held : (bound least : Option (List ℕ)) → IsLeastGroup bound least → IsLeast (over bound is_held) least
  least_held bound least is =
      least_of_same (λ group. some_below state.ports (λ port. is_above bound group && has_group state group port)) (over bound is_held) least
      (λ group. and_below (is_above bound group) (has_group state group) state.ports) is

  -- ---- a group that is held

  is_group : (group : List ℕ) → is_held group ≡ true → IsGroupAddress family group
  is_group group is =
      let port = which_below (has_group state group) state.ports is in
      let held = any_of (IsReal family state.ports) (λ held. is_on port.0 held && same_address group held.key.group) state.records sound.real port.2 in
      subst (IsGroupAddress family) (sym (same_is group held.0.key.group (and_parts (is_on port.0 held.0) (same_address group held.0.key.group) held.2).1)) held.1.group

  is_of_record : (group : List ℕ) → is_held group ≡ true → list_any (λ (held : Record (List ℕ)). same_address group held.key.group) state.records ≡ true
  is_of_record group is =
      let port = which_below (has_group state group) state.ports is in
      any_wider (λ (held : Record (List ℕ)). is_on port.0 held && same_address group held.key.group) (λ (held : Record (List ℕ)). same_address group held.key.group) state.records
      (λ held both. (and_parts (is_on port.0 held) (same_address group held.key.group) both).1) port.2

  held_by : (group : List ℕ) (what : What (List ℕ)) (machine : Machine) (port : ℕ) → port < state.ports → machine_at (key_of port group what) state.records ≡ Some machine → is_held group ≡ true
  held_by group what machine port below held =
      found_below (has_group state group) state.ports port below
      (any_at apart (λ (key : Key (List ℕ)). eqb key.port port && same_address group key.group) (key_of port group what) machine state.records held
      (and_from (eqb port port) (same_address group group) (eq-eqb port port refl) (same_itself group)))

  -- ---- the groups of the form

  reported : (group : List ℕ) → is_listed group (groups_of form) ≡ has_something group form
  reported group = listed_group family group form demand.is.normal.groups ∙ some_told (group_in group form).star (group_in group form).sources

  -- each of them has a record on some port
  starred_is_held : (group : List ℕ) → IsGroupAddress family group → is_some (star_of group form) ≡ true → is_held group ≡ true
  starred_is_held group of_family some =
      let wanted = (and_parts (some_below state.ports (is_starred state group)) (is_neighbour neighbour (star_rpf_neighbour (via_of family table) (rp_of family table group)))
      (sym (demand.groups group of_family).star ∙ some)).0 in
      let port = which_below (is_starred state group) state.ports wanted in
      let held = told_state (machine_at (key_of port.0 group Star) state.records) (joined_is_some (state_on state.records port.0 group Star) port.2) in
      held_by group Star held.0 port.0 port.1 held.1

  sourced_is_held : (group : List ℕ) → IsGroupAddress family group → is_some (next_above None (sources_in group form)) ≡ true → is_held group ≡ true
  sourced_is_held group of_family some =
      let source = first_listed (IsSourceAddress family) (sources_in group form) (lists_of family group form demand.is.normal.groups).sources some in
      let wanted = (and_parts (some_below state.ports (is_source_joined state group source.0)) (is_neighbour neighbour (via_of family table source.0))
      (sym ((demand.groups group of_family).sources source.0 source.1) ∙ source.2)).0 in
      let port = which_below (is_source_joined state group source.0) state.ports wanted in
      let held = told_state (machine_at (key_of port.0 group (Source source.0)) state.records) (joined_is_some (state_on state.records port.0 group (Source source.0)) port.2) in
      held_by group (Source source.0) held.0 port.0 port.1 held.1

  all_held : AllPass is_held (groups_of form)
  all_held = all_listed (IsGroupAddress family) (λ group. is_held group ≡ true) (groups_of form) (groups_are family form demand.is.normal.groups)
      (λ group of_family listed.
      by_test (is_some (star_of group form))
      (λ e. starred_is_held group of_family e)
      (λ e. sourced_is_held group of_family (subst (λ b. b || is_some (next_above None (sources_in group form)) ≡ true) e (sym (reported group) ∙ listed))))

  -- ---- what the least tells

  pub found_group : (bound : Option (List ℕ)) (group : List ℕ) → IsLeastGroup bound (Some group) → IsGroupAddress family group
  found_group bound group is = is_group group (and_parts (is_above bound group) (is_held group) (least_held bound (Some group) is).0).1

  pub no_group_left : (bound : Option (List ℕ)) → IsLeastGroup bound None → next_above bound (groups_of form) ≡ None
  no_group_left bound is = none_left is_held bound (groups_of form) all_held (least_held bound None is)

  pub something_next : (bound : Option (List ℕ)) (group : List ℕ) (answer : Bool) → IsLeastGroup bound (Some group) → answer ≡ has_something group form → answer ≡ true → next_above bound (groups_of form) ≡ Some group
  something_next bound group answer is answers some =
      listed_next is_held bound group (groups_of form) all_held demand.is.normal.ascending (least_held bound (Some group) is) (reported group ∙ sym answers ∙ some)

  pub nothing_passed : (bound : Option (List ℕ)) (group : List ℕ) (answer : Bool) → IsLeastGroup bound (Some group) → answer ≡ has_something group form → answer ≡ false
      → next_above bound (groups_of form) ≡ next_above (Some group) (groups_of form)
  nothing_passed bound group answer is answers none =
      unlisted_passed is_held bound group (groups_of form) all_held (least_held bound (Some group) is) (reported group ∙ sym answers ∙ none)

  pub fewer_groups : (bound : Option (List ℕ)) (group : List ℕ) → IsLeastGroup bound (Some group)
      → count_above (λ (held : Record (List ℕ)). held.key.group) (Some group) state.records < count_above (λ (held : Record (List ℕ)). held.key.group) bound state.records
  fewer_groups bound group is =
      let passes = and_parts (is_above bound group) (is_held group) (least_held bound (Some group) is).0 in
      fewer_above (λ (held : Record (List ℕ)). held.key.group) bound group state.records passes.0 (is_of_record group passes.1)
