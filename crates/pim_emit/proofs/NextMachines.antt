-- The next record of a group on a port tells the least source with a machine of one kind.
use Rattle.pim_emit.proofs.Words.{◌≡◌, ◌∙◌, ℕ, Bool, true, false, ◌&&◌, List, Option, None, Some, eqb, refl, sym, ap, subst}
use Rattle.pim_emit.proofs.Words.{option_map, Ordering, Less, Equal, Greater, nat_cmp, is_lt, is_le, is_eq, is_some, false≢true}
use Rattle.pim_emit.proofs.Words.{eqb-true, eq-eqb, and_parts, and_from, nat_cmp_total, tied_itself, AddressFamily, is_above}
use Rattle.pim_emit.proofs.Words.{next_in_group, MachinesLeft, next_machine, left_behind, What, Star, Source, Rpt, Key, Machine}
use Rattle.pim_emit.proofs.Words.{Record, State, address_cmp, what_cmp, key_cmp, KeysAreDistinct, IsAscending, machine_at}
use Rattle.pim_emit.proofs.Words.{state_of_machine, what_seen, record_of_seen, IsSound, IsReal, joined_or_pending, Downstream}
use Rattle.pim_emit.proofs.Words.{is_joined, state_on, passed, machines_behind, IsLeast, is_source_joined, has_rpt}
use Rattle.pim_down.specs.declared.machines.machine.State.TheVariants.{Join, PrunePending, Prune, PruneTmp, PrunePendingTmp}
use Rattle.pim_emit.proofs.Addresses.{equal_is, itself}
use Rattle.pim_emit.proofs.Above.{by_test}
use Rattle.pim_emit.proofs.FirstRecords.{held_at, none_at, found_passes, found_is_held, found_is_first}

-- ---- states

joined_of : (state : State) → joined_or_pending state ≡ true → is_joined (Some state) ≡ true
joined_of Join e = refl
joined_of PrunePending e = refl
joined_of Prune e = e
joined_of PruneTmp e = e
joined_of PrunePendingTmp e = e

-- ---- keys of one group on one port

abbrev pub key_of : ℕ → List ℕ → What (List ℕ) → Key (List ℕ)
key_of port group what = record { port = port; group = group; what = what }

nat_itself : (n : ℕ) → nat_cmp n n ≡ Equal
nat_itself n = tied_itself nat_cmp_total n

by_what : (port : ℕ) (group : List ℕ) (what this : What (List ℕ)) → key_cmp (key_of port group what) (key_of port group this) ≡ what_cmp what this
unfolding key_cmp
by_what port group what this = rw (nat_itself port, itself group) refl

is_equal : (r : Ordering) → is_eq r ≡ true → r ≡ Equal
is_equal Less e = absurd (false≢true e)
is_equal Equal e = refl
is_equal Greater e = absurd (false≢true e)

-- the test of the next record, of its key
abbrev after : ℕ → List ℕ → What (List ℕ) → Key (List ℕ) → Bool
after port group what key = eqb key.port port && (is_eq (address_cmp key.group group) && is_lt (what_cmp what key.what))

after_of : (port : ℕ) (group : List ℕ) (what this : What (List ℕ)) → after port group what (key_of port group this) ≡ is_lt (what_cmp what this)
after_of port group what this = rw (eq-eqb port port refl, itself group) refl

-- a key that passes is of this port and group
same_key_of : (port : ℕ) (group : List ℕ) (what : What (List ℕ)) (key : Key (List ℕ)) → after port group what key ≡ true → key ≡ key_of port group key.what
same_key_of port group what key passes =
    let parts = and_parts (eqb key.port port) (is_eq (address_cmp key.group group) && is_lt (what_cmp what key.what)) passes in
    let behind = and_parts (is_eq (address_cmp key.group group)) (is_lt (what_cmp what key.what)) parts.1 in
    let ports = eqb-true key.port port parts.0 in
    let groups = equal_is key.group group (is_equal (address_cmp key.group group) behind.0) in
    λ i. record { port = ports i; group = groups i; what = key.what }

comes_after : (port : ℕ) (group : List ℕ) (what : What (List ℕ)) (key : Key (List ℕ)) → after port group what key ≡ true → is_lt (what_cmp what key.what) ≡ true
comes_after port group what key passes =
    let parts = and_parts (eqb key.port port) (is_eq (address_cmp key.group group) && is_lt (what_cmp what key.what)) passes in
    (and_parts (is_eq (address_cmp key.group group)) (is_lt (what_cmp what key.what)) parts.1).1

-- ---- the least source with a machine of one kind

-- A kind of machines with a source: which machine comes after the bound, and that a source passes the test if its machine
-- is held.
record IsKind (records : List (Record (List ℕ))) (port : ℕ) (group : List ℕ) (what : What (List ℕ)) (bound : Option (List ℕ)) (kind : List ℕ → What (List ℕ)) (test : List ℕ → Bool) : Type 0 where
  order : (a b : List ℕ) → what_cmp (kind a) (kind b) ≡ address_cmp a b
  over : (a : List ℕ) → is_lt (what_cmp what (kind a)) ≡ is_above bound a
  holds : (a : List ℕ) (machine : Machine) → machine_at (key_of port group (kind a)) records ≡ Some machine → test a ≡ true
  carries : (a : List ℕ) → test a ≡ true → (machine : Machine) × (machine_at (key_of port group (kind a)) records ≡ Some machine)
  beyond : (this : What (List ℕ)) → ((a : List ℕ) → this ≡ kind a → ⊥) → is_lt (what_cmp what this) ≡ true → (a : List ℕ) → is_le (what_cmp this (kind a)) ≡ false

module _ (apart : KeysAreDistinct) {records : List (Record (List ℕ))} {port : ℕ} {group : List ℕ} {what : What (List ℕ)} {bound : Option (List ℕ)} {kind : List ℕ → What (List ℕ)} {test : List ℕ → Bool}
    (is : IsKind records port group what bound kind test) (up : IsAscending records) where
  abbrev over_bound : List ℕ → Bool
  over_bound a = is_above bound a && test a

  none_is_next : next_in_group port group what records ≡ None → IsLeast over_bound None
  none_is_next none a =
      by_test (is_above bound a && test a)
      (λ e.
      let parts = and_parts (is_above bound a) (test a) e in
      let held = is.carries a parts.1 in
      absurd (false≢true (sym (none_at apart (after port group what) (key_of port group (kind a)) held.0 records none held.1)
      ∙ after_of port group what (kind a) ∙ is.over a ∙ parts.0)))
      (λ e. e)

  -- what is found isn't behind a machine of the kind that comes after the bound
  first_of_kind : (found : Record (List ℕ)) → next_in_group port group what records ≡ Some found → (a : List ℕ) → over_bound a ≡ true → is_le (what_cmp found.key.what (kind a)) ≡ true
  first_of_kind found next a passes =
      let parts = and_parts (is_above bound a) (test a) passes in
      let held = is.carries a parts.1 in
      let first = found_is_first apart (after port group what) records found (key_of port group (kind a)) held.0 up next held.1 (after_of port group what (kind a) ∙ is.over a ∙ parts.0) in
      let same = same_key_of port group what found.key (found_passes apart (after port group what) records found next) in
      sym (ap is_le (by_what port group found.key.what (kind a))) ∙ subst (λ (k : Key (List ℕ)). is_le (key_cmp k (key_of port group (kind a))) ≡ true) same first

  -- the machine that is found is the one that is held
  is_held_at : (found : Record (List ℕ)) (source : List ℕ) → next_in_group port group what records ≡ Some found → found.key.what ≡ kind source
      → machine_at (key_of port group (kind source)) records ≡ Some found.machine
  is_held_at found source next of_kind =
      let passes = found_passes apart (after port group what) records found next in
      let same : found.key ≡ key_of port group (kind source) = same_key_of port group what found.key passes ∙ ap (λ w. key_of port group w) of_kind in
      subst (λ (k : Key (List ℕ)). machine_at k records ≡ Some found.machine) same (found_is_held apart (after port group what) records found up next)

  one_is_next : (found : Record (List ℕ)) (source : List ℕ) → next_in_group port group what records ≡ Some found → found.key.what ≡ kind source → IsLeast over_bound (Some source)
  one_is_next found source next of_kind =
      let passes = found_passes apart (after port group what) records found next in
      let held = is_held_at found source next of_kind in
      let above : is_above bound source ≡ true = sym (is.over source) ∙ sym (ap (λ w. is_lt (what_cmp what w)) of_kind) ∙ comes_after port group what found.key passes in (
        and_from (is_above bound source) (test source) above (is.holds source found.machine held),
        λ a passed. ap is_le (sym (is.order source a)) ∙ subst (λ (w : What (List ℕ)). is_le (what_cmp w (kind a)) ≡ true) of_kind (first_of_kind found next a passed),
      )

  other_is_next : (found : Record (List ℕ)) → next_in_group port group what records ≡ Some found → ((a : List ℕ) → found.key.what ≡ kind a → ⊥) → IsLeast over_bound None
  other_is_next found next other a =
      by_test (is_above bound a && test a)
      (λ e. absurd (false≢true (sym (is.beyond found.key.what other (comes_after port group what found.key (found_passes apart (after port group what) records found next)) a) ∙ first_of_kind found next a e)))
      (λ e. e)

-- ---- (S,G)

sources_over : (bound : Option (List ℕ)) (a : List ℕ) → is_lt (what_cmp (passed bound) (Source a)) ≡ is_above bound a
unfolding what_cmp
sources_over None a = refl
sources_over (Some source) a = refl

sources_order : (a b : List ℕ) → what_cmp (Source a) (Source b) ≡ address_cmp a b
unfolding what_cmp
sources_order a b = refl

after_sources : (bound : Option (List ℕ)) (this : What (List ℕ)) → ((a : List ℕ) → this ≡ Source a → ⊥) → is_lt (what_cmp (passed bound) this) ≡ true → (a : List ℕ) → is_le (what_cmp this (Source a)) ≡ false
unfolding what_cmp
after_sources None Star other less a = absurd (false≢true less)
after_sources (Some source) Star other less a = absurd (false≢true less)
after_sources bound (Source b) other less a = absurd (other b refl)
after_sources bound (Rpt b) other less a = refl

pub told_state : (held : Option Machine) → is_some (state_of_machine held) ≡ true → (machine : Machine) × (held ≡ Some machine)
told_state None e = absurd (false≢true e)
told_state (Some machine) e = (machine, refl)

pub joined_is_some : (state : Option State) → is_joined state ≡ true → is_some state ≡ true
joined_is_some None e = e
joined_is_some (Some state) e = refl

module _ (apart : KeysAreDistinct) (family : AddressFamily) (state : Downstream) (sound : IsSound family state) (port : ℕ) (group : List ℕ) where
  -- a source whose machine is held is joined
  source_is_joined : (source : List ℕ) (machine : Machine) → machine_at (key_of port group (Source source)) state.records ≡ Some machine → is_source_joined state group source port ≡ true
  source_is_joined source machine held =
      ap (λ m. is_joined (state_of_machine m)) held
      ∙ joined_of machine.state (held_at apart (IsReal family state.ports) (key_of port group (Source source)) machine state.records sound.real held).state

  sources : (bound : Option (List ℕ)) → IsKind state.records port group (passed bound) bound Source (λ source. is_source_joined state group source port)
  sources bound = record {
    order = sources_order;
    over = sources_over bound;
    holds = source_is_joined;
    carries = λ a e. told_state (machine_at (key_of port group (Source a)) state.records) (joined_is_some (state_on state.records port group (Source a)) e);
    beyond = after_sources bound;
  }

  pub no_source_next : (bound : Option (List ℕ)) → next_in_group port group (passed bound) state.records ≡ None → IsLeast (λ source. is_above bound source && is_source_joined state group source port) None
  no_source_next bound none = none_is_next apart (sources bound) sound.ascending none

  pub source_next : (bound : Option (List ℕ)) (found : Record (List ℕ)) (source : List ℕ) → next_in_group port group (passed bound) state.records ≡ Some found → found.key.what ≡ Source source
      → IsLeast (λ source. is_above bound source && is_source_joined state group source port) (Some source)
  source_next bound found source next is = one_is_next apart (sources bound) sound.ascending found source next is

  pub other_next : (bound : Option (List ℕ)) (found : Record (List ℕ)) → next_in_group port group (passed bound) state.records ≡ Some found → ((a : List ℕ) → found.key.what ≡ Source a → ⊥)
      → IsLeast (λ source. is_above bound source && is_source_joined state group source port) None
  other_next bound found next other = other_is_next apart (sources bound) sound.ascending found next other

-- ---- machines that are told one after another

module _ (state : Downstream) (port : ℕ) (group : List ℕ) (what : What (List ℕ)) (old : MachinesLeft) (was : old ≡ machines_behind state port group what) where
  pub told_next : {A : Type 0} (bytes_of : A → List ℕ) (result found : Option (Record A)) → option_map (record_of_seen bytes_of) result ≡ next_machine old → result ≡ found
      → next_in_group port group what state.records ≡ option_map (record_of_seen bytes_of) found
  told_next bytes_of result found reported is = sym (ap next_machine was) ∙ sym reported ∙ ap (option_map (record_of_seen bytes_of)) is

  -- those behind the one that was told, of which the group and the port are these
  pub left_of : KeysAreDistinct → (new : MachinesLeft) (found : Record (List ℕ)) (this : What (List ℕ)) → new ≡ left_behind old (next_machine old)
      → next_in_group port group what state.records ≡ Some found → found.key.what ≡ this → new ≡ machines_behind state port group this
  left_of apart new found this left next is =
      let same : found.key ≡ key_of port group this = same_key_of port group what found.key (found_passes apart (after port group what) state.records found next) ∙ ap (λ w. key_of port group w) is in
      left ∙ ap (λ (o : MachinesLeft). left_behind o (next_machine o)) was ∙ ap (left_behind (machines_behind state port group what)) next ∙ ap (at_key state) same
    where
      at_key : Downstream → Key (List ℕ) → MachinesLeft
      at_key held key = record { records = held.records; behind = key }

-- ---- (S,G,rpt)

rpts_over : (bound a : List ℕ) → is_lt (what_cmp (Rpt bound) (Rpt a)) ≡ is_above (Some bound) a
unfolding what_cmp
rpts_over bound a = refl

rpts_order : (a b : List ℕ) → what_cmp (Rpt a) (Rpt b) ≡ address_cmp a b
unfolding what_cmp
rpts_order a b = refl

after_rpts : (bound : List ℕ) (this : What (List ℕ)) → ((a : List ℕ) → this ≡ Rpt a → ⊥) → is_lt (what_cmp (Rpt bound) this) ≡ true → (a : List ℕ) → is_le (what_cmp this (Rpt a)) ≡ false
unfolding what_cmp
after_rpts bound Star other less a = absurd (false≢true less)
after_rpts bound (Source b) other less a = absurd (false≢true less)
after_rpts bound (Rpt b) other less a = absurd (other b refl)

module _ (apart : KeysAreDistinct) (family : AddressFamily) (state : Downstream) (sound : IsSound family state) (port : ℕ) (group bound : List ℕ) where
  rpts : IsKind state.records port group (Rpt bound) (Some bound) Rpt (has_rpt state port group)
  rpts = record {
    order = rpts_order;
    over = rpts_over bound;
    holds = λ a machine held. ap (λ m. is_some (state_of_machine m)) held;
    carries = λ a e. told_state (machine_at (key_of port group (Rpt a)) state.records) e;
    beyond = after_rpts bound;
  }

  pub no_rpt_next : next_in_group port group (Rpt bound) state.records ≡ None → IsLeast (λ source. is_above (Some bound) source && has_rpt state port group source) None
  no_rpt_next none = none_is_next apart rpts sound.ascending none

  pub rpt_next : (found : Record (List ℕ)) (source : List ℕ) → next_in_group port group (Rpt bound) state.records ≡ Some found → found.key.what ≡ Rpt source
      → IsLeast (λ source. is_above (Some bound) source && has_rpt state port group source) (Some source)
  rpt_next found source next is = one_is_next apart rpts sound.ascending found source next is

  pub rpt_state : (found : Record (List ℕ)) (source : List ℕ) → next_in_group port group (Rpt bound) state.records ≡ Some found → found.key.what ≡ Rpt source
      → state_on state.records port group (Rpt source) ≡ Some found.machine.state
  rpt_state found source next is = ap (λ m. state_of_machine m) (is_held_at apart rpts sound.ascending found source next is)

  pub other_than_rpt_next : (found : Record (List ℕ)) → next_in_group port group (Rpt bound) state.records ≡ Some found → ((a : List ℕ) → found.key.what ≡ Rpt a → ⊥)
      → IsLeast (λ source. is_above (Some bound) source && has_rpt state port group source) None
  other_than_rpt_next found next other = other_is_next apart rpts sound.ascending found next other

-- ---- what is told by the ports

module _ {A : Type 0} (bytes_of : A → List ℕ) where
  pub no_source_seen : (what : What A) → ((source : A) → what ≡ Source source → ⊥) → (address : List ℕ) → what_seen bytes_of what ≡ Source address → ⊥
  no_source_seen Star none address is = cc
  no_source_seen (Source source) none address is = none source refl
  no_source_seen (Rpt source) none address is = cc

  pub no_rpt_seen : (what : What A) → ((source : A) → what ≡ Rpt source → ⊥) → (address : List ℕ) → what_seen bytes_of what ≡ Rpt address → ⊥
  no_rpt_seen Star none address is = cc
  no_rpt_seen (Source source) none address is = cc
  no_rpt_seen (Rpt source) none address is = none source refl
