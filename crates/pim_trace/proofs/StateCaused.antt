-- The machines that a trace with the state lists: the events show the packets that set their timers, and since when each is held.
use Rattle.pim_trace.proofs.Words.{◌≡◌, ◌∙◌, ℕ, ◌-◌, Bool, true, false, not, ◌&&◌, if◌then◌else◌, List, [], ◌∷◌, ◌++◌, map}
use Rattle.pim_trace.proofs.Words.{Option, None, Some, unwrap_or, refl, sym, ap, subst, false≢true, AllByRecursion, is_eq, Less}
use Rattle.pim_trace.proofs.Words.{Key, Machine, Record, State, Expiry, KeysAreDistinct, same_key, key_cmp, IsAscending, IsBelow}
use Rattle.pim_trace.proofs.Words.{machine_at, state_of_machine, AddressFamily, End, MergeState, RouterState, Cause}
use Rattle.pim_trace.proofs.Words.{Fired}
use Rattle.pim_trace.proofs.Words.{TransitionEvent, Happened, Occurrence, hello_heard, packet_judged, machine_changed}
use Rattle.pim_trace.proofs.Words.{join_ignored, own_restart, record_skipped, neighbour_gone, Ledger, no_cause, both_by}
use Rattle.pim_trace.proofs.Words.{causes_of}
use Rattle.pim_trace.proofs.Words.{ledger_for, ending, key_on, last_of, last_setting, names, states_by, states_shown}
use Rattle.pim_trace.proofs.Words.{since_by, last_begun, last_set, end_moment, clock_of}
use Rattle.std.specs.Option.{is_some}
use Rattle.pim_events.specs.Events.{timer_fired, machine_held, entry_wanted, run_ended}
use Rattle.pim_events.specs.declared.event.HeldMachine.{HeldMachine}
use Rattle.pim_events.specs.declared.event.WantedEntry.{WantedEntry}
use Rattle.pim_trace.specs.StateEvents.{held_machine, held_event, held_events, wanted_event, wanted_events, demand_entries}
use Rattle.pim_trace.specs.StateTrace.{IsStateTrace}
use Rattle.pim_trace.specs.StateLaws.{StateNamesCauses, is_of_state}
use Rattle.pim_trace.proofs.Caused.{at_end, last_only, known_end, no_packet}
use Rattle.pim_trace.proofs.Folding.{Known, knowing, known_of, state_in, end_in, changed_known, fired_known, LeadsBy}
use Rattle.pim_trace.proofs.Folding.{tells_nothing}
use Rattle.pim_trace.proofs.Folding.{tells_change, tells_firing, Leads, leads_nowhere, leads_past, place, known_at, LeadsAll}
use Rattle.pim_trace.proofs.Folding.{all_on}
use Rattle.pim_trace.proofs.FoldedTrace.{Given, run_leads}
use Rattle.pim_trace.proofs.StateListed.{Plain, plain_run, all_append}

-- ---- since when a machine is held

module _ (key : Key (List ℕ)) where
  -- a machine that is held left NoInfo at this moment
  abbrev pub Since : Option Known → ℕ → Type 0
  Since known since = (held : Known) → known ≡ Some held → held.since ≡ since

  same_known : (a b : Known) → ◌≡◌ {A = Option Known} (Some a) (Some b) → a ≡ b
  same_known a b e = cc

  no_known : (a : Known) → ◌≡◌ {A = Option Known} None (Some a) → ⊥
  no_known a e = cc

  abbrev shown_if : Bool → Option State × Option State → Option (Option State × Option State)
  shown_if b states = if b then Some states else None

  nothing_since : (since ms : ℕ) (port : Option ℕ) (what : Happened) → states_by key port what ≡ None →
      since_by key since ms port what ≡ since
  nothing_since since ms port (machine_changed change) none = unnamed (names key port change.group change.what) none
    where
      unnamed : (b : Bool) → shown_if b (change.before, state_of_machine change.after) ≡ None →
          (if b && not (is_some change.before) then ms else since) ≡ since
      unnamed true e = absurd cc
      unnamed false e = refl
  nothing_since since ms port (timer_fired firing) none = refl
  nothing_since since ms port (hello_heard hello) none = refl
  nothing_since since ms port (packet_judged packet) none = refl
  nothing_since since ms port (join_ignored entry) none = refl
  nothing_since since ms port (own_restart restart) none = refl
  nothing_since since ms port (record_skipped skipped) none = refl
  nothing_since since ms port (neighbour_gone over) none = refl
  nothing_since since ms port (machine_held machine) none = refl
  nothing_since since ms port (entry_wanted entry) none = refl
  nothing_since since ms port (run_ended ending) none = refl

  changed_since : (ms since : ℕ) (change : TransitionEvent (List ℕ)) (from : Option Known) → change.before ≡ state_in from →
      Since from since → (after : Option Machine)
      → Since (changed_known ms change from after) (if not (is_some change.before) then ms else since)
  changed_since ms since change from was set None held e = absurd (no_known held e)
  changed_since ms since change None was set (Some machine) held e =
      ap (λ (k : Known). k.since) (sym (same_known _ held e))
      ∙ sym (ap (λ (b : Option State). if not (is_some b) then ms else since) was)
  changed_since ms since change (Some known) was set (Some machine) held e =
      ap (λ (k : Known). k.since) (sym (same_known _ held e)) ∙ set known refl
      ∙ sym (ap (λ (b : Option State). if not (is_some b) then ms else since) was)

  fired_since : (firing : Fired (List ℕ)) (known : Known) (since : ℕ) → known.since ≡ since → (after : Option State) →
      Since (fired_known firing known after) since
  fired_since firing known since is None held e = absurd (no_known held e)
  fired_since firing known since is (Some state) held e = ap (λ (k : Known). k.since) (sym (same_known _ held e)) ∙ is

  since_on : (from to : Option Known) (event : Occurrence) (since : ℕ) → LeadsBy key from event to → Since from since →
      Since to (since_by key since event.ms event.port event.what)
  since_on from to event since (tells_nothing none same) set =
      subst (λ (n : ℕ). Since to n) (sym (nothing_since since event.ms event.port event.what none))
      (subst (λ (k : Option Known). Since k since) (sym same) set)
  since_on from to event since (tells_change c) set =
      let by : since_by key since event.ms event.port event.what ≡ (if not (is_some c.change.before) then event.ms else since) =
      ap (since_by key since event.ms event.port) c.what
      ∙ ap (λ (b : Bool). if b && not (is_some c.change.before) then event.ms else since) c.affected in
      subst (λ (n : ℕ). Since to n) (sym by)
      (subst (λ (k : Option Known). Since k (if not (is_some c.change.before) then event.ms else since)) (sym c.now)
      (changed_since event.ms since c.change from c.was set c.change.after))
  since_on from to event since (tells_firing f) set =
      subst (λ (n : ℕ). Since to n) (sym (ap (since_by key since event.ms event.port) f.what))
      (subst (λ (k : Option Known). Since k since) (sym f.now)
      (fired_since f.firing f.held since (set f.held f.was) f.firing.after))

  pub since_at_end : (events : List Occurrence) (from to : Option Known) (since : ℕ) → Since from since →
      Leads key from events to → Since to (last_begun key since events)
  unfolding Leads last_begun
  since_at_end [] from to since set leads = subst (λ (k : Option Known). Since k since) leads set
  since_at_end (first ∷ more) from to since set (between, one, rest) =
      since_at_end more between to (since_by key since first.ms first.port first.what)
      (since_on from between first since one set) rest

-- of a machine that is held at the start, nothing is remembered
since_start : (group : List ℕ) (ms : ℕ) (machine : Option Machine) (held : Known) →
    known_of ms (both_by (no_cause group)) machine ≡ Some held → held.since ≡ 0
since_start group ms None held e = absurd cc
since_start group ms (Some machine) held e = ap (λ (k : Known). k.since) (sym same)
  where
    same : knowing ms (both_by (no_cause group)) machine ≡ held
    same = cc

-- ---- the events of the state lead nowhere

module _ (key : Key (List ℕ)) where
  quiet_events : (held : Option Known) (events : List Occurrence) →
      AllByRecursion (λ event. states_shown key event ≡ None) events → Leads key held events held
  quiet_events held [] all = leads_nowhere key held
  quiet_events held (event ∷ events) all = leads_past key held held event events all.0 (quiet_events held events all.1)

  held_quiet : (ledger : Ledger) (ms : ℕ) (records : List (Record (List ℕ))) →
      AllByRecursion (λ event. states_shown key event ≡ None) (map (held_event ledger ms) records)
  held_quiet ledger ms [] = tt
  held_quiet ledger ms (first ∷ records) = (refl, held_quiet ledger ms records)

  wanted_quiet : (ms : ℕ) (epoch : Option ℕ) (entries : List (WantedEntry (List ℕ))) →
      AllByRecursion (λ event. states_shown key event ≡ None) (map (wanted_event ms epoch) entries)
  wanted_quiet ms epoch [] = tt
  wanted_quiet ms epoch (first ∷ entries) = (refl, wanted_quiet ms epoch entries)

-- ---- each record is found at its key

module _ (apart : KeysAreDistinct) where
  not_same : (first later : Key (List ℕ)) → key_cmp first later ≡ Less → same_key later first ≡ false
  not_same first later less =
      elim (same_key later first) as (λ b. same_key later first ≡ b → b ≡ false) [
        | true ↦ λ e.
            let one : later ≡ first = (apart later first).1.0 e in
            absurd (false≢true (sym (ap is_eq less) ∙ (apart first later).1.1 (sym one)))
        | false ↦ λ e. refl
      ] refl

  found_later : (first : Record (List ℕ)) (records some : List (Record (List ℕ))) → IsBelow first.key some
      → AllByRecursion (λ (r : Record (List ℕ)). machine_at r.key records ≡ Some r.machine) some
      → AllByRecursion (λ (r : Record (List ℕ)). machine_at r.key (first ∷ records) ≡ Some r.machine) some
  unfolding IsBelow machine_at
  found_later first records [] below all = tt
  found_later first records (r ∷ some) below all = (
    ap (λ (b : Bool). if b then Some first.machine else machine_at r.key records) (not_same first.key r.key below.0) ∙ all.0,
    found_later first records some below.1 all.1,
  )

  found : (records : List (Record (List ℕ))) → IsAscending records →
      AllByRecursion (λ (r : Record (List ℕ)). machine_at r.key records ≡ Some r.machine) records
  unfolding IsAscending machine_at
  found [] up = tt
  found (first ∷ records) up = (
    ap (λ (b : Bool). if b then Some first.machine else machine_at first.key records) ((apart first.key first.key).1.1 refl),
    found_later first records records up.0 (found records up.1),
  )

-- ---- a trace with the state

in_list : {A : Type 0} (P : A → Type 0) (xs earlier later : List A) (x : A) → xs ≡ earlier ++ x ∷ later → AllByRecursion P xs
    → P x
in_list {A = A} P xs earlier later x is all = behind earlier (subst (AllByRecursion P) is all)
  where
    behind : (before : List A) → AllByRecursion P (before ++ x ∷ later) → P x
    behind [] all = all.0
    behind (first ∷ before) all = behind before all.1

module _ (given : Given) (family : AddressFamily) (end : End) (merge : MergeState) (state : RouterState)
    (events : List Occurrence) (ledger : Ledger)
    (after : RouterState) (up : IsAscending state.machines.records)
    (t : IsStateTrace family end merge state events ledger after) where
  abbrev ms : ℕ
  ms = after.machines.moment

  abbrev held : List Occurrence
  held = held_events ledger after

  abbrev wanted : List Occurrence
  wanted = wanted_events family ledger after t.form

  abbrev last : List Occurrence
  last = ending ledger after ∷ []

  reported_lead : LeadsAll (place (ledger_for state) state) t.reported (place ledger after)
  reported_lead = run_leads given family t.wrote.taken (end_moment end (clock_of merge.clock t.wrote.taken)) state after
      t.reported ledger up t.wrote.runs

  closing_quiet : (key : Key (List ℕ)) → AllByRecursion (λ event. states_shown key event ≡ None) ((held ++ wanted) ++ last)
  closing_quiet key =
      all_append (λ event. states_shown key event ≡ None) (held ++ wanted) last
      (all_append (λ event. states_shown key event ≡ None) held wanted (held_quiet key ledger ms after.machines.records)
      (wanted_quiet key ms _ (demand_entries family after.routes t.form)))
      (refl, tt)

  all_lead : LeadsAll (place (ledger_for state) state) events (place ledger after)
  all_lead =
      subst (λ (es : List Occurrence). LeadsAll (place (ledger_for state) state) es (place ledger after)) (sym t.events_are)
      (all_on (place (ledger_for state) state) (place ledger after) (place ledger after) t.reported
      ((held ++ wanted) ++ last) reported_lead (record {
        ascending = reported_lead.ascending;
        each = λ key. quiet_events key (known_at key (place ledger after)) ((held ++ wanted) ++ last) (closing_quiet key);
      }))

  -- what is said of a machine with this key
  abbrev Says : Key (List ℕ) → HeldMachine (List ℕ) → Type 0
  Says key said =
      (said.cause ≡ unwrap_or (last_setting state Expiry key events) (no_cause key.group)) ×
      (said.held_for ≡ ms - last_begun key 0 events)

  abbrev start : Key (List ℕ) → Option Known
  start key = known_at key (place (ledger_for state) state)

  says : (r : Record (List ℕ)) → machine_at r.key after.machines.records ≡ Some r.machine → Says r.key (held_machine ledger ms r)
  says r here =
      let key = r.key in
      let known = knowing ms (causes_of key ledger) r.machine in
      let is_known : known_at key (place ledger after) ≡ Some known = ap (known_of ms (causes_of key ledger)) here in
      let by : known.by Expiry ≡ unwrap_or (last_of None (last_set Expiry key (end_in Expiry (start key)) events))
      (no_cause key.group) =
      at_end (λ o packet. packet ≡ unwrap_or o (no_cause key.group)) (λ packet. refl) key Expiry events (start key)
      (known_at key (place ledger after)) None
      (λ held is. no_packet Expiry key.group state.machines.moment (machine_at key state.machines.records) held is)
      (all_lead.each key) known is_known in
      let since : known.since ≡ last_begun key 0 events =
      since_at_end key events (start key) (known_at key (place ledger after)) 0
      (λ held is. since_start key.group state.machines.moment (machine_at key state.machines.records) held is)
      (all_lead.each key) known is_known in (
        by
            ∙ ap (λ (o : Option (Cause (List ℕ))). unwrap_or o (no_cause key.group))
            (last_only (last_set Expiry key (end_in Expiry (start key)) events)
            ∙ ap (λ (e : Option ℕ). last_set Expiry key e events)
            (known_end Expiry state.machines.moment (both_by (no_cause key.group)) (machine_at key state.machines.records))),
        ap (λ n. ms - n) since,
      )

  -- what is said by an event
  abbrev Names : Occurrence → Type 0
  Names event = (port : ℕ) (said : HeldMachine (List ℕ)) → event.port ≡ Some port → event.what ≡ machine_held said →
      (said.cause ≡ unwrap_or (last_setting state Expiry (key_on port said.group said.what) events) (no_cause said.group))
      × (said.held_for ≡ event.ms - last_begun (key_on port said.group said.what) 0 events)

  same_port : (a b : ℕ) → ◌≡◌ {A = Option ℕ} (Some a) (Some b) → a ≡ b
  same_port a b e = cc

  same_held : (a b : HeldMachine (List ℕ)) → machine_held a ≡ machine_held b → a ≡ b
  same_held a b e = cc

  plain_names : (es : List Occurrence) → Plain es → AllByRecursion Names es
  plain_names [] plain = tt
  plain_names (event ∷ es) plain = (
    λ port said on what. absurd (false≢true (sym plain.0 ∙ ap is_of_state what)),
    plain_names
        es plain.1,
  )

  held_names : (records : List (Record (List ℕ))) →
      AllByRecursion (λ (r : Record (List ℕ)). machine_at r.key after.machines.records ≡ Some r.machine) records
      → AllByRecursion Names (map (held_event ledger ms) records)
  held_names [] all = tt
  held_names (r ∷ records) all = (
    λ port said on what.
        subst (λ (p : ℕ). Says (key_on p said.group said.what) said) (same_port r.key.port port on)
        (subst (λ (h : HeldMachine (List ℕ)). Says (key_on r.key.port h.group h.what) h)
        (same_held (held_machine ledger ms r) said what) (says r all.0)),
    held_names records all.1,
  )

  wanted_names : (entries : List (WantedEntry (List ℕ))) (epoch : Option ℕ) →
      AllByRecursion Names (map (wanted_event ms epoch) entries)
  wanted_names [] epoch = tt
  wanted_names (first ∷ entries) epoch = (λ port said on what. absurd (no_port port on), wanted_names entries epoch)
    where
      no_port : (port : ℕ) → ◌≡◌ {A = Option ℕ} None (Some port) → ⊥
      no_port port e = cc

  last_names : AllByRecursion Names last
  last_names = (λ port said on what. absurd (no_port port on), tt)
    where
      no_port : (port : ℕ) → ◌≡◌ {A = Option ℕ} None (Some port) → ⊥
      no_port port e = cc

  all_names : AllByRecursion Names events
  all_names =
      subst (AllByRecursion Names) (sym t.events_are)
      (all_append Names t.reported ((held ++ wanted) ++ last)
      (plain_names t.reported (plain_run family t.wrote.taken _ state after t.reported ledger t.wrote.runs))
      (all_append Names (held ++ wanted) last
      (all_append Names held wanted (held_names after.machines.records
      (found given.apart after.machines.records reported_lead.ascending))
      (wanted_names (demand_entries family after.routes t.form) _))
      last_names))

pub state_names : Given → StateNamesCauses
state_names given family end merge state events ledger after up t earlier later event port said is on what =
    in_list (Names given family end merge state events ledger after up t) events earlier later event is
    (all_names given family end merge state events ledger after up t) port said on what
