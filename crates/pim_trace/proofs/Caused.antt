-- What events that lead each machine on say of its states, and of the causes of its firings.
use Rattle.pim_trace.proofs.Words.{◌≡◌, ◌∙◌, ℕ, Bool, true, false, not, ◌&&◌, if◌then◌else◌, List, [], ◌∷◌, ◌++◌, Option, None}
use Rattle.pim_trace.proofs.Words.{Some, unwrap_or, refl, sym, ap, subst, false≢true, Key, What, Machine, State, Timer}
use Rattle.pim_trace.proofs.Words.{PrunePending, Expiry, KeysAreDistinct, machine_at, state_of_machine, state_of, RouterState}
use Rattle.pim_trace.proofs.Words.{Cause, Fired, TransitionEvent, Happened, Occurrence, hello_heard, packet_judged}
use Rattle.pim_trace.proofs.Words.{machine_changed, join_ignored, Causes, end_of, end_after, end_then, end_by, sets, packet_of}
use Rattle.pim_trace.proofs.Words.{set_by, last_of, last_set, key_on, last_setting, ends_pending, EventsNameTheirPackets}
use Rattle.pim_trace.proofs.Words.{is_pending, names, states_by, states_shown, state_then, BeginsIn, last_shown, IsUnbroken}
use Rattle.pim_trace.proofs.Words.{LeadOn, Ledger, no_cause, both_by, cause_of, ledger_for}
use Rattle.pim_events.specs.Events.{own_restart, record_skipped, neighbour_gone, timer_fired, machine_held, entry_wanted}
use Rattle.pim_events.specs.Events.{run_ended}
use Rattle.pim_trace.proofs.Folding.{Known, known_of, state_in, end_in, by_or, pending_frame, changed_known, fired_known}
use Rattle.pim_trace.proofs.Folding.{LeadsBy, tells_nothing, tells_change, tells_firing, Leads, place, known_at}
use Rattle.pim_trace.proofs.Folding.{LeadsAll}

-- ---- states

module _ (key : Key (List ℕ)) where
  -- what an event tells of the states
  pub record Writes (from : Option Known) (event : Occurrence) (to : Option Known) : Type 0 where
    pub begins : BeginsIn (state_in from) (states_shown key event)
    pub ends : state_then (state_in from) (states_shown key event) ≡ state_in to

  tells_states : (from to : Option Known) (event : Occurrence) (before after : Option State) →
      states_shown key event ≡ Some (before, after) → before ≡ state_in from → after ≡ state_in to →
      Writes from event to
  tells_states from to event before after reported was now = record {
    begins = rw reported was;
    ends = rw reported now;
  }

  changed_state : (ms : ℕ) (change : TransitionEvent (List ℕ)) (from : Option Known) (machine : Option Machine) →
      state_of_machine machine ≡ state_in (changed_known ms change from machine)
  changed_state ms change from None = refl
  changed_state ms change from (Some machine) = refl

  fired_state : (firing : Fired (List ℕ)) (held : Known) (after : Option State) →
      after ≡ state_in (fired_known firing held after)
  fired_state firing held None = refl
  fired_state firing held (Some state) = refl

  wrote : (from to : Option Known) (event : Occurrence) → LeadsBy key from event to → Writes from event to
  wrote from to event (tells_nothing none same) = record {
    begins = rw none tt;
    ends = rw none (ap state_in (sym same));
  }
  wrote from to event (tells_change c) =
      let reported : states_shown key event ≡ Some (c.change.before, state_of_machine c.change.after) =
      ap (states_by key event.port) c.what
      ∙ ap (λ b. if b then Some (c.change.before, state_of_machine c.change.after) else None) c.affected in
      tells_states from to event c.change.before (state_of_machine c.change.after) reported c.was
      (changed_state event.ms c.change from c.change.after ∙ ap state_in (sym c.now))
  wrote from to event (tells_firing f) =
      let reported : states_shown key event ≡ Some (Some f.firing.before, f.firing.after) =
      ap (states_by key event.port) f.what
      ∙ ap (λ b. if b then Some (Some f.firing.before, f.firing.after) else None) f.affected in
      tells_states from to event (Some f.firing.before) f.firing.after reported
      (ap Some f.before ∙ ap state_in (sym f.was))
      (fired_state f.firing f.held f.firing.after ∙ ap state_in (sym f.now))

  unbroken : (from to : Option Known) (events : List Occurrence) → Leads key from events to →
      IsUnbroken key (state_in from) events × (last_shown key (state_in from) events ≡ state_in to)
  unfolding Leads IsUnbroken last_shown
  unbroken from to [] leads = (tt, ap state_in leads)
  unbroken from to (event ∷ events) (between, one, more) =
      let t = wrote from between event one in let rest = unbroken between to events more in
      subst
      (λ (s : Option State).
      (BeginsIn (state_in from) (states_shown key event) × IsUnbroken key s events)
      × (last_shown key s events ≡ state_in to)) (sym t.ends) ((t.begins, rest.0), rest.1)

known_state : (ms : ℕ) (causes : Causes (List ℕ)) (machine : Option Machine) →
    state_in (known_of ms causes machine) ≡ state_of_machine machine
known_state ms causes None = refl
known_state ms causes (Some machine) = refl

pub leading : (ledger ledger' : Ledger) (state after : RouterState) (events : List Occurrence) →
    LeadsAll (place ledger state) events (place ledger' after) → LeadOn state events after
leading ledger ledger' state after events leads key =
    let both = unbroken key (known_at key (place ledger state)) (known_at key (place ledger' after)) events
    (leads.each key) in
    let before = known_state state.machines.moment _ (machine_at key state.machines.records) in
    let then' = known_state after.machines.moment _ (machine_at key after.machines.records) in (
      subst (λ (s : Option State). IsUnbroken key s events) before both.0,
      subst (λ (s : Option State). last_shown key s events ≡ state_of key after.machines.records) before
          (both.1 ∙ then'),
    )

-- ---- causes

all_last : (a b c : Option (Cause (List ℕ))) → last_of a (last_of b c) ≡ last_of (last_of a b) c
all_last a b None = refl
all_last a b (Some c) = refl

-- `Is` relates the last packet that set a timer, if any, to the cause of its firing.
module _ (Is : Option (Cause (List ℕ)) → Cause (List ℕ) → Type 0)
    (itself : (packet : Cause (List ℕ)) → Is (Some packet) packet) (key : Key (List ℕ)) (timer : Timer) where
  -- of a machine that is held, this packet set the timer last
  abbrev Set : Option Known → Option (Cause (List ℕ)) → Type 0
  Set known since = (held : Known) → known ≡ Some held → Is since (held.by timer)

  pub record Sets (from : Option Known) (event : Occurrence) (to : Option Known) (since : Option (Cause (List ℕ))) :
      Type 0 where
    pub ends : end_then timer key (end_in timer from) event ≡ end_in timer to
    pub by : Set to (last_of since (set_by timer key (end_in timer from) event.ms event.port event.what))

  same_known : (a b : Known) → ◌≡◌ {A = Option Known} (Some a) (Some b) → a ≡ b
  same_known a b e = cc

  no_known : (a : Known) → ◌≡◌ {A = Option Known} None (Some a) → ⊥
  no_known a e = cc

  -- a transition
  changed_end : (ms : ℕ) (change : TransitionEvent (List ℕ)) (from : Option Known) (machine : Option Machine) →
      end_of timer ms machine ≡ end_in timer (changed_known ms change from machine)
  changed_end ms change from None = refl
  changed_end ms change from (Some machine) = refl

  changed_set : (ms : ℕ) (change : TransitionEvent (List ℕ)) (from : Option Known) (since : Option (Cause (List ℕ))) →
      change.before ≡ state_in from → Set from since → (b : Bool) → sets timer ms (end_in timer from) change ≡ b →
      Is (last_of since (if b then Some (packet_of ms change) else None))
      (if b then packet_of ms change else by_or timer (packet_of ms change) from)
  changed_set ms change from since was set true is = itself (packet_of ms change)
  changed_set ms change (Some held) since was set false is = set held refl
  changed_set ms change None since was set false is = absurd (false≢true (sym is ∙ begins))
    where
      begins : sets timer ms None change ≡ true
      begins = rw was refl

  change_sets : (ms : ℕ) (change : TransitionEvent (List ℕ)) (from : Option Known) (since : Option (Cause (List ℕ))) →
      change.before ≡ state_in from → Set from since → (machine : Option Machine) →
      Set (changed_known ms change from machine)
      (last_of since (if sets timer ms (end_in timer from) change then Some (packet_of ms change) else None))
  change_sets ms change from since was set None held e = absurd (no_known held e)
  change_sets ms change from since was set (Some machine) held e =
      subst
      (λ (k : Known).
      Is (last_of since (if sets timer ms (end_in timer from) change then Some (packet_of ms change) else None))
      (k.by timer)) (same_known _ held e) (changed_set ms change from since was set _ refl)

  -- a firing
  fired_end : (firing : Fired (List ℕ)) (held : Known) (after : Option State) → firing.after ≡ after →
      end_after timer firing (held.ends timer) ≡ end_in timer (fired_known firing held after)
  fired_end firing held None is = rw is refl
  fired_end firing held (Some state) is = refl

  fired_set : (firing : Fired (List ℕ)) (held : Known) (since : Option (Cause (List ℕ))) → Set (Some held) since →
      (after : Option State) → Set (fired_known firing held after) since
  fired_set firing held since set None other e = absurd (no_known other e)
  fired_set firing held since set (Some state) other e =
      subst (λ (k : Known). Is since (k.by timer)) (same_known _ other e) (set held refl)

  -- an event that tells nothing of the machine
  abbrev EventSeen : Type 0
  EventSeen = Option (Option State × Option State)

  abbrev carried_if : Bool → Option State × Option State → EventSeen
  carried_if b states = if b then Some states else None

  nothing_by : (held : Option ℕ) (ms : ℕ) (port : Option ℕ) (what : Happened) → states_by key port what ≡ None →
      (end_by timer key held ms port what ≡ held) × (set_by timer key held ms port what ≡ None)
  nothing_by held ms port (machine_changed change) none =
      unnamed (names key port change.group change.what) none
    where
      unnamed : (b : Bool) → carried_if b (change.before, state_of_machine change.after) ≡ None →
          ((if b then end_of timer ms change.after else held) ≡ held)
          × ((if b && sets timer ms held change then Some (packet_of ms change) else None) ≡ None)
      unnamed true e = absurd cc
      unnamed false e = (refl, refl)
  nothing_by held ms port (timer_fired firing) none =
      unnamed (names key port firing.group firing.what) none
    where
      unnamed : (b : Bool) → carried_if b (Some firing.before, firing.after) ≡ None →
          ((if b then end_after timer firing held else held) ≡ held) × ◌≡◌ {A = Option (Cause (List ℕ))} None None
      unnamed true e = absurd cc
      unnamed false e = (refl, refl)
  nothing_by held ms port (hello_heard hello) none = (refl, refl)
  nothing_by held ms port (packet_judged packet) none = (refl, refl)
  nothing_by held ms port (join_ignored entry) none = (refl, refl)
  nothing_by held ms port (own_restart restart) none = (refl, refl)
  nothing_by held ms port (record_skipped skipped) none = (refl, refl)
  nothing_by held ms port (neighbour_gone over) none = (refl, refl)
  nothing_by held ms port (machine_held machine) none = (refl, refl)
  nothing_by held ms port (entry_wanted entry) none = (refl, refl)
  nothing_by held ms port (run_ended ending) none = (refl, refl)

  sets_on : (from to : Option Known) (event : Occurrence) (since : Option (Cause (List ℕ))) →
      LeadsBy key from event to → Set from since → Sets from event to since
  sets_on from to event since (tells_nothing none same) set =
      let n = nothing_by (end_in timer from) event.ms event.port event.what none in record {
        ends = n.0 ∙ ap (end_in timer) (sym same);
        by =
            subst (λ (o : Option (Cause (List ℕ))). Set to (last_of since o)) (sym n.1)
            (subst (λ (k : Option Known). Set k since) (sym same) set);
      }
  sets_on from to event since (tells_change c) set =
      let held = end_in timer from in
      let by : set_by timer key held event.ms event.port event.what
      ≡ (if sets timer event.ms held c.change then Some (packet_of event.ms c.change) else None) =
      ap (set_by timer key held event.ms event.port) c.what
      ∙ ap (λ b. if b && sets timer event.ms held c.change then Some (packet_of event.ms c.change) else None) c.affected in
      record {
        ends =
            ap (end_by timer key held event.ms event.port) c.what
            ∙ ap (λ b. if b then end_of timer event.ms c.change.after else held) c.affected
            ∙ changed_end event.ms c.change from c.change.after ∙ ap (end_in timer) (sym c.now);
        by =
            subst (λ (o : Option (Cause (List ℕ))). Set to (last_of since o)) (sym by)
            (subst
            (λ (k : Option Known).
            Set k (last_of since
            (if sets timer event.ms held c.change then Some (packet_of event.ms c.change) else None))) (sym c.now)
            (change_sets event.ms c.change from since c.was set c.change.after));
      }
  sets_on from to event since (tells_firing f) set =
      let held = end_in timer from in record {
        ends =
            ap (end_by timer key held event.ms event.port) f.what
            ∙ ap (λ b. if b then end_after timer f.firing held else held) f.affected
            ∙ ap (λ (k : Option Known). end_after timer f.firing (end_in timer k)) f.was
            ∙ fired_end f.firing f.held f.firing.after refl ∙ ap (end_in timer) (sym f.now);
        by =
            subst (λ (o : Option (Cause (List ℕ))). Set to (last_of since o))
            (sym (ap (set_by timer key held event.ms event.port) f.what))
            (subst (λ (k : Option Known). Set k since) (sym f.now)
            (fired_set f.firing f.held since
            (subst (λ (k : Option Known). Set k since) f.was set) f.firing.after));
      }

  -- the packet that set the timer last before it fired
  same_firing : (a b : Fired (List ℕ)) → timer_fired a ≡ timer_fired b → a ≡ b
  same_firing a b e = cc

  not_changed : (change : TransitionEvent (List ℕ)) (firing : Fired (List ℕ)) → machine_changed change ≡ timer_fired firing → ⊥
  not_changed change firing e = cc

  no_states : (states : Option State × Option State) →
      ◌≡◌ {A = Option (Option State × Option State)} (Some states) None → ⊥
  no_states states e = cc

  fired_now : (from to : Option Known) (event : Occurrence) (since : Option (Cause (List ℕ))) → Set from since →
      LeadsBy key from event to → (firing : Fired (List ℕ)) → event.what ≡ timer_fired firing →
      names key event.port firing.group firing.what ≡ true → firing.timer ≡ timer → Is since firing.cause
  fired_now from to event since set (tells_nothing none same) firing what affected is =
      absurd (no_states (Some firing.before, firing.after)
      (sym (ap (states_by key event.port) what
      ∙ ap (λ b. if b then Some (Some firing.before, firing.after) else None) affected) ∙ none))
  fired_now from to event since set (tells_change c) firing what affected is =
      absurd (not_changed c.change firing (sym c.what ∙ what))
  fired_now from to event since set (tells_firing f) firing what affected is =
      let same : f.firing ≡ firing = same_firing f.firing firing (sym f.what ∙ what) in
      let timers : f.firing.timer ≡ timer = ap (λ (x : Fired (List ℕ)). x.timer) same ∙ is in
      subst (Is since)
      (sym (ap f.held.by timers) ∙ sym f.cause ∙ ap (λ (x : Fired (List ℕ)). x.cause) same) (set f.held f.was)

  no_event : (event : Occurrence) (events : List Occurrence) → ◌≡◌ {A = List Occurrence} [] (event ∷ events) → ⊥
  no_event event events e = cc

  same_first : (a b : Occurrence) (xs ys : List Occurrence) → a ∷ xs ≡ b ∷ ys → (a ≡ b) × (xs ≡ ys)
  same_first a b xs ys e = (cc, cc)

  -- what holds of an event, by what is known just before it
  pub at_event : (Goal : Option (Cause (List ℕ)) → Type 0) (event : Occurrence) →
      ((from to : Option Known) (since : Option (Cause (List ℕ))) → Set from since → LeadsBy key from event to →
      Goal since) → (earlier later events : List Occurrence) (from to : Option Known)
      (since : Option (Cause (List ℕ))) → Set from since → Leads key from events to →
      events ≡ earlier ++ event ∷ later → Goal (last_of since (last_set timer key (end_in timer from) earlier))
  unfolding Leads last_set
  at_event Goal event now [] later [] from to since set leads e = absurd (no_event event later e)
  at_event Goal event now (x ∷ xs) later [] from to since set leads e = absurd (no_event x (xs ++ event ∷ later) e)
  at_event Goal event now [] later (first ∷ more) from to since set (between, one, rest) e =
      now from between since set
      (subst (λ (o : Occurrence). LeadsBy key from o between) (same_first first event more later e).0 one)
  at_event Goal event now (x ∷ xs) later (first ∷ more) from to since set (between, one, rest) e =
      let same = same_first first x more (xs ++ event ∷ later) e in
      let s = sets_on from between first since one set in let held = end_in timer from in
      let by = set_by timer key held first.ms first.port first.what in
      let then' = at_event Goal event now xs later more between to (last_of since by) s.by rest same.1 in
      subst (λ (o : Occurrence). Goal (last_of since (last_set timer key held (o ∷ xs)))) same.0
      (subst Goal (sym (all_last since by (last_set timer key (end_then timer key held first) xs)))
      (subst
      (λ (end : Option ℕ). Goal (last_of (last_of since by) (last_set timer key end xs))) (sym s.ends) then'))

  -- what holds after all events
  pub at_end : (events : List Occurrence) (from to : Option Known) (since : Option (Cause (List ℕ))) → Set from since →
      Leads key from events to → Set to (last_of since (last_set timer key (end_in timer from) events))
  unfolding Leads last_set
  at_end [] from to since set leads = subst (λ (k : Option Known). Set k since) leads set
  at_end (first ∷ more) from to since set (between, one, rest) =
      let s = sets_on from between first since one set in let held = end_in timer from in
      let by = set_by timer key held first.ms first.port first.what in
      let then' = at_end more between to (last_of since by) s.by rest in
      subst (λ (o : Option (Cause (List ℕ))). Set to o)
      (sym (all_last since by (last_set timer key (end_then timer key held first) more)))
      (subst (λ (end : Option ℕ). Set to (last_of (last_of since by) (last_set timer key end more))) (sym s.ends) then')

-- ---- what a transition overrides

module _ (none : Cause (List ℕ)) (since : Option (Cause (List ℕ))) where
  -- of a machine that is held, this packet set the Prune-Pending Timer last
  abbrev SetPending : Option Known → Type 0
  SetPending known = (held : Known) → known ≡ Some held → held.by PrunePending ≡ unwrap_or since none

  overridden_by : (from : Option Known) (before : Option State) (b : Bool) → before ≡ state_in from →
      SetPending from →
      (if is_pending before && b then pending_frame from else None)
      ≡ (if is_pending before && b then Some (unwrap_or since none).frame else None)
  overridden_by None before b was set = rw was refl
  overridden_by (Some held) before b was set =
      ap (λ (c : Cause (List ℕ)). if is_pending before && b then Some c.frame else None) (set held refl)

  not_fired : (change : TransitionEvent (List ℕ)) (firing : Fired (List ℕ)) → timer_fired firing ≡ machine_changed change → ⊥
  not_fired change firing e = cc

  same_change : (a b : TransitionEvent (List ℕ)) → machine_changed a ≡ machine_changed b → a ≡ b
  same_change a b e = cc

  told_none : (states : Option State × Option State) →
      ◌≡◌ {A = Option (Option State × Option State)} (Some states) None → ⊥
  told_none states e = cc

  abbrev Overrides : TransitionEvent (List ℕ) → Type 0
  Overrides change =
      change.overrides ≡ (if ends_pending change then Some (unwrap_or since none).frame else None)

  overridden_now : (key : Key (List ℕ)) (event : Occurrence) (change : TransitionEvent (List ℕ)) →
      event.what ≡ machine_changed change → names key event.port change.group change.what ≡ true →
      (from to : Option Known) → SetPending from → LeadsBy key from event to → Overrides change
  overridden_now key event change what affected from to set (tells_nothing nothing same) =
      absurd (told_none (change.before, state_of_machine change.after)
      (sym (ap (states_by key event.port) what
      ∙ ap (λ b. if b then Some (change.before, state_of_machine change.after) else None) affected) ∙ nothing))
  overridden_now key event change what affected from to set (tells_change c) =
      subst Overrides (same_change c.change change (sym c.what ∙ what))
      (c.overrides
      ∙ overridden_by from c.change.before (not (is_pending (state_of_machine c.change.after))) c.was set)
  overridden_now key event change what affected from to set (tells_firing f) =
      absurd (not_fired change f.firing (sym f.what ∙ what))

-- ---- from the start of a run

pub last_only : (o : Option (Cause (List ℕ))) → last_of None o ≡ o
last_only None = refl
last_only (Some packet) = refl

pub known_end : (timer : Timer) (ms : ℕ) (causes : Causes (List ℕ)) (machine : Option Machine) →
    end_in timer (known_of ms causes machine) ≡ end_of timer ms machine
known_end timer ms causes None = refl
known_end timer ms causes (Some machine) = refl

pub no_packet : (timer : Timer) (group : List ℕ) (ms : ℕ) (machine : Option Machine) (held : Known) →
    known_of ms (both_by (no_cause group)) machine ≡ Some held → held.by timer ≡ no_cause group
no_packet timer group ms None held e = absurd cc
no_packet timer group ms (Some machine) held e =
    ap (λ (o : Option Known). by_or timer (no_cause group) o) (sym e) ∙ both timer
  where
    both : (timer : Timer) → cause_of timer (both_by (no_cause group)) ≡ no_cause group
    both Expiry = refl
    both PrunePending = refl

module _ (apart : KeysAreDistinct) (state : RouterState) (ledger : Ledger) (after : RouterState)
    (events : List Occurrence) (leads : LeadsAll (place (ledger_for state) state) events (place ledger after))
    (earlier later : List Occurrence) (event : Occurrence) (port : ℕ) (group : List ℕ) (what : What (List ℕ))
    (e : events ≡ earlier ++ event ∷ later) (on : event.port ≡ Some port) (timer : Timer) where
  abbrev key : Key (List ℕ)
  key = key_on port group what

  abbrev from : Option Known
  from = known_at key (place (ledger_for state) state)

  is_affected : names key event.port group what ≡ true
  is_affected = ap (λ (o : Option ℕ). names key o group what) on ∙ (apart key key).1.1 refl

  -- what holds of the event, by the packet that set the timer last
  by_last : (Is : Option (Cause (List ℕ)) → Cause (List ℕ) → Type 0)
      (itself : (packet : Cause (List ℕ)) → Is (Some packet) packet)
      (Goal : Option (Cause (List ℕ)) → Type 0) →
      ((before then' : Option Known) (since : Option (Cause (List ℕ))) →
      ((held : Known) → before ≡ Some held → Is since (held.by timer)) → LeadsBy key before event then' → Goal since) →
      ((held : Known) → from ≡ Some held → Is None (held.by timer)) → Goal (last_setting state timer key earlier)
  by_last Is itself Goal now set =
      subst Goal
      (last_only (last_set timer key (end_in timer from) earlier)
      ∙ ap (λ (end : Option ℕ). last_set timer key end earlier)
      (known_end timer state.machines.moment (both_by (no_cause group)) (machine_at key state.machines.records)))
      (at_event Is itself key timer Goal event now earlier later events from (known_at key (place ledger after)) None
      set (leads.each key) e)

  none_set : (held : Known) → from ≡ Some held → held.by timer ≡ no_cause group
  none_set held is =
      no_packet timer group state.machines.moment (machine_at key state.machines.records) held is

  unheld : state.machines.records ≡ [] → (held : Known) → from ≡ Some held → ⊥
  unfolding machine_at
  unheld none held is = no_held held (sym (ap
      (λ rs. known_of state.machines.moment (both_by (no_cause group)) (machine_at key rs)) none) ∙ is)
    where
      no_held : (held : Known) → ◌≡◌ {A = Option Known} None (Some held) → ⊥
      no_held held e = cc

pub naming : KeysAreDistinct → (state : RouterState) (ledger : Ledger) (after : RouterState)
    (events : List Occurrence) → LeadsAll (place (ledger_for state) state) events (place ledger after) →
    EventsNameTheirPackets state events
naming apart state ledger after events leads = (
  λ earlier later event port firing e on what. (
    by_last apart state ledger after events leads earlier later event port firing.group firing.what e on firing.timer
        (λ o packet. packet ≡ unwrap_or o (no_cause firing.group)) (λ packet. refl)
        (λ o. firing.cause ≡ unwrap_or o (no_cause firing.group))
        (λ before then' since set one.
        fired_now (λ o packet. packet ≡ unwrap_or o (no_cause firing.group)) (λ packet. refl)
        (key_on port firing.group firing.what) firing.timer before then' event since set one firing what
        (is_affected apart state ledger after events leads earlier later event port firing.group firing.what e on
        firing.timer) refl)
        (none_set apart state ledger after events leads earlier later event port firing.group firing.what e on
        firing.timer),
    λ none. by_last apart state ledger after events leads earlier later event port firing.group firing.what e on
        firing.timer (λ o packet. o ≡ Some packet) (λ packet. refl) (λ o. o ≡ Some firing.cause)
        (λ before then' since set one.
        fired_now (λ o packet. o ≡ Some packet) (λ packet. refl) (key_on port firing.group firing.what) firing.timer
        before then' event since set one firing what
        (is_affected apart state ledger after events leads earlier later event port firing.group firing.what e on
        firing.timer) refl)
        (λ held is. absurd
        (unheld apart state ledger after events leads earlier later event port firing.group firing.what e on
        firing.timer none held is)),
  ),
  λ earlier later event port change e on what.
      by_last apart state ledger after events leads earlier later event port change.group change.what e on PrunePending
      (λ o packet. packet ≡ unwrap_or o (no_cause change.group)) (λ packet. refl)
      (λ o. change.overrides
      ≡ (if ends_pending change then Some (unwrap_or o (no_cause change.group)).frame else None))
      (λ before then' since set one.
      overridden_now (no_cause change.group) since (key_on port change.group change.what) event change what
      (is_affected apart state ledger after events leads earlier later event port change.group change.what e on
      PrunePending) before then' set one)
      (none_set apart state ledger after events leads earlier later event port change.group change.what e on
      PrunePending),
)
