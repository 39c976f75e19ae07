-- What lists of events tell of each machine, where one follows another.
use Rattle.pim_trace.proofs.Words.{◌≡◌, ℕ, true, if◌then◌else◌, List, [], ◌∷◌, ◌++◌, map, Option, None, Some}
use Rattle.pim_trace.proofs.Words.{option_map, unwrap_or, refl, sym, subst, AllByRecursion, flat_map, Key, Machine}
use Rattle.pim_trace.proofs.Words.{Record, State, Timer, PrunePending, IsAscending, machine_at, RouterState, Cause}
use Rattle.pim_trace.proofs.Words.{Fired, TransitionEvent, Causes, Ledger, no_cause, both_by, event_on, cause_of, names}
use Rattle.pim_trace.proofs.Words.{states_by, states_shown, end_of, end_after, sets, packet_of, ends_pending}
use Rattle.pim_trace.proofs.Words.{RecordPlace}
use Rattle.pim_events.specs.Events.{Happened, Occurrence, machine_changed, timer_fired}

-- ---- what is known of a machine

-- The state of a machine that is held, when its timers end, the packets that set them, and when it
-- left NoInfo.
pub record Known : Type 0 where
  pub state : State
  pub ends : Timer → Option ℕ
  pub by : Timer → Cause (List ℕ)
  pub since : ℕ

abbrev pub knowing : ℕ → Causes (List ℕ) → Machine → Known
knowing ms causes machine = record {
  state = machine.state;
  ends = λ timer. end_of timer ms (Some machine);
  by = λ timer. cause_of timer causes;
  since = causes.since;
}

abbrev pub known_of : ℕ → Causes (List ℕ) → Option Machine → Option Known
known_of ms causes machine = option_map (knowing ms causes) machine

abbrev pub state_in : Option Known → Option State
state_in known = option_map (λ (k : Known). k.state) known

abbrev pub end_in : Timer → Option Known → Option ℕ
end_in timer None = None
end_in timer (Some known) = known.ends timer

abbrev pub by_or : Timer → Cause (List ℕ) → Option Known → Cause (List ℕ)
by_or timer packet None = packet
by_or timer packet (Some known) = known.by timer

-- When a machine left NoInfo that is held after this moment.
abbrev pub since_or : ℕ → Option Known → ℕ
since_or ms None = ms
since_or ms (Some known) = known.since

-- The frame of the packet that set the Prune-Pending Timer.
abbrev pub pending_frame : Option Known → Option RecordPlace
pending_frame known = option_map (λ (k : Known). (k.by PrunePending).frame) known

-- What is known after a transition at this moment.
abbrev pub changed_known : ℕ → TransitionEvent (List ℕ) → Option Known → Option Machine → Option Known
changed_known ms change known None = None
changed_known ms change known (Some machine) = Some (record {
  state = machine.state;
  ends = λ timer. end_of timer ms (Some machine);
  by = λ timer.
      if sets timer ms (end_in timer known) change then packet_of ms change else by_or timer (packet_of ms change) known;
  since = since_or ms known;
})

-- What is known after a timer fired.
abbrev pub fired_known : Fired (List ℕ) → Known → Option State → Option Known
fired_known firing known None = None
fired_known firing known (Some state) = Some (record {
  state = state;
  ends = λ timer. end_after timer firing (known.ends timer);
  by = known.by;
  since = known.since;
})

-- ---- one event

-- An event is a transition of the machine.
pub record Changes (key : Key (List ℕ)) (from : Option Known) (event : Occurrence) (to : Option Known) : Type 0 where
  pub change : TransitionEvent (List ℕ)
  pub what : event.what ≡ machine_changed change
  pub affected : names key event.port change.group change.what ≡ true
  pub was : change.before ≡ state_in from
  pub overrides : change.overrides ≡ (if ends_pending change then pending_frame from else None)
  pub now : to ≡ changed_known event.ms change from change.after

-- An event is a firing of the machine's timer.
pub record Fires (key : Key (List ℕ)) (from : Option Known) (event : Occurrence) (to : Option Known) : Type 0 where
  pub firing : Fired (List ℕ)
  pub what : event.what ≡ timer_fired firing
  pub affected : names key event.port firing.group firing.what ≡ true
  pub held : Known
  pub was : from ≡ Some held
  pub before : firing.before ≡ held.state
  pub cause : firing.cause ≡ held.by firing.timer
  pub now : to ≡ fired_known firing held firing.after

-- An event leads from what is known to what is known then. It may also tell nothing of the machine.
pub data LeadsBy (key : Key (List ℕ)) (from : Option Known) (event : Occurrence) (to : Option Known) : Type 0 where
  tells_nothing : states_shown key event ≡ None → to ≡ from → LeadsBy key from event to
  tells_change : Changes key from event to → LeadsBy key from event to
  tells_firing : Fires key from event to → LeadsBy key from event to

-- ---- the parts of a list

module _ (key : Key (List ℕ)) where
  -- The events lead the machine on.
  unfoldable pub Leads : Option Known → List Occurrence → Option Known → Type 0
  Leads from [] to = from ≡ to
  Leads from (event ∷ events) to = (between : Option Known) × LeadsBy key from event between × Leads between events to

  pub leads_nowhere : (held : Option Known) → Leads held [] held
  unfolding Leads
  leads_nowhere held = refl

  pub leads_on : (from between to : Option Known) (xs ys : List Occurrence) → Leads from xs between →
      Leads between ys to → Leads from (xs ++ ys) to
  unfolding Leads
  leads_on from between to [] ys one more = subst (λ (k : Option Known). Leads k ys to) (sym one) more
  leads_on from between to (x ∷ xs) ys (next, first, rest) more =
      (next, first, leads_on next between to xs ys rest more)

  pub leads_first : (from between to : Option Known) (x : Occurrence) (xs : List Occurrence) →
      LeadsBy key from x between → Leads between xs to → Leads from (x ∷ xs) to
  unfolding Leads
  leads_first from between to x xs one more = (between, one, more)

  pub leads_past : (from to : Option Known) (x : Occurrence) (xs : List Occurrence) → states_shown key x ≡ None →
      Leads from xs to → Leads from (x ∷ xs) to
  leads_past from to x xs none more = leads_first from from to x xs (tells_nothing none refl) more

-- ---- events that tell nothing of machines

-- What happened tells nothing of machines.
abbrev pub Quiet : Happened → Type 0
Quiet what = (key : Key (List ℕ)) (port : Option ℕ) → states_by key port what ≡ None

abbrev pub AllQuiet : List Happened → Type 0
AllQuiet whats = AllByRecursion Quiet whats

pub quiet_append : (xs ys : List Happened) → AllQuiet xs → AllQuiet ys → AllQuiet (xs ++ ys)
quiet_append [] ys a b = b
quiet_append (x ∷ xs) ys a b = (a.0, quiet_append xs ys a.1 b)

pub quiet_flat : {A : Type 0} (f : A → List Happened) → ((x : A) → AllQuiet (f x)) → (xs : List A) →
    AllQuiet (flat_map f xs)
quiet_flat f each [] = tt
quiet_flat f each (x ∷ xs) = quiet_append (f x) (flat_map f xs) (each x) (quiet_flat f each xs)

pub quiet_leads : (key : Key (List ℕ)) (held : Option Known) (ledger : Ledger) (ms port : ℕ) (whats : List Happened) →
    AllQuiet whats → Leads key held (map (event_on ledger ms port) whats) held
quiet_leads key held ledger ms port [] all = leads_nowhere key held
quiet_leads key held ledger ms port (what ∷ whats) all =
    leads_past key held held (event_on ledger ms port what) (map (event_on ledger ms port) whats)
    (all.0 key (Some port)) (quiet_leads key held ledger ms port whats all.1)

-- ---- from place to place in a run

-- What the router and the trace know of all machines: the moment, the records, and the packets that set the timers.
pub record Place : Type 0 where
  pub ms : ℕ
  pub records : List (Record (List ℕ))
  pub causes : Key (List ℕ) → Option (Causes (List ℕ))

abbrev pub place : Ledger → RouterState → Place
place ledger state =
    record { ms = state.machines.moment; records = state.machines.records; causes = ledger.causes }

abbrev pub causes_at : Key (List ℕ) → Place → Causes (List ℕ)
causes_at key at = unwrap_or (at.causes key) (both_by (no_cause key.group))

abbrev pub known_at : Key (List ℕ) → Place → Option Known
known_at key at = known_of at.ms (causes_at key at) (machine_at key at.records)

-- The records after the events are in key order. The events lead each machine from what is known of it before them
-- to what is known after them.
pub record LeadsAll (before : Place) (events : List Occurrence) (after : Place) : Type 0 where
  pub ascending : IsAscending after.records
  pub each : (key : Key (List ℕ)) → Leads key (known_at key before) events (known_at key after)

pub all_nowhere : (at : Place) → IsAscending at.records → LeadsAll at [] at
all_nowhere at up = record { ascending = up; each = λ key. leads_nowhere key (known_at key at) }

pub all_on : (before between after : Place) (xs ys : List Occurrence) → LeadsAll before xs between →
    LeadsAll between ys after → LeadsAll before (xs ++ ys) after
all_on before between after xs ys one more = record {
  ascending = more.ascending;
  each =
      λ key. leads_on key (known_at key before) (known_at key between) (known_at key after) xs ys (one.each key)
      (more.each key);
}

-- events that tell nothing of machines
pub all_quiet : (at : Place) (ledger : Ledger) (ms port : ℕ) (whats : List Happened) → IsAscending at.records →
    AllQuiet whats → LeadsAll at (map (event_on ledger ms port) whats) at
all_quiet at ledger ms port whats up quiet = record {
  ascending = up;
  each = λ key. quiet_leads key (known_at key at) ledger ms port whats quiet;
}
