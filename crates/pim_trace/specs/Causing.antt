-- The packets that events name, as the events before them show them: the cause of a timer that
-- fires is the packet of the last transition that set it. Nothing is remembered for it; what ends
-- when is read from the events.
use Rattle.std.specs.Prelude.{◌≡◌, ℕ, ◌+◌, nat_eq, Bool, true, false, not, ◌&&◌, ◌||◌, if◌then◌else◌, List, [], ◌∷◌}
use Rattle.std.specs.Prelude.{◌++◌, Option, None, Some, is_some, option_map, unwrap_or}
use Rattle.std.specs.Option.{option_eq}
use Rattle.pim_addr.specs.declared.family.AddressFamily.{AddressFamily}
use Rattle.pim_merge.specs.declared.end.End.{End}
use Rattle.pim_merge.specs.Merge.{Taken}
use Rattle.pim_merge.specs.Next.{MergeState}
use Rattle.pim_down.specs.declared.machines.key.Key.{Key}
use Rattle.pim_down.specs.declared.machines.key.What.{What}
use Rattle.pim_down.specs.declared.machines.machine.Machine.{Machine}
use Rattle.pim_down.specs.declared.machines.step.Timer.{Timer}
use Rattle.pim_down.specs.declared.machines.step.Timer.TheVariants.{PrunePending, Expiry}
use Rattle.pim_down.specs.Records.{IsAscending, machine_at, state_of_machine}
use Rattle.pim_router.specs.State.{RouterState}
use Rattle.pim_events.specs.declared.event.Cause.{Cause}
use Rattle.pim_events.specs.declared.event.Fired.{Fired}
use Rattle.pim_events.specs.declared.event.TransitionEvent.{TransitionEvent}
use Rattle.pim_events.specs.Events.{Happened, Occurrence, machine_changed, timer_fired}
use Rattle.pim_trace.specs.Ledger.{Ledger, no_cause, pending_left}
use Rattle.pim_trace.specs.Folding.{names}
use Rattle.pim_trace.specs.Heard.{is_pending}
use Rattle.pim_trace.specs.Trace.{WritesTurns, RunsUntil, IsTrace, ledger_for}

-- ---- when a timer ends

-- The time left on this timer of a machine; none if it doesn't run or never ends.
abbrev pub time_left : Timer → Option Machine → Option ℕ
time_left timer None = None
time_left Expiry (Some machine) = machine.expires_in
time_left PrunePending (Some machine) = pending_left machine.pending

-- The moment at which this timer of a machine ends, where `ms` is the present moment.
abbrev pub end_of : Timer → ℕ → Option Machine → Option ℕ
end_of timer ms machine = option_map (λ left. ms + left) (time_left timer machine)

-- They are the same timer.
abbrev pub same_timer : Timer → Timer → Bool
same_timer Expiry Expiry = true
same_timer PrunePending PrunePending = true
same_timer timer other = false

-- The end of a timer after one of the machine's timers fired, where it was `held`. The timer that
-- fired runs no more, and a machine that ended has no timer.
abbrev pub end_after : Timer → Fired (List ℕ) → Option ℕ → Option ℕ
end_after timer firing held = if is_some firing.after && not (same_timer timer firing.timer) then held else None

-- The end of a timer after what happened on a port, where it was `held`.
abbrev pub end_by : Timer → Key (List ℕ) → Option ℕ → ℕ → Option ℕ → Happened → Option ℕ
end_by timer key held ms port (machine_changed change) =
    if names key port change.group change.what then end_of timer ms change.after else held
end_by timer key held ms port (timer_fired firing) =
    if names key port firing.group firing.what then end_after timer firing held else held
end_by timer key held ms port other = held

-- The end of a timer after an event.
abbrev pub end_then : Timer → Key (List ℕ) → Option ℕ → Occurrence → Option ℕ
end_then timer key held event = end_by timer key held event.ms event.port event.what

-- ---- which packet set a timer

-- A transition at this moment begins the machine, or gives the timer another end than `held`.
abbrev pub sets : Timer → ℕ → Option ℕ → TransitionEvent (List ℕ) → Bool
sets timer ms held change = not (is_some change.before) || not (option_eq nat_eq held (end_of timer ms change.after))

-- The packet of a transition at this moment.
abbrev pub packet_of : ℕ → TransitionEvent (List ℕ) → Cause (List ℕ)
packet_of ms change = record { frame = change.frame; from = change.from; ms = ms }

-- The packet of what happened on a port, if it set the timer.
abbrev pub set_by : Timer → Key (List ℕ) → Option ℕ → ℕ → Option ℕ → Happened → Option (Cause (List ℕ))
set_by timer key held ms port (machine_changed change) =
    if names key port change.group change.what && sets timer ms held change then Some (packet_of ms change) else None
set_by timer key held ms port other = None

-- The later of two packets, if there is one, else the earlier.
abbrev pub last_of : Option (Cause (List ℕ)) → Option (Cause (List ℕ)) → Option (Cause (List ℕ))
last_of earlier None = earlier
last_of earlier (Some later) = Some later

-- The packet of the last event that set the timer, which ended at `held` before all of them.
-- `None`: none set it.
unfoldable pub last_set : Timer → Key (List ℕ) → Option ℕ → List Occurrence → Option (Cause (List ℕ))
last_set timer key held [] = None
last_set timer key held (event ∷ events) =
    last_of (set_by timer key held event.ms event.port event.what)
    (last_set timer key (end_then timer key held event) events)

-- ---- since when a machine is held

-- The moment at which a machine left NoInfo last, after what happened on a port, where it was
-- `since`.
abbrev pub since_by : Key (List ℕ) → ℕ → ℕ → Option ℕ → Happened → ℕ
since_by key since ms port (machine_changed change) =
    if names key port change.group change.what && not (is_some change.before) then ms else since
since_by key since ms port other = since

-- The moment of the last event with which a machine left NoInfo; `since` if none has it leave.
unfoldable pub last_begun : Key (List ℕ) → ℕ → List Occurrence → ℕ
last_begun key since [] = since
last_begun key since (event ∷ events) = last_begun key (since_by key since event.ms event.port event.what) events

-- ---- the laws

-- The machine on a port.
abbrev pub key_on : ℕ → List ℕ → What (List ℕ) → Key (List ℕ)
key_on port group what = record { port = port; group = group; what = what }

-- The packet of the last of these events that set a timer. The router was in this state before
-- them.
abbrev pub last_setting : RouterState → Timer → Key (List ℕ) → List Occurrence → Option (Cause (List ℕ))
last_setting state timer key events =
    last_set timer key (end_of timer state.machines.moment (machine_at key state.machines.records)) events

-- The cause of each firing is the packet of the last event before it that set the timer. Where the
-- machine was held at the start, and no event set its timer since, the cause is no packet.
abbrev pub FiringsNameTheirCauses : RouterState → List Occurrence → Type 0
FiringsNameTheirCauses state events =
    (earlier later : List Occurrence) (event : Occurrence) (port : ℕ) (firing : Fired (List ℕ)) →
    events ≡ earlier ++ event ∷ later → event.port ≡ Some port → event.what ≡ timer_fired firing →
    let last : Option (Cause (List ℕ)) =
    last_setting state firing.timer (key_on port firing.group firing.what) earlier in
    (firing.cause ≡ unwrap_or last (no_cause firing.group))
    × (state.machines.records ≡ [] → last ≡ Some firing.cause)

-- A transition out of Prune-Pending.
abbrev pub ends_pending : TransitionEvent (List ℕ) → Bool
ends_pending change = is_pending change.before && not (is_pending (state_of_machine change.after))

-- A transition overrides the packet of the last event before it that set the Prune-Pending Timer,
-- if it leads the machine out of Prune-Pending. Otherwise it overrides none.
abbrev pub TransitionsNameTheirPrunes : RouterState → List Occurrence → Type 0
TransitionsNameTheirPrunes state events =
    (earlier later : List Occurrence) (event : Occurrence) (port : ℕ) (change : TransitionEvent (List ℕ)) →
    events ≡ earlier ++ event ∷ later → event.port ≡ Some port → event.what ≡ machine_changed change →
    let last : Option (Cause (List ℕ)) =
    last_setting state PrunePending (key_on port change.group change.what) earlier in
    change.overrides ≡ (if ends_pending change then Some (unwrap_or last (no_cause change.group)).frame else None)

-- The packets that events name are those which the events before them show.
abbrev pub EventsNameTheirPackets : RouterState → List Occurrence → Type 0
EventsNameTheirPackets state events = FiringsNameTheirCauses state events × TransitionsNameTheirPrunes state events

-- So it is in a trace.
abbrev pub TraceNamesCauses : Type 0
TraceNamesCauses =
    (family : AddressFamily) (end : End) (merge : MergeState) (state : RouterState) (events : List Occurrence)
    (after : RouterState) → IsAscending state.machines.records → IsTrace family end merge state events after →
    EventsNameTheirPackets state events

-- So it is in some first turns.
abbrev pub TurnsNameCauses : Type 0
TurnsNameCauses =
    (family : AddressFamily) (turns : List Taken) (state : RouterState) (events : List Occurrence) (ledger : Ledger)
    (after : RouterState) → IsAscending state.machines.records →
    WritesTurns family turns (ledger_for state) state events ledger after → EventsNameTheirPackets state events

-- So it is in some first turns and the time after them, such as before a fault of a capture.
abbrev pub RunsNameCauses : Type 0
RunsNameCauses =
    (family : AddressFamily) (turns : List Taken) (until : ℕ → ℕ) (state : RouterState) (events : List Occurrence)
    (ledger : Ledger) (after : RouterState) → IsAscending state.machines.records →
    RunsUntil until family state turns events ledger after → EventsNameTheirPackets state events
