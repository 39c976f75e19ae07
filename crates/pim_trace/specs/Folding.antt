-- The events of a trace show the state of each machine: folded over all of them, they lead from its
-- state at the start to its state at the end.
use Rattle.std.specs.Prelude.{◌≡◌, ℕ, Bool, false, if◌then◌else◌, List, [], ◌∷◌, Option, None, Some}
use Rattle.pim_addr.specs.declared.family.AddressFamily.{AddressFamily}
use Rattle.pim_merge.specs.declared.end.End.{End}
use Rattle.pim_merge.specs.Merge.{Taken}
use Rattle.pim_merge.specs.Next.{MergeState}
use Rattle.pim_down.specs.declared.machines.key.Key.{Key}
use Rattle.pim_down.specs.declared.machines.key.What.{What}
use Rattle.pim_down.specs.declared.machines.machine.State.{State}
use Rattle.pim_down.specs.Key.{same_key}
use Rattle.pim_down.specs.Records.{IsAscending, state_of_machine, state_of}
use Rattle.pim_router.specs.State.{RouterState}
use Rattle.pim_events.specs.Events.{Happened, Occurrence, machine_changed, timer_fired}
use Rattle.pim_trace.specs.Ledger.{Ledger}
use Rattle.pim_trace.specs.Trace.{WritesTurns, RunsUntil, IsTrace}

-- ---- one event

-- An event on this port names this machine of a group.
abbrev pub names : Key (List ℕ) → Option ℕ → List ℕ → What (List ℕ) → Bool
names key None group what = false
names key (Some port) group what = same_key key (record { port = port; group = group; what = what })

-- The states of a machine before and after what happened on a port: a transition or a firing of the
-- machine shows them. Here `None` as a state is NoInfo.
abbrev pub states_by : Key (List ℕ) → Option ℕ → Happened → Option (Option State × Option State)
states_by key port (machine_changed change) =
    if names key port change.group change.what then Some (change.before, state_of_machine change.after) else None
states_by key port (timer_fired firing) =
    if names key port firing.group firing.what then Some (Some firing.before, firing.after) else None
states_by key port other = None

-- The states of a machine before and after an event. `None`: the event shows nothing of the
-- machine.
abbrev pub states_shown : Key (List ℕ) → Occurrence → Option (Option State × Option State)
states_shown key event = states_by key event.port event.what

-- ---- all events

-- The state of a machine after an event that shows these states, where it had the state `held`
-- before.
abbrev pub state_then : Option State → Option (Option State × Option State) → Option State
state_then held None = held
state_then held (Some states) = states.1

-- An event that shows these states begins in the state `held`, or shows nothing.
abbrev pub BeginsIn : Option State → Option (Option State × Option State) → Type 0
BeginsIn held None = Unit {0}
BeginsIn held (Some states) = states.0 ≡ held

-- The state that the last event of a machine shows; `held` if no event shows one.
unfoldable pub last_shown : Key (List ℕ) → Option State → List Occurrence → Option State
last_shown key held [] = held
last_shown key held (event ∷ events) = last_shown key (state_then held (states_shown key event)) events

-- Each event of a machine begins in the state in which the one before it ended, and the first
-- begins in `held`.
unfoldable pub IsUnbroken : Key (List ℕ) → Option State → List Occurrence → Type 0
IsUnbroken key held [] = Unit {0}
IsUnbroken key held (event ∷ events) =
    BeginsIn held (states_shown key event) × IsUnbroken key (state_then held (states_shown key event)) events

-- The events lead each machine from the state that it has in one router to the state that it has in
-- another.
abbrev pub LeadOn : RouterState → List Occurrence → RouterState → Type 0
LeadOn state events after = (key : Key (List ℕ)) →
    IsUnbroken key (state_of key state.machines.records) events
    × (last_shown key (state_of key state.machines.records) events ≡ state_of key after.machines.records)

-- ---- the laws

-- The events of a trace show the state of each machine: they lead from that at the start to that at
-- the end of the run. The records at the start are in key order, as those of each router are.
abbrev pub EventsShowTheState : Type 0
EventsShowTheState =
    (family : AddressFamily) (end : End) (merge : MergeState) (state : RouterState) (events : List Occurrence)
    (after : RouterState) → IsAscending state.machines.records → IsTrace family end merge state events after →
    LeadOn state events after

-- So do the events of some first turns.
abbrev pub TurnsShowTheState : Type 0
TurnsShowTheState =
    (family : AddressFamily) (turns : List Taken) (ledger : Ledger) (state : RouterState) (events : List Occurrence)
    (ledger' : Ledger) (after : RouterState) → IsAscending state.machines.records →
    WritesTurns family turns ledger state events ledger' after → LeadOn state events after

-- So do those of some first turns and of the time after them, such as the events before a fault of
-- a capture.
abbrev pub RunsLeadOn : Type 0
RunsLeadOn =
    (family : AddressFamily) (turns : List Taken) (until : ℕ → ℕ) (state : RouterState) (events : List Occurrence)
    (ledger : Ledger) (after : RouterState) → IsAscending state.machines.records →
    RunsUntil until family state turns events ledger after → LeadOn state events after
