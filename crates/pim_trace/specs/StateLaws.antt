-- A trace with the state lists exactly the records that the router holds, and its demand. Its other
-- events are those of a trace, and all of them show what it says of the records.
use Rattle.std.specs.Prelude.{◌≡◌, ℕ, ◌-◌, Bool, true, false, not, List, [], ◌∷◌, ◌++◌, Option, Some, unwrap_or}
use Rattle.std.specs.List.{filter, flat_map}
use Rattle.pim_addr.specs.declared.family.AddressFamily.{AddressFamily}
use Rattle.pim_merge.specs.declared.end.End.{End}
use Rattle.pim_merge.specs.Next.{MergeState}
use Rattle.pim_down.specs.declared.machines.key.Key.{Key}
use Rattle.pim_down.specs.declared.machines.machine.Record.{Record}
use Rattle.pim_down.specs.declared.machines.step.Timer.TheVariants.{Expiry}
use Rattle.pim_down.specs.Records.{IsAscending}
use Rattle.pim_form.specs.NormalForm.{GroupForm, IsFormOf}
use Rattle.pim_form.specs.Wants.{wants}
use Rattle.pim_router.specs.State.{RouterState}
use Rattle.pim_events.specs.declared.event.HeldMachine.{HeldMachine}
use Rattle.pim_events.specs.declared.event.WantedEntry.{WantedEntry}
use Rattle.pim_events.specs.Events.{Happened, Occurrence, machine_held, entry_wanted}
use Rattle.pim_trace.specs.Causing.{key_on, last_setting, last_begun}
use Rattle.pim_trace.specs.Ledger.{Ledger, no_cause}
use Rattle.pim_trace.specs.StateEvents.{demand_entries}
use Rattle.pim_trace.specs.StateTrace.{IsStateTrace}
use Rattle.pim_trace.specs.Trace.{IsTrace}

-- ---- what events list

-- The record that an event on this port lists, as a list.
abbrev pub record_in : Option ℕ → Happened → List (Record (List ℕ))
record_in (Some port) (machine_held held) =
    record { key = key_on port held.group held.what; machine = held.machine } ∷ []
record_in port other = []

-- The records that events list, in their order.
abbrev pub records_in : List Occurrence → List (Record (List ℕ))
records_in events = flat_map (λ event. record_in event.port event.what) events

-- What an event lists as wanted, as a list.
abbrev pub entry_in : Happened → List (WantedEntry (List ℕ))
entry_in (entry_wanted entry) = entry ∷ []
entry_in other = []

-- What events list as wanted, in their order.
abbrev pub entries_in : List Occurrence → List (WantedEntry (List ℕ))
entries_in events = flat_map (λ event. entry_in event.what) events

-- The event is one of the state.
abbrev pub is_of_state : Happened → Bool
is_of_state (machine_held held) = true
is_of_state (entry_wanted entry) = true
is_of_state other = false

-- The events that aren't of the state.
abbrev pub without_state : List Occurrence → List Occurrence
without_state events = filter (λ event. not (is_of_state event.what)) events

-- ---- the laws

-- The events list exactly the records of this router, and what the normal form of its demand has.
pub record ListState (family : AddressFamily) (events : List Occurrence) (after : RouterState) : Type 0 where
  pub records : records_in events ≡ after.machines.records
  pub form : List GroupForm
  pub demand : IsFormOf family (wants after.machines) form
  pub entries : entries_in events ≡ demand_entries family after.routes form

-- So do those of a trace with the state. Without the events of the state they are a trace.
abbrev pub TraceListsState : Type 0
TraceListsState =
    (family : AddressFamily) (end : End) (merge : MergeState) (state : RouterState) (events : List Occurrence)
    (ledger : Ledger) (after : RouterState) → IsStateTrace family end merge state events ledger after →
    ListState family events after × IsTrace family end merge state (without_state events) after

-- Each machine that these events list as held names the packet of the last of them that set its
-- Expiry Timer, and how long ago it left NoInfo last. Where the machine was held at the start, and
-- no event did so, it is no packet, at the moment 0.
abbrev pub HeldNameTheirCauses : RouterState → List Occurrence → Type 0
HeldNameTheirCauses state events =
    (earlier later : List Occurrence) (event : Occurrence) (port : ℕ) (held : HeldMachine (List ℕ)) →
    events ≡ earlier ++ event ∷ later → event.port ≡ Some port → event.what ≡ machine_held held →
    let key : Key (List ℕ) = key_on port held.group held.what in
    (held.cause ≡ unwrap_or (last_setting state Expiry key events) (no_cause held.group))
    × (held.held_for ≡ event.ms - last_begun key 0 events)

-- So it is in a trace with the state.
abbrev pub StateNamesCauses : Type 0
StateNamesCauses =
    (family : AddressFamily) (end : End) (merge : MergeState) (state : RouterState) (events : List Occurrence)
    (ledger : Ledger) (after : RouterState) → IsAscending state.machines.records →
    IsStateTrace family end merge state events ledger after → HeldNameTheirCauses state events
