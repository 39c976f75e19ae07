-- The machines of a port that a Join/Prune message changed, and the kind of event that did it (RFC
-- 7761, 4.5.1 to 4.5.3).
use Rattle.std.specs.Prelude.{◌≡◌, ◌≢◌, ℕ, Bool, true, ◌==◌, if◌then◌else◌}
use Rattle.std.specs.Prelude.{List, [], ◌∷◌, Option, None, Some, map}
use Rattle.std.specs.Option.{unwrap_or}
use Rattle.std.specs.List.{AllByRecursion, list_any}
use Rattle.std.specs.List.Sorted.{IsStrictlySortedBy}
use Rattle.pim_down.specs.declared.machines.key.Key.{Key}
use Rattle.pim_down.specs.declared.machines.machine.State.{State}
use Rattle.pim_down.specs.declared.machines.machine.State.TheVariants as state
use Rattle.pim_down.specs.declared.machines.machine.Machine.{Machine}
use Rattle.pim_down.specs.declared.machines.machine.Record.{Record}
use Rattle.pim_down.specs.Key.{key_cmp, same_key}
use Rattle.pim_down.specs.Records.{machine_at}
use Rattle.pim_down.specs.Tables.{Start}
use Rattle.pim_down.specs.Hearing.{Event, effect, at_end, heard_at}
use Rattle.pim_transitions.specs.declared.transition.By.{By}
use Rattle.pim_transitions.specs.declared.transition.By.TheVariants as kind
use Rattle.pim_transitions.specs.declared.transition.Transition.{Transition}

-- ---- states

-- The number of a state, to tell states apart.
abbrev pub number_of : State → ℕ
number_of state.Join = 1
number_of state.PrunePending = 2
number_of state.Prune = 3
number_of state.PruneTmp = 4
number_of state.PrunePendingTmp = 5

-- The number of a machine's state; NoInfo has 0.
abbrev pub state_number : Option Machine → ℕ
state_number None = 0
state_number (Some machine) = number_of machine.state

-- Both machines are in the same state.
abbrev pub same_state : Option Machine → Option Machine → Bool
same_state one other = state_number one == state_number other

-- The machine is in Join.
abbrev pub is_joined : Option Machine → Bool
is_joined machine = state_number machine == 1

-- ---- what changed a machine last

-- The kind of an entry's event.
abbrev pub kind_of : Event → By
kind_of event = if event.joins then kind.Join else kind.Prune

-- The kind of an event, if it changes the machine's state.
abbrev pub changed_by : By → Option Machine → Option Machine → Option By
changed_by by before after = if same_state before after then None else Some by

-- The later of two kinds, if there is one, else the earlier.
abbrev pub last_of : Option By → Option By → Option By
last_of earlier None = earlier
last_of earlier (Some later) = Some later

-- The last of these events, and of End of Message after them, that changes the state of the machine
-- at a key, by the rows of the tables (RFC 7761, Figures 2 to 4). `held` is the machine before.
unfoldable pub changed_last : ℕ → Start → List Event → Key (List ℕ) → Option Machine → Option By
changed_last port start [] key held = changed_by kind.End held (at_end port key held)
changed_last port start (event ∷ events) key held =
    last_of (changed_by (kind_of event) held (effect port start event key held))
    (changed_last port start events key (effect port start event key held))

-- Join for a machine in Join, else Prune.
abbrev pub by_state : Option Machine → By
by_state machine = if is_joined machine then kind.Join else kind.Prune

-- The kind of the event that changed the machine's state last. Where none did, the state after the
-- message says it: Join in Join, else Prune.
abbrev pub caused_by : ℕ → Start → List Event → Key (List ℕ) → Option Machine → By
caused_by port start events key held =
    unwrap_or (changed_last port start events key held)
    (by_state (heard_at port start events key held))

-- ---- the machines that a message changed

-- The item has the machine at its key before and after the message. Both differ, in their state or
-- a timer, and the item's kind is that of the last event that changed the state.
pub record IsTransition (port : ℕ) (start : Start) (events : List Event)
    (before after : List (Record (List ℕ))) (item : Transition (List ℕ)) : Type 0 where
  pub was : item.before ≡ machine_at item.key before
  pub is : item.after ≡ machine_at item.key after
  pub differ : item.before ≢ item.after
  pub cause : item.by ≡ caused_by port start events item.key item.before

-- The key is that of an item.
abbrev pub has_transition : Key (List ℕ) → List (Transition (List ℕ)) → Bool
has_transition key items = list_any (λ item. same_key item.key key) items

-- The keys of the items, in their order.
abbrev pub keys_of_transitions : List (Transition (List ℕ)) → List (Key (List ℕ))
keys_of_transitions items = map (λ item. item.key) items

-- The items are the machines that differ after a message with these events on the port, in key
-- order and each once. What came and went within the message is none.
pub record AreTransitions (port : ℕ) (start : Start) (events : List Event)
    (before after : List (Record (List ℕ))) (items : List (Transition (List ℕ))) : Type 0 where
  pub ascending : IsStrictlySortedBy key_cmp (keys_of_transitions items)
  pub each : AllByRecursion (IsTransition port start events before after) items
  pub all : (key : Key (List ℕ)) → machine_at key before ≢ machine_at key after →
      has_transition key items ≡ true
