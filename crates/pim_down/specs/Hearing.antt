-- What a port does when it hears a Join/Prune message (RFC 7761, 4.5): the events of the message,
-- what each does to the downstream machines, and how many records they need.
use Rattle.std.specs.Prelude.{ℕ, ◌+◌, ◌*◌, Bool, true, false, ◌&&◌, not, ◌==◌, nat_eq, if◌then◌else◌}
use Rattle.std.specs.Prelude.{List, [], ◌∷◌, ◌++◌, Option, None, Some, length}
use Rattle.std.specs.Option.{is_some}
use Rattle.std.specs.List.{filter, flat_map}
use Rattle.std.specs.Cmp.Lexicographic.{pointwise}
use Rattle.pim_jp.specs.declared.entry.Entry.{Entry}
use Rattle.pim_jp.specs.declared.entry.Entry.TheVariants as entry
use Rattle.pim_jp.specs.Message.{GroupSet, Message}
use Rattle.pim_down.specs.declared.machines.key.What.{What}
use Rattle.pim_down.specs.declared.machines.key.What.TheVariants.{Star, Source, Rpt}
use Rattle.pim_down.specs.declared.machines.key.Key.{Key}
use Rattle.pim_down.specs.declared.machines.machine.Machine.{Machine}
use Rattle.pim_down.specs.declared.machines.machine.Record.{Record}
use Rattle.pim_down.specs.declared.machines.event.Timing.{Timing}
use Rattle.pim_down.specs.Key.{same_key}
use Rattle.pim_down.specs.Records.{machine_at, count_on, changed, each_changed}
use Rattle.pim_down.specs.Tables.{Start, on_join, on_prune, on_star_join, on_rpt_join, on_rpt_prune, on_end}

-- ---- the events of a message

-- A Join or a Prune for one machine of a group, as a message carries it (RFC 7761, 4.5.1 to 4.5.3).
pub record Event : Type 0 where
  pub joins : Bool
  pub group : List ℕ
  pub what : What (List ℕ)

-- In this module `known` gives RP(G) for the bytes of a group G, and `None` where no RP is known.

-- This address is the RP that is known of the group.
abbrev pub is_known : Option (List ℕ) → List ℕ → Bool
is_known None rp = false
is_known (Some known) rp = pointwise nat_eq known rp

-- One event, as a list.
abbrev pub event : Bool → List ℕ → What (List ℕ) → List Event
event joins group what = record { joins = joins; group = group; what = what } ∷ []

-- The event of an entry of the joined list (`joins` is true) or the pruned list. A Join(*,G) whose
-- RP isn't RP(G) is no event; a Prune(*,G) is one with any RP (RFC 7761, 4.5.1).
abbrev pub entry_events : (List ℕ → Option (List ℕ)) → Bool → List ℕ → Entry (List ℕ) → List Event
entry_events known joins group (entry.Star rp) =
    if joins && not (is_known (known group) rp) then [] else event joins group Star
entry_events known joins group (entry.Source source) = event joins group (Source source)
entry_events known joins group (entry.Rpt source) = event joins group (Rpt source)

-- The events of one list of a group set, in its order.
abbrev pub list_events : (List ℕ → Option (List ℕ)) → Bool → List ℕ → List (Entry (List ℕ)) → List Event
list_events known joins group entries = flat_map (entry_events known joins group) entries

-- The events of a group set: those of its joined list, then those of its pruned list.
abbrev pub set_events : (List ℕ → Option (List ℕ)) → GroupSet → List Event
set_events known set = list_events known true set.group set.joined ++ list_events known false set.group set.pruned

-- The events of a Join/Prune message (4.9.5) in its order: group set by group set, joined entries
-- before pruned ones.
abbrev pub events_of : (List ℕ → Option (List ℕ)) → Message → List Event
events_of known message = flat_map (set_events known) message.sets

-- ---- what an event does

-- The timers that a message starts (RFC 7761, 4.5.1 to 4.5.3 and 4.11). The Expiry Timer takes
-- J/P_HoldTime from the message, where 0xffff is never. The Prune-Pending Timer takes
-- J/P_Override_Interval(I) if the port has several neighbours, and 0 otherwise.
abbrev pub start_of : ℕ → Timing → Start
start_of holdtime timing = record {
  expires_in = if holdtime == 65535 then None else Some (holdtime * 1000);
  pending = record { ends_in = if timing.several then timing.override_ms else 0; several = timing.several };
}

-- The key of the machine that the event names on this port.
abbrev pub key_of : ℕ → Event → Key (List ℕ)
key_of port event = record { port = port; group = event.group; what = event.what }

-- What the event does to the machine that it names, by the tables of Figures 2 to 4.
abbrev pub on_own : Bool → What (List ℕ) → Start → Option Machine → Option Machine
on_own true Star start held = on_join start held
on_own true (Source source) start held = on_join start held
on_own true (Rpt source) start held = on_rpt_join held
on_own false Star start held = on_prune start held
on_own false (Source source) start held = on_prune start held
on_own false (Rpt source) start held = on_rpt_prune start held

-- It is an (S,G,rpt) machine.
abbrev pub is_rpt : What (List ℕ) → Bool
is_rpt Star = false
is_rpt (Source source) = false
is_rpt (Rpt source) = true

-- It is a (*,G) machine.
abbrev pub is_star : What (List ℕ) → Bool
is_star Star = true
is_star (Source source) = false
is_star (Rpt source) = false

-- The event is a Join(*,G).
abbrev pub is_star_join : Event → Bool
is_star_join event = event.joins && is_star event.what

-- The key is of an (S,G,rpt) machine of the port.
abbrev pub is_rpt_on : ℕ → Key (List ℕ) → Bool
is_rpt_on port key = key.port == port && is_rpt key.what

-- The key is of an (S,G,rpt) machine of this group on the port.
abbrev pub is_rpt_of : ℕ → List ℕ → Key (List ℕ) → Bool
is_rpt_of port group key = is_rpt_on port key && pointwise nat_eq key.group group

-- How many (S,G,rpt) machines the port holds.
abbrev pub rpt_count_on : ℕ → List (Record (List ℕ)) → ℕ
rpt_count_on port records = length (filter (λ held. is_rpt_on port held.key) records)

-- What a Join(*,G) does beside its own machine: it acts on each (S,G,rpt) machine of the group on
-- the port (RFC 7761, 4.5.3, Figure 4).
abbrev pub on_rpts : ℕ → List ℕ → Key (List ℕ) → Option Machine → Option Machine
on_rpts port group key held = if is_rpt_of port group key then on_star_join held else held

-- What an event on the port does to the machine at a key.
abbrev pub effect : ℕ → Start → Event → Key (List ℕ) → Option Machine → Option Machine
effect port start event key held =
    if same_key (key_of port event) key then on_own event.joins event.what start held
    else (if is_star_join event then on_rpts port event.group key held else held)

-- What several events, one after the other, do to the machine at a key.
unfoldable pub effects : ℕ → Start → List Event → Key (List ℕ) → Option Machine → Option Machine
effects port start [] key held = held
effects port start (event ∷ events) key held = effects port start events key (effect port start event key held)

-- The records after an event on the port.
abbrev pub act : ℕ → Start → Event → List (Record (List ℕ)) → List (Record (List ℕ))
act port start event records =
    let own = changed (key_of port event) (on_own event.joins event.what start) records in
    if is_star_join event then each_changed (on_rpts port event.group) own else own

-- The records after several events on the port, one after the other.
unfoldable pub act_all : ℕ → Start → List Event → List (Record (List ℕ)) → List (Record (List ℕ))
act_all port start [] records = records
act_all port start (event ∷ events) records = act_all port start events (act port start event records)

-- What End of Message does to the machine at a key: it acts on each (S,G,rpt) machine of the port
-- (RFC 7761, 4.5.3, Figure 4).
abbrev pub at_end : ℕ → Key (List ℕ) → Option Machine → Option Machine
at_end port key held = if is_rpt_on port key then on_end held else held

-- What a message with these events does to the machine at a key: the effects of all events, then
-- End of Message.
abbrev pub heard_at : ℕ → Start → List Event → Key (List ℕ) → Option Machine → Option Machine
heard_at port start events key held = at_end port key (effects port start events key held)

-- The records after the port hears a message with these events. End of Message comes once, after
-- the last event.
abbrev pub hearing : ℕ → Start → List Event → List (Record (List ℕ)) → List (Record (List ℕ))
hearing port start events records = each_changed (at_end port) (act_all port start events records)

-- ---- how many records are needed

-- A Join(*,G), a Join(S,G) or a Prune(S,G,rpt): it makes a record where none is held.
abbrev pub creates_by : Bool → What (List ℕ) → Bool
creates_by true Star = true
creates_by true (Source source) = true
creates_by true (Rpt source) = false
creates_by false Star = false
creates_by false (Source source) = false
creates_by false (Rpt source) = true

-- The event makes a record where none is held.
abbrev pub creates : Event → Bool
creates event = creates_by event.joins event.what

-- The event makes a record, since none is held of its machine.
abbrev pub is_new : ℕ → List (Record (List ℕ)) → Event → Bool
is_new port records event = creates event && not (is_some (machine_at (key_of port event) records))

-- The number of creating events whose record isn't held when the message comes. Each repeat counts.
unfoldable pub count_new : ℕ → List (Record (List ℕ)) → List Event → ℕ
count_new port records [] = 0
count_new port records (event ∷ events) = (if is_new port records event then 1 else 0) + count_new port records events

-- The number of records that is compared with the port's limit: those of the port, and the new ones
-- of the message, repeats counted. This count is a choice of this project.
abbrev pub needed : ℕ → List (Record (List ℕ)) → List Event → ℕ
needed port records events = count_on port records + count_new port records events
