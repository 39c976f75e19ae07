-- Events in another order than that of their message, and conditions under which they have the same
-- effect (RFC 7761, 4.5). These definitions serve private steps alone.
use Rattle.std.specs.Prelude.{◌≡◌, ℕ, Bool, true, false, ◌&&◌, ◌||◌, nat_eq, ◌≤◌, List, [], ◌∷◌, ◌++◌, map, take, drop, Some}
use Rattle.std.specs.List.{list_any}
use Rattle.std.specs.Cmp.Lexicographic.{pointwise}
use Rattle.std.specs.Ordering.{is_lt}
use Rattle.pim_jp.specs.declared.entry.Entry.{Entry}
use Rattle.pim_jp.specs.declared.entry.Entry.TheVariants as entry
use Rattle.pim_down.specs.declared.machines.event.Event.{Event as EventOf}
use Rattle.pim_down.specs.declared.hearing.listed.LastStar.{LastStar}
use Rattle.pim_down.specs.declared.machines.key.What.{What}
use Rattle.pim_down.specs.declared.machines.key.What.TheVariants.{Star, Source, Rpt}
use Rattle.pim_down.specs.declared.machines.key.Key.{Key}
use Rattle.pim_down.specs.declared.machines.machine.Record.{Record}
use Rattle.pim_down.specs.Tables.{Start}
use Rattle.pim_down.specs.Key.{key_cmp}
use Rattle.pim_down.specs.Records.{IsAscending}
use Rattle.pim_down.specs.Hearing.{Event, key_of, is_star_join, is_rpt, act_all, count_new}
use Rattle.pim_down.specs.Seen.{event_seen}
use Rattle.pim_down.specs.Stars.{StayBut, is_pruned_by}

-- One event comes before the other by its group, and within a group by its machine.
abbrev pub comes_before : Event → Event → Bool
comes_before one other = is_lt (key_cmp (key_of 0 one) (key_of 0 other))

-- An (S,G) machine is kept; (*,G) and (S,G,rpt) machines become one.
abbrev pub source_or_star : What (List ℕ) → What (List ℕ)
source_or_star Star = Star
source_or_star (Source source) = Source source
source_or_star (Rpt source) = Star

-- The key of an event for a sort that puts only events of (S,G) machines in key order.
abbrev pub source_key_of : Event → Key (List ℕ)
source_key_of event = record { port = 0; group = event.group; what = source_or_star event.what }

-- One event comes before the other by its group, and within a group by source if both are of (S,G)
-- machines. The other events of a group come before these, and none of them before another.
abbrev pub comes_before_by_source : Event → Event → Bool
comes_before_by_source one other = is_lt (key_cmp (source_key_of one) (source_key_of other))

-- A Join(*,G) of this group, or an event of one of the group's (S,G,rpt) machines.
abbrev pub is_of_rpts_of : List ℕ → Event → Bool
is_of_rpts_of group event = pointwise nat_eq event.group group && (is_star_join event || is_rpt event.what)

-- The second list of events follows the first. In it no Join(*,G) follows another one of its group
-- or an event of one of the group's (S,G,rpt) machines.
unfoldable pub ComeFirstBehind : List Event → List Event → Type 0
ComeFirstBehind before [] = Unit {0}
ComeFirstBehind before (event ∷ events) =
    (is_star_join event ≡ true → list_any (is_of_rpts_of event.group) before ≡ false)
    × ComeFirstBehind (before ++ event ∷ []) events

-- No Join(*,G) follows another one of its group or an event of one of the group's (S,G,rpt)
-- machines.
abbrev pub StarsComeFirst : List Event → Type 0
StarsComeFirst events = ComeFirstBehind [] events

-- Both lists of events leave the same records and make equally many, on every port and from all
-- records in key order.
abbrev pub AreAlike : List Event → List Event → Type 0
AreAlike these those = (port : ℕ) (records : List (Record (List ℕ))) → IsAscending records →
    ((start : Start) → act_all port start these records ≡ act_all port start those records)
    × (count_new port records these ≡ count_new port records those)

-- An entry that names the machine. Its RP is left empty.
abbrev pub entry_of_what : What (List ℕ) → Entry (List ℕ)
entry_of_what Star = entry.Star []
entry_of_what (Source source) = entry.Source source
entry_of_what (Rpt source) = entry.Rpt source

-- An entry that names the event's machine. Its RP is left empty.
abbrev pub entry_of_event : Event → Entry (List ℕ)
entry_of_event event = entry_of_what event.what

-- A Join(*,G) would change no (S,G,rpt) machine of the group on the port, except those that these
-- events name.
abbrev pub StayButListed : ℕ → List ℕ → List Event → List (Record (List ℕ)) → Type 0
StayButListed port group events records =
    StayBut port group (λ key. is_pruned_by port group (map entry_of_event events) key) records

-- What is noted of the last Join(*,G) among the first `count` events is right. If it notes a group,
-- another Join(*,G) of this group would change only machines that the events since then name.
abbrev pub IsLast : {A : Type 0} → (A → List ℕ) → ℕ → List (EventOf A) → ℕ → LastStar A → List (Record (List ℕ)) → Type 0
IsLast {A} bytes_of port events count last records =
    (last.behind ≤ count)
    × ((group : A) → last.group ≡ Some group →
    StayButListed port (bytes_of group) (map (event_seen bytes_of) (drop last.behind (take count events))) records)
