-- What a look finds: which entries of Join/Prune messages are due, and since when.
use Rattle.std.specs.Prelude.{◌≡◌, ℕ, ◌+◌, nat_lt, Bool, false, ◌&&◌, ◌||◌, not, List, Option, None, Some, map}
use Rattle.std.specs.List.{filter, find, list_any}
use Rattle.pim_down.specs.Hearing.{Event}
use Rattle.pim_audit.specs.Order.{same_entry}

-- A due entry: the moment since which it is due, in milliseconds, and whether it was reported as late.
pub record DueEntry : Type 0 where
  pub entry : Event
  pub since : ℕ
  pub is_reported : Bool

-- The entries of what is due.
abbrev pub held_entries : List DueEntry → List Event
held_entries due = map (λ (held : DueEntry). held.entry) due

-- An entry that was due before stays due since then; another one is due since this moment.
abbrev pub or_new : ℕ → Event → Option DueEntry → DueEntry
or_new moment entry None = record { entry = entry; since = moment; is_reported = false }
or_new moment entry (Some held) = record { entry = entry; since = held.since; is_reported = held.is_reported }

-- How an entry is due at a look, if these were due before.
abbrev pub due_at : List DueEntry → ℕ → Event → DueEntry
due_at old moment entry = or_new moment entry (find (λ held. same_entry held.entry entry) old)

-- An entry is new if it wasn't due before.
abbrev pub is_newly_due : List DueEntry → Event → Bool
is_newly_due old entry = not (list_any (λ held. same_entry held.entry entry) old)

-- An entry has ended if it was reported as late and isn't among those that are due now.
abbrev pub ends_reported : List Event → DueEntry → Bool
ends_reported entries held = held.is_reported && not (list_any (λ entry. same_entry held.entry entry) entries)

-- An entry becomes late if it has been due for more than the grace and wasn't reported before.
abbrev pub becomes_late : ℕ → ℕ → DueEntry → Bool
becomes_late moment grace held = not held.is_reported && nat_lt (held.since + grace) moment

-- The entry after a look: one that becomes late is reported.
abbrev pub marked : ℕ → ℕ → DueEntry → DueEntry
marked moment grace held =
    record { entry = held.entry; since = held.since; is_reported = held.is_reported || becomes_late moment grace held }

-- What a look finds: what is due, which entries of it are new, which entries ended of those that
-- were reported, and which become late.
pub record Found : Type 0 where
  pub due : List DueEntry
  pub new : List Event
  pub ended : List DueEntry
  pub late : List DueEntry

-- What a look finds at a moment, by the grace, if `old` was due at the last look and `entries` are
-- due now. All lists are in order.
pub record LookFinds (old : List DueEntry) (entries : List Event) (moment grace : ℕ) (found : Found)
    : Type 0 where
  pub due : found.due ≡ map (marked moment grace) (map (due_at old moment) entries)
  pub new : found.new ≡ filter (is_newly_due old) entries
  pub ended : found.ended ≡ filter (ends_reported entries) old
  pub late : found.late ≡ filter (becomes_late moment grace) (map (due_at old moment) entries)
