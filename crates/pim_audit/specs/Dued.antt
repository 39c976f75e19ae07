-- What becomes of the due entries that are held, one change at a time. They are in order, and stay
-- so.
use Rattle.std.specs.Prelude.{ℕ, Bool, true, false, ◌&&◌, not, if◌then◌else◌, List, [], ◌∷◌, map}
use Rattle.std.specs.List.{filter}
use Rattle.std.specs.Ordering.{match_ordering}
use Rattle.pim_down.specs.Hearing.{Event}
use Rattle.pim_form.specs.NormalForm.{same_address}
use Rattle.pim_audit.specs.Look.{DueEntry}
use Rattle.pim_audit.specs.Order.{entry_cmp, same_entry}
use Rattle.pim_audit.specs.Touched.{is_exception}

-- The entry is of an (S,G,rpt) machine of this group.
abbrev pub is_exception_of : List ℕ → DueEntry → Bool
is_exception_of group held = same_address group held.entry.group && is_exception held.entry.what

-- What is held, without this entry.
abbrev pub without : Event → List DueEntry → List DueEntry
without this held = filter (λ other. not (same_entry this other.entry)) held

-- What is held, with this entry at its place in the order.
abbrev pub with_due_entry : DueEntry → List DueEntry → List DueEntry
with_due_entry this [] = this ∷ []
with_due_entry this (other ∷ others) =
    match_ordering (entry_cmp this.entry other.entry) (this ∷ other ∷ others) (this ∷ others) (other ∷ with_due_entry this others)

-- A due entry, reported if it is this one.
abbrev pub reported_if : Event → DueEntry → DueEntry
reported_if this held =
    record { entry = held.entry; since = held.since; is_reported = if same_entry this held.entry then true else held.is_reported }

-- What is held, with this entry reported.
abbrev pub with_reported : Event → List DueEntry → List DueEntry
with_reported this held = map (reported_if this) held

-- What is held, without each of these, one after the other.
unfoldable pub without_all : List DueEntry → List DueEntry → List DueEntry
without_all [] held = held
without_all (gone ∷ others) held = without_all others (without gone.entry held)

-- An entry that is due since this moment.
abbrev pub new_due : ℕ → Event → DueEntry
new_due moment entry = record { entry = entry; since = moment; is_reported = false }

-- What is held, with each of these since this moment, one after the other.
unfoldable pub with_all : ℕ → List Event → List DueEntry → List DueEntry
with_all moment [] held = held
with_all moment (new ∷ others) held = with_all moment others (with_due_entry (new_due moment new) held)
