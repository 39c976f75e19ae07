-- How a look finds what changed: of each machine it compares both entries with what was due.
use Rattle.std.specs.Prelude.{ℕ, Bool, true, false, List, [], ◌∷◌, Option, None, Some}
use Rattle.std.specs.List.{find, flat_map, IsDistinct}
use Rattle.pim_addr.specs.declared.family.AddressFamily.{AddressFamily}
use Rattle.pim_down.specs.Hearing.{Event}
use Rattle.pim_audit.specs.declared.machine.GroupMachine.{GroupMachine}
use Rattle.pim_audit.specs.Entries.{entry}
use Rattle.pim_audit.specs.Holding.{is_due_if}
use Rattle.pim_audit.specs.Look.{DueEntry}
use Rattle.pim_audit.specs.Order.{same_entry}
use Rattle.pim_audit.specs.Sides.{SidesState}

-- The Join and the Prune of a machine.
abbrev pub entries_at : GroupMachine (List ℕ) → List Event
entries_at machine = entry true machine.group machine.what ∷ entry false machine.group machine.what ∷ []

-- Those of each of these machines.
abbrev pub entries_of : List (GroupMachine (List ℕ)) → List Event
entries_of machines = flat_map entries_at machines

-- No entry is in the list twice.
abbrev pub AreApart : List Event → Type 0
AreApart entries = IsDistinct same_entry entries

-- The entry as it was due, if it was.
abbrev pub held_at : List DueEntry → Event → Option DueEntry
held_at due this = find (λ held. same_entry held.entry this) due

-- What is new of an entry that is due now or not: the entry, if it is and wasn't.
abbrev pub new_if : Bool → Event → Option DueEntry → List Event
new_if true this None = this ∷ []
new_if true this (Some held) = []
new_if false this held = []

-- What is gone of it: what was due, if it no longer is.
abbrev pub gone_if : Bool → Option DueEntry → List DueEntry
gone_if true held = []
gone_if false None = []
gone_if false (Some held) = held ∷ []

module _ (known : Bool) (family : AddressFamily) (sides : SidesState) (due : List DueEntry) where
  -- What is new of the entry.
  abbrev pub new_at : Event → List Event
  new_at this = new_if (is_due_if known family sides this) this (held_at due this)

  -- What is gone of the entry.
  abbrev pub gone_at : Event → List DueEntry
  gone_at this = gone_if (is_due_if known family sides this) (held_at due this)
