-- Which entries are listed, and which are due.
use Rattle.std.specs.Prelude.{◌≡◌, Bool, List}
use Rattle.std.specs.List.{list_any}
use Rattle.pim_addr.specs.declared.family.AddressFamily.{AddressFamily}
use Rattle.pim_down.specs.Hearing.{Event}
use Rattle.pim_audit.specs.Dues.{is_due}
use Rattle.pim_audit.specs.Order.{same_entry}
use Rattle.pim_audit.specs.Sides.{SidesState, asked_side, wanted_side}

-- The entry is one of these.
abbrev pub is_entry_of : List Event → Event → Bool
is_entry_of entries this = list_any (same_entry this) entries

-- The entry is due between both sides.
abbrev pub is_due_between : AddressFamily → SidesState → Event → Bool
is_due_between family sides this = is_due (asked_side sides) (wanted_side family sides) this

-- These are the entries that are due between both sides.
abbrev pub AreExactly : AddressFamily → SidesState → List Event → Type 0
AreExactly family sides entries = (this : Event) → is_entry_of entries this ≡ is_due_between family sides this
