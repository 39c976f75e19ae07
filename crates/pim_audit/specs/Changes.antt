-- What changes at a look, machine by machine.
use Rattle.std.specs.Prelude.{◌≡◌, ℕ, Bool, true, false, ◌&&◌, ◌||◌, not, List}
use Rattle.std.specs.List.{filter}
use Rattle.pim_addr.specs.declared.family.AddressFamily.{AddressFamily}
use Rattle.pim_down.specs.Hearing.{Event}
use Rattle.pim_audit.specs.declared.machine.GroupMachine.{GroupMachine}
use Rattle.pim_audit.specs.Gathering.{is_entry_of}
use Rattle.pim_audit.specs.Holding.{is_due_if}
use Rattle.pim_audit.specs.Look.{DueEntry, held_entries}
use Rattle.pim_audit.specs.Sides.{SidesState}
use Rattle.pim_audit.specs.Touched.{is_one_of}

-- These are the entries of the machines that are due and weren't held.
abbrev pub AreNew : Bool → AddressFamily → SidesState → List (GroupMachine (List ℕ)) → List DueEntry → List Event → Type 0
AreNew known family sides machines due new = (this : Event) → is_entry_of new this ≡
    (is_one_of this.group this.what machines && (is_due_if known family sides this && not (is_entry_of (held_entries due) this)))

-- The entry is one of these machines, and isn't due.
abbrev pub is_gone : Bool → AddressFamily → SidesState → List (GroupMachine (List ℕ)) → DueEntry → Bool
is_gone known family sides machines held =
    is_one_of held.entry.group held.entry.what machines && not (is_due_if known family sides held.entry)

-- No new entry was held, and these are some of those that were held, in order.
pub record AreChanges (due : List DueEntry) (new : List Event) (gone : List DueEntry) : Type 0 where
  pub fresh : (this : Event) → is_entry_of new this ≡ true → is_entry_of (held_entries due) this ≡ false
  pub leaves : DueEntry → Bool
  pub gone_are : gone ≡ filter leaves due

-- The entries after these changes: the new ones, and those that were held and aren't gone.
abbrev pub AreChanged : List DueEntry → List Event → List DueEntry → List Event → Type 0
AreChanged due new gone entries = (this : Event) → is_entry_of entries this ≡
    (is_entry_of new this || (is_entry_of (held_entries due) this && not (is_entry_of (held_entries gone) this)))
