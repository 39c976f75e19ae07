-- When what an audit holds as due is right: the whole of it, or but for the touched machines.
use Rattle.std.specs.Prelude.{◌≡◌, ℕ, Bool, false, ◌&&◌, List}
use Rattle.pim_addr.specs.declared.family.AddressFamily.{AddressFamily}
use Rattle.pim_down.specs.declared.machines.key.What.{What}
use Rattle.pim_down.specs.Hearing.{Event}
use Rattle.pim_router.specs.State.{RouterState}
use Rattle.pim_audit.specs.declared.machine.GroupMachine.{GroupMachine}
use Rattle.pim_audit.specs.Audited.{AuditState, sides_of, has_neighbour}
use Rattle.pim_audit.specs.Gathering.{is_entry_of, is_due_between}
use Rattle.pim_audit.specs.Look.{DueEntry, held_entries}
use Rattle.pim_audit.specs.Sides.{SidesState}
use Rattle.pim_audit.specs.Touched.{TouchedMachines, is_one_of, is_touched, OthersStay}

-- The entry is due between both sides, if the upstream neighbour is known.
abbrev pub is_due_if : Bool → AddressFamily → SidesState → Event → Bool
is_due_if known family sides this = known && is_due_between family sides this

-- Of the machines that aren't touched, exactly the entries are held that are due.
abbrev pub HoldsBetween : Bool → AddressFamily → TouchedMachines → SidesState → List DueEntry → Type 0
HoldsBetween known family touched sides due = (this : Event) → is_touched this.group this.what touched ≡ false →
    is_entry_of (held_entries due) this ≡ is_due_if known family sides this

-- The same of all machines but these.
abbrev pub HoldsApart : Bool → AddressFamily → List (GroupMachine (List ℕ)) → SidesState → List DueEntry → Type 0
HoldsApart known family machines sides due = (this : Event) → is_one_of this.group this.what machines ≡ false →
    is_entry_of (held_entries due) this ≡ is_due_if known family sides this

-- The entry is due now: none is while the upstream neighbour is no neighbour.
abbrev pub is_due_now : AddressFamily → AuditState → RouterState → Event → Bool
is_due_now family audit router this =
    is_due_if (has_neighbour audit.upstream router) family (sides_of audit router) this

-- Of the machines that aren't touched, the audit holds exactly the entries that are due now.
abbrev pub HoldsOutside : AddressFamily → TouchedMachines → AuditState → RouterState → Type 0
HoldsOutside family touched audit router =
    HoldsBetween (has_neighbour audit.upstream router) family touched (sides_of audit router) audit.due

-- The machines that aren't touched have the same states in both, and the upstream neighbour is a
-- neighbour in both or in none.
pub record RouterStays (touched : TouchedMachines) (upstream : List ℕ) (before after : RouterState) : Type 0 where
  pub states : OthersStay touched before.machines after.machines
  pub routes : after.routes ≡ before.routes
  pub known : (group : List ℕ) (what : What (List ℕ)) → is_touched group what touched ≡ false →
      has_neighbour upstream after ≡ has_neighbour upstream before

-- These are the entries that are due now.
abbrev pub AreExactlyNow : AddressFamily → AuditState → RouterState → List Event → Type 0
AreExactlyNow family audit router entries = (this : Event) → is_entry_of entries this ≡ is_due_now family audit router this
