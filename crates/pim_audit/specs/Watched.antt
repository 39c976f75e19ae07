-- The machines at which a look has to look: those that are touched, and with (*,G) all (S,G,rpt) of
-- the group of which something was due or may be due.
use Rattle.std.specs.Prelude.{◌≡◌, ◌<◌, ℕ, Bool, true, List}
use Rattle.std.specs.Option.{is_some}
use Rattle.pim_down.specs.declared.machines.key.What.{What}
use Rattle.pim_down.specs.declared.machines.key.What.TheVariants.{Star, Rpt}
use Rattle.pim_down.specs.Hearing.{Event}
use Rattle.pim_down.specs.Time.{Downstream}
use Rattle.pim_form.specs.Wants.{state_on}
use Rattle.pim_local.specs.Joins.{Join, is_listed as is_joined_locally}
use Rattle.pim_audit.specs.declared.machine.GroupMachine.{GroupMachine}
use Rattle.pim_audit.specs.Entries.{entry}
use Rattle.pim_audit.specs.Gathering.{is_entry_of}
use Rattle.pim_audit.specs.Local.{what_of}
use Rattle.pim_audit.specs.Look.{DueEntry, held_entries}
use Rattle.pim_audit.specs.Sides.{SidesState}
use Rattle.pim_audit.specs.Touched.{is_one_of}

-- No machine is left out that was one before.
abbrev pub MachinesGrow : List (GroupMachine (List ℕ)) → List (GroupMachine (List ℕ)) → Type 0
MachinesGrow before after = (group : List ℕ) (what : What (List ℕ)) → is_one_of group what before ≡ true →
    is_one_of group what after ≡ true

-- ---- all machines of which something was due or may be due

-- Each machine that some port holds is one of these.
abbrev pub HasHeld : Downstream → List (GroupMachine (List ℕ)) → Type 0
HasHeld state machines = (port : ℕ) (group : List ℕ) (what : What (List ℕ)) →
    is_some (state_on state.records port group what) ≡ true → is_one_of group what machines ≡ true

-- The machine of each local join is.
abbrev pub HasLocal : List Join → List (GroupMachine (List ℕ)) → Type 0
HasLocal local machines = (join : Join) → is_joined_locally join local ≡ true →
    is_one_of join.group (what_of join.source) machines ≡ true

-- The machine of each entry that was due is.
abbrev pub HasDue : List DueEntry → List (GroupMachine (List ℕ)) → Type 0
HasDue due machines = (this : Event) → is_entry_of (held_entries due) this ≡ true →
    is_one_of this.group this.what machines ≡ true

-- All of them are.
pub record HasAll (sides : SidesState) (due : List DueEntry) (machines : List (GroupMachine (List ℕ))) : Type 0 where
  pub of_asked : HasHeld sides.asked machines
  pub of_wanted : HasHeld sides.wanted machines
  pub of_local : HasLocal sides.local machines
  pub of_due : HasDue due machines

-- ---- the exceptions of a group's star

-- Each (S,G,rpt) machine of the group that the port holds is one of these.
abbrev pub HasExceptionsOn : Downstream → List ℕ → ℕ → List (GroupMachine (List ℕ)) → Type 0
HasExceptionsOn state group port machines = (source : List ℕ) →
    is_some (state_on state.records port group (Rpt source)) ≡ true → is_one_of group (Rpt source) machines ≡ true

-- The same of the first `count` ports.
abbrev pub HasExceptionsBelow : ℕ → Downstream → List ℕ → List (GroupMachine (List ℕ)) → Type 0
HasExceptionsBelow count state group machines = (port : ℕ) → port < count → HasExceptionsOn state group port machines

-- Each (S,G,rpt) machine of the group of which something was due is.
abbrev pub HasDueExceptions : List DueEntry → List ℕ → List (GroupMachine (List ℕ)) → Type 0
HasDueExceptions due group machines = (joins : Bool) (source : List ℕ) →
    is_entry_of (held_entries due) (entry joins group (Rpt source)) ≡ true → is_one_of group (Rpt source) machines ≡ true

-- All of them are.
pub record HasExceptions (sides : SidesState) (due : List DueEntry) (group : List ℕ)
    (machines : List (GroupMachine (List ℕ))) : Type 0 where
  pub of_asked : HasExceptionsBelow sides.asked.ports sides.asked group machines
  pub of_wanted : HasExceptionsBelow sides.wanted.ports sides.wanted group machines
  pub of_due : HasDueExceptions due group machines

-- The machine is one of these, and if it is (*,G), so are all exceptions of its group.
pub record Watches (sides : SidesState) (due : List DueEntry) (machines : List (GroupMachine (List ℕ)))
    (group : List ℕ) (what : What (List ℕ)) : Type 0 where
  pub has : is_one_of group what machines ≡ true
  pub exceptions : what ≡ Star → HasExceptions sides due group machines
