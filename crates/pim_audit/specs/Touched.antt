-- Which machines something may have changed since the last look, and what stays of the others.
use Rattle.std.specs.Prelude.{◌≡◌, ℕ, Bool, true, false, ◌&&◌, ◌||◌, not, List, [], map, Option, None, Some}
use Rattle.std.specs.List.{AllByRecursion, list_any}
use Rattle.std.specs.Option.{is_some}
use Rattle.std.specs.Ordering.{is_eq}
use Rattle.pim_jp.specs.declared.entry.Entry.{Entry}
use Rattle.pim_jp.specs.declared.entry.Entry.TheVariants as entry
use Rattle.pim_jp.specs.Message.{GroupSet, Message}
use Rattle.pim_down.specs.declared.machines.key.What.{What}
use Rattle.pim_down.specs.declared.machines.key.What.TheVariants.{Star, Source, Rpt}
use Rattle.pim_down.specs.declared.machines.machine.State.{State}
use Rattle.pim_down.specs.declared.machines.machine.State.TheVariants.{Join}
use Rattle.pim_down.specs.Key.{what_cmp}
use Rattle.pim_down.specs.Seen.{what_seen}
use Rattle.pim_down.specs.Time.{Downstream}
use Rattle.pim_form.specs.NormalForm.{same_address}
use Rattle.pim_form.specs.Wants.{state_on}
use Rattle.pim_router.specs.Reading.{Reading, read_hello, read_message, read_other, read_fault}
use Rattle.pim_audit.specs.declared.machine.GroupMachine.{GroupMachine}

-- A machine of the code, with its addresses as lists of bytes.
abbrev pub machine_seen : {A : Type 0} → (A → List ℕ) → GroupMachine A → GroupMachine (List ℕ)
machine_seen bytes_of machine = record { group = bytes_of machine.group; what = what_seen bytes_of machine.what }

-- Machines of the code, with their addresses as lists of bytes.
abbrev pub machines_seen : {A : Type 0} → (A → List ℕ) → List (GroupMachine A) → List (GroupMachine (List ℕ))
machines_seen bytes_of = map (machine_seen bytes_of)

-- The machine of the group is one of these.
abbrev pub is_one_of : List ℕ → What (List ℕ) → List (GroupMachine (List ℕ)) → Bool
is_one_of group what machines =
    list_any (λ machine. same_address group machine.group && is_eq (what_cmp what machine.what)) machines

-- It is an (S,G,rpt) machine.
abbrev pub is_exception : What (List ℕ) → Bool
is_exception Star = false
is_exception (Source source) = false
is_exception (Rpt source) = true

-- All machines, or these.
pub record TouchedMachines : Type 0 where
  pub all : Bool
  pub machines : List (GroupMachine (List ℕ))

-- No machine.
abbrev pub untouched : TouchedMachines
untouched = record { all = false; machines = [] }

-- The machine is touched: it is one of them, or an (S,G,rpt) whose (*,G) is one of them. What is due
-- of an exception depends on the star (RFC 7761, 4.5.6).
abbrev pub is_touched : List ℕ → What (List ℕ) → TouchedMachines → Bool
is_touched group what touched =
    touched.all || (is_one_of group what touched.machines || (is_exception what && is_one_of group Star touched.machines))

-- No machine is left out that was one before.
abbrev pub Grows : TouchedMachines → TouchedMachines → Type 0
Grows before after = (group : List ℕ) (what : What (List ℕ)) → is_touched group what before ≡ true →
    is_touched group what after ≡ true

-- ---- messages

-- A Join(*,G), or a Prune(*,G), leaves a (*,G) machine in this state: the former leaves Join, the latter
-- NoInfo (RFC 7761, 4.5.1).
abbrev pub is_left_in : Bool → Option State → Bool
is_left_in joins None = not joins
is_left_in joins (Some Join) = joins
is_left_in joins (Some _) = false

-- A Join(*,G), or a Prune(*,G), on the port may change the state of this machine of G. A Join(*,G) may
-- end each (S,G,rpt) machine that the port holds (RFC 7761, 4.5.3).
abbrev pub is_changed_by_star : ℕ → Downstream → Bool → List ℕ → What (List ℕ) → Bool
is_changed_by_star port state joins group Star = not (is_left_in joins (state_on state.records port group Star))
is_changed_by_star port state joins group (Source source) = false
is_changed_by_star port state joins group (Rpt source) = joins && is_some (state_on state.records port group (Rpt source))

-- An entry of the joined list (`joins` is true) or the pruned list of a group set may change the state
-- of this machine of the group. An entry with a source changes no other machine than its own.
abbrev pub is_changed_by : ℕ → Downstream → Bool → List ℕ → Entry (List ℕ) → What (List ℕ) → Bool
is_changed_by port state joins group (entry.Star rp) what = is_changed_by_star port state joins group what
is_changed_by port state joins group (entry.Source source) what =
    not (is_left_in joins (state_on state.records port group (Source source))) && is_eq (what_cmp (Source source) what)
is_changed_by port state joins group (entry.Rpt source) what = is_eq (what_cmp (Rpt source) what)

-- The machines that the entry may change are touched.
abbrev pub TouchesEntry : ℕ → Downstream → Bool → List ℕ → TouchedMachines → Entry (List ℕ) → Type 0
TouchesEntry port state joins group touched this = (what : What (List ℕ)) →
    is_changed_by port state joins group this what ≡ true → is_touched group what touched ≡ true

-- Those that each entry of the list may change are touched.
abbrev pub TouchesEntries : ℕ → Downstream → Bool → List ℕ → TouchedMachines → List (Entry (List ℕ)) → Type 0
TouchesEntries port state joins group touched entries = AllByRecursion (TouchesEntry port state joins group touched) entries

-- The same of both lists of a group set.
abbrev pub TouchesSet : ℕ → Downstream → TouchedMachines → GroupSet → Type 0
TouchesSet port state touched set =
    TouchesEntries port state true set.group touched set.joined × TouchesEntries port state false set.group touched set.pruned

-- The machines whose states a message may change are touched, if the port hears it in this state.
abbrev pub Touches : ℕ → Message → Downstream → TouchedMachines → Type 0
Touches port message state touched = AllByRecursion (TouchesSet port state touched) message.sets

-- The same of what a message reads as.
abbrev pub TouchesReading : ℕ → Reading → Downstream → TouchedMachines → Type 0
TouchesReading port (read_message message) state touched = Touches port message state touched
TouchesReading port (read_hello said) state touched = Unit {0}
TouchesReading port (read_other type) state touched = Unit {0}
TouchesReading port (read_fault fault) state touched = Unit {0}

-- ---- what stays

-- The machine has the same states in both, on each port. Its timers may differ.
pub record SameStates (group : List ℕ) (what : What (List ℕ)) (before after : Downstream) : Type 0 where
  pub ports : after.ports ≡ before.ports
  pub states : (port : ℕ) → state_on after.records port group what ≡ state_on before.records port group what

-- Each machine that isn't touched has the same states in both.
abbrev pub OthersStay : TouchedMachines → Downstream → Downstream → Type 0
OthersStay touched before after = (group : List ℕ) (what : What (List ℕ)) → is_touched group what touched ≡ false →
    SameStates group what before after
