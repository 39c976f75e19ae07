-- The entries that a router has to send: those of the change from what it asked for to what it has
-- to ask for (RFC 7761, 4.5.4, 4.5.5 and 4.5.7).
use Rattle.std.specs.Prelude.{ℕ, Bool, true, false, List, [], ◌∷◌, map}
use Rattle.std.specs.List.{flat_map}
use Rattle.pim_addr.specs.declared.family.AddressFamily.{AddressFamily}
use Rattle.pim_down.specs.declared.machines.key.What.{What}
use Rattle.pim_down.specs.declared.machines.key.What.TheVariants.{Star, Source, Rpt}
use Rattle.pim_down.specs.Hearing.{Event}
use Rattle.pim_form.specs.NormalForm.{GroupForm, IsNormal}
use Rattle.pim_change.specs.declared.unit.ActionKind.{ActionKind}
use Rattle.pim_change.specs.declared.unit.ActionKind.TheVariants.{JoinRpt, PruneRpt, JoinSource, PruneSource}
use Rattle.pim_change.specs.Change.{Action, star_joined, star_pruned, of_source, ChangeUnit, change}
use Rattle.pim_audit.specs.Order.{EntriesAscend}

-- A Join or a Prune of this machine of the group.
abbrev pub entry : Bool → List ℕ → What (List ℕ) → Event
entry joins group what = record { joins = joins; group = group; what = what }

-- The entry of what is said of one source.
abbrev pub source_entry : List ℕ → ActionKind → List ℕ → Event
source_entry group JoinRpt source = entry true group (Rpt source)
source_entry group PruneRpt source = entry false group (Rpt source)
source_entry group JoinSource source = entry true group (Source source)
source_entry group PruneSource source = entry false group (Source source)

-- The entries of what is said of a group. A Prune(S,G,rpt) for each exception stands beside
-- Join(*,G) (RFC 7761, 4.9.5.2).
abbrev pub action_entries : List ℕ → Action → List Event
action_entries group (star_joined exceptions) = entry true group Star ∷ map (source_entry group PruneRpt) exceptions
action_entries group star_pruned = entry false group Star ∷ []
action_entries group (of_source kind source) = source_entry group kind source ∷ []

-- The entries of a unit of a change.
abbrev pub announced_entries : ChangeUnit → List Event
announced_entries unit = action_entries unit.group unit.action

-- The entries that are due where the first form was asked for and the second form has to be.
abbrev pub due_entries : List GroupForm → List GroupForm → List Event
due_entries asked wanted = flat_map announced_entries (change asked wanted)

-- What is due between two normal forms is in order.
abbrev pub DueEntriesAreInOrder : Type 0
DueEntriesAreInOrder = (family : AddressFamily) (asked wanted : List GroupForm) → IsNormal family asked →
    IsNormal family wanted → EntriesAscend (due_entries asked wanted)
