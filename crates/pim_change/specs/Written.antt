-- The Join/Prune messages of a change (RFC 7761, 4.9.5): how units are packed into runs, and what
-- the message of a run contains.
use Rattle.std.specs.Prelude.{◌≡◌, ℕ, ◌<◌, ◌^◌, Bool, true, false, List, [], ◌∷◌, Option, None, Some, length, map}
use Rattle.std.specs.List.{flat_map}
use Rattle.pim_addr.specs.declared.family.AddressFamily.{AddressFamily}
use Rattle.pim_frame.specs.Frame.{all_routers}
use Rattle.pim_frame.specs.Seal.{IsSealed}
use Rattle.pim_frame.specs.declared.frame.MessageType.TheVariants.{JoinPrune}
use Rattle.pim_jp.specs.declared.entry.Entry.{Entry}
use Rattle.pim_jp.specs.declared.entry.Entry.TheVariants.{Star, Source, Rpt}
use Rattle.pim_jp.specs.Message.{GroupSet, Message}
use Rattle.pim_jp.specs.Canonical.{canonical, canonical_set_length}
use Rattle.pim_form.specs.NormalForm.{GroupForm, same_address}
use Rattle.pim_form.specs.Units.{WantUnit, star_unit, source_unit}
use Rattle.pim_form.specs.Packing.{AreRuns}
use Rattle.pim_form.specs.Messages.{Writing}
use Rattle.pim_change.specs.declared.unit.ActionKind.{ActionKind}
use Rattle.pim_change.specs.declared.unit.ActionKind.TheVariants.{JoinRpt, PruneRpt, JoinSource, PruneSource}
use Rattle.pim_change.specs.Change.{Action, star_joined, star_pruned, of_source, ChangeUnit, change}

-- ---- packing, as for the units of a form

-- The unit of a form that is as large in a message: Join(*,G) with its exceptions is a star, and
-- anything else is one entry of its group.
abbrev pub weight_of : List ℕ → Action → WantUnit
weight_of group (star_joined exceptions) = star_unit group exceptions
weight_of group star_pruned = source_unit group []
weight_of group (of_source kind source) = source_unit group source

-- The unit of a form that is as large as this unit.
abbrev pub weight : ChangeUnit → WantUnit
weight this = weight_of this.group this.action

-- The units of a form that are as large as the units of a run.
abbrev pub weights : List ChangeUnit → List WantUnit
weights run = map weight run

-- The runs are a packing of the units: together they are these units in order, and each run holds
-- as many units as fit.
pub record IsPacked (family : AddressFamily) (budget : ℕ) (units : List ChangeUnit) (runs : List (List ChangeUnit))
    : Type 0 where
  pub whole : flat_map (λ run. run) runs ≡ units
  pub cut : AreRuns family budget (map weights runs)

-- ---- the contents of a message

-- The (*,G) entry that names the RP of a group; none without an RP.
abbrev pub rp_entry : Option (List ℕ) → List (Entry (List ℕ))
rp_entry None = []
rp_entry (Some rp) = Star rp ∷ []

-- The joined entry of a source, if it is joined.
abbrev pub kind_joined : ActionKind → List ℕ → List (Entry (List ℕ))
kind_joined JoinRpt source = Rpt source ∷ []
kind_joined JoinSource source = Source source ∷ []
kind_joined PruneRpt source = []
kind_joined PruneSource source = []

-- The pruned entry of a source, if it is pruned.
abbrev pub kind_pruned : ActionKind → List ℕ → List (Entry (List ℕ))
kind_pruned JoinRpt source = []
kind_pruned JoinSource source = []
kind_pruned PruneRpt source = Rpt source ∷ []
kind_pruned PruneSource source = Source source ∷ []

-- An (S,G,rpt) entry for each exception.
abbrev pub excepted_entries : List (List ℕ) → List (Entry (List ℕ))
excepted_entries exceptions = map (λ source. Rpt source) exceptions

-- The entries that a unit adds to the joined sources of its group set.
abbrev pub joined_entries : Option (List ℕ) → Action → List (Entry (List ℕ))
joined_entries rp (star_joined exceptions) = rp_entry rp
joined_entries rp star_pruned = []
joined_entries rp (of_source kind source) = kind_joined kind source

-- The entries that a unit adds to the pruned sources of its group set.
abbrev pub pruned_entries : Option (List ℕ) → Action → List (Entry (List ℕ))
pruned_entries rp (star_joined exceptions) = excepted_entries exceptions
pruned_entries rp star_pruned = rp_entry rp
pruned_entries rp (of_source kind source) = kind_pruned kind source

-- What one message says of a group.
pub record GroupActions : Type 0 where
  pub group : List ℕ
  pub actions : List Action

-- A group and what one message says of it.
abbrev pub actions_of : List ℕ → List Action → GroupActions
actions_of group actions = record { group = group; actions = actions }

-- Adds a unit in front of the group sets: to the first of them, or as a set of its own.
abbrev pub set_in_front : Bool → ChangeUnit → GroupActions → List GroupActions → List GroupActions
set_in_front true this first others = actions_of this.group (this.action ∷ first.actions) ∷ others
set_in_front false this first others = actions_of this.group (this.action ∷ []) ∷ first ∷ others

-- Adds a unit in front of the group sets. It joins the first of them if that is of the same group.
abbrev pub in_front : ChangeUnit → List GroupActions → List GroupActions
in_front this [] = actions_of this.group (this.action ∷ []) ∷ []
in_front this (first ∷ others) = set_in_front (same_address this.group first.group) this first others

-- Adjacent units of one group make one group set.
unfoldable pub grouped : List ChangeUnit → List GroupActions
grouped [] = []
grouped (this ∷ units) = in_front this (grouped units)

-- The group set of what one message says of a group, with entries in the order of the units.
abbrev pub written_set : (List ℕ → Option (List ℕ)) → GroupActions → GroupSet
written_set rps this = record {
  group = this.group;
  joined = flat_map (joined_entries (rps this.group)) this.actions;
  pruned = flat_map (pruned_entries (rps this.group)) this.actions;
}

-- The group sets of a run.
abbrev pub written_sets : (List ℕ → Option (List ℕ)) → List ChangeUnit → List GroupSet
written_sets rps run = map (written_set rps) (grouped run)

-- The number of bytes of a group set.
abbrev pub set_size : AddressFamily → GroupSet → ℕ
set_size family set = canonical_set_length family (length set.joined) (length set.pruned)

-- The counts of joined and pruned entries fit their fields of 16 bits.
abbrev pub IsShort : GroupSet → Type 0
IsShort set = (length set.joined < 2 ^ 16) × (length set.pruned < 2 ^ 16)

-- The Join/Prune message of a run, to the writer's upstream neighbour.
abbrev pub written_message : Writing → (List ℕ → Option (List ℕ)) → List ChangeUnit → Message
written_message writing rps run = record {
  upstream = writing.upstream;
  holdtime = writing.holdtime;
  sets = written_sets rps run;
}

-- The bytes are the message of a run in its canonical form, sealed to ALL-PIM-ROUTERS.
abbrev pub CarriesRun : AddressFamily → Writing → (List ℕ → Option (List ℕ)) → List ChangeUnit → List ℕ → Type 0
CarriesRun family writing rps run bytes =
    IsSealed family writing.own (all_routers family) JoinPrune (canonical family (written_message writing rps run)) bytes

-- The messages are those of the runs, one for each run, in order.
abbrev pub CarryRuns : AddressFamily → Writing → (List ℕ → Option (List ℕ)) → List (List ChangeUnit) → List (List ℕ) → Type 0
CarryRuns family writing rps [] [] = Unit {0}
CarryRuns family writing rps [] (bytes ∷ messages) = ⊥
CarryRuns family writing rps (run ∷ runs) [] = ⊥
CarryRuns family writing rps (run ∷ runs) (bytes ∷ messages) =
    CarriesRun family writing rps run bytes × CarryRuns family writing rps runs messages

-- The messages are those of the runs of a packing of the units.
pub record CarryUnits (family : AddressFamily) (writing : Writing) (rps : List ℕ → Option (List ℕ)) (units : List ChangeUnit)
    (messages : List (List ℕ)) : Type 0 where
  pub runs : List (List ChangeUnit)
  pub packing : IsPacked family writing.budget units runs
  pub reported : CarryRuns family writing rps runs messages

-- The messages are those of the change between two forms.
abbrev pub CarryChange : AddressFamily → Writing → (List ℕ → Option (List ℕ)) → List GroupForm → List GroupForm → List (List ℕ) → Type 0
CarryChange family writing rps old new messages = CarryUnits family writing rps (change old new) messages
