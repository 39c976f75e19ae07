-- The form of what one port wants, collected from its records in key order: of each group (*,G),
-- then the (S,G), then the (S,G,rpt).
use Rattle.std.specs.Prelude.{◌≡◌, ◌≤◌, ℕ, List, [], ◌∷◌, ◌++◌, Option, None, Some, length, if◌then◌else◌}
use Rattle.std.specs.List.{AllByRecursion, filter}
use Rattle.std.specs.declared.cmp.Ordering.TheVariants.{Less}
use Rattle.std.specs.Ordering.{nat_cmp}
use Rattle.std.specs.Cmp.Lexicographic.{slice_cmp}
use Rattle.pim_addr.specs.declared.family.AddressFamily.{AddressFamily}
use Rattle.pim_down.specs.declared.machines.key.What.{What}
use Rattle.pim_down.specs.declared.machines.key.What.TheVariants.{Star, Source, Rpt}
use Rattle.pim_down.specs.declared.machines.machine.State.{State}
use Rattle.pim_down.specs.declared.machines.machine.Record.{Record}
use Rattle.pim_down.specs.Records.{IsAscending, is_on}
use Rattle.pim_down.specs.Sound.{IsReal}
use Rattle.pim_down.specs.Time.{Downstream}
use Rattle.pim_form.specs.NormalForm.{GroupForm, Demand, same_address, is_empty}
use Rattle.pim_form.specs.Rows.{exceptions_of}
use Rattle.pim_form.specs.Wants.{is_joined, is_pruned, wants_on}
use Rattle.pim_form.specs.Merge.{some_from}

-- ---- a group, record by record

-- A group of which no record has been read: it has neither a star nor a source.
abbrev pub fresh : List ℕ → GroupForm
fresh group = record { group = group; star = None; sources = [] }

-- A star with one more exception at the end. Without a star there is no exception.
abbrev pub with_exception : List ℕ → Option (List (List ℕ)) → Option (List (List ℕ))
with_exception source None = None
with_exception source (Some exceptions) = Some (exceptions ++ source ∷ [])

-- The star of a group after one more record. (*,G) in Join or Prune-Pending makes a star, and
-- (S,G,rpt) in Prune adds an exception to it.
abbrev pub star_with : What (List ℕ) → State → Option (List (List ℕ)) → Option (List (List ℕ))
star_with Star state star = if is_joined (Some state) then Some [] else star
star_with (Source source) state star = star
star_with (Rpt source) state star = if is_pruned (Some state) then with_exception source star else star

-- The sources of a group after one more record. (S,G) in Join or Prune-Pending adds its source.
abbrev pub sources_with : What (List ℕ) → State → List (List ℕ) → List (List ℕ)
sources_with Star state sources = sources
sources_with (Source source) state sources = if is_joined (Some state) then sources ++ source ∷ [] else sources
sources_with (Rpt source) state sources = sources

-- The group after one more of its records.
abbrev pub added : Record (List ℕ) → GroupForm → GroupForm
added held form = record {
  group = form.group;
  star = star_with held.key.what held.machine.state form.star;
  sources = sources_with held.key.what held.machine.state form.sources;
}

-- The group may take a record of this machine next. (*,G) needs a group without a star. (S,G) needs
-- a group without exceptions, all of whose sources are less. (S,G,rpt) needs lesser exceptions.
abbrev pub Takes : What (List ℕ) → GroupForm → Type 0
Takes Star form = form.star ≡ None
Takes (Source source) form =
    (exceptions_of form.star ≡ []) × AllByRecursion (λ s. slice_cmp nat_cmp s source ≡ Less) form.sources
Takes (Rpt source) form = AllByRecursion (λ s. slice_cmp nat_cmp s source ≡ Less) (exceptions_of form.star)

-- ---- all groups of a port

-- The group as a list of one, or no group where it has neither a star nor a source.
abbrev pub closed : GroupForm → List GroupForm
closed form = if is_empty form.star form.sources then [] else form ∷ []

-- The form of an open group and of the records that follow. The first of these may still belong to
-- the open group.
unfoldable pub collected_behind : GroupForm → List (Record (List ℕ)) → List GroupForm
collected_behind form [] = closed form
collected_behind form (held ∷ records) =
    if same_address held.key.group form.group
    then collected_behind (added held form) records
    else closed form ++ collected_behind (added held (fresh held.key.group)) records

-- The form of the records of one port, in their order.
unfoldable pub collected : List (Record (List ℕ)) → List GroupForm
collected [] = []
collected (held ∷ records) = collected_behind (added held (fresh held.key.group)) records

-- The records all belong to this port, are in key order, each valid (`IsReal`), and at most
-- 100,000.
pub record AreOfPort (family : AddressFamily) (port ports : ℕ) (records : List (Record (List ℕ))) : Type 0 where
  pub ascending : IsAscending records
  pub real : AllByRecursion (IsReal family ports) records
  pub here : AllByRecursion (λ held. held.key.port ≡ port) records
  pub few : length records ≤ 100000

-- The records of one port, in their order.
abbrev pub of_port : ℕ → Downstream → List (Record (List ℕ))
of_port port state = filter (is_on port) state.records

-- What one port wants, as a demand.
abbrev pub wants_at : ℕ → Downstream → Demand
wants_at port state source group tree = wants_on state.records source group tree port

-- ---- several ports

-- What `count` ports want, from the port `first` on, as a demand.
abbrev pub wants_from : ℕ → ℕ → Downstream → Demand
wants_from first count state source group tree =
    some_from first count (wants_on state.records source group tree)
