-- The change between two forms: the one that was last sent to an upstream neighbour, and the one
-- that is wanted (RFC 7761, 4.5.4, 4.5.5 and 4.5.7).
use Rattle.std.specs.Prelude.{ℕ, not, List, [], ◌∷◌, ◌++◌, Option, None, Some, map}
use Rattle.std.specs.List.{filter, flat_map}
use Rattle.std.specs.Ordering.{nat_cmp}
use Rattle.std.specs.Cmp.Lexicographic.{slice_cmp}
use Rattle.pim_form.specs.NormalForm.{GroupForm, is_listed, groups_of}
use Rattle.pim_form.specs.Merge.{by_order}
use Rattle.pim_form.specs.Settled.{group_in}
use Rattle.pim_change.specs.declared.unit.ActionKind.{ActionKind}
use Rattle.pim_change.specs.declared.unit.ActionKind.TheVariants.{JoinRpt, PruneRpt, JoinSource, PruneSource}

-- ---- the change of one group

-- What a message says of a group and doesn't split: Join(*,G) with a Prune(S,G,rpt) for each
-- exception (RFC 7761, 4.9.5.2), Prune(*,G), or the Join or Prune of one source.
pub data Action : Type 0 where
  star_joined : List (List ℕ) → Action
  star_pruned : Action
  of_source : ActionKind → List ℕ → Action

-- The addresses of the first list that aren't in the other list, in their order.
abbrev pub lacking : List (List ℕ) → List (List ℕ) → List (List ℕ)
lacking one other = filter (λ address. not (is_listed address other)) one

-- A star that comes is Join(*,G) with all its exceptions; one that goes is Prune(*,G). For a star
-- that stays, each exception that went is Join(S,G,rpt), and then each that came is Prune(S,G,rpt).
abbrev pub star_change : Option (List (List ℕ)) → Option (List (List ℕ)) → List Action
star_change None None = []
star_change None (Some exceptions) = star_joined exceptions ∷ []
star_change (Some excepted) None = star_pruned ∷ []
star_change (Some excepted) (Some exceptions) =
    map (of_source JoinRpt) (lacking excepted exceptions) ++ map (of_source PruneRpt) (lacking exceptions excepted)

-- Each source that came is Join(S,G), and then each that went is Prune(S,G).
abbrev pub sources_change : List (List ℕ) → List (List ℕ) → List Action
sources_change old new = map (of_source JoinSource) (lacking new old) ++ map (of_source PruneSource) (lacking old new)

-- The change of one group: of its star and then of its sources.
abbrev pub group_change : GroupForm → GroupForm → List Action
group_change old new = star_change old.star new.star ++ sources_change old.sources new.sources

-- ---- addresses in order

-- Inserts an address into an ascending list at its place, unless it is there already.
unfoldable pub inserted : List ℕ → List (List ℕ) → List (List ℕ)
inserted address [] = address ∷ []
inserted address (first ∷ others) =
    by_order (slice_cmp nat_cmp address first)
    (address ∷ first ∷ others)
    (first ∷ others)
    (first ∷ inserted address others)

-- These addresses in ascending order, each once: each is inserted at its place.
unfoldable pub in_order : List (List ℕ) → List (List ℕ)
in_order [] = []
in_order (address ∷ others) = inserted address (in_order others)

-- ---- the change between two forms

-- One unit of a change: a group and what a message says of it.
pub record ChangeUnit : Type 0 where
  pub group : List ℕ
  pub action : Action

-- The unit of a group and what is said of it.
abbrev pub unit_of : List ℕ → Action → ChangeUnit
unit_of group action = record { group = group; action = action }

-- The units of one group.
abbrev pub about : List ℕ → List Action → List ChangeUnit
about group actions = map (unit_of group) actions

-- The units for the change of one group between two forms.
abbrev pub change_at : List GroupForm → List GroupForm → List ℕ → List ChangeUnit
change_at old new group = about group (group_change (group_in group old) (group_in group new))

-- The change between two forms: the units of each group of either form, in ascending order of
-- groups.
unfoldable pub change : List GroupForm → List GroupForm → List ChangeUnit
change old new = flat_map (change_at old new) (in_order (groups_of old ++ groups_of new))
