-- Which Join or Prune of one machine is due, by what was asked for and what is wanted of it (RFC
-- 7761, 4.5.4 to 4.5.7).
use Rattle.std.specs.Prelude.{ℕ, Bool, true, false, ◌&&◌, not, if◌then◌else◌, List, Option, None, Some}
use Rattle.pim_down.specs.declared.machines.key.What.{What}
use Rattle.pim_down.specs.declared.machines.key.What.TheVariants.{Star, Source, Rpt}
use Rattle.pim_down.specs.Hearing.{Event}
use Rattle.pim_form.specs.NormalForm.{Demand}
use Rattle.pim_form.specs.declared.tree.Tree.TheVariants.{Shared, Source as SourceTree}

-- A demand, and which groups have a star in its normal form.
pub record Side : Type 0 where
  pub demand : Demand
  pub star : List ℕ → Bool

-- The source is an exception of the group's star.
abbrev pub is_excepted : Side → List ℕ → List ℕ → Bool
is_excepted side source group = side.star group && not (side.demand source group Shared)

-- What is due of something that was asked for or not, and is wanted or not: a Join if it comes, a
-- Prune if it goes.
abbrev pub change_of : Bool → Bool → Option Bool
change_of false false = None
change_of false true = Some true
change_of true false = Some false
change_of true true = None

-- The same of an exception, which is the lack of something. Under no star none is due.
abbrev pub exception_change : Bool → Bool → Bool → Option Bool
exception_change starred was is = if starred then change_of (not was) (not is) else None

-- What is due of one machine of the group: a Join, a Prune, or nothing.
abbrev pub due_of : Side → Side → List ℕ → What (List ℕ) → Option Bool
due_of asked wanted group Star = change_of (asked.star group) (wanted.star group)
due_of asked wanted group (Source source) =
    change_of (asked.demand source group SourceTree) (wanted.demand source group SourceTree)
due_of asked wanted group (Rpt source) =
    exception_change (wanted.star group) (is_excepted asked source group) (is_excepted wanted source group)

-- What is due is this Join or this Prune.
abbrev pub is_one : Option Bool → Bool → Bool
is_one None joins = false
is_one (Some due) joins = if joins then due else not due

-- The entry is due.
abbrev pub is_due : Side → Side → Event → Bool
is_due asked wanted entry = is_one (due_of asked wanted entry.group entry.what) entry.joins
