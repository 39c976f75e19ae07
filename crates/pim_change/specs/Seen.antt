-- How contracts see the units of a change: addresses as lists of bytes.
use Rattle.std.specs.Prelude.{ℕ, List, map}
use Rattle.pim_change.specs.declared.unit.Unit.{Unit}
use Rattle.pim_change.specs.declared.unit.Action.{Action as ActionOf}
use Rattle.pim_change.specs.declared.unit.Action.TheVariants.{JoinStar, PruneStar, Of}
use Rattle.pim_change.specs.Change.{Action, star_joined, star_pruned, of_source, ChangeUnit}

module _ {A : Type 0} (bytes_of : A → List ℕ) where
  -- An `Action` of the code, with addresses as lists of bytes.
  abbrev pub action_seen : ActionOf A → Action
  action_seen (JoinStar exceptions) = star_joined (map bytes_of exceptions.now)
  action_seen PruneStar = star_pruned
  action_seen (Of kind source) = of_source kind (bytes_of source)

  -- A `Unit` of the code, with addresses as lists of bytes.
  abbrev pub unit_seen : Unit A → ChangeUnit
  unit_seen this = record { group = bytes_of this.group; action = action_seen this.action }

  -- Units of the code, with addresses as lists of bytes.
  abbrev pub units_seen : List (Unit A) → List ChangeUnit
  units_seen units = map unit_seen units

  -- What units of one group say of it, with addresses as lists of bytes.
  abbrev pub actions_seen : List (Unit A) → List Action
  actions_seen units = map (λ this. action_seen this.action) units
