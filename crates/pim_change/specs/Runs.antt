-- The group of the last unit of a run, which decides whether the next unit begins a new group set.
use Rattle.std.specs.Prelude.{ℕ, List, [], ◌∷◌, Option, Some}
use Rattle.pim_form.specs.Units.{WantUnit, unit_group}

-- The group of the last unit of a run that follows a unit of the group `before`, if there is one.
unfoldable pub last_group : Option (List ℕ) → List WantUnit → Option (List ℕ)
last_group before [] = before
last_group before (this ∷ run) = last_group (Some (unit_group this)) run
