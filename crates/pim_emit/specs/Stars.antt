-- The ports that have (*,G) of a group.
use Rattle.std.specs.Prelude.{◌≡◌, ℕ, ◌<◌, Bool, true, false, List, Option, None, Some, slice_index_or}
use Rattle.pim_down.specs.Time.{Downstream}
use Rattle.pim_form.specs.Wants.{some_below}
use Rattle.pim_emit.specs.declared.stars.Stars.{Stars}
use Rattle.pim_emit.specs.Machines.{is_starred}

-- The flag of each number below the count is whether the number passes the test.
abbrev pub AreFlags : ℕ → (ℕ → Bool) → List Bool → Type 0
AreFlags count test flags =
    (place : ℕ) (other : Bool) → place < count → slice_index_or flags place other ≡ test place

-- The first number below the count that passes the test; `None` if none does.
abbrev pub IsFirstBelow : ℕ → (ℕ → Bool) → Option ℕ → Type 0
IsFirstBelow count test None = some_below count test ≡ false
IsFirstBelow count test (Some first) = (first < count) × (test first ≡ true) × (some_below first test ≡ false)

-- These ports have (*,G) in Join or Prune-Pending, with the first of them: joins(*,G) (RFC 7761,
-- 4.1).
pub record AreStars (state : Downstream) (group : List ℕ) (stars : Stars) : Type 0 where
  pub each : AreFlags state.ports (is_starred state group) stars.on
  pub least : IsFirstBelow state.ports (is_starred state group) stars.first
