-- How units are packed into messages, as a relation of a list of units and a list of runs. Each run
-- becomes one message.
use Rattle.std.specs.Prelude.{◌≡◌, ℕ, Bool, true, false, ◌&&◌, List, [], ◌∷◌, ◌++◌, nat_le}
use Rattle.std.specs.List.{flat_map}
use Rattle.pim_addr.specs.declared.family.AddressFamily.{AddressFamily}
use Rattle.pim_form.specs.Units.{WantUnit, run_groups, run_size}

-- The most groups of a Join/Prune message, whose count of groups has 8 bits (RFC 7761, 4.9.5).
abbrev pub most_groups : ℕ
most_groups = 255

-- The size of a run is within the budget, and its number of groups is within the limit.
abbrev pub fits : AddressFamily → ℕ → List WantUnit → Bool
fits family budget run = nat_le (run_size family run) budget && nat_le (run_groups run) most_groups

-- No unit is left, or the run wouldn't fit together with the next unit.
abbrev pub StopsBefore : AddressFamily → ℕ → List WantUnit → List WantUnit → Type 0
StopsBefore family budget run [] = Unit {0}
StopsBefore family budget run (next ∷ left) = fits family budget (run ++ next ∷ []) ≡ false

-- The run has a unit.
abbrev pub IsNonempty : List WantUnit → Type 0
IsNonempty [] = ⊥
IsNonempty (this ∷ run) = Unit {0}

-- The units of all runs, in order.
abbrev pub joined : List (List WantUnit) → List WantUnit
joined runs = flat_map (λ run. run) runs

-- Each run has a unit and fits, and wouldn't fit together with the unit after it.
unfoldable pub AreRuns : AddressFamily → ℕ → List (List WantUnit) → Type 0
AreRuns family budget [] = Unit {0}
AreRuns family budget (run ∷ runs) = IsNonempty run × (fits family budget run ≡ true)
    × StopsBefore family budget run (joined runs) × AreRuns family budget runs

-- The runs are a packing of the units: together they are these units in order, and each run holds
-- as many units as fit.
pub record IsPacking (family : AddressFamily) (budget : ℕ) (units : List WantUnit)
    (runs : List (List WantUnit)) : Type 0 where
  pub whole : joined runs ≡ units
  pub cut : AreRuns family budget runs
