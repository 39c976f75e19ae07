-- A run in progress. These definitions serve private functions only.
use Rattle.std.specs.Prelude.{ℕ, Bool, true, false, List, Option, Result, Ok, Err}
use Rattle.pim_merge.specs.declared.end.End.{End}
use Rattle.pim_merge.specs.Merge.{Taken}
use Rattle.pim_merge.specs.Next.{MergeState}
use Rattle.pim_merge.specs.Run.{HasTaken}
use Rattle.pim_router.specs.State.{RouterState}
use Rattle.pim_run.specs.declared.fault.RunFault.{RunFault}
use Rattle.pim_run.specs.Run.{AreTaken, RunsThrough, Runs}

module _ {K : Type 0}
    (Takes : Taken → K → RouterState → Option (List ℕ) → K → RouterState → Option (List ℕ) → Type 0)
    (Begins : Taken → K → RouterState → Option (List ℕ) → Option (List ℕ) → Type 0)
    (end : End) (merge : MergeState) (kept : K) (state : RouterState) (old : Option (List ℕ)) where
  -- Some first turns of the merge were taken, and it has come to `merge'`.
  pub record IsUnderway (merge' : MergeState) (kept' : K) (now : RouterState) (new : Option (List ℕ)) : Type 0 where
    pub taken : List Taken
    pub run : HasTaken end merge taken merge'
    pub turns : AreTaken Takes Begins taken kept state old kept' now new

  -- What one more turn returns and leaves. It returns `false` if there is no further turn.
  abbrev pub Steps : MergeState → K → RouterState → Option (List ℕ) → Result Bool RunFault → Type 0
  Steps merge' kept' now new (Ok false) = RunsThrough Takes Begins end merge merge' kept state old kept' now new
  Steps merge' kept' now new (Ok true) = IsUnderway merge' kept' now new
  Steps merge' kept' now new (Err fault) =
      Runs Takes Begins end merge merge' kept state old {A = Bool} kept' now new (Err fault)

-- This fact holds if there was one more turn.
abbrev pub IfMore : Result Bool RunFault → Type 0 → Type 0
IfMore (Ok true) fact = fact
IfMore (Ok false) fact = Unit {0}
IfMore (Err fault) fact = Unit {0}
