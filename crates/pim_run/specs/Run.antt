-- A run over the turns of a merge, whatever is done at each of them.
use Rattle.std.specs.Prelude.{◌≡◌, ◌≢◌, ◌⊎◌, ⊤, ℕ, List, [], ◌∷◌, ◌++◌, Option, None, Some, Result, Ok, Err}
use Rattle.pim_capture.specs.declared.fault.CaptureFault.TheVariants as fault
use Rattle.pim_capture.specs.Next.{IsRefusal}
use Rattle.pim_merge.specs.declared.end.End.{End}
use Rattle.pim_merge.specs.declared.merge.MergeFault.{MergeFault}
use Rattle.pim_merge.specs.Ends.{AreAll, AreFirst, AreBefore, clock_of}
use Rattle.pim_merge.specs.Lane.{lane_at, tallies_of}
use Rattle.pim_merge.specs.Merge.{Taken}
use Rattle.pim_merge.specs.Next.{MergeState, IsNumbered}
use Rattle.pim_merge.specs.Tally.{tallies_after}
use Rattle.pim_router.specs.State.{RouterState}
use Rattle.pim_run.specs.declared.fault.RunFault.{RunFault}
use Rattle.pim_run.specs.declared.fault.RunFault.TheVariants.{Capture, Output, Memory}
use Rattle.pim_run.specs.declared.fault.TurnFault.{TurnFault}

-- What a call does that takes a turn: it takes the turn to its end, or only begins it.
abbrev pub OnTurn : {A : Type 0} → Type 0 → Type 0 → Result A TurnFault → Type 0
OnTurn takes begins (Ok done) = takes
OnTurn takes begins (Err fault) = begins

-- `Takes` says how a turn leads from what is kept, the router and the device's bytes to those after
-- it, and `Begins` what the device has where the turn was not taken to its end.
module _ {K : Type 0}
    (Takes : Taken → K → RouterState → Option (List ℕ) → K → RouterState → Option (List ℕ) → Type 0)
    (Begins : Taken → K → RouterState → Option (List ℕ) → Option (List ℕ) → Type 0) where
  -- The turns follow one another, and lead from the first three to the last three.
  unfoldable pub AreTaken : List Taken → K → RouterState → Option (List ℕ) → K → RouterState →
      Option (List ℕ) → Type 0
  AreTaken [] kept state old kept' after new = (kept' ≡ kept) × (after ≡ state) × (new ≡ old)
  AreTaken (turn ∷ turns) kept state old kept' after new =
      (next : K) × (between : RouterState) × (mid : Option (List ℕ)) × Takes turn kept state old next between mid
      × AreTaken turns next between mid kept' after new

  module _ (end : End) (merge merge' : MergeState) (kept : K) (state : RouterState) (old : Option (List ℕ)) where
    -- All turns of the merge up to the end of the run were taken, which ends without a fault. The
    -- tallies of `merge'` count these.
    pub record RunsThrough (kept' : K) (after : RouterState) (new : Option (List ℕ)) : Type 0 where
      pub taken : List Taken
      pub are : AreAll end merge None taken
      pub clock : merge'.clock ≡ clock_of merge.clock taken
      pub tallies : tallies_of merge'.lanes ≡ tallies_after (tallies_of merge.lanes) taken
      pub turns : AreTaken taken kept state old kept' after new

    -- A fault of a capture ended the run after exactly these turns. It is the next answer of its
    -- capture, or a read of that capture failed in the call. It is never a lack of memory. The
    -- tallies of `merge'` count these turns, and the fault has the number of the record after those
    -- of its capture.
    pub record StopsAt (reported : MergeFault) (kept' : K) (after : RouterState) (new : Option (List ℕ)) : Type 0 where
      pub taken : List Taken
      pub are : AreBefore end merge reported taken
      pub first : AreFirst end merge taken
      pub no_memory : reported.fault ≢ fault.Memory
      pub cause : IsRefusal {A = ⊤} (lane_at reported.capture merge.lanes).failures
          (lane_at reported.capture merge'.lanes).failures (Err reported.fault)
          ⊎ AreAll end merge (Some (reported.capture, reported.fault)) taken
      pub tallies : tallies_of merge'.lanes ≡ tallies_after (tallies_of merge.lanes) taken
      pub numbered : IsNumbered (tallies_of merge'.lanes) reported
      pub turns : AreTaken taken kept state old kept' after new

    -- Some first turns were taken, and at most one more was begun.
    pub record BreaksOff (new : Option (List ℕ)) : Type 0 where
      pub taken : List Taken
      pub kept' : K
      pub between : RouterState
      pub mid : Option (List ℕ)
      pub turns : AreTaken taken kept state old kept' between mid
      pub last : (AreFirst end merge taken × (new ≡ mid))
          ⊎ (next : Taken) × AreFirst end merge (taken ++ next ∷ []) × Begins next kept' between mid new

    -- What `run` returns and leaves.
    abbrev pub Runs : {A : Type 0} → K → RouterState → Option (List ℕ) → Result A RunFault → Type 0
    Runs kept' after new (Ok done) = RunsThrough kept' after new
    Runs kept' after new (Err (Capture reported)) = StopsAt reported kept' after new
    Runs kept' after new (Err Output) = BreaksOff new
    Runs kept' after new (Err Memory) = BreaksOff new
