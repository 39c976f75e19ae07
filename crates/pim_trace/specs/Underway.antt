-- A trace in progress. These definitions serve private functions only.
use Rattle.std.specs.Prelude.{◌≡◌, ℕ, List, Option, None, Result, Ok, Err}
use Rattle.pim_addr.specs.declared.family.AddressFamily.{AddressFamily}
use Rattle.pim_merge.specs.declared.end.End.{End}
use Rattle.pim_merge.specs.Ends.{clock_of, AreAll}
use Rattle.pim_merge.specs.Lane.{tallies_of}
use Rattle.pim_merge.specs.Merge.{Taken}
use Rattle.pim_merge.specs.Next.{MergeState}
use Rattle.pim_merge.specs.Run.{CountsAll}
use Rattle.pim_merge.specs.Tally.{tallies_after}
use Rattle.pim_router.specs.State.{RouterState}
use Rattle.pim_run.specs.declared.fault.RunFault.{RunFault}
use Rattle.pim_run.specs.declared.fault.RunFault.TheVariants.{Capture, Output, Memory}
use Rattle.pim_events.specs.Events.{Occurrence}
use Rattle.pim_trace.specs.Ledger.{Ledger}
use Rattle.pim_trace.specs.StateTrace.{BeginsRun}
use Rattle.pim_trace.specs.Trace.{WritesTurns, WritesAll, ledger_for, Wrote, HasSome, StopsAt}
use Rattle.pim_trace.specs.WrittenEvents.{HasWritten}

module _ (line : Occurrence → List ℕ) (family : AddressFamily) (end : End) (merge : MergeState) (state : RouterState)
    (old : Option (List ℕ)) where
  -- All turns of the merge up to the end of the run were taken, and their events were written. The
  -- tallies of `merge'` count these turns.
  pub record HasAll (merge' : MergeState) (ledger : Ledger) (now : RouterState) (new : Option (List ℕ))
      : Type 0 where
    pub taken : List Taken
    pub events : List Occurrence
    pub are : AreAll end merge None taken
    pub clock : merge'.clock ≡ clock_of merge.clock taken
    pub tallies : tallies_of merge'.lanes ≡ tallies_after (tallies_of merge.lanes) taken
    pub wrote : WritesTurns family taken (ledger_for state) state events ledger now
    pub written : Wrote line old new events

  -- What the run over all turns returns and leaves.
  abbrev pub RunsTurns : {A : Type 0} → MergeState → Ledger → RouterState → Option (List ℕ) → Result A RunFault →
      Type 0
  RunsTurns merge' ledger now new (Ok done) = HasAll merge' ledger now new
  RunsTurns merge' ledger now new (Err (Capture reported)) = StopsAt line family end merge state merge' reported old new
  RunsTurns merge' ledger now new (Err Output) = HasSome line family end merge state old new
  RunsTurns merge' ledger now new (Err Memory) = HasSome line family end merge state old new

  -- What the run over all turns and the time up to its end returns and leaves.
  abbrev pub RunsToEnd : {A : Type 0} → MergeState → Ledger → RouterState → Option (List ℕ) → Result A RunFault →
      Type 0
  RunsToEnd merge' ledger after new (Ok done) =
      HasWritten line (WritesAll family end merge state) ledger after old new × CountsAll end merge merge'
  RunsToEnd merge' ledger after new (Err (Capture reported)) = StopsAt line family end merge state merge' reported old new
  RunsToEnd merge' ledger after new (Err Output) = BeginsRun line family end merge state old new
  RunsToEnd merge' ledger after new (Err Memory) = BeginsRun line family end merge state old new
