-- A run over a merge, turn by turn: which turns were taken so far.
use Rattle.std.specs.Prelude.{◌≡◌, ◌⊎◌, ⊤, List, [], ◌∷◌, ◌++◌, Option, None, Some, Result, Ok, Err, ℕ}
use Rattle.pim_capture.specs.Capture.{Answer}
use Rattle.pim_capture.specs.Next.{event_seen, IsRefusal}
use Rattle.pim_time.specs.declared.reading.Time.{Time}
use Rattle.pim_merge.specs.declared.clock.Clock.{Clock}
use Rattle.pim_merge.specs.declared.end.End.{End}
use Rattle.pim_merge.specs.declared.merge.MergeFault.{MergeFault}
use Rattle.pim_merge.specs.declared.merge.Turn.{Turn}
use Rattle.pim_merge.specs.Ends.{last_of, clock_of, Takes, AreAll, AreFirst, AreBefore}
use Rattle.pim_merge.specs.Merge.{Taken}
use Rattle.pim_merge.specs.Lane.{IsComing, failures_of, lane_at, tallies_of}
use Rattle.pim_merge.specs.Next.{MergeState, bytes_at, IsNumbered}
use Rattle.pim_merge.specs.Tally.{tallies_after}

-- A turn of the merge as a record, where these are the bytes of its capture.
abbrev pub turn_seen : List ℕ → Turn → Taken
turn_seen bytes turn =
    record { capture = turn.capture; moment = turn.moment; reported = event_seen bytes turn.event }

-- The turn that was taken last, with the bytes that the merge keeps for it.
abbrev pub taken_by : MergeState → Turn → Taken
taken_by merge turn = turn_seen (bytes_at turn.capture merge) turn

-- These turns were taken. `merge` is the merge after them, and `rest` is what the captures still
-- have to give.
pub record IsBehind (last : Option Time) (clock : Option Clock) (captures : List (List Answer)) (taken : List Taken)
    (merge : MergeState) : Type 0 where
  pub rest : List (List Answer)
  pub takes_them : Takes last clock captures taken merge.clock rest
  pub coming : IsComing merge.lanes rest

-- These first turns of a run over the merge `start` were taken, and no read has failed. `merge` is
-- the merge after them.
pub record HasTaken (end : End) (start : MergeState) (taken : List Taken) (merge : MergeState) : Type 0 where
  pub turns : (captures : List (List Answer)) → IsComing start.lanes captures →
      IsBehind (last_of end) start.clock captures taken merge
  pub first : AreFirst end start taken
  pub clock : merge.clock ≡ clock_of start.clock taken
  pub reads : failures_of merge.lanes ≡ failures_of start.lanes
  pub tallies : tallies_of merge.lanes ≡ tallies_after (tallies_of start.lanes) taken

-- A fault of a capture ends a run after exactly these turns. It is the next answer of its capture,
-- or a read of that capture failed, or memory was refused. `merge` is the merge after it.
pub record StopsAfter (end : End) (start : MergeState) (taken : List Taken) (merge : MergeState) (reported : MergeFault)
    : Type 0 where
  pub are : AreBefore end start reported taken
  pub cause : IsRefusal {A = ⊤} (lane_at reported.capture start.lanes).failures
      (lane_at reported.capture merge.lanes).failures (Err reported.fault)
      ⊎ AreAll end start (Some (reported.capture, reported.fault)) taken
  pub tallies : tallies_of merge.lanes ≡ tallies_after (tallies_of start.lanes) taken
  pub numbered : IsNumbered (tallies_of merge.lanes) reported

-- What a call for the next turn of a run returns and leaves, where these turns were taken before.
abbrev pub Advances : End → MergeState → List Taken → MergeState → Result (Option Turn) MergeFault → Type 0
Advances end start taken merge (Ok None) =
    AreAll end start None taken × (merge.clock ≡ clock_of start.clock taken)
    × (tallies_of merge.lanes ≡ tallies_after (tallies_of start.lanes) taken)
Advances end start taken merge (Ok (Some next)) = HasTaken end start (taken ++ taken_by merge next ∷ []) merge
Advances end start taken merge (Err reported) = StopsAfter end start taken merge reported

-- All turns of a run over the merge `start` were taken, which ends without a fault. The tallies of
-- `merge` count these.
pub record CountsAll (end : End) (start merge : MergeState) : Type 0 where
  pub taken : List Taken
  pub are : AreAll end start None taken
  pub tallies : tallies_of merge.lanes ≡ tallies_after (tallies_of start.lanes) taken

-- Some first turns of a run over the merge `start` were taken, and the tallies of `merge` count
-- these.
pub record IsTallied (end : End) (start merge : MergeState) : Type 0 where
  pub taken : List Taken
  pub first : AreFirst end start taken
  pub tallies : tallies_of merge.lanes ≡ tallies_after (tallies_of start.lanes) taken
