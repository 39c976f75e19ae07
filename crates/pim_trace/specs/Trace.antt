-- The whole trace: the events of the turns of a merge, then those of the time up to the end of the
-- run, then the end itself. Where a fault of a capture stops the run, what is still due at the
-- moment of the last turn happens before it.
use Rattle.std.specs.Prelude.{◌≡◌, ◌≢◌, ◌⊎◌, ⊤, ℕ, ◌+◌, List, [], ◌∷◌, ◌++◌, length, Option, None, Some}
use Rattle.std.specs.Prelude.{Result, Ok, Err}
use Rattle.std.specs.Io.KnownBytes.{Appends}
use Rattle.std.specs.List.{flat_map}
use Rattle.pim_addr.specs.declared.family.AddressFamily.{AddressFamily}
use Rattle.pim_device.specs.Device.{AppendsFront}
use Rattle.pim_capture.specs.declared.fault.CaptureFault.TheVariants as fault
use Rattle.pim_capture.specs.Next.{IsRefusal}
use Rattle.pim_hello.specs.Neighbours.{Table}
use Rattle.pim_merge.specs.declared.end.End.{End}
use Rattle.pim_merge.specs.declared.merge.MergeFault.{MergeFault}
use Rattle.pim_merge.specs.Ends.{end_moment, clock_of, AreAll, AreFirst, AreBefore}
use Rattle.pim_merge.specs.Merge.{Taken}
use Rattle.pim_merge.specs.Lane.{lane_at, tallies_of}
use Rattle.pim_merge.specs.Tally.{tallies_after}
use Rattle.pim_merge.specs.Next.{MergeState, IsNumbered}
use Rattle.pim_merge.specs.Run.{CountsAll, IsTallied}
use Rattle.pim_router.specs.State.{RouterState}
use Rattle.pim_events.specs.Events.{Occurrence, run_ended}
use Rattle.pim_run.specs.declared.fault.RunFault.{RunFault}
use Rattle.pim_run.specs.declared.fault.RunFault.TheVariants.{Capture, Output, Memory}
use Rattle.pim_trace.specs.Ledger.{Ledger, new_ledger, epoch_of}
use Rattle.pim_trace.specs.Passing.{PassesTime}
use Rattle.pim_trace.specs.Turn.{WritesTurn}

-- ---- the events of a trace

-- The turns follow one another. They lead the router from `state` to `after`, and these are their
-- events.
unfoldable pub WritesTurns : AddressFamily → List Taken → Ledger → RouterState → List Occurrence → Ledger →
    RouterState → Type 0
WritesTurns family [] ledger state events ledger' after = (events ≡ []) × (ledger' ≡ ledger) × (after ≡ state)
WritesTurns family (first ∷ others) ledger state events ledger' after =
    (one : List Occurrence) × (more : List Occurrence) × (ledger_then : Ledger) × (between : RouterState)
    × WritesTurn family first ledger state one ledger_then between
    × WritesTurns family others ledger_then between more ledger' after × (events ≡ one ++ more)

-- The number of neighbours of all ports.
unfoldable pub neighbours_in : List Table → ℕ
neighbours_in [] = 0
neighbours_in (table ∷ tables) = length table.entries + neighbours_in tables

-- The end of the run: how many machines and neighbours the router holds, and the skipped records.
abbrev pub ending : Ledger → RouterState → Occurrence
ending ledger state = record {
  ms = state.machines.moment;
  epoch = epoch_of state.machines.moment ledger;
  port = None;
  what = run_ended (record {
    records = length state.machines.records;
    neighbours = neighbours_in state.tables;
    skipped = ledger.skipped;
  });
}

-- The ledger of a router's trace, before any record.
abbrev pub ledger_for : RouterState → Ledger
ledger_for state = new_ledger (length state.ports)

-- The router of `state` takes these turns, and then time passes up to the moment that `until` gives
-- for the one that they reach. These are the events of both.
pub record RunsUntil (until : ℕ → ℕ) (family : AddressFamily) (state : RouterState) (taken : List Taken)
    (events : List Occurrence) (ledger : Ledger) (after : RouterState) : Type 0 where
  pub turns : List Occurrence
  pub ledger_then : Ledger
  pub between : RouterState
  pub wrote : WritesTurns family taken (ledger_for state) state turns ledger_then between
  pub way : List Occurrence
  pub passes : PassesTime (until between.machines.moment) ledger_then between way ledger after
  pub events_are : events ≡ turns ++ way

-- These are the events of the turns, and of what is still due at the moment that they reach.
abbrev pub RunsOut : AddressFamily → RouterState → List Taken → List Occurrence → Ledger → RouterState → Type 0
RunsOut = RunsUntil (λ moment. moment)

module _ (family : AddressFamily) (end : End) (merge : MergeState) (state : RouterState) where
  -- Some first turns of the merge, and what is still due then, have these events.
  pub record WritesFirst (events : List Occurrence) : Type 0 where
    pub taken : List Taken
    pub are : AreFirst end merge taken
    pub ledger : Ledger
    pub after : RouterState
    pub runs : RunsOut family state taken events ledger after

  -- All turns of the merge up to the end of the run, and the time up to that end, have these
  -- events. The merge ends without a fault, and `after` is the router at the end.
  pub record WritesAll (events : List Occurrence) (ledger : Ledger) (after : RouterState) : Type 0 where
    pub taken : List Taken
    pub are : AreAll end merge None taken
    pub runs : RunsUntil (end_moment end (clock_of merge.clock taken)) family state taken events ledger after

  -- The events of a whole trace.
  pub record IsTrace (events : List Occurrence) (after : RouterState) : Type 0 where
    pub reported : List Occurrence
    pub ledger : Ledger
    pub wrote : WritesAll reported ledger after
    pub events_are : events ≡ reported ++ ending ledger after ∷ []

-- ---- what a trace returns and writes, where `line` is what is written of an event

-- These events were written.
abbrev pub Wrote : (Occurrence → List ℕ) → Option (List ℕ) → Option (List ℕ) → List Occurrence → Type 0
Wrote line old new events = Appends old new (flat_map line events)

-- A front of what is written of these events was written.
abbrev pub WroteFront : (Occurrence → List ℕ) → Option (List ℕ) → Option (List ℕ) → List Occurrence → Type 0
WroteFront line old new events = AppendsFront old new (flat_map line events)

module _ (line : Occurrence → List ℕ) (family : AddressFamily) (end : End) (merge : MergeState)
    (state : RouterState) where
  -- A fault of a capture ended the trace, and exactly the events of the turns before it, and of
  -- what was still due then, were written. The fault is the next answer of its capture, or a read
  -- of that capture failed in the call. It is never a lack of memory. The tallies of `merge'` count
  -- these turns, and the fault has the number of the record after those of its capture.
  pub record StopsAt (merge' : MergeState) (reported : MergeFault) (old new : Option (List ℕ)) : Type 0 where
    pub taken : List Taken
    pub are : AreBefore end merge reported taken
    pub events : List Occurrence
    pub ledger : Ledger
    pub after : RouterState
    pub runs : RunsOut family state taken events ledger after
    pub written : Wrote line old new events
    pub no_memory : reported.fault ≢ fault.Memory
    pub cause : IsRefusal {A = ⊤} (lane_at reported.capture merge.lanes).failures
        (lane_at reported.capture merge'.lanes).failures (Err reported.fault)
        ⊎ AreAll end merge (Some (reported.capture, reported.fault)) taken
    pub tallies : tallies_of merge'.lanes ≡ tallies_after (tallies_of merge.lanes) taken
    pub numbered : IsNumbered (tallies_of merge'.lanes) reported

  -- A front of the events of some first turns, and of what was still due then, was written.
  pub record HasSome (old new : Option (List ℕ)) : Type 0 where
    pub events : List Occurrence
    pub wrote : WritesFirst family end merge state events
    pub written : WroteFront line old new events

  -- All events of a trace that leads to this router were written, or as far as `IsWritten` says.
  pub record HasTrace (after : RouterState) (IsWritten : List Occurrence → Type 0) : Type 0 where
    pub events : List Occurrence
    pub is_trace : IsTrace family end merge state events after
    pub written : IsWritten events

  -- A front of the trace was written: of the events of some first turns, or of all.
  abbrev pub BeginsTrace : Option (List ℕ) → Option (List ℕ) → Type 0
  BeginsTrace old new =
      HasSome old new ⊎ (last : RouterState) × HasTrace last (WroteFront line old new)

-- What `trace_into` returns and writes. At Ok the whole trace was written. After a fault of a
-- capture, the events before it were. After any other fault, a front of the trace was.
-- The tallies of `merge'` count the turns: all at Ok, those before the fault of a capture, or some
-- first ones.
abbrev pub Traces : {A : Type 0} → (Occurrence → List ℕ) → AddressFamily → End → MergeState → MergeState →
    RouterState → RouterState → Option (List ℕ) → Option (List ℕ) → Result A RunFault → Type 0
Traces line family end merge merge' state after old new (Ok done) =
    HasTrace line family end merge state after (Wrote line old new) × CountsAll end merge merge'
Traces line family end merge merge' state after old new (Err (Capture reported)) =
    StopsAt line family end merge state merge' reported old new
Traces line family end merge merge' state after old new (Err Output) =
    BeginsTrace line family end merge state old new × IsTallied end merge merge'
Traces line family end merge merge' state after old new (Err Memory) =
    BeginsTrace line family end merge state old new × IsTallied end merge merge'
