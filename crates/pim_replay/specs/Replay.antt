-- A replay: the turns of a merge, then the time up to the end of the run.
use Rattle.std.specs.Prelude.{◌≡◌, ◌≢◌, ◌⊎◌, ⊤, ℕ, List, [], ◌∷◌, Option, None, Some, Result, Ok, Err}
use Rattle.std.specs.Io.KnownBytes.{Appends}
use Rattle.std.specs.List.{flat_map}
use Rattle.pim_addr.specs.declared.family.AddressFamily.{AddressFamily}
use Rattle.pim_capture.specs.declared.fault.CaptureFault.TheVariants as fault
use Rattle.pim_capture.specs.Next.{IsRefusal}
use Rattle.pim_merge.specs.declared.clock.Clock.{Clock}
use Rattle.pim_merge.specs.declared.end.End.{End}
use Rattle.pim_merge.specs.declared.merge.MergeFault.{MergeFault}
use Rattle.pim_merge.specs.Merge.{Taken}
use Rattle.pim_merge.specs.Lane.{lane_at, tallies_of}
use Rattle.pim_merge.specs.Next.{MergeState, IsNumbered}
use Rattle.pim_merge.specs.Run.{CountsAll}
use Rattle.pim_merge.specs.Tally.{tallies_after}
use Rattle.pim_merge.specs.Ends.{AreAll, AreFirst, AreBefore, end_moment, clock_of}
use Rattle.pim_report.specs.declared.state_text.Counts.{Counts}
use Rattle.pim_router.specs.State.{RouterState}
use Rattle.pim_run.specs.declared.fault.RunFault.{RunFault}
use Rattle.pim_run.specs.declared.fault.RunFault.TheVariants.{Capture, Output, Memory}
use Rattle.pim_replay.specs.Events.{Event, Account, nothing, Follows, HasWritten, HasBegun}
use Rattle.pim_replay.specs.Passing.{PassesTime}
use Rattle.pim_replay.specs.Turn.{WritesTurn}

-- ---- what a replay reports

-- The turns follow one another and lead the router from `state` to `after`. `account` is what they
-- report together.
unfoldable pub WritesTurns : AddressFamily → List Taken → RouterState → Account → RouterState → Type 0
WritesTurns family [] state account after = (account ≡ nothing) × (after ≡ state)
WritesTurns family (first ∷ others) state account after =
    Follows (WritesTurn family first state) (WritesTurns family others) account after

-- The time after the last turn, up to the end of the run. The clock is that of the records taken.
abbrev pub PassesToEnd : End → Option Clock → RouterState → Account → RouterState → Type 0
PassesToEnd end clock state = PassesTime (end_moment end clock state.machines.moment) state

module _ (family : AddressFamily) (end : End) (merge : MergeState) (state : RouterState) where
  -- Some first turns of the merge report this account and lead the router from `state` to `after`.
  pub record WritesFirst (account : Account) (after : RouterState) : Type 0 where
    pub taken : List Taken
    pub are : AreFirst end merge taken
    pub wrote : WritesTurns family taken state account after

  -- All turns of the merge up to the end of the run, and the time from the last one to that end,
  -- report this account. The merge ends without a fault, and `after` is the router at the end.
  pub record WritesAll (account : Account) (after : RouterState) : Type 0 where
    pub taken : List Taken
    pub are : AreAll end merge None taken
    pub wrote : Follows (WritesTurns family taken state) (PassesToEnd end (clock_of merge.clock taken)) account after

  -- A fault of a capture ends the replay after these turns. The fault is the next answer of its
  -- capture, or a read of that capture failed in the call, which leaves `merge'`. It is never a
  -- lack of memory. The tallies of `merge'` count these turns, and the fault has the number of the
  -- record after those of its capture.
  pub record StopsAt (merge' : MergeState) (reported : MergeFault) : Type 0 where
    pub taken : List Taken
    pub account : Account
    pub after : RouterState
    pub are : AreBefore end merge reported taken
    pub wrote : WritesTurns family taken state account after
    pub no_memory : reported.fault ≢ fault.Memory
    pub cause : IsRefusal {A = ⊤} (lane_at reported.capture merge.lanes).failures
        (lane_at reported.capture merge'.lanes).failures (Err reported.fault)
        ⊎ AreAll end merge (Some (reported.capture, reported.fault)) taken
    pub tallies : tallies_of merge'.lanes ≡ tallies_after (tallies_of merge.lanes) taken
    pub numbered : IsNumbered (tallies_of merge'.lanes) reported

-- ---- what a replay returns and what its listener writes, where `line` is what is written of an event

-- The counts at the start of a replay.
abbrev pub none_yet : Counts
none_yet = record { skipped = 0; refreshes = 0 }

module _ (line : Event → List ℕ) (family : AddressFamily) (end : End) (merge : MergeState) (state : RouterState)
    (old new : Option (List ℕ)) where
  -- A prefix of what is written of the events was written. That is, of those of some first turns,
  -- or of all turns and the time after them.
  abbrev pub Begins : Type 0
  Begins = HasBegun line (WritesFirst family end merge state) old new ⊎ HasBegun line (WritesAll family end merge state) old new

  -- What a replay with this fault has written. After a fault of a capture, it is exactly what is
  -- written of the events of the turns before it. After any other fault, it is a prefix.
  abbrev pub Stops : MergeState → RunFault → Type 0
  Stops merge' (Capture reported) =
      (stop : StopsAt family end merge state merge' reported) × Appends old new (flat_map line stop.account.events)
  Stops merge' Output = Begins
  Stops merge' Memory = Begins

-- What `replay_for` returns and writes. At Ok it has written all events and returns the counts, and
-- the tallies of `merge'` count all turns.
abbrev pub Hears : (Event → List ℕ) → AddressFamily → End → MergeState → MergeState → RouterState → RouterState →
    Option (List ℕ) → Option (List ℕ) → Result Counts RunFault → Type 0
Hears line family end merge merge' state after old new (Ok counts) =
    HasWritten line (WritesAll family end merge state) after old new none_yet counts × CountsAll end merge merge'
Hears line family end merge merge' state after old new (Err fault) =
    Stops line family end merge state old new merge' fault
