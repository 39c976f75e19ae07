-- The replays before a step: of one router, or of two, one after the other.
use Rattle.std.specs.Prelude.{◌≡◌, ◌⊎◌, ℕ, List, Option, Result, Err}
use Rattle.std.specs.Io.KnownBytes.{Keeps}
use Rattle.pim_addr.specs.declared.family.AddressFamily.{AddressFamily}
use Rattle.pim_merge.specs.declared.end.End.{End}
use Rattle.pim_merge.specs.Next.{MergeState}
use Rattle.pim_merge.specs.Run.{IsTallied}
use Rattle.pim_router.specs.State.{RouterState}
use Rattle.pim_run.specs.declared.fault.RunFault.TheVariants.{Capture, Memory}
use Rattle.pim_replay.specs.Quiet.{RunsAll}
use Rattle.pim_replay.specs.Replay.{StopsAt}
use Rattle.pim_exchange.specs.declared.fault.ExchangeFault.{ExchangeFault}
use Rattle.pim_exchange.specs.declared.fault.ExchangeFault.TheVariants.{Replay, Second}

module _ (family : AddressFamily) (end : End) (merge merge' : MergeState) (state after : RouterState) where
  -- What a call returns and writes that replays a router and then does a step, which returns and
  -- writes what `Step` says. A fault of a capture stops it, and then nothing is written. The
  -- tallies of `merge'` count all turns; where a capture has a fault those before it, and where
  -- memory is refused some first ones.
  abbrev pub AfterOne : {T A : Type 0} → Option (List ℕ) → Option (List ℕ) →
      (Result T (ExchangeFault A) → Type 0) → Result T (ExchangeFault A) → Type 0
  AfterOne old new Step (Err (Replay (Capture reported))) = StopsAt family end merge state merge' reported × Keeps old new
  AfterOne old new Step (Err (Replay Memory)) = IsTallied end merge merge'
      × (Keeps old new ⊎ RunsAll family end merge merge' state after × Step (Err (Replay Memory)))
  AfterOne old new Step answer = RunsAll family end merge merge' state after × Step answer

  module _ (other other' : MergeState) (state_of after_of : RouterState) where
    -- Both replays ended without a fault.
    abbrev pub BothRun : Type 0
    BothRun = RunsAll family end merge merge' state after × RunsAll family end other other' state_of after_of

    -- The same for two routers. A fault of a capture is one of the first router, and then nothing
    -- of the second was taken. Or it is one of the second, and named so, if the first replay ended
    -- without a fault. The tallies of `other'` count as those of `merge'` do.
    abbrev pub AfterBoth : {T A : Type 0} → Option (List ℕ) → Option (List ℕ) →
        (Result T (ExchangeFault A) → Type 0) → Result T (ExchangeFault A) → Type 0
    AfterBoth old new Step (Err (Replay (Capture reported))) =
        StopsAt family end merge state merge' reported × (other' ≡ other) × Keeps old new
    AfterBoth old new Step (Err (Second reported)) =
        RunsAll family end merge merge' state after × StopsAt family end other state_of other' reported × Keeps old new
    AfterBoth old new Step (Err (Replay Memory)) = IsTallied end merge merge' × IsTallied end other other'
        × (Keeps old new ⊎ BothRun × Step (Err (Replay Memory)))
    AfterBoth old new Step answer = BothRun × Step answer
