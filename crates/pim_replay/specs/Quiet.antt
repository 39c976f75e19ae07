-- A replay that writes nothing.
use Rattle.std.specs.Prelude.{Result, Ok, Err}
use Rattle.pim_addr.specs.declared.family.AddressFamily.{AddressFamily}
use Rattle.pim_merge.specs.declared.end.End.{End}
use Rattle.pim_merge.specs.Next.{MergeState}
use Rattle.pim_merge.specs.Run.{CountsAll, IsTallied}
use Rattle.pim_router.specs.State.{RouterState}
use Rattle.pim_run.specs.declared.fault.RunFault.{RunFault}
use Rattle.pim_run.specs.declared.fault.RunFault.TheVariants.{Capture, Output, Memory}
use Rattle.pim_replay.specs.Events.{Account}
use Rattle.pim_replay.specs.Replay.{WritesAll, StopsAt}

-- The merge ends without a fault. `after` is the router at the end of its run, after all turns of
-- the merge up to then, and the tallies of `merge'` count these.
pub record RunsAll (family : AddressFamily) (end : End) (merge merge' : MergeState) (state after : RouterState)
    : Type 0 where
  pub account : Account
  pub wrote : WritesAll family end merge state account after
  pub counted : CountsAll end merge merge'

-- What `replay_quietly` returns and leaves: the router after the whole replay, or the stop at a
-- capture's fault. It has no device that can fail, so the result is never `Output`. Where memory is
-- refused, the tallies of `merge'` count some first turns.
abbrev pub RunsQuietly : AddressFamily → End → MergeState → MergeState → RouterState → RouterState →
    {A : Type 0} → Result A RunFault → Type 0
RunsQuietly family end merge merge' state after (Ok done) = RunsAll family end merge merge' state after
RunsQuietly family end merge merge' state after (Err (Capture reported)) = StopsAt family end merge state merge' reported
RunsQuietly family end merge merge' state after (Err Output) = ⊥
RunsQuietly family end merge merge' state after (Err Memory) = IsTallied end merge merge'
