-- The replays before a step.
use Rattle.pim_exchange.proofs.Words.{◌≡◌, ◌∙◌, ℕ, List, [], Option, None, Some, Result, Err, IsOk, inl, refl, sym, ap, Keeps}
use Rattle.pim_exchange.proofs.Words.{false≢true, AddressFamily, Setup, RouterState, setup_of, failures_of_exchange, of_second}
use Rattle.pim_merge.specs.declared.end.End.{End}
use Rattle.pim_merge.specs.Ends.{Takes}
use Rattle.pim_merge.specs.Next.{MergeState}
use Rattle.pim_merge.specs.Run.{IsTallied}
use Rattle.pim_merge.specs.Tally.{tallies_after}
use Rattle.pim_run.specs.declared.fault.RunFault.{RunFault}
use Rattle.pim_run.specs.declared.fault.RunFault.TheVariants.{Capture, Output, Memory}
use Rattle.pim_replay.specs.Quiet.{RunsAll, RunsQuietly}
use Rattle.pim_exchange.specs.declared.fault.ExchangeFault.{ExchangeFault}
use Rattle.pim_exchange.specs.declared.fault.ExchangeFault.TheVariants.{Replay, Second, TooBig, Full}
use Rattle.pim_exchange.specs.Runs.{AfterBoth}

-- no turn was taken
pub untaken : (end : End) (start : MergeState) → IsTallied end start start
unfolding Takes tallies_after
untaken end start = record {
  taken = [];
  first = λ captures coming. record { clock_then = start.clock; rest = captures; takes_them = (refl, refl); is_rest = tt };
  tallies = refl;
}

pub keeps_same : (known : Option (List ℕ)) → Keeps known known
keeps_same None = tt
keeps_same (Some bytes) = refl

-- replays leave both routers' table
pub same_tables : (state after state_of after_of : RouterState) → setup_of after ≡ setup_of state → setup_of after_of ≡ setup_of state_of → state.routes ≡ state_of.routes → after.routes ≡ after_of.routes
same_tables state after state_of after_of one two same = ap (λ (s : Setup). s.routes) one ∙ (same ∙ sym (ap (λ (s : Setup). s.routes) two))

module _ (A : Type 0) (family : AddressFamily) (end : End) (merge merge' : MergeState) (state after : RouterState) (other : MergeState) (state_of : RouterState) where
  -- the first replay stopped, so nothing of the second router was taken
  pub first_stopped : (fault : RunFault) → RunsQuietly family end merge merge' state after {A = Unit {0}} (Err fault)
      → AfterBoth family end merge merge' state after other other state_of state_of {T = Unit {0}} {A = A} None None (λ answer. IsOk answer) (Err (Replay fault))
  first_stopped (Capture reported) stops = (stops, refl, tt)
  first_stopped Output stops = absurd stops
  first_stopped Memory tallied = (tallied, untaken end other, inl tt)

  module _ (other' : MergeState) (after_of : RouterState) where
    pub second_stopped : (fault : RunFault) → RunsAll family end merge merge' state after → IsTallied end merge merge'
        → RunsQuietly family end other other' state_of after_of {A = Unit {0}} (Err fault)
        → AfterBoth family end merge merge' state after other other' state_of after_of {T = Unit {0}} {A = A} None None (λ answer. IsOk answer) (Err (of_second fault))
    second_stopped (Capture reported) runs tallied stops = (runs, stops, tt)
    second_stopped Output runs tallied stops = absurd stops
    second_stopped Memory runs tallied tallied_of = (tallied, tallied_of, inl tt)

    -- a replay stopped, so the step was not done
    pub both_stopped : {T : Type 0} (Step : Result T (ExchangeFault A) → Type 0) (fault : ExchangeFault A) (old : Option (List ℕ))
        → AfterBoth family end merge merge' state after other other' state_of after_of {T = Unit {0}} None None (λ answer. IsOk answer) (Err fault)
        → AfterBoth family end merge merge' state after other other' state_of after_of old old Step (Err fault)
    both_stopped Step (Replay (Capture reported)) old is = (is.0, is.1, keeps_same old)
    both_stopped Step (Replay Output) old is = absurd (false≢true is.1)
    both_stopped Step (Replay Memory) old is = (is.0, is.1, inl (keeps_same old))
    both_stopped Step (Second reported) old is = (is.0, is.1, keeps_same old)
    both_stopped Step (TooBig group) old is = absurd (false≢true is.1)
    both_stopped Step (Full needed) old is = absurd (false≢true is.1)

    -- and the device has not failed
    pub not_failed : (fault : ExchangeFault A) (before : ℕ)
        → AfterBoth family end merge merge' state after other other' state_of after_of {T = Unit {0}} None None (λ answer. IsOk answer) (Err fault)
        → before ≡ failures_of_exchange {T = ℕ} before (Err fault)
    not_failed (Replay (Capture reported)) before is = refl
    not_failed (Replay Output) before is = absurd (false≢true is.1)
    not_failed (Replay Memory) before is = refl
    not_failed (Second reported) before is = refl
    not_failed (TooBig group) before is = refl
    not_failed (Full needed) before is = refl
