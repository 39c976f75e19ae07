-- How an audit ends, after its turns.
use Rattle.std.proofs.Common.{ℕ, List, [], Option, Ok, Err, inl, inr, refl}
use Rattle.pim_addr.specs.declared.family.AddressFamily.{AddressFamily}
use Rattle.pim_merge.specs.declared.end.End.{End}
use Rattle.pim_merge.specs.declared.merge.MergeFault.{MergeFault}
use Rattle.pim_merge.specs.Ends.{AreFirst, Takes, end_moment}
use Rattle.pim_merge.specs.Next.{MergeState}
use Rattle.pim_merge.specs.Run.{IsTallied}
use Rattle.pim_merge.specs.Tally.{tallies_after}
use Rattle.pim_router.specs.State.{RouterState}
use Rattle.pim_run.specs.declared.fault.RunFault.{RunFault}
use Rattle.pim_run.specs.declared.fault.RunFault.TheVariants.{Capture, Output, Memory}
use Rattle.pim_run.specs.Run.{AreTaken, RunsThrough, StopsAt}
use Rattle.pim_audit_events.specs.Lines.{Statement}
use Rattle.pim_audit.specs.Run.{RunState, WritesTurn, BeginsTurn, WritesEnd, WritesStop, Breaks, Audits}

-- no turn was taken yet
none_taken : (end : End) (merge : MergeState) → AreFirst end merge []
unfolding Takes
none_taken end merge captures coming = record { clock_then = merge.clock; rest = captures; takes_them = (refl, refl); is_rest = tt }

pub none_tallied : (end : End) (merge : MergeState) → IsTallied end merge merge
unfolding tallies_after
none_tallied end merge = record { taken = []; first = none_taken end merge; tallies = refl }

module _ {A : Type 0} (family : AddressFamily) (bytes_of : A → List ℕ) (groups : List (List ℕ)) (text : Option ℕ → Statement → List ℕ)
    (end : End) (merge : MergeState) (first : RunState) (router : RouterState) (old : Option (List ℕ)) where
  -- nothing was written
  pub nothing_yet : Breaks family bytes_of groups text end merge first router old merge old
  unfolding AreTaken
  nothing_yet = inl (record {
    taken = [];
    kept' = first;
    between = router;
    mid = old;
    turns = (refl, refl, refl);
    last = inl (none_taken end merge, refl);
  })

  module _ (merge' : MergeState) (run : RunState) (between router' : RouterState) (mid new : Option (List ℕ)) where
    -- the lines of the end were not all written
    pub end_fails : (fault : RunFault)
        → RunsThrough (WritesTurn family bytes_of groups text) (BeginsTurn family bytes_of groups text) end merge merge' first router old run between mid
        → WritesEnd family bytes_of groups text (end_moment end merge'.clock between.machines.moment) run between router' mid new (Err fault)
        → Audits family bytes_of groups text end merge first router old merge' router' new (Err fault)
    end_fails (Capture reported) runs fails = absurd fails
    end_fails Output runs fails = inr (Ok tt, record { run = run; between = between; mid = mid; runs = runs; next = fails })
    end_fails Memory runs fails = inr (Ok tt, record { run = run; between = between; mid = mid; runs = runs; next = fails })

    -- the lines of a stop were not all written
    pub stop_fails : (reported : MergeFault) (fault : RunFault)
        → StopsAt (WritesTurn family bytes_of groups text) (BeginsTurn family bytes_of groups text) end merge merge' first router old reported run between mid
        → WritesStop family bytes_of groups text run between router' mid new (Err fault)
        → Audits family bytes_of groups text end merge first router old merge' router' new (Err fault)
    stop_fails reported (Capture other) runs fails = absurd fails
    stop_fails reported Output runs fails = inr (Err (Capture reported), record { run = run; between = between; mid = mid; runs = runs; next = fails })
    stop_fails reported Memory runs fails = inr (Err (Capture reported), record { run = run; between = between; mid = mid; runs = runs; next = fails })
