-- A run on its way, turn by turn.
use Rattle.std.proofs.Common.{◌≡◌, ◌≢◌, ℕ, Bool, true, false, List, [], ◌∷◌, ◌++◌, Option, None, Some, Ok, Err, refl, sym, ap, subst, inl, inr}
use Rattle.pim_capture.specs.declared.fault.CaptureFault.{CaptureFault}
use Rattle.pim_capture.specs.declared.fault.CaptureFault.TheVariants.{Magic, LinkType, Truncated, TooLong, Read, Memory, Failed}
use Rattle.pim_capture.specs.declared.fault.CaptureFault.TheVariants.{Block, Time, Vlans, Interfaces, InterfaceNames, LinkNumber, Gzip}
use Rattle.pim_merge.specs.declared.end.End.{End}
use Rattle.pim_merge.specs.declared.merge.Turn.{Turn}
use Rattle.pim_merge.specs.declared.merge.MergeFault.{MergeFault}
use Rattle.pim_merge.specs.Ends.{clock_of, Takes}
use Rattle.pim_merge.specs.Merge.{Taken}
use Rattle.pim_merge.specs.Next.{MergeState, bytes_at}
use Rattle.pim_merge.specs.Tally.{tallies_after}
use Rattle.pim_merge.specs.Run.{turn_seen, taken_by, HasTaken, StopsAfter, Advances}
use Rattle.pim_router.specs.State.{RouterState}
use Rattle.pim_run.specs.declared.fault.RunFault.{RunFault}
use Rattle.pim_run.specs.declared.fault.RunFault.TheVariants as run
use Rattle.pim_run.specs.declared.fault.TurnFault.{TurnFault}
use Rattle.pim_run.specs.declared.fault.TurnFault.TheVariants as turn
use Rattle.pim_run.specs.Faults.{stop_by, stopped_by, of_turn}
use Rattle.pim_run.specs.Run.{AreTaken, RunsThrough, BreaksOff, Runs}
use Rattle.pim_run.specs.Underway.{IsUnderway, Steps, IfMore}

module _ {K : Type 0} (By : Taken → K → RouterState → Option (List ℕ) → K → RouterState → Option (List ℕ) → Type 0) (Begins : Taken → K → RouterState → Option (List ℕ) → Option (List ℕ) → Type 0) where
  -- one turn more
  one_more : (taken : List Taken) (next : Taken) (kept then : K) (state between : RouterState) (old mid : Option (List ℕ)) (kept' : K) (after : RouterState) (new : Option (List ℕ)) → AreTaken By Begins taken kept state old then between mid
      → By next then between mid kept' after new → AreTaken By Begins (taken ++ next ∷ []) kept state old kept' after new
  unfolding AreTaken
  one_more [] next kept then state between old mid kept' after new (k, s, d) takes =
      (kept', after, new, subst (λ x. By next x state old kept' after new) k (subst (λ x. By next then x old kept' after new) s (subst (λ x. By next then between x kept' after new) d takes)), (refl, refl, refl))
  one_more (first ∷ others) next kept then state between old mid kept' after new (k, s, d, begins, rest) takes =
      (k, s, d, begins, one_more others next k then s between d mid kept' after new rest takes)

  module _ (end : End) (start : MergeState) (kept : K) (state : RouterState) (old : Option (List ℕ)) where
    pub begin : IsUnderway By Begins end start kept state old start kept state old
    unfolding Takes AreTaken clock_of tallies_after
    begin = record {
      taken = [];
      run = record {
        turns = λ captures coming. record { rest = captures; takes_them = (refl, refl); coming = coming };
        first = λ captures coming. record { clock_then = start.clock; rest = captures; takes_them = (refl, refl); is_rest = tt };
        clock = refl;
        reads = refl;
        tallies = refl;
      };
      turns = (refl, refl, refl);
    }

    module _ (merge : MergeState) (then : K) (now : RouterState) (new : Option (List ℕ)) (w : IsUnderway By Begins end start kept state old merge then now new) where
      pub ended : (next : Option Turn) (merge' : MergeState) → next ≡ None → Advances end start w.taken merge' (Ok next) → RunsThrough By Begins end start merge' kept state old then now new
      ended next merge' none advances =
          let all = subst (λ (n : Option Turn). Advances end start w.taken merge' (Ok n)) none advances in
          record { taken = w.taken; are = all.0; clock = all.1; tallies = all.2; turns = w.turns }

      -- ---- a capture's fault

      module _ (merge' : MergeState) (reported : MergeFault) (stops : StopsAfter end start w.taken merge' reported) where
        abbrev Stops : RunFault → Type 0
        Stops fault = Runs By Begins end start merge' kept state old {A = Bool} then now new (Err fault)

        stopped : reported.fault ≢ Memory → Stops (run.Capture reported)
        stopped other =
            record { taken = w.taken; are = stops.are; first = w.run.first; no_memory = other; cause = stops.cause; tallies = stops.tallies; numbered = stops.numbered; turns = w.turns }

        by_fault : (fault : CaptureFault) → reported.fault ≡ fault → Stops (stop_by reported fault)
        by_fault Memory is = record { taken = w.taken; kept' = then; between = now; mid = new; turns = w.turns; last = inl (w.run.first, refl) }
        by_fault Magic is = stopped (λ e. cc)
        by_fault LinkType is = stopped (λ e. cc)
        by_fault Truncated is = stopped (λ e. cc)
        by_fault TooLong is = stopped (λ e. cc)
        by_fault Read is = stopped (λ e. cc)
        by_fault Failed is = stopped (λ e. cc)
        by_fault Block is = stopped (λ e. cc)
        by_fault Time is = stopped (λ e. cc)
        by_fault (Vlans one other) is = stopped (λ e. cc)
        by_fault (Interfaces one other) is = stopped (λ e. cc)
        by_fault (InterfaceNames one other) is = stopped (λ e. cc)
        by_fault (LinkNumber number) is = stopped (λ e. cc)
        by_fault Gzip is = stopped (λ e. cc)

        pub failed : (answer : RunFault) → answer ≡ stopped_by reported → Stops answer
        failed answer is = subst Stops (sym is) (by_fault reported.fault refl)

      -- ---- a turn

      module _ (merge' : MergeState) (next : Option Turn) (given : Turn) (bytes : List ℕ) (there : next ≡ Some given) (holds : bytes ≡ bytes_at given.capture merge')
          (advances : Advances end start w.taken merge' (Ok next)) where
        run_more : HasTaken end start (w.taken ++ taken_by merge' given ∷ []) merge'
        run_more = subst (λ (n : Option Turn). Advances end start w.taken merge' (Ok n)) there advances

        seen_is : turn_seen bytes given ≡ taken_by merge' given
        seen_is = ap (λ l. turn_seen l given) holds

        pub stepped : (kept' : K) (after : RouterState) (newer : Option (List ℕ)) → By (turn_seen bytes given) then now new kept' after newer
            → IsUnderway By Begins end start kept state old merge' kept' after newer
        stepped kept' after newer takes = record {
          taken = w.taken ++ taken_by merge' given ∷ [];
          run = run_more;
          turns = one_more w.taken (taken_by merge' given) kept then state now old new kept' after newer w.turns
              (subst (λ (t : Taken). By t then now new kept' after newer) seen_is takes);
        }

        broken : (newer : Option (List ℕ)) → Begins (turn_seen bytes given) then now new newer → BreaksOff By Begins end start merge' kept state old newer
        broken newer begins = record {
          taken = w.taken;
          kept' = then;
          between = now;
          mid = new;
          turns = w.turns;
          last = inr (taken_by merge' given, run_more.first, subst (λ (t : Taken). Begins t then now new newer) seen_is begins);
        }

        by_turn : (fault : TurnFault) (kept' : K) (after : RouterState) (newer : Option (List ℕ)) → BreaksOff By Begins end start merge' kept state old newer
            → Runs By Begins end start merge' kept state old {A = Bool} kept' after newer (Err (of_turn fault))
        by_turn turn.Output kept' after newer p = p
        by_turn turn.Memory kept' after newer p = p

        pub turn_stopped : (fault : TurnFault) (answer : RunFault) (kept' : K) (after : RouterState) (newer : Option (List ℕ)) → answer ≡ of_turn fault → Begins (turn_seen bytes given) then now new newer
            → Runs By Begins end start merge' kept state old {A = Bool} kept' after newer (Err answer)
        turn_stopped fault answer kept' after newer is begins =
            subst (λ a. Runs By Begins end start merge' kept state old {A = Bool} kept' after newer (Err a)) (sym is) (by_turn fault kept' after newer (broken newer begins))

    -- ---- the loop

    pub if_true : (merge : MergeState) (then : K) (now : RouterState) (new : Option (List ℕ)) (more : Bool) → more ≡ true → Steps By Begins end start kept state old merge then now new (Ok more)
        → IsUnderway By Begins end start kept state old merge then now new
    if_true merge then now new more is steps = subst (λ (b : Bool). Steps By Begins end start kept state old merge then now new (Ok b)) is steps

    pub if_false : (merge : MergeState) (then : K) (now : RouterState) (new : Option (List ℕ)) (more : Bool) → more ≡ false → Steps By Begins end start kept state old merge then now new (Ok more)
        → RunsThrough By Begins end start merge kept state old then now new
    if_false merge then now new more is steps = subst (λ (b : Bool). Steps By Begins end start kept state old merge then now new (Ok b)) is steps

    pub ends_so : (merge : MergeState) (then : K) (now : RouterState) (new : Option (List ℕ)) (fault : RunFault) → Runs By Begins end start merge kept state old {A = Bool} then now new (Err fault)
        → Runs By Begins end start merge kept state old {A = Unit {0}} then now new (Err fault)
    ends_so merge then now new (run.Capture reported) p = p
    ends_so merge then now new run.Output p = p
    ends_so merge then now new run.Memory p = p

-- a fact that holds after one more turn
pub if_more : {P : Type 0} (more : Bool) → more ≡ true → IfMore (Ok more) P → P
if_more {P} more is holds = subst (λ (b : Bool). IfMore (Ok b) P) is holds
