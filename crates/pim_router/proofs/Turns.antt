-- One turn of a router, and runs that go on.
use Rattle.pim_router.proofs.Words.{◌≡◌, ◌∙◌, ◌<◌, ◌≤◌, ℕ, zero, suc, ◌==◌, Bool, true, false, List, Option, Some, None, nat_lt}
use Rattle.pim_router.proofs.Words.{if◌then◌else◌, refl, sym, ap, subst, arith, list_any, false≢true, lt-ltb, ltb-true, Record}
use Rattle.pim_router.proofs.Words.{fired, Step, Echo, Refresh, Reached, RouterState, Outcome, rests, moves, stops_with}
use Rattle.pim_router.proofs.Words.{has_ended, reported, turn, turn_of_timers, turn_of_time, tick, run_within, Runs}
use Rattle.pim_down.specs.declared.machines.step.Step.{Step as Fires}
use Rattle.pim_down.specs.declared.machines.step.Step.TheVariants as fires
use Rattle.pim_router.proofs.Runs.{pair_of, no_run, run_more}

rests_moves : (next : RouterState) → rests ≡ moves next → ⊥
rests_moves next e = cc

rests_tells : (step : Step (List ℕ)) (end : RouterState) → rests ≡ stops_with step end → ⊥
rests_tells step end e = cc

moves_tells : (next : RouterState) (step : Step (List ℕ)) (end : RouterState) → moves next ≡ stops_with step end → ⊥
moves_tells next step end e = cc

told_step : (step other : Step (List ℕ)) (end after : RouterState) → stops_with step end ≡ stops_with other after → step ≡ other
told_step step other end after e = cc

abbrev pub is_reached : Step (List ℕ) → Bool
is_reached (Echo port group what) = false
is_reached Refresh = false
is_reached Reached = true

-- ---- a run up to a later moment moves alike

module _ (earlier later : ℕ) (le : earlier ≤ later) (state next : RouterState) where
  later_time : (b : Bool) → nat_lt state.machines.moment earlier ≡ b →
      (if b then moves (tick state) else rests) ≡ moves next → turn_of_time later state ≡ moves next
  later_time true is h =
      let less : state.machines.moment < earlier = ltb-true state.machines.moment earlier is in
      rw (lt-ltb state.machines.moment later (omega (arith, less, le))) h
  later_time false is h = absurd (rests_moves next h)

  later_refresh : (b : Bool) (other : Outcome) → (if b then other else turn_of_time earlier state) ≡ moves next →
      (if b then other else turn_of_time later state) ≡ moves next
  later_refresh true other h = h
  later_refresh false other h = later_time (nat_lt state.machines.moment earlier) refl h

  later_timers : (o : Option (Fires (List ℕ) × List (Record (List ℕ)))) → turn_of_timers earlier state o ≡ moves next →
      turn_of_timers later state o ≡ moves next
  later_timers None h = later_refresh (state.refresh == 0) _ h
  later_timers (Some fire) h = h

  later_all : (b : Bool) (other : Outcome) → (if b then other else turn_of_timers earlier state (fired state.machines.records)) ≡ moves next →
      (if b then other else turn_of_timers later state (fired state.machines.records)) ≡ moves next
  later_all true other h = h
  later_all false other h = later_timers (fired state.machines.records) h

  pub later_moves : turn earlier state ≡ moves next → turn later state ≡ moves next
  unfolding turn
  later_moves h = later_all (list_any has_ended state.tables) _ h

-- ---- what is told isn't Reached

module _ (moment : ℕ) (state : RouterState) (step : Step (List ℕ)) (end : RouterState) where
  said_time : (b : Bool) (next : RouterState) → (if b then moves next else rests) ≡ stops_with step end → is_reached step ≡ false
  said_time true next h = absurd (moves_tells next step end h)
  said_time false next h = absurd (rests_tells step end h)

  said_refresh : (b : Bool) (after : RouterState) → (if b then stops_with Refresh after else turn_of_time moment state) ≡ stops_with step end →
      is_reached step ≡ false
  said_refresh true after h = ap is_reached (sym (told_step Refresh step after end h))
  said_refresh false after h = said_time (nat_lt state.machines.moment moment) _ h

  said_timers : (answer : Fires (List ℕ)) (after : RouterState) → reported answer after ≡ stops_with step end → is_reached step ≡ false
  said_timers fires.Reached after h = absurd (moves_tells after step end h)
  said_timers (fires.Echo port group what) after h = ap is_reached (sym (told_step (Echo port group what) step after end h))

  said_fired : (o : Option (Fires (List ℕ) × List (Record (List ℕ)))) → turn_of_timers moment state o ≡ stops_with step end → is_reached step ≡ false
  said_fired None h = said_refresh (state.refresh == 0) _ h
  said_fired (Some fire) h = said_timers fire.0 _ h

  said_all : (b : Bool) (next : RouterState) → (if b then moves next else turn_of_timers moment state (fired state.machines.records)) ≡ stops_with step end → is_reached step ≡ false
  said_all true next h = absurd (moves_tells next step end h)
  said_all false next h = said_fired (fired state.machines.records) h

  pub said : turn moment state ≡ stops_with step end → is_reached step ≡ false
  unfolding turn
  said h = said_all (list_any has_ended state.tables) _ h

-- ---- a run goes on

goes_within : (turns earlier later : ℕ) (state middle after : RouterState) (answer : Step (List ℕ)) → earlier ≤ later →
    run_within turns earlier state ≡ Some (Reached, middle) → Runs later middle answer after → Runs later state answer after
unfolding run_within
goes_within zero earlier later state middle after answer le e more = absurd (no_run Reached middle e)
goes_within (suc turns) earlier later state middle after answer le e more =
    elim (turn earlier state) as (λ o. turn earlier state ≡ o → Runs later state answer after) [
      | rests ↦ λ t. subst (λ (x : Step (List ℕ) × RouterState). Runs later x.1 answer after) (sym (pair_of Reached Reached state middle (rw t at e))) more
      | moves next ↦ λ t. run_more later state next after answer (later_moves earlier later le state next t)
          (goes_within turns earlier later next middle after answer le (rw t at e) more)
      | stops_with step end ↦ λ t. absurd (false≢true (sym (said earlier state step end t)
          ∙ ap (λ (x : Step (List ℕ) × RouterState). is_reached x.0) (pair_of step Reached end middle (rw t at e))))
    ] refl

pub goes_on : (earlier later : ℕ) (state middle after : RouterState) (answer : Step (List ℕ)) → earlier ≤ later →
    Runs earlier state Reached middle → Runs later middle answer after → Runs later state answer after
goes_on earlier later state middle after answer le first more =
    goes_within first.turns earlier later state middle after answer le first.within more
