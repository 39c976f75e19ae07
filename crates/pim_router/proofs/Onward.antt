-- A router comes to every moment: each turn brings it nearer.
use Rattle.pim_router.proofs.Words.{◌≡◌, ◌≢◌, ◌<◌, ◌≤◌, ℕ, zero, suc, ◌==◌, Bool, true, false, List, [], ◌∷◌, ◌++◌, Option, None}
use Rattle.pim_router.proofs.Words.{Some, map, nat_lt, refl, sym, ap, subst, arith, list_any, ltb-true, AddressFamily}
use Rattle.pim_router.proofs.Words.{without_ended, What, Record, TimersRunOut, fired, with_records, Step, Echo, Refresh, Reached}
use Rattle.pim_router.proofs.Words.{Input, runs_to, takes, RouterReport, echo, refresh, verdict, Reaches, HasCourse, IsCourse}
use Rattle.pim_router.proofs.Words.{received, RouterState, with_machines, with_tables, with_refresh, refresh_period, rests, moves}
use Rattle.pim_router.proofs.Words.{stops_with, has_ended, tick, turn, run_within, Runs, one_if, turns_left}
use Rattle.pim_down.specs.declared.machines.step.Step.{Step as Fires}
use Rattle.pim_down.specs.declared.machines.step.Step.TheVariants as fires
use Rattle.pim_router.proofs.Passing.{none_ended}
use Rattle.pim_router.proofs.Runs.{pair_of, no_run, run_more, run_tells, run_rests}

at_most_one : (b : Bool) → one_if b ≤ 1
at_most_one true = omega arith
at_most_one false = omega arith

-- ---- one turn

module _ (timers : TimersRunOut) (moment : ℕ) where
  pub data Onward (state : RouterState) : Type 0 where
    resting : turn moment state ≡ rests → Onward state
    moving : (next : RouterState) → turn moment state ≡ moves next → turns_left moment next < turns_left moment state → Onward state
    echoing : (port : ℕ) (group : List ℕ) (what : What (List ℕ)) (next : RouterState) → turn moment state ≡ stops_with (Echo port group what) next →
        turns_left moment next < turns_left moment state → Onward state
    refreshing : (next : RouterState) → turn moment state ≡ stops_with Refresh next → turns_left moment next < turns_left moment state → Onward state

  module _ (state : RouterState) where
    some_go : list_any has_ended state.tables ≡ true → Onward state
    unfolding turn turns_left
    some_go some =
        let gone : one_if (list_any has_ended (map without_ended state.tables)) ≡ 0 = ap one_if (none_ended state.tables) in
        let there : one_if (list_any has_ended state.tables) ≡ 1 = ap one_if some in
        moving (with_tables state (map without_ended state.tables)) (rw some refl) (omega (arith, gone, there))

    module _ (none : list_any has_ended state.tables ≡ false) where
      one_fires : (answer : Fires (List ℕ)) (records : List (Record (List ℕ))) → fired state.machines.records ≡ Some (answer, records) → Onward state
      unfolding turn turns_left
      one_fires fires.Reached records f =
          moving (with_machines state (with_records state.machines records)) (rw (none, f) refl)
          (let less = timers.0 state.machines.records records fires.Reached f in omega (arith, less))
      one_fires (fires.Echo port group what) records f =
          echoing port group what (with_machines state (with_records state.machines records)) (rw (none, f) refl)
          (let less = timers.0 state.machines.records records (fires.Echo port group what) f in omega (arith, less))

      module _ (quiet : fired state.machines.records ≡ None) where
        refreshes : (state.refresh == 0) ≡ true → Onward state
        unfolding turn turns_left
        refreshes due =
            let over : one_if (state.refresh == 0) ≡ 1 = ap one_if due in
            refreshing (with_refresh state refresh_period) (rw (none, quiet, due) refl) (omega (arith, over))

        time_passes : (state.refresh == 0) ≡ false → (b : Bool) → nat_lt state.machines.moment moment ≡ b → Onward state
        unfolding turn turns_left
        time_passes wait true is =
            let before : state.machines.moment < moment = ltb-true state.machines.moment moment is in
            let same = timers.1 state.machines.records in
            let ended = at_most_one (list_any has_ended (tick state).tables) in
            let due = at_most_one ((tick state).refresh == 0) in
            moving (tick state) (rw (none, quiet, wait, is) refl) (omega (arith, before, same, ended, due))
        time_passes wait false is = resting (rw (none, quiet, wait, is) refl)

        nothing_fires : (b : Bool) → (state.refresh == 0) ≡ b → Onward state
        nothing_fires true due = refreshes due
        nothing_fires false wait = time_passes wait (nat_lt state.machines.moment moment) refl

      timers_turn : (o : Option (Fires (List ℕ) × List (Record (List ℕ)))) → fired state.machines.records ≡ o → Onward state
      timers_turn None quiet = nothing_fires quiet (state.refresh == 0) refl
      timers_turn (Some fire) f = one_fires fire.0 fire.1 f

    onward_by : (b : Bool) → list_any has_ended state.tables ≡ b → Onward state
    onward_by true some = some_go some
    onward_by false none = timers_turn none (fired state.machines.records) refl

    pub onward : Onward state
    onward = onward_by (list_any has_ended state.tables) refl

  -- ---- a run

  nearer_within : (turns : ℕ) (state after : RouterState) (answer : Step (List ℕ)) → run_within turns moment state ≡ Some (answer, after) →
      answer ≢ Reached → turns_left moment after < turns_left moment state
  unfolding run_within
  nearer_within zero state after answer e goes = absurd (no_run answer after e)
  nearer_within (suc turns) state after answer e goes =
      elim (onward state) [
        | resting t ↦ absurd (goes (sym (ap (λ (x : Step (List ℕ) × RouterState). x.0) (pair_of Reached answer state after (rw t at e)))))
        | moving next t nearer ↦ let more = nearer_within turns next after answer (rw t at e) goes in omega (arith, nearer, more)
        | echoing port group what next t nearer ↦
            subst (λ (x : Step (List ℕ) × RouterState). turns_left moment x.1 < turns_left moment state)
            (pair_of (Echo port group what) answer next after (rw t at e)) nearer
        | refreshing next t nearer ↦
            subst (λ (x : Step (List ℕ) × RouterState). turns_left moment x.1 < turns_left moment state)
            (pair_of Refresh answer next after (rw t at e)) nearer
      ]

  pub nearer : (state after : RouterState) (answer : Step (List ℕ)) → Runs moment state answer after → answer ≢ Reached →
      turns_left moment after < turns_left moment state
  nearer state after answer runs goes = nearer_within runs.turns state after answer runs.within goes

  -- ---- to the moment

  record HasReach (state : RouterState) : Type 0 where
    reported : List RouterReport
    after : RouterState
    reaches : Reaches moment reported state after

  one_turn : (state next after : RouterState) (reported : List RouterReport) → turn moment state ≡ moves next → Reaches moment reported next after →
      Reaches moment reported state after
  unfolding Reaches
  one_turn state next after [] t more = run_more moment state next after Reached t more
  one_turn state next after (echo port group what ∷ reported) t more = (more.0, run_more moment state next more.0 (Echo port group what) t more.1, more.2)
  one_turn state next after (refresh ∷ reported) t more = (more.0, run_more moment state next more.0 Refresh t more.1, more.2)
  one_turn state next after (verdict of_packet ∷ reported) t more = more

  reach_within : (n : ℕ) (state : RouterState) → turns_left moment state < n → HasReach state
  unfolding Reaches
  reach_within zero state less = absurd (omega (arith, less))
  reach_within (suc n) state less =
      elim (onward state) [
        | resting t ↦ record { reported = []; after = state; reaches = run_rests moment state t }
        | moving next t nearer ↦
            let more = reach_within n next (omega (arith, less, nearer)) in
            record { reported = more.reported; after = more.after; reaches = one_turn state next more.after more.reported t more.reaches }
        | echoing port group what next t nearer ↦
            let more = reach_within n next (omega (arith, less, nearer)) in
            record { reported = echo port group what ∷ more.reported; after = more.after; reaches = (next, run_tells moment state next (Echo port group what) t, more.reaches) }
        | refreshing next t nearer ↦
            let more = reach_within n next (omega (arith, less, nearer)) in
            record { reported = refresh ∷ more.reported; after = more.after; reaches = (next, run_tells moment state next Refresh t, more.reaches) }
      ]

  has_reach : (state : RouterState) → HasReach state
  has_reach state = reach_within (suc (turns_left moment state)) state (omega arith)

-- ---- over a list of packets and moments

module _ (timers : TimersRunOut) (family : AddressFamily) where
  pub every_course : (inputs : List Input) (state : RouterState) → HasCourse family inputs state
  unfolding IsCourse
  every_course [] state = record { reported = []; after = state; course = (refl, refl) }
  every_course (runs_to moment ∷ inputs) state =
      let first = has_reach timers moment state in
      let more = every_course inputs first.after in
      record {
        reported = first.reported ++ more.reported;
        after = more.after;
        course = record { before = first.reported; behind = more.reported; between = first.after; joined = refl; begins = first.reaches; goes_on = more.course };
      }
  every_course (takes packet ∷ inputs) state =
      let more = every_course inputs (received family packet state).1 in
      record {
        reported = verdict (received family packet state).0 ∷ more.reported;
        after = more.after;
        course = record {
          before = verdict (received family packet state).0 ∷ [];
          behind = more.reported;
          between = (received family packet state).1;
          joined = refl;
          begins = (refl, refl);
          goes_on = more.course;
        };
      }
