-- What happens turn by turn: turns that follow one another, and that they have one end.
use Rattle.pim_router.proofs.Words.{◌≡◌, ◌∙◌, ◌<◌, ◌≤◌, ℕ, zero, suc, ◌==◌, Bool, true, false, List, [], ◌++◌, Option, Some, None}
use Rattle.pim_router.proofs.Words.{nat_lt, if◌then◌else◌, refl, sym, ap, subst, arith, append_assoc, list_any, false≢true}
use Rattle.pim_router.proofs.Words.{lt-ltb, ltb-true, Record, TimersRunOut, fired, Happening, happens_in, next_of, at_moment}
use Rattle.pim_router.proofs.Words.{happens_then, pass_on, in_turns, Passes, HasHappened, HasPassed, PassingGoesOn}
use Rattle.pim_router.proofs.Words.{HappeningGoesOn, HappeningHasOneEnd, RunsPastAreTurns, EveryStateGoesOn, FiringPasses}
use Rattle.pim_router.proofs.Words.{RunsPast, Step, Refresh, Reached, RouterState, Outcome, rests, moves, stops_with, has_ended}
use Rattle.pim_router.proofs.Words.{turn, turn_of_timers, turn_of_time, tick, run_within, turns_left}
use Rattle.pim_down.specs.declared.machines.step.Step.{Step as Fires}
use Rattle.pim_router.proofs.Runs.{pair_of as run_pair, no_run}
use Rattle.pim_router.proofs.Turns.{is_reached, said}
use Rattle.pim_router.proofs.Onward.{resting, moving, echoing, refreshing, onward}

abbrev pub Written : Type 0
Written = List (ℕ × Happening)

abbrev pub End : Type 0
End = Option (Written × RouterState)

pair_of : (reported said : Written) (end after : RouterState) → ◌≡◌ {A = End} (Some (reported, end)) (Some (said, after)) → ◌≡◌ {A = Written × RouterState} (reported, end) (said, after)
pair_of reported said end after e = cc

no_end : (reported : Written) (after : RouterState) → ◌≡◌ {A = End} None (Some (reported, after)) → ⊥
no_end reported after e = cc

none_some : (next : RouterState) → ◌≡◌ {A = Option RouterState} None (Some next) → ⊥
none_some next e = cc

same_state : (next other : RouterState) → ◌≡◌ {A = Option RouterState} (Some next) (Some other) → next ≡ other
same_state next other e = cc

-- ---- one turn first

pub pass_none : (moment : ℕ) (state : RouterState) → Passes moment state [] state
unfolding in_turns
pass_none moment state = record { turns = 0; passed = refl }

pub pass_first : (moment : ℕ) (state next after : RouterState) (reported : Written) → next_of (turn moment state) ≡ Some next → Passes moment next reported after →
    Passes moment state (at_moment state.machines.moment (happens_in state) ++ reported) after
unfolding in_turns
pass_first moment state next after reported n more = record { turns = suc more.turns; passed = rw (n, more.passed) refl }

-- a turn in which nothing happens
pub pass_quietly : (moment : ℕ) (state next after : RouterState) (reported : Written) → next_of (turn moment state) ≡ Some next → happens_in state ≡ [] → Passes moment next reported after →
    Passes moment state reported after
pass_quietly moment state next after reported n nothing more =
    subst (λ (h : List Happening). Passes moment state (at_moment state.machines.moment h ++ reported) after) nothing (pass_first moment state next after reported n more)

-- ---- induction on turns

joined : (first reported : Written) (after : RouterState) (o : End) → happens_then first o ≡ Some (reported, after) → (more : Written) × (o ≡ Some (more, after)) × (first ++ more ≡ reported)
joined first reported after None e = absurd (no_end reported after e)
joined first reported after (Some (more, end)) e =
    let pairs = pair_of (first ++ more) reported end after e in
    (more, ap (λ (x : Written × RouterState). Some (more, x.1)) pairs, ap (λ (x : Written × RouterState). x.0) pairs)

module _ (moment : ℕ) (P : RouterState → Written → RouterState → Type 0) (none : (state : RouterState) → P state [] state)
    (more : (state next after : RouterState) (reported : Written) → next_of (turn moment state) ≡ Some next → P next reported after → P state (at_moment state.machines.moment (happens_in state) ++ reported) after) where
  by_within : (turns : ℕ) (state after : RouterState) (reported : Written) → in_turns turns moment state ≡ Some (reported, after) → P state reported after
  unfolding in_turns
  by_within zero state after reported e = subst (λ (x : Written × RouterState). P state x.0 x.1) (pair_of [] reported state after e) (none state)
  by_within (suc turns) state after reported e =
      elim (next_of (turn moment state)) as (λ o. next_of (turn moment state) ≡ o → P state reported after) [
        | None ↦ λ n. absurd (no_end reported after (rw n at e))
        | Some next ↦ λ n.
            let j = joined (at_moment state.machines.moment (happens_in state)) reported after (in_turns turns moment next) (rw n at e) in
            subst (λ t. P state t after) j.2 (more state next after j.0 n (by_within turns next after j.0 j.1))
      ] refl

  pub by_passes : (state after : RouterState) (reported : Written) → Passes moment state reported after → P state reported after
  by_passes state after reported passes = by_within passes.turns state after reported passes.passed

-- ---- a turn up to a later moment is the same

module _ (earlier later : ℕ) (le : earlier ≤ later) (state next : RouterState) where
  later_time : (b : Bool) → nat_lt state.machines.moment earlier ≡ b →
      next_of (if b then moves (tick state) else rests) ≡ Some next → next_of (turn_of_time later state) ≡ Some next
  later_time true is h =
      let less : state.machines.moment < earlier = ltb-true state.machines.moment earlier is in
      rw (lt-ltb state.machines.moment later (omega (arith, less, le))) h
  later_time false is h = absurd (none_some next h)

  later_refresh : (b : Bool) (other : Outcome) → next_of (if b then other else turn_of_time earlier state) ≡ Some next →
      next_of (if b then other else turn_of_time later state) ≡ Some next
  later_refresh true other h = h
  later_refresh false other h = later_time (nat_lt state.machines.moment earlier) refl h

  later_timers : (o : Option (Fires (List ℕ) × List (Record (List ℕ)))) → next_of (turn_of_timers earlier state o) ≡ Some next →
      next_of (turn_of_timers later state o) ≡ Some next
  later_timers None h = later_refresh (state.refresh == 0) _ h
  later_timers (Some fire) h = h

  later_all : (b : Bool) (other : Outcome) → next_of (if b then other else turn_of_timers earlier state (fired state.machines.records)) ≡ Some next →
      next_of (if b then other else turn_of_timers later state (fired state.machines.records)) ≡ Some next
  later_all true other h = h
  later_all false other h = later_timers (fired state.machines.records) h

  next_later : next_of (turn earlier state) ≡ Some next → next_of (turn later state) ≡ Some next
  unfolding turn
  next_later h = later_all (list_any has_ended state.tables) _ h

-- ---- one after the other

abbrev GoesOn : ℕ → RouterState → Written → RouterState → Type 0
GoesOn later state reported between = (after : RouterState) (more : Written) → Passes later between more after → Passes later state (reported ++ more) after

pub passing_goes_on : PassingGoesOn
passing_goes_on earlier later state between after reported more le first second =
    by_passes earlier (GoesOn later) (λ state after more p. p)
    (λ state next between reported n on after more p.
    subst (λ t. Passes later state t after) (sym (append_assoc (at_moment state.machines.moment (happens_in state)) reported more))
    (pass_first later state next after (reported ++ more) (next_later earlier later le state next n) (on after more p)))
    state between reported first after more second

pub happening_goes_on : HappeningGoesOn
happening_goes_on earlier later state between after reported more le first second =
    record { passes = passing_goes_on earlier later state between after reported more le first second.passes; ends = second.ends }

pub firing_passes : FiringPasses
firing_passes moment state after reported fires =
    passing_goes_on moment moment state fires.before after _ _ (omega arith) fires.passes (record { turns = 1; passed = fires.fires })

-- ---- one end

never_next : (moment : ℕ) (state : RouterState) (first : Written) (more : RouterState → End) (reported : Written) (after : RouterState) → turn moment state ≡ rests →
    pass_on (next_of (turn moment state)) first more ≡ Some (reported, after) → ⊥
never_next moment state first more reported after t e = no_end reported after (rw t at e)

module _ (moment : ℕ) where
  one_within : (m n : ℕ) (state after other : RouterState) (reported said : Written) → in_turns m moment state ≡ Some (reported, after) → turn moment after ≡ rests →
      in_turns n moment state ≡ Some (said, other) → turn moment other ≡ rests → ◌≡◌ {A = Written × RouterState} (reported, after) (said, other)
  unfolding in_turns
  one_within zero zero state after other reported said a s b t = sym (pair_of [] reported state after a) ∙ pair_of [] said state other b
  one_within zero (suc n) state after other reported said a s b t =
      let same : after ≡ state = ap (λ (x : Written × RouterState). x.1) (sym (pair_of [] reported state after a)) in
      absurd (never_next moment state (at_moment state.machines.moment (happens_in state)) (in_turns n moment) said other (subst (λ x. turn moment x ≡ rests) same s) b)
  one_within (suc m) zero state after other reported said a s b t =
      let same : other ≡ state = ap (λ (x : Written × RouterState). x.1) (sym (pair_of [] said state other b)) in
      absurd (never_next moment state (at_moment state.machines.moment (happens_in state)) (in_turns m moment) reported after (subst (λ x. turn moment x ≡ rests) same t) a)
  one_within (suc m) (suc n) state after other reported said a s b t =
      let first = at_moment state.machines.moment (happens_in state) in
      elim (next_of (turn moment state)) as (λ o. next_of (turn moment state) ≡ o → ◌≡◌ {A = Written × RouterState} (reported, after) (said, other)) [
        | None ↦ λ e. absurd (no_end reported after (rw e at a))
        | Some next ↦ λ e.
            let j = joined first reported after (in_turns m moment next) (rw e at a) in
            let k = joined first said other (in_turns n moment next) (rw e at b) in
            let rest = one_within m n next after other j.0 k.0 j.1 s k.1 t in
            (λ i. (sym j.2 i, after)) ∙ ap (λ (x : Written × RouterState). (first ++ x.0, x.1)) rest ∙ (λ i. (k.2 i, other))
      ] refl

pub happening_once : HappeningHasOneEnd
happening_once moment state after other reported said a b =
    let same = one_within moment a.passes.turns b.passes.turns state after other reported said a.passes.passed a.ends b.passes.passed b.ends in
    (ap (λ (x : Written × RouterState). x.0) same, ap (λ (x : Written × RouterState). x.1) same)

-- ---- runs are turns

module _ (moment : ℕ) where
  run_turns : (turns : ℕ) (state after : RouterState) (answer : Step (List ℕ)) → run_within turns moment state ≡ Some (answer, after) → HasPassed moment state answer after
  unfolding run_within
  run_turns zero state after answer e = absurd (no_run answer after e)
  run_turns (suc turns) state after answer e =
      elim (turn moment state) as (λ o. turn moment state ≡ o → HasPassed moment state answer after) [
        | rests ↦ λ t.
            let same : state ≡ after = ap (λ (x : Step (List ℕ) × RouterState). x.1) (run_pair Reached answer state after (rw t at e)) in
            record { reported = []; passes = subst (λ s. Passes moment state [] s) same (pass_none moment state); ends = λ is. subst (λ s. turn moment s ≡ rests) same t }
        | moves next ↦ λ t.
            let more = run_turns turns next after answer (rw t at e) in
            record {
              reported = at_moment state.machines.moment (happens_in state) ++ more.reported;
              passes = pass_first moment state next after more.reported (ap next_of t) more.passes;
              ends = more.ends;
            }
        | stops_with step end ↦ λ t.
            let pairs = run_pair step answer end after (rw t at e) in
            record {
              reported = at_moment state.machines.moment (happens_in state) ++ [];
              passes = subst (λ s. Passes moment state (at_moment state.machines.moment (happens_in state) ++ []) s) (ap (λ (x : Step (List ℕ) × RouterState). x.1) pairs)
                  (pass_first moment state end end [] (ap next_of t) (pass_none moment end));
              ends = λ is. absurd (false≢true (sym (said moment state step end t) ∙ ap (λ (x : Step (List ℕ) × RouterState). is_reached x.0) pairs ∙ ap is_reached is));
            }
      ] refl

pub runs_past_turns : RunsPastAreTurns
unfolding RunsPast
runs_past_turns zero moment state after answer runs = run_turns moment runs.turns state after answer runs.within
runs_past_turns (suc refreshes) moment state after answer (between, runs, more) =
    let first = run_turns moment runs.turns state between Refresh runs.within in
    let rest = runs_past_turns refreshes moment between after answer more in
    record {
      reported = first.reported ++ rest.reported;
      passes = passing_goes_on moment moment state between after first.reported rest.reported (omega arith) first.passes rest.passes;
      ends = rest.ends;
    }

-- ---- each turn comes nearer

module _ (timers : TimersRunOut) (moment : ℕ) where
  next_nearer : (state next : RouterState) → next_of (turn moment state) ≡ Some next → turns_left moment next < turns_left moment state
  next_nearer state next n =
      elim (onward timers moment state) [
        | resting t ↦ absurd (none_some next (rw t at n))
        | moving other t nearer ↦ subst (λ s. turns_left moment s < turns_left moment state) (same_state other next (rw t at n)) nearer
        | echoing port group what other t nearer ↦ subst (λ s. turns_left moment s < turns_left moment state) (same_state other next (rw t at n)) nearer
        | refreshing other t nearer ↦ subst (λ s. turns_left moment s < turns_left moment state) (same_state other next (rw t at n)) nearer
      ]

  pub passes_near : (state after : RouterState) (reported : Written) → Passes moment state reported after → turns_left moment after ≤ turns_left moment state
  passes_near state after reported passes =
      by_passes moment (λ state reported after. turns_left moment after ≤ turns_left moment state) (λ state. omega arith)
      (λ state next after reported n more. let less = next_nearer state next n in omega (arith, less, more))
      state after reported passes

  -- one turn
  pub one_nearer : (state after : RouterState) (reported : Written) → in_turns 1 moment state ≡ Some (reported, after) → turns_left moment after < turns_left moment state
  unfolding in_turns
  one_nearer state after reported e =
      elim (next_of (turn moment state)) as (λ o. next_of (turn moment state) ≡ o → turns_left moment after < turns_left moment state) [
        | None ↦ λ n. absurd (no_end reported after (rw n at e))
        | Some next ↦ λ n.
            let j = joined (at_moment state.machines.moment (happens_in state)) reported after (in_turns 0 moment next) (rw n at e) in
            let same = ap (λ (x : Written × RouterState). x.1) (pair_of [] j.0 next after j.1) in
            subst (λ s. turns_left moment s < turns_left moment state) same (next_nearer state next n)
      ] refl

-- ---- to the moment

module _ (timers : TimersRunOut) (moment : ℕ) where
  one_more_turn : (state next : RouterState) → next_of (turn moment state) ≡ Some next → HasHappened moment next → HasHappened moment state
  one_more_turn state next n more = record {
    reported = at_moment state.machines.moment (happens_in state) ++ more.reported;
    after = more.after;
    happens = record { passes = pass_first moment state next more.after more.reported n more.happens.passes; ends = more.happens.ends };
  }

  happen_within : (n : ℕ) (state : RouterState) → turns_left moment state < n → HasHappened moment state
  happen_within zero state less = absurd (omega (arith, less))
  happen_within (suc n) state less =
      elim (onward timers moment state) [
        | resting t ↦ record { reported = []; after = state; happens = record { passes = pass_none moment state; ends = t } }
        | moving next t nearer ↦ one_more_turn state next (ap next_of t) (happen_within n next (omega (arith, less, nearer)))
        | echoing port group what next t nearer ↦ one_more_turn state next (ap next_of t) (happen_within n next (omega (arith, less, nearer)))
        | refreshing next t nearer ↦ one_more_turn state next (ap next_of t) (happen_within n next (omega (arith, less, nearer)))
      ]

pub all_go_on : TimersRunOut → EveryStateGoesOn
all_go_on timers moment state = happen_within timers moment (suc (turns_left moment state)) state (omega arith)
