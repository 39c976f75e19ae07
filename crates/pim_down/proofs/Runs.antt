-- What a run leaves: by induction on its turns.
use Rattle.pim_down.proofs.Words.{◌≡◌, ℕ, zero, suc, ◌+◌, ◌-◌, ◌<◌, ◌≤◌, Bool, true, false, List, Some, None, ltb, max, refl, sym, ap, subst, arith, false≢true, ltb-true, ltb-false, What, Record, Step, Reached, Echo, Downstream, tick, fired, rests, moves, echoes, with_records, turn, run_within, Runs, HasRun, weight}
use Rattle.pim_down.proofs.Time.{Answer, run_more, run_echo, run_rest}
use Rattle.pim_down.proofs.FirstDue.{weight_fired, weight_later}

-- ---- one turn

data Turned (moment : ℕ) (state : Downstream) : Type 0 where
  resting : fired state.records ≡ None → moment ≤ state.moment → turn moment state ≡ rests → Turned moment state
  passing : fired state.records ≡ None → state.moment < moment → turn moment state ≡ moves (tick state) → Turned moment state
  firing : (records : List (Record (List ℕ))) → fired state.records ≡ Some (Reached, records) → turn moment state ≡ moves (with_records state records) → Turned moment state
  telling : (port : ℕ) (group : List ℕ) (what : What (List ℕ)) (records : List (Record (List ℕ))) → fired state.records ≡ Some (Echo port group what, records) → turn moment state ≡ echoes (Echo port group what) (with_records state records) → Turned moment state

turned_fired : (moment : ℕ) (state : Downstream) (answer : Step (List ℕ)) (records : List (Record (List ℕ))) → fired state.records ≡ Some (answer, records) → Turned moment state
unfolding turn
turned_fired moment state Reached records e = firing records e (rw e refl)
turned_fired moment state (Echo port group what) records e = telling port group what records e (rw e refl)

turned_quiet : (moment : ℕ) (state : Downstream) → fired state.records ≡ None → Turned moment state
unfolding turn
turned_quiet moment state e =
    elim (ltb state.moment moment) as (λ b. ltb state.moment moment ≡ b → Turned moment state) [
      | true ↦ λ t. passing e (ltb-true state.moment moment t) (rw (e, t) refl)
      | false ↦ λ t. resting e (ltb-false state.moment moment t) (rw (e, t) refl)
    ] refl

turned : (moment : ℕ) (state : Downstream) → Turned moment state
turned moment state =
    elim (fired state.records) as (λ o. fired state.records ≡ o → Turned moment state) [
      | None ↦ λ e. turned_quiet moment state e
      | Some fire ↦ λ e. turned_fired moment state fire.0 fire.1 e
    ] refl

-- ---- induction on runs

pair_of : (reported answer : Step (List ℕ)) (end after : Downstream) → ◌≡◌ {A = Answer} (Some (reported, end)) (Some (answer, after)) → ◌≡◌ {A = Step (List ℕ) × Downstream} (reported, end) (answer, after)
pair_of reported answer end after e = cc

no_run : (answer : Step (List ℕ)) (after : Downstream) → ◌≡◌ {A = Answer} None (Some (answer, after)) → ⊥
no_run answer after e = cc

module _ (moment : ℕ) (P : Downstream → Step (List ℕ) → Downstream → Type 0) (rested : (state : Downstream) → fired state.records ≡ None → moment ≤ state.moment → P state Reached state) (passed : (state after : Downstream) (answer : Step (List ℕ)) → fired state.records ≡ None → state.moment < moment → P (tick state) answer after → P state answer after) (went : (state after : Downstream) (answer : Step (List ℕ)) (records : List (Record (List ℕ))) → fired state.records ≡ Some (Reached, records) → P (with_records state records) answer after → P state answer after) (said : (state : Downstream) (port : ℕ) (group : List ℕ) (what : What (List ℕ)) (records : List (Record (List ℕ))) → fired state.records ≡ Some (Echo port group what, records) → P state (Echo port group what) (with_records state records)) where
  by_turns : (turns : ℕ) (state after : Downstream) (answer : Step (List ℕ)) → run_within turns moment state ≡ Some (answer, after) → P state answer after
  unfolding run_within
  by_turns zero state after answer e = absurd (no_run answer after e)
  by_turns (suc turns) state after answer e =
      elim (turned moment state) [
        | resting quiet reached s ↦ subst (λ (x : Step (List ℕ) × Downstream). P state x.0 x.1) (pair_of Reached answer state after (rw s at e)) (rested state quiet reached)
        | passing quiet before s ↦ passed state after answer quiet before (by_turns turns (tick state) after answer (rw s at e))
        | firing records f s ↦ went state after answer records f (by_turns turns (with_records state records) after answer (rw s at e))
        | telling port group what records f s ↦ subst (λ (x : Step (List ℕ) × Downstream). P state x.0 x.1) (pair_of (Echo port group what) answer (with_records state records) after (rw s at e)) (said state port group what records f)
      ]

  pub by_run : (state after : Downstream) (answer : Step (List ℕ)) → Runs moment state answer after → P state answer after
  by_run state after answer runs = by_turns runs.turns state after answer runs.within

-- ---- each state has a run

has_run : (n moment : ℕ) (state : Downstream) → (moment - state.moment) + weight state.records < n → HasRun moment state
has_run zero moment state less = absurd (omega arith)
has_run (suc n) moment state less =
    elim (turned moment state) [
      | resting quiet reached s ↦ record { answer = Reached; after = state; runs = run_rest moment state s }
      | passing quiet before s ↦
          let w = weight_later 1 state.records in
          let more = has_run n moment (tick state) (omega arith) in
          record { answer = more.answer; after = more.after; runs = run_more moment state (tick state) more.after more.answer s more.runs }
      | firing records f s ↦
          let w = weight_fired state.records records Reached f in
          let more = has_run n moment (with_records state records) (omega arith) in
          record { answer = more.answer; after = more.after; runs = run_more moment state (with_records state records) more.after more.answer s more.runs }
      | telling port group what records f s ↦ record { answer = Echo port group what; after = with_records state records; runs = run_echo moment state (with_records state records) (Echo port group what) s }
    ]

pub every_run : (moment : ℕ) (state : Downstream) → HasRun moment state
every_run moment state = has_run (suc ((moment - state.moment) + weight state.records)) moment state (omega arith)

-- ---- ports, limit and moment

abbrev is_echo : Step (List ℕ) → Bool
is_echo Reached = false
is_echo (Echo port group what) = true

pub no_echo : (port : ℕ) (group : List ℕ) (what : What (List ℕ)) → Echo port group what ≡ Reached → ⊥
no_echo port group what e = false≢true (sym (ap is_echo e))

abbrev Bounds : ℕ → Downstream → Step (List ℕ) → Downstream → Type 0
Bounds moment state answer after = (after.ports ≡ state.ports) × (after.limit ≡ state.limit) × (state.moment ≤ after.moment) × (after.moment ≤ max state.moment moment) × (answer ≡ Reached → after.moment ≡ max state.moment moment)

pub bounds : (moment : ℕ) (state after : Downstream) (answer : Step (List ℕ)) → Runs moment state answer after → Bounds moment state answer after
bounds moment =
    by_run moment (Bounds moment)
    (λ state quiet reached. (refl, refl, omega arith, omega arith, λ e. omega arith))
    (λ state after answer quiet before more. (more.0, more.1, omega (arith, more.2), omega (arith, more.3), λ e. let r = more.4 e in omega arith))
    (λ state after answer records f more. more)
    (λ state port group what records f. (refl, refl, omega arith, omega arith, λ e. absurd (no_echo port group what e)))
