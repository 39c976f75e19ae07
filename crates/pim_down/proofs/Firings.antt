-- Runs with the number of timers that fire in them, in records whose times count from the moment 0.
use Rattle.pim_down.proofs.Words.{◌≡◌, ℕ, zero, suc, ◌+◌, ◌-◌, ◌<◌, ◌≤◌, true, false, List, Some, max, refl, sym, ap, subst, ◌∙◌, arith, is_some, Held, Step, Reached, Echo, Downstream, fired, tick, Runs, RunsLooking, run_within, fires_within, ticks, IsQuietFor, turn, moves, echoes, rests, first_end, ends_by, records_seen, shown, downstream_at}
use Rattle.pim_down.proofs.Time.{fired_by, turn_passes, turn_rests}
use Rattle.pim_down.proofs.Jumps.{ticks_shown, quiet_until, due_shown, not_yet}

-- the run up to the moment tells this and leaves that, and so many timers fire in it
pub record RunsFiring (moment : ℕ) (state : Downstream) (answer : Step (List ℕ)) (after : Downstream) (timers : ℕ) : Type 0 where
  pub turns : ℕ
  pub within : run_within turns moment state ≡ Some (answer, after)
  pub fires : fires_within turns moment state ≡ timers

-- looks are counted
pub looking : (moment : ℕ) (state after : Downstream) (answer : Step (List ℕ)) (timers looks : ℕ) → RunsFiring moment state answer after timers → timers ≤ looks → looks ≤ timers + 1 → RunsLooking moment state answer after looks
looking moment state after answer timers looks runs each few = record { turns = runs.turns; within = runs.within; each = omega (arith, runs.fires, each); few = omega (arith, runs.fires, few) }

pub runs_looking : (moment : ℕ) (state after : Downstream) (answer : Step (List ℕ)) (looks : ℕ) → RunsLooking moment state answer after looks → Runs moment state answer after
runs_looking moment state after answer looks runs = record { turns = runs.turns; within = runs.within }

-- ---- one turn, and what follows

pub fire_more : (moment : ℕ) (state next after : Downstream) (answer : Step (List ℕ)) (timers : ℕ) → is_some (fired state.records) ≡ true → turn moment state ≡ moves next → RunsFiring moment next answer after timers → RunsFiring moment state answer after (1 + timers)
unfolding run_within fires_within
fire_more moment state next after answer timers some moved runs = record { turns = suc runs.turns; within = rw moved runs.within; fires = rw (some, moved) (ap (λ n. 1 + n) runs.fires) }

pass_more : (moment : ℕ) (state next after : Downstream) (answer : Step (List ℕ)) (timers : ℕ) → is_some (fired state.records) ≡ false → turn moment state ≡ moves next → RunsFiring moment next answer after timers → RunsFiring moment state answer after timers
unfolding run_within fires_within
pass_more moment state next after answer timers none moved runs = record { turns = suc runs.turns; within = rw moved runs.within; fires = rw (none, moved) (omega (arith, runs.fires)) }

pub fire_echo : (moment : ℕ) (state after : Downstream) (answer : Step (List ℕ)) → is_some (fired state.records) ≡ true → turn moment state ≡ echoes answer after → RunsFiring moment state answer after 1
unfolding run_within fires_within
fire_echo moment state after answer some reported = record { turns = 1; within = rw reported refl; fires = rw (some, reported) refl }

rest_here : (moment : ℕ) (state : Downstream) → is_some (fired state.records) ≡ false → turn moment state ≡ rests → RunsFiring moment state Reached state 0
unfolding run_within fires_within
rest_here moment state none rested = record { turns = 1; within = rw rested refl; fires = rw (none, rested) refl }

-- whatever runs from the end of a quiet time runs from its start
quiet_more : (k moment : ℕ) (state after : Downstream) (answer : Step (List ℕ)) (timers : ℕ) → IsQuietFor k state → state.moment + k ≤ moment → RunsFiring moment (ticks k state) answer after timers → RunsFiring moment state answer after timers
unfolding ticks
quiet_more zero moment state after answer timers quiet within runs = runs
quiet_more (suc k) moment state after answer timers quiet within runs =
    let here : is_some (fired state.records) ≡ false = quiet 0 (omega arith) in
    let moved = turn_passes moment state here (omega arith) in
    let later : IsQuietFor k (tick state) = λ j h. quiet (suc j) (omega arith) in
    pass_more moment state (tick state) after answer timers here moved (quiet_more k moment (tick state) after answer timers later (omega arith) runs)

module _ {A : Type 0} (bytes_of : A → List ℕ) where
  -- a jump over a quiet time
  jump : (ports limit moment now to : ℕ) (records : List (Held A)) (answer : Step (List ℕ)) (after : Downstream) (timers : ℕ) → now ≤ to → (k : ℕ) → k ≡ to - now → IsQuietFor k (downstream_at bytes_of ports limit now records) → (now < to → to ≤ moment) → RunsFiring moment (downstream_at bytes_of ports limit to records) answer after timers → RunsFiring moment (downstream_at bytes_of ports limit now records) answer after timers
  jump ports limit moment now to records answer after timers le k is quiet within runs = by k is quiet
    where
      same : (k : ℕ) → k ≡ to - now → now + k ≡ to
      same k is = omega arith

      by : (k : ℕ) → k ≡ to - now → IsQuietFor k (downstream_at bytes_of ports limit now records) → RunsFiring moment (downstream_at bytes_of ports limit now records) answer after timers
      by zero is quiet = let e : to ≡ now = omega arith in subst (λ (n : ℕ). RunsFiring moment (downstream_at bytes_of ports limit n records) answer after timers) e runs
      by (suc k) is quiet =
          let end : ticks (suc k) (downstream_at bytes_of ports limit now records) ≡ downstream_at bytes_of ports limit to records =
          ticks_shown bytes_of ports limit (suc k) now records ∙ ap (λ (n : ℕ). downstream_at bytes_of ports limit n records) (same (suc k) is) in
          quiet_more (suc k) moment (downstream_at bytes_of ports limit now records) after answer timers quiet (let lt : now < to = omega arith in let w = within lt in omega arith) (subst (λ (s : Downstream). RunsFiring moment s answer after timers) (sym end) runs)

  -- what a timer tells that fires: nothing, and whatever runs from there runs from here; or an echo, with which the run
  -- from here ends
  abbrev pub GoesOn : ℕ → List (Held A) → Step (List ℕ) → List (Held A) → Type 0
  GoesOn now records Reached left =
      (ports limit moment : ℕ) (answer : Step (List ℕ)) (after : Downstream) (timers : ℕ) → RunsFiring moment (downstream_at bytes_of ports limit now left) answer after timers → RunsFiring moment (downstream_at bytes_of ports limit now records) answer after (1 + timers)
  GoesOn now records (Echo port group what) left =
      (ports limit moment : ℕ) → RunsFiring moment (downstream_at bytes_of ports limit now records) (Echo port group what) (downstream_at bytes_of ports limit now left) 1

  pub goes_fired : (now : ℕ) (records left : List (Held A)) (step : Step (List ℕ)) → fired (shown bytes_of now records) ≡ Some (step, shown bytes_of now left) → GoesOn now records step left
  unfolding turn
  goes_fired now records left Reached e = λ ports limit moment answer after timers runs.
      let moved : turn moment (downstream_at bytes_of ports limit now records) ≡ moves (downstream_at bytes_of ports limit now left) = rw e refl in
      fire_more moment (downstream_at bytes_of ports limit now records) (downstream_at bytes_of ports limit now left) after answer timers (ap is_some e) moved runs
  goes_fired now records left (Echo port group what) e = λ ports limit moment.
      let reported : turn moment (downstream_at bytes_of ports limit now records) ≡ echoes (Echo port group what) (downstream_at bytes_of ports limit now left) = rw e refl in
      fire_echo moment (downstream_at bytes_of ports limit now records) (downstream_at bytes_of ports limit now left) (Echo port group what) (ap is_some e) reported

  -- the jump to the first end, which is no later than the last moment
  pub arrive : (ports limit moment start now to last e : ℕ) (records : List (Held A)) (answer : Step (List ℕ)) (after : Downstream) (timers : ℕ) → start ≤ now → last ≡ max start moment → e ≤ last → to ≡ max now e → first_end (records_seen bytes_of records) ≡ Some e → RunsFiring moment (downstream_at bytes_of ports limit to records) answer after timers → RunsFiring moment (downstream_at bytes_of ports limit now records) answer after timers
  arrive ports limit moment start now to last e records answer after timers le is_last le_last is_to first runs =
      jump ports limit moment now to records answer after timers (omega arith) (to - now) refl (quiet_until bytes_of ports limit now (to - now) e records first (omega arith)) (λ lt. omega arith) runs

  -- the jump to the last moment, by which nothing ends
  pub settle : (ports limit moment start now last : ℕ) (records : List (Held A)) → start ≤ now → now ≤ last → last ≡ max start moment → ends_by last (first_end (records_seen bytes_of records)) ≡ false → RunsFiring moment (downstream_at bytes_of ports limit now records) Reached (downstream_at bytes_of ports limit last records) 0
  settle ports limit moment start now last records le le_last is_last quiet =
      let still : IsQuietFor (last - now) (downstream_at bytes_of ports limit now records) = λ j h. due_shown bytes_of ports limit j now records ∙ not_yet bytes_of (now + j) last (first_end (records_seen bytes_of records)) (omega arith) quiet in
      let none = fired_by last (records_seen bytes_of records) ∙ quiet in
      jump ports limit moment now last records Reached (downstream_at bytes_of ports limit last records) 0 le_last (last - now) refl still (λ lt. omega arith)
      (rest_here moment (downstream_at bytes_of ports limit last records) none (turn_rests moment (downstream_at bytes_of ports limit last records) none (omega arith)))
