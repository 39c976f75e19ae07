-- Runs of a router: by induction on their turns.
use Rattle.pim_router.proofs.Words.{◌≡◌, ◌∙◌, ℕ, zero, suc, List, Option, Some, None, refl, sym, ap, Step, Reached}
use Rattle.pim_router.proofs.Words.{RouterState, Outcome, rests, moves, stops_with, turn, run_on, run_within, Runs}

abbrev pub Answer : Type 0
Answer = Option (Step (List ℕ) × RouterState)

pub pair_of : (reported answer : Step (List ℕ)) (end after : RouterState) →
    ◌≡◌ {A = Answer} (Some (reported, end)) (Some (answer, after)) →
    ◌≡◌ {A = Step (List ℕ) × RouterState} (reported, end) (answer, after)
pair_of reported answer end after e = cc

pub no_run : (answer : Step (List ℕ)) (after : RouterState) → ◌≡◌ {A = Answer} None (Some (answer, after)) → ⊥
no_run answer after e = cc

-- ---- one turn before a run

pub run_more : (moment : ℕ) (state next after : RouterState) (answer : Step (List ℕ)) →
    turn moment state ≡ moves next → Runs moment next answer after → Runs moment state answer after
unfolding run_within
run_more moment state next after answer t more = record { turns = suc more.turns; within = rw t more.within }

pub run_tells : (moment : ℕ) (state after : RouterState) (answer : Step (List ℕ)) →
    turn moment state ≡ stops_with answer after → Runs moment state answer after
unfolding run_within
run_tells moment state after answer t = record { turns = 1; within = rw t refl }

pub run_rests : (moment : ℕ) (state : RouterState) → turn moment state ≡ rests → Runs moment state Reached state
unfolding run_within
run_rests moment state t = record { turns = 1; within = rw t refl }

-- ---- a run has one end

one_on : (o : Outcome) (state : RouterState) (f g : RouterState → Answer) (x y : Step (List ℕ) × RouterState) →
    ((next : RouterState) (u v : Step (List ℕ) × RouterState) → f next ≡ Some u → g next ≡ Some v → u ≡ v) →
    run_on o state f ≡ Some x → run_on o state g ≡ Some y → x ≡ y
one_on rests state f g x y more a b = pair_one x y (sym a ∙ b)
  where
    pair_one : (x y : Step (List ℕ) × RouterState) → ◌≡◌ {A = Answer} (Some x) (Some y) → x ≡ y
    pair_one x y e = cc
one_on (moves next) state f g x y more a b = more next x y a b
one_on (stops_with step after) state f g x y more a b = pair_one x y (sym a ∙ b)
  where
    pair_one : (x y : Step (List ℕ) × RouterState) → ◌≡◌ {A = Answer} (Some x) (Some y) → x ≡ y
    pair_one x y e = cc

one_end : (m n moment : ℕ) (state : RouterState) (x y : Step (List ℕ) × RouterState) →
    run_within m moment state ≡ Some x → run_within n moment state ≡ Some y → x ≡ y
unfolding run_within
one_end zero n moment state x y a b = absurd (no_run x.0 x.1 a)
one_end (suc m) zero moment state x y a b = absurd (no_run y.0 y.1 b)
one_end (suc m) (suc n) moment state x y a b =
    one_on (turn moment state) state (run_within m moment) (run_within n moment) x y
    (λ next u v c d. one_end m n moment next u v c d) a b

pub run_once : (moment : ℕ) (state after other : RouterState) (answer reported : Step (List ℕ)) →
    Runs moment state answer after → Runs moment state reported other → (answer ≡ reported) × (after ≡ other)
run_once moment state after other answer reported a b =
    let same = one_end a.turns b.turns moment state (answer, after) (reported, other) a.within b.within in
    (ap (λ (x : Step (List ℕ) × RouterState). x.0) same, ap (λ (x : Step (List ℕ) × RouterState). x.1) same)
