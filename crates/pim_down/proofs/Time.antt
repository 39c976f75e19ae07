-- The machine of milliseconds: jumps over the milliseconds in which nothing fires, runs one after another, and that a
-- run has one end.
use Rattle.pim_down.proofs.Words.{◌≡◌, ℕ, zero, suc, ◌+◌, ◌-◌, ◌<◌, ◌≤◌, Bool, true, false, cond, ◌||◌, List, [], ◌∷◌, Option, Some, None, map, ltb, leb, eqb, min, refl, sym, ap, subst, ◌∙◌, arith, is_some, false≢true, true≢false, lt-ltb, le-ltb, ltb-true, nat_tests, What, Pending, Machine, Record, Step, Echo, Reached, Downstream, expiry_after, pending_after, machine_after, record_after, tick, expiry_due, pending_due, et_due, ppt_due, after_ppt, echo_of, first_due, with_first, fire_et, fired, Outcome, rests, moves, echoes, with_records, reported, turn, run_on, run_within, Runs, ticks, sooner, pending_end, first_end, ends_by}

-- ---- milliseconds add up

expiry_more : (k j : ℕ) (e : Option ℕ) → expiry_after j (expiry_after k e) ≡ expiry_after (k + j) e
expiry_more k j None = refl
expiry_more k j (Some ends) = ap (λ n. Some n) (omega arith)

pending_more : (k j : ℕ) (p : Option Pending) → pending_after j (pending_after k p) ≡ pending_after (k + j) p
pending_more k j None = refl
pending_more k j (Some timer) = let e : timer.ends_in - k - j ≡ timer.ends_in - (k + j) = omega arith in λ i. Some (record { ends_in = e i; several = timer.several })

pub machine_more : (k j : ℕ) (held : Machine) → machine_after j (machine_after k held) ≡ machine_after (k + j) held
machine_more k j held = λ i. record { state = held.state; expires_in = expiry_more k j held.expires_in i; pending = pending_more k j held.pending i }

pub record_more : (k j : ℕ) (held : Record (List ℕ)) → record_after j (record_after k held) ≡ record_after (k + j) held
record_more k j held =
    λ i. record {
      key = held.key;
      machine = record { state = held.machine.state; expires_in = expiry_more k j held.machine.expires_in i; pending = pending_more k j held.machine.pending i };
    }

pub records_more : (k j : ℕ) (records : List (Record (List ℕ))) → map (record_after j) (map (record_after k) records) ≡ map (record_after (k + j)) records
records_more k j [] = refl
records_more k j (held ∷ records) = λ i. record_more k j held i ∷ records_more k j records i

expiry_none : (e : Option ℕ) → expiry_after 0 e ≡ e
expiry_none None = refl
expiry_none (Some ends) = ap (λ n. Some n) (omega arith)

pending_none : (p : Option Pending) → pending_after 0 p ≡ p
pending_none None = refl
pending_none (Some timer) = let e : timer.ends_in - 0 ≡ timer.ends_in = omega arith in λ i. Some (record { ends_in = e i; several = timer.several })

pub machine_none : (held : Machine) → machine_after 0 held ≡ held
machine_none held = λ i. record { state = held.state; expires_in = expiry_none held.expires_in i; pending = pending_none held.pending i }

pub records_none : (records : List (Record (List ℕ))) → map (record_after 0) records ≡ records
records_none [] = refl
records_none (held ∷ records) =
    λ i. record {
      key = held.key;
      machine = record { state = held.machine.state; expires_in = expiry_none held.machine.expires_in i; pending = pending_none held.machine.pending i };
    } ∷ records_none records i

abbrev pub state_after : ℕ → Downstream → Downstream
state_after k state = record { ports = state.ports; limit = state.limit; moment = state.moment + k; records = map (record_after k) state.records }

-- so many ticks are one subtraction
pub ticks_is : (k : ℕ) (state : Downstream) → ticks k state ≡ state_after k state
unfolding ticks
ticks_is zero state =
    let m : state.moment ≡ state.moment + 0 = omega arith in
    let r = sym (records_none state.records) in
    λ i. record { ports = state.ports; limit = state.limit; moment = m i; records = r i }
ticks_is (suc k) state =
    let m : state.moment + 1 + k ≡ state.moment + suc k = omega arith in
    let n : 1 + k ≡ suc k = omega arith in
    let r = records_more 1 k state.records ∙ ap (λ (x : ℕ). map (record_after x) state.records) n in
    ticks_is k (tick state) ∙ (λ i. record { ports = state.ports; limit = state.limit; moment = m i; records = r i })

-- ---- what is due

abbrev either_due : List (Record (List ℕ)) → Bool
either_due records = is_some (first_due ppt_due records) || is_some (first_due et_due records)

fired_is : (records : List (Record (List ℕ))) → is_some (fired records) ≡ either_due records
unfolding fired
fired_is records = by (first_due ppt_due records) (first_due et_due records)
  where
    by : (p e : Option (Record (List ℕ))) → is_some (elim p as (λ _. Option (Step (List ℕ) × List (Record (List ℕ)))) [ None ↦ fire_et records e | Some held ↦ Some (echo_of held, with_first ppt_due after_ppt records) ]) ≡ (is_some p || is_some e)
    by None None = refl
    by None (Some held) = refl
    by (Some held) e = refl

due_first : (due : Record (List ℕ) → Bool) (held : Record (List ℕ)) (records : List (Record (List ℕ))) → is_some (first_due due (held ∷ records)) ≡ (due held || is_some (first_due due records))
unfolding first_due
due_first due held records = elim (due held) as (λ b. is_some (cond b (Some held) (first_due due records)) ≡ (b || is_some (first_due due records))) [ true ↦ refl | false ↦ refl ]

monus_by : (e k : ℕ) → eqb (e - k) 0 ≡ leb e k
monus_by e k = grind (arith, nat_tests)

expiry_by : (k : ℕ) (e : Option ℕ) → expiry_due (expiry_after k e) ≡ ends_by k e
expiry_by k None = refl
expiry_by k (Some e) = monus_by e k

pending_by : (k : ℕ) (p : Option Pending) → pending_due (pending_after k p) ≡ ends_by k (pending_end p)
pending_by k None = refl
pending_by k (Some timer) = monus_by timer.ends_in k

min_by : (a b k : ℕ) → leb (min a b) k ≡ (leb a k || leb b k)
min_by a b k = grind (arith, nat_tests)

sooner_by : (k : ℕ) (a b : Option ℕ) → ends_by k (sooner a b) ≡ (ends_by k a || ends_by k b)
sooner_by k None b = refl
sooner_by k (Some a) None = or_false (leb a k)
  where
    or_false : (b : Bool) → b ≡ (b || false)
    or_false true = refl
    or_false false = refl
sooner_by k (Some a) (Some b) = min_by a b k

shuffled : (p ps e es : Bool) → ((p || ps) || (e || es)) ≡ ((e || p) || (ps || es))
shuffled true ps true es = refl
shuffled true ps false es = refl
shuffled false true true es = refl
shuffled false true false es = refl
shuffled false false true es = refl
shuffled false false false es = refl

either_by : (k : ℕ) (records : List (Record (List ℕ))) → either_due (map (record_after k) records) ≡ ends_by k (first_end records)
unfolding first_end first_due
either_by k [] = refl
either_by k (held ∷ records) =
    let later = record_after k held in
    let rest = map (record_after k) records in
    let p = due_first ppt_due later rest in
    let e = due_first et_due later rest in
    let both : either_due (later ∷ rest) ≡ ((ppt_due later || is_some (first_due ppt_due rest)) || (et_due later || is_some (first_due et_due rest))) = λ i. p i || e i in
    let turned = shuffled (ppt_due later) (is_some (first_due ppt_due rest)) (et_due later) (is_some (first_due et_due rest)) in
    let here : (et_due later || ppt_due later) ≡ ends_by k (sooner held.machine.expires_in (pending_end held.machine.pending)) =
    (λ i. expiry_by k held.machine.expires_in i || pending_by k held.machine.pending i) ∙ sym (sooner_by k held.machine.expires_in (pending_end held.machine.pending)) in
    let all : ((et_due later || ppt_due later) || either_due rest) ≡ ends_by k (first_end (held ∷ records)) =
    (λ i. here i || either_by k records i) ∙ sym (sooner_by k (sooner held.machine.expires_in (pending_end held.machine.pending)) (first_end records)) in
    both ∙ turned ∙ all

-- something fires after so many milliseconds exactly where the first end is no later
pub fired_by : (k : ℕ) (records : List (Record (List ℕ))) → is_some (fired (map (record_after k) records)) ≡ ends_by k (first_end records)
fired_by k records = fired_is (map (record_after k) records) ∙ either_by k records

-- ---- runs

pub run_more : (moment : ℕ) (state next after : Downstream) (answer : Step (List ℕ)) → turn moment state ≡ moves next → Runs moment next answer after → Runs moment state answer after
unfolding run_within
run_more moment state next after answer moved runs = record { turns = suc runs.turns; within = rw moved runs.within }

pub run_echo : (moment : ℕ) (state after : Downstream) (answer : Step (List ℕ)) → turn moment state ≡ echoes answer after → Runs moment state answer after
unfolding run_within
run_echo moment state after answer reported = record { turns = 1; within = rw reported refl }

pub run_rest : (moment : ℕ) (state : Downstream) → turn moment state ≡ rests → Runs moment state Reached state
unfolding run_within
run_rest moment state rested = record { turns = 1; within = rw rested refl }

none_from_quiet : (o : Option (Step (List ℕ) × List (Record (List ℕ)))) → is_some o ≡ false → o ≡ None
none_from_quiet None e = refl
none_from_quiet (Some o) e = absurd (false≢true (sym e))

-- nothing is due
pub turn_passes : (moment : ℕ) (state : Downstream) → is_some (fired state.records) ≡ false → state.moment < moment → turn moment state ≡ moves (tick state)
unfolding turn
turn_passes moment state quiet before = rw (none_from_quiet (fired state.records) quiet, lt-ltb state.moment moment before) refl

pub turn_rests : (moment : ℕ) (state : Downstream) → is_some (fired state.records) ≡ false → moment ≤ state.moment → turn moment state ≡ rests
unfolding turn
turn_rests moment state quiet reached = rw (none_from_quiet (fired state.records) quiet, le-ltb state.moment moment reached) refl

-- ---- a run, and then a run

abbrev pub Answer : Type 0
Answer = Option (Step (List ℕ) × Downstream)

-- what one turn leads to, at an earlier and at a later moment
data Turns (earlier later : ℕ) (state : Downstream) : Type 0 where
  goes : (next : Downstream) → turn earlier state ≡ moves next → turn later state ≡ moves next → Turns earlier later state
  stays : turn earlier state ≡ rests → Turns earlier later state
  tells : (port : ℕ) (group : List ℕ) (what : What (List ℕ)) (next : Downstream) → turn earlier state ≡ echoes (Echo port group what) next → Turns earlier later state

steps_fired : (earlier later : ℕ) (state : Downstream) (answer : Step (List ℕ)) (records : List (Record (List ℕ))) → fired state.records ≡ Some (answer, records) → Turns earlier later state
unfolding turn
steps_fired earlier later state Reached records e = goes (with_records state records) (rw e refl) (rw e refl)
steps_fired earlier later state (Echo port group what) records e = tells port group what (with_records state records) (rw e refl)

steps_passed : (earlier later : ℕ) (state : Downstream) → earlier ≤ later → fired state.records ≡ None → Turns earlier later state
unfolding turn
steps_passed earlier later state le e =
    elim (ltb state.moment earlier) as (λ b. ltb state.moment earlier ≡ b → Turns earlier later state) [
      | true ↦ λ t. let lt : state.moment < earlier = ltb-true state.moment earlier t in goes (tick state) (rw (e, t) refl) (rw (e, lt-ltb state.moment later (omega arith)) refl)
      | false ↦ λ t. stays (rw (e, t) refl)
    ] refl

steps_of : (earlier later : ℕ) (state : Downstream) → earlier ≤ later → Turns earlier later state
steps_of earlier later state le =
    elim (fired state.records) as (λ o. fired state.records ≡ o → Turns earlier later state) [
      | None ↦ λ e. steps_passed earlier later state le e
      | Some fire ↦ λ e. steps_fired earlier later state fire.0 fire.1 e
    ] refl

reached_at : (state middle : Downstream) → ◌≡◌ {A = Answer} (Some (Reached, state)) (Some (Reached, middle)) → state ≡ middle
reached_at state middle e =
    let pairs : ◌≡◌ {A = Step (List ℕ) × Downstream} (Reached, state) (Reached, middle) = cc in
    ap (λ (x : Step (List ℕ) × Downstream). x.1) pairs

abbrev is_echo : Step (List ℕ) → Bool
is_echo Reached = false
is_echo (Echo port group what) = true

no_echo : (port : ℕ) (group : List ℕ) (what : What (List ℕ)) (next middle : Downstream) → ◌≡◌ {A = Answer} (Some (Echo port group what, next)) (Some (Reached, middle)) → ⊥
no_echo port group what next middle e =
    let pairs : ◌≡◌ {A = Step (List ℕ) × Downstream} (Echo port group what, next) (Reached, middle) = cc in
    true≢false (ap (λ (x : Step (List ℕ) × Downstream). is_echo x.0) pairs)

run_then : (turns earlier later : ℕ) (state middle after : Downstream) (answer : Step (List ℕ)) → earlier ≤ later → run_within turns earlier state ≡ Some (Reached, middle) → Runs later middle answer after → Runs later state answer after
unfolding run_within
run_then zero earlier later state middle after answer le e runs = cc
run_then (suc turns) earlier later state middle after answer le e runs =
    elim (steps_of earlier later state le) [
      | goes next first second ↦ run_more later state next after answer second (run_then turns earlier later next middle after answer le (rw first at e) runs)
      | stays rest ↦ subst (λ (s : Downstream). Runs later s answer after) (sym (reached_at state middle (rw rest at e))) runs
      | tells port group what next echo ↦ absurd (no_echo port group what next middle (rw echo at e))
    ]

-- a run that reaches a moment, and then one up to a later moment, are one run up to the later
pub runs_then : (earlier later : ℕ) (state middle after : Downstream) (answer : Step (List ℕ)) → earlier ≤ later → Runs earlier state Reached middle → Runs later middle answer after → Runs later state answer after
runs_then earlier later state middle after answer le first second = run_then first.turns earlier later state middle after answer le first.within second

-- ---- a run has one end

one_by : (outcome : Outcome) (moment n m : ℕ) (state : Downstream) (x y : Step (List ℕ) × Downstream) → ((next : Downstream) → run_within n moment next ≡ Some x → run_within m moment next ≡ Some y → x ≡ y) → run_on outcome state (run_within n moment) ≡ Some x → run_on outcome state (run_within m moment) ≡ Some y → x ≡ y
one_by rests moment n m state x y more e f = cc
one_by (moves next) moment n m state x y more e f = more next e f
one_by (echoes echo next) moment n m state x y more e f = cc

one_within : (n m moment : ℕ) (state : Downstream) (x y : Step (List ℕ) × Downstream) → run_within n moment state ≡ Some x → run_within m moment state ≡ Some y → x ≡ y
unfolding run_within
one_within zero m moment state x y e f = cc
one_within (suc n) zero moment state x y e f = cc
one_within (suc n) (suc m) moment state x y e f = one_by (turn moment state) moment n m state x y (λ next. one_within n m moment next x y) e f

pub runs_once : (moment : ℕ) (state after other : Downstream) (answer reported : Step (List ℕ)) → Runs moment state answer after → Runs moment state reported other → (answer ≡ reported) × (after ≡ other)
runs_once moment state after other answer reported first second =
    let same = one_within first.turns second.turns moment state (answer, after) (reported, other) first.within second.within in
    (ap (λ (x : Step (List ℕ) × Downstream). x.0) same, ap (λ (x : Step (List ℕ) × Downstream). x.1) same)
