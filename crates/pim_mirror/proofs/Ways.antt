-- The way of a router over packets and moments: its ports stay, and what it tells on the way is joined.
use Rattle.pim_mirror.proofs.Words.{◌≡◌, ◌∙◌, ℕ, zero, suc, Bool, true, false, ◌==◌, List, [], ◌∷◌, ◌++◌, Option, None, Some}
use Rattle.pim_mirror.proofs.Words.{Result, Ok, Err, nat_lt, refl, sym, ap, subst, append-nil, list_any, AddressFamily, Content}
use Rattle.pim_mirror.proofs.Words.{hello, join_prune, other, content, What, Record, fired, Step, Echo, Refresh, Reached, Verdict}
use Rattle.pim_mirror.proofs.Words.{Input, runs_to, takes, RouterReport, echo, refresh, verdict, Reaches, IsCourse, CourseGoesOn}
use Rattle.pim_mirror.proofs.Words.{EveryListHasACourse, Packet, causes, body_heard, unless, received, Receives, Port}
use Rattle.pim_mirror.proofs.Words.{RouterState, Outcome, rests, moves, stops_with, reported, has_ended, turn, turn_of_time}
use Rattle.pim_mirror.proofs.Words.{turn_of_refresh, turn_of_timers, run_on, run_within, Runs, MirrorFault, needed_of}
use Rattle.pim_mirror.proofs.Words.{first_needed, or_later, IsPassed, Passes, HasReached, is_reached, needed_by, outcome_if}
use Rattle.pim_mirror.proofs.Words.{outcome_of}
use Rattle.pim_down.specs.Seen.{what_seen, step_seen as fires_seen}
use Rattle.pim_down.specs.declared.machines.step.Step.{Step as Fires}
use Rattle.pim_down.specs.declared.machines.step.Step.TheVariants as fires
use Rattle.pim_router.specs.Refreshes.{RunsPast, fires_behind}
use Rattle.pim_mirror.specs.declared.mirroring.MirrorFault.TheVariants as fault

-- ---- the ports stay

unless_keeps : (all : List Verdict) (state : RouterState) (taken : Verdict × RouterState) → taken.1.ports ≡ state.ports → (unless all state taken).1.ports ≡ state.ports
unless_keeps [] state taken same = same
unless_keeps (cause ∷ others) state taken same = refl

body_keeps : (family : AddressFamily) (port : ℕ) (source : List ℕ) (state : RouterState) (body : Content) → (body_heard family port source state body).1.ports ≡ state.ports
body_keeps family port source state (other type) = refl
body_keeps family port source state (hello body) = refl
body_keeps family port source state (join_prune body) = refl

pub received_keeps : (family : AddressFamily) (packet : Packet) (state : RouterState) → (received family packet state).1.ports ≡ state.ports
received_keeps family packet state =
    unless_keeps (causes family packet state) state (body_heard family packet.port packet.source state (content packet.bytes))
    (body_keeps family packet.port packet.source state (content packet.bytes))

abbrev Keeps : List Port → Outcome → Type 0
Keeps ports rests = Unit {0}
Keeps ports (moves after) = after.ports ≡ ports
Keeps ports (stops_with step after) = after.ports ≡ ports

time_keeps : (b : Bool) (moment : ℕ) (state : RouterState) → nat_lt state.machines.moment moment ≡ b → Keeps state.ports (turn_of_time moment state)
time_keeps true moment state e = rw e refl
time_keeps false moment state e = rw e tt

refresh_keeps : (b : Bool) (moment : ℕ) (state : RouterState) → (state.refresh == 0) ≡ b → Keeps state.ports (turn_of_refresh moment state)
refresh_keeps true moment state e = rw e refl
refresh_keeps false moment state e = rw e (time_keeps (nat_lt state.machines.moment moment) moment state refl)

timers_keep : (moment : ℕ) (state : RouterState) (o : Option (Fires (List ℕ) × List (Record (List ℕ)))) → Keeps state.ports (turn_of_timers moment state o)
timers_keep moment state None = refresh_keeps (state.refresh == 0) moment state refl
timers_keep moment state (Some (fires.Reached, records)) = refl
timers_keep moment state (Some (fires.Echo port group what, records)) = refl

turn_keeps : (moment : ℕ) (state : RouterState) → Keeps state.ports (turn moment state)
unfolding turn
turn_keeps moment state = by (list_any has_ended state.tables) refl
  where
    by : (b : Bool) → list_any has_ended state.tables ≡ b → Keeps state.ports (turn moment state)
    by true e = rw e refl
    by false e = rw e (timers_keep moment state (fired state.machines.records))

abbrev Answer : Type 0
Answer = Option (Step (List ℕ) × RouterState)

pair_of : (p q : Step (List ℕ) × RouterState) → ◌≡◌ {A = Answer} (Some p) (Some q) → p ≡ q
pair_of p q e = cc

ports_of : (p q : Step (List ℕ) × RouterState) → ◌≡◌ {A = Answer} (Some p) (Some q) → q.1.ports ≡ p.1.ports
ports_of p q e = sym (ap (λ (r : Step (List ℕ) × RouterState). r.1.ports) (pair_of p q e))

on_keeps : (ports : List Port) (o : Outcome) (state : RouterState) (more : RouterState → Answer) (answer : Step (List ℕ)) (after : RouterState) →
    state.ports ≡ ports → Keeps ports o →
    ((next : RouterState) → next.ports ≡ ports → more next ≡ Some (answer, after) → after.ports ≡ ports) →
    run_on o state more ≡ Some (answer, after) → after.ports ≡ ports
on_keeps ports rests state more answer after at kept on e = ports_of (Reached, state) (answer, after) e ∙ at
on_keeps ports (moves next) state more answer after at kept on e = on next kept e
on_keeps ports (stops_with step end) state more answer after at kept on e = ports_of (step, end) (answer, after) e ∙ kept

within_keeps : (turns moment : ℕ) (ports : List Port) (state after : RouterState) (answer : Step (List ℕ)) → state.ports ≡ ports →
    run_within turns moment state ≡ Some (answer, after) → after.ports ≡ ports
unfolding run_within
within_keeps zero moment ports state after answer at e = absurd (no_run e)
  where
    no_run : ◌≡◌ {A = Answer} None (Some (answer, after)) → ⊥
    no_run f = cc
within_keeps (suc turns) moment ports state after answer at e =
    on_keeps ports (turn moment state) state (run_within turns moment) answer after at
    (subst (λ (ps : List Port). Keeps ps (turn moment state)) at (turn_keeps moment state))
    (λ next same more. within_keeps turns moment ports next after answer same more) e

pub runs_keep : (moment : ℕ) (state after : RouterState) (answer : Step (List ℕ)) → Runs moment state answer after → after.ports ≡ state.ports
runs_keep moment state after answer runs = within_keeps runs.turns moment state.ports state after answer refl runs.within

-- ---- runs until nothing is due

pub reached_now : (moment : ℕ) (state after : RouterState) → Runs moment state Reached after → HasReached moment state after
unfolding Reaches first_needed
reached_now moment state after runs = record { reported = []; reaches = runs; none_needed = refl }

pub echo_before : (moment port : ℕ) (group : List ℕ) (what : What (List ℕ)) (state between after : RouterState) →
    Runs moment state (Echo port group what) between → HasReached moment between after → HasReached moment state after
unfolding Reaches first_needed
echo_before moment port group what state between after runs more =
    record { reported = echo port group what ∷ more.reported; reaches = (between, runs, more.reaches); none_needed = more.none_needed }

pub refresh_before : (moment : ℕ) (state between after : RouterState) → Runs moment state Refresh between →
    HasReached moment between after → HasReached moment state after
unfolding Reaches first_needed
refresh_before moment state between after runs more =
    record { reported = refresh ∷ more.reported; reaches = (between, runs, more.reaches); none_needed = more.none_needed }

-- Refreshes on the way, and then what comes behind them
past_before : (refreshes moment : ℕ) (state between after : RouterState) (answer : Step (List ℕ)) → RunsPast refreshes moment state answer between →
    ((earlier : RouterState) → Runs moment earlier answer between → HasReached moment earlier after) → HasReached moment state after
unfolding RunsPast
past_before zero moment state between after answer runs more = more state runs
past_before (suc refreshes) moment state between after answer (next, runs, past) more =
    refresh_before moment state next after runs (past_before refreshes moment next between after answer past more)

not_false : ◌≡◌ {A = Bool} true false → ⊥
not_false e = cc

-- what is told before the moment is reached, and then the way to it
pub onward : {A : Type 0} (bytes_of : A → List ℕ) (step : Fires A) (refreshes moment : ℕ) (state between after : RouterState) →
    is_reached step ≡ false → RunsPast refreshes moment state (fires_behind (fires_seen bytes_of step)) between → HasReached moment between after →
    HasReached moment state after
onward bytes_of fires.Reached refreshes moment state between after ends past more = absurd (not_false ends)
onward bytes_of (fires.Echo port group what) refreshes moment state between after ends past more =
    past_before refreshes moment state between after (Echo port (bytes_of group) (what_seen bytes_of what)) past
    (λ earlier runs. echo_before moment port (bytes_of group) (what_seen bytes_of what) earlier between after runs more)

pub ended : {A : Type 0} (bytes_of : A → List ℕ) (step : Fires A) (refreshes moment : ℕ) (state after : RouterState) →
    is_reached step ≡ true → RunsPast refreshes moment state (fires_behind (fires_seen bytes_of step)) after → HasReached moment state after
ended bytes_of fires.Reached refreshes moment state after ends past =
    past_before refreshes moment state after after Reached past (λ earlier runs. reached_now moment earlier after runs)
ended bytes_of (fires.Echo port group what) refreshes moment state after ends past = absurd (not_false (sym ends))

-- ---- one way after the other

pub joined : (xs ys : List RouterReport) → first_needed (xs ++ ys) ≡ or_later (first_needed xs) (first_needed ys)
unfolding first_needed
joined [] ys = refl
joined (x ∷ xs) ys = ap (or_later (needed_of x)) (joined xs ys) ∙ later (needed_of x) (first_needed xs) (first_needed ys)
  where
    later : (a b c : Option ℕ) → or_later a (or_later b c) ≡ or_later (or_later a b) c
    later None b c = refl
    later (Some n) b c = refl

none_then : (xs ys : List RouterReport) (o : Option ℕ) → first_needed xs ≡ None → first_needed ys ≡ o → first_needed (xs ++ ys) ≡ o
none_then xs ys o none rest = joined xs ys ∙ ap (λ a. or_later a (first_needed ys)) none ∙ rest

some_then : (xs ys : List RouterReport) (needed : ℕ) → first_needed xs ≡ Some needed → first_needed (xs ++ ys) ≡ Some needed
some_then xs ys needed some = joined xs ys ∙ ap (λ a. or_later a (first_needed ys)) some

abbrev Done : Type 0
Done = Result (Unit {0}) MirrorFault

both_passed : (before behind : List RouterReport) (after now : RouterState) (result : Done) → first_needed before ≡ None →
    IsPassed behind after now result → IsPassed (before ++ behind) after now result
both_passed before behind after now (Ok done) none passed = (none_then before behind None none passed.0, passed.1)
both_passed before behind after now (Err (fault.Full needed)) none passed = none_then before behind (Some needed) none passed
both_passed before behind after now (Err fault.Memory) none passed = tt

module _ (goes_on : CourseGoesOn) (every : EveryListHasACourse) (family : AddressFamily) where
  pub then_passes : (earlier later : List Input) (old between now : RouterState) (result : Done) → Passes family earlier old (Ok tt) between →
      Passes family later between result now → Passes family (earlier ++ later) old result now
  then_passes earlier later old between now result a b = record {
    reported = a.reported ++ b.reported;
    after = b.after;
    course = goes_on family earlier later old between b.after a.reported b.reported
        (subst (λ (s : RouterState). IsCourse family earlier a.reported old s) (sym a.passed.1) a.course) b.course;
    passed = both_passed a.reported b.reported b.after now result a.passed.0 b.passed;
  }

  stopped : (before behind : List RouterReport) (after end now : RouterState) (reported : MirrorFault) → IsPassed before after now (Err reported) →
      IsPassed (before ++ behind) end now (Err reported)
  stopped before behind after end now (fault.Full needed) passed = some_then before behind needed passed
  stopped before behind after end now fault.Memory passed = tt

  -- a fault is told, whatever is left
  pub then_stops : (earlier later : List Input) (old now : RouterState) (reported : MirrorFault) → Passes family earlier old (Err reported) now →
      Passes family (earlier ++ later) old (Err reported) now
  then_stops earlier later old now reported a =
      let rest = every family later a.after in record {
        reported = a.reported ++ rest.reported;
        after = rest.after;
        course = goes_on family earlier later old a.after rest.after a.reported rest.reported a.course rest.course;
        passed = stopped a.reported rest.reported a.after rest.after now reported a.passed;
      }

-- of a refusal this says nothing of the state
pub refused_anywhere : (family : AddressFamily) (inputs : List Input) (old now end : RouterState) (reported : MirrorFault) → Passes family inputs old (Err reported) now → Passes family inputs old (Err reported) end
refused_anywhere family inputs old now end (fault.Full needed) a = record { reported = a.reported; after = a.after; course = a.course; passed = a.passed }
refused_anywhere family inputs old now end fault.Memory a = record { reported = a.reported; after = a.after; course = a.course; passed = tt }

-- ---- a run and a packet

pub reached_passes : (family : AddressFamily) (moment : ℕ) (old now : RouterState) → HasReached moment old now →
    Passes family (runs_to moment ∷ []) old (Ok tt) now
unfolding IsCourse
reached_passes family moment old now way = record {
  reported = way.reported;
  after = now;
  course = record {
    before = way.reported;
    behind = [];
    between = now;
    joined = sym (append-nil way.reported);
    begins = way.reaches;
    goes_on = (refl, refl);
  };
  passed = (way.none_needed, refl);
}

-- what a call tells of a packet is what the course tells
linked : (given : Verdict) (o : Option ℕ) (after now : RouterState) → needed_by given ≡ o → now ≡ after →
    IsPassed (verdict given ∷ []) after now (outcome_if o)
unfolding first_needed
linked given None after now none same = (ap (λ o. or_later o None) none, same)
linked given (Some needed) after now some same = ap (λ o. or_later o None) some

taken_by : {E : Type 0} (family : AddressFamily) (packet : Packet) (old now : RouterState) (r : Result Verdict E) →
    Receives (causes family packet old) (received family packet old) old r now →
    IsPassed (verdict (received family packet old).0 ∷ []) (received family packet old).1 now (outcome_of r)
taken_by family packet old now (Ok given) is =
    subst (λ (end : Verdict × RouterState). IsPassed (verdict end.0 ∷ []) end.1 now (outcome_if (needed_by given))) is
    (linked given (needed_by given) now now refl refl)
taken_by family packet old now (Err refused) is = tt

pub taken : {E : Type 0} (family : AddressFamily) (packet : Packet) (old now : RouterState) (of_packet : Result Verdict E) (result : Done) →
    Receives (causes family packet old) (received family packet old) old of_packet now → result ≡ outcome_of of_packet →
    Passes family (takes packet ∷ []) old result now
unfolding IsCourse
taken family packet old now of_packet result receives same = record {
  reported = verdict (received family packet old).0 ∷ [];
  after = (received family packet old).1;
  course = record {
    before = verdict (received family packet old).0 ∷ [];
    behind = [];
    between = (received family packet old).1;
    joined = refl;
    begins = (refl, refl);
    goes_on = (refl, refl);
  };
  passed = subst (λ (r : Done). IsPassed (verdict (received family packet old).0 ∷ []) (received family packet old).1 now r) (sym same)
      (taken_by family packet old now of_packet receives);
}

pub taken_keeps : {E : Type 0} (family : AddressFamily) (packet : Packet) (old now : RouterState) (of_packet : Result Verdict E) →
    Receives (causes family packet old) (received family packet old) old of_packet now → now.ports ≡ old.ports
taken_keeps family packet old now (Ok given) is =
    ap (λ (end : Verdict × RouterState). end.1.ports) is ∙ received_keeps family packet old
taken_keeps family packet old now (Err refused) is = ap (λ (s : RouterState). s.ports) is.1

-- nothing to pass, passed
pub nothing_passes : (family : AddressFamily) (state : RouterState) → Passes family [] state (Ok tt) state
unfolding IsCourse first_needed
nothing_passes family state = record { reported = []; after = state; course = (refl, refl); passed = (refl, refl) }
