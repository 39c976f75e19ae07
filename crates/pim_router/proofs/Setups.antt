-- What a router was made from stays as it is.
use Rattle.pim_router.proofs.Words.{◌≡◌, ◌∙◌, ℕ, zero, suc, ◌==◌, Bool, true, false, List, [], ◌∷◌, Option, Some, None, Result}
use Rattle.pim_router.proofs.Words.{Ok, Err, nat_lt, if◌then◌else◌, refl, sym, ap, list_any, AddressFamily, Record, fired, Step}
use Rattle.pim_router.proofs.Words.{Verdict, RouterState, setup_of, Receives, unless, Reading, read_hello, read_message}
use Rattle.pim_router.proofs.Words.{read_other, read_fault, read_causes, read_taken, read_received, Outcome, rests, moves}
use Rattle.pim_router.proofs.Words.{stops_with, has_ended, reported, turn, turn_of_timers, turn_of_time, run_on, run_within, Runs}
use Rattle.std.specs.Bool.{⊤}
use Rattle.pim_down.specs.declared.machines.step.Step.{Step as Fires}
use Rattle.pim_down.specs.declared.machines.step.Step.TheVariants as fires
use Rattle.pim_router.proofs.Runs.{Answer, pair_of, no_run}

-- ---- a packet

taken_keeps : (family : AddressFamily) (port : ℕ) (source : List ℕ) (state : RouterState) (reading : Reading) →
    setup_of (read_taken family port source state reading).1 ≡ setup_of state
taken_keeps family port source state (read_hello said) = refl
taken_keeps family port source state (read_message message) = refl
taken_keeps family port source state (read_other type) = refl
taken_keeps family port source state (read_fault fault) = refl

unless_keeps : (reported : List Verdict) (state : RouterState) (taken : Verdict × RouterState) → setup_of taken.1 ≡ setup_of state →
    setup_of (unless reported state taken).1 ≡ setup_of state
unless_keeps [] state taken keeps = keeps
unless_keeps (cause ∷ others) state taken keeps = refl

receives_keep : {E : Type 0} (reported : List Verdict) (end : Verdict × RouterState) (old : RouterState) (result : Result Verdict E)
    (new : RouterState) → setup_of end.1 ≡ setup_of old → Receives reported end old result new → setup_of new ≡ setup_of old
receives_keep reported end old (Ok verdict) new keeps ends = ap (λ (x : Verdict × RouterState). setup_of x.1) ends ∙ keeps
receives_keep reported end old (Err refused) new keeps ends = ap setup_of ends.1

pub reading_keeps : {E : Type 0} (family : AddressFamily) (port : ℕ) (source : List ℕ) (old : RouterState) (reading : Reading)
    (result : Result Verdict E) (new : RouterState) →
    Receives (read_causes family port source old reading) (read_received family port source old reading) old result new →
    setup_of new ≡ setup_of old
reading_keeps family port source old reading result new ends =
    receives_keep (read_causes family port source old reading) (read_received family port source old reading) old result new
    (unless_keeps (read_causes family port source old reading) old (read_taken family port source old reading)
    (taken_keeps family port source old reading))
    ends

-- ---- time

abbrev Keeps : RouterState → Outcome → Type 0
Keeps state rests = ⊤
Keeps state (moves next) = setup_of next ≡ setup_of state
Keeps state (stops_with step after) = setup_of after ≡ setup_of state

module _ (moment : ℕ) (state : RouterState) where
  either_keeps : (test : Bool) (first second : Outcome) → Keeps state first → Keeps state second → Keeps state (if test then first else second)
  either_keeps true first second x y = x
  either_keeps false first second x y = y

  told_keeps : (answer : Fires (List ℕ)) (after : RouterState) → setup_of after ≡ setup_of state → Keeps state (reported answer after)
  told_keeps fires.Reached after keeps = keeps
  told_keeps (fires.Echo port group what) after keeps = keeps

  timers_keep : (fire : Option (Fires (List ℕ) × List (Record (List ℕ)))) → Keeps state (turn_of_timers moment state fire)
  timers_keep None =
      either_keeps (state.refresh == 0) _ (turn_of_time moment state) refl
      (either_keeps (nat_lt state.machines.moment moment) _ rests refl tt)
  timers_keep (Some fire) = told_keeps fire.0 _ refl

  turn_keeps : Keeps state (turn moment state)
  unfolding turn
  turn_keeps =
      either_keeps (list_any has_ended state.tables) _ (turn_of_timers moment state (fired state.machines.records)) refl
      (timers_keep (fired state.machines.records))

ends_of : (step answer : Step (List ℕ)) (end after : RouterState) → ◌≡◌ {A = Answer} (Some (step, end)) (Some (answer, after)) →
    after ≡ end
ends_of step answer end after e = ap (λ (x : Step (List ℕ) × RouterState). x.1) (sym (pair_of step answer end after e))

on_keeps : (state after : RouterState) (answer : Step (List ℕ)) (outcome : Outcome) (more : RouterState → Answer) →
    Keeps state outcome → ((next : RouterState) → more next ≡ Some (answer, after) → setup_of after ≡ setup_of next) →
    run_on outcome state more ≡ Some (answer, after) → setup_of after ≡ setup_of state
on_keeps state after answer rests more keeps later is = ap setup_of (ends_of _ answer state after is)
on_keeps state after answer (moves next) more keeps later is = later next is ∙ keeps
on_keeps state after answer (stops_with step end) more keeps later is = ap setup_of (ends_of step answer end after is) ∙ keeps

within_keeps : (turns moment : ℕ) (state after : RouterState) (answer : Step (List ℕ)) →
    run_within turns moment state ≡ Some (answer, after) → setup_of after ≡ setup_of state
unfolding run_within
within_keeps zero moment state after answer is = absurd (no_run answer after is)
within_keeps (suc turns) moment state after answer is =
    on_keeps state after answer (turn moment state) (run_within turns moment) (turn_keeps moment state)
    (λ next later. within_keeps turns moment next after answer later) is

pub run_keeps : (moment : ℕ) (state after : RouterState) (answer : Step (List ℕ)) → Runs moment state answer after →
    setup_of after ≡ setup_of state
run_keeps moment state after answer run = within_keeps run.turns moment state after answer run.within
