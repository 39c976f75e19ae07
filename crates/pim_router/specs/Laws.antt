-- The statements of the laws in `src/laws.rt`.
use Rattle.std.specs.Prelude.{◌≡◌, ◌≢◌, ◌<◌, ◌≤◌, ◌+◌, ◌-◌, ℕ, false}
use Rattle.std.specs.Prelude.{List, [], ◌∷◌, ◌++◌, map, Some}
use Rattle.pim_addr.specs.declared.family.AddressFamily.{AddressFamily}
use Rattle.pim_router.specs.declared.step.Step.{Step}
use Rattle.pim_router.specs.declared.step.Step.TheVariants.{Reached}
use Rattle.pim_router.specs.Course.{Input, RouterReport, IsCourse, HasCourse}
use Rattle.pim_down.specs.declared.machines.step.Firing.{Firing}
use Rattle.pim_hello.specs.Laws.{comes_by}
use Rattle.pim_hello.specs.Neighbours.{passed_to}
use Rattle.pim_router.specs.Happening.{Happening, timer_fired, Passes, Happens, FiresAfter, gone_between, gone_within}
use Rattle.pim_router.specs.Happening.{HasHappened, HasPassed, at_moment, gone_from, first_timeout}
use Rattle.pim_router.specs.Refreshes.{RunsPast}
use Rattle.pim_router.specs.Sound.{IsRouter}
use Rattle.pim_router.specs.State.{RouterState}
use Rattle.pim_router.specs.Time.{Runs, turns_left}

-- A run up to a moment has at most one end: its step and its state are determined.
abbrev pub RunHasOneEnd : Type 0
RunHasOneEnd = (moment : ℕ) (state after other : RouterState) (answer reported : Step (List ℕ)) →
    Runs moment state answer after → Runs moment state reported other → (answer ≡ reported) × (after ≡ other)

-- A run that reaches a moment, and then a run up to a later one, are one run up to the later
-- moment.
abbrev pub RunGoesOn : Type 0
RunGoesOn = (earlier later : ℕ) (state middle after : RouterState) (answer : Step (List ℕ)) → earlier ≤ later →
    Runs earlier state Reached middle → Runs later middle answer after → Runs later state answer after

-- A run that stops at an echo or a refresh lowers `turns_left`.
abbrev pub RunsComeNearer : Type 0
RunsComeNearer = (moment : ℕ) (state after : RouterState) (answer : Step (List ℕ)) →
    Runs moment state answer after → answer ≢ Reached → turns_left moment after < turns_left moment state

-- The reports and the final state of a course are determined by the inputs and the first state.
abbrev pub CourseHasOneEnd : Type 0
CourseHasOneEnd = (family : AddressFamily) (inputs : List Input) (state after other : RouterState)
    (reported said : List RouterReport) → IsCourse family inputs reported state after → IsCourse family inputs said state other →
    (reported ≡ said) × (after ≡ other)

-- A course over one list and then a course over another are one course over both lists joined.
abbrev pub CourseGoesOn : Type 0
CourseGoesOn = (family : AddressFamily) (earlier later : List Input) (state between after : RouterState)
    (reported more : List RouterReport) → IsCourse family earlier reported state between → IsCourse family later more between after →
    IsCourse family (earlier ++ later) (reported ++ more) state after

-- From every state there is a course over every list of inputs.
abbrev pub EveryListHasACourse : Type 0
EveryListHasACourse = (family : AddressFamily) (inputs : List Input) (state : RouterState) →
    HasCourse family inputs state

-- ---- what happens, turn by turn

-- Turns up to a moment, and then turns up to a later one, are turns up to the later one. What
-- happens in them follows one after the other.
abbrev pub PassingGoesOn : Type 0
PassingGoesOn = (earlier later : ℕ) (state between after : RouterState) (reported more : List (ℕ × Happening)) →
    earlier ≤ later → Passes earlier state reported between → Passes later between more after →
    Passes later state (reported ++ more) after

-- Whatever happens up to a later moment after some turns happens after what happened in these.
abbrev pub HappeningGoesOn : Type 0
HappeningGoesOn = (earlier later : ℕ) (state between after : RouterState) (reported more : List (ℕ × Happening)) →
    earlier ≤ later → Passes earlier state reported between → Happens later between more after →
    Happens later state (reported ++ more) after

-- What happens up to a moment, and the state then, are determined.
abbrev pub HappeningHasOneEnd : Type 0
HappeningHasOneEnd = (moment : ℕ) (state after other : RouterState) (reported said : List (ℕ × Happening)) →
    Happens moment state reported after → Happens moment state said other → (reported ≡ said) × (after ≡ other)

-- From every state there is a list of what happens up to every moment.
abbrev pub EveryStateGoesOn : Type 0
EveryStateGoesOn = (moment : ℕ) (state : RouterState) → HasHappened moment state

-- A run past refreshes is a number of such turns. So what happens up to a moment leads to the state
-- to which the runs up to it lead.
abbrev pub RunsPastAreTurns : Type 0
RunsPastAreTurns = (refreshes moment : ℕ) (state after : RouterState) (answer : Step (List ℕ)) →
    RunsPast refreshes moment state answer after → HasPassed moment state answer after

-- Up to the first timer that fires, neighbours go, and then the timer fires.
abbrev pub FiringPasses : Type 0
FiringPasses = (moment : ℕ) (state after : RouterState) (reported : Firing (List ℕ)) → FiresAfter moment state reported after →
    Passes moment state (gone_between state after ++ (after.machines.moment, timer_fired reported) ∷ []) after

-- No neighbour goes before `first_timeout`.
abbrev pub NobodyGoesBeforeFirstTimeout : Type 0
NobodyGoesBeforeFirstTimeout = (state : RouterState) (passed : ℕ) → IsRouter state →
    comes_by (state.machines.moment + passed) (first_timeout state.tables) ≡ false →
    gone_within passed state.machines.moment state.tables ≡ []

-- `first_timeout` is later than the present moment. Until then exactly the neighbours go whose time
-- is over at that moment.
abbrev pub TheEndedGoAtFirstTimeout : Type 0
TheEndedGoAtFirstTimeout = (state : RouterState) (moment : ℕ) → IsRouter state →
    first_timeout state.tables ≡ Some moment → (state.machines.moment < moment)
    × (gone_within (moment - state.machines.moment) state.machines.moment state.tables ≡
    at_moment moment (gone_from 0 (map (passed_to moment) state.tables)))
