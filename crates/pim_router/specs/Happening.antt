-- What happens to a router as time passes, turn by turn as in `Time`: neighbours go whose time is
-- over (RFC 7761, 4.3.2), and timers of the machines fire (4.5). A PruneEcho or a refresh stops
-- nothing here, and nothing happens in a turn in which a millisecond passes or a refresh comes.
use Rattle.std.specs.Prelude.{◌≡◌, ℕ, zero, suc, ◌+◌, ◌-◌, if◌then◌else◌}
use Rattle.std.specs.Prelude.{List, [], ◌∷◌, ◌++◌, map, filter, Option, None, Some}
use Rattle.std.specs.List.{list_any}
use Rattle.pim_hello.specs.Neighbours.{Neighbour, Table, is_over, without_ended, passed_to, sooner, next_end}
use Rattle.pim_down.specs.declared.machines.machine.Record.{Record}
use Rattle.pim_down.specs.declared.machines.step.Firing.{Firing}
use Rattle.pim_down.specs.Firing.{firing}
use Rattle.pim_router.specs.declared.step.Step.{Step}
use Rattle.pim_router.specs.declared.step.Step.TheVariants.{Reached}
use Rattle.pim_router.specs.State.{RouterState}
use Rattle.pim_router.specs.Time.{Outcome, rests, moves, stops_with, has_ended, turn}

-- The time of a neighbour of a port is over, or a timer of the machines fires.
pub data Happening : Type 0 where
  timed_out : ℕ → List ℕ → Happening
  timer_fired : Firing (List ℕ) → Happening

-- ---- a turn

-- The neighbours of a port whose time is over, by address.
abbrev pub gone_of : ℕ → Table → List Happening
gone_of port table =
    map (λ (entry : List ℕ × Neighbour). timed_out port entry.0)
    (filter (λ (entry : List ℕ × Neighbour). is_over entry.1.left) table.entries)

-- The neighbours whose time is over, by port, then by address. The first table is that of the port
-- with this number.
unfoldable pub gone_from : ℕ → List Table → List Happening
gone_from port [] = []
gone_from port (table ∷ tables) = gone_of port table ++ gone_from (port + 1) tables

-- The firing, if there is one.
abbrev pub fired_of : Option (Firing (List ℕ) × List (Record (List ℕ))) → List Happening
fired_of None = []
fired_of (Some (reported, records)) = timer_fired reported ∷ []

-- What happens in the next turn, at the present moment.
unfoldable pub happens_in : RouterState → List Happening
happens_in state =
    if list_any has_ended state.tables then gone_from 0 state.tables else fired_of (firing state.machines.records)

-- The state after a turn, whether it reports something or not; `None` where nothing is left to do.
abbrev pub next_of : Outcome → Option RouterState
next_of rests = None
next_of (moves after) = Some after
next_of (stops_with step after) = Some after

-- ---- turn by turn

-- All of these at one moment.
abbrev pub at_moment : ℕ → List Happening → List (ℕ × Happening)
at_moment moment happenings = map (λ (happening : Happening). (moment, happening)) happenings

-- What happened first, and then what happens afterwards.
abbrev pub happens_then : List (ℕ × Happening) → Option (List (ℕ × Happening) × RouterState) →
    Option (List (ℕ × Happening) × RouterState)
happens_then first None = None
happens_then first (Some (more, after)) = Some (first ++ more, after)

-- How it goes on after a turn.
abbrev pub pass_on : Option RouterState → List (ℕ × Happening) →
    (RouterState → Option (List (ℕ × Happening) × RouterState)) → Option (List (ℕ × Happening) × RouterState)
pass_on None first more = None
pass_on (Some next) first more = happens_then first (more next)

-- What happens in this number of turns up to a moment, each thing with its moment, and the state
-- after them. `None` where nothing is left to do before.
unfoldable pub in_turns : ℕ → ℕ → RouterState → Option (List (ℕ × Happening) × RouterState)
in_turns zero moment state = Some ([], state)
in_turns (suc turns) moment state =
    pass_on (next_of (turn moment state)) (at_moment state.machines.moment (happens_in state)) (in_turns turns moment)

-- Some turns up to the moment lead from `state` to `after`, and this happens in them.
pub record Passes (moment : ℕ) (state : RouterState) (reported : List (ℕ × Happening)) (after : RouterState) : Type 0 where
  pub turns : ℕ
  pub passed : in_turns turns moment state ≡ Some (reported, after)

-- All turns up to the moment lead from `state` to `after`, where nothing is left to do, and this
-- happens in them.
pub record Happens (moment : ℕ) (state : RouterState) (reported : List (ℕ × Happening)) (after : RouterState) : Type 0 where
  pub passes : Passes moment state reported after
  pub ends : turn moment after ≡ rests

-- A list of all that happens from the state up to the moment, with the state then.
pub record HasHappened (moment : ℕ) (state : RouterState) : Type 0 where
  pub reported : List (ℕ × Happening)
  pub after : RouterState
  pub happens : Happens moment state reported after

-- Some turns up to the moment lead from `state` to `after`. If they end as `Reached`, nothing is
-- left to do there.
pub record HasPassed (moment : ℕ) (state : RouterState) (answer : Step (List ℕ)) (after : RouterState) : Type 0 where
  pub reported : List (ℕ × Happening)
  pub passes : Passes moment state reported after
  pub ends : answer ≡ Reached → turn moment after ≡ rests

-- ---- up to the first timer that fires

-- The neighbours that go at this moment and in this number of milliseconds after it. The tables are
-- at this moment.
unfoldable pub gone_within : ℕ → ℕ → List Table → List (ℕ × Happening)
gone_within zero moment tables = at_moment moment (gone_from 0 tables)
gone_within (suc passed) moment tables =
    at_moment moment (gone_from 0 tables)
    ++ gone_within passed (moment + 1) (map (passed_to (moment + 1)) (map without_ended tables))

-- The neighbours that go between two states, up to and with the moment of the later one.
abbrev pub gone_between : RouterState → RouterState → List (ℕ × Happening)
gone_between state after =
    gone_within (after.machines.moment - state.machines.moment) state.machines.moment state.tables

-- In some turns up to the moment neighbours go, and nothing else happens. In the one turn after
-- them this timer fires, which leaves the state `after`.
pub record FiresAfter (moment : ℕ) (state : RouterState) (reported : Firing (List ℕ)) (after : RouterState) : Type 0 where
  pub before : RouterState
  pub passes : Passes moment state (gone_between state after) before
  pub fires : in_turns 1 moment before ≡ Some ((after.machines.moment, timer_fired reported) ∷ [], after)

-- What passes up to a moment, or until one timer of the machines has fired. `None`: all turns up to
-- the moment, in which neighbours go and nothing else happens. Otherwise the turns up to the first
-- one in which a timer fires.
abbrev pub FiresTo : ℕ → RouterState → Option (Firing (List ℕ)) → RouterState → Type 0
FiresTo moment state None after = Happens moment state (gone_between state after) after
FiresTo moment state (Some reported) after = FiresAfter moment state reported after

-- ---- the next neighbour whose time is over

-- The first moment, from the present one on, at which the time of a neighbour is over; `None` if
-- none's ever is.
unfoldable pub first_timeout : List Table → Option ℕ
first_timeout [] = None
first_timeout (table ∷ tables) = sooner (next_end table) (first_timeout tables)

-- The first moment whose refresh hasn't passed where a run stopped at `moment`. A timer fires
-- before the refresh of its millisecond; else it is the next moment.
abbrev pub first_unpassed : {A : Type 0} → Option (Firing A) → ℕ → ℕ
first_unpassed (Some reported) moment = moment
first_unpassed None moment = moment + 1
