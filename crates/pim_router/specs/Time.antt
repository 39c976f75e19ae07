-- How time acts on a router: a machine that counts milliseconds over neighbours (RFC 7761, 4.3.2),
-- downstream machines (4.5) and refreshes (4.11). Times are countdowns; one at 0 is due. The
-- neighbour tables are at the moment of the machines.
use Rattle.std.specs.Prelude.{◌≡◌, ℕ, zero, suc, ◌+◌, ◌-◌, ◌*◌, ◌==◌, Bool, true, false, nat_lt, if◌then◌else◌}
use Rattle.std.specs.Prelude.{List, map, Option, None, Some}
use Rattle.std.specs.List.{list_any}
use Rattle.pim_hello.specs.Neighbours.{Neighbour, Table, is_over, without_ended, passed_to}
use Rattle.pim_down.specs.declared.machines.machine.Record.{Record}
use Rattle.pim_down.specs.declared.machines.step.Step.{Step as Fires}
use Rattle.pim_down.specs.declared.machines.step.Step.TheVariants as fires
use Rattle.pim_down.specs.Ends.{weight}
use Rattle.pim_down.specs.Time.{fired, with_records, tick as machines_tick}
use Rattle.pim_router.specs.declared.step.Step.{Step}
use Rattle.pim_router.specs.declared.step.Step.TheVariants.{Echo, Refresh, Reached}
use Rattle.pim_router.specs.State.{RouterState, with_machines, with_tables, with_refresh, refresh_period}

-- Some neighbour of the port has no time left.
abbrev pub has_ended : Table → Bool
has_ended table = list_any (λ (entry : List ℕ × Neighbour). is_over entry.1.left) table.entries

-- One millisecond passes: every countdown falls by 1.
abbrev pub tick : RouterState → RouterState
tick state = record {
  ports = state.ports;
  routes = state.routes;
  machines = machines_tick state.machines;
  tables = map (passed_to (state.machines.moment + 1)) state.tables;
  refresh = state.refresh - 1;
}

-- The outcome of a turn: nothing is left to do, or the router goes on, or the run stops at an echo
-- or a refresh.
pub data Outcome : Type 0 where
  rests : Outcome
  moves : RouterState → Outcome
  stops_with : Step (List ℕ) → RouterState → Outcome

-- The outcome where a timer of the machines fired: a PruneEcho stops the run, anything else lets it
-- go on.
abbrev pub reported : Fires (List ℕ) → RouterState → Outcome
reported fires.Reached state = moves state
reported (fires.Echo port group what) state = stops_with (Echo port group what) state

-- A millisecond passes, unless the moment is reached.
abbrev pub turn_of_time : ℕ → RouterState → Outcome
turn_of_time moment state = if nat_lt state.machines.moment moment then moves (tick state) else rests

-- A refresh stops the run where its countdown is over, and the next one comes t_periodic later (RFC
-- 7761, 4.11); else time passes.
abbrev pub turn_of_refresh : ℕ → RouterState → Outcome
turn_of_refresh moment state =
    if state.refresh == 0 then stops_with Refresh (with_refresh state refresh_period) else turn_of_time moment state

-- The first due timer of the machines fires; without one, the refresh and time follow.
abbrev pub turn_of_timers : ℕ → RouterState → Option (Fires (List ℕ) × List (Record (List ℕ))) → Outcome
turn_of_timers moment state None = turn_of_refresh moment state
turn_of_timers moment state (Some (answer, records)) =
    reported answer (with_machines state (with_records state.machines records))

-- One turn up to a moment. Within a millisecond neighbours whose time is over go first. Then
-- Prune-Pending Timers fire in key order, then Expiry Timers in key order (RFC 7761, 4.5), then the
-- refresh.
unfoldable pub turn : ℕ → RouterState → Outcome
turn moment state =
    if list_any has_ended state.tables then moves (with_tables state (map without_ended state.tables))
    else turn_of_timers moment state (fired state.machines.records)

-- How a run goes on after the outcome of a turn.
abbrev pub run_on : Outcome → RouterState → (RouterState → Option (Step (List ℕ) × RouterState)) →
    Option (Step (List ℕ) × RouterState)
run_on rests state more = Some (Reached, state)
run_on (stops_with step after) state more = Some (step, after)
run_on (moves after) state more = more after

-- The end of a run up to a moment, where at most `turns` turns lead to it; `None` where they don't.
unfoldable pub run_within : ℕ → ℕ → RouterState → Option (Step (List ℕ) × RouterState)
run_within zero moment state = None
run_within (suc turns) moment state = run_on (turn moment state) state (run_within turns moment)

-- The run up to the moment ends with this step and leaves this state: at the first echo or refresh,
-- or where nothing is due and the moment is reached.
pub record Runs (moment : ℕ) (state : RouterState) (answer : Step (List ℕ)) (after : RouterState) : Type 0 where
  pub turns : ℕ
  pub within : run_within turns moment state ≡ Some (answer, after)

-- ---- the distance to a moment

-- 1 where it is true, else 0.
abbrev pub one_if : Bool → ℕ
one_if true = 1
one_if false = 0

-- A bound on the turns that lead to the moment: three for each millisecond, and one for each thing
-- that is due or timer that may fire. It falls with each run that stops early, so a loop of runs
-- ends.
unfoldable pub turns_left : ℕ → RouterState → ℕ
turns_left moment state =
    3 * (moment - state.machines.moment) + one_if (list_any has_ended state.tables) + one_if (state.refresh == 0)
    + weight state.machines.records
