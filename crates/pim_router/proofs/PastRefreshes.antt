-- A run that goes on past its Refreshes, in terms of what the code keeps: one run of the machines up to the moment, and
-- arithmetic.
use Rattle.pim_router.proofs.Words.{◌≡◌, ◌≢◌, ◌∙◌, ◌<◌, ◌≤◌, ℕ, zero, suc, ◌+◌, ◌-◌, ◌*◌, Bool, true, false, List, map}
use Rattle.pim_router.proofs.Words.{Option, Some, None, min, max, nat_lt, refl, sym, ap, subst, arith, le-ltb, ltb-true}
use Rattle.pim_router.proofs.Words.{ltb-false, ne_eqb, RouteTable, Table, expired_at, ExpiringTwiceIsExpiringOnce, What}
use Rattle.pim_router.proofs.Words.{Record, Downstream, fired, with_records, PortConfig, Step, Echo, Refresh, Reached}
use Rattle.pim_router.proofs.Words.{RunsComeNearer, RunsPast, fires_behind, first_unreported, port_seen, router_seen}
use Rattle.pim_router.proofs.Words.{IsRouter, Port, RouterState, setup_of, with_refresh, Runs, turns_left}
use Rattle.pim_down.specs.declared.machines.step.Step.{Step as Fires}
use Rattle.pim_down.specs.declared.machines.step.Step.TheVariants as fires
use Rattle.pim_down.specs.Seen.{step_seen as fires_seen}
use Rattle.pim_down.specs.Time as down
use Rattle.pim_router.proofs.Passing.{quiet_turn, passes, fires_on, echoes_on, current_at_start}
use Rattle.pim_router.proofs.RunTo.{sound_again}
use Rattle.pim_router.proofs.Runs.{run_tells, run_rests}
use Rattle.pim_router.proofs.Setups.{run_keeps}

-- ---- runs that go past Refreshes

-- What leads from a state to another leads there past Refreshes, too.
past_more : (refreshes moment : ℕ) (state next after : RouterState) (answer : Step (List ℕ)) →
    ((reported : Step (List ℕ)) (end : RouterState) → Runs moment next reported end → Runs moment state reported end) →
    RunsPast refreshes moment next answer after → RunsPast refreshes moment state answer after
unfolding RunsPast
past_more zero moment state next after answer lead runs = lead answer after runs
past_more (suc refreshes) moment state next after answer lead (between, runs, more) = (between, lead Refresh between runs, more)

pub past_keeps : (refreshes moment : ℕ) (state after : RouterState) (answer : Step (List ℕ)) →
    RunsPast refreshes moment state answer after → setup_of after ≡ setup_of state
unfolding RunsPast
past_keeps zero moment state after answer runs = run_keeps moment state after answer runs
past_keeps (suc refreshes) moment state after answer (between, runs, more) =
    past_keeps refreshes moment between after answer more ∙ run_keeps moment state between Refresh runs

not_reached : ◌≡◌ {A = Step (List ℕ)} Refresh Reached → ⊥
not_reached e = cc

pub past_nearer : RunsComeNearer → (refreshes moment : ℕ) (state after : RouterState) (answer : Step (List ℕ)) →
    RunsPast refreshes moment state answer after → answer ≢ Reached → turns_left moment after < turns_left moment state
unfolding RunsPast
past_nearer nearer zero moment state after answer runs goes = nearer moment state after answer runs goes
past_nearer nearer (suc refreshes) moment state after answer (between, runs, more) goes =
    let first = nearer moment state between Refresh runs not_reached in
    let rest = past_nearer nearer refreshes moment between after answer more goes in
    omega (arith, first, rest)

-- what is told as reached is reached
pub seen_behind : {A : Type 0} (bytes_of : A → List ℕ) (step : Fires A) → fires_behind (fires_seen bytes_of step) ≡ Reached → step ≡ fires.Reached
seen_behind bytes_of (fires.Echo port group what) e = cc
seen_behind bytes_of fires.Reached e = refl

untold_seen : {A : Type 0} (bytes_of : A → List ℕ) (step : Fires A) (moment : ℕ) → first_unreported (fires_seen bytes_of step) moment ≡ first_unreported step moment
untold_seen bytes_of (fires.Echo port group what) moment = refl
untold_seen bytes_of fires.Reached moment = refl

-- ---- a run of the machines

at_least : (step : Fires (List ℕ)) (moment : ℕ) → moment ≤ first_unreported step moment
at_least (fires.Echo port group what) moment = omega arith
at_least fires.Reached moment = omega arith

at_most : (step : Fires (List ℕ)) (moment : ℕ) → first_unreported step moment ≤ moment + 1
at_most (fires.Echo port group what) moment = omega arith
at_most fires.Reached moment = omega arith

abbrev MachinesEnd : Type 0
MachinesEnd = Option (Fires (List ℕ) × Downstream)

machines_pair : (reported answer : Fires (List ℕ)) (end after : Downstream) → ◌≡◌ {A = MachinesEnd} (Some (reported, end)) (Some (answer, after)) →
    ◌≡◌ {A = Fires (List ℕ) × Downstream} (reported, end) (answer, after)
machines_pair reported answer end after e = cc

machines_none : (answer : Fires (List ℕ)) (after : Downstream) → ◌≡◌ {A = MachinesEnd} None (Some (answer, after)) → ⊥
machines_none answer after e = cc

module _ (twice : ExpiringTwiceIsExpiringOnce) (ports : List Port) (routes : RouteTable) (start : List Table) (moment : ℕ) where
  -- the router with these machines, whose next Refresh comes at this moment
  abbrev at : ℕ → Downstream → RouterState
  at next machines = record {
    ports = ports;
    routes = routes;
    machines = machines;
    tables = map (expired_at machines.moment) start;
    refresh = next - machines.moment;
  }

  -- a run of the machines is one of the router past so many Refreshes: those before the first one that isn't told
  record Past (next : ℕ) (machines : Downstream) (answer : Fires (List ℕ)) (after : Downstream) : Type 0 where
    refreshes : ℕ
    later : machines.moment ≤ after.moment
    all : first_unreported answer after.moment ≤ next + 60000 * refreshes
    no_more : next + 60000 * refreshes < max (first_unreported answer after.moment) next + 60000
    runs : RunsPast refreshes moment (at next machines) (fires_behind answer) (at (next + 60000 * refreshes) after)

  -- ---- at a Refresh

  due_run : (next : ℕ) (machines : Downstream) → fired machines.records ≡ None → next ≡ machines.moment →
      Runs moment (at next machines) Refresh (at (next + 60000) machines)
  due_run next machines quiet due =
      let over : next - machines.moment ≡ 0 = omega (arith, due) in
      let later : 60000 ≡ next + 60000 - machines.moment = omega (arith, due) in
      subst (λ (refresh : ℕ). Runs moment (at next machines) Refresh (with_refresh (at next machines) refresh)) later
      (run_tells moment (at next machines) (with_refresh (at next machines) 60000) Refresh
      (quiet_turn twice ports routes start next moment 0 (omega arith) (omega arith) machines ∙ rw (quiet, over) refl))

  refreshed : (next : ℕ) (machines after : Downstream) (answer : Fires (List ℕ)) → fired machines.records ≡ None → next ≡ machines.moment →
      next < first_unreported answer after.moment → Past (next + 60000) machines answer after → Past next machines answer after
  unfolding RunsPast
  refreshed next machines after answer quiet due goes p =
      let same : next + 60000 + 60000 * p.refreshes ≡ next + 60000 * suc p.refreshes = omega arith in
      record {
        refreshes = suc p.refreshes;
        later = p.later;
        all = omega (arith, p.all);
        no_more = omega (arith, p.no_more, goes);
        runs = subst (λ n. RunsPast (suc p.refreshes) moment (at next machines) (fires_behind answer) (at n after)) same
            (at (next + 60000) machines, due_run next machines quiet due, p.runs);
      }

  -- ---- between Refreshes

  resting : (next : ℕ) (machines : Downstream) → fired machines.records ≡ None → machines.moment < next → moment ≤ machines.moment →
      Past next machines fires.Reached machines
  unfolding RunsPast
  resting next machines quiet before there =
      let apart : next - machines.moment ≢ 0 = omega (arith, before) in
      let same : next ≡ next + 60000 * 0 = omega arith in
      record {
        refreshes = 0;
        later = omega arith;
        all = omega (arith, before);
        no_more = omega arith;
        runs = subst (λ n. RunsPast 0 moment (at next machines) Reached (at n machines)) same
            (run_rests moment (at next machines)
            (quiet_turn twice ports routes start next moment 0 (omega arith) (omega arith) machines
            ∙ rw (quiet, ne_eqb (next - machines.moment) 0 apart, le-ltb machines.moment moment there) refl));
      }

  ends : (next : ℕ) (machines : Downstream) (b : Bool) → nat_lt machines.moment next ≡ b → machines.moment ≤ next →
      fired machines.records ≡ None → moment ≤ machines.moment → Past next machines fires.Reached machines
  ends next machines true is bound quiet there = resting next machines quiet (ltb-true machines.moment next is) there
  ends next machines false is bound quiet there =
      let over : next ≤ machines.moment = ltb-false machines.moment next is in
      refreshed next machines machines fires.Reached quiet (omega (arith, bound, over)) (omega (arith, bound))
      (resting (next + 60000) machines quiet (omega (arith, bound)) there)

  ticks : (next : ℕ) (machines after : Downstream) (answer : Fires (List ℕ)) → fired machines.records ≡ None → machines.moment < moment →
      machines.moment < next → Past next (down.tick machines) answer after → Past next machines answer after
  ticks next machines after answer quiet soon before p = record {
    refreshes = p.refreshes;
    later = omega (arith, p.later);
    all = p.all;
    no_more = p.no_more;
    runs = past_more p.refreshes moment (at next machines) (at next (down.tick machines)) (at (next + 60000 * p.refreshes) after) (fires_behind answer)
        (λ reported end more. passes twice ports routes start next moment (machines.moment + 1) (omega (arith, before)) (omega (arith, soon)) machines reported end quiet (omega arith) more)
        p.runs;
  }

  -- a millisecond that passes, behind a Refresh where one is due
  passed : (next : ℕ) (machines after : Downstream) (answer : Fires (List ℕ)) (b : Bool) → nat_lt machines.moment next ≡ b → machines.moment ≤ next →
      fired machines.records ≡ None → machines.moment < moment →
      ((n : ℕ) → machines.moment + 1 ≤ n → Past n (down.tick machines) answer after) → Past next machines answer after
  passed next machines after answer true is bound quiet soon more =
      let before : machines.moment < next = ltb-true machines.moment next is in
      ticks next machines after answer quiet soon before (more next (omega (arith, before)))
  passed next machines after answer false is bound quiet soon more =
      let over : next ≤ machines.moment = ltb-false machines.moment next is in
      let rest = more (next + 60000) (omega (arith, bound)) in
      let on = rest.later in
      let least = at_least answer after.moment in
      refreshed next machines after answer quiet (omega (arith, bound, over)) (omega (arith, over, on, least))
      (ticks (next + 60000) machines after answer quiet soon (omega (arith, bound)) rest)

  -- ---- a timer

  fires_past : (next : ℕ) (machines after : Downstream) (answer : Fires (List ℕ)) (records : List (Record (List ℕ))) →
      fired machines.records ≡ Some (fires.Reached, records) → Past next (with_records machines records) answer after → Past next machines answer after
  fires_past next machines after answer records f p = record {
    refreshes = p.refreshes;
    later = p.later;
    all = p.all;
    no_more = p.no_more;
    runs = past_more p.refreshes moment (at next machines) (at next (with_records machines records)) (at (next + 60000 * p.refreshes) after) (fires_behind answer)
        (λ reported end more. fires_on twice ports routes start next moment 0 (omega arith) (omega arith) machines records reported end f more)
        p.runs;
  }

  echoes_past : (next : ℕ) (machines : Downstream) (records : List (Record (List ℕ))) (port : ℕ) (group : List ℕ) (what : What (List ℕ)) →
      machines.moment ≤ next → fired machines.records ≡ Some (fires.Echo port group what, records) →
      Past next machines (fires.Echo port group what) (with_records machines records)
  unfolding RunsPast
  echoes_past next machines records port group what bound f =
      let same : next ≡ next + 60000 * 0 = omega arith in
      record {
        refreshes = 0;
        later = omega arith;
        all = omega (arith, bound);
        no_more = omega arith;
        runs = subst (λ n. RunsPast 0 moment (at next machines) (Echo port group what) (at n (with_records machines records))) same
            (echoes_on twice ports routes start next moment 0 (omega arith) (omega arith) machines records port group what f);
      }

  -- ---- turn by turn

  module _ (turns : ℕ) (next : ℕ) (machines after : Downstream) (answer : Fires (List ℕ)) (bound : machines.moment ≤ next)
      (more : (n : ℕ) (m : Downstream) → m.moment ≤ n → down.run_within turns moment m ≡ Some (answer, after) → Past n m answer after)
      (e : down.run_within (suc turns) moment machines ≡ Some (answer, after)) where
    time_step : (b : Bool) → nat_lt machines.moment moment ≡ b → fired machines.records ≡ None → Past next machines answer after
    unfolding down.run_within down.turn
    time_step true is quiet =
        passed next machines after answer (nat_lt machines.moment next) refl bound quiet (ltb-true machines.moment moment is)
        (λ n before. more n (down.tick machines) before (rw (quiet, is) at e))
    time_step false is quiet =
        subst (λ (x : Fires (List ℕ) × Downstream). Past next machines x.0 x.1) (machines_pair fires.Reached answer machines after (rw (quiet, is) at e))
        (ends next machines (nat_lt machines.moment next) refl bound quiet (ltb-false machines.moment moment is))

    fire_step : (reported : Fires (List ℕ)) (records : List (Record (List ℕ))) → fired machines.records ≡ Some (reported, records) → Past next machines answer after
    unfolding down.run_within down.turn
    fire_step fires.Reached records f =
        fires_past next machines after answer records f (more next (with_records machines records) bound (rw f at e))
    fire_step (fires.Echo port group what) records f =
        subst (λ (x : Fires (List ℕ) × Downstream). Past next machines x.0 x.1)
        (machines_pair (fires.Echo port group what) answer (with_records machines records) after (rw f at e))
        (echoes_past next machines records port group what bound f)

  past_within : (turns next : ℕ) (machines after : Downstream) (answer : Fires (List ℕ)) → machines.moment ≤ next →
      down.run_within turns moment machines ≡ Some (answer, after) → Past next machines answer after
  unfolding down.run_within
  past_within zero next machines after answer bound e = absurd (machines_none answer after e)
  past_within (suc turns) next machines after answer bound e =
      elim (fired machines.records) as (λ o. fired machines.records ≡ o → Past next machines answer after) [
        | None ↦ λ quiet. time_step turns next machines after answer bound (λ n m before run. past_within turns n m after answer before run) e (nat_lt machines.moment moment) refl quiet
        | Some fire ↦ λ f. fire_step turns next machines after answer bound (λ n m before run. past_within turns n m after answer before run) e fire.0 fire.1 f
      ] refl

-- ---- what the code keeps

-- there is one such number
pub one_count : (end next first other : ℕ) → end ≤ next + 60000 * first → next + 60000 * first < max end next + 60000 →
    end ≤ next + 60000 * other → next + 60000 * other < max end next + 60000 → first ≡ other
one_count end next first other all no_more all' no_more' = omega (arith, all, no_more, all', no_more')

module _ (twice : ExpiringTwiceIsExpiringOnce) {A : Type 0} (bytes_of : A → List ℕ) (ports : List (PortConfig A)) (routes : RouteTable) (machines : Downstream) (tables : List Table) (next : ℕ)
    (sound : (machines.moment ≤ next) × IsRouter (router_seen bytes_of ports routes machines tables next)) (moment : ℕ)
    (after : Downstream) (now : RouterState) (same : router_seen bytes_of ports routes machines tables next ≡ now)
    (left : List Table) (is_left : left ≡ map (expired_at after.moment) tables) where
  abbrev seen : Downstream → List Table → ℕ → RouterState
  seen m ts n = router_seen bytes_of ports routes m ts n

  starts : at twice (map (port_seen bytes_of) ports) routes tables moment next machines ≡ now
  starts = ap (λ ts. seen machines ts next) (current_at_start machines.moment tables sound.1.current) ∙ same

  past_told : (answer : Fires (List ℕ)) (refreshes : ℕ) → down.Runs moment machines answer after →
      first_unreported answer after.moment ≤ next + 60000 * refreshes → next + 60000 * refreshes < max (first_unreported answer after.moment) next + 60000 →
      RunsPast refreshes moment now (fires_behind answer) (seen after left (next + 60000 * refreshes))
  past_told answer refreshes runs all no_more =
      let p = past_within twice (map (port_seen bytes_of) ports) routes tables moment runs.turns next machines after answer sound.0 runs.within in
      let count = one_count (first_unreported answer after.moment) next p.refreshes refreshes p.all p.no_more all no_more in
      subst (λ s. RunsPast refreshes moment s (fires_behind answer) (seen after left (next + 60000 * refreshes))) starts
      (subst (λ ts. RunsPast refreshes moment (seen machines (map (expired_at machines.moment) tables) next) (fires_behind answer) (seen after ts (next + 60000 * refreshes))) (sym is_left)
      (subst (λ n. RunsPast n moment (seen machines (map (expired_at machines.moment) tables) next) (fires_behind answer) (seen after (map (expired_at after.moment) tables) (next + 60000 * n))) count p.runs))

  module _ (step : Fires A) (stopped end refreshes : ℕ) (is_now : stopped ≡ after.moment) (is_end : end ≡ first_unreported step stopped)
      (all : end ≤ next + 60000 * refreshes) (no_more : next + 60000 * refreshes < max end next + 60000) where
    ended : end ≡ first_unreported (fires_seen bytes_of step) after.moment
    ended = is_end ∙ ap (first_unreported step) is_now ∙ sym (untold_seen bytes_of step after.moment)

    turned : next + 60000 * refreshes ≡ next + refreshes * 60000
    turned = omega arith

    pub past_ran : down.Runs moment machines (fires_seen bytes_of step) after →
        RunsPast refreshes moment now (fires_behind (fires_seen bytes_of step)) (seen after left (next + refreshes * 60000))
    past_ran runs =
        subst (λ n. RunsPast refreshes moment now (fires_behind (fires_seen bytes_of step)) (seen after left n)) turned
        (past_told (fires_seen bytes_of step) refreshes runs (subst (λ n. n ≤ next + 60000 * refreshes) ended all) (subst (λ n. next + 60000 * refreshes < max n next + 60000) ended no_more))

    pub past_sound : after.ports ≡ machines.ports → machines.moment ≤ after.moment →
        (after.moment ≤ next + refreshes * 60000) × IsRouter (seen after left (next + refreshes * 60000))
    past_sound count on =
        let least = at_least (fires_seen bytes_of step) after.moment in
        let most = at_most (fires_seen bytes_of step) after.moment in
        let is = ended in
        let bound = sound.0 in
        let soon = sound.1.refresh in
        sound_again twice bytes_of ports routes machines tables next sound moment (min moment next) refl after now same left is_left count on (next + refreshes * 60000)
        (omega (arith, least, is, all)) (omega (arith, most, is, no_more, bound, soon, on))
