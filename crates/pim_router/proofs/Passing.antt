-- Time that passes: a run of the machines to a moment no later than the next Refresh is a run of the router.
use Rattle.pim_router.proofs.Words.{◌≡◌, ◌≢◌, ◌∙◌, ◌<◌, ◌≤◌, ℕ, zero, suc, ◌+◌, ◌-◌, Bool, true, false, not, List, []}
use Rattle.pim_router.proofs.Words.{◌∷◌, map, filter, Option, Some, None, max, nat_lt, refl, sym, ap, subst, arith}
use Rattle.pim_router.proofs.Words.{list_any, AllByRecursion, false≢true, lt-ltb, le-ltb, ltb-true, ltb-false, ne_eqb}
use Rattle.pim_router.proofs.Words.{RouteTable, Neighbour, Table, is_over, without_ended, passed_to, expired_at}
use Rattle.pim_router.proofs.Words.{ExpiringTwiceIsExpiringOnce, What, Record, Downstream, fired, with_records, Step}
use Rattle.pim_router.proofs.Words.{Echo, Refresh, Reached, HasTime, IsCurrent, Port, RouterState, with_tables}
use Rattle.pim_router.proofs.Words.{with_refresh, moves, has_ended, turn, turn_of_timers, tick, Runs}
use Rattle.pim_down.specs.declared.machines.step.Step.{Step as Fires}
use Rattle.pim_down.specs.declared.machines.step.Step.TheVariants as fires
use Rattle.pim_down.specs.Time as down
use Rattle.pim_router.proofs.Runs.{run_more, run_tells, run_rests}
use Rattle.pim_router.proofs.Current.{all_there, no_time_passes}

-- ---- those whose time is over go

abbrev over : List ℕ × Neighbour → Bool
over entry = is_over entry.1.left

abbrev stays : List ℕ × Neighbour → Bool
stays entry = not (over entry)

none_over_step : (e : List ℕ × Neighbour) (es : List (List ℕ × Neighbour)) (b : Bool) → over e ≡ b →
    AllByRecursion HasTime (filter stays es) → AllByRecursion HasTime (filter stays (e ∷ es))
none_over_step e es true is more = rw is more
none_over_step e es false is more = rw is (is, more)

pub none_over : (es : List (List ℕ × Neighbour)) → AllByRecursion HasTime (filter stays es)
none_over [] = tt
none_over (e ∷ es) = none_over_step e es (over e) refl (none_over es)

pub nobody : (es : List (List ℕ × Neighbour)) → AllByRecursion HasTime es → list_any over es ≡ false
nobody [] all = refl
nobody (e ∷ es) all = rw all.0 (nobody es all.1)

all_stay_step : (e : List ℕ × Neighbour) (es : List (List ℕ × Neighbour)) (b : Bool) → over e ≡ b →
    (list_any over es ≡ false → AllByRecursion HasTime es) → list_any over (e ∷ es) ≡ false → AllByRecursion HasTime (e ∷ es)
all_stay_step e es true is more none = absurd (false≢true (sym none ∙ rw is refl))
all_stay_step e es false is more none = (is, more (rw is at none))

all_stay : (es : List (List ℕ × Neighbour)) → list_any over es ≡ false → AllByRecursion HasTime es
all_stay [] none = tt
all_stay (e ∷ es) none = all_stay_step e es (over e) refl (all_stay es) none

-- ---- the same for each port

pub none_ended : (tables : List Table) → list_any has_ended (map without_ended tables) ≡ false
none_ended [] = refl
none_ended (table ∷ tables) = rw (nobody (filter stays table.entries) (none_over table.entries)) (none_ended tables)

none_goes_step : (table : Table) (tables : List Table) (b : Bool) → has_ended table ≡ b →
    (list_any has_ended tables ≡ false → map without_ended tables ≡ tables) →
    list_any has_ended (table ∷ tables) ≡ false → map without_ended (table ∷ tables) ≡ table ∷ tables
none_goes_step table tables true is more none = absurd (false≢true (sym none ∙ rw is refl))
none_goes_step table tables false is more none =
    ap (λ t. t ∷ map without_ended tables) (all_there table (all_stay table.entries is)) ∙ ap (λ ts. table ∷ ts) (more (rw is at none))

pub none_goes : (tables : List Table) → list_any has_ended tables ≡ false → map without_ended tables ≡ tables
none_goes [] none = refl
none_goes (table ∷ tables) none = none_goes_step table tables (has_ended table) refl (none_goes tables) none

pub goes : (moment : ℕ) (state : RouterState) → list_any has_ended state.tables ≡ true →
    turn moment state ≡ moves (with_tables state (map without_ended state.tables))
unfolding turn
goes moment state some = rw some refl

-- A run that begins when those whose time is over have gone is one that begins before.
pub they_go : (moment : ℕ) (state after : RouterState) (answer : Step (List ℕ)) →
    Runs moment (with_tables state (map without_ended state.tables)) answer after → Runs moment state answer after
they_go moment state after answer more =
    elim (list_any has_ended state.tables) as (λ b. list_any has_ended state.tables ≡ b → Runs moment state answer after) [
      | true ↦ λ some. run_more moment state (with_tables state (map without_ended state.tables)) after answer (goes moment state some) more
      | false ↦ λ none. subst (λ ts. Runs moment (with_tables state ts) answer after) (none_goes state.tables none) more
    ] refl

-- ---- tables that time passed over

pub current_at_start : (moment : ℕ) (tables : List Table) → AllByRecursion (IsCurrent moment) tables →
    map (expired_at moment) tables ≡ tables
current_at_start moment [] all = refl
current_at_start moment (table ∷ tables) all =
    ap (λ t. t ∷ map (expired_at moment) tables)
    (ap without_ended (no_time_passes table moment all.0.moment_now) ∙ all_there table all.0.none_ended)
    ∙ ap (λ ts. table ∷ ts) (current_at_start moment tables all.1)

pub now_at : (at later : ℕ) → at ≤ later → at + (later - at) ≡ later
now_at at later le = omega (arith, le)

pub current_later : (moment later : ℕ) → moment ≤ later → (tables : List Table) → AllByRecursion (IsCurrent moment) tables →
    AllByRecursion (IsCurrent later) (map (expired_at later) tables)
current_later moment later le [] all = tt
current_later moment later le (table ∷ tables) all = (
  record {
    moment_now = now_at table.moment later (let now = all.0.moment_now in omega (arith, now, le));
    none_ended = none_over (passed_to later table).entries;
  },
  current_later moment later le tables all.1,
)

-- ---- a run of the machines

module _ (twice : ExpiringTwiceIsExpiringOnce) (ports : List Port) (routes : RouteTable) (start : List Table) (next moment until : ℕ)
    (before_next : until ≤ next) (before_moment : until ≤ moment) where
  -- the router with these machines
  abbrev pub router : Downstream → RouterState
  router machines = record {
    ports = ports;
    routes = routes;
    machines = machines;
    tables = map (expired_at machines.moment) start;
    refresh = next - machines.moment;
  }

  pub nobody_over : (ts : List Table) (at : ℕ) → list_any has_ended (map (expired_at at) ts) ≡ false
  nobody_over [] at = refl
  nobody_over (t ∷ ts) at = rw (nobody (filter stays (passed_to at t).entries) (none_over (passed_to at t).entries)) (nobody_over ts at)

  pub quiet_turn : (machines : Downstream) → turn moment (router machines) ≡ turn_of_timers moment (router machines) (fired machines.records)
  unfolding turn
  quiet_turn machines = rw (nobody_over start machines.moment) refl

  -- ---- a millisecond

  pub later_tables : (at : ℕ) (ts : List Table) → map without_ended (map (passed_to (at + 1)) (map (expired_at at) ts)) ≡ map (expired_at (at + 1)) ts
  later_tables at [] = refl
  later_tables at (t ∷ ts) =
      let later : max at (at + 1) ≡ at + 1 = omega arith in
      ap (λ u. u ∷ map without_ended (map (passed_to (at + 1)) (map (expired_at at) ts))) (twice t at (at + 1) ∙ ap (λ n. expired_at n t) later)
      ∙ ap (λ us. expired_at (at + 1) t ∷ us) (later_tables at ts)

  less_one : (n at : ℕ) → n - at - 1 ≡ n - (at + 1)
  less_one n at = omega arith

  pub ticked : (machines : Downstream) → with_tables (tick (router machines)) (map without_ended (tick (router machines)).tables) ≡ router (down.tick machines)
  ticked machines =
      ap (λ ts. with_tables (tick (router machines)) ts) (later_tables machines.moment start)
      ∙ ap (λ (refresh : ℕ). record { ports = ports; routes = routes; machines = down.tick machines; tables = map (expired_at (machines.moment + 1)) start; refresh = refresh })
      (less_one next machines.moment)

  passing_turn : (machines : Downstream) → fired machines.records ≡ None → machines.moment < until → turn moment (router machines) ≡ moves (tick (router machines))
  passing_turn machines quiet before =
      let apart : next - machines.moment ≢ 0 = omega (arith, before, before_next) in
      let soon : machines.moment < moment = omega (arith, before, before_moment) in
      quiet_turn machines ∙ rw (quiet, ne_eqb (next - machines.moment) 0 apart, lt-ltb machines.moment moment soon) refl

  pub passes : (machines : Downstream) (answer : Step (List ℕ)) (after : RouterState) → fired machines.records ≡ None → machines.moment < until →
      Runs moment (router (down.tick machines)) answer after → Runs moment (router machines) answer after
  passes machines answer after quiet before more =
      run_more moment (router machines) (tick (router machines)) after answer (passing_turn machines quiet before)
      (they_go moment (tick (router machines)) after answer (subst (λ s. Runs moment s answer after) (sym (ticked machines)) more))

  -- ---- a timer

  pub fires_on : (machines : Downstream) (records : List (Record (List ℕ))) (answer : Step (List ℕ)) (after : RouterState) →
      fired machines.records ≡ Some (fires.Reached, records) →
      Runs moment (router (with_records machines records)) answer after → Runs moment (router machines) answer after
  fires_on machines records answer after f more =
      run_more moment (router machines) (router (with_records machines records)) after answer (quiet_turn machines ∙ rw f refl) more

  pub echoes_on : (machines : Downstream) (records : List (Record (List ℕ))) (port : ℕ) (group : List ℕ) (what : What (List ℕ)) →
      fired machines.records ≡ Some (fires.Echo port group what, records) →
      Runs moment (router machines) (Echo port group what) (router (with_records machines records))
  echoes_on machines records port group what f =
      run_tells moment (router machines) (router (with_records machines records)) (Echo port group what) (quiet_turn machines ∙ rw f refl)

  -- ---- what the router makes of a run of the machines up to that moment

  abbrev Leads : Downstream → Fires (List ℕ) → Downstream → Type 0
  Leads machines fires.Reached after = (fired after.records ≡ None) × (until ≤ after.moment)
      × ((answer : Step (List ℕ)) (end : RouterState) → Runs moment (router after) answer end → Runs moment (router machines) answer end)
  Leads machines (fires.Echo port group what) after = Runs moment (router machines) (Echo port group what) (router after)

  -- what leads on from the next state leads on from this one
  leads_on : (machines between : Downstream) →
      ((answer : Step (List ℕ)) (end : RouterState) → Runs moment (router between) answer end → Runs moment (router machines) answer end) →
      (answer : Fires (List ℕ)) (after : Downstream) → Leads between answer after → Leads machines answer after
  leads_on machines between step fires.Reached after more = (more.0, more.1, λ answer end runs. step answer end (more.2 answer end runs))
  leads_on machines between step (fires.Echo port group what) after more = step (Echo port group what) (router after) more

  abbrev MachinesEnd : Type 0
  MachinesEnd = Option (Fires (List ℕ) × Downstream)

  machines_pair : (reported answer : Fires (List ℕ)) (end after : Downstream) → ◌≡◌ {A = MachinesEnd} (Some (reported, end)) (Some (answer, after)) →
      ◌≡◌ {A = Fires (List ℕ) × Downstream} (reported, end) (answer, after)
  machines_pair reported answer end after e = cc

  machines_none : (answer : Fires (List ℕ)) (after : Downstream) → ◌≡◌ {A = MachinesEnd} None (Some (answer, after)) → ⊥
  machines_none answer after e = cc

  module _ (turns : ℕ) (machines after : Downstream) (answer : Fires (List ℕ))
      (more : (m : Downstream) → down.run_within turns until m ≡ Some (answer, after) → Leads m answer after)
      (e : down.run_within (suc turns) until machines ≡ Some (answer, after)) where
    time_step : (b : Bool) → nat_lt machines.moment until ≡ b → fired machines.records ≡ None → Leads machines answer after
    unfolding down.run_within down.turn
    time_step true is quiet =
        leads_on machines (down.tick machines) (λ reported end. passes machines reported end quiet (ltb-true machines.moment until is)) answer after
        (more (down.tick machines) (rw (quiet, is) at e))
    time_step false is quiet =
        subst (λ (x : Fires (List ℕ) × Downstream). Leads machines x.0 x.1) (machines_pair fires.Reached answer machines after (rw (quiet, is) at e))
        (quiet, ltb-false machines.moment until is, λ reported end runs. runs)

    fire_step : (reported : Fires (List ℕ)) (records : List (Record (List ℕ))) → fired machines.records ≡ Some (reported, records) → Leads machines answer after
    unfolding down.run_within down.turn
    fire_step fires.Reached records f =
        leads_on machines (with_records machines records) (λ reported end. fires_on machines records reported end f) answer after
        (more (with_records machines records) (rw f at e))
    fire_step (fires.Echo port group what) records f =
        subst (λ (x : Fires (List ℕ) × Downstream). Leads machines x.0 x.1)
        (machines_pair (fires.Echo port group what) answer (with_records machines records) after (rw f at e))
        (echoes_on machines records port group what f)

  leads_within : (turns : ℕ) (machines after : Downstream) (answer : Fires (List ℕ)) → down.run_within turns until machines ≡ Some (answer, after) →
      Leads machines answer after
  unfolding down.run_within
  leads_within zero machines after answer e = absurd (machines_none answer after e)
  leads_within (suc turns) machines after answer e =
      elim (fired machines.records) as (λ o. fired machines.records ≡ o → Leads machines answer after) [
        | None ↦ λ quiet. time_step turns machines after answer (λ m run. leads_within turns m after answer run) e (nat_lt machines.moment until) refl quiet
        | Some fire ↦ λ f. fire_step turns machines after answer (λ m run. leads_within turns m after answer run) e fire.0 fire.1 f
      ] refl

  pub leads : (machines after : Downstream) (answer : Fires (List ℕ)) → down.Runs until machines answer after → Leads machines answer after
  leads machines after answer runs = leads_within runs.turns machines after answer runs.within

  -- ---- how it ends

  pub told_echo : (machines after : Downstream) (port : ℕ) (group : List ℕ) (what : What (List ℕ)) →
      down.Runs until machines (fires.Echo port group what) after → Runs moment (router machines) (Echo port group what) (router after)
  told_echo machines after port group what runs = leads machines after (fires.Echo port group what) runs

  pub told_refresh : (machines after : Downstream) → down.Runs until machines fires.Reached after → next ≤ after.moment →
      Runs moment (router machines) Refresh (with_refresh (router after) 60000)
  told_refresh machines after runs due =
      let end = leads machines after fires.Reached runs in
      let over : next - after.moment ≡ 0 = omega (arith, due) in
      end.2 Refresh (with_refresh (router after) 60000)
      (run_tells moment (router after) (with_refresh (router after) 60000) Refresh (quiet_turn after ∙ rw (end.0, over) refl))

  pub told_reached : (machines after : Downstream) → down.Runs until machines fires.Reached after → after.moment < next → moment ≤ after.moment →
      Runs moment (router machines) Reached (router after)
  told_reached machines after runs before there =
      let end = leads machines after fires.Reached runs in
      let apart : next - after.moment ≢ 0 = omega (arith, before) in
      end.2 Reached (router after)
      (run_rests moment (router after) (quiet_turn after ∙ rw (end.0, ne_eqb (next - after.moment) 0 apart, le-ltb after.moment moment there) refl))
