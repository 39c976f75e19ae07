-- A run of a router is a run of its machines, in which refreshes and neighbours that go are passed over.
use Rattle.pim_mirror.proofs.Words.{◌≡◌, ◌∙◌, ℕ, zero, suc, true, false, ◌==◌, if◌then◌else◌, nat_lt, List, [], ◌∷◌}
use Rattle.pim_mirror.proofs.Words.{map, Option, None, Some, refl, ap, subst, list_any, RouteTable, without_ended, What}
use Rattle.pim_mirror.proofs.Words.{Record, Step, Echo, Refresh, Reached, RouterReport, echo, refresh, verdict, Reaches}
use Rattle.pim_mirror.proofs.Words.{RouterState, with_machines, with_tables, with_refresh, refresh_period, is_echo}
use Rattle.pim_mirror.proofs.Words.{RouterRunsAsItsMachines, has_ended, tick, reported, moves, rests, stops_with}
use Rattle.pim_mirror.proofs.Words.{turn_of_time, turn_of_refresh, turn_of_timers, turn, run_on, run_within, Runs}
use Rattle.pim_down.specs.declared.machines.step.Step.{Step as Fires}
use Rattle.pim_down.specs.declared.machines.step.Step.TheVariants as fires
use Rattle.pim_down.specs.Time.{Downstream, fired, with_records, tick as machines_tick, Outcome as MachineOutcome, moves as machines_move, rests as machines_rest, echoes, turn_by, turn as machine_turn, run_on as machine_run_on, run_within as machine_run_within, Runs as MachineRuns}
use Rattle.pim_mirror.specs.MachineRuns.{MachinesArrive}
use Rattle.pim_mirror.proofs.Ways.{runs_keep}

-- ---- one turn of the machines

one_turn : (moment : ℕ) (state after end : Downstream) (answer : Fires (List ℕ)) → machine_turn moment state ≡ machines_move after → MachineRuns moment after answer end → MachineRuns moment state answer end
unfolding machine_run_within
one_turn moment state after end answer e runs = record {
  turns = suc runs.turns;
  within = ap (λ (o : MachineOutcome). machine_run_on o state (machine_run_within runs.turns moment)) e ∙ runs.within;
}

rested : (moment : ℕ) (state : Downstream) → machine_turn moment state ≡ machines_rest → MachineRuns moment state fires.Reached state
unfolding machine_run_within
rested moment state e = record { turns = 1; within = ap (λ (o : MachineOutcome). machine_run_on o state (machine_run_within 0 moment)) e }

echoed : (moment : ℕ) (state after : Downstream) (port : ℕ) (group : List ℕ) (what : What (List ℕ)) → machine_turn moment state ≡ echoes (fires.Echo port group what) after → MachineRuns moment state (fires.Echo port group what) after
unfolding machine_run_within
echoed moment state after port group what e = record { turns = 1; within = ap (λ (o : MachineOutcome). machine_run_on o state (machine_run_within 0 moment)) e }

-- ---- the end of a router's run, said of the machines where it began

-- behind a refresh a run of the machines goes on
Ends : ℕ → Downstream → Step (List ℕ) → Downstream → Type 0
Ends moment machines Reached after = MachineRuns moment machines fires.Reached after
Ends moment machines Refresh after = (answer : Fires (List ℕ)) (end : Downstream) → MachineRuns moment after answer end → MachineRuns moment machines answer end
Ends moment machines (Echo port group what) after = MachineRuns moment machines (fires.Echo port group what) after

EndsAs : ℕ → Downstream → RouteTable → Option (Step (List ℕ) × RouterState) → Type 0
EndsAs moment machines routes None = Unit {0}
EndsAs moment machines routes (Some end) = Ends moment machines end.0 end.1.machines × (end.1.routes ≡ routes)

moved : (moment : ℕ) (state after end : Downstream) (answer : Step (List ℕ)) → machine_turn moment state ≡ machines_move after → Ends moment after answer end → Ends moment state answer end
unfolding Ends
moved moment state after end Reached e ends = one_turn moment state after end fires.Reached e ends
moved moment state after end Refresh e ends = λ answer last runs. one_turn moment state after last answer e (ends answer last runs)
moved moment state after end (Echo port group what) e ends = one_turn moment state after end (fires.Echo port group what) e ends

moved_as : (moment : ℕ) (state after : Downstream) (routes : RouteTable) (end : Option (Step (List ℕ) × RouterState)) → machine_turn moment state ≡ machines_move after → EndsAs moment after routes end → EndsAs moment state routes end
unfolding EndsAs
moved_as moment state after routes None e ends = tt
moved_as moment state after routes (Some end) e ends = (moved moment state after end.1.machines end.0 e ends.0, ends.1)

module _ (moment : ℕ) where
  -- where no timer is due
  timeless : (turns : ℕ) → ((state : RouterState) → EndsAs moment state.machines state.routes (run_within turns moment state)) → (state : RouterState) → fired state.machines.records ≡ None
      → EndsAs moment state.machines state.routes (run_on (turn_of_refresh moment state) state (run_within turns moment))
  unfolding EndsAs Ends machine_turn
  timeless turns later state none =
      elim (state.refresh == 0) as (λ b. EndsAs moment state.machines state.routes (run_on (if b then stops_with Refresh (with_refresh state refresh_period) else turn_of_time moment state) state (run_within turns moment))) [
        | true ↦ (λ answer end runs. runs, refl)
        | false ↦
            elim (nat_lt state.machines.moment moment) as (λ b. nat_lt state.machines.moment moment ≡ b
            → EndsAs moment state.machines state.routes (run_on (if b then moves (tick state) else rests) state (run_within turns moment))) [
              | true ↦ λ e. moved_as moment state.machines (machines_tick state.machines) state.routes (run_within turns moment (tick state))
                  (ap (turn_by moment state.machines) none ∙ ap (λ b. if b then machines_move (machines_tick state.machines) else machines_rest) e) (later (tick state))
              | false ↦ λ e. (rested moment state.machines (ap (turn_by moment state.machines) none ∙ ap (λ b. if b then machines_move (machines_tick state.machines) else machines_rest) e), refl)
            ] refl
      ]

  fires_as : (turns : ℕ) → ((state : RouterState) → EndsAs moment state.machines state.routes (run_within turns moment state)) → (state : RouterState) (answer : Fires (List ℕ)) (records : List (Record (List ℕ)))
      → fired state.machines.records ≡ Some (answer, records)
      → EndsAs moment state.machines state.routes (run_on (reported answer (with_machines state (with_records state.machines records))) state (run_within turns moment))
  unfolding EndsAs Ends machine_turn
  fires_as turns later state fires.Reached records e =
      let after = with_records state.machines records in
      moved_as moment state.machines after state.routes (run_within turns moment (with_machines state after)) (ap (turn_by moment state.machines) e) (later (with_machines state after))
  fires_as turns later state (fires.Echo port group what) records e =
      (echoed moment state.machines (with_records state.machines records) port group what (ap (turn_by moment state.machines) e), refl)

  ends_as : (turns : ℕ) (state : RouterState) → EndsAs moment state.machines state.routes (run_within turns moment state)
  unfolding EndsAs run_within turn
  ends_as zero state = tt
  ends_as (suc turns) state =
      elim (list_any has_ended state.tables) as (λ b. EndsAs moment state.machines state.routes
      (run_on (if b then moves (with_tables state (map without_ended state.tables)) else turn_of_timers moment state (fired state.machines.records)) state (run_within turns moment))) [
        | true ↦ ends_as turns (with_tables state (map without_ended state.tables))
        | false ↦
            elim (fired state.machines.records) as (λ f. fired state.machines.records ≡ f → EndsAs moment state.machines state.routes (run_on (turn_of_timers moment state f) state (run_within turns moment))) [
              | None ↦ λ e. timeless turns (ends_as turns) state e
              | Some (answer, records) ↦ λ e. fires_as turns (ends_as turns) state answer records e
            ] refl
      ]

  run_ends : (state after : RouterState) (answer : Step (List ℕ)) → Runs moment state answer after → Ends moment state.machines answer after.machines × (after.routes ≡ state.routes)
  unfolding EndsAs
  run_ends state after answer runs = subst (EndsAs moment state.machines state.routes) runs.within (ends_as runs.turns state)

  -- ---- runs until nothing is due

  no_echo : (port : ℕ) (group : List ℕ) (what : What (List ℕ)) → ◌≡◌ {A = Fires (List ℕ)} (fires.Echo port group what) fires.Reached → ⊥
  no_echo port group what e = cc

  -- where the machines tell no echo, the router's runs through refreshes are one run of them
  pub reaches_as : (actions : List RouterReport) (state after : RouterState) → ((answer : Fires (List ℕ)) (end : Downstream) → MachineRuns moment state.machines answer end → answer ≡ fires.Reached)
      → Reaches moment actions state after → MachineRuns moment state.machines fires.Reached after.machines × (after.routes ≡ state.routes)
  unfolding Reaches Ends
  reaches_as [] state after quiet reaches = run_ends state after Reached reaches
  reaches_as (echo port group what ∷ more) state after quiet reaches =
      absurd (no_echo port group what (quiet (fires.Echo port group what) reaches.0.machines (run_ends state reaches.0 (Echo port group what) reaches.1).0))
  reaches_as (refresh ∷ more) state after quiet reaches =
      let ends = run_ends state reaches.0 Refresh reaches.1 in
      let later = reaches_as more reaches.0 after (λ answer end runs. quiet answer end (ends.0 answer end runs)) reaches.2 in
      (ends.0 fires.Reached after.machines later.0, later.1 ∙ ends.1)
  reaches_as (verdict reported ∷ more) state after quiet reaches = absurd reaches

  -- and they tell no echo
  pub reaches_quietly : (actions : List RouterReport) (state after : RouterState) → ((answer : Fires (List ℕ)) (end : Downstream) → MachineRuns moment state.machines answer end → answer ≡ fires.Reached)
      → Reaches moment actions state after → list_any is_echo actions ≡ false
  unfolding Reaches Ends
  reaches_quietly [] state after quiet reaches = refl
  reaches_quietly (echo port group what ∷ more) state after quiet reaches =
      absurd (no_echo port group what (quiet (fires.Echo port group what) reaches.0.machines (run_ends state reaches.0 (Echo port group what) reaches.1).0))
  reaches_quietly (refresh ∷ more) state after quiet reaches =
      let ends = run_ends state reaches.0 Refresh reaches.1 in
      reaches_quietly more reaches.0 after (λ answer end runs. quiet answer end (ends.0 answer end runs)) reaches.2
  reaches_quietly (verdict reported ∷ more) state after quiet reaches = absurd reaches

-- ---- what a router's run does to its machines

-- behind a refresh the runs of the machines are runs from before it
led_on : (moment : ℕ) (state middle after : Downstream) (echoes : List (Fires (List ℕ))) → ((answer : Fires (List ℕ)) (end : Downstream) → MachineRuns moment middle answer end → MachineRuns moment state answer end)
    → MachinesArrive echoes moment middle after → MachinesArrive echoes moment state after
unfolding MachinesArrive
led_on moment state middle after [] on arrive = on fires.Reached after arrive
led_on moment state middle after (first ∷ more) on arrive = (arrive.0, on first arrive.0 arrive.1, arrive.2)

pub runs_as_machines : RouterRunsAsItsMachines
unfolding Reaches Ends MachinesArrive
runs_as_machines moment [] state after reaches =
    let ends = run_ends moment state after Reached reaches in
    record { echoes = []; arrives = ends.0; routes = ends.1; ports = runs_keep moment state after Reached reaches }
runs_as_machines moment (echo port group what ∷ more) state after reaches =
    let ends = run_ends moment state reaches.0 (Echo port group what) reaches.1 in
    let rest = runs_as_machines moment more reaches.0 after reaches.2 in
    record {
      echoes = fires.Echo port group what ∷ rest.echoes;
      arrives = (reaches.0.machines, ends.0, rest.arrives);
      routes = rest.routes ∙ ends.1;
      ports = rest.ports ∙ runs_keep moment state reaches.0 (Echo port group what) reaches.1;
    }
runs_as_machines moment (refresh ∷ more) state after reaches =
    let ends = run_ends moment state reaches.0 Refresh reaches.1 in
    let rest = runs_as_machines moment more reaches.0 after reaches.2 in
    record {
      echoes = rest.echoes;
      arrives = led_on moment state.machines reaches.0.machines after.machines rest.echoes ends.0 rest.arrives;
      routes = rest.routes ∙ ends.1;
      ports = rest.ports ∙ runs_keep moment state reaches.0 Refresh reaches.1;
    }
runs_as_machines moment (verdict reported ∷ more) state after reaches = absurd reaches
