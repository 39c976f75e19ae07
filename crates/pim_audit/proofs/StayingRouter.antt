-- What stays of a machine while time passes for a router.
use Rattle.pim_audit.proofs.Words.{◌≡◌, ◌∙◌, ◌-◌, ◌==◌, ℕ, zero, suc, ◌+◌, Bool, true, false, cond, List, [], ◌∷◌, ◌++◌, map}
use Rattle.pim_audit.proofs.Words.{Option, None, Some, refl, sym, ap, subst, option_map, AllByRecursion, filter, list_any}
use Rattle.pim_audit.proofs.Words.{Record, Firing, fired, first_due, RouterState, FiresTo, gone_between, timer_fired}
use Rattle.std.proofs.lemmas.Option.{none-some, same_Some}
use Rattle.std.specs.Prelude.{nat_lt}
use Rattle.pim_hello.specs.Neighbours.{Neighbour, Table, is_over, without_ended, passed_to}
use Rattle.pim_down.specs.declared.machines.key.What.{What}
use Rattle.pim_down.specs.declared.machines.step.Step.{Step as Fires}
use Rattle.pim_down.specs.declared.machines.step.Step.TheVariants as fires
use Rattle.pim_down.specs.Firing.{et_firing, firing, fired_in, ppt_firing, step_of}
use Rattle.pim_down.specs.Laws.{said_of}
use Rattle.pim_down.specs.Time.{et_due, ppt_due, fire_et, fire_ppt, with_records}
use Rattle.pim_router.specs.declared.step.Step.TheVariants.{Refresh}
use Rattle.pim_router.specs.Happening.{Happening, Passes, at_moment, fired_of, gone_from, gone_within, happens_in, happens_then}
use Rattle.pim_router.specs.Happening.{in_turns, next_of, pass_on, timed_out}
use Rattle.pim_router.specs.State.{refresh_period, with_machines, with_refresh, with_tables}
use Rattle.pim_router.specs.Time.{has_ended, moves, reported, rests, stops_with, tick, turn, turn_of_refresh, turn_of_timers}
use Rattle.pim_audit.specs.Touched.{SameStates}
use Rattle.pim_audit.proofs.OneMachine.{same_machine}
use Rattle.pim_audit.proofs.Staying.{fires_elsewhere, same_states_refl, same_states_trans, tick_stays}

-- ---- what happens

-- It changes no state of the machine.
abbrev pub Spares : List ℕ → What (List ℕ) → Happening → Type 0
Spares group what (timed_out port address) = Unit {0}
Spares group what (timer_fired fires) = same_machine group what fires.before.key.group fires.before.key.what ≡ false

-- None of these does.
abbrev pub AllSpare : List ℕ → What (List ℕ) → List (ℕ × Happening) → Type 0
AllSpare group what happenings = AllByRecursion (λ (happening : ℕ × Happening). Spares group what happening.1) happenings

module _ (group : List ℕ) (what : What (List ℕ)) where
  spared_before : (xs ys : List (ℕ × Happening)) → AllSpare group what (xs ++ ys) → AllSpare group what xs
  spared_before [] ys spare = tt
  spared_before (x ∷ xs) ys spare = (spare.0, spared_before xs ys spare.1)

  spared_after : (xs ys : List (ℕ × Happening)) → AllSpare group what (xs ++ ys) → AllSpare group what ys
  spared_after [] ys spare = spare
  spared_after (x ∷ xs) ys spare = spared_after xs ys spare.1

  both_spare : (xs ys : List (ℕ × Happening)) → AllSpare group what xs → AllSpare group what ys → AllSpare group what (xs ++ ys)
  both_spare [] ys spare more = more
  both_spare (x ∷ xs) ys spare more = (spare.0, both_spare xs ys spare.1 more)

  -- ---- neighbours that go

  entries_spare : (moment port : ℕ) (entries : List (List ℕ × Neighbour)) (others : List Happening)
      → AllSpare group what (at_moment moment others)
      → AllSpare group what (at_moment moment (map (λ (entry : List ℕ × Neighbour). timed_out port entry.0) entries ++ others))
  entries_spare moment port [] others spare = spare
  entries_spare moment port (e ∷ entries) others spare = (tt, entries_spare moment port entries others spare)

  gone_spare : (moment port : ℕ) (tables : List Table) → AllSpare group what (at_moment moment (gone_from port tables))
  unfolding gone_from
  gone_spare moment port [] = tt
  gone_spare moment port (table ∷ tables) =
      entries_spare moment port (filter (λ (entry : List ℕ × Neighbour). is_over entry.1.left) table.entries)
      (gone_from (port + 1) tables) (gone_spare moment (port + 1) tables)

  within_spare : (passed moment : ℕ) (tables : List Table) → AllSpare group what (gone_within passed moment tables)
  unfolding gone_within
  within_spare zero moment tables = gone_spare moment 0 tables
  within_spare (suc passed) moment tables =
      both_spare (at_moment moment (gone_from 0 tables))
      (gone_within passed (moment + 1) (map (passed_to (moment + 1)) (map without_ended tables))) (gone_spare moment 0 tables)
      (within_spare passed (moment + 1) (map (passed_to (moment + 1)) (map without_ended tables)))

  -- ---- a turn

  -- The machine has the same states in both routers.
  abbrev Stays : RouterState → RouterState → Type 0
  Stays state after = SameStates group what state.machines after.machines

  time_stays : (moment : ℕ) (state next : RouterState) → next_of (turn_of_refresh moment state) ≡ Some next → Stays state next
  time_stays moment state next is = refreshes (state.refresh == 0) is
    where
      time : (b : Bool) → next_of (cond b (moves (tick state)) rests) ≡ Some next → Stays state next
      time true e = subst (Stays state) (same_Some (tick state) next e) (tick_stays group what state.machines)
      time false e = absurd (none-some next e)

      refreshes : (b : Bool) → next_of (cond b (stops_with Refresh (with_refresh state refresh_period))
          (cond (nat_lt state.machines.moment moment) (moves (tick state)) rests)) ≡ Some next → Stays state next
      refreshes true e =
          subst (Stays state) (same_Some (with_refresh state refresh_period) next e) (same_states_refl group what state.machines)
      refreshes false e = time (nat_lt state.machines.moment moment) e

  goes_on : (step : Fires (List ℕ)) (state : RouterState) → next_of (reported step state) ≡ Some state
  goes_on fires.Reached state = refl
  goes_on (fires.Echo port of what) state = refl

  -- both say of a timer that fires
  says_more : (records : List (Record (List ℕ))) → fired records ≡ option_map said_of (firing records)
  unfolding fired firing
  says_more records = by_ppt (first_due ppt_due records)
    where
      by_et : (o : Option (Record (List ℕ))) → fire_et records o ≡ option_map said_of (et_firing records o)
      by_et None = refl
      by_et (Some held) = refl

      by_ppt : (o : Option (Record (List ℕ))) → fire_ppt records o ≡ option_map said_of (ppt_firing records o)
      by_ppt None = by_et (first_due et_due records)
      by_ppt (Some held) = refl

  timers_stay : (moment : ℕ) (state next : RouterState) (o : Option (Firing (List ℕ) × List (Record (List ℕ))))
      → firing state.machines.records ≡ o → next_of (turn_of_timers moment state (option_map said_of o)) ≡ Some next
      → AllSpare group what (at_moment state.machines.moment (fired_of o)) → Stays state next
  timers_stay moment state next None is e spare = time_stays moment state next e
  timers_stay moment state next (Some (f, records)) is e spare =
      let left = with_machines state (with_records state.machines records) in
      subst (Stays state) (same_Some left next (sym (goes_on (step_of f) left) ∙ e))
      (fires_elsewhere group what state.machines (with_records state.machines records) f spare.0 (ap (fired_in state.machines) is))

  turn_stays : (moment : ℕ) (state next : RouterState) → next_of (turn moment state) ≡ Some next
      → AllSpare group what (at_moment state.machines.moment (happens_in state)) → Stays state next
  unfolding turn happens_in
  turn_stays moment state next is spare =
      elim (list_any has_ended state.tables) as (λ b. next_of (cond b (moves (with_tables state (map without_ended state.tables)))
      (turn_of_timers moment state (fired state.machines.records))) ≡ Some next
      → AllSpare group what (at_moment state.machines.moment (cond b (gone_from 0 state.tables)
      (fired_of (firing state.machines.records))))
      → Stays state next) [
        | true ↦ λ e none. subst (Stays state) (same_Some (with_tables state (map without_ended state.tables)) next e)
            (same_states_refl group what state.machines)
        | false ↦ λ e some. timers_stay moment state next (firing state.machines.records) refl
            (ap (λ o. next_of (turn_of_timers moment state o)) (sym (says_more state.machines.records)) ∙ e) some
      ] is spare

  -- ---- turn by turn

  goes_on_spared : (moment : ℕ) (state next after : RouterState) (happened : List (ℕ × Happening))
      (o : Option (List (ℕ × Happening) × RouterState)) → next_of (turn moment state) ≡ Some next
      → ((more : List (ℕ × Happening)) (last : RouterState) → o ≡ Some (more, last) → AllSpare group what more → Stays next last)
      → happens_then (at_moment state.machines.moment (happens_in state)) o ≡ Some (happened, after) → AllSpare group what happened
      → Stays state after
  goes_on_spared moment state next after happened None was later e spare = absurd (none-some (happened, after) e)
  goes_on_spared moment state next after happened (Some (more, last)) was later e spare =
      let first = at_moment state.machines.moment (happens_in state) in
      let both = same_Some (first ++ more, last) (happened, after) e in
      let all : AllSpare group what (first ++ more) =
      subst (AllSpare group what) (sym (ap (λ (p : List (ℕ × Happening) × RouterState). p.0) both)) spare in
      subst (Stays state) (ap (λ (p : List (ℕ × Happening) × RouterState). p.1) both)
      (same_states_trans group what state.machines next.machines last.machines
      (turn_stays moment state next was (spared_before first more all)) (later more last refl (spared_after first more all)))

  turns_stay : (turns moment : ℕ) (state after : RouterState) (happened : List (ℕ × Happening))
      → in_turns turns moment state ≡ Some (happened, after) → AllSpare group what happened → Stays state after
  unfolding in_turns
  turns_stay zero moment state after happened is spare =
      subst (Stays state) (ap (λ (p : List (ℕ × Happening) × RouterState). p.1) (same_Some ([], state) (happened, after) is))
      (same_states_refl group what state.machines)
  turns_stay (suc turns) moment state after happened is spare =
      elim (next_of (turn moment state)) as (λ o. next_of (turn moment state) ≡ o
      → pass_on o (at_moment state.machines.moment (happens_in state)) (in_turns turns moment) ≡ Some (happened, after)
      → Stays state after) [
        | None ↦ λ was e. absurd (none-some (happened, after) e)
        | Some next ↦ λ was e. goes_on_spared moment state next after happened (in_turns turns moment next) was
            (λ more last. turns_stay turns moment next last more) e spare
      ] refl is

  -- turns in which no timer of the machine fires
  pub passes_stay : (moment : ℕ) (state after : RouterState) (happened : List (ℕ × Happening))
      → Passes moment state happened after → AllSpare group what happened → Stays state after
  passes_stay moment state after happened passes spare = turns_stay passes.turns moment state after happened passes.passed spare

  between_spare : (state after : RouterState) → AllSpare group what (gone_between state after)
  between_spare state after =
      within_spare (after.machines.moment - state.machines.moment) state.machines.moment state.tables

-- ---- time passes

-- where no timer fires
pub router_quiet_stays : (moment : ℕ) (router after : RouterState) → FiresTo moment router None after → (group : List ℕ) (what : What (List ℕ))
    → SameStates group what router.machines after.machines
router_quiet_stays moment router after happens group what =
    passes_stay group what moment router after (gone_between router after) happens.passes (between_spare group what router after)

-- up to a timer of another machine
pub router_firing_stays : (moment : ℕ) (router after : RouterState) (f : Firing (List ℕ)) → FiresTo moment router (Some f) after
    → (group : List ℕ) (what : What (List ℕ)) → same_machine group what f.before.key.group f.before.key.what ≡ false
    → SameStates group what router.machines after.machines
router_firing_stays moment router after f fires group what apart =
    same_states_trans group what router.machines fires.before.machines after.machines
    (passes_stay group what moment router fires.before (gone_between router after) fires.passes (between_spare group what router after))
    (turns_stay group what 1 moment fires.before after ((after.machines.moment, timer_fired f) ∷ []) fires.fires (apart, tt))
