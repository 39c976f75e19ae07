-- The events of time that passes lead each machine from what is known of it before to what is known after.
use Rattle.pim_trace.proofs.Words.{◌≡◌, ◌∙◌, ℕ, zero, suc, ◌+◌, ◌==◌, Bool, true, false, List, [], ◌∷◌, ◌++◌, map, filter, ap}
use Rattle.pim_trace.proofs.Words.{subst, list_any, AllByRecursion, Neighbour, Table, is_over, without_ended, Key, Machine}
use Rattle.pim_trace.proofs.Words.{Record, Firing, firing, step_of, same_key, KeysAreDistinct, FiringSaysMore, said_of}
use Rattle.pim_trace.proofs.Words.{IsAscending, state_of_machine, fired, with_records, Happening, timed_out, timer_fired, gone_of}
use Rattle.pim_trace.proofs.Words.{gone_from, fired_of, happens_in, next_of, at_moment, happens_then, in_turns, Refresh}
use Rattle.pim_trace.proofs.Words.{RouterState, with_machines, with_tables, with_refresh, refresh_period, rests, moves}
use Rattle.pim_trace.proofs.Words.{stops_with, has_ended, tick, reported, turn, turn_of_timers, turn_of_time, Occurrence, Causes}
use Rattle.pim_trace.proofs.Words.{Ledger, no_cause, both_by, causes_of, forgetting, states_shown, event_of, after_happening}
use Rattle.pim_trace.proofs.Words.{events_in, after_all, PassesTime, fired_by}
use Rattle.std.proofs.Common.{Option, None, Some, option_map, is_some, unwrap_or, nat_lt, if◌then◌else◌, refl, sym}
use Rattle.pim_down.specs.declared.machines.step.Step.{Step as Fires}
use Rattle.pim_down.specs.declared.machines.step.Step.TheVariants as fires
use Rattle.pim_trace.proofs.Firings.{left_by, Fires as Leaves, turned, firing_leaves, known_left, ascending_later}
use Rattle.pim_trace.proofs.Firings.{millisecond_leaves}
use Rattle.pim_trace.proofs.Folding.{Known, knowing, known_of, tells_firing, Leads, leads_nowhere, leads_past}
use Rattle.pim_trace.proofs.Folding.{leads_first, Place, place, known_at, LeadsAll, all_nowhere, all_on}
use Rattle.pim_trace.proofs.OnTheWay.{events_joined, ledger_joined}

abbrev EventSeen : Type 0
EventSeen = List (ℕ × Happening)

-- ---- neighbours that go tell nothing of machines

-- Nor do they touch what set a timer.
abbrev Mute : Happening → Type 0
Mute happening =
    (ledger : Ledger) →
    ((ms : ℕ) (key : Key (List ℕ)) → states_shown key (event_of ledger ms happening) ≡ None)
    × ((after_happening happening ledger).causes ≡ ledger.causes)

mute_append : (xs ys : List Happening) → AllByRecursion Mute xs → AllByRecursion Mute ys →
    AllByRecursion Mute (xs ++ ys)
mute_append [] ys a b = b
mute_append (x ∷ xs) ys a b = (a.0, mute_append xs ys a.1 b)

mute_map : (port : ℕ) (entries : List (List ℕ × Neighbour)) →
    AllByRecursion Mute (map (λ (entry : List ℕ × Neighbour). timed_out port entry.0) entries)
mute_map port [] = tt
mute_map port (entry ∷ entries) = ((λ ledger. ((λ ms key. refl), refl)), mute_map port entries)

gone_mute : (port : ℕ) (tables : List Table) → AllByRecursion Mute (gone_from port tables)
unfolding gone_from
gone_mute port [] = tt
gone_mute port (table ∷ tables) =
    mute_append (gone_of port table) (gone_from (port + 1) tables)
    (mute_map port (filter (λ (entry : List ℕ × Neighbour). is_over entry.1.left) table.entries))
    (gone_mute (port + 1) tables)

mute_leads : (key : Key (List ℕ)) (held : Option Known) (ms : ℕ) (happenings : List Happening) (ledger : Ledger) →
    AllByRecursion Mute happenings → Leads key held (events_in ledger (at_moment ms happenings)) held
unfolding events_in
mute_leads key held ms [] ledger all = leads_nowhere key held
mute_leads key held ms (x ∷ xs) ledger all =
    leads_past key held held (event_of ledger ms x) (events_in (after_happening x ledger) (at_moment ms xs))
    ((all.0 ledger).0 ms key) (mute_leads key held ms xs (after_happening x ledger) all.1)

mute_causes : (ms : ℕ) (happenings : List Happening) (ledger : Ledger) → AllByRecursion Mute happenings →
    (after_all ledger (at_moment ms happenings)).causes ≡ ledger.causes
unfolding after_all
mute_causes ms [] ledger all = refl
mute_causes ms (x ∷ xs) ledger all =
    mute_causes ms xs (after_happening x ledger) all.1 ∙ (all.0 ledger).1

-- ---- a timer that fires

abbrev fired_event : Ledger → ℕ → Firing (List ℕ) → Occurrence
fired_event ledger ms fire = event_of ledger ms (timer_fired fire)

abbrev ledger_after : Ledger → Firing (List ℕ) → Ledger
ledger_after ledger fire = after_happening (timer_fired fire) ledger

fired_told : (ledger : Ledger) (ms : ℕ) (key : Key (List ℕ)) (fire : Firing (List ℕ)) →
    same_key key fire.before.key ≡ false → states_shown key (fired_event ledger ms fire) ≡ None
fired_told ledger ms key fire other =
    ap (λ b. if b then Some (Some fire.before.machine.state, fire.after) else None) other

-- what is forgotten with a machine that ended is of no machine that is held
still_known : (ledger : Ledger) (ms : ℕ) (fire : Firing (List ℕ)) (machine : Option Machine) →
    fire.after ≡ state_of_machine machine →
    known_of ms (causes_of fire.before.key (ledger_after ledger fire)) machine
    ≡ known_of ms (causes_of fire.before.key ledger) machine
still_known ledger ms fire None after = refl
still_known ledger ms fire (Some machine) after = rw after refl

module _ (apart : KeysAreDistinct) (ms : ℕ) (ledger : Ledger) (records after : List (Record (List ℕ)))
    (fire : Firing (List ℕ)) (leaves : Leaves records fire after) where
  abbrev before' : Place
  before' = record { ms = ms; records = records; causes = ledger.causes }

  abbrev after' : Place
  after' = record { ms = ms; records = after; causes = (ledger_after ledger fire).causes }

  abbrev Leads' : Key (List ℕ) → Type 0
  Leads' key = Leads key (known_at key before') (fired_event ledger ms fire ∷ []) (known_at key after')

  itself_leads : Leads' fire.before.key
  itself_leads =
      let same = (apart fire.before.key fire.before.key).1.1 refl in let both = leaves.itself fire.before.key same in
      let causes = causes_of fire.before.key ledger in
      leads_first fire.before.key (known_at fire.before.key before') (known_at fire.before.key after')
      (known_at fire.before.key after') (fired_event ledger ms fire) []
      (tells_firing (record {
        firing = fired_by ledger fire;
        what = refl;
        affected = same;
        held = knowing ms causes fire.before.machine;
        was = ap (known_of ms causes) both.0;
        before = refl;
        cause = refl;
        now =
            ap (known_of ms (causes_of fire.before.key (ledger_after ledger fire))) both.1
            ∙ still_known ledger ms fire (left_by fire.timer fire.before) leaves.state
            ∙ known_left ms causes (fired_by ledger fire) fire.before fire.timer refl leaves.state;
      }))
      (leads_nowhere fire.before.key (known_at fire.before.key after'))

  kept_cause : (key : Key (List ℕ)) → same_key fire.before.key key ≡ false →
      (ledger_after ledger fire).causes key ≡ ledger.causes key
  kept_cause key other = by (is_some fire.after)
    where
      by : (b : Bool) → (if b then ledger else forgetting fire.before.key ledger).causes key ≡ ledger.causes key
      by true = refl
      by false = rw other refl

  other_leads : (key : Key (List ℕ)) → same_key key fire.before.key ≡ false → Leads' key
  other_leads key other =
      let same : known_at key before' ≡ known_at key after' =
      (λ i. known_of ms (unwrap_or (sym (kept_cause key (turned apart key fire.before.key other)) i)
      (both_by (no_cause key.group))) (leaves.others key other i)) in
      subst (λ (k : Option Known). Leads key (known_at key before') (fired_event ledger ms fire ∷ []) k) same
      (leads_past key (known_at key before') (known_at key before') (fired_event ledger ms fire) []
      (fired_told ledger ms key fire other) (leads_nowhere key (known_at key before')))

  fire_leads : LeadsAll before' (fired_event ledger ms fire ∷ []) after'
  fire_leads = record {
    ascending = leaves.ascending;
    each = λ key.
        elim (same_key key fire.before.key) as (λ b. same_key key fire.before.key ≡ b → Leads' key) [
          | true ↦ λ is. subst Leads' (sym ((apart key fire.before.key).1.0 is)) itself_leads
          | false ↦ λ is. other_leads key is
        ] refl;
  }

-- ---- a turn

none_next : (next : RouterState) → ◌≡◌ {A = Option RouterState} None (Some next) → ⊥
none_next next e = cc

same_next : (next other : RouterState) → ◌≡◌ {A = Option RouterState} (Some other) (Some next) → other ≡ next
same_next next other e = cc

next_told : (answer : Fires (List ℕ)) (state : RouterState) → next_of (reported answer state) ≡ Some state
next_told fires.Reached state = refl
next_told (fires.Echo port group what) state = refl

module _ (apart : KeysAreDistinct) (says_more : FiringSaysMore) (moment : ℕ) (state : RouterState)
    (up : IsAscending state.machines.records) (next : RouterState) (ledger : Ledger) where
  abbrev Leads'' : List Happening → RouterState → Type 0
  Leads'' happenings other =
      let reported : EventSeen = at_moment state.machines.moment happenings in
      LeadsAll (place ledger state) (events_in ledger reported) (place (after_all ledger reported) other)

  nothing : Leads'' [] state
  unfolding events_in after_all
  nothing = all_nowhere (place ledger state) up

  time_leads : firing state.machines.records ≡ None → (b : Bool) →
      next_of (if b then moves (tick state) else rests) ≡ Some next → Leads'' [] next
  unfolding events_in after_all Leads
  time_leads none true e = subst (Leads'' []) (same_next next (tick state) e) (record {
    ascending = ascending_later 1 state.machines.records up;
    each = λ key.
        sym (millisecond_leaves key state.machines.moment (causes_of key ledger) state.machines.records none);
  })
  time_leads none false e = absurd (none_next next e)

  refresh_leads : firing state.machines.records ≡ None → (b : Bool) →
      next_of (if b then stops_with Refresh (with_refresh state refresh_period) else turn_of_time moment state)
      ≡ Some next → Leads'' [] next
  refresh_leads none true e = subst (Leads'' []) (same_next next (with_refresh state refresh_period) e) nothing
  refresh_leads none false e = time_leads none (nat_lt state.machines.moment moment) e

  timers_lead : (o : Option (Firing (List ℕ) × List (Record (List ℕ)))) → firing state.machines.records ≡ o →
      next_of (turn_of_timers moment state (option_map said_of o)) ≡ Some next → Leads'' (fired_of o) next
  unfolding events_in after_all
  timers_lead None is e = refresh_leads is (state.refresh == 0) e
  timers_lead (Some (fire, records)) is e =
      let there = with_machines state (with_records state.machines records) in
      subst (Leads'' (timer_fired fire ∷ [])) (same_next next there (sym (next_told (step_of fire) there) ∙ e))
      (fire_leads apart state.machines.moment ledger state.machines.records records fire
      (firing_leaves apart state.machines.records up fire records is))

  gone_lead : Leads'' (gone_from 0 state.tables) (with_tables state (map without_ended state.tables))
  gone_lead =
      let gone = gone_from 0 state.tables in let ms = state.machines.moment in
      subst
      (λ (causes : Key (List ℕ) → Option (Causes (List ℕ))).
      LeadsAll (place ledger state) (events_in ledger (at_moment ms gone))
      (record { ms = ms; records = state.machines.records; causes = causes }))
      (sym (mute_causes ms gone ledger (gone_mute 0 state.tables)))
      (record {
        ascending = up;
        each = λ key.
            mute_leads key (known_at key (place ledger state)) ms gone ledger (gone_mute 0 state.tables);
      })

  turn_by : (b : Bool) →
      next_of (if b then moves (with_tables state (map without_ended state.tables))
      else turn_of_timers moment state (fired state.machines.records)) ≡ Some next →
      Leads'' (if b then gone_from 0 state.tables else fired_of (firing state.machines.records)) next
  turn_by true e =
      subst (Leads'' (gone_from 0 state.tables))
      (same_next next (with_tables state (map without_ended state.tables)) e) gone_lead
  turn_by false e =
      timers_lead (firing state.machines.records) refl
      (subst
      (λ (o : Option (Fires (List ℕ) × List (Record (List ℕ)))). next_of (turn_of_timers moment state o) ≡ Some next)
      (says_more state.machines.records) e)

  turn_leads : next_of (turn moment state) ≡ Some next → Leads'' (happens_in state) next
  unfolding turn happens_in
  turn_leads e = turn_by (list_any has_ended state.tables) e

-- ---- turn by turn

abbrev End : Type 0
End = Option (EventSeen × RouterState)

pair_of : (some said : EventSeen) (end after : RouterState) → ◌≡◌ {A = End} (Some (some, end)) (Some (said, after)) →
    ◌≡◌ {A = EventSeen × RouterState} (some, end) (said, after)
pair_of some said end after e = cc

no_end : (said : EventSeen) (after : RouterState) → ◌≡◌ {A = End} None (Some (said, after)) → ⊥
no_end said after e = cc

joined : (first said : EventSeen) (after : RouterState) (o : End) → happens_then first o ≡ Some (said, after) →
    (more : EventSeen) × (o ≡ Some (more, after)) × (first ++ more ≡ said)
joined first said after None e = absurd (no_end said after e)
joined first said after (Some (more, end)) e =
    let pairs = pair_of (first ++ more) said end after e in
    (more, ap (λ (x : EventSeen × RouterState). Some (more, x.1)) pairs, ap (λ (x : EventSeen × RouterState). x.0) pairs)

module _ (apart : KeysAreDistinct) (says_more : FiringSaysMore) (moment : ℕ) where
  turns_lead : (turns : ℕ) (state after : RouterState) (said : EventSeen) → IsAscending state.machines.records →
      in_turns turns moment state ≡ Some (said, after) → (ledger : Ledger) →
      LeadsAll (place ledger state) (events_in ledger said) (place (after_all ledger said) after)
  unfolding in_turns events_in after_all
  turns_lead zero state after said up e ledger =
      subst
      (λ (x : EventSeen × RouterState).
      LeadsAll (place ledger state) (events_in ledger x.0) (place (after_all ledger x.0) x.1))
      (pair_of [] said state after e) (all_nowhere (place ledger state) up)
  turns_lead (suc turns) state after said up e ledger =
      let first = at_moment state.machines.moment (happens_in state) in let between = after_all ledger first in
      elim (next_of (turn moment state)) as
      (λ o. next_of (turn moment state) ≡ o →
      LeadsAll (place ledger state) (events_in ledger said) (place (after_all ledger said) after)) [
        | None ↦ λ n. absurd (no_end said after (rw n at e))
        | Some next ↦ λ n.
            let j = joined first said after (in_turns turns moment next) (rw n at e) in
            let one = turn_leads apart says_more moment state up next ledger n in
            let more = turns_lead turns next after j.0 one.ascending j.1 between in
            subst
            (λ (reported : EventSeen).
            LeadsAll (place ledger state) (events_in ledger reported) (place (after_all ledger reported) after)) j.2
            (subst
            (λ (es : List Occurrence).
            LeadsAll (place ledger state) es (place (after_all ledger (first ++ j.0)) after))
            (sym (events_joined first j.0 ledger))
            (subst
            (λ (l : Ledger).
            LeadsAll (place ledger state) (events_in ledger first ++ events_in between j.0) (place l after))
            (sym (ledger_joined first j.0 ledger))
            (all_on (place ledger state) (place between next) (place (after_all between j.0) after)
            (events_in ledger first) (events_in between j.0) one more)))
      ] refl

  pub passing_leads : (ledger ledger' : Ledger) (state after : RouterState) (events : List Occurrence) →
      IsAscending state.machines.records → PassesTime moment ledger state events ledger' after →
      LeadsAll (place ledger state) events (place ledger' after)
  passing_leads ledger ledger' state after events up passes =
      subst (λ (l : Ledger). LeadsAll (place ledger state) events (place l after)) (sym passes.ledger_is)
      (subst
      (λ (es : List Occurrence).
      LeadsAll (place ledger state) es (place (after_all ledger passes.happened) after)) (sym passes.events_are)
      (turns_lead passes.happens.passes.turns state after passes.happened up passes.happens.passes.passed ledger))
