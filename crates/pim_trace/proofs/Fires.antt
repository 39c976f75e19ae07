-- Calls of `fire_to` where no neighbour goes, and over the next millisecond.
use Rattle.pim_trace.proofs.Words.{◌≡◌, ◌∙◌, ◌<◌, ◌≤◌, ◌+◌, ◌-◌, ℕ, zero, suc, Bool, true, false, max, nat_lt, List, [], ◌∷◌}
use Rattle.pim_trace.proofs.Words.{◌++◌, Option, Some, None, if◌then◌else◌, refl, sym, ap, subst, arith, append-nil, list_any}
use Rattle.pim_trace.proofs.Words.{AllByRecursion, false≢true, lt-leb, ltb-true, ltb-false, Neighbour, Table, is_over}
use Rattle.pim_trace.proofs.Words.{without_ended, passed_to, Record, Firing, firing, FiringSaysMore, said_of, fired, with_records}
use Rattle.pim_trace.proofs.Words.{Happening, timer_fired, gone_from, gone_within, gone_between, happens_in, fired_of, at_moment}
use Rattle.pim_trace.proofs.Words.{in_turns, Passes, Happens, FiresAfter, first_timeout, FiringPasses}
use Rattle.pim_trace.proofs.Words.{NobodyGoesBeforeFirstTimeout, HasTime, IsCurrent, IsRouter, RouterState, with_machines}
use Rattle.pim_trace.proofs.Words.{with_tables, rests, moves, has_ended, tick, turn, turn_of_timers, gone_by, time_outs}
use Rattle.std.specs.Prelude.{map, option_map, is_some}
use Rattle.pim_hello.specs.Laws.{comes_by}
use Rattle.pim_down.specs.declared.machines.step.Step.{Step as Fires}
use Rattle.pim_down.specs.declared.machines.step.Step.TheVariants as fires
use Rattle.pim_trace.proofs.Schedule.{fewer_gone, nobody_later, fires_later, gone_in_next, only_time, nobody_now, moves_no_rest, echo_no_rest, none_from}

abbrev EventSeen : Type 0
EventSeen = List (ℕ × Happening)

-- ---- where no neighbour goes

nobody_between : (moment : ℕ) (state after : RouterState) → after.machines.moment ≤ max state.machines.moment moment → gone_by moment state ≡ [] → gone_between state after ≡ []
nobody_between moment state after within none =
    fewer_gone (after.machines.moment - state.machines.moment) (moment - state.machines.moment) state.machines.moment state.tables (omega (arith, within)) none

pub fires_alone : FiringPasses → (moment : ℕ) (state after : RouterState) (reported : Firing (List ℕ)) → after.machines.moment ≤ max state.machines.moment moment → gone_by moment state ≡ [] →
    FiresAfter moment state reported after → Passes moment state ((after.machines.moment, timer_fired reported) ∷ []) after
fires_alone law moment state after reported within none f =
    subst (λ (l : EventSeen). Passes moment state (l ++ (after.machines.moment, timer_fired reported) ∷ []) after) (nobody_between moment state after within none) (law moment state after reported f)

pub nobody_after : (moment : ℕ) (state after : RouterState) (reported : Firing (List ℕ)) → gone_by moment state ≡ [] → FiresAfter moment state reported after → gone_by moment after ≡ []
nobody_after moment state after reported none f =
    nobody_later moment moment (suc zero) f.before after _ (omega arith) f.fires (nobody_later moment moment f.passes.turns state f.before _ (omega arith) f.passes.passed none)

pub ends_alone : (moment : ℕ) (state after : RouterState) → after.machines.moment ≤ max state.machines.moment moment → gone_by moment state ≡ [] →
    Happens moment state (gone_between state after) after → Happens moment state [] after
ends_alone moment state after within none happens = subst (λ (l : EventSeen). Happens moment state l after) (nobody_between moment state after within none) happens

-- where nobody's time is over by a moment, nobody goes up to it
pub nobody_by : NobodyGoesBeforeFirstTimeout → (moment : ℕ) (state : RouterState) → IsRouter state → state.machines.moment ≤ moment → comes_by moment (first_timeout state.tables) ≡ false → gone_by moment state ≡ []
nobody_by law moment state sound le none =
    let sum : state.machines.moment + (moment - state.machines.moment) ≡ moment = omega (arith, le) in
    law state (moment - state.machines.moment) sound (ap (λ m. comes_by m (first_timeout state.tables)) sum ∙ none)

-- ---- nobody goes at the present moment

none_over : (entries : List (List ℕ × Neighbour)) → AllByRecursion HasTime entries → list_any (λ (entry : List ℕ × Neighbour). is_over entry.1.left) entries ≡ false
none_over [] all = refl
none_over (e ∷ es) all = rw all.0 (none_over es all.1)

none_current : (moment : ℕ) (tables : List Table) → AllByRecursion (IsCurrent moment) tables → list_any has_ended tables ≡ false
none_current moment [] all = refl
none_current moment (table ∷ tables) all = rw (none_over table.entries all.0.none_ended) (none_current moment tables all.1)

pub nobody_at : (moment : ℕ) (state : RouterState) → IsRouter state → moment ≤ state.machines.moment → gone_by moment state ≡ []
unfolding gone_within
nobody_at moment state sound le =
    let none_left : moment - state.machines.moment ≡ zero = omega (arith, le) in
    ap (λ k. gone_within k state.machines.moment state.tables) none_left
    ∙ ap (at_moment state.machines.moment) (none_from 0 state.tables (none_current state.machines.moment state.tables sound.current))

-- the same, where the moment may be earlier than the present one
pub nobody_until : NobodyGoesBeforeFirstTimeout → (moment : ℕ) (state : RouterState) → IsRouter state → comes_by moment (first_timeout state.tables) ≡ false → gone_by moment state ≡ []
nobody_until law moment state sound none =
    elim (nat_lt moment state.machines.moment) as (λ b. nat_lt moment state.machines.moment ≡ b → gone_by moment state ≡ []) [
      | true ↦ λ is. let less : moment < state.machines.moment = ltb-true moment state.machines.moment is in nobody_at moment state sound (omega (arith, less))
      | false ↦ λ is. nobody_by law moment state sound (ltb-false moment state.machines.moment is) none
    ] refl

-- nobody goes before the first moment at which the time of one is over
pub nobody_before : NobodyGoesBeforeFirstTimeout → (end : ℕ) (state : RouterState) → IsRouter state → first_timeout state.tables ≡ Some end → state.machines.moment < end → gone_by (end - 1) state ≡ []
nobody_before law end state sound first less =
    nobody_by law (end - 1) state sound (omega (arith, less))
    (ap (comes_by (end - 1)) first ∙ lt-leb end (end - 1) (omega (arith, less)))

-- ---- the next millisecond

module _ (end : ℕ) (state : RouterState) (next : state.machines.moment + 1 ≡ end) (quiet : turn state.machines.moment state ≡ rests) where
  pub ends_next : (after : RouterState) → after.machines.moment ≡ end → Happens end state (gone_between state after) after → Happens end state (time_outs end state.tables) after
  ends_next after there happens = subst (λ (l : EventSeen). Happens end state l after) (gone_in_next end state after next quiet there) happens

  pub there_next : (after : RouterState) (reported : Firing (List ℕ)) → after.machines.moment ≤ max state.machines.moment end → FiresAfter end state reported after → after.machines.moment ≡ end
  there_next after reported within f = let later = fires_later end state after reported next quiet f in omega (arith, later, within, next)

  pub fires_next : FiringPasses → (after : RouterState) (reported : Firing (List ℕ)) → after.machines.moment ≤ max state.machines.moment end → FiresAfter end state reported after →
      Passes end state (time_outs end state.tables ++ (end, timer_fired reported) ∷ []) after
  fires_next law after reported within f =
      let there = there_next after reported within f in
      subst (λ (l : EventSeen). Passes end state (l ++ (end, timer_fired reported) ∷ []) after) (gone_in_next end state after next quiet there)
      (subst (λ m. Passes end state (gone_between state after ++ (m, timer_fired reported) ∷ []) after) there (law end state after reported f))

  -- no timer fires in the present millisecond
  none_fired : (b : Bool) (o : Option (Fires (List ℕ) × List (Record (List ℕ)))) →
      (if b then moves (with_tables state (map without_ended state.tables)) else turn_of_timers state.machines.moment state o) ≡ rests → o ≡ None
  none_fired true o h = absurd (moves_no_rest (with_tables state (map without_ended state.tables)) h)
  none_fired false None h = refl
  none_fired false (Some (fires.Reached, records)) h = absurd (moves_no_rest (with_machines state (with_records state.machines records)) h)
  none_fired false (Some (fires.Echo port group what, records)) h = absurd (echo_no_rest port group what (with_machines state (with_records state.machines records)) h)

  fired_none : fired state.machines.records ≡ None
  unfolding turn
  fired_none = none_fired (list_any has_ended state.tables) (fired state.machines.records) quiet

  firing_none : FiringSaysMore → firing state.machines.records ≡ None
  firing_none more =
      elim (firing state.machines.records) as (λ o. firing state.machines.records ≡ o → o ≡ None) [
        | None ↦ λ is. refl
        | Some x ↦ λ is. absurd (false≢true (ap is_some (sym fired_none ∙ more state.machines.records ∙ ap (option_map said_of) is)))
      ] refl

  nothing_happens : FiringSaysMore → happens_in state ≡ []
  unfolding happens_in
  nothing_happens more = rw (nobody_now state quiet) (ap fired_of (firing_none more))

  first_turn : turn end state ≡ moves (tick state)
  first_turn = only_time state end (omega (arith, next)) quiet

  -- the turns of those who go
  one_turn : FiringSaysMore → list_any has_ended (map (passed_to (state.machines.moment + 1)) state.tables) ≡ false →
      in_turns (suc zero) end state ≡ Some (time_outs end state.tables, tick state)
  unfolding in_turns
  one_turn more none =
      rw (first_turn, nothing_happens more)
      (ap (λ (l : EventSeen). Some (l, tick state)) (sym (ap (λ m. time_outs m state.tables) (sym next)
      ∙ ap (at_moment (state.machines.moment + 1)) (none_from 0 (map (passed_to (state.machines.moment + 1)) state.tables) none))))

  gone_turn : list_any has_ended (map (passed_to (state.machines.moment + 1)) state.tables) ≡ true →
      turn end (tick state) ≡ moves (with_tables (tick state) (map without_ended (tick state).tables))
  unfolding turn
  gone_turn some = rw some refl

  gone_here : list_any has_ended (map (passed_to (state.machines.moment + 1)) state.tables) ≡ true → happens_in (tick state) ≡ gone_from 0 (tick state).tables
  unfolding happens_in
  gone_here some = rw some refl

  two_turns : FiringSaysMore → list_any has_ended (map (passed_to (state.machines.moment + 1)) state.tables) ≡ true →
      in_turns (suc (suc zero)) end state ≡ Some (time_outs end state.tables, with_tables (tick state) (map without_ended (tick state).tables))
  unfolding in_turns
  two_turns more some =
      rw (first_turn, nothing_happens more, gone_turn some, gone_here some)
      (ap (λ (l : EventSeen). Some (l, with_tables (tick state) (map without_ended (tick state).tables)))
      (append-nil (time_outs (state.machines.moment + 1) state.tables) ∙ ap (λ m. time_outs m state.tables) next))

  -- the neighbours whose time is over at the end of the millisecond go in some turns
  pub record TheyGo : Type 0 where
    pub after : RouterState
    pub passes : Passes end state (time_outs end state.tables) after

  pub they_go : FiringSaysMore → TheyGo
  they_go more =
      elim (list_any has_ended (map (passed_to (state.machines.moment + 1)) state.tables))
      as (λ b. list_any has_ended (map (passed_to (state.machines.moment + 1)) state.tables) ≡ b → TheyGo) [
        | true ↦ λ is. record {
          after = with_tables (tick state) (map without_ended (tick state).tables);
          passes = record { turns = suc (suc zero); passed = two_turns more is };
        }
        | false ↦ λ is. record { after = tick state; passes = record { turns = suc zero; passed = one_turn more is } }
      ] refl
