-- Turns of a router in which no neighbour goes, and the next millisecond.
use Rattle.pim_trace.proofs.Words.{◌≡◌, ◌∙◌, ◌<◌, ◌≤◌, ◌+◌, ◌-◌, ◌==◌, ℕ, zero, suc, Bool, true, false, List, [], ◌∷◌, ◌++◌}
use Rattle.pim_trace.proofs.Words.{length, Option, Some, None, nat_lt, if◌then◌else◌, refl, sym, ap, subst, arith, list_any}
use Rattle.pim_trace.proofs.Words.{false≢true, lt-ltb, ltb-true, Neighbour, Table, is_over, without_ended, passed_to, What}
use Rattle.pim_trace.proofs.Words.{Record, Firing, fired, with_records, Happening, timed_out, timer_fired, gone_of, gone_from}
use Rattle.pim_trace.proofs.Words.{gone_within, happens_in, next_of, at_moment, happens_then, in_turns, FiresAfter, Echo, Refresh}
use Rattle.pim_trace.proofs.Words.{RouterState, with_machines, with_tables, with_refresh, refresh_period, Outcome, rests, moves}
use Rattle.pim_trace.proofs.Words.{stops_with, has_ended, tick, turn, turn_of_time, turn_of_timers, gone_by, time_outs}
use Rattle.std.specs.Prelude.{map, filter, not, ◌||◌}
use Rattle.pim_down.specs.declared.machines.step.Step.{Step as Fires}
use Rattle.pim_down.specs.declared.machines.step.Step.TheVariants as fires

abbrev EventSeen : Type 0
EventSeen = List (ℕ × Happening)

abbrev End : Type 0
End = Option (EventSeen × RouterState)

pair_of : (reported said : EventSeen) (end after : RouterState) → ◌≡◌ {A = End} (Some (reported, end)) (Some (said, after)) → ◌≡◌ {A = EventSeen × RouterState} (reported, end) (said, after)
pair_of reported said end after e = cc

no_end : (reported : EventSeen) (after : RouterState) → ◌≡◌ {A = End} None (Some (reported, after)) → ⊥
no_end reported after e = cc

none_some : (next : RouterState) → ◌≡◌ {A = Option RouterState} None (Some next) → ⊥
none_some next e = cc

same_state : (next other : RouterState) → ◌≡◌ {A = Option RouterState} (Some next) (Some other) → next ≡ other
same_state next other e = cc

tells_no_rest : (next : RouterState) → stops_with Refresh next ≡ rests → ⊥
tells_no_rest next e = cc

pub echo_no_rest : (port : ℕ) (group : List ℕ) (what : What (List ℕ)) (next : RouterState) → stops_with (Echo port group what) next ≡ rests → ⊥
echo_no_rest port group what next e = cc

pub moves_no_rest : (next : RouterState) → moves next ≡ rests → ⊥
moves_no_rest next e = cc

-- ---- lists

first_empty : {A : Type 0} (xs ys : List A) → xs ++ ys ≡ [] → xs ≡ []
first_empty [] ys e = refl
first_empty (x ∷ xs) ys e = absurd (let n : suc (length (xs ++ ys)) ≡ 0 = ap length e in omega (arith, n))

second_empty : {A : Type 0} (xs ys : List A) → xs ++ ys ≡ [] → ys ≡ []
second_empty [] ys e = e
second_empty (x ∷ xs) ys e = absurd (let n : suc (length (xs ++ ys)) ≡ 0 = ap length e in omega (arith, n))

both_empty : {A : Type 0} (xs ys : List A) → xs ≡ [] → ys ≡ [] → xs ++ ys ≡ []
both_empty xs ys e f = λ i. e i ++ f i

map_empty : {A B : Type 0} (f : A → B) (xs : List A) → map f xs ≡ [] → xs ≡ []
map_empty f [] e = refl
map_empty f (x ∷ xs) e = absurd (let n : suc (length (map f xs)) ≡ 0 = ap length e in omega (arith, n))

none_kept : {A : Type 0} (test : A → Bool) (xs : List A) → filter test xs ≡ [] → list_any test xs ≡ false
none_kept test [] e = refl
none_kept test (x ∷ xs) e =
    elim (test x) as (λ b. test x ≡ b → list_any test (x ∷ xs) ≡ false) [
      | true ↦ λ is. absurd (let n : length (filter test (x ∷ xs)) ≡ suc (length (filter test xs)) = rw is refl in let m : length (filter test (x ∷ xs)) ≡ 0 = ap length e in omega (arith, n, m))
      | false ↦ λ is. rw is (none_kept test xs (rw is at e))
    ] refl

all_kept : {A : Type 0} (test : A → Bool) (xs : List A) → list_any test xs ≡ false → filter (λ x. not (test x)) xs ≡ xs
all_kept test [] e = refl
all_kept test (x ∷ xs) e =
    elim (test x) as (λ b. test x ≡ b → filter (λ x. not (test x)) (x ∷ xs) ≡ x ∷ xs) [
      | true ↦ λ is. absurd (false≢true (sym e ∙ rw is refl))
      | false ↦ λ is. rw is (ap (λ more. x ∷ more) (all_kept test xs (rw is at e)))
    ] refl

none_passes : {A : Type 0} (test : A → Bool) (xs : List A) → list_any test xs ≡ false → filter test xs ≡ []
none_passes test [] e = refl
none_passes test (x ∷ xs) e =
    elim (test x) as (λ b. test x ≡ b → filter test (x ∷ xs) ≡ []) [
      | true ↦ λ is. absurd (false≢true (sym e ∙ rw is refl))
      | false ↦ λ is. rw is (none_passes test xs (rw is at e))
    ] refl

-- ---- who goes

abbrev over : List ℕ × Neighbour → Bool
over entry = is_over entry.1.left

none_of : (tables : List Table) (port : ℕ) → gone_from port tables ≡ [] → list_any has_ended tables ≡ false
unfolding gone_from
none_of [] port e = refl
none_of (table ∷ tables) port e =
    let here : has_ended table ≡ false = none_kept over table.entries (map_empty _ _ (first_empty (gone_of port table) (gone_from (port + 1) tables) e)) in
    rw here (none_of tables (port + 1) (second_empty (gone_of port table) (gone_from (port + 1) tables) e))

first_false : (a b : Bool) → (a || b) ≡ false → a ≡ false
first_false true b e = e
first_false false b e = refl

second_false : (a b : Bool) → (a || b) ≡ false → b ≡ false
second_false true b e = absurd (false≢true (sym e))
second_false false b e = e

pub stay : (tables : List Table) → list_any has_ended tables ≡ false → map without_ended tables ≡ tables
stay [] e = refl
stay (table ∷ tables) e =
    let here = all_kept over table.entries (first_false (has_ended table) (list_any has_ended tables) e) in
    let others = stay tables (second_false (has_ended table) (list_any has_ended tables) e) in
    λ i. record { moment = table.moment; entries = here i } ∷ others i

pub none_from : (port : ℕ) (tables : List Table) → list_any has_ended tables ≡ false → gone_from port tables ≡ []
unfolding gone_from
none_from port [] e = refl
none_from port (table ∷ tables) e =
    both_empty (gone_of port table) (gone_from (port + 1) tables)
    (ap (map (λ (entry : List ℕ × Neighbour). timed_out port entry.0)) (none_passes over table.entries (first_false (has_ended table) (list_any has_ended tables) e)))
    (none_from (port + 1) tables (second_false (has_ended table) (list_any has_ended tables) e))

-- where nobody goes up to a moment, nobody has ended
pub nobody_ended : (k moment : ℕ) (tables : List Table) → gone_within k moment tables ≡ [] → list_any has_ended tables ≡ false
unfolding gone_within
nobody_ended zero moment tables e = none_of tables 0 (map_empty _ _ e)
nobody_ended (suc k) moment tables e = none_of tables 0 (map_empty _ _ (first_empty (at_moment moment (gone_from 0 tables)) _ e))

-- the later ones
later_gone : (k moment : ℕ) (tables : List Table) → gone_within (suc k) moment tables ≡ [] → gone_within k (moment + 1) (map (passed_to (moment + 1)) tables) ≡ []
unfolding gone_within
later_gone k moment tables e =
    subst (λ ts. gone_within k (moment + 1) (map (passed_to (moment + 1)) ts) ≡ []) (stay tables (nobody_ended (suc k) moment tables e))
    (second_empty (at_moment moment (gone_from 0 tables)) (gone_within k (moment + 1) (map (passed_to (moment + 1)) (map without_ended tables))) e)

-- where nobody goes in some milliseconds, nobody goes in fewer
pub fewer_gone : (j k moment : ℕ) (tables : List Table) → j ≤ k → gone_within k moment tables ≡ [] → gone_within j moment tables ≡ []
unfolding gone_within
fewer_gone zero zero moment tables le e = e
fewer_gone zero (suc k) moment tables le e = first_empty (at_moment moment (gone_from 0 tables)) _ e
fewer_gone (suc j) zero moment tables le e = absurd (omega (arith, le))
fewer_gone (suc j) (suc k) moment tables le e =
    both_empty (at_moment moment (gone_from 0 tables)) (gone_within j (moment + 1) (map (passed_to (moment + 1)) (map without_ended tables)))
    (first_empty (at_moment moment (gone_from 0 tables)) _ e)
    (fewer_gone j k (moment + 1) (map (passed_to (moment + 1)) (map without_ended tables)) (omega (arith, le)) (second_empty (at_moment moment (gone_from 0 tables)) _ e))

-- those who go in the next millisecond
gone_next : (moment : ℕ) (tables : List Table) → list_any has_ended tables ≡ false → gone_within (suc zero) moment tables ≡ time_outs (moment + 1) tables
unfolding gone_within
gone_next moment tables none =
    ap (λ (h : List Happening). at_moment moment h ++ at_moment (moment + 1) (gone_from 0 (map (passed_to (moment + 1)) (map without_ended tables)))) (none_from 0 tables none)
    ∙ ap (λ ts. at_moment (moment + 1) (gone_from 0 (map (passed_to (moment + 1)) ts))) (stay tables none)

-- ---- one turn

-- what a turn that goes on does: neighbours go, or nothing happens to them, or a millisecond passes
data Went (moment : ℕ) (state next : RouterState) : Type 0 where
  left : list_any has_ended state.tables ≡ true → Went moment state next
  stayed : list_any has_ended state.tables ≡ false → next.tables ≡ state.tables → next.machines.moment ≡ state.machines.moment → Went moment state next
  waited : list_any has_ended state.tables ≡ false → next ≡ tick state → state.machines.moment < moment → Went moment state next

module _ (moment : ℕ) (state next : RouterState) (none : list_any has_ended state.tables ≡ false) where
  by_time : (b : Bool) → nat_lt state.machines.moment moment ≡ b → next_of (if b then moves (tick state) else rests) ≡ Some next → Went moment state next
  by_time true is h = waited none (sym (same_state (tick state) next h)) (ltb-true state.machines.moment moment is)
  by_time false is h = absurd (none_some next h)

  by_refresh : (b : Bool) → next_of (if b then stops_with Refresh (with_refresh state refresh_period) else turn_of_time moment state) ≡ Some next → Went moment state next
  by_refresh true h =
      let is : with_refresh state refresh_period ≡ next = same_state (with_refresh state refresh_period) next h in
      stayed none (ap (λ (x : RouterState). x.tables) (sym is)) (ap (λ (x : RouterState). x.machines.moment) (sym is))
  by_refresh false h = by_time (nat_lt state.machines.moment moment) refl h

  by_firing : (records : List (Record (List ℕ))) → with_machines state (with_records state.machines records) ≡ next → Went moment state next
  by_firing records is = stayed none (ap (λ (x : RouterState). x.tables) (sym is)) (ap (λ (x : RouterState). x.machines.moment) (sym is))

  by_timers : (o : Option (Fires (List ℕ) × List (Record (List ℕ)))) → next_of (turn_of_timers moment state o) ≡ Some next → Went moment state next
  by_timers None h = by_refresh (state.refresh == 0) h
  by_timers (Some (fires.Reached, records)) h = by_firing records (same_state (with_machines state (with_records state.machines records)) next h)
  by_timers (Some (fires.Echo port group what, records)) h = by_firing records (same_state (with_machines state (with_records state.machines records)) next h)

by_ended : (moment : ℕ) (state next : RouterState) (b : Bool) → list_any has_ended state.tables ≡ b →
    next_of (if b then moves (with_tables state (map without_ended state.tables)) else turn_of_timers moment state (fired state.machines.records)) ≡ Some next → Went moment state next
by_ended moment state next true is h = left is
by_ended moment state next false is h = by_timers moment state next is (fired state.machines.records) h

went : (moment : ℕ) (state next : RouterState) → next_of (turn moment state) ≡ Some next → Went moment state next
unfolding turn
went moment state next h = by_ended moment state next (list_any has_ended state.tables) refl h

-- ---- turns

joined : (first reported : EventSeen) (after : RouterState) (o : End) → happens_then first o ≡ Some (reported, after) → (more : EventSeen) × (o ≡ Some (more, after)) × (first ++ more ≡ reported)
joined first reported after None e = absurd (no_end reported after e)
joined first reported after (Some (more, end)) e =
    let pairs = pair_of (first ++ more) reported end after e in
    (more, ap (λ (x : EventSeen × RouterState). Some (more, x.1)) pairs, ap (λ (x : EventSeen × RouterState). x.0) pairs)

-- a predicate on states that holds after turns if each turn keeps it
module _ (moment : ℕ) (P : RouterState → RouterState → Type 0) (none : (state : RouterState) → P state state)
    (more : (state next after : RouterState) → next_of (turn moment state) ≡ Some next → P next after → P state after) where
  by_turns : (turns : ℕ) (state after : RouterState) (reported : EventSeen) → in_turns turns moment state ≡ Some (reported, after) → P state after
  unfolding in_turns
  by_turns zero state after reported e = subst (λ (x : EventSeen × RouterState). P state x.1) (pair_of [] reported state after e) (none state)
  by_turns (suc turns) state after reported e =
      elim (next_of (turn moment state)) as (λ o. next_of (turn moment state) ≡ o → P state after) [
        | None ↦ λ n. absurd (no_end reported after (rw n at e))
        | Some next ↦ λ n.
            let j = joined (at_moment state.machines.moment (happens_in state)) reported after (in_turns turns moment next) (rw n at e) in
            more state next after n (by_turns turns next after j.0 j.1)
      ] refl

-- no turn lowers the moment
not_earlier : (moment : ℕ) (state next after : RouterState) → Went moment state next → next_of (turn moment state) ≡ Some next →
    next.machines.moment ≤ after.machines.moment → state.machines.moment ≤ after.machines.moment
unfolding turn
not_earlier moment state next after (left some) h le =
    let is : with_tables state (map without_ended state.tables) ≡ next = same_state (with_tables state (map without_ended state.tables)) next (rw some at h) in
    let same : next.machines.moment ≡ state.machines.moment = ap (λ (x : RouterState). x.machines.moment) (sym is) in
    omega (arith, same, le)
not_earlier moment state next after (stayed none same_tables same) h le = omega (arith, same, le)
not_earlier moment state next after (waited none is less) h le =
    let later : next.machines.moment ≡ state.machines.moment + 1 = ap (λ (x : RouterState). x.machines.moment) is in
    omega (arith, later, le)

pub moment_rises : (moment turns : ℕ) (state after : RouterState) (reported : EventSeen) → in_turns turns moment state ≡ Some (reported, after) → state.machines.moment ≤ after.machines.moment
moment_rises moment =
    by_turns moment (λ state after. state.machines.moment ≤ after.machines.moment) (λ state. omega arith)
    (λ state next after h le. not_earlier moment state next after (went moment state next h) h le)

-- where nobody goes up to a later moment, nobody goes after some turns
abbrev KeepsNobody : ℕ → RouterState → RouterState → Type 0
KeepsNobody later state after = gone_by later state ≡ [] → gone_by later after ≡ []

keeps_nobody : (moment later : ℕ) (state next after : RouterState) → moment ≤ later → Went moment state next → KeepsNobody later next after → KeepsNobody later state after
keeps_nobody moment later state next after le (left some) keeps e =
    absurd (false≢true (sym (nobody_ended (later - state.machines.moment) state.machines.moment state.tables e) ∙ some))
keeps_nobody moment later state next after le (stayed none tables same) keeps e =
    keeps ((λ i. gone_within (later - same i) (same i) (tables i)) ∙ e)
keeps_nobody moment later state next after le (waited none is less) keeps e =
    let more : later - state.machines.moment ≡ suc (later - (state.machines.moment + 1)) = omega (arith, less, le) in
    let there : gone_by later (tick state) ≡ [] =
    later_gone (later - (state.machines.moment + 1)) state.machines.moment state.tables
    (ap (λ k. gone_within k state.machines.moment state.tables) (sym more) ∙ e) in
    keeps (ap (gone_by later) is ∙ there)

pub nobody_later : (moment later turns : ℕ) (state after : RouterState) (reported : EventSeen) → moment ≤ later → in_turns turns moment state ≡ Some (reported, after) → KeepsNobody later state after
nobody_later moment later turns state after reported le =
    by_turns moment (KeepsNobody later) (λ state e. e) (λ state next after h keeps. keeps_nobody moment later state next after le (went moment state next h) keeps) turns state after reported

-- ---- where nothing is left to do in the present millisecond

-- the next turn up to a later moment only lets a millisecond pass
module _ (state : RouterState) (moment : ℕ) (less : state.machines.moment < moment) where
  time_passes : turn_of_time moment state ≡ moves (tick state)
  time_passes = rw (lt-ltb state.machines.moment moment less) refl

  refresh_not : (b : Bool) (next : RouterState) (one : Outcome) → (if b then stops_with Refresh next else one) ≡ rests →
      (if b then stops_with Refresh next else turn_of_time moment state) ≡ moves (tick state)
  refresh_not true next one h = absurd (tells_no_rest next h)
  refresh_not false next one h = time_passes

  timers_not : (o : Option (Fires (List ℕ) × List (Record (List ℕ)))) → turn_of_timers state.machines.moment state o ≡ rests → turn_of_timers moment state o ≡ moves (tick state)
  timers_not None h = refresh_not (state.refresh == 0) (with_refresh state refresh_period) (turn_of_time state.machines.moment state) h
  timers_not (Some (fires.Reached, records)) h = absurd (moves_no_rest (with_machines state (with_records state.machines records)) h)
  timers_not (Some (fires.Echo port group what, records)) h = absurd (echo_no_rest port group what (with_machines state (with_records state.machines records)) h)

  ended_not : (b : Bool) → (if b then moves (with_tables state (map without_ended state.tables)) else turn_of_timers state.machines.moment state (fired state.machines.records)) ≡ rests →
      (if b then moves (with_tables state (map without_ended state.tables)) else turn_of_timers moment state (fired state.machines.records)) ≡ moves (tick state)
  ended_not true h = absurd (moves_no_rest (with_tables state (map without_ended state.tables)) h)
  ended_not false h = timers_not (fired state.machines.records) h

  pub only_time : turn state.machines.moment state ≡ rests → turn moment state ≡ moves (tick state)
  unfolding turn
  only_time h = ended_not (list_any has_ended state.tables) h

pub nobody_now : (state : RouterState) → turn state.machines.moment state ≡ rests → list_any has_ended state.tables ≡ false
unfolding turn
nobody_now state h =
    elim (list_any has_ended state.tables) as (λ b. list_any has_ended state.tables ≡ b → list_any has_ended state.tables ≡ false) [
      | true ↦ λ is. absurd (moves_no_rest (with_tables state (map without_ended state.tables)) (rw is at h))
      | false ↦ λ is. is
    ] refl

-- the moment of what happens in one turn
head_moment : (moment later : ℕ) (happens : List Happening) (one : Happening) → at_moment moment happens ++ [] ≡ (later, one) ∷ [] → moment ≡ later
head_moment moment later [] one e = absurd (let n : 0 ≡ suc zero = ap length e in omega (arith, n))
head_moment moment later (happening ∷ happens) one e = ap (λ (l : EventSeen). first_moment l) e
  where
    first_moment : EventSeen → ℕ
    first_moment [] = moment
    first_moment (x ∷ l) = x.0

-- a timer that fires in one turn fires at the moment before it
fires_now : (moment : ℕ) (before after : RouterState) (reported : Happening) → in_turns (suc zero) moment before ≡ Some ((after.machines.moment, reported) ∷ [], after) →
    before.machines.moment ≡ after.machines.moment
unfolding in_turns
fires_now moment before after reported e =
    elim (next_of (turn moment before)) as (λ o. next_of (turn moment before) ≡ o → before.machines.moment ≡ after.machines.moment) [
      | None ↦ λ n. absurd (no_end ((after.machines.moment, reported) ∷ []) after (rw n at e))
      | Some next ↦ λ n.
          let pairs = pair_of (at_moment before.machines.moment (happens_in before) ++ []) ((after.machines.moment, reported) ∷ []) next after (rw n at e) in
          head_moment before.machines.moment after.machines.moment (happens_in before) reported (ap (λ (x : EventSeen × RouterState). x.0) pairs)
    ] refl

-- a timer that fires in the next millisecond fires at its end
-- the turns before it, after the first
turns_before : (end turns : ℕ) (state before : RouterState) (reported : EventSeen) → state.machines.moment + 1 ≡ end → turn end state ≡ moves (tick state) →
    in_turns (suc turns) end state ≡ Some (reported, before) → end ≤ before.machines.moment
unfolding in_turns
turns_before end turns state before reported next first e =
    let j = joined (at_moment state.machines.moment (happens_in state)) reported before (in_turns turns end (tick state)) (rw first at e) in
    let rises = moment_rises end turns (tick state) before j.0 j.1 in
    let later : (tick state).machines.moment ≡ state.machines.moment + 1 = refl in
    omega (arith, rises, later, next)

-- no turn before it
no_turn_before : (end : ℕ) (state before after : RouterState) (said : EventSeen) (reported : Happening) → state.machines.moment + 1 ≡ end → turn end state ≡ moves (tick state) →
    in_turns zero end state ≡ Some (said, before) → in_turns (suc zero) end before ≡ Some ((after.machines.moment, reported) ∷ [], after) → end ≤ after.machines.moment
unfolding in_turns
no_turn_before end state before after said reported next first e fires =
    let same : state ≡ before = ap (λ (x : EventSeen × RouterState). x.1) (pair_of [] said state before e) in
    turns_before end zero state after ((after.machines.moment, reported) ∷ []) next first (ap (in_turns (suc zero) end) same ∙ fires)

by_number : (end turns : ℕ) (state before after : RouterState) (said : EventSeen) (reported : Happening) → state.machines.moment + 1 ≡ end → turn end state ≡ moves (tick state) →
    in_turns turns end state ≡ Some (said, before) → in_turns (suc zero) end before ≡ Some ((after.machines.moment, reported) ∷ [], after) → end ≤ after.machines.moment
by_number end zero state before after said reported next first e fires = no_turn_before end state before after said reported next first e fires
by_number end (suc turns) state before after said reported next first e fires =
    let same = fires_now end before after reported fires in
    let later = turns_before end turns state before said next first e in
    omega (arith, same, later)

pub fires_later : (end : ℕ) (state after : RouterState) (reported : Firing (List ℕ)) → state.machines.moment + 1 ≡ end → turn state.machines.moment state ≡ rests →
    FiresAfter end state reported after → end ≤ after.machines.moment
fires_later end state after reported next quiet f =
    by_number end f.passes.turns state f.before after _ (timer_fired reported) next (only_time state end (omega (arith, next)) quiet) f.passes.passed f.fires

-- those who go up to the end of the next millisecond
pub gone_in_next : (end : ℕ) (state after : RouterState) → state.machines.moment + 1 ≡ end → turn state.machines.moment state ≡ rests → after.machines.moment ≡ end →
    gone_within (after.machines.moment - state.machines.moment) state.machines.moment state.tables ≡ time_outs end state.tables
gone_in_next end state after next quiet there =
    let one : after.machines.moment - state.machines.moment ≡ suc zero = omega (arith, next, there) in
    ap (λ k. gone_within k state.machines.moment state.tables) one
    ∙ gone_next state.machines.moment state.tables (nobody_now state quiet)
    ∙ ap (λ m. time_outs m state.tables) next
