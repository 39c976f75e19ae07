-- Runs that stop at the first timer that fires.
use Rattle.pim_down.proofs.Words.{◌≡◌, ℕ, zero, suc, ◌+◌, ◌-◌, ◌<◌, ◌≤◌, true, false, List, Option, Some, None, ltb, max, refl, sym, ap, subst, ◌∙◌, arith, is_some, false≢true, ltb-true, ltb-false, AddressFamily, Held, Record, Firing, Step, Reached, first_end, ends_by, firing, fired_in, firing_in, step_of, FiresTo, RunIsAChainOfFirings, FiringHasOneEnd, downstream_at, records_seen, shown, IsSound, Downstream, fired, tick, ticks, turn, moves, echoes, with_records, IsQuietFor, Runs}
use Rattle.pim_down.proofs.FirstDue.{fired_with}
use Rattle.pim_down.proofs.Jumps.{ticks_shown, quiet_until, due_shown, not_yet}
use Rattle.pim_down.proofs.Kept.{kept_later, kept_fired, sound_kept}
use Rattle.pim_down.proofs.Time.{ticks_is, run_more, run_echo, run_rest, turn_passes, turn_rests}

abbrev pub Left : Type 0
Left = Option (Firing (List ℕ) × Downstream)

-- ---- what the code does

module _ {A : Type 0} (bytes_of : A → List ℕ) (ports limit moment now : ℕ) (records : List (Held A)) where
  abbrev start : Downstream
  start = downstream_at bytes_of ports limit now records

  -- the first timer fires at its end
  pub fires_at : (ends : ℕ) (left : List (Held A)) (reported : Firing (List ℕ)) → now ≤ ends → ends ≤ max now moment → first_end (records_seen bytes_of records) ≡ Some ends →
      firing (shown bytes_of ends records) ≡ Some (reported, shown bytes_of ends left) →
      FiresTo moment start (Some reported) (downstream_at bytes_of ports limit ends left)
  fires_at ends left reported from by first fires =
      let n : now + (ends - now) ≡ ends = omega (arith, from) in
      let there : ticks (ends - now) start ≡ downstream_at bytes_of ports limit ends records =
      ticks_shown bytes_of ports limit (ends - now) now records ∙ ap (λ (m : ℕ). downstream_at bytes_of ports limit m records) n in (
        by,
        quiet_until bytes_of ports limit now (ends - now) ends records first (omega (arith, from)),
        ap firing_in there ∙ ap (fired_in (downstream_at bytes_of ports limit ends records)) fires,
      )

  -- nothing ends by the last moment
  pub fires_none : (last : ℕ) → last ≡ max now moment → ends_by last (first_end (records_seen bytes_of records)) ≡ false →
      FiresTo moment start None (downstream_at bytes_of ports limit last records)
  fires_none last is quiet =
      let n : now + (moment - now) ≡ last = omega (arith, is) in (
        λ j h. due_shown bytes_of ports limit j now records ∙ not_yet bytes_of (now + j) last (first_end (records_seen bytes_of records)) (omega (arith, is, h)) quiet,
        sym (ticks_shown bytes_of ports limit (moment - now) now records ∙ ap (λ (m : ℕ). downstream_at bytes_of ports limit m records) n),
      )

-- ---- one firing

pair_after : (reported said : Firing (List ℕ)) (end after : Downstream) → ◌≡◌ {A = Left} (Some (reported, end)) (Some (said, after)) → ◌≡◌ {A = Firing (List ℕ) × Downstream} (reported, end) (said, after)
pair_after reported said end after e = cc

no_firing : (said : Firing (List ℕ)) (after : Downstream) → ◌≡◌ {A = Left} None (Some (said, after)) → ⊥
no_firing said after e = cc

-- the timer that fires in a state, and the records that it leaves
pub left_by : (state after : Downstream) (reported : Firing (List ℕ)) → firing_in state ≡ Some (reported, after) →
    (records : List (Record (List ℕ))) × (firing state.records ≡ Some (reported, records)) × (with_records state records ≡ after)
left_by state after reported e = by (firing state.records) refl e
  where
    by : (o : Option (Firing (List ℕ) × List (Record (List ℕ)))) → firing state.records ≡ o → fired_in state o ≡ Some (reported, after) →
        (records : List (Record (List ℕ))) × (firing state.records ≡ Some (reported, records)) × (with_records state records ≡ after)
    by None is f = absurd (no_firing reported after f)
    by (Some (said, records)) is f =
        let pairs = pair_after said reported (with_records state records) after f in (
          records,
          is ∙ ap (λ (x : Firing (List ℕ) × Downstream). Some (x.0, records)) pairs,
          ap (λ (x : Firing (List ℕ) × Downstream). x.1) pairs,
        )

-- something is due where a timer fires
pub due_at_firing : (state after : Downstream) (reported : Firing (List ℕ)) → firing_in state ≡ Some (reported, after) → is_some (fired state.records) ≡ true
due_at_firing state after reported e =
    let left = left_by state after reported e in
    ap is_some (fired_with state.records left.0 reported left.1)

-- ---- soundness

sound_ticks : (family : AddressFamily) (k : ℕ) (state : Downstream) → state.moment + k ≤ 1000000000000000 → IsSound family state → IsSound family (ticks k state)
sound_ticks family k state small sound =
    subst (IsSound family) (sym (ticks_is k state)) (sound_kept family state (state.moment + k) _ small (kept_later k state.records) sound)

sound_firing : (family : AddressFamily) (state after : Downstream) (reported : Firing (List ℕ)) → firing_in state ≡ Some (reported, after) → IsSound family state → IsSound family after
sound_firing family state after reported e sound =
    let left = left_by state after reported e in
    subst (IsSound family) left.2 (sound_kept family state state.moment left.0 sound.moment (kept_fired state.records left.0 (step_of reported) (fired_with state.records left.0 reported left.1)) sound)

pub sound_fires : (family : AddressFamily) (moment : ℕ) (state after : Downstream) (o : Option (Firing (List ℕ))) → moment ≤ 1000000000000000 → IsSound family state → FiresTo moment state o after → IsSound family after
sound_fires family moment state after None small sound (quiet, is) =
    let now = sound.moment in
    subst (IsSound family) (sym is) (sound_ticks family (moment - state.moment) state (omega (arith, small, now)) sound)
sound_fires family moment state after (Some reported) small sound (by, quiet, fires) =
    let now = sound.moment in
    sound_firing family (ticks (after.moment - state.moment) state) after reported fires
    (sound_ticks family (after.moment - state.moment) state (omega (arith, small, now, by)) sound)

-- ---- a run of `Time` is a chain of them

quiet_runs : (k moment : ℕ) (state after : Downstream) (answer : Step (List ℕ)) → IsQuietFor k state → (0 < k → state.moment + k ≤ moment) → Runs moment (ticks k state) answer after → Runs moment state answer after
unfolding ticks
quiet_runs zero moment state after answer quiet within runs = runs
quiet_runs (suc k) moment state after answer quiet within runs =
    let by : state.moment + suc k ≤ moment = within (omega arith) in
    let later : IsQuietFor k (tick state) = λ j h. quiet (suc j) (omega (arith, h)) in
    run_more moment state (tick state) after answer (turn_passes moment state (quiet 0 (omega arith)) (omega (arith, by)))
    (quiet_runs k moment (tick state) after answer later (λ some. omega (arith, by)) runs)

none_runs : (moment : ℕ) (state next : Downstream) → FiresTo moment state None next → Runs moment state Reached next
none_runs moment state next (quiet, is) =
    let k : ℕ = moment - state.moment in
    let there = ap (λ (s : Downstream). s.moment) (ticks_is k state) in
    subst (Runs moment state Reached) (sym is)
    (quiet_runs k moment state (ticks k state) Reached (λ j h. quiet j (omega (arith, h))) (λ some. omega (arith, some))
    (run_rest moment (ticks k state) (turn_rests moment (ticks k state) (quiet k (omega arith)) (omega (arith, there)))))

turn_echo : (moment : ℕ) (state : Downstream) (reported : Firing (List ℕ)) (records : List (Record (List ℕ))) → fired state.records ≡ Some (step_of reported, records) → reported.echo ≡ true → turn moment state ≡ echoes (step_of reported) (with_records state records)
unfolding turn
turn_echo moment state reported records e is = rw (e, is) refl

turn_fires : (moment : ℕ) (state : Downstream) (reported : Firing (List ℕ)) (records : List (Record (List ℕ))) → fired state.records ≡ Some (step_of reported, records) → reported.echo ≡ false → turn moment state ≡ moves (with_records state records)
unfolding turn
turn_fires moment state reported records e is = rw (e, is) refl

module _ (moment : ℕ) (state next : Downstream) (reported : Firing (List ℕ)) (fires : FiresTo moment state (Some reported) next) where
  abbrev there : Downstream
  there = ticks (next.moment - state.moment) state

  onward : (after : Downstream) (answer : Step (List ℕ)) → Runs moment there answer after → Runs moment state answer after
  onward after answer runs = quiet_runs (next.moment - state.moment) moment state after answer fires.1 (λ some. omega (arith, some, fires.0)) runs

  echo_runs : reported.echo ≡ true → Runs moment state (step_of reported) next
  echo_runs is =
      let left = left_by there next reported fires.2 in
      onward next (step_of reported)
      (subst (Runs moment there (step_of reported)) left.2
      (run_echo moment there (with_records there left.0) (step_of reported) (turn_echo moment there reported left.0 (fired_with there.records left.0 reported left.1) is)))

  fire_runs : (after : Downstream) (answer : Step (List ℕ)) → reported.echo ≡ false → Runs moment next answer after → Runs moment state answer after
  fire_runs after answer is runs =
      let left = left_by there next reported fires.2 in
      onward after answer
      (run_more moment there (with_records there left.0) after answer (turn_fires moment there reported left.0 (fired_with there.records left.0 reported left.1) is)
      (subst (λ s. Runs moment s answer after) (sym left.2) runs))

pub chain_runs : RunIsAChainOfFirings
chain_runs moment state next = (
  none_runs moment state next,
  λ reported is fires. echo_runs moment state next reported fires is,
  λ reported after answer is fires runs. fire_runs moment state next reported fires after answer is runs,
)

-- ---- there is one such end

abbrev Fired : Downstream → ℕ → Firing (List ℕ) → Downstream → Type 0
Fired state k reported after = IsQuietFor k state × (firing_in (ticks k state) ≡ Some (reported, after))

same_time : (state after other : Downstream) (reported said : Firing (List ℕ)) (j k : ℕ) → Fired state j reported after → Fired state k said other → k ≤ j
same_time state after other reported said j k a b =
    elim (ltb j k) as (λ t. ltb j k ≡ t → k ≤ j) [
      | true ↦ λ e. absurd (false≢true (sym (b.0 j (ltb-true j k e)) ∙ due_at_firing (ticks j state) after reported a.1))
      | false ↦ λ e. ltb-false j k e
    ] refl

same_end : (state after other : Downstream) (reported said : Firing (List ℕ)) (j k : ℕ) → Fired state j reported after → Fired state k said other → (reported ≡ said) × (after ≡ other)
same_end state after other reported said j k a b =
    let less = same_time state after other reported said j k a b in
    let more = same_time state other after said reported k j b a in
    let same : k ≡ j = omega (arith, less, more) in
    let pairs = pair_after reported said after other (sym a.1 ∙ subst (λ n. firing_in (ticks n state) ≡ Some (said, other)) same b.1) in
    (ap (λ (x : Firing (List ℕ) × Downstream). x.0) pairs, ap (λ (x : Firing (List ℕ) × Downstream). x.1) pairs)

none_or_fired : (moment : ℕ) (state after other : Downstream) (reported : Firing (List ℕ)) → FiresTo moment state None other → FiresTo moment state (Some reported) after → ⊥
none_or_fired moment state after other reported none fires =
    let within = fires.0 in
    false≢true (sym (none.0 (after.moment - state.moment) (omega (arith, within))) ∙ due_at_firing (ticks (after.moment - state.moment) state) after reported fires.2)

pub fires_once : FiringHasOneEnd
fires_once moment state after other None None a b = (refl, a.1 ∙ sym b.1)
fires_once moment state after other None (Some said) a b = absurd (none_or_fired moment state other after said a b)
fires_once moment state after other (Some reported) None a b = absurd (none_or_fired moment state after other reported b a)
fires_once moment state after other (Some reported) (Some said) a b =
    let same = same_end state after other reported said (after.moment - state.moment) (other.moment - state.moment) (a.1, a.2) (b.1, b.2) in
    (ap Some same.0, same.1)
