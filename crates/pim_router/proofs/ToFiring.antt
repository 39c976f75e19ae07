-- Time that passes up to the first timer that fires: quiet milliseconds of the machines are turns
-- of the router, in which neighbours go and refreshes pass.
use Rattle.pim_router.proofs.Words.{◌≡◌, ◌≢◌, ◌∙◌, ◌<◌, ◌≤◌, ℕ, zero, suc, ◌+◌, ◌-◌, ◌*◌, Bool, true, false, List, [], ◌∷◌, ◌++◌}
use Rattle.pim_router.proofs.Words.{map, filter, Option, Some, None, min, max, nat_lt, refl, sym, ap, subst, arith, list_any}
use Rattle.pim_router.proofs.Words.{false≢true, lt-ltb, le-ltb, ltb-true, ltb-false, ne_eqb, append-nil, RouteTable, Neighbour}
use Rattle.pim_router.proofs.Words.{Table, is_over, without_ended, passed_to, expired_at, ExpiringTwiceIsExpiringOnce, Record}
use Rattle.pim_router.proofs.Words.{FiringSaysMore, TimersRunOut, said_of, firing_seen, Downstream, fired, with_records}
use Rattle.pim_router.proofs.Words.{IsQuietFor, PortConfig, Refresh, Happening, timer_fired, gone_of, gone_from, happens_in}
use Rattle.pim_router.proofs.Words.{next_of, at_moment, in_turns, Passes, Happens, FiresAfter, FiresTo, gone_within, gone_between}
use Rattle.pim_router.proofs.Words.{first_unpassed, port_seen, router_seen, IsRouter, Port, RouterState, setup_of, with_tables}
use Rattle.pim_router.proofs.Words.{with_refresh, rests, moves, stops_with, has_ended, reported, turn, turn_of_timers, tick}
use Rattle.pim_router.proofs.Words.{turns_left}
use Rattle.std.specs.Option.{is_some, option_map}
use Rattle.pim_down.specs.declared.machines.step.Firing.{Firing}
use Rattle.pim_down.specs.declared.machines.step.Step.{Step as Fires}
use Rattle.pim_down.specs.declared.machines.step.Step.TheVariants as fires
use Rattle.pim_down.specs.Firing.{firing, fired_in, firing_in, step_of}
use Rattle.pim_down.specs.Firing as down_firing
use Rattle.pim_down.specs.Time as down
use Rattle.pim_router.proofs.Passing.{none_ended, none_goes, goes, nobody_over, later_tables, ticked, quiet_turn, current_at_start}
use Rattle.pim_router.proofs.PastRefreshes.{one_count}
use Rattle.pim_router.proofs.RunTo.{sound_again}
use Rattle.pim_router.proofs.Happenings.{Written, pass_none, pass_first, pass_quietly, passing_goes_on, passes_near, one_nearer}

-- ---- where nobody goes

abbrev over : List ℕ × Neighbour → Bool
over entry = is_over entry.1.left

none_of : (entries : List (List ℕ × Neighbour)) → list_any over entries ≡ false → filter over entries ≡ []
none_of [] none = refl
none_of (e ∷ es) none =
    elim (over e) as (λ b. (if_any : Bool) → list_any over es ≡ if_any → over e ≡ b → filter over (e ∷ es) ≡ []) [
      | true ↦ λ rest r is. absurd (false≢true (sym none ∙ rw is refl))
      | false ↦ λ rest r is. rw is (none_of es (rw is at none))
    ] (list_any over es) refl refl

pub none_from : (port : ℕ) (tables : List Table) → list_any has_ended tables ≡ false → gone_from port tables ≡ []
unfolding gone_from
none_from port [] none = refl
none_from port (table ∷ tables) none =
    elim (has_ended table) as (λ b. has_ended table ≡ b → gone_of port table ++ gone_from (port + 1) tables ≡ []) [
      | true ↦ λ is. absurd (false≢true (sym none ∙ rw is refl))
      | false ↦ λ is. rw (none_of table.entries is) (none_from (port + 1) tables (rw is at none))
    ] refl

-- those who go at a moment, and then those who go later
gone_first : (k moment : ℕ) (tables : List Table) → gone_within k moment tables ≡ at_moment moment (gone_from 0 tables) ++ gone_within k moment (map without_ended tables)
unfolding gone_within
gone_first zero moment tables =
    rw (none_from 0 (map without_ended tables) (none_ended tables)) (sym (append-nil (at_moment moment (gone_from 0 tables))))
gone_first (suc k) moment tables =
    rw (none_from 0 (map without_ended tables) (none_ended tables), none_goes (map without_ended tables) (none_ended tables)) refl

pub gone_later : (k moment : ℕ) (tables : List Table) → list_any has_ended tables ≡ false → gone_within (suc k) moment tables ≡ gone_within k (moment + 1) (map (passed_to (moment + 1)) tables)
unfolding gone_within
gone_later k moment tables none = rw (none_from 0 tables none, none_goes tables none) refl

gone_at_once : (moment : ℕ) (tables : List Table) → list_any has_ended tables ≡ false → gone_within 0 moment tables ≡ []
unfolding gone_within
gone_at_once moment tables none = rw (none_from 0 tables none) refl

-- ---- machines

not_due : (o : Option (Fires (List ℕ) × List (Record (List ℕ)))) → is_some o ≡ false → o ≡ None
not_due None e = refl
not_due (Some o) e = absurd (false≢true (sym e))

no_firing : FiringSaysMore → (records : List (Record (List ℕ))) → fired records ≡ None → firing records ≡ None
no_firing more records quiet = by (firing records) refl
  where
    by : (o : Option (Firing (List ℕ) × List (Record (List ℕ)))) → firing records ≡ o → o ≡ None
    by None is = refl
    by (Some x) is = absurd (false≢true (ap is_some (sym quiet ∙ more records ∙ ap (option_map said_of) is)))

ticks_moment : (k : ℕ) (machines : Downstream) → (down.ticks k machines).moment ≡ machines.moment + k
unfolding down.ticks
ticks_moment zero machines = omega arith
ticks_moment (suc k) machines = let more = ticks_moment k (down.tick machines) in omega (arith, more)

abbrev MachinesLeft : Type 0
MachinesLeft = Option (Firing (List ℕ) × Downstream)

left_pair : (held said : Firing (List ℕ)) (end after : Downstream) → ◌≡◌ {A = MachinesLeft} (Some (held, end)) (Some (said, after)) → ◌≡◌ {A = Firing (List ℕ) × Downstream} (held, end) (said, after)
left_pair held said end after e = cc

left_none : (said : Firing (List ℕ)) (after : Downstream) → ◌≡◌ {A = MachinesLeft} None (Some (said, after)) → ⊥
left_none said after e = cc

left_by : (machines after : Downstream) (reported : Firing (List ℕ)) → firing_in machines ≡ Some (reported, after) →
    (records : List (Record (List ℕ))) × (firing machines.records ≡ Some (reported, records)) × (with_records machines records ≡ after)
left_by machines after reported e = by (firing machines.records) refl e
  where
    by : (o : Option (Firing (List ℕ) × List (Record (List ℕ)))) → firing machines.records ≡ o → fired_in machines o ≡ Some (reported, after) →
        (records : List (Record (List ℕ))) × (firing machines.records ≡ Some (reported, records)) × (with_records machines records ≡ after)
    by None is f = absurd (left_none reported after f)
    by (Some (said, records)) is f =
        let pairs = left_pair said reported (with_records machines records) after f in
        (records, is ∙ ap (λ (x : Firing (List ℕ) × Downstream). Some (x.0, records)) pairs, ap (λ (x : Firing (List ℕ) × Downstream). x.1) pairs)

-- ---- those whose time is over go

they_pass : (moment : ℕ) (state after : RouterState) (said : Written) → Passes moment (with_tables state (map without_ended state.tables)) said after →
    Passes moment state (at_moment state.machines.moment (gone_from 0 state.tables) ++ said) after
unfolding happens_in
they_pass moment state after said more =
    elim (list_any has_ended state.tables) as (λ b. list_any has_ended state.tables ≡ b → Passes moment state (at_moment state.machines.moment (gone_from 0 state.tables) ++ said) after) [
      | true ↦ λ some.
          let here : happens_in state ≡ gone_from 0 state.tables = rw some refl in
          subst (λ (h : List Happening). Passes moment state (at_moment state.machines.moment h ++ said) after) here
          (pass_first moment state (with_tables state (map without_ended state.tables)) after said (ap next_of (goes moment state some)) more)
      | false ↦ λ none. rw (none_from 0 state.tables none) (subst (λ ts. Passes moment (with_tables state ts) said after) (none_goes state.tables none) more)
    ] refl

module _ (twice : ExpiringTwiceIsExpiringOnce) (more_said : FiringSaysMore) (ports : List Port) (routes : RouteTable) (start : List Table) (moment : ℕ) where
  -- the router with these machines, whose next refresh comes at this moment
  abbrev pub at : ℕ → Downstream → RouterState
  at next machines = record {
    ports = ports;
    routes = routes;
    machines = machines;
    tables = map (expired_at machines.moment) start;
    refresh = next - machines.moment;
  }

  nobody : (next : ℕ) (m : ℕ) → list_any has_ended (map (expired_at m) start) ≡ false
  nobody next m = nobody_over twice ports routes start next moment 0 (omega arith) (omega arith) start m

  turn_is : (next : ℕ) (machines : Downstream) → turn moment (at next machines) ≡ turn_of_timers moment (at next machines) (fired machines.records)
  turn_is next machines = quiet_turn twice ports routes start next moment 0 (omega arith) (omega arith) machines

  nothing : (next : ℕ) (machines : Downstream) → fired machines.records ≡ None → happens_in (at next machines) ≡ []
  unfolding happens_in
  nothing next machines quiet = rw (nobody next machines.moment, no_firing more_said machines.records quiet) refl

  -- ---- a refresh

  refresh_passes : (next : ℕ) (machines : Downstream) (after : RouterState) (said : Written) → fired machines.records ≡ None → next ≡ machines.moment →
      Passes moment (at (next + 60000) machines) said after → Passes moment (at next machines) said after
  refresh_passes next machines after said quiet due more =
      let zero_left : next - machines.moment ≡ 0 = omega (arith, due) in
      let later : 60000 ≡ next + 60000 - machines.moment = omega (arith, due) in
      let turned : turn moment (at next machines) ≡ stops_with Refresh (with_refresh (at next machines) 60000) = turn_is next machines ∙ rw (quiet, zero_left) refl in
      pass_quietly moment (at next machines) (at (next + 60000) machines) after said
      (ap next_of turned ∙ ap (λ (refresh : ℕ). Some (with_refresh (at next machines) refresh)) later)
      (nothing next machines quiet) more

  -- ---- a millisecond

  tick_passes : (next : ℕ) (machines : Downstream) (after : RouterState) (said : Written) → fired machines.records ≡ None → machines.moment < next → machines.moment < moment →
      Passes moment (at next (down.tick machines)) said after →
      Passes moment (at next machines) (at_moment (machines.moment + 1) (gone_from 0 (map (passed_to (machines.moment + 1)) (map (expired_at machines.moment) start))) ++ said) after
  tick_passes next machines after said quiet before soon more =
      let apart : next - machines.moment ≢ 0 = omega (arith, before) in
      let turned : turn moment (at next machines) ≡ moves (tick (at next machines)) =
      turn_is next machines ∙ rw (quiet, ne_eqb (next - machines.moment) 0 apart, lt-ltb machines.moment moment soon) refl in
      pass_quietly moment (at next machines) (tick (at next machines)) after _ (ap next_of turned) (nothing next machines quiet)
      (they_pass moment (tick (at next machines)) after said
      (subst (λ s. Passes moment s said after) (sym (ticked twice ports routes start next moment 0 (omega arith) (omega arith) machines)) more))

  gone_step : (k next m : ℕ) → at_moment (m + 1) (gone_from 0 (map (passed_to (m + 1)) (map (expired_at m) start))) ++ gone_within k (m + 1) (map (expired_at (m + 1)) start)
      ≡ gone_within (suc k) m (map (expired_at m) start)
  gone_step k next m =
      let later = later_tables twice ports routes start next moment 0 (omega arith) (omega arith) m start in
      ap (λ ts. at_moment (m + 1) (gone_from 0 (map (passed_to (m + 1)) (map (expired_at m) start))) ++ gone_within k (m + 1) ts) (sym later)
      ∙ sym (gone_first k (m + 1) (map (passed_to (m + 1)) (map (expired_at m) start)))
      ∙ sym (gone_later k m (map (expired_at m) start) (nobody next m))

  -- ---- quiet milliseconds

  -- this number of quiet milliseconds passes, with the refreshes before their end
  record Quiet (k next : ℕ) (machines : Downstream) : Type 0 where
    refreshes : ℕ
    all : machines.moment + k ≤ next + 60000 * refreshes
    no_more : next + 60000 * refreshes < max (machines.moment + k) next + 60000
    passes : Passes moment (at next machines) (gone_within k machines.moment (map (expired_at machines.moment) start)) (at (next + 60000 * refreshes) (down.ticks k machines))

  quiet_none : (next : ℕ) (machines : Downstream) → machines.moment ≤ next → Quiet 0 next machines
  unfolding down.ticks
  quiet_none next machines bound =
      let same : next ≡ next + 60000 * 0 = omega arith in
      record {
        refreshes = 0;
        all = omega (arith, bound);
        no_more = omega (arith, bound);
        passes = subst (λ n. Passes moment (at next machines) (gone_within 0 machines.moment (map (expired_at machines.moment) start)) (at n machines)) same
            (rw (gone_at_once machines.moment (map (expired_at machines.moment) start) (nobody next machines.moment)) (pass_none moment (at next machines)));
      }

  quiet_tick : (k next : ℕ) (machines : Downstream) → fired machines.records ≡ None → machines.moment < next → machines.moment < moment →
      Quiet k next (down.tick machines) → Quiet (suc k) next machines
  unfolding down.ticks
  quiet_tick k next machines quiet before soon q = record {
    refreshes = q.refreshes;
    all = omega (arith, q.all);
    no_more = omega (arith, q.no_more);
    passes = subst (λ t. Passes moment (at next machines) t (at (next + 60000 * q.refreshes) (down.ticks k (down.tick machines)))) (gone_step k next machines.moment)
        (tick_passes next machines (at (next + 60000 * q.refreshes) (down.ticks k (down.tick machines))) _ quiet before soon q.passes);
  }

  quiet_refresh : (k next : ℕ) (machines : Downstream) → fired machines.records ≡ None → next ≡ machines.moment →
      Quiet (suc k) (next + 60000) machines → Quiet (suc k) next machines
  quiet_refresh k next machines quiet due q =
      let same : next + 60000 + 60000 * q.refreshes ≡ next + 60000 * suc q.refreshes = omega arith in
      record {
        refreshes = suc q.refreshes;
        all = omega (arith, q.all);
        no_more = omega (arith, q.no_more, due);
        passes = subst (λ n. Passes moment (at next machines) (gone_within (suc k) machines.moment (map (expired_at machines.moment) start)) (at n (down.ticks (suc k) machines))) same
            (refresh_passes next machines (at (next + 60000 + 60000 * q.refreshes) (down.ticks (suc k) machines)) _ quiet due q.passes);
      }

  quiet_step : (k next : ℕ) (machines : Downstream) (b : Bool) → nat_lt machines.moment next ≡ b → machines.moment ≤ next → fired machines.records ≡ None → machines.moment < moment →
      ((n : ℕ) → machines.moment + 1 ≤ n → Quiet k n (down.tick machines)) → Quiet (suc k) next machines
  quiet_step k next machines true is bound quiet soon more =
      let before : machines.moment < next = ltb-true machines.moment next is in
      quiet_tick k next machines quiet before soon (more next (omega (arith, before)))
  quiet_step k next machines false is bound quiet soon more =
      let past : next ≤ machines.moment = ltb-false machines.moment next is in
      quiet_refresh k next machines quiet (omega (arith, bound, past))
      (quiet_tick k (next + 60000) machines quiet (omega (arith, bound)) soon (more (next + 60000) (omega (arith, bound))))

  quiet_for : (k next : ℕ) (machines : Downstream) → machines.moment ≤ next → IsQuietFor k machines → (0 < k → machines.moment + k ≤ moment) → Quiet k next machines
  unfolding down.ticks
  quiet_for zero next machines bound quiet within = quiet_none next machines bound
  quiet_for (suc k) next machines bound quiet within =
      let end : machines.moment + suc k ≤ moment = within (omega arith) in
      let later : IsQuietFor k (down.tick machines) = λ j h. quiet (suc j) (omega (arith, h)) in
      quiet_step k next machines (nat_lt machines.moment next) refl bound (not_due (fired machines.records) (quiet 0 (omega arith))) (omega (arith, end))
      (λ n before. quiet_for k n (down.tick machines) before later (λ some. omega (arith, end)))

  -- ---- the timer that fires

  told_next : (step : Fires (List ℕ)) (after : RouterState) → next_of (reported step after) ≡ Some after
  told_next fires.Reached after = refl
  told_next (fires.Echo port group what) after = refl

  fires_next : (next : ℕ) (machines : Downstream) (records : List (Record (List ℕ))) (said : Firing (List ℕ)) → firing machines.records ≡ Some (said, records) →
      in_turns 1 moment (at next machines) ≡ Some ((machines.moment, timer_fired said) ∷ [], at next (with_records machines records))
  unfolding in_turns happens_in
  fires_next next machines records said f =
      let here : fired machines.records ≡ Some (step_of said, records) = more_said machines.records ∙ ap (option_map said_of) f in
      let turned : next_of (turn moment (at next machines)) ≡ Some (at next (with_records machines records)) =
      ap next_of (turn_is next machines ∙ ap (turn_of_timers moment (at next machines)) here) ∙ told_next (step_of said) (at next (with_records machines records)) in
      rw (turned, nobody next machines.moment, f) refl

  -- ---- the end, where no timer fires

  rests_there : (next : ℕ) (machines : Downstream) → fired machines.records ≡ None → machines.moment < next → moment ≤ machines.moment → turn moment (at next machines) ≡ rests
  rests_there next machines quiet before there =
      let apart : next - machines.moment ≢ 0 = omega (arith, before) in
      turn_is next machines ∙ rw (quiet, ne_eqb (next - machines.moment) 0 apart, le-ltb machines.moment moment there) refl

  -- the refresh of the last millisecond passes, if one is due
  record Finish (next : ℕ) (machines : Downstream) : Type 0 where
    refreshes : ℕ
    all : machines.moment + 1 ≤ next + 60000 * refreshes
    no_more : next + 60000 * refreshes < max (machines.moment + 1) next + 60000
    passes : Passes moment (at next machines) [] (at (next + 60000 * refreshes) machines)
    ends : turn moment (at (next + 60000 * refreshes) machines) ≡ rests

  finish : (next : ℕ) (machines : Downstream) (b : Bool) → nat_lt machines.moment next ≡ b → machines.moment ≤ next → fired machines.records ≡ None → moment ≤ machines.moment → Finish next machines
  finish next machines true is bound quiet there =
      let before : machines.moment < next = ltb-true machines.moment next is in
      let same : next ≡ next + 60000 * 0 = omega arith in
      record {
        refreshes = 0;
        all = omega (arith, before);
        no_more = omega arith;
        passes = subst (λ n. Passes moment (at next machines) [] (at n machines)) same (pass_none moment (at next machines));
        ends = subst (λ n. turn moment (at n machines) ≡ rests) same (rests_there next machines quiet before there);
      }
  finish next machines false is bound quiet there =
      let past : next ≤ machines.moment = ltb-false machines.moment next is in
      let same : next + 60000 ≡ next + 60000 * 1 = omega arith in
      record {
        refreshes = 1;
        all = omega (arith, bound);
        no_more = omega (arith, past);
        passes = subst (λ n. Passes moment (at next machines) [] (at n machines)) same
            (refresh_passes next machines (at (next + 60000) machines) [] quiet (omega (arith, bound, past)) (pass_none moment (at (next + 60000) machines)));
        ends = subst (λ n. turn moment (at n machines) ≡ rests) same (rests_there (next + 60000) machines quiet (omega (arith, bound)) there);
      }

-- ---- what the code keeps

module _ (twice : ExpiringTwiceIsExpiringOnce) (more_said : FiringSaysMore) {A : Type 0} (bytes_of : A → List ℕ) (ports : List (PortConfig A)) (routes : RouteTable) (machines : Downstream) (tables : List Table) (next : ℕ)
    (sound : (machines.moment ≤ next) × IsRouter (router_seen bytes_of ports routes machines tables next)) (moment : ℕ)
    (after : Downstream) (now : RouterState) (same : router_seen bytes_of ports routes machines tables next ≡ now)
    (left : List Table) (is_left : left ≡ map (expired_at after.moment) tables) where
  abbrev seen : Downstream → List Table → ℕ → RouterState
  seen m ts n = router_seen bytes_of ports routes m ts n

  abbrev here : ℕ → Downstream → RouterState
  here = at twice more_said (map (port_seen bytes_of) ports) routes tables moment

  starts : here next machines ≡ now
  starts = ap (λ ts. seen machines ts next) (current_at_start machines.moment tables sound.1.current) ∙ same

  ends_at : (n : ℕ) → here n after ≡ seen after left n
  ends_at n = ap (λ ts. seen after ts n) (sym is_left)

  fires_some : (said : Firing (List ℕ)) (count : ℕ) → down_firing.FiresTo moment machines (Some said) after →
      after.moment ≤ next + 60000 * count → next + 60000 * count < max after.moment next + 60000 →
      FiresAfter moment now said (seen after left (next + 60000 * count))
  fires_some said count (by, quiet, fires) all no_more =
      let k : ℕ = after.moment - machines.moment in
      let q = quiet_for twice more_said (map (port_seen bytes_of) ports) routes tables moment k next machines sound.0 quiet (λ some. omega (arith, some, by)) in
      let l = left_by (down.ticks k machines) after said fires in
      let sum : machines.moment + k ≡ after.moment = sym (ticks_moment k machines) ∙ ap (λ (s : Downstream). s.moment) l.2 in
      let one : q.refreshes ≡ count = one_count after.moment next q.refreshes count (omega (arith, sum, q.all)) (omega (arith, sum, q.no_more)) all no_more in
      record {
        before = here (next + 60000 * q.refreshes) (down.ticks k machines);
        passes = subst (λ s. Passes moment s (gone_within (after.moment - s.machines.moment) s.machines.moment s.tables) (here (next + 60000 * q.refreshes) (down.ticks k machines))) starts q.passes;
        fires = fires_next twice more_said (map (port_seen bytes_of) ports) routes tables moment (next + 60000 * q.refreshes) (down.ticks k machines) l.0 said l.1
            ∙ (λ i. Some (((l.2 i).moment, timer_fired said) ∷ [], here (next + 60000 * q.refreshes) (l.2 i)))
            ∙ ap (λ s. Some ((after.moment, timer_fired said) ∷ [], s)) (ap (λ n. here (next + 60000 * n) after) one ∙ ends_at (next + 60000 * count));
      }

  fires_none : (count : ℕ) → down_firing.FiresTo moment machines None after →
      after.moment + 1 ≤ next + 60000 * count → next + 60000 * count < max (after.moment + 1) next + 60000 →
      Happens moment now (gone_between now (seen after left (next + 60000 * count))) (seen after left (next + 60000 * count))
  fires_none count (quiet, is) all no_more =
      let k : ℕ = moment - machines.moment in
      let last = down.ticks k machines in
      let q = quiet_for twice more_said (map (port_seen bytes_of) ports) routes tables moment k next machines sound.0 (λ j h. quiet j (omega (arith, h))) (λ some. omega (arith, some)) in
      let there = ticks_moment k machines in
      let sum : after.moment ≡ machines.moment + k = ap (λ (s : Downstream). s.moment) is ∙ there in
      let still = not_due (fired last.records) (quiet k (omega arith)) in
      let n : ℕ = next + 60000 * q.refreshes in
      let f = finish twice more_said (map (port_seen bytes_of) ports) routes tables moment n last (nat_lt last.moment n) refl (omega (arith, there, q.all)) still (omega (arith, there)) in
      let one : q.refreshes + f.refreshes ≡ count = one_count (after.moment + 1) next (q.refreshes + f.refreshes) count (omega (arith, sum, there, f.all)) (omega (arith, sum, there, q.all, q.no_more, f.no_more)) all no_more in
      let total : n + 60000 * f.refreshes ≡ next + 60000 * count = omega (arith, one) in
      let end : here (n + 60000 * f.refreshes) last ≡ seen after left (next + 60000 * count) =
      ap (λ m. here m last) total ∙ ap (here (next + 60000 * count)) (sym is) ∙ ends_at (next + 60000 * count) in
      let passed : Passes moment (here next machines) (gone_within k machines.moment (map (expired_at machines.moment) tables)) (here (n + 60000 * f.refreshes) last) =
      subst (λ t. Passes moment (here next machines) t (here (n + 60000 * f.refreshes) last)) (append-nil (gone_within k machines.moment (map (expired_at machines.moment) tables)))
      (passing_goes_on moment moment (here next machines) (here n last) (here (n + 60000 * f.refreshes) last) _ [] (omega arith) q.passes f.passes) in
      let time : k ≡ after.moment - machines.moment = omega (arith, sum) in
      record {
        passes = subst (λ s. Passes moment s (gone_within (after.moment - s.machines.moment) s.machines.moment s.tables) (seen after left (next + 60000 * count))) starts
            (subst (λ e. Passes moment (here next machines) (gone_within (after.moment - machines.moment) machines.moment (map (expired_at machines.moment) tables)) e) end
            (subst (λ j. Passes moment (here next machines) (gone_within j machines.moment (map (expired_at machines.moment) tables)) (here (n + 60000 * f.refreshes) last)) time passed));
        ends = subst (λ s. turn moment s ≡ rests) end f.ends;
      }

  module _ (o : Option (Firing A)) (stopped end refreshes : ℕ) (is_now : stopped ≡ after.moment) (is_end : end ≡ first_unpassed o stopped)
      (all : end ≤ next + 60000 * refreshes) (no_more : next + 60000 * refreshes < max end next + 60000) where
    turned : next + 60000 * refreshes ≡ next + refreshes * 60000
    turned = omega arith

    pub fires_ran : down_firing.FiresTo moment machines (option_map (firing_seen bytes_of) o) after →
        FiresTo moment now (option_map (firing_seen bytes_of) o) (seen after left (next + refreshes * 60000))
    fires_ran fires = subst (λ n. FiresTo moment now (option_map (firing_seen bytes_of) o) (seen after left n)) turned (by o is_end fires)
      where
        by : (o : Option (Firing A)) → end ≡ first_unpassed o stopped → down_firing.FiresTo moment machines (option_map (firing_seen bytes_of) o) after →
            FiresTo moment now (option_map (firing_seen bytes_of) o) (seen after left (next + 60000 * refreshes))
        by None is f = let e : end ≡ after.moment + 1 = is ∙ ap (λ n. n + 1) is_now in
            fires_none refreshes f (subst (λ m. m ≤ next + 60000 * refreshes) e all) (subst (λ m. next + 60000 * refreshes < max m next + 60000) e no_more)
        by (Some reported) is f = let e : end ≡ after.moment = is ∙ is_now in
            fires_some (firing_seen bytes_of reported) refreshes f (subst (λ m. m ≤ next + 60000 * refreshes) e all) (subst (λ m. next + 60000 * refreshes < max m next + 60000) e no_more)

    bounds : (after.moment ≤ end) × (end ≤ after.moment + 1)
    bounds = by o is_end
      where
        by : (o : Option (Firing A)) → end ≡ first_unpassed o stopped → (after.moment ≤ end) × (end ≤ after.moment + 1)
        by None is = (omega (arith, is, is_now), omega (arith, is, is_now))
        by (Some reported) is = (omega (arith, is, is_now), omega (arith, is, is_now))

    pub fires_sound : after.ports ≡ machines.ports → machines.moment ≤ after.moment →
        (after.moment ≤ next + refreshes * 60000) × IsRouter (seen after left (next + refreshes * 60000))
    fires_sound count on =
        let least = bounds.0 in
        let most = bounds.1 in
        let bound = sound.0 in
        let soon = sound.1.refresh in
        sound_again twice bytes_of ports routes machines tables next sound moment (min moment next) refl after now same left is_left count on (next + refreshes * 60000)
        (omega (arith, least, all)) (omega (arith, most, no_more, bound, soon, on))

  pub setup_stays : (n : ℕ) → after.limit ≡ machines.limit → setup_of (seen after left n) ≡ setup_of now
  setup_stays n same_limit =
      ap (λ (limit : ℕ). setup_of (seen (record { ports = after.ports; limit = limit; moment = after.moment; records = after.records }) left n)) same_limit ∙ ap setup_of same

-- ---- a loop of such calls ends

pub fires_nearer : TimersRunOut → {A : Type 0} (bytes_of : A → List ℕ) (moment : ℕ) (state after : RouterState) (o : Option (Firing A)) → FiresTo moment state (option_map (firing_seen bytes_of) o) after → o ≢ None →
    turns_left moment after < turns_left moment state
fires_nearer timers bytes_of moment state after None fires goes = absurd (goes refl)
fires_nearer timers bytes_of moment state after (Some reported) fires goes =
    let near = passes_near timers moment state fires.before _ fires.passes in
    let less = one_nearer timers moment fires.before after _ fires.fires in
    omega (arith, near, less)
