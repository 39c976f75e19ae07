-- A run keeps the courses of the machines, through every timer that fires.
use Rattle.pim_settling.proofs.Words.{◌≡◌, inl, inr, ℕ, zero, suc, ◌+◌, ◌-◌, ◌≤◌, ◌<◌, Bool, true, false, cond, List, [], ◌∷◌}
use Rattle.pim_settling.proofs.Words.{Option, None, Some, option_map, refl, sym, ap, subst, ◌∙◌, arith, eqb, ltb, false≢true}
use Rattle.pim_settling.proofs.Words.{eqb-true, ltb-true, ltb-false, What, Star, Source, Rpt, Key, State, PrunePending, Prune}
use Rattle.pim_settling.proofs.Words.{Machine, Pending, Record, Echo, Reached, same_key, IsAscending, machine_at, machine_in}
use Rattle.pim_settling.proofs.Words.{Downstream, rests, moves, Runs, expiry_after, pending_after, machine_after, expiry_due}
use Rattle.pim_settling.proofs.Words.{pending_due, et_due, ppt_due, on_ppt, after_ppt, echo_of, first_due, with_first, fire_et}
use Rattle.pim_settling.proofs.Words.{fire_ppt, fired, tick, with_records, reported, turn_by, turn, run_on, run_within}
use Rattle.pim_settling.proofs.Words.{KeysAreDistinct, state_wanted, Course, absent, stays, waits, IsHeld, IsPending, IsOn}
use Rattle.pim_settling.proofs.Words.{IsPast, Arrives, IsPrunedBy, NotEnded, NoneEnds}
use Rattle.std.proofs.lemmas.Bool.Decides.{nat_tests}
use Rattle.pim_down.specs.declared.machines.step.Step.{Step}
use Rattle.pim_settling.proofs.Fires.{Records, ticked_order, ticked_at, first_held, none_due, replaced_order, replaced_own, replaced_other}

-- ---- one machine

-- one that stays has no prune-pending timer
kept_quiet : (state : State) (machine : Machine) → IsHeld state (Some machine) → pending_due machine.pending ≡ false
kept_quiet state machine is = let same : machine.pending ≡ None = cc in ap pending_due same

-- the timer of one that waits is due at the end
ended : (until now : ℕ) (machine : Machine) → IsPending PrunePending (until - now) (Some machine) → pending_due machine.pending ≡ true → until ≤ now
ended until now machine is due =
    let same : machine.pending ≡ Some (record { ends_in = until - now; several = is.several }) = cc in
    let none = eqb-true (until - now) 0 (sym (ap pending_due same) ∙ due) in
    omega (arith, none)

-- a prune-pending timer that is due leads a machine where its course says
fires_on : (what : What (List ℕ)) (now : ℕ) (course : Course) (machine : Machine) → IsOn what now course (Some machine) → pending_due machine.pending ≡ true → IsOn what now course (on_ppt what machine)
fires_on what now absent machine is due = absurd cc
fires_on what now stays machine is due = absurd (false≢true (sym (kept_quiet (state_wanted what) machine is) ∙ due))
fires_on Star now (waits until) machine (inr other) due = let none : Some machine ≡ None = other.1 in absurd cc
fires_on (Source source) now (waits until) machine (inr other) due = let none : Some machine ≡ None = other.1 in absurd cc
fires_on (Rpt source) now (waits until) machine (inr other) due = absurd (false≢true (sym (kept_quiet Prune machine other.1) ∙ due))
fires_on Star now (waits until) machine (inl waiting) due = inr (ended until now machine waiting.1 due, refl)
fires_on (Source source) now (waits until) machine (inl waiting) due = inr (ended until now machine waiting.1 due, refl)
fires_on (Rpt source) now (waits until) machine (inl waiting) due = inr (ended until now machine waiting.1 due, record { expires_in = machine.expires_in; is = refl })

-- a millisecond passes, where no timer is due
abbrev IsQuiet : Option Machine → Type 0
IsQuiet held = (machine : Machine) → held ≡ Some machine → pending_due machine.pending ≡ false

kept_ticks : (state : State) (held : Option Machine) → IsHeld state held → IsHeld state (option_map (machine_after 1) held)
kept_ticks state held is = record { expires_in = expiry_after 1 is.expires_in; is = ap (option_map (machine_after 1)) is.is }

running : (left : ℕ) → eqb left 0 ≡ false → 0 < left
running left due = grind (arith, nat_tests)

ticks_on : (what : What (List ℕ)) (now : ℕ) (course : Course) (held : Option Machine) → IsOn what now course held → IsQuiet held → IsOn what (now + 1) course (option_map (machine_after 1) held)
ticks_on what now absent held is quiet = ap (option_map (machine_after 1)) is
ticks_on what now stays held is quiet = kept_ticks (state_wanted what) held is
ticks_on Star now (waits until) held (inr other) quiet = inr (omega (arith, other.0), ap (option_map (machine_after 1)) other.1)
ticks_on (Source source) now (waits until) held (inr other) quiet = inr (omega (arith, other.0), ap (option_map (machine_after 1)) other.1)
ticks_on (Rpt source) now (waits until) held (inr other) quiet = inr (omega (arith, other.0), kept_ticks Prune held other.1)
ticks_on what now (waits until) held (inl waiting) quiet =
    let machine : Machine = record { state = PrunePending; expires_in = waiting.1.expires_in; pending = Some (record { ends_in = until - now; several = waiting.1.several }) } in
    let left = running (until - now) (quiet machine waiting.1.is) in
    let less : (until - now) - 1 ≡ until - (now + 1) = omega arith in
    inl (
      omega (arith, left),
      record {
        expires_in = expiry_after 1 waiting.1.expires_in;
        several = waiting.1.several;
        is = ap (option_map (machine_after 1)) waiting.1.is
            ∙ ap (λ n. machine_in PrunePending (expiry_after 1 waiting.1.expires_in) (Some (record { ends_in = n; several = waiting.1.several }))) less;
      },
    )

-- where no timer is due, one that waits still waits, or is where that led
past_on : (what : What (List ℕ)) (now : ℕ) (course : Course) (held : Option Machine) → IsOn what now course held → IsQuiet held → IsPast what now course held
past_on what now absent held is quiet = is
past_on what now stays held is quiet = is
past_on what now (waits until) held (inr other) quiet = inr other
past_on what now (waits until) held (inl waiting) quiet =
    let machine : Machine = record { state = PrunePending; expires_in = waiting.1.expires_in; pending = Some (record { ends_in = until - now; several = waiting.1.several }) } in
    let left = running (until - now) (quiet machine waiting.1.is) in
    inl (omega (arith, left), waiting.1)

pub past_is_on : (what : What (List ℕ)) (now : ℕ) (course : Course) (held : Option Machine) → IsPast what now course held → IsOn what now course held
past_is_on what now absent held is = is
past_is_on what now stays held is = is
past_is_on what now (waits until) held (inr other) = inr other
past_is_on what now (waits until) held (inl waiting) = inl (omega (arith, waiting.0), waiting.1)

-- ---- expiry timers

pruned_ticks : (left : ℕ) (what : What (List ℕ)) (pending : Option Pending) → IsPrunedBy left what pending → IsPrunedBy (left - 1) what (pending_after 1 pending)
pruned_ticks left what None is = is
pruned_ticks left Star (Some timer) is = omega (arith, is)
pruned_ticks left (Source source) (Some timer) is = omega (arith, is)
pruned_ticks left (Rpt source) (Some timer) is = omega (arith, is)

unended_ticks : (now moment : ℕ) (what : What (List ℕ)) (expires_in : Option ℕ) (pending : Option Pending) → now < moment → NotEnded (moment - now) what expires_in pending
    → NotEnded (moment - (now + 1)) what (expiry_after 1 expires_in) (pending_after 1 pending)
unended_ticks now moment what None pending less is = tt
unended_ticks now moment what (Some left) pending less (inl more) = inl (omega (arith, less, more))
unended_ticks now moment what (Some left) pending less (inr pruned) = inr (pruned_ticks left what pending pruned)

-- a prune-pending timer that isn't due leads nowhere yet
not_pruned : (what : What (List ℕ)) (pending : Option Pending) → pending_due pending ≡ false → IsPrunedBy 0 what pending → ⊥
not_pruned what None quiet is = is
not_pruned Star (Some timer) quiet is = let left = running timer.ends_in quiet in omega (arith, left, is)
not_pruned (Source source) (Some timer) quiet is = let left = running timer.ends_in quiet in omega (arith, left, is)
not_pruned (Rpt source) (Some timer) quiet is = let left = running timer.ends_in quiet in omega (arith, left, is)

not_over : (passed : ℕ) (what : What (List ℕ)) (expires_in : Option ℕ) (pending : Option Pending) → pending_due pending ≡ false → NotEnded passed what expires_in pending → expiry_due expires_in ≡ true → ⊥
not_over passed what None pending quiet is due = false≢true due
not_over passed what (Some left) pending quiet (inl more) due = let none : left ≡ 0 = eqb-true left 0 due in omega (arith, more, none)
not_over passed what (Some left) pending quiet (inr pruned) due =
    let none : left ≡ 0 = eqb-true left 0 due in
    not_pruned what pending quiet (subst (λ (n : ℕ). IsPrunedBy n what pending) none pruned)

-- where its prune-pending timer leads, the expiry timer is the same
led_unended : (passed : ℕ) (what : What (List ℕ)) (expires_in : Option ℕ) (pending : Option Pending) (source : List ℕ) → what ≡ Rpt source → NotEnded passed what expires_in pending → NotEnded passed what expires_in None
led_unended passed what None pending source is_rpt is = tt
led_unended passed what (Some left) pending source is_rpt (inl more) = inl more
led_unended passed what (Some left) pending source is_rpt (inr pruned) = absurd (by pending (subst (λ w. IsPrunedBy left w pending) is_rpt pruned))
  where
    by : (pending : Option Pending) → IsPrunedBy left (Rpt source) pending → ⊥
    by None is = is
    by (Some timer) is = is

led_to : (passed : ℕ) (what : What (List ℕ)) (held machine : Machine) → on_ppt what held ≡ Some machine → NotEnded passed what held.expires_in held.pending → NotEnded passed what machine.expires_in machine.pending
led_to passed Star held machine e is = absurd cc
led_to passed (Source source) held machine e is = absurd cc
led_to passed (Rpt source) held machine e is =
    let same : record { state = Prune; expires_in = held.expires_in; pending = None } ≡ machine = cc in
    subst (λ (m : Machine). NotEnded passed (Rpt source) m.expires_in m.pending) same (led_unended passed (Rpt source) held.expires_in held.pending source refl is)

-- ---- a run

module _ (keys : KeysAreDistinct) (courses : Key (List ℕ) → Course) (moment : ℕ) where
  -- the machines stand in key order, each is on its course, and no expiry timer ends up to the moment
  pub record IsKept (state : Downstream) : Type 0 where
    pub ascending : IsAscending state.records
    pub machines : (key : Key (List ℕ)) → IsOn key.what state.moment (courses key) (machine_at key state.records)
    pub lasts : NoneEnds moment state
    pub early : state.moment ≤ moment

  abbrev led_on : Record (List ℕ) → Option Machine
  led_on held = on_ppt held.key.what held.machine

  kept_fired : (state : Downstream) (held : Record (List ℕ)) → IsKept state → first_due ppt_due state.records ≡ Some held → IsKept (with_records state (with_first ppt_due after_ppt state.records))
  kept_fired state held kept e = record {
    ascending = replaced_order keys ppt_due led_on state.records kept.ascending;
    machines = λ key. machine_by key (same_key key held.key) refl;
    lasts = λ key machine m. lasts_by key machine (same_key key held.key) refl m;
    early = kept.early;
  }
    where
      after : Records
      after = with_first ppt_due after_ppt state.records

      first : (machine_at held.key state.records ≡ Some held.machine) × (ppt_due held ≡ true)
      first = first_held keys ppt_due state.records held kept.ascending e

      own : machine_at held.key after ≡ led_on held
      own = replaced_own keys ppt_due led_on state.records held kept.ascending e

      machine_by : (key : Key (List ℕ)) (b : Bool) → same_key key held.key ≡ b → IsOn key.what state.moment (courses key) (machine_at key after)
      machine_by key true s =
          let was = subst (λ (m : Option Machine). IsOn held.key.what state.moment (courses held.key) m) first.0 (kept.machines held.key) in
          let here = fires_on held.key.what state.moment (courses held.key) held.machine was first.1 in
          let now = subst (λ (m : Option Machine). IsOn held.key.what state.moment (courses held.key) m) (sym own) here in
          subst (λ (k : Key (List ℕ)). IsOn k.what state.moment (courses k) (machine_at k after)) (sym ((keys key held.key).1.0 s)) now
      machine_by key false s =
          subst (λ (m : Option Machine). IsOn key.what state.moment (courses key) m) (sym (replaced_other keys ppt_due led_on state.records held key e s)) (kept.machines key)

      lasts_by : (key : Key (List ℕ)) (machine : Machine) (b : Bool) → same_key key held.key ≡ b → machine_at key after ≡ Some machine → NotEnded (moment - state.moment) key.what machine.expires_in machine.pending
      lasts_by key machine true s m =
          let same : key ≡ held.key = (keys key held.key).1.0 s in
          let there : led_on held ≡ Some machine = sym own ∙ ap (λ k. machine_at k after) (sym same) ∙ m in
          subst (λ (k : Key (List ℕ)). NotEnded (moment - state.moment) k.what machine.expires_in machine.pending) (sym same)
          (led_to (moment - state.moment) held.key.what held.machine machine there (kept.lasts held.key held.machine first.0))
      lasts_by key machine false s m = kept.lasts key machine (sym (replaced_other keys ppt_due led_on state.records held key e s) ∙ m)

  quiet_at : (records : Records) → first_due ppt_due records ≡ None → (key : Key (List ℕ)) → IsQuiet (machine_at key records)
  quiet_at records none key machine m = none_due keys ppt_due records none key machine m

  kept_ticked : (state : Downstream) → IsKept state → first_due ppt_due state.records ≡ None → state.moment < moment → IsKept (tick state)
  kept_ticked state kept none less = record {
    ascending = ticked_order state.records kept.ascending;
    machines = λ key.
        subst (λ (m : Option Machine). IsOn key.what (state.moment + 1) (courses key) m) (sym (ticked_at key state.records))
        (ticks_on key.what state.moment (courses key) (machine_at key state.records) (kept.machines key) (quiet_at state.records none key));
    lasts = λ key machine m. lasts_by key machine (machine_at key state.records) refl (sym (ticked_at key state.records) ∙ m);
    early = omega (arith, less);
  }
    where
      lasts_by : (key : Key (List ℕ)) (machine : Machine) (o : Option Machine) → machine_at key state.records ≡ o → option_map (machine_after 1) o ≡ Some machine
          → NotEnded (moment - (state.moment + 1)) key.what machine.expires_in machine.pending
      lasts_by key machine None s m = absurd cc
      lasts_by key machine (Some old) s m =
          let same : machine_after 1 old ≡ machine = cc in
          subst (λ (m : Machine). NotEnded (moment - (state.moment + 1)) key.what m.expires_in m.pending) same
          (unended_ticks state.moment moment key.what old.expires_in old.pending less (kept.lasts key old s))

  -- no expiry timer is due
  none_over : (state : Downstream) (held : Record (List ℕ)) → IsKept state → first_due ppt_due state.records ≡ None → first_due et_due state.records ≡ Some held → ⊥
  none_over state held kept none e =
      let first = first_held keys et_due state.records held kept.ascending e in
      not_over (moment - state.moment) held.key.what held.machine.expires_in held.machine.pending (quiet_at state.records none held.key held.machine first.0) (kept.lasts held.key held.machine first.0) first.1

  -- where it reaches the moment, no timer is due
  pub record IsEnd (answer : Step (List ℕ)) (after : Downstream) : Type 0 where
    pub kept : IsKept after
    pub reached : answer ≡ Reached → (after.moment ≡ moment) × (first_due ppt_due after.records ≡ None)

  module _ (turns : ℕ) (state : Downstream) (answer : Step (List ℕ)) (after : Downstream) (kept : IsKept state)
      (more : (next : Downstream) → IsKept next → run_within turns moment next ≡ Some (answer, after) → IsEnd answer after) where
    told_ends : (step : Step (List ℕ)) (next : Downstream) → IsKept next → run_on (reported step next) state (run_within turns moment) ≡ Some (answer, after) → IsEnd answer after
    told_ends Reached next k r = more next k r
    told_ends (Echo port group what) next k r =
        let both : ◌≡◌ {A = Step (List ℕ) × Downstream} (Echo port group what, next) (answer, after) = cc in
        let told_so : Echo port group what ≡ answer = ap (λ q. q.0) both in
        record { kept = subst IsKept (ap (λ q. q.1) both) k; reached = λ a. let crossed : Echo port group what ≡ Reached = told_so ∙ a in absurd cc }

    rests_ends : first_due ppt_due state.records ≡ None → moment ≤ state.moment → run_on rests state (run_within turns moment) ≡ Some (answer, after) → IsEnd answer after
    rests_ends none late r =
        let both : ◌≡◌ {A = Step (List ℕ) × Downstream} (Reached, state) (answer, after) = cc in
        subst (IsEnd answer) (ap (λ q. q.1) both) (record { kept = kept; reached = λ a. (omega (arith, late, kept.early), none) })

    passes_ends : first_due ppt_due state.records ≡ None → (b : Bool) → ltb state.moment moment ≡ b → run_on (cond b (moves (tick state)) rests) state (run_within turns moment) ≡ Some (answer, after) → IsEnd answer after
    passes_ends none true l r = more (tick state) (kept_ticked state kept none (ltb-true state.moment moment l)) r
    passes_ends none false l r = rests_ends none (ltb-false state.moment moment l) r

    et_ends : first_due ppt_due state.records ≡ None → (o : Option (Record (List ℕ))) → first_due et_due state.records ≡ o → run_on (turn_by moment state (fire_et state.records o)) state (run_within turns moment) ≡ Some (answer, after) → IsEnd answer after
    et_ends none (Some held) e r = absurd (none_over state held kept none e)
    et_ends none None e r = passes_ends none (ltb state.moment moment) refl r

    ppt_ends : (o : Option (Record (List ℕ))) → first_due ppt_due state.records ≡ o → run_on (turn_by moment state (fire_ppt state.records o)) state (run_within turns moment) ≡ Some (answer, after) → IsEnd answer after
    ppt_ends (Some held) e r = told_ends (echo_of held) (with_records state (with_first ppt_due after_ppt state.records)) (kept_fired state held kept e) r
    ppt_ends None e r = et_ends e (first_due et_due state.records) refl r

  within_ends : (turns : ℕ) (state : Downstream) (answer : Step (List ℕ)) (after : Downstream) → IsKept state → run_within turns moment state ≡ Some (answer, after) → IsEnd answer after
  unfolding run_within turn fired
  within_ends zero state answer after kept run = absurd cc
  within_ends (suc turns) state answer after kept run =
      ppt_ends turns state answer after kept (λ next k r. within_ends turns next answer after k r) (first_due ppt_due state.records) refl run

  run_ends : (state : Downstream) (answer : Step (List ℕ)) (after : Downstream) → IsKept state → Runs moment state answer after → IsEnd answer after
  run_ends state answer after kept runs = within_ends runs.turns state answer after kept runs.within

  -- through all echoes
  pub arrives : (echoes : List (Step (List ℕ))) (state after : Downstream) → IsKept state → Arrives echoes moment state after → IsEnd Reached after
  unfolding Arrives
  arrives [] state after kept runs = run_ends state Reached after kept runs
  arrives (echo ∷ echoes) state after kept runs = arrives echoes runs.0 after (run_ends state echo runs.0 kept runs.1).kept runs.2

  -- at the moment each machine is past what was due
  pub past : (after : Downstream) → IsEnd Reached after → (after.moment ≡ moment) × ((key : Key (List ℕ)) → IsPast key.what moment (courses key) (machine_at key after.records))
  past after ends =
      let reached = ends.reached refl in (
        reached.0,
        λ key.
            past_on key.what moment (courses key) (machine_at key after.records)
            (subst (λ (now : ℕ). IsOn key.what now (courses key) (machine_at key after.records)) reached.0 (ends.kept.machines key)) (quiet_at after.records reached.1 key),
      )
