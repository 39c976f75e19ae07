-- Records whose expiry timers don't end by a moment: time and timers leave them so.
use Rattle.std.proofs.Common.{◌≡◌, ℕ, zero, suc, ◌+◌, ◌-◌, ◌≤◌, ◌<◌, Bool, true, false, cond, if◌then◌else◌, nat_lt, List, [], ◌∷◌, ◌++◌, map, Option, None, Some, inl, refl, sym, ap, subst, ◌∙◌, arith}
use Rattle.std.specs.List.{AllByRecursion}
use Rattle.std.specs.Ordering.{is_eq}
use Rattle.std.proofs.lemmas.Bool.{ltb-true}
use Rattle.pim_down.specs.declared.machines.key.What.{What}
use Rattle.pim_down.specs.declared.machines.key.What.TheVariants.{Star, Source, Rpt}
use Rattle.pim_down.specs.declared.machines.key.Key.{Key}
use Rattle.pim_down.specs.declared.machines.machine.Machine.{Machine}
use Rattle.pim_down.specs.declared.machines.machine.Pending.{Pending}
use Rattle.pim_down.specs.declared.machines.machine.Record.{Record}
use Rattle.pim_down.specs.declared.machines.step.Step.{Step}
use Rattle.pim_down.specs.declared.machines.step.Step.TheVariants.{Echo, Reached}
use Rattle.pim_down.specs.Key.{same_key}
use Rattle.pim_down.specs.Laws.{KeysAreDistinct}
use Rattle.pim_down.specs.Records.{IsBelow, IsAscending, machine_at, recorded}
use Rattle.pim_down.specs.Time.{Downstream, expiry_after, record_after, tick, et_due, ppt_due, after_et, after_ppt, on_ppt, first_due, with_first, fire_et, fire_ppt, fired, moves, rests, turn_by, turn, run_on, run_within, Runs, with_records}
use Rattle.pim_fresh.specs.Deliveries.{IsShorter}
use Rattle.pim_settling.specs.Hearing.{NoneExpires, NotEnded, NoneEnds}

abbrev pub Records : Type 0
Records = List (Record (List ℕ))

-- ---- by records

abbrev pub Outlasts : ℕ → Record (List ℕ) → Type 0
Outlasts passed held = IsShorter passed held.machine.expires_in

abbrev pub AllOutlast : ℕ → Records → Type 0
AllOutlast passed records = AllByRecursion (Outlasts passed) records

both : (passed : ℕ) (one other : Records) → AllOutlast passed one → AllOutlast passed other → AllOutlast passed (one ++ other)
both passed [] other p q = q
both passed (held ∷ one) other p q = (p.0, both passed one other p.1 q)

-- ---- a timer fires

ppt_outlasts : (passed : ℕ) (key : Key (List ℕ)) (what : What (List ℕ)) (machine : Machine) → IsShorter passed machine.expires_in → AllOutlast passed (recorded key (on_ppt what machine))
ppt_outlasts passed key Star machine p = tt
ppt_outlasts passed key (Source source) machine p = tt
ppt_outlasts passed key (Rpt source) machine p = (p, tt)

module _ (passed : ℕ) (due : Record (List ℕ) → Bool) (after : Record (List ℕ) → Records) (keeps : (held : Record (List ℕ)) → Outlasts passed held → AllOutlast passed (after held)) where
  first_outlasts : (records : Records) → AllOutlast passed records → AllOutlast passed (with_first due after records)
  unfolding with_first
  first_outlasts [] all = tt
  first_outlasts (held ∷ records) all =
      elim (due held) as (λ b. AllOutlast passed (if b then after held ++ records else held ∷ with_first due after records)) [
        | true ↦ both passed (after held) records (keeps held all.0) all.1
        | false ↦ (all.0, first_outlasts records all.1)
      ]

FiredOutlast : ℕ → Option (Step (List ℕ) × Records) → Type 0
FiredOutlast passed None = Unit {0}
FiredOutlast passed (Some end) = AllOutlast passed end.1

fired_outlast : (passed : ℕ) (records : Records) → AllOutlast passed records → FiredOutlast passed (fired records)
unfolding fired FiredOutlast
fired_outlast passed records all =
    elim (first_due ppt_due records) as (λ f. FiredOutlast passed (fire_ppt records f)) [
      | Some held ↦ first_outlasts passed ppt_due after_ppt (λ this p. ppt_outlasts passed this.key this.key.what this.machine p) records all
      | None ↦ elim (first_due et_due records) as (λ f. FiredOutlast passed (fire_et records f)) [
        | Some held ↦ first_outlasts passed et_due after_et (λ this p. tt) records all
        | None ↦ tt
      ]
    ]

-- ---- a millisecond passes

one_less : (passed : ℕ) (expiry : Option ℕ) → 1 ≤ passed → IsShorter passed expiry → IsShorter (passed - 1) (expiry_after 1 expiry)
one_less passed None some p = tt
one_less passed (Some ends) some p = omega (arith, some, p)

ticked : (passed : ℕ) (records : Records) → 1 ≤ passed → AllOutlast passed records → AllOutlast (passed - 1) (map (record_after 1) records)
ticked passed [] some all = tt
ticked passed (held ∷ records) some all = (one_less passed held.machine.expires_in some all.0, ticked passed records some all.1)

-- ---- a run

-- up to the last moment none ends
pub record Stays (last : ℕ) (state : Downstream) : Type 0 where
  pub by_then : state.moment ≤ last
  pub all : AllOutlast (last - state.moment) state.records

module _ (moment last : ℕ) (early : moment ≤ last) where
  ticks_stay : (state : Downstream) → nat_lt state.moment moment ≡ true → Stays last state → Stays last (tick state)
  ticks_stay state before stays =
      let less : state.moment < moment = ltb-true state.moment moment before in
      let sooner : last - (state.moment + 1) ≡ last - state.moment - 1 = omega arith in
      record {
        by_then = omega (arith, early, less);
        all = subst (λ (n : ℕ). AllOutlast n (map (record_after 1) state.records)) (sym sooner) (ticked (last - state.moment) state.records (omega (arith, early, less)) stays.all);
      }

  EndStays : Option (Step (List ℕ) × Downstream) → Type 0
  EndStays None = Unit {0}
  EndStays (Some end) = Stays last end.1

  with_stays : (state : Downstream) (records : Records) → Stays last state → AllOutlast (last - state.moment) records → Stays last (with_records state records)
  with_stays state records stays all = record { by_then = stays.by_then; all = all }

  turn_stays : (turns : ℕ) → ((state : Downstream) → Stays last state → EndStays (run_within turns moment state)) → (state : Downstream) → Stays last state
      → (f : Option (Step (List ℕ) × Records)) → FiredOutlast (last - state.moment) f → EndStays (run_on (turn_by moment state f) state (run_within turns moment))
  unfolding EndStays FiredOutlast
  turn_stays turns further state stays None all =
      elim (nat_lt state.moment moment) as (λ b. nat_lt state.moment moment ≡ b → EndStays (run_on (if b then moves (tick state) else rests) state (run_within turns moment))) [
        | true ↦ λ e. further (tick state) (ticks_stay state e stays)
        | false ↦ λ e. stays
      ] refl
  turn_stays turns further state stays (Some (Reached, records)) all = further (with_records state records) (with_stays state records stays all)
  turn_stays turns further state stays (Some (Echo port group what, records)) all = with_stays state records stays all

  run_stays : (turns : ℕ) (state : Downstream) → Stays last state → EndStays (run_within turns moment state)
  unfolding EndStays run_within turn
  run_stays zero state stays = tt
  run_stays (suc turns) state stays = turn_stays turns (run_stays turns) state stays (fired state.records) (fired_outlast (last - state.moment) state.records stays.all)

  pub stays_by_run : (state after : Downstream) (answer : Step (List ℕ)) → Stays last state → Runs moment state answer after → Stays last after
  unfolding EndStays
  stays_by_run state after answer stays runs = subst EndStays runs.within (run_stays runs.turns state stays)

-- ---- by keys

pub each_outlasts : (passed : ℕ) (records : Records) → AllOutlast passed records → (key : Key (List ℕ)) (machine : Machine) → machine_at key records ≡ Some machine → IsShorter passed machine.expires_in
unfolding machine_at
each_outlasts passed [] all key machine e = absurd (none e)
  where
    none : ◌≡◌ {A = Option Machine} None (Some machine) → ⊥
    none f = cc
each_outlasts passed (held ∷ records) all key machine e = by (same_key key held.key) e (each_outlasts passed records all.1 key machine)
  where
    some : ◌≡◌ {A = Option Machine} (Some held.machine) (Some machine) → held.machine ≡ machine
    some f = cc

    by : (b : Bool) → cond b (Some held.machine) (machine_at key records) ≡ Some machine → (machine_at key records ≡ Some machine → IsShorter passed machine.expires_in) → IsShorter passed machine.expires_in
    by true f behind = subst (λ (m : Machine). IsShorter passed m.expires_in) (some f) all.0
    by false f behind = behind f

module _ (keys : KeysAreDistinct) where
  below_none : (key : Key (List ℕ)) (records : Records) → IsBelow key records → machine_at key records ≡ None
  unfolding IsBelow machine_at
  below_none key [] below = refl
  below_none key (held ∷ records) below = ap (λ o. cond (is_eq o) (Some held.machine) (machine_at key records)) below.0 ∙ below_none key records below.1

  all_outlast : (passed : ℕ) (records : Records) → IsAscending records → ((key : Key (List ℕ)) (machine : Machine) → machine_at key records ≡ Some machine → IsShorter passed machine.expires_in) → AllOutlast passed records
  unfolding IsAscending machine_at
  all_outlast passed [] up each = tt
  all_outlast passed (held ∷ records) up each = (
    each held.key held.machine (ap (λ b. cond b (Some held.machine) (machine_at held.key records)) ((keys held.key held.key).1.1 refl)),
    all_outlast passed records up.1 (λ key machine e. each key machine (behind key machine e)),
  )
    where
      behind : (key : Key (List ℕ)) (machine : Machine) → machine_at key records ≡ Some machine → machine_at key (held ∷ records) ≡ Some machine
      behind key machine e = by (same_key key held.key) refl
        where
          by : (b : Bool) → same_key key held.key ≡ b → cond b (Some held.machine) (machine_at key records) ≡ Some machine
          by false s = e
          by true s =
              let same : key ≡ held.key = (keys key held.key).1.0 s in
              let none : machine_at key records ≡ None = ap (λ k. machine_at k records) same ∙ below_none held.key records up.0 in
              let crossed : Some machine ≡ None = sym e ∙ none in
              absurd cc

  pub stays_of : (last : ℕ) (state : Downstream) → state.moment ≤ last → IsAscending state.records → NoneExpires last state → Stays last state
  stays_of last state early up none = record { by_then = early; all = all_outlast (last - state.moment) state.records up none }

pub none_expires : (last : ℕ) (state : Downstream) → Stays last state → NoneExpires last state
none_expires last state stays = each_outlasts (last - state.moment) state.records stays.all

pub shorter_by : (passed : ℕ) (expiry : Option ℕ) → IsShorter passed expiry → (less : ℕ) → less ≤ passed → IsShorter less expiry
shorter_by passed None p less q = tt
shorter_by passed (Some ends) p less q = omega (arith, p, q)

pub expires_later : (last sooner : ℕ) (state : Downstream) → sooner ≤ last → NoneExpires last state → NoneExpires sooner state
expires_later last sooner state early none key machine e = shorter_by (last - state.moment) machine.expires_in (none key machine e) (sooner - state.moment) (omega (arith, early))

unended : (passed : ℕ) (what : What (List ℕ)) (expires_in : Option ℕ) (pending : Option Pending) → IsShorter passed expires_in → NotEnded passed what expires_in pending
unended passed what None pending p = tt
unended passed what (Some left) pending p = inl p

pub none_ends : (moment : ℕ) (state : Downstream) → NoneExpires moment state → NoneEnds moment state
none_ends moment state none key machine e = unended (moment - state.moment) key.what machine.expires_in machine.pending (none key machine e)
