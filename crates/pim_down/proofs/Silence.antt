-- A run that reaches a moment, key by key.
use Rattle.pim_down.proofs.Words.{◌≡◌, ℕ, ◌+◌, ◌-◌, ◌≤◌, Bool, true, false, cond, List, [], ◌∷◌, ◌++◌, Option, Some, None, map, refl, sym, ap, subst, ◌∙◌, arith, is_some, false≢true, nat_tests, What, Star, Source, Rpt, Key, Pending, Machine, Record, Step, Reached, Echo, same_key, IsBelow, IsAscending, machine_at, recorded, Downstream, expiry_after, pending_after, machine_after, record_after, tick, expiry_due, pending_due, et_due, ppt_due, on_ppt, after_et, after_ppt, echo_of, first_due, with_first, fire_et, fire_ppt, fired, with_records, Runs, settled_at, after_silence}
use Rattle.pim_down.proofs.Order.{same_keys}
use Rattle.pim_down.proofs.Map.{at_recorded, at_other_recorded}
use Rattle.pim_down.proofs.Time.{machine_more, machine_none}
use Rattle.pim_down.proofs.Kept.{kept_later, kept_fired}
use Rattle.pim_down.proofs.Runs.{by_run, no_echo}

-- ---- nothing is due

first_none : (due : Record (List ℕ) → Bool) (held : Record (List ℕ)) (records : List (Record (List ℕ))) → first_due due (held ∷ records) ≡ None → (due held ≡ false) × (first_due due records ≡ None)
unfolding first_due
first_none due held records e = by (due held) refl e
  where
    by : (b : Bool) → due held ≡ b → cond b (Some held) (first_due due records) ≡ None → (due held ≡ false) × (first_due due records ≡ None)
    by true t f = absurd (false≢true (sym (ap is_some f)))
    by false t f = (t, f)

pub quiet_timers : (records : List (Record (List ℕ))) → fired records ≡ None → (first_due ppt_due records ≡ None) × (first_due et_due records ≡ None)
unfolding fired
quiet_timers records e = by (first_due ppt_due records) (first_due et_due records) e
  where
    by : (p t : Option (Record (List ℕ))) → elim p as (λ _. Option (Step (List ℕ) × List (Record (List ℕ)))) [ None ↦ fire_et records t | Some held ↦ Some (echo_of held, with_first ppt_due after_ppt records) ] ≡ None → (p ≡ None) × (t ≡ None)
    by None None f = (refl, refl)
    by None (Some held) f = absurd (false≢true (sym (ap is_some f)))
    by (Some held) t f = absurd (false≢true (sym (ap is_some f)))

-- of a machine that is held then neither timer is due
pub quiet_at : (records : List (Record (List ℕ))) (key : Key (List ℕ)) (machine : Machine) → first_due ppt_due records ≡ None → first_due et_due records ≡ None → machine_at key records ≡ Some machine → (pending_due machine.pending ≡ false) × (expiry_due machine.expires_in ≡ false)
unfolding machine_at
quiet_at [] key machine p e at = absurd (false≢true (ap is_some at))
quiet_at (held ∷ records) key machine p e at =
    elim (same_key key held.key) as (λ b. cond b (Some held.machine) (machine_at key records) ≡ Some machine → (pending_due machine.pending ≡ false) × (expiry_due machine.expires_in ≡ false)) [
      | true ↦ λ f. let same : held.machine ≡ machine = cc in subst (λ (m : Machine). (pending_due m.pending ≡ false) × (expiry_due m.expires_in ≡ false)) same ((first_none ppt_due held records p).0, (first_none et_due held records e).0)
      | false ↦ λ f. quiet_at records key machine (first_none ppt_due held records p).1 (first_none et_due held records e).1 f
    ] at

stays : (key : Key (List ℕ)) (machine : Machine) → pending_due machine.pending ≡ false → expiry_due machine.expires_in ≡ false → after_silence 0 key (Some machine) ≡ Some machine
stays key machine p e = ap (settled_at key.what) (machine_none machine) ∙ rw (e, p) refl

stays_quiet : (records : List (Record (List ℕ))) → fired records ≡ None → (key : Key (List ℕ)) → after_silence 0 key (machine_at key records) ≡ machine_at key records
stays_quiet records quiet key = by (machine_at key records) refl
  where
    by : (o : Option Machine) → machine_at key records ≡ o → after_silence 0 key o ≡ o
    by None at = refl
    by (Some machine) at = let due = quiet_timers records quiet in let here = quiet_at records key machine due.0 due.1 at in stays key machine here.0 here.1

-- ---- a millisecond

abbrev pub option_after : ℕ → Option Machine → Option Machine
option_after k None = None
option_after k (Some machine) = Some (machine_after k machine)

pub at_later : (k : ℕ) (key : Key (List ℕ)) (records : List (Record (List ℕ))) → machine_at key (map (record_after k) records) ≡ option_after k (machine_at key records)
unfolding machine_at
at_later k key [] = refl
at_later k key (held ∷ records) =
    elim (same_key key held.key) as (λ b. cond b (Some (machine_after k held.machine)) (machine_at key (map (record_after k) records)) ≡ option_after k (cond b (Some held.machine) (machine_at key records))) [
      | true ↦ refl
      | false ↦ at_later k key records
    ]

silence_more : (k j : ℕ) (key : Key (List ℕ)) (o : Option Machine) → after_silence j key (option_after k o) ≡ after_silence (k + j) key o
silence_more k j key None = refl
silence_more k j key (Some machine) = ap (settled_at key.what) (machine_more k j machine)

-- ---- a timer fires

-- The first due record is changed: at its key stands what the change makes of it, at the others what stood there.
pub data AtFirst (due : Record (List ℕ) → Bool) (change : Record (List ℕ) → Option Machine) (key : Key (List ℕ)) (records : List (Record (List ℕ))) : Type 0 where
  elsewhere : machine_at key (with_first due (λ (h : Record (List ℕ)). recorded h.key (change h)) records) ≡ machine_at key records → AtFirst due change key records
  here : (held : Record (List ℕ)) → key ≡ held.key → due held ≡ true → machine_at key records ≡ Some held.machine → machine_at key (with_first due (λ (h : Record (List ℕ)). recorded h.key (change h)) records) ≡ change held → AtFirst due change key records

module _ (due : Record (List ℕ) → Bool) (change : Record (List ℕ) → Option Machine) (key : Key (List ℕ)) where
  abbrev after : List (Record (List ℕ)) → List (Record (List ℕ))
  after records = with_first due (λ (h : Record (List ℕ)). recorded h.key (change h)) records

  due_here : (held : Record (List ℕ)) (records : List (Record (List ℕ))) → IsAscending (held ∷ records) → due held ≡ true → AtFirst due change key (held ∷ records)
  unfolding IsAscending machine_at with_first
  due_here held records a d =
      elim (same_key key held.key) as (λ b. same_key key held.key ≡ b → AtFirst due change key (held ∷ records)) [
        | true ↦ λ s. let same = same_keys key held.key s in
            here held same d (rw s refl)
            (rw d (subst (λ (k : Key (List ℕ)). machine_at k (recorded held.key (change held) ++ records) ≡ change held) (sym same) (at_recorded held.key (change held) records a.0)))
        | false ↦ λ s. elsewhere (rw d (at_other_recorded key held.key (change held) records s ∙ rw s refl))
      ] refl

  not_here : (held : Record (List ℕ)) (records : List (Record (List ℕ))) → due held ≡ false → IsBelow held.key records → AtFirst due change key records → AtFirst due change key (held ∷ records)
  unfolding machine_at with_first
  not_here held records d below first = by (same_key key held.key) refl first
    where
      by : (b : Bool) → same_key key held.key ≡ b → AtFirst due change key records → AtFirst due change key (held ∷ records)
      by true s first = elsewhere (rw (d, s) refl)
      by false s (elsewhere e) = elsewhere (rw (d, s) e)
      by false s (here found k t m e) = here found k t (rw s m) (rw (d, s) e)

  pub at_first : (records : List (Record (List ℕ))) → IsAscending records → AtFirst due change key records
  unfolding IsAscending machine_at with_first
  at_first [] a = elsewhere refl
  at_first (held ∷ records) a =
      elim (due held) as (λ b. due held ≡ b → AtFirst due change key (held ∷ records)) [
        | true ↦ λ d. due_here held records a d
        | false ↦ λ d. not_here held records d a.0 (at_first records a.1)
      ] refl

due_later : (passed : ℕ) (e : Option ℕ) → expiry_due e ≡ true → expiry_due (expiry_after passed e) ≡ true
due_later passed None e = e
due_later passed (Some ends) e = grind (arith, nat_tests)

ppt_later : (passed : ℕ) (p : Option Pending) → pending_due p ≡ true → pending_due (pending_after passed p) ≡ true
ppt_later passed None e = e
ppt_later passed (Some timer) e = grind (arith, nat_tests)

expired : (passed : ℕ) (key : Key (List ℕ)) (machine : Machine) → expiry_due machine.expires_in ≡ true → None ≡ after_silence passed key (Some machine)
expired passed key machine due = rw (due_later passed machine.expires_in due) refl

pruned : (passed : ℕ) (key : Key (List ℕ)) (machine : Machine) → pending_due machine.pending ≡ true → after_silence passed key (on_ppt key.what machine) ≡ after_silence passed key (Some machine)
pruned passed key machine due =
    by key.what ∙ ap (λ b. cond (expiry_due (expiry_after passed machine.expires_in)) None (cond b (on_ppt key.what (machine_after passed machine)) (Some (machine_after passed machine)))) (sym (ppt_later passed machine.pending due))
  where
    none : (b : Bool) → ◌≡◌ {A = Option Machine} None (cond b None None)
    none true = refl
    none false = refl

    by : (what : What (List ℕ)) → after_silence passed (record { port = key.port; group = key.group; what = what }) (on_ppt what machine) ≡ cond (expiry_due (expiry_after passed machine.expires_in)) None (on_ppt what (machine_after passed machine))
    by Star = none (expiry_due (expiry_after passed machine.expires_in))
    by (Source source) = none (expiry_due (expiry_after passed machine.expires_in))
    by (Rpt source) = refl

silence_first : (due : Record (List ℕ) → Bool) (change : Record (List ℕ) → Option Machine) (passed : ℕ) (records : List (Record (List ℕ))) (key : Key (List ℕ)) → ((held : Record (List ℕ)) → due held ≡ true → after_silence passed held.key (change held) ≡ after_silence passed held.key (Some held.machine)) → AtFirst due change key records →
    after_silence passed key (machine_at key (with_first due (λ (h : Record (List ℕ)). recorded h.key (change h)) records)) ≡ after_silence passed key (machine_at key records)
silence_first due change passed records key alike (elsewhere e) = ap (after_silence passed key) e
silence_first due change passed records key alike (here held k d m e) =
    ap (after_silence passed key) e
    ∙ subst (λ (j : Key (List ℕ)). after_silence passed j (change held) ≡ after_silence passed j (Some held.machine)) (sym k) (alike held d)
    ∙ ap (after_silence passed key) (sym m)

pub left_of : (step answer : Step (List ℕ)) (new after : List (Record (List ℕ))) → ◌≡◌ {A = Option (Step (List ℕ) × List (Record (List ℕ)))} (Some (step, new)) (Some (answer, after)) → (step ≡ answer) × (new ≡ after)
left_of step answer new after e =
    let pairs : ◌≡◌ {A = Step (List ℕ) × List (Record (List ℕ))} (step, new) (answer, after) = cc in
    (ap (λ (x : Step (List ℕ) × List (Record (List ℕ))). x.0) pairs, ap (λ (x : Step (List ℕ) × List (Record (List ℕ))). x.1) pairs)

silence_fired : (passed : ℕ) (records after : List (Record (List ℕ))) (answer : Step (List ℕ)) (key : Key (List ℕ)) → IsAscending records → fired records ≡ Some (answer, after) → after_silence passed key (machine_at key after) ≡ after_silence passed key (machine_at key records)
unfolding fired
silence_fired passed records after answer key a e = by_ppt (first_due ppt_due records) e
  where
    by_et : (o : Option (Record (List ℕ))) → fire_et records o ≡ Some (answer, after) → after_silence passed key (machine_at key after) ≡ after_silence passed key (machine_at key records)
    by_et None f = absurd (false≢true (ap is_some f))
    by_et (Some held) f =
        let same = (left_of Reached answer (with_first et_due after_et records) after f).1 in
        ap (λ (rs : List (Record (List ℕ))). after_silence passed key (machine_at key rs)) (sym same)
        ∙ silence_first et_due (λ (h : Record (List ℕ)). None) passed records key (λ h d. expired passed h.key h.machine d) (at_first et_due (λ (h : Record (List ℕ)). None) key records a)

    by_ppt : (o : Option (Record (List ℕ))) → fire_ppt records o ≡ Some (answer, after) → after_silence passed key (machine_at key after) ≡ after_silence passed key (machine_at key records)
    by_ppt None f = by_et (first_due et_due records) f
    by_ppt (Some held) f =
        let same = (left_of (echo_of held) answer (with_first ppt_due after_ppt records) after f).1 in
        ap (λ (rs : List (Record (List ℕ))). after_silence passed key (machine_at key rs)) (sym same)
        ∙ silence_first ppt_due (λ (h : Record (List ℕ)). on_ppt h.key.what h.machine) passed records key (λ h d. pruned passed h.key h.machine d) (at_first ppt_due (λ (h : Record (List ℕ)). on_ppt h.key.what h.machine) key records a)

-- ---- a run

abbrev Silent : Downstream → Step (List ℕ) → Downstream → Type 0
Silent state answer after = IsAscending state.records → answer ≡ Reached → (state.moment ≤ after.moment) × ((key : Key (List ℕ)) → machine_at key after.records ≡ after_silence (after.moment - state.moment) key (machine_at key state.records))

silent_rest : (moment : ℕ) (state : Downstream) → fired state.records ≡ None → moment ≤ state.moment → Silent state Reached state
silent_rest moment state quiet reached a e =
    let zero : 0 ≡ state.moment - state.moment = omega arith in
    (omega arith, λ key. sym (stays_quiet state.records quiet key) ∙ ap (λ n. after_silence n key (machine_at key state.records)) zero)

silent_tick : (moment : ℕ) (state after : Downstream) (answer : Step (List ℕ)) → fired state.records ≡ None → state.moment ≤ moment → Silent (tick state) answer after → Silent state answer after
silent_tick moment state after answer quiet before more a e =
    let rest = more ((kept_later 1 state.records).ascending a) e in
    let passed : 1 + (after.moment - (state.moment + 1)) ≡ after.moment - state.moment = omega (arith, rest.0) in (
      omega (arith, rest.0),
      λ key. rest.1 key
          ∙ ap (after_silence (after.moment - (state.moment + 1)) key) (at_later 1 key state.records)
          ∙ silence_more 1 (after.moment - (state.moment + 1)) key (machine_at key state.records)
          ∙ ap (λ n. after_silence n key (machine_at key state.records)) passed,
    )

silent_fire : (state after : Downstream) (answer : Step (List ℕ)) (records : List (Record (List ℕ))) → fired state.records ≡ Some (Reached, records) → Silent (with_records state records) answer after → Silent state answer after
silent_fire state after answer records f more a e =
    let rest = more ((kept_fired state.records records Reached f).ascending a) e in
    (rest.0, λ key. rest.1 key ∙ silence_fired (after.moment - state.moment) state.records records Reached key a f)

pub silence : (moment : ℕ) (state after : Downstream) → IsAscending state.records → Runs moment state Reached after → (key : Key (List ℕ)) → machine_at key after.records ≡ after_silence (after.moment - state.moment) key (machine_at key state.records)
silence moment state after a runs =
    (by_run moment Silent (silent_rest moment)
    (λ s t answer quiet before more. silent_tick moment s t answer quiet (omega arith) more)
    (λ s t answer records f more. silent_fire s t answer records f more)
    (λ s port group what records f a e. absurd (no_echo port group what e))
    state after Reached runs a refl).1

-- ---- the order of the records

abbrev Ordered : Downstream → Step (List ℕ) → Downstream → Type 0
Ordered state answer after = IsAscending state.records → IsAscending after.records

pub order : (moment : ℕ) (state after : Downstream) (answer : Step (List ℕ)) → IsAscending state.records → Runs moment state answer after → IsAscending after.records
order moment state after answer a runs =
    by_run moment Ordered (λ s quiet reached a. a)
    (λ s t answer quiet before more a. more ((kept_later 1 s.records).ascending a))
    (λ s t answer records f more a. more ((kept_fired s.records records Reached f).ascending a))
    (λ s port group what records f a. (kept_fired s.records records (Echo port group what) f).ascending a)
    state after answer runs a
