-- What one timer that fires, and a millisecond that passes, leave of all machines and of what is known of them.
use Rattle.pim_trace.proofs.Words.{◌≡◌, ◌∙◌, ℕ, zero, suc, ◌+◌, ◌-◌, ◌==◌, Bool, true, false, List, [], ◌∷◌, ◌++◌, map, Option}
use Rattle.pim_trace.proofs.Words.{None, Some, option_map, if◌then◌else◌, refl, sym, ap, subst, arith, Less, is_eq, false≢true}
use Rattle.pim_trace.proofs.Words.{Key, What, Star, Source, Rpt, Machine, Pending, Record, Firing, Timer, PrunePending, Expiry}
use Rattle.pim_trace.proofs.Words.{ppt_fires, et_fires, et_firing, ppt_firing, firing, key_cmp, same_key, KeysAreDistinct}
use Rattle.pim_trace.proofs.Words.{IsBelow, IsAscending, machine_at, recorded, state_of_machine, machine_in, expiry_after}
use Rattle.pim_trace.proofs.Words.{pending_after, machine_after, record_after, expiry_due, pending_due, et_due, ppt_due, on_ppt}
use Rattle.pim_trace.proofs.Words.{first_due, with_first, Fired, Causes, end_of, end_after, pending_left, cause_of}
use Rattle.pim_down.specs.declared.machines.machine.State.TheVariants.{Prune}
use Rattle.pim_trace.proofs.Folding.{Known, knowing, known_of, fired_known}

abbrev Records : Type 0
Records = List (Record (List ℕ))

-- ---- a millisecond passes

pub below_later : (passed : ℕ) (key : Key (List ℕ)) (records : Records) → IsBelow key records →
    IsBelow key (map (record_after passed) records)
unfolding IsBelow
below_later passed key [] below = tt
below_later passed key (held ∷ records) below = (below.0, below_later passed key records below.1)

pub ascending_later : (passed : ℕ) (records : Records) → IsAscending records →
    IsAscending (map (record_after passed) records)
unfolding IsAscending
ascending_later passed [] up = tt
ascending_later passed (held ∷ records) up =
    (below_later passed held.key records up.0, ascending_later passed records up.1)

-- a timer that isn't due ends at the same moment when a millisecond has passed
later_end : (ms n : ℕ) → (n == 0) ≡ false → (ms + 1) + (n - 1) ≡ ms + n
later_end ms zero not_due = absurd (false≢true (sym not_due))
later_end ms (suc n) not_due = omega arith

known_then : (ms : ℕ) (causes : Causes (List ℕ)) (machine : Machine) → expiry_due machine.expires_in ≡ false →
    pending_due machine.pending ≡ false →
    known_of (ms + 1) causes (Some (machine_after 1 machine)) ≡ known_of ms causes (Some machine)
known_then ms causes machine no_et no_ppt = λ i. Some (record {
  state = machine.state;
  ends = λ timer. ends timer i;
  by = λ timer. cause_of timer causes;
  since = causes.since;
})
  where
    expiry : (e : Option ℕ) → expiry_due e ≡ false →
        option_map (λ left. (ms + 1) + left) (expiry_after 1 e) ≡ option_map (λ left. ms + left) e
    expiry None undue = refl
    expiry (Some n) undue = ap Some (later_end ms n undue)

    pending : (p : Option Pending) → pending_due p ≡ false →
        option_map (λ left. (ms + 1) + left) (pending_left (pending_after 1 p))
        ≡ option_map (λ left. ms + left) (pending_left p)
    pending None undue = refl
    pending (Some timer) undue = ap Some (later_end ms timer.ends_in undue)

    ends : (timer : Timer) → end_of timer (ms + 1) (Some (machine_after 1 machine)) ≡ end_of timer ms (Some machine)
    ends Expiry = expiry machine.expires_in no_et
    ends PrunePending = pending machine.pending no_ppt

none_first : (held : Record (List ℕ)) → ◌≡◌ {A = Option (Record (List ℕ))} None (Some held) → ⊥
none_first held e = cc

-- nothing is due
not_first : (due : Record (List ℕ) → Bool) (held : Record (List ℕ)) (records : Records) →
    first_due due (held ∷ records) ≡ None → (due held ≡ false) × (first_due due records ≡ None)
unfolding first_due
not_first due held records e =
    elim (due held)
    as (λ b. (if b then Some held else first_due due records) ≡ None → (b ≡ false) × (first_due due records ≡ None)) [
      | true ↦ λ f. absurd (none_first held (sym f))
      | false ↦ λ f. (refl, f)
    ] e

known_later : (key : Key (List ℕ)) (ms : ℕ) (causes : Causes (List ℕ)) (records : Records) →
    first_due ppt_due records ≡ None → first_due et_due records ≡ None →
    known_of (ms + 1) causes (machine_at key (map (record_after 1) records))
    ≡ known_of ms causes (machine_at key records)
unfolding machine_at
known_later key ms causes [] no_ppt no_et = refl
known_later key ms causes (held ∷ records) no_ppt no_et =
    let ppt = not_first ppt_due held records no_ppt in let et = not_first et_due held records no_et in
    elim (same_key key held.key)
    as (λ b.
    known_of (ms + 1) causes
    (if b then Some (record_after 1 held).machine else machine_at key (map (record_after 1) records))
    ≡ known_of ms causes (if b then Some held.machine else machine_at key records)) [
      | true ↦ known_then ms causes held.machine et.0 ppt.0
      | false ↦ known_later key ms causes records ppt.1 et.1
    ]

abbrev FirstFiring : Type 0
FirstFiring = Option (Firing (List ℕ) × Records)

no_pair : (reported : Firing (List ℕ)) (after : Records) → ◌≡◌ {A = FirstFiring} None (Some (reported, after)) → ⊥
no_pair reported after e = cc

-- no timer fires, so none is due
no_et_due : (records : Records) (o : Option (Record (List ℕ))) → et_firing records o ≡ None → o ≡ None
no_et_due records None e = refl
no_et_due records (Some held) e = absurd (no_pair (et_fires held) _ (sym e))

none_due : (records : Records) (o : Option (Record (List ℕ))) → ppt_firing records o ≡ None →
    (o ≡ None) × (first_due et_due records ≡ None)
none_due records None e = (refl, no_et_due records (first_due et_due records) e)
none_due records (Some held) e = absurd (no_pair (ppt_fires held) _ (sym e))

-- where no timer fires, a millisecond changes nothing that is known
pub millisecond_leaves : (key : Key (List ℕ)) (ms : ℕ) (causes : Causes (List ℕ)) (records : Records) →
    firing records ≡ None →
    known_of (ms + 1) causes (machine_at key (map (record_after 1) records))
    ≡ known_of ms causes (machine_at key records)
unfolding firing
millisecond_leaves key ms causes records none =
    let undue = none_due records (first_due ppt_due records) none in
    known_later key ms causes records undue.0 undue.1

-- ---- the first due record is replaced

module _ (due : Record (List ℕ) → Bool) where
  is_first : (held first : Record (List ℕ)) → ◌≡◌ {A = Option (Record (List ℕ))} (Some first) (Some held) → first
      ≡ held
  is_first held first e = cc

  first_above : (key : Key (List ℕ)) (records : Records) (held : Record (List ℕ)) → IsBelow key records →
      first_due due records ≡ Some held → key_cmp key held.key ≡ Less
  unfolding IsBelow first_due
  first_above key [] held below e = absurd (none_first held e)
  first_above key (first ∷ records) held below e =
      elim (due first) as
      (λ b. (if b then Some first else first_due due records) ≡ Some held → key_cmp key held.key ≡ Less) [
        | true ↦ λ f. subst (λ (r : Record (List ℕ)). key_cmp key r.key ≡ Less) (is_first held first f) below.0
        | false ↦ λ f. first_above key records held below.1 f
      ] e

  module _ (change : Record (List ℕ) → Option Machine) where
    abbrev left : Record (List ℕ) → Records
    left held = recorded held.key (change held)

    below_recorded : (key : Key (List ℕ)) (held : Record (List ℕ)) (records : Records) →
        IsBelow key (held ∷ records) → (machine : Option Machine) → IsBelow key (recorded held.key machine ++ records)
    unfolding IsBelow
    below_recorded key held records below None = below.1
    below_recorded key held records below (Some machine) = below

    below_first : (key : Key (List ℕ)) (records : Records) → IsBelow key records →
        IsBelow key (with_first due left records)
    unfolding IsBelow with_first
    below_first key [] below = tt
    below_first key (first ∷ records) below =
        elim (due first) as
        (λ b. IsBelow key (if b then left first ++ records else first ∷ with_first due left records)) [
          | true ↦ below_recorded key first records below (change first)
          | false ↦ (below.0, below_first key records below.1)
        ]

    ascending_recorded : (held : Record (List ℕ)) (records : Records) → IsAscending (held ∷ records) →
        (machine : Option Machine) → IsAscending (recorded held.key machine ++ records)
    unfolding IsAscending
    ascending_recorded held records up None = up.1
    ascending_recorded held records up (Some machine) = up

    pub ascending_first : (records : Records) → IsAscending records → IsAscending (with_first due left records)
    unfolding IsAscending with_first
    ascending_first [] up = tt
    ascending_first (first ∷ records) up =
        elim (due first) as
        (λ b. IsAscending (if b then left first ++ records else first ∷ with_first due left records)) [
          | true ↦ ascending_recorded first records up (change first)
          | false ↦ (below_first first.key records up.0, ascending_first records up.1)
        ]

    -- at another key
    recorded_other : (key : Key (List ℕ)) (held : Record (List ℕ)) (records : Records) →
        same_key key held.key ≡ false → (machine : Option Machine) →
        machine_at key (recorded held.key machine ++ records) ≡ machine_at key records
    unfolding machine_at
    recorded_other key held records other None = refl
    recorded_other key held records other (Some machine) = rw other refl

    pub first_other : (key : Key (List ℕ)) (records : Records) (held : Record (List ℕ)) →
        first_due due records ≡ Some held → same_key key held.key ≡ false →
        machine_at key (with_first due left records) ≡ machine_at key records
    unfolding machine_at first_due with_first
    first_other key [] held e other = absurd (none_first held e)
    first_other key (first ∷ records) held e other =
        elim (due first)
        as (λ b. (if b then Some first else first_due due records) ≡ Some held →
        machine_at key (if b then left first ++ records else first ∷ with_first due left records)
        ≡ machine_at key (first ∷ records)) [
          | true ↦ λ f.
              let apart : same_key key first.key ≡ false =
              subst (λ (r : Record (List ℕ)). same_key key r.key ≡ false) (sym (is_first held first f)) other in
              recorded_other key first records apart (change first)
              ∙ sym (recorded_other key first records apart (Some first.machine))
          | false ↦ λ f. ap (λ (m : Option Machine). if same_key key first.key then Some first.machine else m)
              (first_other key records held f other)
        ] e

    -- at its key
    module _ (apart : KeysAreDistinct) where
      none_at : (key : Key (List ℕ)) (records : Records) → IsBelow key records → machine_at key records ≡ None
      unfolding IsBelow machine_at
      none_at key [] below = refl
      none_at key (held ∷ records) below = rw (ap is_eq below.0) (none_at key records below.1)

      recorded_itself : (key : Key (List ℕ)) (held : Record (List ℕ)) (records : Records) →
          same_key key held.key ≡ true → IsBelow held.key records → (machine : Option Machine) →
          machine_at key (recorded held.key machine ++ records) ≡ machine
      unfolding machine_at
      recorded_itself key held records same below None =
          none_at key records
          (subst (λ (k : Key (List ℕ)). IsBelow k records) (sym ((apart key held.key).1.0 same)) below)
      recorded_itself key held records same below (Some machine) = rw same refl

      not_above : (key : Key (List ℕ)) (first held : Record (List ℕ)) → key_cmp first.key held.key ≡ Less →
          same_key key held.key ≡ true → same_key key first.key ≡ false
      not_above key first held less same =
          elim (same_key key first.key) as (λ b. same_key key first.key ≡ b → b ≡ false) [
            | true ↦ λ e.
                let one : first.key ≡ held.key = sym ((apart key first.key).1.0 e) ∙ (apart key held.key).1.0 same in
                absurd (false≢true (sym (ap is_eq less) ∙ (apart first.key held.key).1.1 one))
            | false ↦ λ e. refl
          ] refl

      pub first_itself : (key : Key (List ℕ)) (records : Records) (held : Record (List ℕ)) → IsAscending records →
          first_due due records ≡ Some held → same_key key held.key ≡ true →
          (machine_at key records ≡ Some held.machine) × (machine_at key (with_first due left records) ≡ change held)
      unfolding IsAscending machine_at first_due with_first
      first_itself key [] held up e same = absurd (none_first held e)
      first_itself key (first ∷ records) held up e same =
          elim (due first)
          as (λ b. (if b then Some first else first_due due records) ≡ Some held →
          (machine_at key (first ∷ records) ≡ Some held.machine)
          × (machine_at key (if b then left first ++ records else first ∷ with_first due left records) ≡ change held)) [
            | true ↦ λ f.
                let is = is_first held first f in
                let here : same_key key first.key ≡ true =
                subst (λ (r : Record (List ℕ)). same_key key r.key ≡ true) (sym is) same in (
                  recorded_itself key first records here up.0 (Some first.machine)
                      ∙ ap (λ (r : Record (List ℕ)). Some r.machine) is,
                  recorded_itself key first records here up.0 (change first) ∙ ap change is,
                )
            | false ↦ λ f.
                let other = not_above key first held (first_above first.key records held up.0 f) same in
                let rest = first_itself key records held up.1 f same in (rw other rest.0, rw other rest.1)
          ] e

-- ---- keys

pub turned : KeysAreDistinct → (a b : Key (List ℕ)) → same_key a b ≡ false → same_key b a ≡ false
turned apart a b other =
    elim (same_key b a) as (λ t. same_key b a ≡ t → t ≡ false) [
      | true ↦ λ e. absurd (false≢true (sym other ∙ (apart a b).1.1 (sym ((apart b a).1.0 e))))
      | false ↦ λ e. refl
    ] refl

-- ---- a firing

-- The machine that a firing leaves.
abbrev pub left_by : Timer → Record (List ℕ) → Option Machine
left_by PrunePending held = on_ppt held.key.what held.machine
left_by Expiry held = None

-- The records are in key order after the firing, it did this to its machine, and all other machines stay.
pub record Fires (records : Records) (reported : Firing (List ℕ)) (after : Records) : Type 0 where
  pub ascending : IsAscending after
  pub state : reported.after ≡ state_of_machine (left_by reported.timer reported.before)
  pub itself : (key : Key (List ℕ)) → same_key key reported.before.key ≡ true →
      (machine_at key records ≡ Some reported.before.machine)
      × (machine_at key after ≡ left_by reported.timer reported.before)
  pub others : (key : Key (List ℕ)) → same_key key reported.before.key ≡ false →
      machine_at key records ≡ machine_at key after

module _ (apart : KeysAreDistinct) (records : Records) (up : IsAscending records) where
  fires_first : (due : Record (List ℕ) → Bool) (change : Record (List ℕ) → Option Machine) (held : Record (List ℕ)) →
      first_due due records ≡ Some held → (reported : Firing (List ℕ)) → reported.before ≡ held →
      left_by reported.timer reported.before ≡ change held → reported.after ≡ state_of_machine (left_by reported.timer reported.before) →
      Fires records reported (with_first due (λ held. recorded held.key (change held)) records)
  fires_first due change held first reported before left state = record {
    ascending = ascending_first due change records up;
    state = state;
    itself = λ key same.
        let at : same_key key held.key ≡ true =
        subst (λ (r : Record (List ℕ)). same_key key r.key ≡ true) before same in
        let both = first_itself due change apart key records held up first at in
        (both.0 ∙ ap (λ (r : Record (List ℕ)). Some r.machine) (sym before), both.1 ∙ sym left);
    others = λ key other.
        let at : same_key key held.key ≡ false =
        subst (λ (r : Record (List ℕ)). same_key key r.key ≡ false) before other in
        sym (first_other due change key records held first at);
  }

  pair_of : (reported said : Firing (List ℕ)) (left after : Records) →
      ◌≡◌ {A = FirstFiring} (Some (said, left)) (Some (reported, after)) →
      ◌≡◌ {A = Firing (List ℕ) × Records} (said, left) (reported, after)
  pair_of reported said left after e = cc

  et_leaves : (reported : Firing (List ℕ)) (after : Records) (o : Option (Record (List ℕ))) →
      first_due et_due records ≡ o → et_firing records o ≡ Some (reported, after) → Fires records reported after
  et_leaves reported after None first e = absurd (no_pair reported after e)
  et_leaves reported after (Some held) first e =
      subst (λ (x : Firing (List ℕ) × Records). Fires records x.0 x.1) (pair_of reported (et_fires held) _ after e)
      (fires_first et_due (λ held. None) held first (et_fires held) refl refl refl)

  ppt_leaves : (reported : Firing (List ℕ)) (after : Records) (o : Option (Record (List ℕ))) →
      first_due ppt_due records ≡ o → ppt_firing records o ≡ Some (reported, after) → Fires records reported after
  ppt_leaves reported after None first e = et_leaves reported after (first_due et_due records) refl e
  ppt_leaves reported after (Some held) first e =
      subst (λ (x : Firing (List ℕ) × Records). Fires records x.0 x.1) (pair_of reported (ppt_fires held) _ after e)
      (fires_first ppt_due (λ held. on_ppt held.key.what held.machine) held first (ppt_fires held) refl refl refl)

  pub firing_leaves : (reported : Firing (List ℕ)) (after : Records) → firing records ≡ Some (reported, after) →
      Fires records reported after
  unfolding firing
  firing_leaves reported after e = ppt_leaves reported after (first_due ppt_due records) refl e

-- ---- what is known after a firing

module _ (ms : ℕ) (causes : Causes (List ℕ)) (reported : Fired (List ℕ)) (machine : Machine) where
  abbrev known : Known
  known = knowing ms causes machine

  gone : reported.after ≡ None → None ≡ fired_known reported known reported.after
  gone after = sym (ap (fired_known reported known) after)

  pruned : reported.timer ≡ PrunePending → reported.after ≡ Some Prune →
      known_of ms causes (machine_in Prune machine.expires_in None) ≡ fired_known reported known reported.after
  pruned timer after = (λ i. Some (record { state = Prune; ends = λ t. ends t i; by = λ t. cause_of t causes; since = causes.since }))
      ∙ sym (ap (fired_known reported known) after)
    where
      ends : (t : Timer) → end_of t ms (machine_in Prune machine.expires_in None)
          ≡ end_after t reported (end_of t ms (Some machine))
      ends Expiry = rw (after, timer) refl
      ends PrunePending = rw (after, timer) refl

  ppt_left : (what : What (List ℕ)) → reported.timer ≡ PrunePending →
      reported.after ≡ state_of_machine (on_ppt what machine) →
      known_of ms causes (on_ppt what machine) ≡ fired_known reported known reported.after
  ppt_left Star timer after = gone after
  ppt_left (Source source) timer after = gone after
  ppt_left (Rpt source) timer after = pruned timer after

pub known_left : (ms : ℕ) (causes : Causes (List ℕ)) (reported : Fired (List ℕ)) (held : Record (List ℕ)) (timer : Timer) →
    reported.timer ≡ timer → reported.after ≡ state_of_machine (left_by timer held) →
    known_of ms causes (left_by timer held) ≡ fired_known reported (knowing ms causes held.machine) reported.after
known_left ms causes reported held Expiry is after = gone ms causes reported held.machine after
known_left ms causes reported held PrunePending is after =
    ppt_left ms causes reported held.machine held.key.what is after
