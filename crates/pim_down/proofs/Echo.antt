-- What an echo names.
use Rattle.pim_down.proofs.Words.{◌≡◌, ℕ, ◌+◌, ◌-◌, ◌≤◌, Bool, true, false, cond, List, [], ◌∷◌, Option, Some, None, refl, sym, ap, subst, ◌∙◌, arith, Less, is_some, nat_tests, false≢true, eqb-true, What, Star, Source, Rpt, Key, Prune, Pending, Machine, Record, Step, Reached, Echo, key_cmp, same_key, IsBelow, IsAscending, machine_at, recorded, Downstream, pending_after, machine_after, tick, pending_due, et_due, ppt_due, on_ppt, after_et, after_ppt, had_several, echoes_at, echo_of, first_due, with_first, fire_et, fire_ppt, fired, with_records, Runs, IsEchoOf}
use Rattle.pim_down.proofs.Order.{same_itself, greater_differs, less_back}
use Rattle.pim_down.proofs.Map.{at_recorded}
use Rattle.pim_down.proofs.Kept.{kept_later, kept_fired}
use Rattle.pim_down.proofs.Runs.{by_run, no_echo}
use Rattle.pim_down.proofs.Silence.{quiet_timers, quiet_at, option_after, at_later, AtFirst, elsewhere, here, at_first, left_of}

-- ---- the record that fires

-- the first due record is held, and at its key stands then what the change makes of it
pub record FirstHit (due : Record (List ℕ) → Bool) (change : Record (List ℕ) → Option Machine) (records : List (Record (List ℕ))) (held : Record (List ℕ)) : Type 0 where
  pub is_due : due held ≡ true
  pub stood : machine_at held.key records ≡ Some held.machine
  pub stands : machine_at held.key (with_first due (λ (h : Record (List ℕ)). recorded h.key (change h)) records) ≡ change held

below_first : (due : Record (List ℕ) → Bool) (key : Key (List ℕ)) (records : List (Record (List ℕ))) (found : Record (List ℕ)) → IsBelow key records → first_due due records ≡ Some found → key_cmp key found.key ≡ Less
unfolding IsBelow first_due
below_first due key [] found below e = absurd (false≢true (ap is_some e))
below_first due key (held ∷ records) found below e =
    elim (due held) as (λ b. cond b (Some held) (first_due due records) ≡ Some found → key_cmp key found.key ≡ Less) [
      | true ↦ λ f. let same : held ≡ found = cc in subst (λ (h : Record (List ℕ)). key_cmp key h.key ≡ Less) same below.0
      | false ↦ λ f. below_first due key records found below.1 f
    ] e

first_hit : (due : Record (List ℕ) → Bool) (change : Record (List ℕ) → Option Machine) (records : List (Record (List ℕ))) (found : Record (List ℕ)) → IsAscending records → first_due due records ≡ Some found → FirstHit due change records found
unfolding IsAscending machine_at first_due with_first
first_hit due change [] found a e = absurd (false≢true (ap is_some e))
first_hit due change (held ∷ records) found a e =
    elim (due held) as (λ b. due held ≡ b → cond b (Some held) (first_due due records) ≡ Some found → FirstHit due change (held ∷ records) found) [
      | true ↦ λ d f. let same : held ≡ found = cc in
          subst (FirstHit due change (held ∷ records)) same (record {
            is_due = d;
            stood = rw (same_itself held.key) refl;
            stands = rw d (at_recorded held.key (change held) records a.0);
          })
      | false ↦ λ d f.
          let more = first_hit due change records found a.1 f in
          let apart : same_key found.key held.key ≡ false = greater_differs found.key held.key (less_back held.key found.key (below_first due held.key records found a.0 f)) in
          record { is_due = more.is_due; stood = rw apart more.stood; stands = rw (d, apart) more.stands }
    ] refl e

-- ---- what is told

pub record Told (port : ℕ) (group : List ℕ) (what : What (List ℕ)) (records after : List (Record (List ℕ))) : Type 0 where
  pub held : Record (List ℕ)
  pub first : first_due ppt_due records ≡ Some held
  pub echo : echo_of held ≡ Echo port group what
  pub left : with_first ppt_due after_ppt records ≡ after

not_reached : (port : ℕ) (group : List ℕ) (what : What (List ℕ)) → Reached ≡ Echo port group what → ⊥
not_reached port group what e = no_echo port group what (sym e)

told_by : (records after : List (Record (List ℕ))) (port : ℕ) (group : List ℕ) (what : What (List ℕ)) → fired records ≡ Some (Echo port group what, after) → Told port group what records after
unfolding fired
told_by records after port group what e = by_ppt (first_due ppt_due records) refl e
  where
    by_et : (o : Option (Record (List ℕ))) → fire_et records o ≡ Some (Echo port group what, after) → Told port group what records after
    by_et None f = absurd (false≢true (ap is_some f))
    by_et (Some held) f = absurd (not_reached port group what (left_of Reached (Echo port group what) (with_first et_due after_et records) after f).0)

    by_ppt : (o : Option (Record (List ℕ))) → first_due ppt_due records ≡ o → fire_ppt records o ≡ Some (Echo port group what, after) → Told port group what records after
    by_ppt None d f = by_et (first_due et_due records) f
    by_ppt (Some held) d f =
        let both = left_of (echo_of held) (Echo port group what) (with_first ppt_due after_ppt records) after f in
        record { held = held; first = d; echo = both.0; left = both.1 }

-- the key and the kind of the record that an echo is told of
abbrev step_key : Step (List ℕ) → Key (List ℕ) → Key (List ℕ)
step_key Reached d = d
step_key (Echo port group what) d = record { port = port; group = group; what = what }

told_of : (held : Record (List ℕ)) (port : ℕ) (group : List ℕ) (what : What (List ℕ)) → echo_of held ≡ Echo port group what → (echoes_at held.key.what (had_several held.machine.pending) ≡ true) × (held.key ≡ record { port = port; group = group; what = what })
told_of held port group what e = by (echoes_at held.key.what (had_several held.machine.pending)) refl e
  where
    by : (b : Bool) → echoes_at held.key.what (had_several held.machine.pending) ≡ b → cond b (Echo held.key.port held.key.group held.key.what) Reached ≡ Echo port group what → (echoes_at held.key.what (had_several held.machine.pending) ≡ true) × (held.key ≡ record { port = port; group = group; what = what })
    by true t f = (t, ap (λ (s : Step (List ℕ)). step_key s held.key) f)
    by false t f = absurd (not_reached port group what f)

echoes_several : (what : What (List ℕ)) (b : Bool) → echoes_at what b ≡ true → (echoes_at what true ≡ true) × (b ≡ true)
echoes_several Star b e = (refl, e)
echoes_several (Source source) b e = (refl, e)
echoes_several (Rpt source) b e = absurd (false≢true e)

gone_by : (what : What (List ℕ)) (machine : Machine) → echoes_at what true ≡ true → on_ppt what machine ≡ None
gone_by Star machine e = refl
gone_by (Source source) machine e = refl
gone_by (Rpt source) machine e = absurd (false≢true e)

timer_by : (p : Option Pending) → pending_due p ≡ true → had_several p ≡ true → p ≡ Some (record { ends_in = 0; several = true })
timer_by None due several = absurd (false≢true due)
timer_by (Some timer) due several = let zero = eqb-true timer.ends_in 0 due in λ i. Some (record { ends_in = zero i; several = several i })

abbrev Named : Downstream → Step (List ℕ) → Downstream → Type 0
Named state answer after = IsAscending state.records → (port : ℕ) (group : List ℕ) (what : What (List ℕ)) → answer ≡ Echo port group what → (state.moment ≤ after.moment) × IsEchoOf (record { port = port; group = group; what = what }) state after

named_now : (state : Downstream) (port : ℕ) (group : List ℕ) (what : What (List ℕ)) (records : List (Record (List ℕ))) → fired state.records ≡ Some (Echo port group what, records) → IsAscending state.records → IsEchoOf (record { port = port; group = group; what = what }) state (with_records state records)
named_now state port group what records f a =
    let reported = told_by state.records records port group what f in
    let held = reported.held in
    let is = told_of held port group what reported.echo in
    let kind = echoes_several held.key.what (had_several held.machine.pending) is.0 in
    let hit = first_hit ppt_due (λ (h : Record (List ℕ)). on_ppt h.key.what h.machine) state.records held a reported.first in
    let zero : 0 ≡ state.moment - state.moment = omega arith in
    subst (λ (k : Key (List ℕ)). IsEchoOf k state (with_records state records)) is.1 (record {
      machine = held.machine;
      held = hit.stood;
      timer = timer_by held.machine.pending hit.is_due kind.1 ∙ ap (λ n. Some (record { ends_in = n; several = true })) zero;
      echoes = kind.0;
      gone = ap (machine_at held.key) (sym reported.left) ∙ hit.stands ∙ gone_by held.key.what held.machine kind.0;
    })

same_answer : (port : ℕ) (group : List ℕ) (what : What (List ℕ)) (p : ℕ) (g : List ℕ) (w : What (List ℕ)) → Echo port group what ≡ Echo p g w → ◌≡◌ {A = Key (List ℕ)} (record { port = port; group = group; what = what }) (record { port = p; group = g; what = w })
same_answer port group what p g w e = ap (λ (s : Step (List ℕ)). step_key s (record { port = port; group = group; what = what })) e

-- ---- before it is told

-- a machine with a timer that is held a millisecond later
record Before (o : Option Machine) (ends : ℕ) : Type 0 where
  machine : Machine
  held : o ≡ Some machine
  timer : machine.pending ≡ Some (record { ends_in = ends; several = true })

ticked : (o : Option Machine) (later : Machine) (left : ℕ) → ((m : Machine) → o ≡ Some m → pending_due m.pending ≡ false) → option_after 1 o ≡ Some later → later.pending ≡ Some (record { ends_in = left; several = true }) → Before o (left + 1)
ticked None later left quiet e t = absurd (false≢true (ap is_some e))
ticked (Some machine) later left quiet e t =
    let same : machine_after 1 machine ≡ later = cc in
    record { machine = machine; held = refl; timer = by machine.pending (quiet machine refl) (ap (λ (m : Machine). m.pending) same ∙ t) }
  where
    some_timer : (a b : Pending) → Some a ≡ Some b → a ≡ b
    some_timer a b e = cc

    by : (p : Option Pending) → pending_due p ≡ false → pending_after 1 p ≡ Some (record { ends_in = left; several = true }) → p ≡ Some (record { ends_in = left + 1; several = true })
    by None quiet e = absurd (false≢true (ap is_some e))
    by (Some timer) quiet e =
        let same = some_timer _ _ e in
        let less : timer.ends_in - 1 ≡ left = ap (λ (p : Pending). p.ends_in) same in
        let some : timer.several ≡ true = ap (λ (p : Pending). p.several) same in
        let ends : timer.ends_in ≡ left + 1 = grind (arith, nat_tests) in
        λ i. Some (record { ends_in = ends i; several = some i })

named_tick : (state after : Downstream) (answer : Step (List ℕ)) → fired state.records ≡ None → Named (tick state) answer after → Named state answer after
named_tick state after answer quiet more a port group what e =
    let rest = more ((kept_later 1 state.records).ascending a) port group what e in
    let key : Key (List ℕ) = record { port = port; group = group; what = what } in
    let due = quiet_timers state.records quiet in
    let before = ticked (machine_at key state.records) rest.1.machine (after.moment - (state.moment + 1)) (λ m at. (quiet_at state.records key m due.0 due.1 at).0) (sym (at_later 1 key state.records) ∙ rest.1.held) rest.1.timer in
    let passed : after.moment - (state.moment + 1) + 1 ≡ after.moment - state.moment = omega (arith, rest.0) in (
      omega (arith, rest.0),
      record {
        machine = before.machine;
        held = before.held;
        timer = before.timer ∙ ap (λ n. Some (record { ends_in = n; several = true })) passed;
        echoes = rest.1.echoes;
        gone = rest.1.gone;
      },
    )

-- a machine with a prune-pending timer that is held behind one that fired was held before it
waits_first : (due : Record (List ℕ) → Bool) (change : Record (List ℕ) → Option Machine) (key : Key (List ℕ)) (records : List (Record (List ℕ))) (machine : Machine) → ((held : Record (List ℕ)) (m : Machine) → change held ≡ Some m → is_some m.pending ≡ false) → AtFirst due change key records → machine_at key (with_first due (λ (h : Record (List ℕ)). recorded h.key (change h)) records) ≡ Some machine → is_some machine.pending ≡ true → machine_at key records ≡ Some machine
waits_first due change key records machine none (elsewhere e) at waits = sym e ∙ at
waits_first due change key records machine none (here held k d m e) at waits = absurd (false≢true (sym (none held machine (sym e ∙ at)) ∙ waits))

no_timer : (what : What (List ℕ)) (held m : Machine) → on_ppt what held ≡ Some m → is_some m.pending ≡ false
no_timer Star held m e = absurd (false≢true (ap is_some e))
no_timer (Source source) held m e = absurd (false≢true (ap is_some e))
no_timer (Rpt source) held m e = let same : record { state = Prune; expires_in = held.expires_in; pending = None } ≡ m = cc in ap (λ (x : Machine). is_some x.pending) (sym same)

waits_before : (records after : List (Record (List ℕ))) (answer : Step (List ℕ)) (key : Key (List ℕ)) (machine : Machine) → IsAscending records → fired records ≡ Some (answer, after) → machine_at key after ≡ Some machine → is_some machine.pending ≡ true → machine_at key records ≡ Some machine
unfolding fired
waits_before records after answer key machine a e at waits = by_ppt (first_due ppt_due records) e
  where
    by_et : (o : Option (Record (List ℕ))) → fire_et records o ≡ Some (answer, after) → machine_at key records ≡ Some machine
    by_et None f = absurd (false≢true (ap is_some f))
    by_et (Some held) f =
        let same = (left_of Reached answer (with_first et_due after_et records) after f).1 in
        waits_first et_due (λ (h : Record (List ℕ)). None) key records machine (λ h m n. absurd (false≢true (ap is_some n))) (at_first et_due (λ (h : Record (List ℕ)). None) key records a) (ap (machine_at key) same ∙ at) waits

    by_ppt : (o : Option (Record (List ℕ))) → fire_ppt records o ≡ Some (answer, after) → machine_at key records ≡ Some machine
    by_ppt None f = by_et (first_due et_due records) f
    by_ppt (Some held) f =
        let same = (left_of (echo_of held) answer (with_first ppt_due after_ppt records) after f).1 in
        waits_first ppt_due (λ (h : Record (List ℕ)). on_ppt h.key.what h.machine) key records machine (λ h m n. no_timer h.key.what h.machine m n) (at_first ppt_due (λ (h : Record (List ℕ)). on_ppt h.key.what h.machine) key records a) (ap (machine_at key) same ∙ at) waits

named_fire : (state after : Downstream) (answer : Step (List ℕ)) (records : List (Record (List ℕ))) → fired state.records ≡ Some (Reached, records) → Named (with_records state records) answer after → Named state answer after
named_fire state after answer records f more a port group what e =
    let rest = more ((kept_fired state.records records Reached f).ascending a) port group what e in (
      rest.0,
      record {
        machine = rest.1.machine;
        held = waits_before state.records records Reached (record { port = port; group = group; what = what }) rest.1.machine a f rest.1.held (ap is_some rest.1.timer);
        timer = rest.1.timer;
        echoes = rest.1.echoes;
        gone = rest.1.gone;
      },
    )

pub echo_names : (moment : ℕ) (state after : Downstream) (port : ℕ) (group : List ℕ) (what : What (List ℕ)) → IsAscending state.records → Runs moment state (Echo port group what) after → IsEchoOf (record { port = port; group = group; what = what }) state after
echo_names moment state after port group what a runs =
    (by_run moment Named
    (λ s quiet reached a p g w e. absurd (not_reached p g w e))
    (λ s t answer quiet before more. named_tick s t answer quiet more)
    (λ s t answer records f more. named_fire s t answer records f more)
    (λ s p g w records f a q h v e. (omega arith, subst (λ (k : Key (List ℕ)). IsEchoOf k s (with_records s records)) (same_answer p g w q h v e) (named_now s p g w records f a)))
    state after (Echo port group what) runs a port group what refl).1
