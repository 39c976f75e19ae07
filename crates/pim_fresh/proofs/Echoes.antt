-- No echo is told, so that every run of a fresh hearing reaches its moment.
use Rattle.pim_fresh.proofs.Words.{◌≡◌, ℕ, true, false, List, [], ◌∷◌, Option, Some, None, refl, sym, ap, subst, ◌∙◌, is_some}
use Rattle.pim_fresh.proofs.Words.{false≢true, What, Star, Source, Rpt, Key, Machine, Step, Reached, Echo, IsAscending}
use Rattle.pim_fresh.proofs.Words.{machine_at, is_rpt, Downstream, Runs, echoes_at, EveryStateHasARun, EchoNamesAMachine}
use Rattle.pim_fresh.proofs.Words.{Exchange, HasUnitsOnce, starts, Delivery, IsTimely, fresh, after_message, Leaves, Span}
use Rattle.pim_fresh.proofs.Words.{span_of, unit_of, NoEchoIsDue, HasLeft, EveryHearingReaches}
use Rattle.pim_down.specs.declared.machines.machine.Pending.{Pending}
use Rattle.pim_fresh.proofs.Heard.{message_star}
use Rattle.pim_fresh.proofs.Hearings.{Machines, IsExpected, middle_at, middle_order, is_expected}

abbrev timer_of : Option Machine → Option Pending
timer_of None = None
timer_of (Some machine) = machine.pending

-- no (*,G) or (S,G) machine has a prune-pending timer
pub IsMute : Downstream → Type 0
IsMute state = (key : Key (List ℕ)) → is_rpt key.what ≡ false → timer_of (machine_at key state.records) ≡ None

echo_of_others : (what : What (List ℕ)) → echoes_at what true ≡ true → is_rpt what ≡ false
echo_of_others Star e = refl
echo_of_others (Source source) e = refl
echo_of_others (Rpt source) e = absurd (false≢true e)

pub reaches : EchoNamesAMachine → (moment : ℕ) (state after : Downstream) (answer : Step (List ℕ)) → IsAscending state.records → IsMute state → Runs moment state answer after → answer ≡ Reached
unfolding IsMute
reaches echo moment state after Reached ascending mute runs = refl
reaches echo moment state after (Echo port group what) ascending mute runs =
    let reported = echo moment state after port group what ascending runs in
    let none = mute (record { port = port; group = group; what = what }) (echo_of_others what reported.echoes) in
    let held : timer_of (machine_at (record { port = port; group = group; what = what }) state.records) ≡ reported.machine.pending = ap timer_of reported.held in
    absurd (false≢true (ap is_some (sym none ∙ held ∙ reported.timer)))

mute_unit : (exchange : Exchange) (what : What (List ℕ)) (moment : ℕ) (o : Option Span) → is_rpt what ≡ false → timer_of (unit_of exchange moment what o) ≡ None
mute_unit exchange what moment None r = refl
mute_unit exchange Star moment (Some span) r = refl
mute_unit exchange (Source source) moment (Some span) r = refl
mute_unit exchange (Rpt source) moment (Some span) r = absurd (false≢true (sym r))

fresh_mute : (ports limit : ℕ) → IsMute (fresh ports limit)
unfolding IsMute machine_at
fresh_mute ports limit key r = refl

module _ (laws : Machines) (echo : EchoNamesAMachine) (exchange : Exchange) (carries : HasUnitsOnce exchange) (ports limit : ℕ) where
  pub expected_mute : (deliveries : List Delivery) (moment : ℕ) (state : Downstream) → IsExpected laws exchange carries ports limit deliveries moment state → IsMute state
  unfolding IsMute
  expected_mute deliveries moment state is key r = ap timer_of (is.machines key) ∙ mute_unit exchange key.what moment (span_of exchange key deliveries) r

  middle_mute : (delivery : Delivery) (earlier : List Delivery) (before : Downstream) → IsExpected laws exchange carries ports limit earlier delivery.moment before → IsMute (after_message exchange delivery.message before)
  unfolding IsMute
  middle_mute delivery earlier before is key r =
      ap timer_of (middle_at laws exchange carries ports limit delivery earlier before is key ∙ message_star laws.keys exchange carries key delivery earlier r)
      ∙ mute_unit exchange key.what delivery.moment (span_of exchange key (delivery ∷ earlier)) r

  pub quiet_delivery : (delivery : Delivery) (earlier : List Delivery) (moment : ℕ) (before after : Downstream) (answer : Step (List ℕ)) → IsTimely (starts exchange).expires_in moment (delivery ∷ earlier) → Leaves exchange ports limit earlier delivery.moment before → Runs moment (after_message exchange delivery.message before) answer after → answer ≡ Reached
  unfolding IsTimely
  quiet_delivery delivery earlier moment before after answer timely leaves runs =
      let is = is_expected laws exchange carries ports limit earlier delivery.moment before timely.2 leaves in
      reaches echo moment (after_message exchange delivery.message before) after answer
      (middle_order laws exchange carries ports limit delivery.message before is.ascending)
      (middle_mute delivery earlier before is)
      runs

  reached : (moment : ℕ) (state after : Downstream) (answer : Step (List ℕ)) → answer ≡ Reached → Runs moment state answer after → Runs moment state Reached after
  reached moment state after answer e runs = subst (λ (a : Step (List ℕ)). Runs moment state a after) e runs

  pub every : EveryStateHasARun → (deliveries : List Delivery) (moment : ℕ) → IsTimely (starts exchange).expires_in moment deliveries → HasLeft exchange ports limit deliveries moment
  unfolding IsTimely Leaves IsAscending
  every has_run [] moment timely =
      let run = has_run moment (fresh ports limit) in
      let answer = reaches echo moment (fresh ports limit) run.after run.answer tt (fresh_mute ports limit) run.runs in
      record { after = run.after; leaves = reached moment (fresh ports limit) run.after run.answer answer run.runs }
  every has_run (delivery ∷ earlier) moment timely =
      let left = every has_run earlier delivery.moment timely.2 in
      let middle = after_message exchange delivery.message left.after in
      let run = has_run moment middle in
      let answer = quiet_delivery delivery earlier moment left.after run.after run.answer timely left.leaves run.runs in
      record { after = run.after; leaves = record { before = left.after; was = left.leaves; runs = reached moment middle run.after run.answer answer run.runs } }

pub no_echo : Machines → EchoNamesAMachine → NoEchoIsDue
no_echo laws echo exchange ports limit delivery earlier moment before after answer carries timely leaves runs =
    quiet_delivery laws echo exchange carries ports limit delivery earlier moment before after answer timely leaves runs

pub every_hearing : Machines → EchoNamesAMachine → EveryStateHasARun → EveryHearingReaches
every_hearing laws echo has_run exchange ports limit deliveries moment carries timely = every laws echo exchange carries ports limit has_run deliveries moment timely
