-- From the final moment on the machines stay as they are asked for.
use Rattle.pim_fresh.proofs.Words.{◌≡◌, ℕ, ◌+◌, ◌-◌, ◌≤◌, Bool, true, false, cond, ◌&&◌, ◌||◌, List, [], ◌∷◌, Option, Some, None}
use Rattle.pim_fresh.proofs.Words.{ltb, eqb, max, refl, sym, ap, subst, ◌∙◌, arith, is_some, option_map, false≢true, eqb-true}
use Rattle.pim_fresh.proofs.Words.{nat_tests, What, Star, Source, Rpt, Key, PrunePending, Prune, Step, Reached, machine_at}
use Rattle.pim_fresh.proofs.Words.{state_of_machine, machine_in, Downstream, machine_after, Runs, RunGoesOn, EchoNamesAMachine}
use Rattle.pim_fresh.proofs.Words.{Exchange, HasUnitsOnce, starts, has_unit_of, Delivery, IsShorter, IsTimely, is_delivered}
use Rattle.pim_fresh.proofs.Words.{final_moment, fresh, after_message, Leaves, Span, up_to, span_of, time_left, unit_of}
use Rattle.pim_fresh.proofs.Words.{state_wanted, machine_wanted, Stays, StaysAsWanted}
use Rattle.pim_fresh.proofs.Waiting.{left_later}
use Rattle.pim_fresh.proofs.Spans.{the_span, no_span, names, span_named, span_other, in_order}
use Rattle.pim_fresh.proofs.Hearings.{Machines, IsExpected, is_expected}
use Rattle.pim_fresh.proofs.Echoes.{reaches, expected_mute}

-- ---- the final moment

module _ (exchange : Exchange) (key : Key (List ℕ)) where
  some_named : (delivery : Delivery) (earlier : List Delivery) → is_some (span_of exchange key earlier) ≡ true → is_some (span_of exchange key (delivery ∷ earlier)) ≡ true
  some_named delivery earlier some = by (names exchange key delivery) refl
    where
      by : (b : Bool) → names exchange key delivery ≡ b → is_some (span_of exchange key (delivery ∷ earlier)) ≡ true
      by true n = ap is_some (span_named exchange key delivery earlier n)
      by false n = ap is_some (span_other exchange key delivery earlier n) ∙ some

  -- a machine that a delivered message names has a span
  pub was_named : (message : ℕ) (deliveries : List Delivery) → is_delivered message deliveries ≡ true → has_unit_of exchange.port key (exchange.messages message) ≡ true → is_some (span_of exchange key deliveries) ≡ true
  was_named message [] d has_unit = absurd (false≢true d)
  was_named message (delivery ∷ earlier) d has_unit =
      elim (eqb delivery.message message) as (λ b. eqb delivery.message message ≡ b → (b || is_delivered message earlier) ≡ true → is_some (span_of exchange key (delivery ∷ earlier)) ≡ true) [
        | true ↦ λ e f. ap is_some (span_named exchange key delivery earlier (subst (λ (i : ℕ). has_unit_of exchange.port key (exchange.messages i) ≡ true) (sym (eqb-true delivery.message message e)) has_unit))
        | false ↦ λ e f. some_named delivery earlier (was_named message earlier f has_unit)
      ] refl d

  pub first_over : (deliveries : List Delivery) (span : Span) → span_of exchange key deliveries ≡ Some span → span.first + exchange.timing.override_ms ≤ final_moment exchange.timing.override_ms deliveries
  unfolding span_of final_moment
  first_over [] span e = absurd (no_span span e)
  first_over (delivery ∷ earlier) span e =
      elim (names exchange key delivery) as (λ b. names exchange key delivery ≡ b → span.first + exchange.timing.override_ms ≤ max (cond (is_delivered delivery.message earlier) delivery.moment (delivery.moment + exchange.timing.override_ms)) (final_moment exchange.timing.override_ms earlier)) [
        | true ↦ λ n. here n (span_of exchange key earlier) refl (λ before f. first_over earlier before f) (sym (span_named exchange key delivery earlier n) ∙ e)
        | false ↦ λ n. let rest = first_over earlier span (sym (span_other exchange key delivery earlier n) ∙ e) in omega arith
      ] refl
    where
      begins : (b : Bool) → is_delivered delivery.message earlier ≡ b → names exchange key delivery ≡ true → span_of exchange key earlier ≡ None → delivery.moment + exchange.timing.override_ms ≤ max (cond b delivery.moment (delivery.moment + exchange.timing.override_ms)) (final_moment exchange.timing.override_ms earlier)
      begins true d n none = absurd (false≢true (sym (ap is_some none) ∙ was_named delivery.message earlier d n))
      begins false d n none = omega arith

      here : names exchange key delivery ≡ true → (o : Option Span) → span_of exchange key earlier ≡ o → ((before : Span) → span_of exchange key earlier ≡ Some before → before.first + exchange.timing.override_ms ≤ final_moment exchange.timing.override_ms earlier) → Some (up_to delivery.moment (span_of exchange key earlier)) ≡ Some span → span.first + exchange.timing.override_ms ≤ max (cond (is_delivered delivery.message earlier) delivery.moment (delivery.moment + exchange.timing.override_ms)) (final_moment exchange.timing.override_ms earlier)
      here n None at rest same =
          let first : delivery.moment ≡ span.first = ap (λ (s : Span). s.first) (ap (up_to delivery.moment) (sym at) ∙ the_span (up_to delivery.moment (span_of exchange key earlier)) span same) in
          let begun = begins (is_delivered delivery.message earlier) refl n at in
          omega arith
      here n (Some before) at rest same =
          let first : before.first ≡ span.first = ap (λ (s : Span). s.first) (ap (up_to delivery.moment) (sym at) ∙ the_span (up_to delivery.moment (span_of exchange key earlier)) span same) in
          let over = rest before at in
          omega arith

last_before : (override_ms : ℕ) (delivery : Delivery) (earlier : List Delivery) → delivery.moment ≤ final_moment override_ms (delivery ∷ earlier)
unfolding final_moment
last_before override_ms delivery earlier = by (is_delivered delivery.message earlier)
  where
    by : (b : Bool) → delivery.moment ≤ max (cond b delivery.moment (delivery.moment + override_ms)) (final_moment override_ms earlier)
    by true = omega arith
    by false = omega arith

shorter_before : (moment later last : ℕ) (expiry : Option ℕ) → moment ≤ later → IsShorter (later - last) expiry → IsShorter (moment - last) expiry
shorter_before moment later last None before shorter = tt
shorter_before moment later last (Some ends) before shorter = omega arith

timely_before : (expiry : Option ℕ) (override_ms moment later : ℕ) (deliveries : List Delivery) → final_moment override_ms deliveries ≤ moment → moment ≤ later → IsTimely expiry later deliveries → IsTimely expiry moment deliveries
unfolding IsTimely
timely_before expiry override_ms moment later [] over before timely = tt
timely_before expiry override_ms moment later (delivery ∷ earlier) over before timely =
    let last = last_before override_ms delivery earlier in
    (omega arith, λ message came e. shorter_before moment later came expiry before (timely.1 message came e), timely.2)

-- ---- the units then

and_none : (a b : Bool) → b ≡ false → (a && b) ≡ false
and_none true b e = e
and_none false b e = refl

unit_asked : (exchange : Exchange) (moment : ℕ) (what : What (List ℕ)) (o : Option Span) → ((span : Span) → o ≡ Some span → span.first + exchange.timing.override_ms ≤ moment) → unit_of exchange moment what o ≡ machine_wanted exchange moment what o
unit_asked exchange moment what None over = refl
unit_asked exchange moment Star (Some span) over = refl
unit_asked exchange moment (Source source) (Some span) over = refl
unit_asked exchange moment (Rpt source) (Some span) over =
    let past = over span refl in
    let none : ltb moment (span.first + exchange.timing.override_ms) ≡ false = grind (arith, nat_tests) in
    ap (λ b. cond b (machine_in PrunePending (time_left exchange moment span) (Some (record { ends_in = (span.first + exchange.timing.override_ms) - moment; several = true }))) (machine_in Prune (time_left exchange moment span) None))
    (and_none exchange.timing.several (ltb moment (span.first + exchange.timing.override_ms)) none)

asked_later : (exchange : Exchange) (moment later : ℕ) (what : What (List ℕ)) (o : Option Span) → moment ≤ later → ((span : Span) → o ≡ Some span → span.last ≤ moment) → machine_wanted exchange later what o ≡ option_map (machine_after (later - moment)) (machine_wanted exchange moment what o)
asked_later exchange moment later what None before last = refl
asked_later exchange moment later what (Some span) before last = ap (λ e. machine_in (state_wanted what) e None) (sym (left_later exchange moment later span (last span refl) before))

same_state : (exchange : Exchange) (moment later : ℕ) (what : What (List ℕ)) (o : Option Span) → state_of_machine (machine_wanted exchange later what o) ≡ state_of_machine (machine_wanted exchange moment what o)
same_state exchange moment later what None = refl
same_state exchange moment later what (Some span) = refl

-- ---- the run

module _ (laws : Machines) (echo : EchoNamesAMachine) (goes_on : RunGoesOn) (exchange : Exchange) (carries : HasUnitsOnce exchange) (ports limit : ℕ) where
  leaves_later : (deliveries : List Delivery) (moment later : ℕ) (state after : Downstream) → moment ≤ later → Leaves exchange ports limit deliveries moment state → Runs later state Reached after → Leaves exchange ports limit deliveries later after
  unfolding Leaves
  leaves_later [] moment later state after before leaves runs = goes_on moment later (fresh ports limit) state after Reached before leaves runs
  leaves_later (delivery ∷ earlier) moment later state after before leaves runs = record {
    before = leaves.before;
    was = leaves.was;
    runs = goes_on moment later (after_message exchange delivery.message leaves.before) state after Reached before leaves.runs runs;
  }

  asked_at : (deliveries : List Delivery) (moment : ℕ) (state : Downstream) → final_moment exchange.timing.override_ms deliveries ≤ moment → IsExpected laws exchange carries ports limit deliveries moment state → (key : Key (List ℕ)) → machine_at key state.records ≡ machine_wanted exchange moment key.what (span_of exchange key deliveries)
  asked_at deliveries moment state over is key =
      is.machines key ∙ unit_asked exchange moment key.what (span_of exchange key deliveries) (λ span e. let first = first_over exchange key deliveries span e in omega arith)

  pub stays : (deliveries : List Delivery) (moment later : ℕ) (state after : Downstream) (answer : Step (List ℕ)) → final_moment exchange.timing.override_ms deliveries ≤ moment → moment ≤ later → IsTimely (starts exchange).expires_in later deliveries → Leaves exchange ports limit deliveries moment state → Runs later state answer after → Stays exchange deliveries moment later state answer after
  stays deliveries moment later state after answer over before timely leaves runs =
      let timely_now = timely_before (starts exchange).expires_in exchange.timing.override_ms moment later deliveries over before timely in
      let now = is_expected laws exchange carries ports limit deliveries moment state timely_now leaves in
      let reached = reaches echo later state after answer now.ascending (expected_mute laws echo exchange carries ports limit deliveries moment state now) runs in
      let runs_on : Runs later state Reached after = subst (λ (a : Step (List ℕ)). Runs later state a after) reached runs in
      let then = is_expected laws exchange carries ports limit deliveries later after timely (leaves_later deliveries moment later state after before leaves runs_on) in
      let over_later : final_moment exchange.timing.override_ms deliveries ≤ later = omega arith in
      record {
        reached = reached;
        moment_is = then.moment_is;
        as_wanted = asked_at deliveries later after over_later then;
        waited = λ key.
            asked_at deliveries later after over_later then key
            ∙ asked_later exchange moment later key.what (span_of exchange key deliveries) before (λ span e. (in_order exchange key (starts exchange).expires_in moment deliveries span timely_now e).last)
            ∙ ap (option_map (machine_after (later - moment))) (sym (asked_at deliveries moment state over now key));
        state_stays = λ key.
            ap state_of_machine (asked_at deliveries later after over_later then key)
            ∙ same_state exchange moment later key.what (span_of exchange key deliveries)
            ∙ ap state_of_machine (sym (asked_at deliveries moment state over now key));
      }

pub stays_as_wanted : Machines → EchoNamesAMachine → RunGoesOn → StaysAsWanted
stays_as_wanted laws echo goes_on exchange ports limit deliveries moment later state after answer carries over before timely leaves runs =
    stays laws echo goes_on exchange carries ports limit deliveries moment later state after answer over before timely leaves runs
