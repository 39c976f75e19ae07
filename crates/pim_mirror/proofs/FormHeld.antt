-- The machines that a fresh port holds are those of the form.
use Rattle.pim_mirror.proofs.Words.{◌≡◌, ◌∙◌, ℕ, ◌-◌, Bool, true, false, ◌==◌, ◌||◌, if◌then◌else◌, List, [], ◌∷◌}
use Rattle.pim_mirror.proofs.Words.{Option, None, Some, option_map, refl, sym, ap, is_some, false≢true, What, Key}
use Rattle.pim_mirror.proofs.Words.{Downstream, expiry_after, GroupForm, Delivery, last_of, is_delivered, Exchange}
use Rattle.pim_mirror.proofs.Words.{has_unit_of, Span, up_to, span_of, state_wanted, machine_wanted, IsAsWanted}
use Rattle.pim_mirror.proofs.Words.{SpanIsOfItsMessage, IsCarried, CarriesForm, AllCame, expiry_of, HoldsTheForm}
use Rattle.pim_down.specs.declared.machines.machine.Machine.{Machine}
use Rattle.pim_down.specs.Tables.{machine_in}

-- when a message that was delivered came last
record CameLast (message : ℕ) (deliveries : List Delivery) : Type 0 where
  last : ℕ
  is : last_of message deliveries ≡ Some last

came_last : (message : ℕ) (deliveries : List Delivery) → is_delivered message deliveries ≡ true → CameLast message deliveries
unfolding last_of
came_last message [] came = absurd (false≢true came)
came_last message (delivery ∷ earlier) came = by (delivery.message == message) refl (λ before. came_last message earlier before) came
  where
    by : (b : Bool) → (delivery.message == message) ≡ b → (is_delivered message earlier ≡ true → CameLast message earlier) → (b || is_delivered message earlier) ≡ true → CameLast message (delivery ∷ earlier)
    by true e others f = record { last = delivery.moment; is = ap (λ b. if b then Some delivery.moment else last_of message earlier) e }
    by false e others f =
        let before = others f in
        record { last = before.last; is = ap (λ b. if b then Some delivery.moment else last_of message earlier) e ∙ before.is }

-- a machine that has a span is named by a message
record HasLabel (exchange : Exchange) (key : Key (List ℕ)) : Type 0 where
  message : ℕ
  listed : has_unit_of exchange.port key (exchange.messages message) ≡ true

names_it : (exchange : Exchange) (key : Key (List ℕ)) (deliveries : List Delivery) → is_some (span_of exchange key deliveries) ≡ true → HasLabel exchange key
unfolding span_of
names_it exchange key [] some = absurd (false≢true some)
names_it exchange key (delivery ∷ earlier) some = by (has_unit_of exchange.port key (exchange.messages delivery.message)) refl (λ before. names_it exchange key earlier before) some
  where
    by : (b : Bool) → has_unit_of exchange.port key (exchange.messages delivery.message) ≡ b → (is_some (span_of exchange key earlier) ≡ true → HasLabel exchange key)
        → is_some (if b then Some (up_to delivery.moment (span_of exchange key earlier)) else span_of exchange key earlier) ≡ true → HasLabel exchange key
    by true e others f = record { message = delivery.message; listed = e }
    by false e others f = others f

module _ (exchange : Exchange) (moment : ℕ) (what : What (List ℕ)) where
  no_span : (last : ℕ) → ◌≡◌ {A = Option ℕ} None (Some last) → ⊥
  no_span last e = cc

  same_last : (last other : ℕ) → ◌≡◌ {A = Option ℕ} (Some last) (Some other) → last ≡ other
  same_last last other e = cc

  asked_by : (last : ℕ) (span : Option Span) → option_map (λ (span : Span). span.last) span ≡ Some last
      → machine_wanted exchange moment what span ≡ machine_in (state_wanted what) (expiry_after (moment - last) (expiry_of exchange.holdtime)) None
  asked_by last None e = absurd (no_span last e)
  asked_by last (Some span) e =
      ap (λ (n : ℕ). machine_in (state_wanted what) (expiry_after (moment - n) (expiry_of exchange.holdtime)) None) (same_last span.last last e)

  held_span : (span : Option Span) → is_some (machine_wanted exchange moment what span) ≡ true → is_some span ≡ true
  held_span None e = e
  held_span (Some span) e = refl

pub holds_the_form : SpanIsOfItsMessage → (exchange : Exchange) (count : ℕ) (form : List GroupForm) (deliveries : List Delivery) (moment : ℕ) (state : Downstream)
    → CarriesForm exchange count form → AllCame count deliveries → IsAsWanted exchange deliveries moment state → HoldsTheForm exchange count form deliveries moment state
holds_the_form span_is exchange count form deliveries moment state carries came demanded = record {
  held = λ key on listed.
      let reported : IsCarried exchange count key = carries.all key on listed in
      let last = came_last reported.message deliveries (came reported.message reported.within) in
      record {
        message = reported.message;
        within = reported.within;
        listed = reported.listed;
        last = last.last;
        came = last.is;
        is = demanded key ∙ asked_by exchange moment key.what last.last (span_of exchange key deliveries) ((span_is exchange reported.message key deliveries carries.once reported.listed).1 ∙ last.is);
      };
  no_others = λ key some.
      let by = names_it exchange key deliveries (held_span exchange moment key.what (span_of exchange key deliveries) (sym (ap (λ (o : Option Machine). is_some o) (demanded key)) ∙ some)) in
      let of_form = carries.no_others by.message key by.listed in
      (of_form.port, of_form.listed);
}
