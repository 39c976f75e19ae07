-- The span of a machine is that of its message.
use Rattle.pim_fresh.proofs.Words.{◌≡◌, ℕ, Bool, true, false, cond, List, [], ◌∷◌, Option, Some, None, eqb, refl, sym, ap, subst}
use Rattle.pim_fresh.proofs.Words.{◌∙◌, option_map, false≢true, eq-eqb, eqb-true, Key, Exchange, HasUnitsOnce, has_unit_of}
use Rattle.pim_fresh.proofs.Words.{Delivery, earlier_or, first_of, last_of, Span, up_to, span_of, SpanIsOfItsMessage}
use Rattle.pim_fresh.proofs.Spans.{names, span_named, span_other}

first_in : Span → ℕ
first_in span = span.first

last_in : Span → ℕ
last_in span = span.last

begun : (moment : ℕ) (o : Option Span) → Some (first_in (up_to moment o)) ≡ earlier_or (option_map first_in o) (Some moment)
unfolding first_in
begun moment None = refl
begun moment (Some span) = refl

ended : (moment : ℕ) (o : Option Span) → Some (last_in (up_to moment o)) ≡ Some moment
unfolding last_in
ended moment None = refl
ended moment (Some span) = refl

or_nothing : (o : Option ℕ) → earlier_or o None ≡ o
or_nothing None = refl
or_nothing (Some first) = refl

module _ (exchange : Exchange) (carries : HasUnitsOnce exchange) (message : ℕ) (key : Key (List ℕ)) (has_unit : has_unit_of exchange.port key (exchange.messages message) ≡ true) where
  IsIts : List Delivery → Type 0
  IsIts deliveries = (option_map first_in (span_of exchange key deliveries) ≡ first_of message deliveries) × (option_map last_in (span_of exchange key deliveries) ≡ last_of message deliveries)

  not_named : (delivery : Delivery) → eqb delivery.message message ≡ false → names exchange key delivery ≡ false
  not_named delivery e = by (names exchange key delivery) refl
    where
      by : (b : Bool) → names exchange key delivery ≡ b → b ≡ false
      by false n = refl
      by true n = absurd (false≢true (sym e ∙ eq-eqb delivery.message message (carries.once delivery.message message key n has_unit)))

  is_named_by : (delivery : Delivery) → eqb delivery.message message ≡ true → names exchange key delivery ≡ true
  is_named_by delivery e = subst (λ (i : ℕ). has_unit_of exchange.port key (exchange.messages i) ≡ true) (sym (eqb-true delivery.message message e)) has_unit

  its : (deliveries : List Delivery) → IsIts deliveries
  unfolding IsIts span_of first_of last_of
  its [] = (refl, refl)
  its (delivery ∷ earlier) =
      elim (eqb delivery.message message) as (λ b. eqb delivery.message message ≡ b →
      (option_map first_in (span_of exchange key (delivery ∷ earlier)) ≡ earlier_or (first_of message earlier) (cond b (Some delivery.moment) None))
      × (option_map last_in (span_of exchange key (delivery ∷ earlier)) ≡ cond b (Some delivery.moment) (last_of message earlier))) [
        | true ↦ λ e.
            let span = span_named exchange key delivery earlier (is_named_by delivery e) in (
              ap (option_map first_in) span
                  ∙ begun delivery.moment (span_of exchange key earlier)
                  ∙ ap (λ o. earlier_or o (Some delivery.moment)) (its earlier).0,
              ap (option_map last_in) span
                  ∙ ended delivery.moment (span_of exchange key earlier),
            )
        | false ↦ λ e.
            let span = span_other exchange key delivery earlier (not_named delivery e) in (
              ap (option_map first_in) span
                  ∙ (its earlier).0
                  ∙ sym (or_nothing (first_of message earlier)),
              ap (option_map last_in) span
                  ∙ (its earlier).1,
            )
      ] refl

pub its_message : SpanIsOfItsMessage
unfolding IsIts first_in last_in
its_message exchange message key deliveries carries has_unit = its exchange carries message key has_unit deliveries
