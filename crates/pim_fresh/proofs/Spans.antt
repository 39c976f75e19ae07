-- The span of a machine in a list of timely deliveries.
use Rattle.pim_fresh.proofs.Words.{◌≡◌, ℕ, ◌-◌, ◌≤◌, Bool, true, false, cond, List, [], ◌∷◌, Option, Some, None, eqb, refl, sym}
use Rattle.pim_fresh.proofs.Words.{ap, subst, ◌∙◌, arith, is_some, false≢true, eq-eqb, eqb-true, Key, Exchange, has_unit_of}
use Rattle.pim_fresh.proofs.Words.{Delivery, last_of, IsShorter, AreAlive, IsTimely, Span, up_to, span_of}

pub the_span : (a b : Span) → Some a ≡ Some b → a ≡ b
the_span a b e = cc

pub no_span : (a : Span) → ◌≡◌ {A = Option Span} None (Some a) → ⊥
no_span a e = false≢true (ap is_some e)

module _ (exchange : Exchange) (key : Key (List ℕ)) where
  abbrev pub names : Delivery → Bool
  names delivery = has_unit_of exchange.port key (exchange.messages delivery.message)

  pub span_named : (delivery : Delivery) (earlier : List Delivery) → names delivery ≡ true → span_of exchange key (delivery ∷ earlier) ≡ Some (up_to delivery.moment (span_of exchange key earlier))
  unfolding span_of
  span_named delivery earlier has_unit = rw has_unit refl

  pub span_other : (delivery : Delivery) (earlier : List Delivery) → names delivery ≡ false → span_of exchange key (delivery ∷ earlier) ≡ span_of exchange key earlier
  unfolding span_of
  span_other delivery earlier has_unit = rw has_unit refl

  -- a message that names the machine came last when the span ends
  pub record Comes (deliveries : List Delivery) (span : Span) : Type 0 where
    pub message : ℕ
    pub has_unit : has_unit_of exchange.port key (exchange.messages message) ≡ true
    pub last : last_of message deliveries ≡ Some span.last

  -- a message that names the machine isn't one that doesn't
  pub other_message : (this that : ℕ) → has_unit_of exchange.port key (exchange.messages this) ≡ false → has_unit_of exchange.port key (exchange.messages that) ≡ true → eqb this that ≡ false
  other_message this that n m = by (eqb this that) refl
    where
      by : (b : Bool) → eqb this that ≡ b → b ≡ false
      by false e = refl
      by true e = absurd (false≢true (sym (subst (λ (i : ℕ). has_unit_of exchange.port key (exchange.messages i) ≡ false) (eqb-true this that e) n) ∙ m))

  last_upper : (moment : ℕ) (o : Option Span) → moment ≡ (up_to moment o).last
  last_upper moment None = refl
  last_upper moment (Some span) = refl

  pub comes : (deliveries : List Delivery) (span : Span) → span_of exchange key deliveries ≡ Some span → Comes deliveries span
  unfolding span_of last_of
  comes [] span e = absurd (no_span span e)
  comes (delivery ∷ earlier) span e =
      elim (names delivery) as (λ b. names delivery ≡ b → Comes (delivery ∷ earlier) span) [
        | true ↦ λ n.
            let same = the_span (up_to delivery.moment (span_of exchange key earlier)) span (sym (span_named delivery earlier n) ∙ e) in
            let last : delivery.moment ≡ span.last = last_upper delivery.moment (span_of exchange key earlier) ∙ ap (λ (s : Span). s.last) same in
            record { message = delivery.message; has_unit = n; last = ap (λ b. cond b (Some delivery.moment) (last_of delivery.message earlier)) (eq-eqb delivery.message delivery.message refl) ∙ ap (λ m. Some m) last }
        | false ↦ λ n.
            let later = comes earlier span (sym (span_other delivery earlier n) ∙ e) in
            record { message = later.message; has_unit = later.has_unit; last = ap (λ b. cond b (Some delivery.moment) (last_of later.message earlier)) (other_message delivery.message later.message n later.has_unit) ∙ later.last }
      ] refl

  -- ---- timely deliveries

  pub alive : (expiry : Option ℕ) (moment : ℕ) (deliveries : List Delivery) (span : Span) → AreAlive expiry moment deliveries → span_of exchange key deliveries ≡ Some span → IsShorter (moment - span.last) expiry
  alive expiry moment deliveries span are e =
      let that = comes deliveries span e in
      are that.message span.last that.last

  -- first, last and now stand in order
  pub record InOrder (moment : ℕ) (span : Span) : Type 0 where
    pub first : span.first ≤ span.last
    pub last : span.last ≤ moment

  up_to_order : (now moment : ℕ) (o : Option Span) → now ≤ moment → ((span : Span) → o ≡ Some span → InOrder now span) → InOrder moment (up_to now o)
  up_to_order now moment None later orders = record { first = omega arith; last = later }
  up_to_order now moment (Some span) later orders =
      let order = orders span refl in
      let first = order.first in
      let last = order.last in
      record { first = omega arith; last = later }

  pub in_order : (expiry : Option ℕ) (moment : ℕ) (deliveries : List Delivery) (span : Span) → IsTimely expiry moment deliveries → span_of exchange key deliveries ≡ Some span → InOrder moment span
  unfolding span_of IsTimely
  in_order expiry moment [] span timely e = absurd (no_span span e)
  in_order expiry moment (delivery ∷ earlier) span timely e =
      elim (names delivery) as (λ b. names delivery ≡ b → InOrder moment span) [
        | true ↦ λ n.
            subst (InOrder moment) (the_span (up_to delivery.moment (span_of exchange key earlier)) span (sym (span_named delivery earlier n) ∙ e))
            (up_to_order delivery.moment moment (span_of exchange key earlier) timely.0 (λ before f. in_order expiry delivery.moment earlier before timely.2 f))
        | false ↦ λ n.
            let order = in_order expiry delivery.moment earlier span timely.2 (sym (span_other delivery earlier n) ∙ e) in
            let last = order.last in
            let later = timely.0 in
            record { first = order.first; last = omega arith }
      ] refl
