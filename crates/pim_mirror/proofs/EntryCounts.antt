-- Where each message was delivered, the units of those that were are the entries of all.
use Rattle.pim_mirror.proofs.Words.{◌≡◌, ◌∙◌, ℕ, zero, suc, ◌+◌, ◌<◌, ◌≤◌, Bool, true, false, ◌==◌, ◌||◌, if◌then◌else◌}
use Rattle.pim_mirror.proofs.Words.{List, [], ◌∷◌, length, refl, sym, ap, arith, length-append, eqb-true, eqb-false}
use Rattle.pim_mirror.proofs.Words.{Event, Delivery, is_delivered, Exchange, AreOf, AllCame, entries_of}
use Rattle.pim_fresh.specs.Expected.{units_of}

module _ (exchange : Exchange) where
  abbrev size : ℕ → ℕ
  size message = length (exchange.messages message)

  abbrev size_if : Bool → ℕ → ℕ
  size_if came message = if came then size message else 0

  -- the entries of those messages that came, of so many
  unfoldable counted : List Delivery → ℕ → ℕ
  counted deliveries zero = 0
  counted deliveries (suc count) = counted deliveries count + size_if (is_delivered count deliveries) count

  all_counted : (deliveries : List Delivery) (count : ℕ) → AllCame count deliveries → counted deliveries count ≡ entries_of exchange count
  unfolding counted entries_of
  all_counted deliveries zero came = refl
  all_counted deliveries (suc count) came =
      let others = all_counted deliveries count (λ message below. came message (omega (arith, below))) in
      let here : size_if (is_delivered count deliveries) count ≡ size count = ap (λ b. size_if b count) (came count (omega arith)) in
      omega (arith, others, here)

  none_counted : (count : ℕ) → counted [] count ≡ 0
  unfolding counted
  none_counted zero = refl
  none_counted (suc count) = let others = none_counted count in omega (arith, others)

  -- a message of a later number doesn't count
  beyond : (delivery : Delivery) (earlier : List Delivery) (count : ℕ) → count ≤ delivery.message → counted (delivery ∷ earlier) count ≡ counted earlier count
  unfolding counted
  beyond delivery earlier zero past = refl
  beyond delivery earlier (suc count) past =
      let others = beyond delivery earlier count (omega (arith, past)) in
      let here : size_if (is_delivered count (delivery ∷ earlier)) count ≡ size_if (is_delivered count earlier) count =
      ap (λ b. size_if (b || is_delivered count earlier) count) (isnt (delivery.message == count) refl) in
      omega (arith, others, here)
    where
      isnt : (b : Bool) → (delivery.message == count) ≡ b → b ≡ false
      isnt false e = refl
      isnt true e = let same = eqb-true delivery.message count e in absurd (omega (arith, same, past))

  -- one more delivery counts where its message is new
  new_entries : Delivery → List Delivery → ℕ
  new_entries delivery earlier = if is_delivered delivery.message earlier then 0 else size delivery.message

  splits : (b : Bool) (n : ℕ) → (if b then 0 else n) + (if b then n else 0) ≡ n
  splits true n = omega arith
  splits false n = omega arith

  one_more : (delivery : Delivery) (earlier : List Delivery) (count : ℕ) → delivery.message < count → counted (delivery ∷ earlier) count ≡ new_entries delivery earlier + counted earlier count
  unfolding counted new_entries
  one_more delivery earlier zero below = absurd (omega (arith, below))
  one_more delivery earlier (suc count) below = by (delivery.message == count) refl (λ less. one_more delivery earlier count less)
    where
      by : (b : Bool) → (delivery.message == count) ≡ b → (delivery.message < count → counted (delivery ∷ earlier) count ≡ new_entries delivery earlier + counted earlier count)
          → counted (delivery ∷ earlier) count + size_if (b || is_delivered count earlier) count ≡ new_entries delivery earlier + (counted earlier count + size_if (is_delivered count earlier) count)
      by true e others =
          let same = eqb-true delivery.message count e in
          let front = beyond delivery earlier count (omega (arith, same)) in
          let here : new_entries delivery earlier + size_if (is_delivered count earlier) count ≡ size count =
          ap (λ (message : ℕ). (if is_delivered message earlier then 0 else size message) + size_if (is_delivered count earlier) count) same ∙ splits (is_delivered count earlier) (size count) in
          omega (arith, front, here)
      by false e others =
          let apart = eqb-false delivery.message count e in
          let front = others (less apart) in
          omega (arith, front)
        where
          less : (delivery.message ≡ count → ⊥) → delivery.message < count
          less apart = omega (arith, below, apart)

  units_counted : (deliveries : List Delivery) (count : ℕ) → AreOf count deliveries → length (units_of exchange deliveries) ≡ counted deliveries count
  unfolding units_of new_entries
  units_counted [] count of = sym (none_counted count)
  units_counted (delivery ∷ earlier) count of =
      let new : List Event = if is_delivered delivery.message earlier then [] else exchange.messages delivery.message in
      let joined = length-append new (units_of exchange earlier) in
      let others = units_counted earlier count of.1 in
      let first : length new ≡ new_entries delivery earlier = new_length (is_delivered delivery.message earlier) delivery.message in
      let more = one_more delivery earlier count of.0 in
      omega (arith, joined, others, first, more)
    where
      new_length : (b : Bool) (message : ℕ) → length (if b then [] else exchange.messages message) ≡ (if b then 0 else size message)
      new_length true message = refl
      new_length false message = refl

  pub units_are_entries : (deliveries : List Delivery) (count : ℕ) → AreOf count deliveries → AllCame count deliveries → length (units_of exchange deliveries) ≡ entries_of exchange count
  units_are_entries deliveries count of came = units_counted deliveries count of ∙ all_counted deliveries count came
