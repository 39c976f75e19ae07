-- The tests that go over the deliveries once, from the oldest on, and what is said of them from the newest on.
use Rattle.pim_mirror.proofs.Words.{◌≡◌, ◌∙◌, ℕ, ◌-◌, ◌<◌, ◌≤◌, Bool, true, false, ◌&&◌, leb, ltb, eqb, List, [], ◌∷◌}
use Rattle.pim_mirror.proofs.Words.{reverse, Option, None, Some, refl, sym, ap, subst, arith, AllByRecursion, eqb-true}
use Rattle.pim_mirror.proofs.Words.{leb-true, ltb-true, le-leb, lt-ltb, ltb-false, Delivery, last_of, IsShorter}
use Rattle.pim_mirror.proofs.Words.{AreAlive, IsTimely, is_shorter, is_alive, last_with, is_kept, is_in_order}
use mathlib.Core.List.{reverse_aux}
use Rattle.std.proofs.Math.Dec.{leb-zero}
use Rattle.pim_mirror.proofs.Listed.{both, together}

turned : (a b c : Bool) → (a && (b && c)) ≡ ((b && a) && c)
turned true true c = refl
turned true false c = refl
turned false true c = refl
turned false false c = refl

and_true : (a : Bool) → (a && true) ≡ a
and_true true = refl
and_true false = refl

-- ---- less than a time

pub shorter : (passed : ℕ) (time : Option ℕ) → is_shorter passed time ≡ true → IsShorter passed time
shorter passed None e = tt
shorter passed (Some time) e = ltb-true passed time e

pub is_less : (passed : ℕ) (time : Option ℕ) → IsShorter passed time → is_shorter passed time ≡ true
is_less passed None e = refl
is_less passed (Some time) less = lt-ltb passed time less

-- ---- the moments don't fall

unfoldable was_in_order : ℕ → List Delivery → Bool
was_in_order moment [] = true
was_in_order moment (delivery ∷ earlier) = leb delivery.moment moment && was_in_order delivery.moment earlier

ordered_behind : (end : ℕ) (ds : List Delivery) (newest : Delivery) (earlier : List Delivery) →
    was_in_order end (reverse_aux ds (newest ∷ earlier)) ≡ (is_in_order end newest.moment ds && was_in_order newest.moment earlier)
unfolding is_in_order was_in_order
ordered_behind end [] newest earlier = refl
ordered_behind end (d ∷ ds) newest earlier =
    ordered_behind end ds d (newest ∷ earlier)
    ∙ turned (is_in_order end d.moment ds) (leb newest.moment d.moment) (was_in_order newest.moment earlier)

ordered : (end : ℕ) (ds : List Delivery) → was_in_order end (reverse ds) ≡ is_in_order end 0 ds
unfolding is_in_order was_in_order
ordered end [] = sym (leb-zero end)
ordered end (d ∷ ds) =
    ordered_behind end ds d [] ∙ and_true (is_in_order end d.moment ds) ∙ sym (ap (λ b. b && is_in_order end d.moment ds) (leb-zero d.moment))

-- ---- one message is never missed

module _ (expiry : Option ℕ) where
  unfoldable was_kept : ℕ → ℕ → List Delivery → Bool
  was_kept message moment [] = true
  was_kept message moment (delivery ∷ earlier) =
      is_alive expiry moment (last_of message (delivery ∷ earlier)) && was_kept message delivery.moment earlier

  unfoldable before : ℕ → List Delivery → Bool
  before message [] = true
  before message (delivery ∷ earlier) = was_kept message delivery.moment earlier

  kept_now : (message moment : ℕ) (ds : List Delivery) →
      was_kept message moment ds ≡ (is_alive expiry moment (last_of message ds) && before message ds)
  unfolding was_kept before last_of
  kept_now message moment [] = refl
  kept_now message moment (d ∷ earlier) = refl

  kept_behind : (end message : ℕ) (ds earlier : List Delivery) →
      was_kept message end (reverse_aux ds earlier) ≡ (is_kept expiry end message (last_of message earlier) ds && before message earlier)
  unfolding is_kept before last_of
  kept_behind end message [] earlier = kept_now message end earlier
  kept_behind end message (d ∷ ds) earlier =
      kept_behind end message ds (d ∷ earlier)
      ∙ ap (λ b. is_kept expiry end message (last_with message (last_of message earlier) d) ds && b) (kept_now message d.moment earlier)
      ∙ turned (is_kept expiry end message (last_with message (last_of message earlier) d) ds)
      (is_alive expiry d.moment (last_of message earlier)) (before message earlier)

  kept : (end message : ℕ) (ds : List Delivery) → was_kept message end (reverse ds) ≡ is_kept expiry end message None ds
  unfolding before last_of
  kept end message ds = kept_behind end message ds [] ∙ and_true (is_kept expiry end message None ds)

  -- ---- all messages

  alive_at : (moment : ℕ) (ds : List Delivery) (message last : ℕ) → is_alive expiry moment (last_of message ds) ≡ true →
      last_of message ds ≡ Some last → IsShorter (moment - last) expiry
  alive_at moment ds message last e l =
      shorter (moment - last) expiry (subst (λ (o : Option ℕ). is_alive expiry moment o ≡ true) l e)

  timely_back : (moment : ℕ) (ds : List Delivery) → was_in_order moment ds ≡ true →
      ((message : ℕ) → was_kept message moment ds ≡ true) → IsTimely expiry moment ds
  unfolding was_in_order was_kept IsTimely
  timely_back moment [] order each = tt
  timely_back moment (d ∷ earlier) order each =
      let ordered = both (leb d.moment moment) (was_in_order d.moment earlier) order in
      let parts : (message : ℕ) → (is_alive expiry moment (last_of message (d ∷ earlier)) ≡ true) × (was_kept message d.moment earlier ≡ true) =
      λ message. both (is_alive expiry moment (last_of message (d ∷ earlier))) (was_kept message d.moment earlier) (each message) in (
        leb-true d.moment moment ordered.0,
        (λ message last l. alive_at moment (d ∷ earlier) message last (parts message).0 l),
        timely_back d.moment earlier ordered.1 (λ message. (parts message).1),
      )

  alive : (moment : ℕ) (ds : List Delivery) (message : ℕ) (o : Option ℕ) → last_of message ds ≡ o → AreAlive expiry moment ds → is_alive expiry moment o ≡ true
  alive moment ds message None l all = refl
  alive moment ds message (Some last) l all = is_less (moment - last) expiry (all message last l)

  order_back : (moment : ℕ) (ds : List Delivery) → IsTimely expiry moment ds → was_in_order moment ds ≡ true
  unfolding was_in_order IsTimely
  order_back moment [] timely = refl
  order_back moment (d ∷ earlier) timely =
      together (leb d.moment moment) (was_in_order d.moment earlier) (le-leb d.moment moment timely.0) (order_back d.moment earlier timely.2)

  kept_back : (message moment : ℕ) (ds : List Delivery) → IsTimely expiry moment ds → was_kept message moment ds ≡ true
  unfolding was_kept IsTimely
  kept_back message moment [] timely = refl
  kept_back message moment (d ∷ earlier) timely =
      together (is_alive expiry moment (last_of message (d ∷ earlier))) (was_kept message d.moment earlier)
      (alive moment (d ∷ earlier) message (last_of message (d ∷ earlier)) refl timely.1) (kept_back message d.moment earlier timely.2)

  -- ---- a message that never came isn't missed

  never_kept : (end message : ℕ) (count : ℕ) (ds : List Delivery) → AllByRecursion (λ (delivery : Delivery). delivery.message < count) ds →
      count ≤ message → is_kept expiry end message None ds ≡ true
  unfolding is_kept
  never_kept end message count [] listed beyond = refl
  never_kept end message count (d ∷ ds) listed beyond = by (eqb d.message message) refl (never_kept end message count ds listed.1 beyond)
    where
      by : (b : Bool) → eqb d.message message ≡ b → is_kept expiry end message None ds ≡ true → is_kept expiry end message None (d ∷ ds) ≡ true
      by true e more = let same = eqb-true d.message message e in let below = listed.0 in absurd (omega (arith, same, below, beyond))
      by false e more = rw e more

  pub timely : (end count : ℕ) (ds : List Delivery) → is_in_order end 0 ds ≡ true →
      AllByRecursion (λ (delivery : Delivery). delivery.message < count) ds →
      ((message : ℕ) → message < count → is_kept expiry end message None ds ≡ true) → IsTimely expiry end (reverse ds)
  timely end count ds order listed each = timely_back end (reverse ds) (ordered end ds ∙ order) (λ message. kept end message ds ∙ of_each message (ltb message count) refl)
    where
      of_each : (message : ℕ) (b : Bool) → ltb message count ≡ b → is_kept expiry end message None ds ≡ true
      of_each message true e = each message (ltb-true message count e)
      of_each message false e = never_kept end message count ds listed (ltb-false message count e)

  pub in_order : (end : ℕ) (ds : List Delivery) → IsTimely expiry end (reverse ds) → is_in_order end 0 ds ≡ true
  in_order end ds t = sym (ordered end ds) ∙ order_back end (reverse ds) t

  pub each_kept : (end : ℕ) (ds : List Delivery) → IsTimely expiry end (reverse ds) → (message : ℕ) → is_kept expiry end message None ds ≡ true
  each_kept end ds t message = sym (kept end message ds) ∙ kept_back message end (reverse ds) t
