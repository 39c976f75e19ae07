-- The final moment, from the newest delivery back.
use Rattle.pim_mirror.proofs.Words.{◌≡◌, ◌∙◌, ℕ, ◌+◌, ◌≤◌, ◌^◌, max, cond, ◌||◌, ◌==◌, List, [], ◌∷◌, ◌++◌, length, map}
use Rattle.pim_mirror.proofs.Words.{reverse, refl, sym, ap, subst, arith, AllByRecursion, list_any, reverse-append}
use Rattle.pim_mirror.proofs.Words.{map-append, list_any-IsPermutation, IsPermutation-reverse, Delivery, is_delivered}
use Rattle.pim_mirror.proofs.Words.{final_moment, delivery_seen, AreEarly}
use Rattle.pim_mirror.specs.declared.config.Delivery as code

abbrev pub newest : List code.Delivery → List Delivery
newest deliveries = reverse (map delivery_seen deliveries)

pub newest_more : (earlier : List code.Delivery) (delivery : code.Delivery) → newest (earlier ++ delivery ∷ []) ≡ delivery_seen delivery ∷ newest earlier
newest_more earlier delivery =
    ap reverse (map-append delivery_seen earlier (delivery ∷ [])) ∙ reverse-append (map delivery_seen earlier) (delivery_seen delivery ∷ [])

any_seen : (message : ℕ) (deliveries : List code.Delivery) →
    list_any (λ (delivery : Delivery). delivery.message == message) (map delivery_seen deliveries) ≡ list_any (λ (delivery : code.Delivery). delivery.message == message) deliveries
any_seen message [] = refl
any_seen message (delivery ∷ deliveries) = ap (λ b. (delivery.message == message) || b) (any_seen message deliveries)

pub delivered_newest : (message : ℕ) (deliveries : List code.Delivery) →
    is_delivered message (newest deliveries) ≡ list_any (λ (delivery : code.Delivery). delivery.message == message) deliveries
delivered_newest message deliveries =
    sym (list_any-IsPermutation (λ (delivery : Delivery). delivery.message == message) (map delivery_seen deliveries) (newest deliveries) (IsPermutation-reverse (map delivery_seen deliveries)))
    ∙ any_seen message deliveries

turned : (a b c : ℕ) → max a (max b c) ≡ max (max b a) c
turned a b c = omega arith

pub final_more : (interval latest : ℕ) (left earlier : List code.Delivery) (delivery : code.Delivery) → left ≡ earlier ++ delivery ∷ [] →
    max (max (cond (list_any (λ (other : code.Delivery). other.message == delivery.message) earlier) delivery.moment (delivery.moment + interval)) latest) (final_moment interval (newest earlier))
    ≡ max latest (final_moment interval (newest left))
unfolding final_moment
final_more interval latest left earlier delivery split =
    rw split (rw (newest_more earlier delivery) (rw (delivered_newest delivery.message earlier)
    (sym (turned latest (cond (list_any (λ (other : code.Delivery). other.message == delivery.message) earlier) delivery.moment (delivery.moment + interval)) (final_moment interval (newest earlier))))))

pub all_but_last : {X : Type 0} (P : X → Type 0) (front : List X) (last : X) → AllByRecursion P (front ++ last ∷ []) → AllByRecursion P front × P last
all_but_last P [] last all = (tt, all.0)
all_but_last P (x ∷ front) last all = let rest = all_but_last P front last all.1 in ((all.0, rest.0), rest.1)

pub early_last : (left earlier : List code.Delivery) (delivery : code.Delivery) → left ≡ earlier ++ delivery ∷ [] → AreEarly (map delivery_seen left) →
    AreEarly (map delivery_seen earlier) × (delivery.moment ≤ 10 ^ 14)
early_last left earlier delivery split all =
    all_but_last (λ (delivery : Delivery). delivery.moment ≤ 10 ^ 14) (map delivery_seen earlier) (delivery_seen delivery)
    (subst AreEarly (ap (map delivery_seen) split ∙ map-append delivery_seen earlier (delivery ∷ [])) all)

pub final_none : (interval latest : ℕ) (left : List code.Delivery) → length left ≡ 0 → max latest (final_moment interval (newest left)) ≡ latest
unfolding final_moment
final_none interval latest [] none = omega arith
final_none interval latest (delivery ∷ left) none = absurd (omega arith)
