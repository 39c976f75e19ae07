-- Where a field ends, and that a text has one number or one address at its front.
use Rattle.std.proofs.Common.{◌≡◌, ◌∙◌, ap, refl, ℕ, ◌+◌, ◌<◌, ◌≤◌, Bool, List, [], ◌∷◌, ◌++◌, Some, None, Option, length, take, drop, arith, length-append, nat_le, lit≤}
use Rattle.pim_text.proofs.Words.{position, position_or_len, take-append_seam, drop-append_seam, le-leb, lt-leb, lt-ltb}
use Rattle.pim_text.proofs.Words.{IsField, IsLed}

abbrev ends_field : ℕ → Bool
ends_field byte = nat_le byte 32

place_of_end : (field : List ℕ) (first : ℕ) (others : List ℕ) → IsField field → first ≤ 32 → position_or_len ends_field (field ++ (first ∷ others)) ≡ length field
place_of_end [] first others is low = rw (le-leb first 32 low) refl
place_of_end (byte ∷ field) first others is low =
    let more : position_or_len ends_field (byte ∷ (field ++ (first ∷ others))) ≡ 1 + position_or_len ends_field (field ++ (first ∷ others)) = rw (lt-leb byte 32 is.0) refl in
    omega (arith, more, place_of_end field first others is.1 low)

pub end_is_found : (text field behind : List ℕ) → IsField field → IsLed behind → text ≡ field ++ behind → position ends_field text ≡ Some (length field)
end_is_found text field behind is led cut =
    let whole : text ≡ field ++ (led.first ∷ led.others) = cut ∙ ap (λ (l : List ℕ). field ++ l) led.is in
    let place : position_or_len ends_field text ≡ length field = ap (position_or_len ends_field) whole ∙ place_of_end field led.first led.others is led.low in
    let long : length text ≡ length field + (1 + length led.others) = omega (arith, ap length whole, length-append field (led.first ∷ led.others)) in
    let below : position_or_len ends_field text < length text = omega (arith, place, long) in
    rw (lt-ltb (position_or_len ends_field text) (length text) below) (ap (λ (n : ℕ). Some n) place)

pub cut_there : (text field behind : List ℕ) (place : ℕ) → text ≡ field ++ behind → place ≡ length field → (take place text ≡ field) × (drop place text ≡ behind)
cut_there text field behind place cut is = (
  ap (λ (n : ℕ). take n text) is ∙ ap (take (length field)) cut ∙ take-append_seam field behind,
  ap (λ (n : ℕ). drop n text) is ∙ ap (drop (length field)) cut ∙ drop-append_seam field behind,
)

pub same_some : {A : Type 0} (a b : A) → Some a ≡ Some b → a ≡ b
same_some {A = A} a b e = ap (λ o. by o) e
  where
    by : Option A → A
    by None = a
    by (Some x) = x

pub not_some : {A : Type 0} (b : A) → None ≡ Some b → ⊥
not_some b e = absurd cc

pub feed_is_led : IsLed (10 ∷ [])
feed_is_led = record { first = 10; others = []; is = refl; low = lit≤ tt }

pub led_then : (xs ys : List ℕ) → IsLed xs → IsLed (xs ++ ys)
led_then xs ys led = record { first = led.first; others = led.others ++ ys; is = ap (λ (l : List ℕ). l ++ ys) led.is; low = led.low }

pub space_is_led : (others : List ℕ) → IsLed (32 ∷ others)
space_is_led others = record { first = 32; others = others; is = refl; low = lit≤ tt }
