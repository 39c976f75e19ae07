-- Where the first point of a text is.
use Rattle.pim_time.proofs.Words.{◌≡◌, ◌∙◌, ap, refl, ℕ, ◌+◌, ◌<◌, Bool, false, List, [], ◌∷◌, ◌++◌, Some, None, Option}
use Rattle.pim_time.proofs.Words.{length, take, drop, arith, length-append, digit_value, position, position_or_len}
use Rattle.pim_time.proofs.Words.{AllDigits, lt-ltb, ne_eqb, digit_from_value}
use Rattle.std.specs.Prelude.{◌==◌}
use Rattle.std.proofs.Math.Seq.{take-append_seam, drop-append_seam}

abbrev is_point : ℕ → Bool
is_point byte = byte == 46

not_point : (byte : ℕ) → digit_value byte < 10 → is_point byte ≡ false
not_point byte digit =
    let low = digit_from_value byte digit in
    ne_eqb byte 46 (λ is. omega (arith, low.0, low.1, is))

place_of_point : (front tail : List ℕ) → AllDigits 10 front → position_or_len is_point (front ++ 46 ∷ tail) ≡ length front
place_of_point [] tail digits = refl
place_of_point (byte ∷ front) tail digits =
    let more : position_or_len is_point (byte ∷ (front ++ 46 ∷ tail)) ≡ 1 + position_or_len is_point (front ++ 46 ∷ tail) = rw (not_point byte digits.0) refl in
    omega (arith, more, place_of_point front tail digits.1)

pub point_is_found : (text front tail : List ℕ) → AllDigits 10 front → text ≡ front ++ 46 ∷ tail → position is_point text ≡ Some (length front)
point_is_found text front tail digits whole =
    let place : position_or_len is_point text ≡ length front = ap (position_or_len is_point) whole ∙ place_of_point front tail digits in
    let long : length text ≡ length front + (1 + length tail) = omega (arith, ap length whole, length-append front (46 ∷ tail)) in
    let below : position_or_len is_point text < length text = omega (arith, place, long) in
    rw (lt-ltb (position_or_len is_point text) (length text) below) (ap (λ (n : ℕ). Some n) place)

pub cut_there : (text front behind : List ℕ) (place : ℕ) → text ≡ front ++ behind → place ≡ length front → (take place text ≡ front) × (drop place text ≡ behind)
cut_there text front behind place cut is = (
  ap (λ (n : ℕ). take n text) is ∙ ap (take (length front)) cut ∙ take-append_seam front behind,
  ap (λ (n : ℕ). drop n text) is ∙ ap (drop (length front)) cut ∙ drop-append_seam front behind,
)

pub same_some : {A : Type 0} (a b : A) → Some a ≡ Some b → a ≡ b
same_some {A = A} a b e = ap (λ o. by o) e
  where
    by : Option A → A
    by None = a
    by (Some x) = x

pub not_some : {A : Type 0} (b : A) → None ≡ Some b → ⊥
not_some b e = absurd cc
