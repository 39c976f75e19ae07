-- Pairs of hexadecimal digits.
use Rattle.pim_request.proofs.Cited.{◌≡◌, ◌==◌, ◌⊎◌, inl, inr, ◌∙◌, ap, refl, ℕ, ◌+◌, ◌-◌, ◌*◌, ◌%◌, ◌/◌, ◌<◌, ◌≤◌}
use Rattle.pim_request.proofs.Cited.{zero, suc, Bool, true, false, List, [], ◌∷◌, length, ltb, arith, digit_value}
use Rattle.pim_request.proofs.Cited.{is_digit, list_all, onto_first, ltb-true, ltb-false, lt-ltb, le-ltb, ne_eqb}
use Rattle.pim_request.proofs.Cited.{and_parts, and_from, slice_split-cons_no, IsHex, pieces_of}

-- ---- the value of a digit, by its range

below_0 : (d : ℕ) → d < 48 → digit_value d ≡ 36
below_0 d h = rw (lt-ltb d 48 h) refl

from_0 : (d : ℕ) → 48 ≤ d → d < 58 → digit_value d ≡ d - 48
from_0 d h k = rw (le-ltb d 48 h, lt-ltb d 58 k) refl

from_colon : (d : ℕ) → 58 ≤ d → d < 65 → digit_value d ≡ 36
from_colon d h k = rw (le-ltb d 48 (omega arith), le-ltb d 58 h, lt-ltb d 65 k) refl

from_upper : (d : ℕ) → 65 ≤ d → d < 91 → digit_value d ≡ d - 55
from_upper d h k = rw (le-ltb d 48 (omega arith), le-ltb d 58 (omega arith), le-ltb d 65 h, lt-ltb d 91 k) refl

from_bracket : (d : ℕ) → 91 ≤ d → d < 97 → digit_value d ≡ 36
from_bracket d h k = rw (le-ltb d 48 (omega arith), le-ltb d 58 (omega arith), le-ltb d 65 (omega arith), le-ltb d 91 h, lt-ltb d 97 k) refl

from_lower : (d : ℕ) → 97 ≤ d → d < 123 → digit_value d ≡ d - 87
from_lower d h k = rw (le-ltb d 48 (omega arith), le-ltb d 58 (omega arith), le-ltb d 65 (omega arith), le-ltb d 91 (omega arith), le-ltb d 97 h, lt-ltb d 123 k) refl

from_brace : (d : ℕ) → 123 ≤ d → digit_value d ≡ 36
from_brace d h = rw (le-ltb d 48 (omega arith), le-ltb d 58 (omega arith), le-ltb d 65 (omega arith), le-ltb d 91 (omega arith), le-ltb d 97 (omega arith), le-ltb d 123 h) refl

split : (a b : ℕ) → (a < b) ⊎ (b ≤ a)
split a b = at (ltb a b) refl
  where
    at : (t : Bool) → ltb a b ≡ t → (a < b) ⊎ (b ≤ a)
    at true is = inl (ltb-true a b is)
    at false is = inr (ltb-false a b is)

-- The ranges of the digits.
abbrev pub InRange : ℕ → Type 0
InRange d = ((48 ≤ d) × (d < 58)) ⊎ ((65 ≤ d) × (d < 71)) ⊎ ((97 ≤ d) × (d < 103))

pub range_of : (d : ℕ) → digit_value d < 16 → InRange d
range_of d h = elim (split d 48) [
  | inl a ↦ absurd (omega (arith, below_0 d a, h))
  | inr a ↦ elim (split d 58) [
    | inl b ↦ inl (a, b)
    | inr b ↦ elim (split d 65) [
      | inl k ↦ absurd (omega (arith, from_colon d b k, h))
      | inr k ↦ elim (split d 91) [
        | inl m ↦ inr (inl (k, omega (arith, from_upper d k m, h)))
        | inr m ↦ elim (split d 97) [
          | inl n ↦ absurd (omega (arith, from_bracket d m n, h))
          | inr n ↦ elim (split d 123) [
            | inl o ↦ inr (inr (n, omega (arith, from_lower d n o, h)))
            | inr o ↦ absurd (omega (arith, from_brace d o, h))
          ]
        ]
      ]
    ]
  ]
]

pub value_is : (d : ℕ) → digit_value d < 16 → d % 16 + d / 64 * 9 ≡ digit_value d
value_is d h = elim (range_of d h) [
  | inl a ↦ omega (arith, from_0 d a.0 a.1, a.0, a.1)
  | inr others ↦ elim others [
    | inl b ↦ omega (arith, from_upper d b.0 (omega (arith, b.1)), b.0, b.1)
    | inr k ↦ omega (arith, from_lower d k.0 (omega (arith, k.1)), k.0, k.1)
  ]
]

-- ---- pairs of digits

abbrev pub are_digits : List ℕ → Bool
are_digits text = list_all (λ byte. is_digit byte 16) text

in_pairs : (count : ℕ) (text : List ℕ) → length text ≡ 2 * count → are_digits text ≡ true → IsHex text
in_pairs count [] even all = tt
in_pairs count (digit ∷ []) even all = absurd (omega (arith, even))
in_pairs zero (high ∷ low ∷ others) even all = absurd (omega (arith, even))
in_pairs (suc count) (high ∷ low ∷ others) even all =
    let one = and_parts (is_digit high 16) (are_digits (low ∷ others)) all in
    let two = and_parts (is_digit low 16) (are_digits others) one.1 in
    (ltb-true (digit_value high) 16 one.0, ltb-true (digit_value low) 16 two.0, in_pairs count others (omega (arith, even)) two.1)

pub is_pairs : (text : List ℕ) → length text % 2 ≡ 0 → are_digits text ≡ true → IsHex text
is_pairs text even all = in_pairs (length text / 2) text (omega (arith, even)) all

pub pairs_are_digits : (text : List ℕ) → IsHex text → are_digits text ≡ true
pairs_are_digits [] is = refl
pairs_are_digits (digit ∷ []) is = absurd is
pairs_are_digits (high ∷ low ∷ others) is =
    and_from (is_digit high 16) (are_digits (low ∷ others)) (lt-ltb (digit_value high) 16 is.0)
    (and_from (is_digit low 16) (are_digits others) (lt-ltb (digit_value low) 16 is.1) (pairs_are_digits others is.2))

pub pairs_are_even : (text : List ℕ) → IsHex text → length text % 2 ≡ 0
pairs_are_even [] is = refl
pairs_are_even (digit ∷ []) is = absurd is
pairs_are_even (high ∷ low ∷ others) is = let before = pairs_are_even others is.2 in omega (arith, before)

-- ---- a text of digits has no space

not_space : (d : ℕ) → digit_value d < 16 → d ≡ 32 → ⊥
not_space d h is = let v : digit_value d ≡ 36 = ap digit_value is in omega (arith, v, h)

onward : (d : ℕ) (text : List ℕ) → digit_value d < 16 → pieces_of 32 text ≡ text ∷ [] → pieces_of 32 (d ∷ text) ≡ (d ∷ text) ∷ []
onward d text h one = slice_split-cons_no (λ byte. byte == 32) d text (ne_eqb d 32 (not_space d h)) ∙ ap (onto_first d) one

pub one_word : (text : List ℕ) → IsHex text → pieces_of 32 text ≡ text ∷ []
one_word [] is = refl
one_word (digit ∷ []) is = absurd is
one_word (high ∷ low ∷ others) is = onward high (low ∷ others) is.0 (onward low others is.1 (one_word others is.2))
