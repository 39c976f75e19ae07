-- Lists of bytes, and the numbers of two bytes that stand in them.
use Rattle.pim_jp.proofs.Words.{◌≡◌, ℕ, zero, suc, ◌+◌, ◌*◌, ◌/◌, ◌%◌, ◌≤◌, ◌<◌, ◌^◌, List, [], ◌∷◌, ◌++◌, length, take, drop}
use Rattle.pim_jp.proofs.Words.{refl, arith, get_or-drop, get_or-append-add, big_number, big_bytes, big_from-lt, AreBytes}

pub AreBytes-drop : (n : ℕ) (bytes : List ℕ) → AreBytes bytes → AreBytes (drop n bytes)
AreBytes-drop n bytes are i = rw (get_or-drop n bytes i 0) (are (n + i))

pub AreBytes-first : (first others : List ℕ) → AreBytes (first ++ others) → AreBytes first
AreBytes-first [] others are i = omega arith
AreBytes-first (b ∷ first) others are zero = are 0
AreBytes-first (b ∷ first) others are (suc i) = AreBytes-first first others (λ j. are (suc j)) i

pub AreBytes-others : (first others : List ℕ) → AreBytes (first ++ others) → AreBytes others
AreBytes-others first others are i = rw (← get_or-append-add first others i 0) (are (length first + i))

pub count_fits : (bytes : List ℕ) → AreBytes bytes → big_number 2 bytes < 2 ^ 16
count_fits bytes are = big_from-lt 0 2 bytes are

-- two bytes below 256 are those of their number
two_bytes : (a b : ℕ) → a < 256 → b < 256 → big_bytes 2 (a * 256 + b) ≡ a ∷ b ∷ []
two_bytes a b high low =
    let first : (a * 256 + b) / 256 % 256 ≡ a = omega arith in
    let second : (a * 256 + b) % 256 ≡ b = omega arith in
    rw (first, second) refl

pub count_bytes : (bytes : List ℕ) → AreBytes bytes → 2 ≤ length bytes → big_bytes 2 (big_number 2 bytes) ≡ take 2 bytes
count_bytes [] are h = absurd (omega arith)
count_bytes (a ∷ []) are h = absurd (omega arith)
count_bytes (a ∷ b ∷ bytes) are h =
    let high : a < 256 = are 0 in
    let low : b < 256 = are 1 in
    let number : big_number 2 (a ∷ b ∷ bytes) ≡ a * 256 + b = omega arith in
    rw number (two_bytes a b high low)

pub take_four : (bytes : List ℕ) → 4 ≤ length bytes → take 4 bytes ≡ take 2 bytes ++ take 2 (drop 2 bytes)
take_four [] h = absurd (omega arith)
take_four (a ∷ []) h = absurd (omega arith)
take_four (a ∷ b ∷ []) h = absurd (omega arith)
take_four (a ∷ b ∷ c ∷ []) h = absurd (omega arith)
take_four (a ∷ b ∷ c ∷ d ∷ bytes) h = refl
