-- The checksum that makes a message sum rightly: there is one, and one at most.
use Rattle.std.proofs.Common.{◌≡◌, ℕ, zero, suc, ◌+◌, ◌-◌, ◌*◌, ◌/◌, ◌%◌, ◌<◌, ◌≤◌, ◌⊎◌, ◌&&◌, IsTrue, nat_lt, nat_eq, List, [], ◌∷◌, ◌++◌, length, drop, sym, ap, subst, ◌∙◌, arith, inl, inr}
use Rattle.std.proofs.lemmas.Bool.Decides.{nat_tests}
use Rattle.pim_addr.specs.declared.family.AddressFamily.{AddressFamily}
use Rattle.pim_frame.specs.Folded.{folded}
use Rattle.pim_frame.specs.Seal.{first_byte, checksum, framed, IsSealed}
use Rattle.pim_frame.specs.Sum.{words_sum, pseudo_header}
use Rattle.pim_frame.specs.declared.frame.MessageType.{MessageType}
use Rattle.pim_frame.specs.declared.frame.MessageType.TheVariants.{Hello, JoinPrune}
use Rattle.pim_frame.proofs.Sums.{words_sum-more, words_sum-append}

-- ---- the checksum that makes a message sum rightly

abbrev is_right : ℕ → Type 0
is_right total = IsTrue (nat_lt 0 total && nat_eq (total % 65535) 0)

-- what a sum above 0 lacks of 65,535 once it is folded is below 65,535, and with it the sum is right
folded-complement : (total sum : ℕ) → 0 < total → folded total + sum ≡ 65535 → (sum < 65535) × is_right (total + sum)
unfolding folded
folded-complement zero sum h e = absurd (omega arith)
folded-complement (suc n) sum h e =
    let above : 0 < suc n + sum = omega arith in
    let divides : (suc n + sum) % 65535 ≡ 0 = omega arith in
    (omega arith, grind (arith, nat_tests))

complement_seals : (header : List ℕ) (first sum : ℕ) (body : List ℕ) → length header % 2 ≡ 0 → 0 < first
    → folded (words_sum (header ++ first ∷ 0 ∷ 0 ∷ 0 ∷ body)) + sum ≡ 65535
    → (sum < 65535) × is_right (words_sum (header ++ first ∷ 0 ∷ sum / 256 % 256 ∷ sum % 256 ∷ body))
complement_seals header first sum body even above e =
    let total : ℕ = words_sum header + 256 * first + words_sum body in
    let unsealed : words_sum (header ++ first ∷ 0 ∷ 0 ∷ 0 ∷ body) ≡ total =
    words_sum-append header _ even ∙ ap (λ n. words_sum header + n) (words_sum-more first 0 _ ∙ ap (λ n. 256 * first + 0 + n) (words_sum-more 0 0 body)) ∙ omega arith in
    let seals = folded-complement total sum (omega arith) (rw unsealed at e) in
    let below : sum < 65535 = seals.0 in
    let sealed : words_sum (header ++ first ∷ 0 ∷ sum / 256 % 256 ∷ sum % 256 ∷ body) ≡ total + sum =
    words_sum-append header _ even
    ∙ ap (λ n. words_sum header + n) (words_sum-more first 0 _ ∙ ap (λ n. 256 * first + 0 + n) (words_sum-more (sum / 256 % 256) (sum % 256) body))
    ∙ omega arith in
    (below, subst is_right (sym sealed) seals.1)

checksum_framed : (message_type : MessageType) (sum : ℕ) (body : List ℕ) → sum < 65535 → checksum (framed message_type sum body) ≡ sum
checksum_framed message_type sum body h = omega arith

first_byte_above : (message_type : MessageType) → 0 < first_byte message_type
first_byte_above Hello = omega arith
first_byte_above JoinPrune = omega arith

-- a header with checksum 0 was written first, and then one with the complement
pub complement_IsSealed : (family : AddressFamily) (source destination : List ℕ) (message_type : MessageType) (sum : ℕ) (body unsealed message : List ℕ)
    → unsealed ≡ framed message_type 0 body → message ≡ framed message_type sum (drop 4 unsealed)
    → length (pseudo_header family source destination (length unsealed)) % 2 ≡ 0
    → folded (words_sum (pseudo_header family source destination (length unsealed) ++ unsealed)) + sum ≡ 65535
    → IsSealed family source destination message_type body message
complement_IsSealed family source destination message_type sum body unsealed message spelled written whole lacks =
    let header : List ℕ → List ℕ = λ bytes. pseudo_header family source destination (length bytes) in
    let total : List ℕ → ℕ = λ bytes. words_sum (header bytes ++ bytes) in
    let even : length (header (framed message_type 0 body)) % 2 ≡ 0 = subst (λ (bytes : List ℕ). length (header bytes) % 2 ≡ 0) spelled whole in
    let gap : folded (total (framed message_type 0 body)) + sum ≡ 65535 = subst (λ (bytes : List ℕ). folded (total bytes) + sum ≡ 65535) spelled lacks in
    let seals = complement_seals (header (framed message_type 0 body)) (first_byte message_type) sum body even (first_byte_above message_type) gap in
    let whole_message : message ≡ framed message_type sum body = written ∙ ap (λ (bytes : List ℕ). framed message_type sum (drop 4 bytes)) spelled in
    let field : checksum message ≡ sum = ap checksum whole_message ∙ checksum_framed message_type sum body seals.0 in (
      whole_message ∙ ap (λ (n : ℕ). framed message_type n body) (sym field),
      rw field seals.0,
      subst (λ (bytes : List ℕ). is_right (total bytes)) (sym whole_message) seals.1,
    )

-- ---- there is one at most

-- two messages that differ in the checksum field: by how much their sums do, where the field is one word, and
-- where it lies across two
field_in_sum : (header : List ℕ) (a b : ℕ) (body : List ℕ) (h l i m : ℕ)
    → (words_sum (header ++ a ∷ b ∷ h ∷ l ∷ body) + (256 * i + m) ≡ words_sum (header ++ a ∷ b ∷ i ∷ m ∷ body) + (256 * h + l))
    ⊎ (words_sum (header ++ a ∷ b ∷ h ∷ l ∷ body) + (256 * m + i) ≡ words_sum (header ++ a ∷ b ∷ i ∷ m ∷ body) + (256 * l + h))
unfolding words_sum
field_in_sum [] a b body h l i m = inl (omega arith)
field_in_sum (x ∷ []) a b [] h l i m = inr (omega arith)
field_in_sum (x ∷ []) a b (y ∷ ys) h l i m = inr (omega arith)
field_in_sum (x ∷ y ∷ rest) a b body h l i m =
    elim (field_in_sum rest a b body h l i m) [ inl e ↦ inl (omega arith) | inr e ↦ inr (omega arith) ]

one_sum : (header : List ℕ) (first : ℕ) (body : List ℕ) (b c : ℕ) → b < 65535 → c < 65535
    → words_sum (header ++ first ∷ 0 ∷ b / 256 % 256 ∷ b % 256 ∷ body) % 65535 ≡ 0
    → words_sum (header ++ first ∷ 0 ∷ c / 256 % 256 ∷ c % 256 ∷ body) % 65535 ≡ 0
    → b ≡ c
one_sum header first body b c below_b below_c right_b right_c =
    elim (field_in_sum header first 0 body (b / 256 % 256) (b % 256) (c / 256 % 256) (c % 256)) [ inl e ↦ omega arith | inr e ↦ omega arith ]

divides : (total : ℕ) → is_right total → total % 65535 ≡ 0
divides total h = grind (arith, nat_tests)

sealed_total : (family : AddressFamily) (source destination : List ℕ) (message_type : MessageType) (body message : List ℕ) → IsSealed family source destination message_type body message
    → words_sum (pseudo_header family source destination (length (framed message_type 0 body)) ++ framed message_type (checksum message) body) % 65535 ≡ 0
sealed_total family source destination message_type body message (spelled, below, right) =
    let total : List ℕ → ℕ = λ bytes. words_sum (pseudo_header family source destination (length bytes) ++ bytes) in
    subst (λ (bytes : List ℕ). total bytes % 65535 ≡ 0) spelled (divides (total message) right)

pub one_seal : (family : AddressFamily) (source destination : List ℕ) (message_type : MessageType) (body first second : List ℕ)
    → IsSealed family source destination message_type body first → IsSealed family source destination message_type body second → first ≡ second
one_seal family source destination message_type body first second one two =
    let header = pseudo_header family source destination (length (framed message_type 0 body)) in
    let same : checksum first ≡ checksum second =
    one_sum header (first_byte message_type) body (checksum first) (checksum second) one.1 two.1
    (sealed_total family source destination message_type body first one) (sealed_total family source destination message_type body second two) in
    one.0 ∙ ap (λ n. framed message_type n body) same ∙ sym two.0

-- ---- there is one

-- how the checksum field adds to the sum, where it is one word, and where it lies across two
field_adds : (header : List ℕ) (a b : ℕ) (body : List ℕ)
    → ((h l : ℕ) → words_sum (header ++ a ∷ b ∷ h ∷ l ∷ body) ≡ words_sum (header ++ a ∷ b ∷ 0 ∷ 0 ∷ body) + (256 * h + l))
    ⊎ ((h l : ℕ) → words_sum (header ++ a ∷ b ∷ h ∷ l ∷ body) ≡ words_sum (header ++ a ∷ b ∷ 0 ∷ 0 ∷ body) + (256 * l + h))
unfolding words_sum
field_adds [] a b body = inl (λ h l. omega arith)
field_adds (x ∷ []) a b [] = inr (λ h l. omega arith)
field_adds (x ∷ []) a b (y ∷ ys) = inr (λ h l. omega arith)
field_adds (x ∷ y ∷ rest) a b body =
    elim (field_adds rest a b body) [ inl e ↦ inl (λ h l. omega (arith, e h l)) | inr e ↦ inr (λ h l. omega (arith, e h l)) ]

sum_above : (header : List ℕ) (first : ℕ) (body : List ℕ) → 0 < first → 0 < words_sum (header ++ first ∷ 0 ∷ 0 ∷ 0 ∷ body)
unfolding words_sum
sum_above [] first body h = omega (arith, h)
sum_above (x ∷ []) first [] h = omega (arith, h)
sum_above (x ∷ []) first (y ∷ ys) h = omega (arith, h)
sum_above (x ∷ y ∷ rest) first body h = omega (arith, sum_above rest first body h)

folded_most : (n : ℕ) → folded n ≤ 65535
unfolding folded
folded_most zero = omega arith
folded_most (suc n) = omega arith

-- a checksum field with which the sum is right
record RightField (header : List ℕ) (first : ℕ) (body : List ℕ) : Type 0 where
  sum : ℕ
  below : sum < 65535
  right : is_right (words_sum (header ++ first ∷ 0 ∷ sum / 256 % 256 ∷ sum % 256 ∷ body))

right_field : (header : List ℕ) (first : ℕ) (body : List ℕ) → 0 < first → RightField header first body
right_field header first body h =
    let total : ℕ = words_sum (header ++ first ∷ 0 ∷ 0 ∷ 0 ∷ body) in
    let gap : ℕ = 65535 - folded total in
    let seals = folded-complement total gap (sum_above header first body h) (omega (arith, folded_most total)) in
    elim (field_adds header first 0 body) [
      | inl adds ↦
          let same : words_sum (header ++ first ∷ 0 ∷ gap / 256 % 256 ∷ gap % 256 ∷ body) ≡ total + gap =
          adds (gap / 256 % 256) (gap % 256) ∙ ap (λ n. total + n) (whole gap seals.0) in
          record { sum = gap; below = seals.0; right = subst is_right (sym same) seals.1 }
      | inr adds ↦
          let back : ℕ = 256 * (gap % 256) + gap / 256 in
          let same : words_sum (header ++ first ∷ 0 ∷ back / 256 % 256 ∷ back % 256 ∷ body) ≡ total + gap =
          adds (back / 256 % 256) (back % 256) ∙ ap (λ n. total + n) (turned gap seals.0).1 in
          record { sum = back; below = (turned gap seals.0).0; right = subst is_right (sym same) seals.1 }
    ]
  where
    whole : (n : ℕ) → n < 65535 → 256 * (n / 256 % 256) + n % 256 ≡ n
    whole n below = omega (arith, below)

    turned : (n : ℕ) → n < 65535 → (256 * (n % 256) + n / 256 < 65535)
        × (256 * ((256 * (n % 256) + n / 256) % 256) + (256 * (n % 256) + n / 256) / 256 % 256 ≡ n)
    turned n below = (omega (arith, below), omega (arith, below))

pub some_seal : (family : AddressFamily) (source destination : List ℕ) (message_type : MessageType) (body : List ℕ)
    → (message : List ℕ) × IsSealed family source destination message_type body message
some_seal family source destination message_type body =
    let found = right_field (pseudo_header family source destination (length (framed message_type 0 body))) (first_byte message_type) body (first_byte_above message_type) in
    let field : checksum (framed message_type found.sum body) ≡ found.sum = checksum_framed message_type found.sum body found.below in (
      framed message_type found.sum body,
      (ap (λ n. framed message_type n body) (sym field), rw field found.below, found.right),
    )
