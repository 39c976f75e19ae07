-- Addresses as numbers: their order, what their bytes say of them, and their last bits.
use Rattle.std.proofs.Common.{◌≡◌, ℕ, zero, suc, ◌+◌, ◌-◌, ◌*◌, ◌/◌, ◌%◌, ◌^◌, true, ◌≤◌, ◌<◌, ◌&&◌, not, List, [], ◌∷◌, length, slice_index, refl, sym, ap, ◌∙◌, arith, nat_eq, nat_lt, nat_le, subst, ◌==◌, ◌⊎◌, inl, inr}
use Rattle.pim_addr.proofs.Words.{AddressFamily, Ipv4, Ipv6, div-eq_of_lt, div-eq_of_lt-le, div-mul-le_self, mul-le-mul_right}
use Rattle.pim_addr.proofs.Words.{mul_assoc, pow-succ', add-mul, one-mul, pow-add, pow_pos, div_below, div-add-mod', le-div}
use Rattle.pim_addr.proofs.Words.{lt-ltb, le-ltb, lt-leb, le-leb, ne_eqb, eq-eqb, eqb-true, and_left, cases_lt, list_all, nat_cmp}
use Rattle.pim_addr.proofs.Words.{ordering_then, MatchOrdering, Ordering, Less, Equal, Greater, nat_cmp_is, ranks, slice_cmp}
use Rattle.pim_addr.proofs.Words.{big_endian, AreBytes, IsAddress, NumbersAreInOrder, mask_length, number_of, first_bits}
use Rattle.pim_addr.proofs.Words.{ends_within, last_number, is_unspecified, is_source}

-- a smaller start stays smaller, whatever bytes follow
rises : (a b : ℕ) (us vs : List ℕ) → length us ≡ length vs → AreBytes us → a < b → big_endian a us < big_endian b vs
rises a b [] [] e h l = l
rises a b [] (v ∷ vs) e h l = absurd (omega arith)
rises a b (u ∷ us) [] e h l = absurd (omega arith)
rises a b (u ∷ us) (v ∷ vs) e h l =
    let small : u < 256 = h 0 in
    rises (a * 256 + u) (b * 256 + v) us vs (omega arith) (λ k. h (suc k)) (omega arith)

ordered : (a : ℕ) (us vs : List ℕ) → length us ≡ length vs → AreBytes us → AreBytes vs →
    slice_cmp nat_cmp us vs ≡ nat_cmp (big_endian a us) (big_endian a vs)
ordered a [] [] e g h = nat_cmp_is a a Equal refl
ordered a [] (v ∷ vs) e g h = absurd (omega arith)
ordered a (u ∷ us) [] e g h = absurd (omega arith)
ordered a (u ∷ us) (v ∷ vs) e g h = by (ordered (a * 256 + u) us) (nat_cmp u v) (ranks u v)
  where
    whole : Ordering
    whole = nat_cmp (big_endian (a * 256 + u) us) (big_endian (a * 256 + v) vs)

    by : ((ws : List ℕ) → length us ≡ length ws → AreBytes us → AreBytes ws →
        slice_cmp nat_cmp us ws ≡ nat_cmp (big_endian (a * 256 + u) us) (big_endian (a * 256 + u) ws)) →
        (r : Ordering) → MatchOrdering r (u < v) (u ≡ v) (v < u) → ordering_then r (slice_cmp nat_cmp us vs) ≡ whole
    by rest Less l = nat_cmp_is _ _ Less (rises (a * 256 + u) (a * 256 + v) us vs (omega arith) (λ k. g (suc k)) (omega arith))
    by rest Greater l = nat_cmp_is _ _ Greater (rises (a * 256 + v) (a * 256 + u) vs us (omega arith) (λ k. h (suc k)) (omega arith))
    by rest Equal l =
        rest vs (omega arith) (λ k. g (suc k)) (λ k. h (suc k))
        ∙ ap (λ w. nat_cmp (big_endian (a * 256 + u) us) (big_endian (a * 256 + w) vs)) l

pub numbers_are_in_order : NumbersAreInOrder
numbers_are_in_order family this that a b = ordered 0 this that (a.0 ∙ sym b.0) a.1 b.1

-- ---- no bits

-- the numbers that bytes spell behind a start are less than those behind the next start
pub stays_below : (n : ℕ) (bytes : List ℕ) → AreBytes bytes → big_endian n bytes < (n + 1) * 256 ^ length bytes
stays_below n [] h = omega arith
stays_below n (b ∷ bytes) h =
    let small : b < 256 = h 0 in
    let rest : big_endian (n * 256 + b) bytes < (n * 256 + b + 1) * 256 ^ length bytes = stays_below (n * 256 + b) bytes (λ k. h (suc k)) in
    let more : (n * 256 + b + 1) * 256 ^ length bytes ≤ (n + 1) * 256 * 256 ^ length bytes = mul-le-mul_right (256 ^ length bytes) (omega arith) in
    let power : (n + 1) * 256 * 256 ^ length bytes ≡ (n + 1) * 256 ^ suc (length bytes) =
    mul_assoc (n + 1) 256 (256 ^ length bytes) ∙ sym (ap (λ p. (n + 1) * p) (pow-succ' 256 (length bytes))) in
    omega arith

fits_family : (family : AddressFamily) (address : List ℕ) → IsAddress family address → number_of address < 2 ^ mask_length family
fits_family Ipv4 address h = subst (λ n. number_of address < 1 * 256 ^ n) h.0 (stays_below 0 address h.1)
fits_family Ipv6 address h = subst (λ n. number_of address < 1 * 256 ^ n) h.0 (stays_below 0 address h.1)

pub no_bits : (family : AddressFamily) (count : ℕ) (address : List ℕ) → count ≡ 0 → IsAddress family address → 0 ≡ first_bits family count address
no_bits Ipv4 count address e h = sym (ap (λ n. number_of address / 2 ^ (32 - n)) e ∙ div-eq_of_lt (fits_family Ipv4 address h))
no_bits Ipv6 count address e h = sym (ap (λ n. number_of address / 2 ^ (128 - n)) e ∙ div-eq_of_lt (fits_family Ipv6 address h))

-- ---- the last address of a prefix

pub last_of_all : (family : AddressFamily) (count : ℕ) (address : List ℕ) → count ≡ 0 → IsAddress family address → 2 ^ mask_length family - 1 ≡ last_number family count address
last_of_all Ipv4 count address e h = ap (λ n. n * 2 ^ 32 + (2 ^ 32 - 1)) (no_bits Ipv4 0 address refl h) ∙ sym (ap (λ c. last_number Ipv4 c address) e)
last_of_all Ipv6 count address e h = ap (λ n. n * 2 ^ 128 + (2 ^ 128 - 1)) (no_bits Ipv6 0 address refl h) ∙ sym (ap (λ c. last_number Ipv6 c address) e)

-- no bit is carried past the highest where the bits past a prefix are set
pub no_carry : (mask count number ones : ℕ) → count ≤ mask → number < 2 ^ mask → (number % 2 ^ (mask - count) == 0) ≡ true → ones ≤ 2 ^ (mask - count) → number + (ones - 1) < 2 ^ mask
no_carry mask count number ones le fits within few =
    let power : ℕ = 2 ^ (mask - count) in
    let whole : 2 ^ mask ≡ 2 ^ count * power = ap (λ n. 2 ^ n) (omega arith) ∙ pow-add 2 count (mask - count) in
    let some : 0 < power = pow_pos (mask - count) in
    let low : number / power < 2 ^ count = div_below number power (2 ^ count) some (omega (arith, whole)) in
    let above : (number / power + 1) * power ≤ 2 ^ count * power = mul-le-mul_right power (omega (arith, low)) in
    let split : number / power * power + number % power ≡ number = div-add-mod' number power in
    let none : number % power ≡ 0 = eqb-true (number % power) 0 within in
    let next : (number / power + 1) * power ≡ number / power * power + power = add-mul (number / power) 1 power ∙ ap (λ n. number / power * power + n) (one-mul power) in
    omega (arith, split, none, next, above, whole, some)

-- an address is of a prefix exactly where its number lies between the first and the last
pub between : (family : AddressFamily) (count : ℕ) (prefix address : List ℕ) → ends_within family count prefix ≡ true →
    (first_bits family count prefix == first_bits family count address) ≡ (nat_le (number_of prefix) (number_of address) && nat_le (number_of address) (last_number family count prefix))
between family count prefix address within = divided (number_of prefix) (number_of address) (2 ^ (mask_length family - count)) (pow_pos _) (eqb-true _ 0 within)
  where
    divided : (p n d : ℕ) → 0 < d → p % d ≡ 0 → (p / d == n / d) ≡ (nat_le p n && nat_le n (p / d * d + (d - 1)))
    divided p n d some none = by (cases_lt n p) (cases_lt (p / d * d + (d - 1)) n)
      where
        start : p / d * d ≡ p
        start = omega (arith, div-add-mod' p d, none)

        by : (n < p) ⊎ (p ≤ n) → (p / d * d + (d - 1) < n) ⊎ (n ≤ p / d * d + (d - 1)) → (p / d == n / d) ≡ (nat_le p n && nat_le n (p / d * d + (d - 1)))
        by (inl below) any = ne_eqb _ _ (λ e. let h = div-mul-le_self n d in let m : p / d * d ≡ n / d * d = ap (λ q. q * d) e in omega (arith, h, m, start, below)) ∙ sym (rw (lt-leb p n below) refl)
        by (inr above) (inl past) =
            let next : (p / d + 1) * d ≡ p / d * d + d = add-mul (p / d) 1 d ∙ ap (λ n. p / d * d + n) (one-mul d) in
            let more : p / d + 1 ≤ n / d = le-div (p / d + 1) n d some (omega (arith, next, past, some)) in
            ne_eqb _ _ (λ e. omega (arith, more, e)) ∙ sym (rw (le-leb p n above) (lt-leb n _ past))
        by (inr above) (inr last) =
            let next : (p / d + 1) * d ≡ p / d * d + d = add-mul (p / d) 1 d ∙ ap (λ n. p / d * d + n) (one-mul d) in
            eq-eqb _ _ (sym (div-eq_of_lt-le d (omega (arith, start, above)) (omega (arith, next, last, some)))) ∙ sym (rw (le-leb p n above) (le-leb n _ last))

-- ---- zero, and the first byte

none_set : (n : ℕ) (bytes : List ℕ) → nat_eq (big_endian n bytes) 0 ≡ (nat_eq n 0 && list_all (λ b. b == 0) bytes)
none_set zero [] = refl
none_set (suc n) [] = let some = ne_eqb (suc n) 0 (λ e. omega arith) in some ∙ sym (and_left _ _ some)
none_set zero (b ∷ bytes) = none_set (0 * 256 + b) bytes ∙ ap (λ n. nat_eq n 0 && list_all (λ c. c == 0) bytes) (omega arith)
none_set (suc n) (b ∷ bytes) = none_set (suc n * 256 + b) bytes ∙ and_left _ _ (ne_eqb (suc n * 256 + b) 0 (λ e. omega arith))
    ∙ sym (and_left _ _ (ne_eqb (suc n) 0 (λ e. omega arith)))

pub unspecified_is_zero : (address : List ℕ) → not (nat_eq (number_of address) 0) ≡ not (is_unspecified address)
unspecified_is_zero address = ap not (none_set 0 address)

pub first_of_four : (address : List ℕ) → IsAddress Ipv4 address → nat_lt (number_of address) 3758096384 ≡ nat_lt (slice_index address 0) 224
first_of_four [] h = absurd (omega (arith, h.0))
first_of_four (a ∷ []) h = absurd (omega (arith, h.0))
first_of_four (a ∷ b ∷ []) h = absurd (omega (arith, h.0))
first_of_four (a ∷ b ∷ c ∷ []) h = absurd (omega (arith, h.0))
first_of_four (a ∷ b ∷ c ∷ d ∷ []) h = by (cases_lt a 224)
  where
    by : (a < 224) ⊎ (224 ≤ a) → nat_lt (number_of (a ∷ b ∷ c ∷ d ∷ [])) 3758096384 ≡ nat_lt a 224
    by (inl low) = lt-ltb _ _ (omega (arith, h.1 1, h.1 2, h.1 3)) ∙ sym (lt-ltb _ _ low)
    by (inr high) = le-ltb _ _ (omega arith) ∙ sym (le-ltb _ _ high)
first_of_four (a ∷ b ∷ c ∷ d ∷ e ∷ more) h = absurd (omega (arith, h.0))

pub low_source : (address : List ℕ) (number : ℕ) → IsAddress Ipv4 address → number ≡ number_of address → number < 3758096384 →
    not (nat_eq number 0) ≡ is_source Ipv4 address
low_source address number h e low =
    ap (λ n. not (nat_eq n 0)) e ∙ unspecified_is_zero address
    ∙ sym (ap (λ t. t && not (is_unspecified address)) (sym (first_of_four address h) ∙ lt-ltb _ _ (omega arith)))
