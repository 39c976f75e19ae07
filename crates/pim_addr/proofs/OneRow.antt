-- Tables of one row.
use Rattle.pim_addr.proofs.Words.{◌≡◌, ℕ, suc, ◌+◌, ◌*◌, ◌/◌, ◌^◌, ◌<◌, ◌≤◌, true, List, [], ◌∷◌, length, Some, refl}
use Rattle.pim_addr.proofs.Words.{sym, ap, subst, ◌∙◌, arith, nat_lt, nat_le, big_endian, mul-le-mul_right, mul_assoc}
use Rattle.pim_addr.proofs.Words.{pow-succ', and_parts, ltb-true, leb-true, eqb-true, eq-eqb, div_below, le-div}
use Rattle.pim_addr.proofs.Words.{pow_pos, AddressFamily, Ipv4, Ipv6, IsAddress, AreBytes, is_group, first_bits, Prefix}
use Rattle.pim_addr.proofs.Words.{led_to, OneRpForAllGroups, OneNeighbourForAll, first_group, all_groups, all_addresses}
use Rattle.pim_addr.proofs.Numbers.{stays_below, no_bits}

one_row : (family : AddressFamily) (address to : List ℕ) (p : Prefix) → first_bits family p.bits p.address ≡ first_bits family p.bits address → led_to family address ((p, to) ∷ []) ≡ Some to
unfolding led_to
one_row family address to p e = rw (eq-eqb (first_bits family p.bits p.address) (first_bits family p.bits address) e) refl

-- ---- no bits

zeros : (family : AddressFamily) → 0 ≡ first_bits family 0 (all_addresses family).address
zeros Ipv4 = refl
zeros Ipv6 = refl

pub one_neighbour_for_all : OneNeighbourForAll
one_neighbour_for_all family neighbour address table is_address e =
    ap (led_to family address) e ∙ one_row family address neighbour (all_addresses family) (sym (zeros family) ∙ no_bits family 0 address refl is_address)

-- ---- the bits of groups

starts_above : (n : ℕ) (bytes : List ℕ) → n * 256 ^ length bytes ≤ big_endian n bytes
starts_above n [] = omega arith
starts_above n (b ∷ bytes) =
    let rest : (n * 256 + b) * 256 ^ length bytes ≤ big_endian (n * 256 + b) bytes = starts_above (n * 256 + b) bytes in
    let more : n * 256 * 256 ^ length bytes ≤ (n * 256 + b) * 256 ^ length bytes = mul-le-mul_right (256 ^ length bytes) (omega arith) in
    let power : n * 256 * 256 ^ length bytes ≡ n * 256 ^ suc (length bytes) = mul_assoc n 256 (256 ^ length bytes) ∙ sym (ap (λ p. n * p) (pow-succ' 256 (length bytes))) in
    omega arith

-- the first byte is what stands above all the others
first_byte : (n : ℕ) (bytes : List ℕ) (power : ℕ) → 0 < power → power ≡ 256 ^ length bytes → AreBytes bytes → big_endian n bytes / power ≡ n
first_byte n bytes power positive e h =
    let low : n * power ≤ big_endian n bytes = subst (λ p. n * p ≤ big_endian n bytes) (sym e) (starts_above n bytes) in
    let high : big_endian n bytes < (n + 1) * power = subst (λ p. big_endian n bytes < (n + 1) * p) (sym e) (stays_below n bytes h) in
    let below = div_below (big_endian n bytes) power (n + 1) positive high in
    let above = le-div n (big_endian n bytes) power positive low in
    omega (arith, below, above)

group_bits_4 : (group : List ℕ) → IsAddress Ipv4 group → is_group Ipv4 group ≡ true → 14 ≡ first_bits Ipv4 4 group
group_bits_4 [] h is = absurd (omega (arith, h.0))
group_bits_4 (a ∷ []) h is = absurd (omega (arith, h.0))
group_bits_4 (a ∷ b ∷ []) h is = absurd (omega (arith, h.0))
group_bits_4 (a ∷ b ∷ c ∷ []) h is = absurd (omega (arith, h.0))
group_bits_4 (a ∷ b ∷ c ∷ d ∷ []) h is =
    let range = and_parts (nat_le 224 a) (nat_lt a 240) is in
    omega (arith, leb-true 224 a range.0, ltb-true a 240 range.1, h.1 1, h.1 2, h.1 3)
group_bits_4 (a ∷ b ∷ c ∷ d ∷ e ∷ more) h is = absurd (omega (arith, h.0))

group_bits_6 : (group : List ℕ) → IsAddress Ipv6 group → is_group Ipv6 group ≡ true → 255 ≡ first_bits Ipv6 8 group
group_bits_6 [] h is = absurd (omega (arith, h.0))
group_bits_6 (a ∷ bytes) h is =
    let others : length bytes ≡ 15 = omega (arith, h.0) in
    let power : 2 ^ 120 ≡ 256 ^ length bytes = ap (λ n. 256 ^ n) (sym others) in
    let start : 0 * 256 + a ≡ a = omega arith in
    sym (ap (λ n. big_endian n bytes / 2 ^ 120) start ∙ first_byte a bytes (2 ^ 120) (pow_pos 120) power (λ k. h.1 (suc k)) ∙ eqb-true a 255 is)

same_bits : (family : AddressFamily) (group : List ℕ) → IsAddress family group → is_group family group ≡ true → first_bits family (all_groups family).bits (first_group family) ≡ first_bits family (all_groups family).bits group
same_bits Ipv4 group h is = group_bits_4 group h is
same_bits Ipv6 group h is = group_bits_6 group h is

pub one_rp_for_all_groups : OneRpForAllGroups
one_rp_for_all_groups family rp group table is_address is e =
    ap (led_to family group) e ∙ one_row family group rp (all_groups family) (same_bits family group is_address is)
