-- What belongs to one family: the length of an address and of what is written of a line.
use Rattle.pim_text.proofs.Words.{◌≡◌, refl, ℕ, ◌≤◌, true, List, arith, false≢true, AddressFamily, Ipv4, Ipv6}
use Rattle.pim_text.proofs.Words.{address_length, group_length, source_length, canonical_head_length, V4, V6, is_in}

pub length_in_v4 : (family : AddressFamily) (address : List ℕ) → is_in family (V4 address) ≡ true → address_length family ≡ 4
length_in_v4 Ipv4 address is = refl
length_in_v4 Ipv6 address is = absurd (false≢true is)

pub length_in_v6 : (family : AddressFamily) (address : List ℕ) → is_in family (V6 address) ≡ true → address_length family ≡ 16
length_in_v6 Ipv4 address is = absurd (false≢true is)
length_in_v6 Ipv6 address is = refl

pub head_is_small : (family : AddressFamily) → canonical_head_length family ≤ 22
head_is_small Ipv4 = omega arith
head_is_small Ipv6 = omega arith

pub group_is_small : (family : AddressFamily) → group_length family ≤ 20
group_is_small Ipv4 = omega arith
group_is_small Ipv6 = omega arith

pub source_is_small : (family : AddressFamily) → source_length family ≤ 20
source_is_small Ipv4 = omega arith
source_is_small Ipv6 = omega arith
