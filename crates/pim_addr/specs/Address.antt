-- Addresses as lists of bytes, the first byte the most significant (RFC 7761, 4.9.1), and as
-- numbers.
use Rattle.std.specs.Prelude.{◌≡◌, ◌<◌, ◌+◌, ◌-◌, ◌*◌, ◌/◌, ◌%◌, ◌^◌, ℕ, suc, Bool, List, length, slice_index}
use Rattle.std.specs.Prelude.{◌==◌, nat_lt, nat_le, ◌&&◌, true, not, Option, Some, None}
use Rattle.std.specs.List.{list_all}
use Rattle.std.specs.Ordering.{nat_cmp}
use Rattle.std.specs.Cmp.Lexicographic.{slice_cmp}
use Rattle.std.specs.Slice.Scan.{big_endian}
use Rattle.pim_addr.specs.declared.family.AddressFamily.{AddressFamily}
use Rattle.pim_addr.specs.declared.family.AddressFamily.TheVariants.{Ipv4, Ipv6}

-- The number of bytes of an address: 4 or 16.
abbrev pub address_length : AddressFamily → ℕ
address_length Ipv4 = 4
address_length Ipv6 = 16

-- Each number of the list is a byte: below 256.
abbrev pub AreBytes : List ℕ → Type 0
AreBytes bytes = (i : ℕ) → slice_index bytes i < 256

-- An address of the family: a list of bytes of the length of the family.
abbrev pub IsAddress : AddressFamily → List ℕ → Type 0
IsAddress family address = (length address ≡ address_length family) × AreBytes address

-- The Mask Len of one whole address, in bits: 32 or 128 (RFC 7761, 4.9.1).
abbrev pub mask_length : AddressFamily → ℕ
mask_length Ipv4 = 32
mask_length Ipv6 = 128

-- The Addr Family field of an encoded address (RFC 7761, 4.9.1): 1 for IPv4, 2 for IPv6.
abbrev pub family_byte : AddressFamily → ℕ
family_byte Ipv4 = 1
family_byte Ipv6 = 2

-- The address is a multicast group: in 224.0.0.0/4 (RFC 5771, 3) or in ff00::/8 (RFC 4291, 2.7).
abbrev pub is_group : AddressFamily → List ℕ → Bool
is_group Ipv4 address = nat_le 224 (slice_index address 0) && nat_lt (slice_index address 0) 240
is_group Ipv6 address = slice_index address 0 == 255

-- All bytes are 0: the address is 0.0.0.0 or ::.
abbrev pub is_unspecified : List ℕ → Bool
is_unspecified address = list_all (λ b. b == 0) address

-- The address is a valid source, RP or neighbour: above 0.0.0.0 and below 224.0.0.0, or neither ::
-- nor in ff00::/8. RFC 7761 gives no range. This is the widest one in which a source or an RP makes
-- sense.
abbrev pub is_source : AddressFamily → List ℕ → Bool
is_source Ipv4 address = nat_lt (slice_index address 0) 224 && not (is_unspecified address)
is_source Ipv6 address = not (slice_index address 0 == 255) && not (is_unspecified address)

-- A list of bytes that is the address of a multicast group.
abbrev pub IsGroupAddress : AddressFamily → List ℕ → Type 0
IsGroupAddress family group = IsAddress family group × (is_group family group ≡ true)

-- A list of bytes that is a valid source address.
abbrev pub IsSourceAddress : AddressFamily → List ℕ → Type 0
IsSourceAddress family source = IsAddress family source × (is_source family source ≡ true)

-- ---- addresses as numbers

-- The number that the bytes of an address make, the first byte the most significant.
abbrev pub number_of : List ℕ → ℕ
number_of address = big_endian 0 address

-- The number that the first `count` bits of an address make.
abbrev pub first_bits : AddressFamily → ℕ → List ℕ → ℕ
first_bits family count address = number_of address / 2 ^ (mask_length family - count)

-- All bits of the address after the first `count` are 0.
abbrev pub ends_within : AddressFamily → ℕ → List ℕ → Bool
ends_within family count address = number_of address % 2 ^ (mask_length family - count) == 0

-- The number of the last address that has the same first `count` bits: all later bits are 1.
abbrev pub last_number : AddressFamily → ℕ → List ℕ → ℕ
last_number family count address =
    first_bits family count address * 2 ^ (mask_length family - count) + (2 ^ (mask_length family - count) - 1)

-- The number that follows this one; 0 where there is none.
abbrev pub number_after : Option ℕ → ℕ
number_after None = 0
number_after (Some number) = suc number

-- Within a family, the byte order of addresses is the order of their numbers.
abbrev pub NumbersAreInOrder : Type 0
NumbersAreInOrder = (family : AddressFamily) (this that : List ℕ) → IsAddress family this → IsAddress family that →
    slice_cmp nat_cmp this that ≡ nat_cmp (number_of this) (number_of that)
