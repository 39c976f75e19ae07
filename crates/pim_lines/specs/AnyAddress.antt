-- An address of either family, and its texts.
use Rattle.std.specs.Prelude.{ℕ, List, Bool, true, false}
use Rattle.pim_addr.specs.declared.family.AddressFamily.{AddressFamily}
use Rattle.pim_addr.specs.declared.family.AddressFamily.TheVariants.{Ipv4, Ipv6}
use Rattle.pim_addr.specs.TextForms.{IsText}
use Rattle.pim_lines.specs.declared.either.AnyAddress.{AnyAddress}
use Rattle.pim_lines.specs.declared.either.AnyAddress.TheVariants.{V4, V6}

-- The address is of this family.
abbrev pub is_in : AddressFamily → AnyAddress → Bool
is_in Ipv4 (V4 address) = true
is_in Ipv4 (V6 address) = false
is_in Ipv6 (V4 address) = false
is_in Ipv6 (V6 address) = true

-- The bytes of the address.
abbrev pub address_bytes : AnyAddress → List ℕ
address_bytes (V4 address) = address
address_bytes (V6 address) = address

-- The address of this family with these bytes.
abbrev pub address_in : AddressFamily → List ℕ → AnyAddress
address_in Ipv4 bytes = V4 bytes
address_in Ipv6 bytes = V6 bytes

-- ---- its texts

-- The text is one that names this address.
abbrev pub Names : List ℕ → AnyAddress → Type 0
Names text (V4 address) = IsText Ipv4 text address
Names text (V6 address) = IsText Ipv6 text address

-- The text names some address.
abbrev pub IsRead : List ℕ → Type 0
IsRead text = (address : AnyAddress) × Names text address

-- The text names no address.
abbrev pub IsUnread : List ℕ → Type 0
IsUnread text = (address : AnyAddress) → Names text address → ⊥
