-- The texts that name an address (RFC 4291, 2.2).
use Rattle.std.specs.Prelude.{◌≡◌, ℕ, ◌+◌, ◌-◌, ◌<◌, ◌⊎◌, false, List, ◌++◌, length, replicate, codes}
use Rattle.std.specs.Net.Addr.{octets_of}
use Rattle.std.specs.Net.Grammar.{IsDotted, IsGroups}
use Rattle.pim_addr.specs.Address.{IsAddress}
use Rattle.pim_addr.specs.Text.{address_text}
use Rattle.pim_addr.specs.declared.family.AddressFamily.{AddressFamily}
use Rattle.pim_addr.specs.declared.family.AddressFamily.TheVariants.{Ipv4, Ipv6}

-- Groups with one `::`, which replaces one or more zero groups. A group is one to four hexadecimal
-- digits in either case. `IsGroups false` are groups joined by colons, none of them dotted, or the
-- empty text.
pub record IsElided (text groups : List ℕ) : Type 0 where
  pub left_text : List ℕ
  pub right_text : List ℕ
  pub left : List ℕ
  pub right : List ℕ
  pub spelled : text ≡ left_text ++ codes "::" ++ right_text
  pub left_groups : IsGroups false left_text left
  pub right_groups : IsGroups false right_text right
  pub room : length left + length right < 8
  pub value : groups ≡ left ++ replicate (8 - length left - length right) 0 ++ right

-- Eight groups, or fewer with one `::` (RFC 4291, 2.2, forms 1 and 2).
abbrev pub AreEightGroups : List ℕ → List ℕ → Type 0
AreEightGroups text groups = (IsGroups false text groups × (length groups ≡ 8)) ⊎ IsElided text groups

-- The text names this address. IPv4: four decimals of 0 to 255 without leading zeros, joined by
-- dots. IPv6: eight groups, without a zone and without a dotted part, each of two bytes.
abbrev pub IsText : AddressFamily → List ℕ → List ℕ → Type 0
IsText Ipv4 text address = IsDotted text address
IsText Ipv6 text address = (groups : List ℕ) × AreEightGroups text groups × (address ≡ octets_of groups)

-- ---- laws

-- A text names at most one address.
abbrev pub OneAddress : Type 0
OneAddress = (family : AddressFamily) (text one other : List ℕ)
    → IsText family text one → IsText family text other → one ≡ other

-- The text that is written of an address names that address.
abbrev pub WrittenTextNames : Type 0
WrittenTextNames = (family : AddressFamily) (address : List ℕ) → IsAddress family address
    → IsText family (address_text family address) address
