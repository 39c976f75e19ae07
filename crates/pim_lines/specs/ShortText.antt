-- The short text of an address. IPv4 addresses have one text; that of IPv6 is the spelling of RFC
-- 5952, 4.
use Rattle.std.specs.Prelude.{◌≡◌, ◌≤◌, ℕ, ◌+◌, List, [], length, take, drop, replicate, Option, None, Some}
use Rattle.std.specs.Net.Addr.{segments_of}
use Rattle.std.specs.Net.Text.{longest_zero_run, hex_groups_text}
use Rattle.pim_addr.specs.Address.{IsAddress}
use Rattle.pim_addr.specs.Text.{address_text}
use Rattle.pim_addr.specs.TextForms.{IsText}
use Rattle.pim_addr.specs.declared.family.AddressFamily.{AddressFamily}
use Rattle.pim_addr.specs.declared.family.AddressFamily.TheVariants.{Ipv4, Ipv6}

-- The text of an address. IPv4: four decimals joined by `.`. IPv6: the groups in lower case without
-- leading zeros, joined by `:` (RFC 5952, 4.1 and 4.3), with `::` in place of the longest run of
-- two or more zero groups, the first of those that are equally long (4.2). It has no dotted part.
abbrev pub short_text : AddressFamily → List ℕ → List ℕ
short_text Ipv4 address = address_text Ipv4 address
short_text Ipv6 address = hex_groups_text (segments_of address)

-- The text of an address, or nothing where there is none.
abbrev pub maybe_short : AddressFamily → Option (List ℕ) → List ℕ
maybe_short family None = []
maybe_short family (Some address) = short_text family address

-- ---- laws

-- The short text of an address names that address, as `read_text` reads it.
abbrev pub ShortTextNames : Type 0
ShortTextNames = (family : AddressFamily) (address : List ℕ) → IsAddress family address
    → IsText family (short_text family address) address

-- These groups, from `start` on, are zero.
pub record AreZero (groups : List ℕ) (start count : ℕ) : Type 0 where
  pub within : start + count ≤ length groups
  pub zero : take count (drop start groups) ≡ replicate count 0

-- The groups that `::` replaces are zero. No other zero groups in a row are more, and none of the
-- same number come before them.
abbrev pub RunIsLongest : Type 0
RunIsLongest = (groups : List ℕ) → AreZero groups (longest_zero_run groups).0 (longest_zero_run groups).1
    × ((start count : ℕ) → AreZero groups start count →
    (count ≤ (longest_zero_run groups).1)
    × (count ≡ (longest_zero_run groups).1 → (longest_zero_run groups).0 ≤ start))
