-- The value of an Address List option (RFC 7761, 4.9.2): encoded unicast addresses of either
-- family, one after the other.
use Rattle.std.specs.Prelude.{ℕ, zero, suc, Bool, true, false, ◌==◌, List, [], ◌∷◌, length, drop, Option, Some, None}
use Rattle.std.specs.Prelude.{if◌then◌else◌}
use Rattle.std.specs.List.{list_all, flat_map}
use Rattle.pim_addr.specs.declared.family.AddressFamily.{AddressFamily}
use Rattle.pim_addr.specs.declared.family.AddressFamily.TheVariants.{Ipv4, Ipv6}
use Rattle.pim_addr.specs.Encoded.{unicast_faults, unicast_length, unicast_address}

-- A whole address of the family, in the native encoding, is at the front.
abbrev pub begins_with : AddressFamily → List ℕ → Bool
begins_with family bytes = length (unicast_faults family bytes) == 0

-- The family of the address at the front, or None if no whole native address is there.
abbrev pub first_family : List ℕ → Option AddressFamily
first_family bytes = if begins_with Ipv4 bytes then Some Ipv4 else if begins_with Ipv6 bytes then Some Ipv6 else None

-- What is at the place of an address: an address with its family, or bytes that are no whole native
-- address.
pub data Listed : Type 0 where
  native : AddressFamily → List ℕ → Listed
  other : Listed

-- The address at the front and then those after it. The cut ends at bytes that are no whole native
-- address.
abbrev pub address_then : Option AddressFamily → List ℕ → (List ℕ → List Listed) → List Listed
address_then None bytes next = other ∷ []
address_then (Some family) bytes next =
    native family (unicast_address family bytes) ∷ next (drop (unicast_length family) bytes)

-- At most `count` addresses at the front of the bytes.
unfoldable pub row_within : ℕ → List ℕ → List Listed
row_within zero bytes = []
row_within (suc count) bytes =
    if length bytes == 0 then [] else address_then (first_family bytes) bytes (row_within count)

-- All addresses of the value. Each has bytes of its own, so that there are no more addresses than
-- bytes.
abbrev pub row : List ℕ → List Listed
row value = row_within (length value) value

-- It is a whole native address.
abbrev pub is_native : Listed → Bool
is_native (native family address) = true
is_native other = false

-- The value consists of whole native addresses.
abbrev pub is_row : List ℕ → Bool
is_row value = list_all is_native (row value)

-- The address, if it is of the family.
abbrev pub if_of : AddressFamily → Listed → List (List ℕ)
if_of Ipv4 (native Ipv4 address) = address ∷ []
if_of Ipv6 (native Ipv6 address) = address ∷ []
if_of _ _ = []

-- The addresses of the family, in order. Those of the other family are skipped.
abbrev pub addresses_of : AddressFamily → List ℕ → List (List ℕ)
addresses_of family value = flat_map (if_of family) (row value)
