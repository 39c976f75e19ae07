-- The encoded addresses of PIM messages (RFC 7761, 4.9.1), and the faults of bytes that should hold
-- one.
use Rattle.std.specs.Prelude.{◌≡◌, ℕ, ◌+◌, Bool, List, [], ◌∷◌, ◌++◌, length, take, drop, slice_index, nat_lt, ◌==◌}
use Rattle.std.specs.Prelude.{not, bit_and, if◌then◌else◌}
use Rattle.pim_addr.specs.Address.{address_length, mask_length, family_byte}
use Rattle.pim_addr.specs.Faults.{fault_if}
use Rattle.pim_addr.specs.declared.family.AddressFamily.{AddressFamily}
use Rattle.pim_addr.specs.declared.encoded.AddrFault.{AddrFault}
use Rattle.pim_addr.specs.declared.encoded.AddrFault.TheVariants.{Short, Family, Encoding, Mask}

-- The number of bytes of an Encoded-Unicast address: 6 or 18.
abbrev pub unicast_length : AddressFamily → ℕ
unicast_length family = 2 + address_length family

-- The number of bytes of a form with a Mask Len: Encoded-Group or Encoded-Source, 8 or 20.
abbrev pub masked_length : AddressFamily → ℕ
masked_length family = 4 + address_length family

-- The number of bytes of an Encoded-Group address.
abbrev pub group_length : AddressFamily → ℕ
group_length = masked_length

-- The number of bytes of an Encoded-Source address.
abbrev pub source_length : AddressFamily → ℕ
source_length = masked_length

-- The W (Wildcard) bit, 0x02, of the flags of an Encoded-Source address. The S bit and the reserved
-- bits are ignored.
abbrev pub wildcard_bit : ℕ → Bool
wildcard_bit flags = bit_and flags 2 == 2

-- The R (RPT) bit, 0x01, of these flags.
abbrev pub rpt_bit : ℕ → Bool
rpt_bit flags = bit_and flags 1 == 1

-- The flags reduced to the W and R bits.
abbrev pub type_bits : ℕ → ℕ
type_bits flags = bit_and flags 3

-- An Encoded-Source address as a value: the address with its W and R bits.
pub record SourceValue : Type 0 where
  pub address : List ℕ
  pub wildcard : Bool
  pub rpt : Bool

-- The Encoded-Unicast address (RFC 7761, 4.9.1): Addr Family, Encoding Type 0, address.
abbrev pub IsUnicast : AddressFamily → List ℕ → List ℕ → Type 0
IsUnicast family address bytes = (length address ≡ address_length family) × (bytes ≡ family_byte family ∷ 0 ∷ address)

-- The Encoded-Group address (RFC 7761, 4.9.1): Addr Family, Encoding Type 0, a free byte (B,
-- Reserved, Z), Mask Len, address.
abbrev pub IsGroup : AddressFamily → List ℕ → List ℕ → Type 0
IsGroup family address bytes = (length address ≡ address_length family)
    × (bytes ≡ family_byte family ∷ 0 ∷ slice_index bytes 2 ∷ mask_length family ∷ address)

-- The Encoded-Source address (RFC 7761, 4.9.1): Addr Family, Encoding Type 0, flags of which only W
-- and R count, Mask Len, address.
abbrev pub IsSource : AddressFamily → SourceValue → List ℕ → Type 0
IsSource family source bytes = (length source.address ≡ address_length family)
    × (bytes ≡ family_byte family ∷ 0 ∷ slice_index bytes 2 ∷ mask_length family ∷ source.address)
    × (source.wildcard ≡ wildcard_bit (slice_index bytes 2)) × (source.rpt ≡ rpt_bit (slice_index bytes 2))

-- ---- faults in the order of their numbers; a form that is too short has the fault Short alone

-- Another Addr Family than that of the message, and an Encoding Type that is not 0.
abbrev pub family_faults : AddressFamily → List ℕ → List AddrFault
family_faults family bytes =
    fault_if (not (slice_index bytes 0 == family_byte family)) Family ++
    fault_if (not (slice_index bytes 1 == 0)) Encoding

-- A Mask Len that is not that of one whole address.
abbrev pub mask_faults : AddressFamily → List ℕ → List AddrFault
mask_faults family bytes = fault_if (not (slice_index bytes 3 == mask_length family)) Mask

-- All faults of bytes that should begin with an Encoded-Unicast address.
abbrev pub unicast_faults : AddressFamily → List ℕ → List AddrFault
unicast_faults family bytes =
    if nat_lt (length bytes) (unicast_length family) then Short ∷ [] else family_faults family bytes

-- All faults of bytes that should begin with a form with a Mask Len.
abbrev pub masked_faults : AddressFamily → List ℕ → List AddrFault
masked_faults family bytes =
    if nat_lt (length bytes) (masked_length family) then Short ∷ []
    else family_faults family bytes ++ mask_faults family bytes

-- All faults of bytes that should begin with an Encoded-Group address.
abbrev pub group_faults : AddressFamily → List ℕ → List AddrFault
group_faults = masked_faults

-- All faults of bytes that should begin with an Encoded-Source address.
abbrev pub source_faults : AddressFamily → List ℕ → List AddrFault
source_faults = masked_faults

-- ---- the values of bytes without faults

-- The address of an Encoded-Unicast address at the front of the bytes.
abbrev pub unicast_address : AddressFamily → List ℕ → List ℕ
unicast_address family bytes = take (address_length family) (drop 2 bytes)

-- The address of an Encoded-Group or Encoded-Source address at the front of the bytes.
abbrev pub masked_address : AddressFamily → List ℕ → List ℕ
masked_address family bytes = take (address_length family) (drop 4 bytes)

-- The value of an Encoded-Source address at the front of the bytes.
abbrev pub source_value : AddressFamily → List ℕ → SourceValue
source_value family bytes = record {
  address = masked_address family bytes;
  wildcard = wildcard_bit (slice_index bytes 2);
  rpt = rpt_bit (slice_index bytes 2);
}
