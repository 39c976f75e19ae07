-- The one spelling in which each encoded address is written (RFC 7761, 4.9.1). Bits that a reader
-- ignores are 0, but the S bit (0x04) of a source is 1.
use Rattle.std.specs.Prelude.{◌≡◌, ℕ, ◌+◌, Bool, List, [], ◌∷◌, ◌++◌, length, if◌then◌else◌}
use Rattle.pim_addr.specs.Address.{address_length, mask_length, family_byte}
use Rattle.pim_addr.specs.Encoded.{SourceValue, unicast_faults, unicast_address, group_faults, masked_address}
use Rattle.pim_addr.specs.Encoded.{source_faults, source_value}
use Rattle.pim_addr.specs.declared.family.AddressFamily.{AddressFamily}

-- The canonical Encoded-Unicast address.
abbrev pub canonical_unicast : AddressFamily → List ℕ → List ℕ
canonical_unicast family address = family_byte family ∷ 0 ∷ address

-- The canonical Encoded-Group address: the B, Reserved and Z bits are 0.
abbrev pub canonical_group : AddressFamily → List ℕ → List ℕ
canonical_group family address = family_byte family ∷ 0 ∷ 0 ∷ mask_length family ∷ address

-- The flags of a canonical Encoded-Source address: S is set, W and R are as given.
abbrev pub canonical_flags : Bool → Bool → ℕ
canonical_flags wildcard rpt = 4 + (if wildcard then 2 else 0) + (if rpt then 1 else 0)

-- The canonical Encoded-Source address.
abbrev pub canonical_source : AddressFamily → SourceValue → List ℕ
canonical_source family source =
    family_byte family ∷ 0 ∷ canonical_flags source.wildcard source.rpt ∷ mask_length family ∷ source.address

-- ---- laws: a canonical spelling is read as its value, for any bytes after it

-- The bytes begin with an Encoded-Unicast address without faults, whose value is this address.
abbrev pub ReadsUnicast : AddressFamily → List ℕ → List ℕ → Type 0
ReadsUnicast family address bytes = (unicast_faults family bytes ≡ []) × (unicast_address family bytes ≡ address)

-- The bytes begin with an Encoded-Group address without faults, whose value is this group.
abbrev pub ReadsGroup : AddressFamily → List ℕ → List ℕ → Type 0
ReadsGroup family address bytes = (group_faults family bytes ≡ []) × (masked_address family bytes ≡ address)

-- The bytes begin with an Encoded-Source address without faults, whose value is this source.
abbrev pub ReadsSource : AddressFamily → SourceValue → List ℕ → Type 0
ReadsSource family source bytes = (source_faults family bytes ≡ []) × (source_value family bytes ≡ source)

-- A canonical Encoded-Unicast address is read as its address.
abbrev pub UnicastReadsBack : Type 0
UnicastReadsBack = (family : AddressFamily) (address behind : List ℕ) → length address ≡ address_length family
    → ReadsUnicast family address (canonical_unicast family address ++ behind)

-- A canonical Encoded-Group address is read as its group.
abbrev pub GroupReadsBack : Type 0
GroupReadsBack = (family : AddressFamily) (address behind : List ℕ) → length address ≡ address_length family
    → ReadsGroup family address (canonical_group family address ++ behind)

-- A canonical Encoded-Source address is read as its source with the W and R bits.
abbrev pub SourceReadsBack : Type 0
SourceReadsBack = (family : AddressFamily) (source : SourceValue) (behind : List ℕ)
    → length source.address ≡ address_length family
    → ReadsSource family source (canonical_source family source ++ behind)
