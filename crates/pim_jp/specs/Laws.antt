-- Words for the laws in `src/laws.rt`.
use Rattle.std.specs.Prelude.{◌≡◌, ℕ, List, [], drop}
use Rattle.byteorder.specs.Endian.{big_number}
use Rattle.pim_addr.specs.declared.family.AddressFamily.{AddressFamily}
use Rattle.pim_addr.specs.Order.{Place, IsReportedBefore}
use Rattle.pim_addr.specs.Encoded.{unicast_faults, unicast_address}
use Rattle.pim_jp.specs.declared.fault.JpFault.{JpFault}
use Rattle.pim_jp.specs.Message.{GroupSet, head_of, set_count, set_of, after_set}
use Rattle.pim_jp.specs.Faults.{number_of}

-- What orders faults: the offset of a fault, and the number of its kind.
abbrev pub place : JpFault → Place
place fault = (fault.at, number_of fault.kind)

-- The first fault precedes the other: it has the lesser offset, or the same offset and the lesser
-- number of its kind.
abbrev pub ReportedBefore : JpFault → JpFault → Type 0
ReportedBefore first other = IsReportedBefore (place first) (place other)

-- The bytes start with an upstream neighbour without a fault, a reserved byte, Num groups and a
-- holdtime, and `behind` are the bytes after them.
abbrev pub ReadsHead : AddressFamily → List ℕ → ℕ → ℕ → List ℕ → List ℕ → Type 0
ReadsHead family upstream sets holdtime behind bytes =
    (unicast_faults family bytes ≡ []) × (unicast_address family bytes ≡ upstream) × (set_count family bytes ≡ sets)
    × (big_number 2 (drop 2 (head_of family bytes)) ≡ holdtime) × (drop 4 (head_of family bytes) ≡ behind)

-- The bytes start with this group set, and `behind` are the bytes after it.
abbrev pub ReadsSet : AddressFamily → GroupSet → List ℕ → List ℕ → Type 0
ReadsSet family set behind bytes = (set_of family bytes ≡ set) × (after_set family bytes ≡ behind)
