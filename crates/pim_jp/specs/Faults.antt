-- The faults of a Join/Prune body: those of all its parts. A body is legal if it has none.
use Rattle.std.specs.Prelude.{ℕ, ◌&&◌, not, List, [], ◌++◌, length, map, nat_lt, if◌then◌else◌}
use Rattle.std.specs.List.{list_any, flat_map}
use Rattle.pim_addr.specs.declared.family.AddressFamily.{AddressFamily}
use Rattle.pim_addr.specs.declared.encoded.AddrFault.{AddrFault}
use Rattle.pim_addr.specs.declared.encoded.AddrFault.TheVariants as address
use Rattle.pim_addr.specs.Address.{is_group, is_source}
use Rattle.pim_addr.specs.Faults.{fault_if}
use Rattle.pim_addr.specs.Encoded.{SourceValue, unicast_faults, group_faults, source_faults, group_length}
use Rattle.pim_addr.specs.Encoded.{source_length, masked_address, source_value}
use Rattle.pim_jp.specs.declared.entry.Entry.{Entry}
use Rattle.pim_jp.specs.declared.fault.JpKind.{JpKind}
use Rattle.pim_jp.specs.declared.fault.JpKind.TheVariants.{Short, Family, Encoding, Mask, NotGroup, Flags, NotSource}
use Rattle.pim_jp.specs.declared.fault.JpKind.TheVariants.{SecondStar, BothLists, Trailing}
use Rattle.pim_jp.specs.declared.fault.JpFault.{JpFault}
use Rattle.pim_jp.specs.Spelling.{is_star, same_source}
use Rattle.pim_jp.specs.Parts.{Shape, upstream, head, group, counts, entry, rest, Part, is_typeless, entry_of_bytes}
use Rattle.pim_jp.specs.Parts.{body_parts}

-- The number of a kind. It orders the faults of one part.
abbrev pub number_of : JpKind → ℕ
number_of Short = 1
number_of Family = 2
number_of Encoding = 3
number_of Mask = 4
number_of NotGroup = 5
number_of Flags = 6
number_of NotSource = 7
number_of SecondStar = 8
number_of BothLists = 9
number_of Trailing = 10

-- The kind of a fault of an encoded address.
abbrev pub address_kind : AddrFault → JpKind
address_kind address.Short = Short
address_kind address.Family = Family
address_kind address.Encoding = Encoding
address_kind address.Mask = Mask

-- Short, if fewer than `size` bytes are left.
abbrev pub short_kinds : ℕ → List ℕ → List JpKind
short_kinds size bytes = fault_if (nat_lt (length bytes) size) Short

-- What is wrong with a whole entry apart from its encoding: its type, its address, a second (*,G)
-- entry, or a source in both lists.
abbrev pub entry_kinds : AddressFamily → List (Entry (List ℕ)) → List (Entry (List ℕ)) → SourceValue → List JpKind
entry_kinds family earlier other source =
    fault_if (is_typeless source) Flags
    ++ fault_if (not (is_source family source.address)) NotSource
    ++ fault_if (list_any is_star (entry_of_bytes source) && list_any is_star earlier) SecondStar
    ++ fault_if (list_any (λ this. list_any (same_source this) other) (entry_of_bytes source)) BothLists

-- The kinds of fault at one part, in the order of their numbers.
abbrev pub kinds_at : AddressFamily → Shape → List ℕ → List JpKind
kinds_at family upstream bytes = map address_kind (unicast_faults family bytes)
kinds_at family head bytes = short_kinds 4 bytes
kinds_at family group bytes =
    map address_kind (group_faults family bytes)
    ++ fault_if (not (nat_lt (length bytes) (group_length family))
    && not (is_group family (masked_address family bytes))) NotGroup
kinds_at family counts bytes = short_kinds 4 bytes
kinds_at family (entry earlier other) bytes =
    map address_kind (source_faults family bytes)
    ++ (if nat_lt (length bytes) (source_length family) then []
    else entry_kinds family earlier other (source_value family bytes))
kinds_at family rest bytes = fault_if (nat_lt 0 (length bytes)) Trailing

-- The faults of one part, each at the offset of the part.
abbrev pub part_faults : AddressFamily → Part → List JpFault
part_faults family part = map (λ kind. record { at = part.at; kind = kind }) (kinds_at family part.shape part.bytes)

-- The faults of these parts, in the order of the parts.
abbrev pub faults_of : AddressFamily → List Part → List JpFault
faults_of family parts = flat_map (part_faults family) parts

-- All faults of a body, in the order of its parts, and at one part by their numbers.
abbrev pub faults : AddressFamily → List ℕ → List JpFault
faults family body = faults_of family (body_parts family body)
