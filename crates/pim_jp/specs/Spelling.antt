-- How a Join/Prune message is spelled (RFC 7761, 4.9.5): a relation between the message and its
-- bytes. Reserved bytes and ignored bits are free.
use Rattle.std.specs.Prelude.{◌≡◌, ℕ, ◌+◌, ◌≤◌, ◌<◌, ◌^◌, Bool, true, false, List, [], ◌∷◌, ◌++◌, length, slice_index}
use Rattle.std.specs.Prelude.{nat_eq, if◌then◌else◌}
use Rattle.std.specs.List.{list_any}
use Rattle.std.specs.Cmp.Lexicographic.{pointwise}
use Rattle.byteorder.specs.Endian.{big_bytes}
use Rattle.pim_addr.specs.declared.family.AddressFamily.{AddressFamily}
use Rattle.pim_addr.specs.Address.{is_group, is_source}
use Rattle.pim_addr.specs.Encoded.{SourceValue, IsUnicast, IsGroup, IsSource}
use Rattle.pim_jp.specs.declared.entry.Entry.{Entry}
use Rattle.pim_jp.specs.declared.entry.Entry.TheVariants.{Star, Source, Rpt}
use Rattle.pim_jp.specs.Message.{GroupSet, Message}

-- The bytes are one part and then another.
abbrev pub Then : (List ℕ → Type 0) → (List ℕ → Type 0) → List ℕ → Type 0
Then First Second bytes = (first : List ℕ) × (second : List ℕ) × (bytes ≡ first ++ second) × First first × Second second

-- The encoded source address of an entry (RFC 7761, 4.9.5.1): W and R are set for (*,G), neither
-- for (S,G), and R alone for (S,G,rpt).
abbrev pub source_of : Entry (List ℕ) → SourceValue
source_of (Star rp) = record { address = rp; wildcard = true; rpt = true }
source_of (Source source) = record { address = source; wildcard = false; rpt = false }
source_of (Rpt source) = record { address = source; wildcard = false; rpt = true }

-- The bytes are an encoding of this entry, whose address is a valid source.
abbrev pub IsEntry : AddressFamily → Entry (List ℕ) → List ℕ → Type 0
IsEntry family entry bytes = IsSource family (source_of entry) bytes
    × (is_source family (source_of entry).address ≡ true)

-- The bytes are encodings of these entries, one after the other.
unfoldable pub AreEntries : AddressFamily → List (Entry (List ℕ)) → List ℕ → Type 0
AreEntries family [] bytes = bytes ≡ []
AreEntries family (entry ∷ entries) bytes = Then (IsEntry family entry) (AreEntries family entries) bytes

-- ---- which lists may be in one group set

-- The entry is (*,G).
abbrev pub is_star : Entry (List ℕ) → Bool
is_star (Star rp) = true
is_star (Source source) = false
is_star (Rpt source) = false

-- Both entries have the same source, and both are (S,G) or both are (S,G,rpt).
abbrev pub same_source : Entry (List ℕ) → Entry (List ℕ) → Bool
same_source (Source s) (Source t) = pointwise nat_eq s t
same_source (Rpt s) (Rpt t) = pointwise nat_eq s t
same_source _ _ = false

-- The number of (*,G) entries.
unfoldable pub star_count : List (Entry (List ℕ)) → ℕ
star_count [] = 0
star_count (entry ∷ entries) = (if is_star entry then 1 else 0) + star_count entries

-- Both lists may be in one group set (RFC 7761, 4.9.5.1). Together they have at most one (*,G)
-- entry, and no source is in both by entries of one type.
abbrev pub IsLegalSet : GroupSet → Type 0
IsLegalSet set = (star_count (set.joined ++ set.pruned) ≤ 1)
    × (list_any (λ entry. list_any (same_source entry) set.joined) set.pruned ≡ false)

-- The group set is legal, its group is multicast, and the bytes are its spelling. The parts are the
-- group, Number of Joined Sources, Number of Pruned Sources, the joined entries, the pruned
-- entries.
abbrev pub IsSet : AddressFamily → GroupSet → List ℕ → Type 0
IsSet family set bytes = IsLegalSet set × (is_group family set.group ≡ true)
    × (length set.joined < 2 ^ 16) × (length set.pruned < 2 ^ 16)
    × Then (IsGroup family set.group)
    (Then (λ counts. counts ≡ big_bytes 2 (length set.joined) ++ big_bytes 2 (length set.pruned))
    (Then (AreEntries family set.joined) (AreEntries family set.pruned))) bytes

-- The bytes are spellings of these group sets, one after the other.
unfoldable pub AreSets : AddressFamily → List GroupSet → List ℕ → Type 0
AreSets family [] bytes = bytes ≡ []
AreSets family (set ∷ sets) bytes = Then (IsSet family set) (AreSets family sets) bytes

-- The four bytes after the upstream neighbour: a reserved byte with any value, Num groups, and the
-- holdtime.
abbrev pub IsHead : ℕ → ℕ → List ℕ → Type 0
IsHead sets holdtime bytes = (sets < 2 ^ 8) × (holdtime < 2 ^ 16)
    × (bytes ≡ slice_index bytes 0 ∷ sets ∷ big_bytes 2 holdtime)

-- The body is a spelling of this Join/Prune message (RFC 7761, 4.9.5): the upstream neighbour, the
-- head and the group sets.
abbrev pub Spells : AddressFamily → Message → List ℕ → Type 0
Spells family message body =
    Then (IsUnicast family message.upstream)
    (Then (IsHead (length message.sets) message.holdtime) (AreSets family message.sets)) body
