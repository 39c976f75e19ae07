-- The canonical spelling of a Join/Prune message (RFC 7761, 4.9.1 and 4.9.5), and the messages that
-- have one. Its reserved and ignored bits are 0, except the S bit of each entry, which is 1.
use Rattle.std.specs.Prelude.{◌≡◌, ℕ, ◌+◌, ◌*◌, ◌<◌, ◌^◌, true, List, [], ◌∷◌, ◌++◌, length}
use Rattle.std.specs.List.{AllByRecursion, flat_map}
use Rattle.byteorder.specs.Endian.{big_bytes}
use Rattle.pim_addr.specs.declared.family.AddressFamily.{AddressFamily}
use Rattle.pim_addr.specs.Address.{IsAddress, IsSourceAddress, is_group}
use Rattle.pim_addr.specs.Encoded.{unicast_length, group_length, source_length}
use Rattle.pim_addr.specs.Canonical.{canonical_unicast, canonical_group, canonical_source}
use Rattle.pim_jp.specs.declared.entry.Entry.{Entry}
use Rattle.pim_jp.specs.Message.{GroupSet, Message}
use Rattle.pim_jp.specs.Spelling.{source_of, IsLegalSet}

-- ---- messages that can be spelled

-- The entry can be spelled: its address is a valid source of the family.
abbrev pub IsMessageEntry : AddressFamily → Entry (List ℕ) → Type 0
IsMessageEntry family entry = IsSourceAddress family (source_of entry).address

-- The group set can be spelled: its group is a multicast group of the family, and its lists may be
-- in one set. Each list has fewer than 2^16 entries, all valid.
abbrev pub IsMessageSet : AddressFamily → GroupSet → Type 0
IsMessageSet family set = IsAddress family set.group × (is_group family set.group ≡ true) × IsLegalSet set
    × (length set.joined < 2 ^ 16) × AllByRecursion (IsMessageEntry family) set.joined
    × (length set.pruned < 2 ^ 16) × AllByRecursion (IsMessageEntry family) set.pruned

-- The message can be spelled: its upstream neighbour is an address of the family, and its holdtime
-- has 16 bits. It has fewer than 2^8 group sets, all valid.
abbrev pub IsMessage : AddressFamily → Message → Type 0
IsMessage family message = IsAddress family message.upstream × (message.holdtime < 2 ^ 16)
    × (length message.sets < 2 ^ 8) × AllByRecursion (IsMessageSet family) message.sets

-- ---- the spelling that is written

-- The encoded source address of an entry (RFC 7761, 4.9.1), with the W and R bits of its type.
abbrev pub canonical_entry : AddressFamily → Entry (List ℕ) → List ℕ
canonical_entry family entry = canonical_source family (source_of entry)

-- The canonical spelling of a group set: the encoded group, the two counts, the joined entries, the
-- pruned entries.
abbrev pub canonical_set : AddressFamily → GroupSet → List ℕ
canonical_set family set = canonical_group family set.group
    ++ big_bytes 2 (length set.joined) ++ big_bytes 2 (length set.pruned)
    ++ flat_map (canonical_entry family) set.joined ++ flat_map (canonical_entry family) set.pruned

-- The canonical spelling of the front of a message: the encoded upstream neighbour, a reserved
-- byte, Num groups, and the holdtime in seconds.
abbrev pub canonical_head : AddressFamily → List ℕ → ℕ → ℕ → List ℕ
canonical_head family upstream sets holdtime = canonical_unicast family upstream ++ (0 ∷ sets ∷ big_bytes 2 holdtime)

-- The canonical spelling of a message, as the body after the PIM header.
abbrev pub canonical : AddressFamily → Message → List ℕ
canonical family message = canonical_head family message.upstream (length message.sets) message.holdtime
    ++ flat_map (canonical_set family) message.sets

-- ---- lengths of what is written

-- The length in bytes of `canonical_head`.
abbrev pub canonical_head_length : AddressFamily → ℕ
canonical_head_length family = unicast_length family + 4

-- The length in bytes of a group set with these numbers of joined and pruned entries.
abbrev pub canonical_set_length : AddressFamily → ℕ → ℕ → ℕ
canonical_set_length family joined pruned =
    group_length family + 4 + joined * source_length family + pruned * source_length family

-- The length in bytes of all group sets of a message.
unfoldable pub canonical_sets_length : AddressFamily → List GroupSet → ℕ
canonical_sets_length family [] = 0
canonical_sets_length family (set ∷ sets) =
    canonical_set_length family (length set.joined) (length set.pruned) + canonical_sets_length family sets
