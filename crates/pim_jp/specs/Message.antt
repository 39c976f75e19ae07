-- What a Join/Prune message says (RFC 7761, 4.9.5), and the message that a legal body holds.
use Rattle.std.specs.Prelude.{ℕ, zero, suc, ◌*◌, List, [], ◌∷◌, drop, slice_index, if◌then◌else◌}
use Rattle.byteorder.specs.Endian.{big_number}
use Rattle.pim_addr.specs.declared.family.AddressFamily.{AddressFamily}
use Rattle.pim_addr.specs.Encoded.{SourceValue, unicast_length, group_length, source_length, unicast_address}
use Rattle.pim_addr.specs.Encoded.{masked_address, source_value}
use Rattle.pim_jp.specs.declared.entry.Entry.{Entry}
use Rattle.pim_jp.specs.declared.entry.Entry.TheVariants.{Star, Source, Rpt}

-- A group set (RFC 7761, 4.9.5): a multicast group with its Joined Sources and Pruned Sources.
pub record GroupSet : Type 0 where
  pub group : List ℕ
  pub joined : List (Entry (List ℕ))
  pub pruned : List (Entry (List ℕ))

-- A Join/Prune message (RFC 7761, 4.9.5): the Upstream Neighbor Address, the Holdtime
-- (J/P_HoldTime) in seconds, and the group sets.
pub record Message : Type 0 where
  pub upstream : List ℕ
  pub holdtime : ℕ
  pub sets : List GroupSet

-- ---- the message that a legal body holds, from its front

-- The entry that the W and R bits of an encoded source address (RFC 7761, 4.9.1) name. W without R,
-- which no legal body has, counts as (S,G).
abbrev pub entry_of : SourceValue → Entry (List ℕ)
entry_of source =
    if source.rpt then (if source.wildcard then Star source.address else Rpt source.address) else Source source.address

-- The first `count` entries of the bytes.
unfoldable pub entries_of : AddressFamily → ℕ → List ℕ → List (Entry (List ℕ))
entries_of family zero bytes = []
entries_of family (suc count) bytes =
    entry_of (source_value family bytes) ∷ entries_of family count (drop (source_length family) bytes)

-- For a group set at the front of the bytes: the bytes after the group.
abbrev pub counts_of : AddressFamily → List ℕ → List ℕ
counts_of family bytes = drop (group_length family) bytes

-- Number of Joined Sources of the group set at the front of the bytes.
abbrev pub joined_count : AddressFamily → List ℕ → ℕ
joined_count family bytes = big_number 2 (counts_of family bytes)

-- Number of Pruned Sources of the group set at the front of the bytes.
abbrev pub pruned_count : AddressFamily → List ℕ → ℕ
pruned_count family bytes = big_number 2 (drop 2 (counts_of family bytes))

-- The bytes from the first joined entry on.
abbrev pub joined_bytes : AddressFamily → List ℕ → List ℕ
joined_bytes family bytes = drop 4 (counts_of family bytes)

-- The bytes from the first pruned entry on.
abbrev pub pruned_bytes : AddressFamily → List ℕ → List ℕ
pruned_bytes family bytes = drop (joined_count family bytes * source_length family) (joined_bytes family bytes)

-- The bytes after the group set at the front.
abbrev pub after_set : AddressFamily → List ℕ → List ℕ
after_set family bytes = drop (pruned_count family bytes * source_length family) (pruned_bytes family bytes)

-- The group set at the front of the bytes.
abbrev pub set_of : AddressFamily → List ℕ → GroupSet
set_of family bytes = record {
  group = masked_address family bytes;
  joined = entries_of family (joined_count family bytes) (joined_bytes family bytes);
  pruned = entries_of family (pruned_count family bytes) (pruned_bytes family bytes);
}

-- The first `count` group sets of the bytes.
unfoldable pub sets_of : AddressFamily → ℕ → List ℕ → List GroupSet
sets_of family zero bytes = []
sets_of family (suc count) bytes = set_of family bytes ∷ sets_of family count (after_set family bytes)

-- The bytes after the Upstream Neighbor Address: a reserved byte, Num groups, Holdtime, and the
-- group sets.
abbrev pub head_of : AddressFamily → List ℕ → List ℕ
head_of family body = drop (unicast_length family) body

-- Num groups: the number of group sets.
abbrev pub set_count : AddressFamily → List ℕ → ℕ
set_count family body = slice_index (head_of family body) 1

-- The message that a legal body holds. For a body with a fault it has no meaning.
abbrev pub message_of : AddressFamily → List ℕ → Message
message_of family body = record {
  upstream = unicast_address family body;
  holdtime = big_number 2 (drop 2 (head_of family body));
  sets = sets_of family (set_count family body) (drop 4 (head_of family body));
}
