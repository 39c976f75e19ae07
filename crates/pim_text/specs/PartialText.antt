-- The text of the front of a Join/Prune body (RFC 7761, 4.9.5): the lines of what is whole in it.
use Rattle.std.specs.Prelude.{ℕ, ◌+◌, ◌*◌, List, [], ◌∷◌, ◌++◌, length, codes, nat_le, if◌then◌else◌}
use Rattle.std.specs.List.{flat_map}
use Rattle.pim_addr.specs.declared.family.AddressFamily.{AddressFamily}
use Rattle.pim_addr.specs.Encoded.{group_length, source_length}
use Rattle.pim_jp.specs.declared.entry.Entry.{Entry}
use Rattle.pim_jp.specs.Message.{GroupSet, Message, message_of}
use Rattle.pim_jp.specs.Canonical.{canonical_head_length, canonical_set_length}
use Rattle.pim_text.specs.JoinPruneText.{message_line, set_line, entry_line}

-- A line of a message's text, and the offset in the body of the end of what the line states.
pub record PlacedLine : Type 0 where
  pub end : ℕ
  pub text : List ℕ

-- The lines of the entries of a list whose first entry is at the offset `at`. `list` names it.
unfoldable pub placed_entries : AddressFamily → List ℕ → ℕ → List (Entry (List ℕ)) → List PlacedLine
placed_entries family list at [] = []
placed_entries family list at (entry ∷ entries) =
    record { end = at + source_length family; text = entry_line family list entry }
    ∷ placed_entries family list (at + source_length family) entries

-- The lines of a group set at the offset `at`. Its own line states its group and its two counts.
abbrev pub placed_set : AddressFamily → ℕ → GroupSet → List PlacedLine
placed_set family at set =
    record { end = at + group_length family + 4; text = set_line family set }
    ∷ (placed_entries family (codes "join ") (at + group_length family + 4) set.joined
    ++ placed_entries family (codes "prune ")
    (at + group_length family + 4 + length set.joined * source_length family) set.pruned)

-- The lines of group sets of which the first is at the offset `at`.
unfoldable pub placed_sets : AddressFamily → ℕ → List GroupSet → List PlacedLine
placed_sets family at [] = []
placed_sets family at (set ∷ sets) =
    placed_set family at set
    ++ placed_sets family (at + canonical_set_length family (length set.joined) (length set.pruned)) sets

-- The lines of a message. Its own line states its upstream neighbour, its holdtime and Num groups.
abbrev pub placed_lines : AddressFamily → Message → List PlacedLine
placed_lines family message =
    record { end = canonical_head_length family; text = message_line family message }
    ∷ placed_sets family (canonical_head_length family) message.sets

-- The texts of those lines that end by this offset.
abbrev pub lines_by : ℕ → List PlacedLine → List ℕ
lines_by place lines = flat_map (λ (line : PlacedLine). if nat_le line.end place then line.text else []) lines

-- The text of the front of a body: of the message that its bytes state, the lines that end within
-- it. What a line states is a matter of the bytes before its end alone.
abbrev pub partial_text : AddressFamily → List ℕ → List ℕ
partial_text family front = lines_by (length front) (placed_lines family (message_of family front))
