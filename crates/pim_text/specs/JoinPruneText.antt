-- The text of a Join/Prune message.
use Rattle.std.specs.Prelude.{ℕ, List, ◌++◌, length, codes, decimal}
use Rattle.std.specs.List.{flat_map}
use Rattle.pim_addr.specs.declared.family.AddressFamily.{AddressFamily}
use Rattle.pim_addr.specs.Text.{address_text}
use Rattle.pim_jp.specs.declared.entry.Entry.{Entry}
use Rattle.pim_jp.specs.declared.entry.Entry.TheVariants.{Star, Source, Rpt}
use Rattle.pim_jp.specs.Message.{GroupSet, Message}
use Rattle.pim_text.specs.Text.{line}

-- The first line of a Join/Prune message: the upstream neighbour, J/P_HoldTime and the number of
-- sets.
abbrev pub message_line : AddressFamily → Message → List ℕ
message_line family message =
    line (codes "join/prune upstream " ++ address_text family message.upstream
    ++ codes " holdtime " ++ decimal message.holdtime ++ codes " sets " ++ decimal (length message.sets))

-- The line of a group set: its group, and the numbers of its joined and pruned sources.
abbrev pub set_line : AddressFamily → GroupSet → List ℕ
set_line family set =
    line (codes "set " ++ address_text family set.group ++ codes " joined " ++ decimal (length set.joined)
    ++ codes " pruned " ++ decimal (length set.pruned))

-- The words of an entry: its kind and its address.
abbrev pub entry_words : AddressFamily → Entry (List ℕ) → List ℕ
entry_words family (Star rp) = codes "star " ++ address_text family rp
entry_words family (Source source) = codes "source " ++ address_text family source
entry_words family (Rpt source) = codes "rpt " ++ address_text family source

-- The line of an entry in the list that these words name.
abbrev pub entry_line : AddressFamily → List ℕ → Entry (List ℕ) → List ℕ
entry_line family list entry = line (list ++ entry_words family entry)

-- The lines of a group set: its own line, then the joined sources, then the pruned ones.
abbrev pub set_text : AddressFamily → GroupSet → List ℕ
set_text family set =
    set_line family set ++ flat_map (entry_line family (codes "join ")) set.joined
    ++ flat_map (entry_line family (codes "prune ")) set.pruned

-- The lines of a Join/Prune message (RFC 7761, 4.9.5): the message, then its sets, in order.
abbrev pub message_text : AddressFamily → Message → List ℕ
message_text family message = message_line family message ++ flat_map (set_text family) message.sets
