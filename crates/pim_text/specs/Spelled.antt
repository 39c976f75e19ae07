-- The bytes of the lines of a Join/Prune message.
use Rattle.std.specs.Prelude.{◌≡◌, ◌<◌, ℕ, ⊤, List, [], ◌++◌, length}
use Rattle.byteorder.specs.Endian.{big_bytes}
use Rattle.pim_addr.specs.declared.family.AddressFamily.{AddressFamily}
use Rattle.pim_addr.specs.Canonical.{canonical_group}
use Rattle.pim_jp.specs.declared.entry.Entry.{Entry}
use Rattle.pim_jp.specs.declared.entry.Entry.TheVariants.{Star, Source, Rpt}
use Rattle.pim_jp.specs.Message as one_message
use Rattle.pim_jp.specs.Canonical.{canonical, canonical_head, canonical_entry}
use Rattle.pim_lines.specs.declared.either.AnyAddress.{AnyAddress}
use Rattle.pim_lines.specs.AnyAddress.{address_bytes}
use Rattle.pim_text.specs.declared.line.Line.{Line}
use Rattle.pim_text.specs.declared.line.Line.TheVariants.{Head, Set, Join, Prune}
use Rattle.pim_text.specs.declared.spelling.SpellFault.{SpellFault}
use Rattle.pim_text.specs.declared.spelling.SpellFault.TheVariants.{TooLong, Memory}
use Rattle.pim_text.specs.Value.{message_in}
use Rattle.pim_text.specs.Read.{States}

-- The entry with its address as bytes.
abbrev pub entry_bytes : Entry AnyAddress → Entry (List ℕ)
entry_bytes (Star rp) = Star (address_bytes rp)
entry_bytes (Source source) = Source (address_bytes source)
entry_bytes (Rpt source) = Rpt (address_bytes source)

-- The canonical spelling of what a line of a Join/Prune message says.
abbrev pub line_bytes : AddressFamily → Line → List ℕ
line_bytes family (Head h) = canonical_head family (address_bytes h.upstream) h.sets h.holdtime
line_bytes family (Set s) = canonical_group family (address_bytes s.group) ++ big_bytes 2 s.joined ++ big_bytes 2 s.pruned
line_bytes family (Join entry) = canonical_entry family (entry_bytes entry)
line_bytes family (Prune entry) = canonical_entry family (entry_bytes entry)
line_bytes family line = []

-- The text states a Join/Prune message of this family.
abbrev pub StatesMessage : AddressFamily → List ℕ → Type 0
StatesMessage family text = (message : one_message.Message) × States text (message_in family message)

-- The body is the canonical spelling of the message that the text states.
abbrev pub SpellsMessage : AddressFamily → List ℕ → List ℕ → Type 0
SpellsMessage family text body =
    (message : one_message.Message) → States text (message_in family message) → body ≡ canonical family message

-- Why the body of the message that the text states is not written: it is too long, or memory ran
-- out.
abbrev pub IsMessageFault : AddressFamily → List ℕ → SpellFault → Type 0
IsMessageFault family text TooLong =
    (message : one_message.Message) → States text (message_in family message) → 65532 < length (canonical family message)
IsMessageFault family text Memory = ⊤
