-- The line of a packet: its moment, its port, its sender and the router's verdict.
use Rattle.std.specs.Prelude.{ℕ, List, [], ◌++◌, codes, decimal}
use Rattle.pim_addr.specs.declared.family.AddressFamily.{AddressFamily}
use Rattle.pim_addr.specs.Text.{address_text}
use Rattle.pim_hello.specs.declared.heard.Heard.{Heard}
use Rattle.pim_hello.specs.declared.heard.Heard.TheVariants.{New, Same, Restarted, Gone}
use Rattle.pim_router.specs.declared.verdict.Store.{Store}
use Rattle.pim_router.specs.declared.verdict.Store.TheVariants.{Neighbours, Records}
use Rattle.pim_router.specs.declared.verdict.Verdict.{Verdict}
use Rattle.pim_router.specs.declared.verdict.Verdict.TheVariants as verdict
use Rattle.pim_lines.specs.Pieces.{line}
use Rattle.pim_report.specs.Malformed.{malformed_words}

-- What a Hello means for its sender on the port (RFC 7761, 4.3.1).
abbrev pub heard_words : Heard → List ℕ
heard_words New = codes "hello new"
heard_words Same = codes "hello same"
heard_words Restarted = codes "hello restarted"
heard_words Gone = codes "hello gone"

-- Which store has no room, and how many records the packet needed.
abbrev pub full_words : Store → List ℕ
full_words Neighbours = codes "full neighbours"
full_words (Records needed) = codes "full " ++ decimal needed

-- The mark of a malformed message, or nothing.
abbrev pub mark_of : Verdict → List ℕ
mark_of (verdict.Malformed fault) = codes "malformed "
mark_of other = []

-- The words of a verdict without that mark.
abbrev pub unmarked_words : Verdict → List ℕ
unmarked_words verdict.Mine = codes "mine"
unmarked_words (verdict.Malformed fault) = malformed_words fault
unmarked_words (verdict.OtherType type) = codes "type " ++ decimal type
unmarked_words (verdict.HelloTaken heard) = heard_words heard
unmarked_words verdict.UnknownNeighbour = codes "unknown-neighbour"
unmarked_words verdict.NotForUs = codes "not-for-us"
unmarked_words (verdict.Full store) = full_words store
unmarked_words verdict.Applied = codes "applied"

-- The words of a verdict.
abbrev pub verdict_words : Verdict → List ℕ
verdict_words verdict = mark_of verdict ++ unmarked_words verdict

-- The line of a verdict: its words alone.
abbrev pub verdict_line : Verdict → List ℕ
verdict_line reported = line (verdict_words reported)

-- `MOMENT port PORT from SENDER ` before the verdict, with the moment in milliseconds.
abbrev pub sender_words : AddressFamily → ℕ → ℕ → List ℕ → List ℕ
sender_words family moment port source =
    decimal moment ++ codes " port " ++ decimal port ++ codes " from " ++ address_text family source ++ codes " "

-- `MOMENT port PORT from SENDER VERDICT`.
abbrev pub packet_line : AddressFamily → ℕ → ℕ → List ℕ → Verdict → List ℕ
packet_line family moment port source reported = sender_words family moment port source ++ verdict_line reported
