-- How contracts see a packet and what it reads as.
use Rattle.std.specs.Prelude.{◌≡◌, ℕ, Bool, true, false, nat_eq, List, [], ◌∷◌, Option, None, Some}
use Rattle.std.specs.Cmp.Lexicographic.{pointwise}
use Rattle.pim_jp.specs.Message.{Message}
use Rattle.pim_router.specs.declared.verdict.Verdict.{Verdict}
use Rattle.pim_router.specs.declared.verdict.Verdict.TheVariants.{Applied}
use Rattle.pim_router.specs.Packets as router
use Rattle.pim_router.specs.Reading.{Reading}
use Rattle.pim_router.specs.Seen.{packet_seen}
use Rattle.pim_events.specs.declared.event.Ignored.{Ignored}
use Rattle.pim_events.specs.Events.{Happened, join_ignored, ignored_seen}
use Rattle.pim_trace.specs.declared.hearing.HeardPacket.{HeardPacket}
use Rattle.pim_trace.specs.Reading.{hello_in, message_in}

-- The packet is no Hello, and this is its Join/Prune message, if it is one.
abbrev pub IsNoHello : Option Message → Reading → Type 0
IsNoHello message reading = (hello_in reading ≡ None) × (message_in reading ≡ message)

-- The message, if there is one, names another upstream neighbour than this address.
abbrev pub IsForOther : List ℕ → Option Message → Type 0
IsForOther address None = Unit {0}
IsForOther address (Some message) = pointwise nat_eq message.upstream address ≡ false

-- The message was applied.
abbrev pub is_applied : Verdict → Bool
is_applied Applied = true
is_applied other = false

-- A packet of the code as the router's, with its addresses as lists of bytes.
abbrev pub packet_in : {A : Type 0} → (A → List ℕ) → HeardPacket A → router.Packet
packet_in bytes_of packet = packet_seen bytes_of packet.port packet.source packet.destination packet.bytes.now

-- A Join(*,G) that counts for nothing as a list of what happened; none without one.
abbrev pub ignored_list : {A : Type 0} → (A → List ℕ) → Option (Ignored A) → List Happened
ignored_list bytes_of None = []
ignored_list bytes_of (Some ignored) = join_ignored (ignored_seen bytes_of ignored) ∷ []
