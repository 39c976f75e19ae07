-- The commands by which a packet arrives.
use Rattle.std.specs.Prelude.{◌≡◌, ◌⊎◌, ℕ, ◌≤◌, Bool, ◌||◌, not, nat_le, List, [], ◌∷◌, ◌++◌, length, codes, decimal}
use Rattle.std.specs.Prelude.{Option, None, Some, IsTrue}
use Rattle.pim_addr.specs.declared.family.AddressFamily.{AddressFamily}
use Rattle.pim_frame.specs.Frame.{all_routers, content}
use Rattle.pim_frame.specs.Seal.{IsSealed}
use Rattle.pim_lines.specs.declared.either.AnyAddress.{AnyAddress}
use Rattle.pim_text.specs.Spell.{IsSpelled, IsLong, stated_in, type_of}
use Rattle.pim_request.specs.declared.command.Packet.{Packet}
use Rattle.pim_request.specs.declared.command.Sender.{Sender}
use Rattle.pim_request.specs.Forms.{hex_bytes}
use Rattle.pim_router.specs.Packets.{Packet as Received, received, causes, may_grow}
use Rattle.pim_router.specs.State.{RouterState}
use Rattle.pim_report.specs.PacketLine.{verdict_line}
use Rattle.pim_answers.specs.declared.packets.FromText.{FromText}
use Rattle.pim_answers.specs.Answered.{Refused, RefusedIf, OrMemory, OrMemoryIf}
use Rattle.pim_lines.specs.AnyAddress.{address_bytes}
use Rattle.pim_answers.specs.Families.{differ_from, family_words}
use Rattle.pim_answers.specs.Lines.{ok_line}

-- The most bytes that the digits of a command state: half the most bytes of a line.
abbrev pub room_limit : ℕ
room_limit = 524288

-- The router has no port with this number.
abbrev pub lacks_port : ℕ → RouterState → Bool
lacks_port port router = nat_le (length router.ports) port

-- The words of a command with a port that isn't there.
abbrev pub port_words : ℕ → List ℕ
port_words port = codes "port " ++ decimal port

-- The router takes the packet now. The answer is the verdict. No timer fires.
abbrev pub Takes : AddressFamily → Received → RouterState → List ℕ → RouterState → Type 0
Takes family packet router text after =
    (text ≡ verdict_line (received family packet router).0 ++ ok_line) × (after ≡ (received family packet router).1)

-- The packet that a command states.
abbrev pub packet_of : Packet → Received
packet_of packet = record {
  port = packet.port;
  source = address_bytes packet.source;
  destination = address_bytes packet.destination;
  bytes = hex_bytes packet.hex.now;
}

-- Taking the packet needs memory: no cause refuses it, and it may bring a neighbour, a time or a
-- record.
abbrev pub NeedsMemory : AddressFamily → Received → RouterState → Type 0
NeedsMemory family packet router =
    (causes family packet router ≡ [])
    × IsTrue (may_grow family packet.port packet.source router (content packet.bytes))

-- `packet`
abbrev pub AnswersPacket : AddressFamily → Packet → RouterState → List ℕ → RouterState → Type 0
AnswersPacket family packet router =
    RefusedIf (differ_from family (packet.source ∷ packet.destination ∷ [])) family_words router
    (RefusedIf (lacks_port packet.port router) (port_words packet.port) router
    (OrMemoryIf (NeedsMemory family (packet_of packet) router) router
    (Takes family (packet_of packet) router)))

-- ---- packets by the text of their message

-- The addresses in the words of `from`, where this is the destination.
abbrev pub addresses_with : AnyAddress → Option AnyAddress → List AnyAddress
addresses_with source None = source ∷ []
addresses_with source (Some destination) = source ∷ destination ∷ []

-- The addresses in the words of `from`.
abbrev pub addresses_of : Sender → List AnyAddress
addresses_of sender = addresses_with sender.source sender.destination

-- The destination; ALL-PIM-ROUTERS where none is given.
abbrev pub destination_of : AddressFamily → Option AnyAddress → List ℕ
destination_of family None = all_routers family
destination_of family (Some destination) = address_bytes destination

-- The bytes are the message that the text states, legal or not: its canonical spelling, of at most
-- 65,536 bytes with the header, sealed from this source to this destination.
pub record IsMessageOf (family : AddressFamily) (text source destination message : List ℕ) : Type 0 where
  pub is_hello : Bool
  pub body : List ℕ
  pub spelled : IsSpelled family text is_hello body
  pub short : length body ≤ 65532
  pub sealed : IsSealed family source destination (type_of is_hello) body message

-- The packet of a sender with this message.
abbrev pub packet_from : AddressFamily → Sender → List ℕ → Received
packet_from family sender message = record {
  port = sender.port;
  source = address_bytes sender.source;
  destination = destination_of family sender.destination;
  bytes = message;
}

-- The router takes the packet whose message the text states.
abbrev pub TakesText : AddressFamily → FromText → RouterState → List ℕ → RouterState → Type 0
TakesText family from router text after = (message : List ℕ)
    × IsMessageOf family from.text.now (address_bytes from.sender.source) (destination_of family from.sender.destination) message
    × Takes family (packet_from family from.sender message) router text after

-- The message is too long, or it is taken.
abbrev pub TakesShort : AddressFamily → FromText → RouterState → List ℕ → RouterState → Type 0
TakesShort family from router text after =
    IsLong family from.text.now × Refused (codes "text too-long") router text after
    ⊎ OrMemory router (TakesText family from router) text after

-- `from`, with a text that states a message.
abbrev pub AnswersFrom : AddressFamily → FromText → RouterState → List ℕ → RouterState → Type 0
AnswersFrom family from router =
    RefusedIf (not (stated_in family from.stated) || differ_from family (addresses_of from.sender)) family_words router
    (RefusedIf (lacks_port from.sender.port router) (port_words from.sender.port) router
    (TakesShort family from router))
