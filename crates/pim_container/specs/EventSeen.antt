-- What a capture returns, and what of it a frame gives.
use Rattle.std.specs.Prelude.{◌≤◌, ℕ, false, List, drop, length, slice_range, Option, None, Some, Result, Ok, Err, ⊤}
use Rattle.pim_capture.specs.declared.event.Why.{Why}
use Rattle.pim_capture.specs.declared.event.Why.TheVariants.{NotIp}
use Rattle.pim_capture.specs.declared.interface.InterfaceName.{InterfaceName}
use Rattle.pim_addr.specs.declared.family.AddressFamily.{AddressFamily}
use Rattle.pim_capture.specs.Frame.{Datagram}
use Rattle.pim_capture.specs.Seen.{ip_seen, LiesIn, IsShort}
use Rattle.pim_container.specs.declared.link.LinkLayer.{LinkLayer}
use Rattle.pim_container.specs.declared.place.PacketPlace.{PacketPlace}
use Rattle.pim_container.specs.declared.event.Origin.{Origin}
use Rattle.pim_container.specs.declared.event.ContainerEvent.{ContainerEvent}
use Rattle.pim_container.specs.declared.event.ContainerEvent.TheVariants as event
use Rattle.pim_fragments.specs.declared.headers.Fragment.{Fragment}
use Rattle.pim_fragments.specs.Parts.{Part, part_of}
use Rattle.pim_container.specs.Link.{place_of, stacked}

-- A result of a capture. A packet has its time in milliseconds since 1970. The payload of a
-- fragment's datagram is the fragment's bytes. A described interface has its name.
pub data EventSeen : Type 0 where
  packet : ℕ → Origin → Datagram → EventSeen
  fragment : ℕ → Origin → Datagram → Fragment → EventSeen
  skipped : ℕ → Origin → Why → EventSeen
  untimed : EventSeen
  section : EventSeen
  described : List ℕ → EventSeen
  passed : EventSeen
  ended : EventSeen

-- The origin of a packet at this place, in a frame of the interface with this number and name.
abbrev pub origin_of : ℕ → Option InterfaceName → PacketPlace → Origin
origin_of interface name place =
    record { interface = interface; name = name; index = place.index; vlan = place.vlan; is_copy = place.is_copy }

-- The origin of a frame whose packet has no place: its interface, and no VLAN.
abbrev pub unplaced : ℕ → Option InterfaceName → Origin
unplaced interface name =
    record { interface = interface; name = name; index = 0; vlan = stacked 0 0; is_copy = false }

-- A packet, or a fragment of one.
abbrev pub fragment_event : ℕ → Origin → Datagram → Option Fragment → EventSeen
fragment_event millis origin datagram None = packet millis origin datagram
fragment_event millis origin datagram (Some part) = fragment millis origin datagram part

-- What an IP packet gives.
abbrev pub part_event : ℕ → Origin → Result Part Why → EventSeen
part_event millis origin (Ok part) = fragment_event millis origin part.datagram part.fragment
part_event millis origin (Err why) = skipped millis origin why

-- What a packet of this family gives, if it is one of IP.
abbrev pub family_event : ℕ → Origin → Option AddressFamily → List ℕ → EventSeen
family_event millis origin None bytes = skipped millis origin NotIp
family_event millis origin (Some family) bytes = part_event millis origin (part_of family bytes)

-- What a frame gives, by the place of its packet.
abbrev pub placed_event : ℕ → ℕ → Option InterfaceName → List ℕ → Result PacketPlace Why → EventSeen
placed_event millis interface name frame (Ok place) =
    family_event millis (origin_of interface name place) place.family (drop place.at frame)
placed_event millis interface name frame (Err why) = skipped millis (unplaced interface name) why

-- What a frame gives that was captured at this time on an interface with this number, name and
-- link.
abbrev pub frame_event : ℕ → ℕ → Option InterfaceName → LinkLayer → List ℕ → EventSeen
frame_event millis interface name layer frame = placed_event millis interface name frame (place_of layer frame)

-- ---- an event, with the bytes in the buffer

-- What an event means if the buffer holds these bytes.
abbrev pub event_seen : List ℕ → ContainerEvent → EventSeen
event_seen bytes (event.Packet millis origin ip) = packet millis origin (ip_seen bytes ip)
event_seen bytes (event.Fragment millis origin ip part) = fragment millis origin (ip_seen bytes ip) part
event_seen bytes (event.Skipped millis origin why) = skipped millis origin why
event_seen bytes event.Untimed = untimed
event_seen bytes event.Section = section
event_seen bytes (event.Interface name) = described (slice_range bytes name.start name.end)
event_seen bytes event.Passed = passed
event_seen bytes event.End = ended

-- The ranges of an event lie within these bytes, and that of a packet is shorter than 2^16 bytes.
abbrev pub EventLiesIn : List ℕ → ContainerEvent → Type 0
EventLiesIn bytes (event.Packet millis origin ip) = LiesIn bytes ip × IsShort ip
EventLiesIn bytes (event.Fragment millis origin ip part) = LiesIn bytes ip × IsShort ip
EventLiesIn bytes (event.Interface name) = (name.start ≤ name.end) × (name.end ≤ length bytes)
EventLiesIn bytes _ = ⊤

-- The latest time that a packet or a skipped frame can have: that of a classic file.
abbrev pub latest_moment : ℕ
latest_moment = 4294971589967

-- The time of an event is at most this.
abbrev pub IsBy : ℕ → ContainerEvent → Type 0
IsBy moment (event.Packet millis origin ip) = millis ≤ moment
IsBy moment (event.Fragment millis origin ip part) = millis ≤ moment
IsBy moment (event.Skipped millis origin why) = millis ≤ moment
IsBy moment _ = ⊤
