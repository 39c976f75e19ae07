-- What a record holds for a router of one address family.
use Rattle.std.specs.Prelude.{ℕ, if◌then◌else◌, List, Option, None, Some}
use Rattle.pim_addr.specs.declared.family.AddressFamily.{AddressFamily}
use Rattle.pim_addr.specs.Families.{is_same}
use Rattle.pim_capture.specs.declared.event.Why.{Why}
use Rattle.pim_capture.specs.declared.event.Why.TheVariants.{NextFile, OfLink, Incomplete}
use Rattle.pim_capture.specs.Capture.{EventSeen, packet, skipped, ended}
use Rattle.pim_capture.specs.Frame.{Datagram}
use Rattle.pim_merge.specs.declared.content.Content.{Content as Given}
use Rattle.pim_merge.specs.declared.content.Content.TheVariants as given
use Rattle.pim_merge.specs.declared.content.Datagram.{Datagram as Carried}
use Rattle.pim_merge.specs.declared.content.ContentEnds.{ContentEnds}

-- A record holds a packet of the family with this source, destination and PIM message; one of the
-- other family; no packet, for this reason; or it is no record, but the end of its capture, the
-- beginning of its next file, or a report of the packets before it.
pub data Content : Type 0 where
  holds : List ℕ → List ℕ → List ℕ → Content
  of_other_family : Content
  without_packet : Why → Content
  no_record : Content

-- What a record with this packet holds.
abbrev pub datagram_in : AddressFamily → Datagram → Content
datagram_in family datagram =
    if is_same family datagram.family then holds datagram.source datagram.destination datagram.payload
    else of_other_family

-- What a record holds that is skipped for this reason.
abbrev pub skipped_in : Why → Content
skipped_in NextFile = no_record
skipped_in (OfLink link) = no_record
skipped_in (Incomplete packets) = no_record
skipped_in why = without_packet why

-- What a record holds.
abbrev pub content_in : AddressFamily → EventSeen → Content
content_in family (packet millis frame datagram) = datagram_in family datagram
content_in family (skipped millis why) = skipped_in why
content_in family ended = no_record

-- ---- the values of the code as these

-- What a record holds, with addresses as lists of bytes.
abbrev pub content_seen : {A : Type 0} → (A → List ℕ) → Given A → Content
content_seen bytes_of (given.Datagram sent) =
    holds (bytes_of sent.source) (bytes_of sent.destination) sent.payload.now
content_seen bytes_of given.OtherFamily = of_other_family
content_seen bytes_of (given.Skipped why) = without_packet why
content_seen bytes_of given.End = no_record

-- This holds of the packet, if the record holds one of the family.
abbrev pub IfDatagram : {A : Type 0} → Given A → (Carried A → Type 0) → Type 0
IfDatagram (given.Datagram sent) P = P sent
IfDatagram given.OtherFamily P = Unit {0}
IfDatagram (given.Skipped why) P = Unit {0}
IfDatagram given.End P = Unit {0}

-- The source and the destination of a packet, as bytes.
abbrev pub ends_seen : {A : Type 0} → (A → List ℕ) → ContentEnds A → List ℕ × List ℕ
ends_seen bytes_of ends = (bytes_of ends.source, bytes_of ends.destination)

-- The source and the destination of a datagram of the router's family; nothing for the other
-- family.
abbrev pub ends_in : AddressFamily → Datagram → Option (List ℕ × List ℕ)
ends_in family datagram =
    if is_same family datagram.family then Some (datagram.source, datagram.destination) else None
