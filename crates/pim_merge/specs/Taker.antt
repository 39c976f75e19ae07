-- What each record of a container gives to a lane, by a choice of records, where the fragments of
-- packets are put together (`pim_fragments`).
use Rattle.std.specs.Prelude.{ℕ, Bool, true, false, ◌&&◌, ◌==◌, List, drop, Option, None, Some, Result, Ok, Err}
use Rattle.std.specs.Prelude.{bytes_eq, if◌then◌else◌}
use Rattle.pim_addr.specs.declared.family.AddressFamily.{AddressFamily}
use Rattle.pim_addr.specs.declared.family.AddressFamily.TheVariants.{Ipv4, Ipv6}
use Rattle.pim_capture.specs.declared.incomplete.Incomplete.{Incomplete as Lacking}
use Rattle.pim_capture.specs.declared.incomplete.RecordPlace.{RecordPlace}
use Rattle.pim_capture.specs.declared.fault.CaptureFault.{CaptureFault}
use Rattle.pim_capture.specs.declared.fault.CaptureFault.TheVariants as fault
use Rattle.pim_capture.specs.declared.event.Why.{Why}
use Rattle.pim_capture.specs.declared.event.Why.TheVariants.{Part, LinkType, NoTime, NotChosen, Copy, OfLink, Incomplete}
use Rattle.pim_capture.specs.declared.interface.InterfaceChoice.{InterfaceChoice}
use Rattle.pim_capture.specs.declared.interface.InterfaceChoice.TheVariants.{Number, Name}
use Rattle.pim_capture.specs.declared.interface.InterfaceName.{InterfaceName}
use Rattle.pim_capture.specs.declared.link.Link.{Link}
use Rattle.pim_capture.specs.Frame.{Datagram}
use Rattle.pim_capture.specs.Capture.{EventSeen, packet, skipped, Answer}
use Rattle.pim_container.specs.declared.event.Origin.{Origin}
use Rattle.pim_container.specs.declared.choice.Choice.{Choice}
use Rattle.pim_container.specs.declared.choice.Mixed.{Mixed}
use Rattle.pim_container.specs.declared.choice.Mixed.TheVariants.{Names, Numbers, Vlans}
use Rattle.pim_container.specs.Choice.{judge_origin, first_after, is_of_link, mixes}
use Rattle.pim_container.specs.EventSeen as any
use Rattle.pim_fragments.specs.declared.headers.Fragment.{Fragment}
use Rattle.pim_fragments.specs.Parts.{pim_begins}
use Rattle.pim_fragments.specs.Pieces.{piece_of}
use Rattle.pim_fragments.specs.Packets.{Kept, nothing, with_all, kept_after, whole_after, asks_after}
use Rattle.pim_merge.specs.declared.taker.FragmentKey.{FragmentKey}
use Rattle.pim_merge.specs.declared.taker.FileLink.{FileLink}
use Rattle.pim_merge.specs.declared.taker.FileLink.TheVariants.{Unmet, Unread, Met}
use Rattle.pim_merge.specs.Slots.{field_of, same_link}
use Rattle.pim_merge.specs.Tally.{one_more}

-- What was taken of a capture, and what is held of it.
pub record TakerState : Type 0 where
  pub choice : Choice
  -- the origin of the first packet or fragment that was taken
  pub first : Option Origin
  -- the packets whose fragments are put together
  pub kept : Kept FragmentKey
  -- what the chosen frames of the file that is read begin with
  pub link : FileLink
  -- the place of the next record
  pub place : RecordPlace
  -- the link of the packet that was taken last, where links are mixed, until it is reported
  pub link_of_packet : Option Link
  -- it was reported of which packets the fragments are incomplete
  pub is_reported : Bool

-- Nothing was taken.
abbrev pub taker_of : Choice → TakerState
taker_of choice = record {
  choice = choice;
  first = None;
  kept = nothing;
  link = Unmet;
  place = record { file = 0; «record» = 1 };
  link_of_packet = None;
  is_reported = true;
}

-- The fault of packets of more than one link, where none is chosen.
abbrev pub mixed_fault : Mixed → CaptureFault
mixed_fault (Names first other) = fault.InterfaceNames first other
mixed_fault (Numbers first other) = fault.Interfaces first other
mixed_fault (Vlans first other) = fault.Vlans first other

-- ---- links

-- The interface of this name, or of this number without a name, as a word chooses it.
abbrev pub named_or : Option InterfaceName → ℕ → InterfaceChoice
named_or (Some name) number = Name name
named_or None number = Number number

-- The interface of an origin, as a word chooses it: by the index in a cooked header, or by its name,
-- or by its number.
abbrev pub interface_of : Origin → InterfaceChoice
interface_of origin = if origin.index == 0 then named_or origin.name origin.interface else Number origin.index

-- The link of a packet of this origin.
abbrev pub link_of : Origin → Link
link_of origin = record { vlan = origin.vlan; interface = interface_of origin }

-- ---- fragments

-- The version of IP.
abbrev pub version_of : AddressFamily → ℕ
version_of Ipv4 = 4
version_of Ipv6 = 6

-- What the fragments of a packet have in common: source, destination, protocol and identification
-- (RFC 791, 3.2; RFC 8200, 4.5), and the link.
abbrev pub key_of : Datagram → Fragment → Origin → FragmentKey
key_of datagram part origin = record {
  version = version_of datagram.family;
  source = field_of datagram.source;
  destination = field_of datagram.destination;
  protocol = part.protocol;
  identification = part.identification;
  link = link_of origin;
}

abbrev pub same_key : FragmentKey → FragmentKey → Bool
same_key one other =
    one.version == other.version && bytes_eq one.source other.source && bytes_eq one.destination other.destination
    && one.protocol == other.protocol && one.identification == other.identification
    && same_link one.link other.link

-- A packet with these addresses that carries this message.
abbrev pub carrying : List ℕ → Datagram → Datagram
carrying message datagram = record {
  family = datagram.family;
  source = datagram.source;
  destination = datagram.destination;
  payload = message;
}

-- What a packet gives whose fragments make this payload, in which PIM begins here.
abbrev pub begun_given : ℕ → Datagram → List ℕ → Result ℕ Why → EventSeen
begun_given millis datagram payload (Ok begin) =
    packet millis (drop begin payload) (carrying (drop begin payload) datagram)
begun_given millis datagram payload (Err why) = skipped millis why

-- What a fragment gives: nothing yet, or the packet of this protocol that it completes.
abbrev pub whole_given : ℕ → Datagram → ℕ → Option (List ℕ) → EventSeen
whole_given millis datagram protocol None = skipped millis Part
whole_given millis datagram protocol (Some payload) =
    begun_given millis datagram payload (pim_begins protocol payload)

-- What a fragment gives that is taken. The payload of its datagram is its bytes.
abbrev pub fragment_given : TakerState → ℕ → Origin → Datagram → Fragment → EventSeen
fragment_given state millis origin datagram part = whole_given millis datagram part.protocol
    (whole_after same_key (key_of datagram part origin) state.place millis (piece_of part datagram.payload) state.kept)

-- What is held after a fragment that is taken.
abbrev pub held_after : TakerState → ℕ → Origin → Datagram → Fragment → Kept FragmentKey
held_after state millis origin datagram part =
    kept_after same_key (key_of datagram part origin) state.place millis (piece_of part datagram.payload) state.kept

-- ---- what a record gives

-- What a packet or a fragment gives by the judgment of its origin: this if it is taken, this if it
-- isn't, or a fault.
abbrev pub taken_given : Result Bool Mixed → EventSeen → EventSeen → Answer
taken_given (Ok true) taken untaken = Ok taken
taken_given (Ok false) taken untaken = Ok untaken
taken_given (Err mixed) taken untaken = Err (mixed_fault mixed)

-- Whether it is taken, or the fault.
abbrev pub origin_given : Result Bool Mixed → Result Bool CaptureFault
origin_given (Ok taken) = Ok taken
origin_given (Err mixed) = Err (mixed_fault mixed)

-- Why a packet or a fragment of this origin isn't taken: it is a copy, or of another link.
abbrev pub untaken_why : Choice → Origin → Why
untaken_why choice origin = if is_of_link choice origin then Copy else NotChosen (Some (link_of origin))

abbrev pub untaken : TakerState → ℕ → Origin → EventSeen
untaken state millis origin = skipped millis (untaken_why state.choice origin)

-- The judgment of an origin.
abbrev pub judged_by : TakerState → Origin → Result Bool Mixed
judged_by state origin = judge_origin state.choice state.first origin

-- A frame of this origin is skipped for this reason, or since it is of another link than the chosen
-- one.
abbrev pub skipped_given : TakerState → ℕ → Origin → Why → EventSeen
skipped_given state millis origin why =
    if is_of_link state.choice origin then skipped millis why else skipped millis (NotChosen None)

-- The end of a file is a fault where frames of the chosen link are in it, and none of them is of a
-- link type that is read.
abbrev pub ending_given : FileLink → Option Answer
ending_given (Unread number) = Some (Err (fault.LinkNumber number))
ending_given link = None

-- What a result of the container gives. What is no record gives nothing: a section, an interface or
-- a block of another type. So each record gives one result, and its number among the results is that
-- in the file. One without a time is skipped, with 0 in place of its time.
abbrev pub event_given : TakerState → any.EventSeen → Option Answer
event_given state (any.packet millis origin datagram) = Some
    (taken_given (judged_by state origin) (packet millis datagram.payload datagram) (untaken state millis origin))
event_given state (any.fragment millis origin datagram part) = Some
    (taken_given (judged_by state origin) (fragment_given state millis origin datagram part) (untaken state millis origin))
event_given state (any.skipped millis origin why) = Some (Ok (skipped_given state millis origin why))
event_given state any.untimed = Some (Ok (skipped 0 NoTime))
event_given state any.ended = ending_given state.link
event_given state _ = None

-- ---- what is taken and held after a record

-- The place of the record after this one.
abbrev pub next_record : RecordPlace → RecordPlace
next_record place = record { file = place.file; «record» = one_more place.«record» }

-- What the chosen frames of a file begin with, after one that is skipped for this reason.
abbrev pub link_with : Why → FileLink → FileLink
link_with (LinkType number) Unmet = Unread number
link_with (LinkType number) link = link
link_with why link = Met

-- The same after a frame of this origin.
abbrev pub link_after : TakerState → Origin → FileLink → FileLink
link_after state origin link = if is_of_link state.choice origin then link else state.link

-- An origin is taken by this judgment.
abbrev pub is_taken : Result Bool Mixed → Bool
is_taken (Ok true) = true
is_taken _ = false

-- It is a fragment that is taken, and room is asked for to hold it.
abbrev pub asks_to_hold : TakerState → any.EventSeen → Bool
asks_to_hold state (any.fragment millis origin datagram part) =
    is_taken (judged_by state origin)
    && asks_after same_key (key_of datagram part origin) state.place millis (piece_of part datagram.payload) state.kept
asks_to_hold state _ = false

-- The link of a packet of this origin, if that is taken and links may be mixed.
abbrev pub link_met : Choice → Origin → Option Link
link_met choice origin = if mixes choice origin then Some (link_of origin) else None

-- The state after a packet of this origin.
abbrev pub packet_after : TakerState → Origin → TakerState
packet_after state origin = record state {
  first = first_after state.choice state.first origin;
  link = link_after state origin Met;
  place = next_record state.place;
  link_of_packet = link_met state.choice origin;
}

-- The state where these are held. What is incomplete isn't reported.
abbrev pub holding : Kept FragmentKey → TakerState → TakerState
holding kept state = record state { kept = kept; is_reported = false }

-- The state after a fragment of this origin that is taken.
abbrev pub fragment_after : TakerState → ℕ → Origin → Datagram → Fragment → TakerState
fragment_after state millis origin datagram part =
    holding (held_after state millis origin datagram part) (packet_after state origin)

-- The state after a frame of this origin that is skipped for this reason.
abbrev pub skipped_after : TakerState → Origin → Why → TakerState
skipped_after state origin why = record state {
  link = link_after state origin (link_with why state.link);
  place = next_record state.place;
}

-- The state after a record without a time.
abbrev pub untimed_after : TakerState → TakerState
untimed_after state = record state { place = next_record state.place }

-- The state after a result of the container.
abbrev pub state_after : TakerState → any.EventSeen → TakerState
state_after state (any.packet millis origin datagram) = packet_after state origin
state_after state (any.fragment millis origin datagram part) =
    if is_taken (judged_by state origin) then fragment_after state millis origin datagram part
    else packet_after state origin
state_after state (any.skipped millis origin why) = skipped_after state origin why
state_after state any.untimed = untimed_after state
state_after state _ = state

-- The state when the capture goes on with its next file.
abbrev pub in_next_file : TakerState → TakerState
in_next_file state = record state {
  link = Unmet;
  place = record { file = one_more state.place.file; «record» = 1 };
}

-- ---- what is reported of packets

-- The packets whose fragments are incomplete.
abbrev pub incomplete_of : TakerState → Option Lacking
incomplete_of state = with_all state.kept.packets state.kept.gone

-- The report of these, unless it was made.
abbrev pub incomplete_report : TakerState → Option EventSeen
incomplete_report state = if state.is_reported then None else Some (skipped 0 (Incomplete (incomplete_of state)))

-- The report of the link of the packet that was taken last, if that wasn't reported, or else of
-- incomplete packets.
abbrev pub report_by : Option Link → TakerState → Option EventSeen
report_by (Some link) state = Some (skipped 0 (OfLink link))
report_by None state = incomplete_report state

-- What is reported next.
abbrev pub report_of : TakerState → Option EventSeen
report_of state = report_by state.link_of_packet state

abbrev pub reported_by : Option Link → TakerState → TakerState
reported_by (Some link) state = record state { link_of_packet = None }
reported_by None state = record state { is_reported = true }

-- The state after that.
abbrev pub reported : TakerState → TakerState
reported state = reported_by state.link_of_packet state
