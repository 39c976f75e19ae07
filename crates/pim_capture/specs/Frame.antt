-- Which PIM packet a captured frame holds, or why it holds none: IPv4 (RFC 791, 3.1) or IPv6 (RFC
-- 8200, 3), after an Ethernet header with at most one 802.1Q tag, or without a link layer. PIM has
-- the IP protocol number 103 (RFC 7761, 4.9).
use Rattle.std.specs.Prelude.{ℕ, ◌+◌, ◌*◌, ◌/◌, ◌%◌, Bool, false, ◌||◌, ◌==◌, not, List, ◌++◌, length, take, drop}
use Rattle.std.specs.Prelude.{slice_index, slice_range, nat_lt, bit_and, Option, None, Some, Result, Err, if◌then◌else◌}
use Rattle.byteorder.specs.Endian.{big_number}
use Rattle.pim_addr.specs.declared.family.AddressFamily.{AddressFamily}
use Rattle.pim_addr.specs.declared.family.AddressFamily.TheVariants.{Ipv4, Ipv6}
use Rattle.pim_addr.specs.Faults.{fault_if, judged}
use Rattle.pim_capture.specs.declared.header.Link.{Link}
use Rattle.pim_capture.specs.declared.header.Link.TheVariants.{Ethernet, Raw}
use Rattle.pim_capture.specs.declared.event.Why.{Why}
use Rattle.pim_capture.specs.declared.event.Why.TheVariants.{Cut, NotIp, BadHeader, NotPim, Fragment}

-- An IP packet that carries PIM. Addresses and payload are lists of bytes; the payload is the PIM
-- message.
pub record Datagram : Type 0 where
  pub family : AddressFamily
  pub source : List ℕ
  pub destination : List ℕ
  pub payload : List ℕ

-- ---- the link layer

-- Whether an Ethernet frame has an 802.1Q tag: its type is 0x8100, and the type of the payload
-- follows the tag.
abbrev pub is_tagged : List ℕ → Bool
is_tagged frame = big_number 2 (drop 12 frame) == 0x8100

-- The length of the link layer's header before the IP header, in bytes.
abbrev pub link_length : Link → List ℕ → ℕ
link_length Ethernet frame = if is_tagged frame then 18 else 14
link_length Raw frame = 0

-- The version of an IP header: the high four bits of its first byte.
abbrev pub version : List ℕ → ℕ
version packet = slice_index packet 0 / 16

-- The address family that an Ethernet type names.
abbrev pub ethernet_family : ℕ → Option AddressFamily
ethernet_family number = if number == 0x0800 then Some Ipv4 else (if number == 0x86dd then Some Ipv6 else None)

-- The address family that an IP version names.
abbrev pub raw_family : ℕ → Option AddressFamily
raw_family number = if number == 4 then Some Ipv4 else (if number == 6 then Some Ipv6 else None)

-- The address family of a frame: by the Ethernet type, or by the IP version where there is no link
-- layer.
abbrev pub stated_family : Link → List ℕ → Option AddressFamily
stated_family Ethernet frame = ethernet_family (big_number 2 (drop (if is_tagged frame then 16 else 12) frame))
stated_family Raw frame = raw_family (version frame)

-- Whether the captured bytes end before the family is known.
abbrev pub is_link_cut : Link → List ℕ → Bool
is_link_cut Ethernet frame = nat_lt (length frame) (link_length Ethernet frame)
is_link_cut Raw frame = length frame == 0

-- ---- the IP header

-- The length of an IP header without options, in bytes.
abbrev pub fixed_header : AddressFamily → ℕ
fixed_header Ipv4 = 20
fixed_header Ipv6 = 40

-- The length of an IP header with its options, in bytes. IPv4 counts it in words of four bytes.
abbrev pub header_length : AddressFamily → List ℕ → ℕ
header_length Ipv4 packet = 4 * (slice_index packet 0 % 16)
header_length Ipv6 packet = 40

-- The length of a packet with its header, in bytes: the total length of IPv4; the payload length of
-- IPv6 and 40.
abbrev pub packet_length : AddressFamily → List ℕ → ℕ
packet_length Ipv4 packet = big_number 2 (drop 2 packet)
packet_length Ipv6 packet = 40 + big_number 2 (drop 4 packet)

-- The protocol of IPv4, the next header of IPv6. Extension headers of IPv6 aren't walked.
abbrev pub protocol : AddressFamily → List ℕ → ℕ
protocol Ipv4 packet = slice_index packet 9
protocol Ipv6 packet = slice_index packet 6

-- Whether an IPv4 packet is a fragment: more fragments follow (0x2000), or its offset (0x1fff) is
-- above 0.
abbrev pub is_fragment : AddressFamily → List ℕ → Bool
is_fragment Ipv4 packet =
    not (bit_and (big_number 2 (drop 6 packet)) 0x2000 == 0) || not (bit_and (big_number 2 (drop 6 packet)) 0x1fff == 0)
is_fragment Ipv6 packet = false

-- Whether an IP header has a version that isn't its family's or, over IPv4, lengths that contradict
-- each other.
abbrev pub is_bad_header : AddressFamily → List ℕ → Bool
is_bad_header Ipv4 packet = not (version packet == 4) || nat_lt (header_length Ipv4 packet) 20 ||
    nat_lt (packet_length Ipv4 packet) (header_length Ipv4 packet)
is_bad_header Ipv6 packet = not (version packet == 6)

-- Why an IP packet of this family is skipped. The first reason counts.
abbrev pub packet_whys : AddressFamily → List ℕ → List Why
packet_whys family packet =
    fault_if (nat_lt (length packet) (fixed_header family)) Cut
    ++ fault_if (is_bad_header family packet) BadHeader
    ++ fault_if (not (protocol family packet == 103)) NotPim
    ++ fault_if (is_fragment family packet) Fragment
    ++ fault_if (nat_lt (length packet) (packet_length family packet)) Cut

-- The source address in an IP header.
abbrev pub source_of : AddressFamily → List ℕ → List ℕ
source_of Ipv4 packet = take 4 (drop 12 packet)
source_of Ipv6 packet = take 16 (drop 8 packet)

-- The destination address in an IP header.
abbrev pub destination_of : AddressFamily → List ℕ → List ℕ
destination_of Ipv4 packet = take 4 (drop 16 packet)
destination_of Ipv6 packet = take 16 (drop 24 packet)

-- The packet that an IP header describes. Bytes after the length in the header are padding.
abbrev pub datagram_of : AddressFamily → List ℕ → Datagram
datagram_of family packet = record {
  family = family;
  source = source_of family packet;
  destination = destination_of family packet;
  payload = slice_range packet (header_length family packet) (packet_length family packet);
}

-- ---- the judgment of a frame

-- The PIM packet in the bytes after the link layer, or the first reason why they hold none.
abbrev pub judge_packet : Option AddressFamily → List ℕ → Result Datagram Why
judge_packet None packet = Err NotIp
judge_packet (Some family) packet = judged (packet_whys family packet) (datagram_of family packet)

-- The PIM packet of a frame, or the first reason why it holds none.
abbrev pub judge_frame : Link → List ℕ → Result Datagram Why
judge_frame link frame =
    if is_link_cut link frame then Err Cut
    else judge_packet (stated_family link frame) (drop (link_length link frame) frame)
