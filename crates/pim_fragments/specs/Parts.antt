-- What an IP packet holds of a packet that carries PIM: all of it, or a fragment (RFC 791, 3.2; RFC
-- 8200, 4.5).
use Rattle.std.specs.Prelude.{ℕ, ◌*◌, Bool, ◌==◌, not, List, length, drop, slice_index, slice_range, nat_lt, bit_and, true, false}
use Rattle.std.specs.Prelude.{Option, None, Some, Result, Ok, Err}
use Rattle.byteorder.specs.Endian.{big_number}
use Rattle.pim_addr.specs.declared.family.AddressFamily.{AddressFamily}
use Rattle.pim_addr.specs.declared.family.AddressFamily.TheVariants.{Ipv4, Ipv6}
use Rattle.pim_addr.specs.Faults.{fault_if, judged}
use Rattle.pim_capture.specs.declared.event.Why.{Why}
use Rattle.pim_capture.specs.declared.event.Why.TheVariants as why
use Rattle.pim_capture.specs.Frame.{Datagram, judge_packet, datagram_of, packet_length, protocol, source_of, destination_of}
use Rattle.pim_fragments.specs.declared.headers.Fragment.{Fragment}
use Rattle.pim_fragments.specs.declared.headers.Content.{Content}
use Rattle.pim_fragments.specs.Headers.{walk, most_headers, is_read}

-- A packet, or the fragment of one: then its payload is the fragment's bytes.
pub record Part : Type 0 where
  pub datagram : Datagram
  pub fragment : Option Fragment

-- ---- IPv4

-- The fields of an IPv4 header that say which fragment it is (RFC 791, 3.1). The offset counts words
-- of eight bytes.
abbrev pub v4_fragment : List ℕ → Fragment
v4_fragment packet = record {
  protocol = 103;
  identification = big_number 2 (drop 4 packet);
  offset = 8 * bit_and (big_number 2 (drop 6 packet)) 0x1fff;
  more = not (bit_and (big_number 2 (drop 6 packet)) 0x2000 == 0);
}

-- An IPv4 packet that is a fragment.
abbrev pub v4_part : List ℕ → Result Part Why
v4_part packet =
    judged (fault_if (nat_lt (length packet) (packet_length Ipv4 packet)) why.Cut)
    (record { datagram = datagram_of Ipv4 packet; fragment = Some (v4_fragment packet) })

-- ---- IPv6

-- The part whose headers were walked.
abbrev pub walked : List ℕ → Result Content Why → Result Part Why
walked packet (Err why) = Err why
walked packet (Ok content) =
    judged (fault_if (nat_lt (length packet) (packet_length Ipv6 packet)) why.Cut) (record {
      datagram = record {
        family = Ipv6;
        source = source_of Ipv6 packet;
        destination = destination_of Ipv6 packet;
        payload = slice_range packet content.begin (packet_length Ipv6 packet);
      };
      fragment = content.fragment;
    })

-- An IPv6 packet with a header before PIM.
abbrev pub v6_part : List ℕ → Result Part Why
v6_part packet = walked packet (walk most_headers (slice_index packet 6) 40 (packet_length Ipv6 packet) packet)

-- ---- both

-- Where a packet isn't PIM without fragments and headers before it: what it is then.
abbrev pub part_or : AddressFamily → List ℕ → Result Datagram Why → Result Part Why
part_or family packet (Ok datagram) = Ok (record { datagram = datagram; fragment = None })
part_or Ipv4 packet (Err why.Fragment) = v4_part packet
part_or Ipv6 packet (Err why.NotPim) = v6_part packet
part_or family packet (Err why) = Err why

-- Whether a packet that isn't a whole one for this reason may be a part: an IPv4 fragment, or an IPv6
-- packet with a header that is read.
abbrev pub may_be_part : AddressFamily → List ℕ → Why → Bool
may_be_part Ipv4 packet why.Fragment = true
may_be_part Ipv6 packet why.NotPim = is_read (protocol Ipv6 packet)
may_be_part family packet why = false

-- What the bytes of an IP packet hold. A packet without fragments and headers before PIM is what it
-- is to `judge_packet`.
abbrev pub part_of : AddressFamily → List ℕ → Result Part Why
part_of family packet = part_or family packet (judge_packet (Some family) packet)

-- ---- a packet whose fragments were put together

-- Where PIM begins, if the walk ends at no fragment.
abbrev pub begin_unless : ℕ → Option Fragment → Result ℕ Why
begin_unless begin None = Ok begin
begin_unless begin (Some fragment) = Err why.Fragment

-- The same of what a walk found.
abbrev pub begin_of : Result Content Why → Result ℕ Why
begin_of (Err why) = Err why
begin_of (Ok content) = begin_unless content.begin content.fragment

-- Where PIM begins in the payload of a packet of this protocol.
abbrev pub pim_begins : ℕ → List ℕ → Result ℕ Why
pim_begins protocol payload = begin_of (walk most_headers protocol 0 (length payload) payload)
