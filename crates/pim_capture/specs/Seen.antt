-- What a packet that `Capture::next` returns means, with the bytes of its record.
use Rattle.std.specs.Prelude.{◌+◌, ◌<◌, ◌≤◌, ℕ, List, length, slice_range}
use Rattle.pim_addr.specs.declared.family.AddressFamily.TheVariants.{Ipv4, Ipv6}
use Rattle.pim_capture.specs.declared.event.Ip.{Ip}
use Rattle.pim_capture.specs.declared.event.Ip.TheVariants.{V4, V6}
use Rattle.pim_capture.specs.Frame.{Datagram}

-- The packet of an event whose record has these bytes: its addresses, and as payload the bytes of
-- its range.
abbrev pub ip_seen : List ℕ → Ip → Datagram
ip_seen bytes (V4 source destination payload) = record {
  family = Ipv4;
  source = source;
  destination = destination;
  payload = slice_range bytes payload.start payload.end;
}
ip_seen bytes (V6 source destination payload) = record {
  family = Ipv6;
  source = source;
  destination = destination;
  payload = slice_range bytes payload.start payload.end;
}

-- The range of the payload is in order and ends within these bytes.
abbrev pub LiesIn : List ℕ → Ip → Type 0
LiesIn bytes (V4 source destination payload) = (payload.start ≤ payload.end) × (payload.end ≤ length bytes)
LiesIn bytes (V6 source destination payload) = (payload.start ≤ payload.end) × (payload.end ≤ length bytes)

-- The payload is shorter than 2^16 bytes, as the length in an IP header is.
abbrev pub IsShort : Ip → Type 0
IsShort (V4 source destination payload) = payload.end < payload.start + 65536
IsShort (V6 source destination payload) = payload.end < payload.start + 65536
