-- The file header and the records of a classic pcap file, of any link that is read.
use Rattle.std.specs.Prelude.{ℕ, ◌+◌, ◌*◌, ◌/◌, ◌%◌, ◌^◌, Bool, ◌&&◌, ◌||◌, ◌==◌, not, List, drop, nat_lt}
use Rattle.std.specs.Prelude.{None, Result, Ok, Err, if◌then◌else◌}
use Rattle.byteorder.specs.Endian.{big_number}
use Rattle.pim_addr.specs.Faults.{fault_if}
use Rattle.pim_capture.specs.Header.{microseconds_magic, nanoseconds_magic}
use Rattle.pim_capture.specs.Capture.{most_captured}
use Rattle.pim_container.specs.declared.link.BlockEndianness.{BlockEndianness}
use Rattle.pim_container.specs.declared.link.BlockEndianness.TheVariants.{Big, Little}
use Rattle.pim_container.specs.declared.link.LinkLayer.{LinkLayer}
use Rattle.pim_container.specs.declared.link.LinkLayer.TheVariants as link
use Rattle.pim_container.specs.declared.fault.ContainerFault.{ContainerFault}
use Rattle.pim_container.specs.declared.fault.ContainerFault.TheVariants as fault
use Rattle.pim_container.specs.declared.classic.ClassicFormat.{ClassicFormat}
use Rattle.pim_container.specs.declared.classic.ClassicResolution.{ClassicResolution}
use Rattle.pim_container.specs.declared.classic.ClassicResolution.TheVariants.{Microseconds, Nanoseconds}
use Rattle.pim_container.specs.Link.{number, link_of}
use Rattle.pim_container.specs.EventSeen.{EventSeen, frame_event}

-- ---- the file header: the magic at 0, the link word at 20

abbrev pub is_magic : BlockEndianness → List ℕ → Bool
is_magic order header = number order 4 header == microseconds_magic || number order 4 header == nanoseconds_magic

-- The byte order in which the file begins with a magic.
abbrev pub file_order : List ℕ → BlockEndianness
file_order header = if is_magic Big header then Big else Little

-- The unit of the fractions of seconds, by the magic.
abbrev pub resolution_of : List ℕ → ClassicResolution
resolution_of header =
    if number (file_order header) 4 header == nanoseconds_magic then Nanoseconds else Microseconds

-- The link type: the low 16 bits of the link word.
abbrev pub link_type : List ℕ → ℕ
link_type header = number (file_order header) 4 (drop 20 header) % 2 ^ 16

-- The format of a file with this link.
abbrev pub format_with : List ℕ → LinkLayer → Result ClassicFormat ContainerFault
format_with header (link.Other type) = Err (fault.LinkType (link_type header))
format_with header layer =
    Ok (record { order = file_order header; resolution = resolution_of header; link = layer })

-- The file begins as one that gzip compressed (RFC 1952, 2.3.1).
abbrev pub is_gzip : List ℕ → Bool
is_gzip header = big_number 2 header == 0x1f8b

-- The format that a file header gives, or its first fault.
abbrev pub judge_header : List ℕ → Result ClassicFormat ContainerFault
judge_header header =
    if not (is_magic Big header) && not (is_magic Little header)
    then (if is_gzip header then Err fault.Gzip else Err fault.Magic)
    else format_with header (link_of (link_type header))

-- ---- a record: seconds, fraction, captured length and original length, four bytes each; then its
-- captured bytes

abbrev pub captured_length : ClassicFormat → List ℕ → ℕ
captured_length format head = number format.order 4 (drop 8 head)

abbrev pub head_faults : ClassicFormat → List ℕ → List ContainerFault
head_faults format head = fault_if (nat_lt most_captured (captured_length format head)) fault.TooLong

-- The number of units of a fraction that make one millisecond.
abbrev pub per_millisecond : ClassicResolution → ℕ
per_millisecond Microseconds = 1000
per_millisecond Nanoseconds = 1000000

-- The time of a record, in milliseconds since 1970, rounded down.
abbrev pub millis_of : ClassicFormat → List ℕ → ℕ
millis_of format bytes =
    number format.order 4 bytes * 1000 + number format.order 4 (drop 4 bytes) / per_millisecond format.resolution

-- What a whole record gives.
abbrev pub record_event : ClassicFormat → List ℕ → EventSeen
record_event format bytes = frame_event (millis_of format bytes) 0 None format.link (drop 16 bytes)
