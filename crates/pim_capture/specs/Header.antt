-- The file header of a classic pcap file, 24 bytes: a magic, two version numbers, two numbers, a
-- snapshot length and the link word. Only the magic and the link word are used.
use Rattle.std.specs.Prelude.{ℕ, ◌%◌, ◌^◌, Bool, ◌&&◌, ◌||◌, ◌==◌, not, List, [], ◌∷◌, ◌++◌, length, drop, nat_lt}
use Rattle.std.specs.Prelude.{Result, ⊤, if◌then◌else◌}
use Rattle.byteorder.specs.Endian.{big_number, little_number}
use Rattle.pim_addr.specs.Faults.{fault_if, judged}
use Rattle.pim_capture.specs.declared.fault.CaptureFault.{CaptureFault}
use Rattle.pim_capture.specs.declared.fault.CaptureFault.TheVariants as fault
use Rattle.pim_capture.specs.declared.header.Endianness.{Endianness}
use Rattle.pim_capture.specs.declared.header.Endianness.TheVariants.{Big, Little}
use Rattle.pim_capture.specs.declared.header.Resolution.{Resolution}
use Rattle.pim_capture.specs.declared.header.Resolution.TheVariants.{Microseconds, Nanoseconds}
use Rattle.pim_capture.specs.declared.header.Link.{Link}
use Rattle.pim_capture.specs.declared.header.Link.TheVariants.{Ethernet, Raw}
use Rattle.pim_capture.specs.declared.header.Format.{Format}

-- The number in the first `size` bytes, in this byte order.
abbrev pub number : Endianness → ℕ → List ℕ → ℕ
number Big size bytes = big_number size bytes
number Little size bytes = little_number size bytes

-- The magic of a file whose fractions of seconds count microseconds.
abbrev pub microseconds_magic : ℕ
microseconds_magic = 0xa1b2c3d4

-- The magic of a file whose fractions of seconds count nanoseconds.
abbrev pub nanoseconds_magic : ℕ
nanoseconds_magic = 0xa1b23c4d

-- Whether a header begins with one of the two magics in this byte order.
abbrev pub is_magic : Endianness → List ℕ → Bool
is_magic endianness header =
    number endianness 4 header == microseconds_magic || number endianness 4 header == nanoseconds_magic

-- The byte order of all numbers in the file, in which its header begins with a magic.
abbrev pub endianness_of : List ℕ → Endianness
endianness_of header = if is_magic Big header then Big else Little

-- The unit of the fractions of seconds, by the magic.
abbrev pub resolution_of : List ℕ → Resolution
resolution_of header = if number (endianness_of header) 4 header == nanoseconds_magic then Nanoseconds else Microseconds

-- The link type: the low 16 bits of the link word.
abbrev pub link_type : List ℕ → ℕ
link_type header = number (endianness_of header) 4 (drop 20 header) % 2 ^ 16

-- What the captured bytes of a record begin with. `header_faults` refuses link types other than 1
-- (Ethernet) and 101 (raw IP).
abbrev pub link_of : List ℕ → Link
link_of header = if link_type header == 1 then Ethernet else Raw

-- ---- the judgment of a header

-- What is wrong with a header of which at most 24 bytes are given: it isn't whole, the magic, the
-- link type. The first fault counts.
abbrev pub header_faults : List ℕ → List CaptureFault
header_faults header =
    if nat_lt (length header) 24 then fault.Truncated ∷ [] else
    fault_if (not (is_magic Big header) && not (is_magic Little header)) fault.Magic
    ++ fault_if (not (link_type header == 1) && not (link_type header == 101)) fault.LinkType

-- What a header says of the records.
abbrev pub format_of : List ℕ → Format
format_of header =
    record { endianness = endianness_of header; resolution = resolution_of header; link = link_of header }

-- A fault of the bytes, not of the reader or the memory.
abbrev pub IsOfBytes : CaptureFault → Type 0
IsOfBytes fault.Magic = ⊤
IsOfBytes fault.LinkType = ⊤
IsOfBytes fault.Truncated = ⊤
IsOfBytes fault.TooLong = ⊤
IsOfBytes _ = ⊥

-- The format that a file header gives, or its first fault.
abbrev pub judge_header : List ℕ → Result Format CaptureFault
judge_header header = judged (header_faults header) (format_of header)
