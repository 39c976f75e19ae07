-- The results of a capture as a function of the bytes of its file: a list whose last item is the
-- end or a fault. Restates the file header and the packet records of the classic pcap file format.
use Rattle.std.specs.Prelude.{ℕ, zero, suc, ◌+◌, ◌*◌, ◌/◌, Bool, true, false, List, [], ◌∷◌, ◌++◌, length, take, drop}
use Rattle.std.specs.Prelude.{nat_lt, Result, Ok, Err, if◌then◌else◌}
use Rattle.pim_addr.specs.Faults.{fault_if, judged}
use Rattle.pim_capture.specs.declared.event.Why.{Why}
use Rattle.pim_capture.specs.declared.fault.CaptureFault.{CaptureFault}
use Rattle.pim_capture.specs.declared.fault.CaptureFault.TheVariants.{Truncated, TooLong, Read}
use Rattle.pim_capture.specs.declared.header.Resolution.{Resolution}
use Rattle.pim_capture.specs.declared.header.Resolution.TheVariants.{Microseconds, Nanoseconds}
use Rattle.pim_capture.specs.declared.header.Format.{Format}
use Rattle.pim_capture.specs.Header.{number, judge_header}
use Rattle.pim_capture.specs.Frame.{Datagram, judge_frame}

-- What a capture returns: a PIM packet, with its time in milliseconds since 1970, the bytes of its
-- record and what they carry; a record without a whole PIM packet, with its time and the reason; or
-- the end.
pub data EventSeen : Type 0 where
  packet : ℕ → List ℕ → Datagram → EventSeen
  skipped : ℕ → Why → EventSeen
  ended : EventSeen

-- ---- a record: seconds, fraction, captured length and original length (ignored), four bytes each;
-- then its captured bytes

-- The greatest captured length of a record that is accepted, in bytes.
abbrev pub most_captured : ℕ
most_captured = 262144

-- The greatest number of records that are read of a capture.
abbrev pub most_records : ℕ
most_records = 4294967295

-- The number of units of a fraction that make one millisecond.
abbrev pub per_millisecond : Resolution → ℕ
per_millisecond Microseconds = 1000
per_millisecond Nanoseconds = 1000000

-- The time in a record's header, in milliseconds since 1970, rounded down.
abbrev pub millis_of : Format → List ℕ → ℕ
millis_of format header =
    number format.endianness 4 header * 1000
    + number format.endianness 4 (drop 4 header) / per_millisecond format.resolution

-- The captured length in a record's header, in bytes.
abbrev pub captured_length : Format → List ℕ → ℕ
captured_length format header = number format.endianness 4 (drop 8 header)

-- The captured bytes of the first record.
abbrev pub frame_of : Format → List ℕ → List ℕ
frame_of format bytes = take (captured_length format (take 16 bytes)) (drop 16 bytes)

-- The bytes after the first record.
abbrev pub after_record : Format → List ℕ → List ℕ
after_record format bytes = drop (captured_length format (take 16 bytes)) (drop 16 bytes)

-- What is wrong with the first record: its header isn't whole; its captured length is above the
-- limit; or its bytes aren't whole. The first fault counts.
abbrev pub record_faults : Format → List ℕ → List CaptureFault
record_faults format bytes =
    if nat_lt (length bytes) 16 then Truncated ∷ [] else
    fault_if (nat_lt most_captured (captured_length format (take 16 bytes))) TooLong
    ++ fault_if (nat_lt (length (drop 16 bytes)) (captured_length format (take 16 bytes))) Truncated

-- What a record of this time and these bytes gives, by the judgment of its frame.
abbrev pub event_by : ℕ → List ℕ → Result Datagram Why → EventSeen
event_by millis frame (Ok datagram) = packet millis frame datagram
event_by millis frame (Err why) = skipped millis why

-- What the first record gives if it has no fault.
abbrev pub record_event : Format → List ℕ → EventSeen
record_event format bytes =
    event_by (millis_of format (take 16 bytes)) (frame_of format bytes) (judge_frame format.link (frame_of format bytes))

-- ---- the file

-- One result of a capture.
abbrev pub Answer : Type 0
Answer = Result EventSeen CaptureFault

-- The results that follow from a value. A fault is the last result.
abbrev pub unless_fault : {A : Type 0} → Result A CaptureFault → (A → List Answer) → List Answer
unless_fault (Ok value) answers = answers value
unless_fault (Err fault) answers = Err fault ∷ []

-- Whether no bytes are left.
abbrev pub is_empty : List ℕ → Bool
is_empty [] = true
is_empty (byte ∷ bytes) = false

-- The results for the bytes after the file header, where at most `left` more records may be read. A
-- record beyond that counts as a failed read.
unfoldable pub records : ℕ → Format → List ℕ → List Answer
records zero format bytes = (if is_empty bytes then Ok ended else Err Read) ∷ []
records (suc left) format bytes =
    if is_empty bytes then Ok ended ∷ [] else
    unless_fault (judged (record_faults format bytes) (record_event format bytes))
    (λ reported. Ok reported ∷ records left format (after_record format bytes))

-- The results for the bytes of a file: its records after the file header, or the fault of the
-- header.
abbrev pub answers : List ℕ → List Answer
answers bytes = unless_fault (judge_header (take 24 bytes)) (λ format. records most_records format (drop 24 bytes))
