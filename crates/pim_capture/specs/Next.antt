-- What a call of `Capture::next` returns, what the capture has still to return after it, and what
-- it does to the reader and the buffer.
use Rattle.std.specs.Prelude.{◌≡◌, ◌+◌, ◌<◌, ◌≤◌, ◌==◌, ◌||◌, nat_lt, min, ℕ, List, [], ◌∷◌, length, take, drop, Option}
use Rattle.std.specs.Prelude.{Some, None, Result, Ok, Err, IsSomeAnd, ⊤, ◌⊎◌, if◌then◌else◌}
use Rattle.std.specs.Option.{option_map}
use Rattle.pim_device.specs.Device.{FailedIn, top_count}
use Rattle.pim_capture.specs.declared.fault.CaptureFault.{CaptureFault}
use Rattle.pim_capture.specs.declared.fault.CaptureFault.TheVariants as fault
use Rattle.pim_capture.specs.declared.header.Format.{Format}
use Rattle.pim_capture.specs.declared.event.Event.{Event}
use Rattle.pim_capture.specs.declared.event.Event.TheVariants.{Packet, Skipped, End}
use Rattle.pim_capture.specs.declared.capture.CaptureState.{CaptureState}
use Rattle.pim_capture.specs.declared.capture.CaptureState.TheVariants.{Unbegun, Records, Ended, Failed}
use Rattle.pim_capture.specs.declared.capture.Capture.{Capture}
use Rattle.pim_capture.specs.Seen.{ip_seen, LiesIn}
use Rattle.pim_capture.specs.Header.{judge_header}
use Rattle.pim_capture.specs.Capture.{EventSeen, packet, skipped, ended, Answer, most_captured, most_records}
use Rattle.pim_capture.specs.Capture.{captured_length, answers, records}

-- ---- a result, with the bytes in the buffer

-- What an event means if the buffer holds these bytes.
abbrev pub event_seen : List ℕ → Event → EventSeen
event_seen bytes (Packet millis ip) = packet millis bytes (ip_seen bytes ip)
event_seen bytes (Skipped millis why) = skipped millis why
event_seen bytes End = ended

-- What the result of a call means if the buffer holds these bytes.
abbrev pub seen : List ℕ → Result Event CaptureFault → Answer
seen bytes (Ok event) = Ok (event_seen bytes event)
seen bytes (Err fault) = Err fault

-- The payload of a packet lies within these bytes.
abbrev pub PayloadLiesIn : List ℕ → Event → Type 0
PayloadLiesIn bytes (Packet millis ip) = LiesIn bytes ip
PayloadLiesIn bytes (Skipped millis why) = ⊤
PayloadLiesIn bytes End = ⊤

-- ---- the results to come, where the bytes of the reader are known

-- The results that a capture in this state has still to return, if the remaining bytes of its
-- reader are known.
abbrev pub coming_in : CaptureState → Option (List ℕ) → Option (List Answer)
coming_in Unbegun bytes = option_map answers bytes
coming_in (Records format left) bytes = option_map (records left format) bytes
coming_in Ended bytes = Some (Ok ended ∷ [])
coming_in Failed bytes = Some (Err fault.Failed ∷ [])

-- The reader of a capture.
abbrev pub reader_of : {R : Type 0} → Capture R → R
reader_of capture = capture.reader

-- How far a capture was read.
abbrev pub state_of : {R : Type 0} → Capture R → CaptureState
state_of capture = capture.state

-- The results that a capture has still to return, or `None` if the bytes of its reader aren't
-- known.
abbrev pub coming : {R : Type 0} → (R → Option (List ℕ)) → Capture R → Option (List Answer)
coming remaining capture = coming_in capture.state (remaining capture.reader)

-- This result and the later ones. No results follow the end or a fault.
abbrev pub in_front : Answer → List Answer → List Answer
in_front (Ok (packet millis frame datagram)) later = Ok (packet millis frame datagram) ∷ later
in_front (Ok (skipped millis why)) later = Ok (skipped millis why) ∷ later
in_front (Ok ended) later = Ok ended ∷ []
in_front (Err fault) later = Err fault ∷ []

-- The result was the first of those to come, and the others are still to come. It says nothing if
-- the bytes weren't known.
abbrev pub IsNext : Option (List Answer) → Answer → Option (List Answer) → Type 0
IsNext None answer later = ⊤
IsNext (Some all) answer None = ⊥
IsNext (Some all) answer (Some later) = all ≡ in_front answer later

-- A result that the bytes don't determine: a read failed in this call, or memory was refused.
abbrev pub IsRefusal : {A : Type 0} → ℕ → ℕ → Result A CaptureFault → Type 0
IsRefusal failures failures' (Ok reported) = ⊥
IsRefusal failures failures' (Err fault.Read) = FailedIn failures failures'
IsRefusal failures failures' (Err fault.Memory) = ⊤
IsRefusal failures failures' (Err _) = ⊥

-- The reader's count of failures rises by one, up to its top, where the call returns `Read` for a
-- failed read, and stays otherwise. `Read` without a failed read has the cause `other`.
abbrev pub CountsReads : {A : Type 0} → Type 0 → ℕ → ℕ → Result A CaptureFault → Type 0
CountsReads other failures failures' (Err fault.Read) =
    (failures' ≡ min (failures + 1) top_count) ⊎ (other × (failures' ≡ failures))
CountsReads other failures failures' _ = failures' ≡ failures

-- The fact holds if the result is `Memory`.
abbrev pub OnMemory : {A : Type 0} → Result A CaptureFault → Type 0 → Type 0
OnMemory (Err fault.Memory) fact = fact
OnMemory _ fact = ⊤

-- ---- the times of records

-- The latest time that a record can have, in milliseconds since 1970: its seconds and its fraction
-- have 32 bits each.
abbrev pub latest_moment : ℕ
latest_moment = 4294971589967

-- The time of a record is at most `moment`.
abbrev pub IsBy : ℕ → Event → Type 0
IsBy moment (Packet millis ip) = millis ≤ moment
IsBy moment (Skipped millis why) = millis ≤ moment
IsBy moment End = ⊤

-- ---- the room for a record's bytes

-- The captured length of the next record, if one more may be read, its header is whole and the
-- length is within the limit.
abbrev pub stated_length : ℕ → Format → List ℕ → Option ℕ
stated_length left format bytes =
    if left == 0 || nat_lt (length bytes) 16 || nat_lt most_captured (captured_length format (take 16 bytes)) then None
    else Some (captured_length format (take 16 bytes))

-- The captured length of the first record after this file header.
abbrev pub first_length : Result Format CaptureFault → List ℕ → Option ℕ
first_length (Ok format) bytes = stated_length most_records format bytes
first_length (Err fault) bytes = None

-- The captured length of the next record of a capture in this state.
abbrev pub length_in : CaptureState → List ℕ → Option ℕ
length_in Unbegun bytes = first_length (judge_header (take 24 bytes)) (drop 24 bytes)
length_in (Records format left) bytes = stated_length left format bytes
length_in Ended bytes = None
length_in Failed bytes = None

-- The captured length of the next record, if the bytes of the reader are known.
abbrev pub next_length : {R : Type 0} → (R → Option (List ℕ)) → Capture R → Option (Option ℕ)
next_length remaining capture = option_map (length_in capture.state) (remaining capture.reader)

-- The next record is longer than this capacity. If the bytes aren't known, the capacity is below
-- the limit.
abbrev pub LacksRoom : ℕ → Option (Option ℕ) → Type 0
LacksRoom capacity None = capacity < most_captured
LacksRoom capacity (Some size) = IsSomeAnd size (λ length. capacity < length)

-- The next record has this length. If the bytes aren't known, the length is within the limit.
abbrev pub HasLength : ℕ → Option (Option ℕ) → Type 0
HasLength length None = length ≤ most_captured
HasLength length (Some size) = size ≡ Some length

-- After a record the buffer has its length, and after the end the old length. After a fault it has
-- either.
abbrev pub FitsRecord : Result Event CaptureFault → ℕ → ℕ → Option (Option ℕ) → Type 0
FitsRecord (Ok (Packet millis ip)) old new size = HasLength new size
FitsRecord (Ok (Skipped millis why)) old new size = HasLength new size
FitsRecord (Ok End) old new size = new ≡ old
FitsRecord (Err fault) old new size = (new ≡ old) ⊎ HasLength new size

-- ---- how much is read

-- The number of records that may still be read of a capture in this state.
abbrev pub records_left : CaptureState → ℕ
records_left Unbegun = most_records
records_left (Records format left) = left
records_left Ended = 0
records_left Failed = 0

-- Each record that is returned reduces the number that may still be read by one.
abbrev pub CountsRecord : Result Event CaptureFault → ℕ → ℕ → Type 0
CountsRecord (Ok (Packet millis ip)) left left' = left ≡ left' + 1
CountsRecord (Ok (Skipped millis why)) left left' = left ≡ left' + 1
CountsRecord (Ok End) left left' = ⊤
CountsRecord (Err fault) left left' = ⊤

-- The most bytes that a call takes from the reader: the headers and one record. After `TooLong` it
-- took none of the record's bytes.
abbrev pub most_taken : {A : Type 0} → ℕ → Result A CaptureFault → ℕ
most_taken headers (Ok x) = headers + most_captured
most_taken headers (Err fault.TooLong) = headers
most_taken headers (Err _) = headers + most_captured

-- ---- after the last result

-- After the end a call returns the end, and after a fault it returns `Failed`.
abbrev pub IsRepeated : CaptureState → Result Event CaptureFault → Type 0
IsRepeated Ended answer = answer ≡ Ok End
IsRepeated Failed answer = answer ≡ Err fault.Failed
IsRepeated _ answer = ⊤

-- The end leaves the capture ended, and a fault leaves it failed.
abbrev pub StaysOver : Result Event CaptureFault → CaptureState → Type 0
StaysOver (Ok End) state = state ≡ Ended
StaysOver (Err fault) state = state ≡ Failed
StaysOver (Ok _) state = ⊤
