-- A classic file of one link gives the same records, whether `add` or `add_any` appends it.
use Rattle.std.specs.Prelude.{◌≡◌, ℕ, Bool, true, false, List, [], ◌∷◌, map, take, drop, Option, None, Ok, Err, ⊤}
use Rattle.std.specs.List.{list_any, AllByRecursion}
use Rattle.pim_addr.specs.declared.family.AddressFamily.{AddressFamily}
use Rattle.pim_capture.specs.declared.event.Why.TheVariants.{CutShort}
use Rattle.pim_capture.specs.declared.fault.CaptureFault.{CaptureFault}
use Rattle.pim_capture.specs.declared.fault.CaptureFault.TheVariants as fault
use Rattle.pim_capture.specs.declared.header.Format.{Format}
use Rattle.pim_capture.specs.declared.vlan.Vlan.{Vlan}
use Rattle.pim_capture.specs.Capture.{EventSeen, packet, skipped, ended, Answer, answers, most_records}
use Rattle.pim_capture.specs.Header.{judge_header}
use Rattle.pim_capture.specs.Next.{in_front}
use Rattle.pim_container.specs.declared.choice.Choice.{Choice}
use Rattle.pim_container.specs.Agreement.{has_plain_frames}
use Rattle.pim_container.specs.Block.{is_section}
use Rattle.pim_container.specs.EventSeen as any
use Rattle.pim_container.specs.Pieces as pieces
use Rattle.pim_time.specs.declared.reading.Time.{Time}
use Rattle.pim_merge.specs.declared.clock.Clock.{Clock}
use Rattle.pim_merge.specs.Chosen.{answers_by}
use Rattle.pim_merge.specs.Content.{content_in}
use Rattle.pim_merge.specs.Merge.{Taken, IsMergeBy, event_time}

-- The choice of each packet.
abbrev pub no_choice : Choice
no_choice = record { vlan = None; interface = None; mixes_links = false }

-- The result has this VLAN, if it is a packet.
abbrev pub IsOfVlan : Vlan → pieces.Answer → Type 0
IsOfVlan vlan (Ok (any.packet millis origin datagram)) = origin.vlan ≡ vlan
IsOfVlan vlan _ = ⊤

-- What any container gives for this record of a classic capture. It keeps the message of a packet,
-- and not all bytes of the record.
abbrev pub event_as_any : EventSeen → EventSeen
event_as_any (packet millis frame datagram) = packet millis datagram.payload datagram
event_as_any reported = reported

-- The same for a result. A record inside which the file ends is skipped, and is no fault.
abbrev pub as_any : Answer → Answer
as_any (Ok reported) = Ok (event_as_any reported)
as_any (Err fault.Truncated) = Ok (skipped 0 CutShort)
as_any (Err fault) = Err fault

-- The same for all of its results. The end follows a record inside which the file ends.
unfoldable pub all_as_any : List Answer → List Answer
all_as_any [] = Ok ended ∷ []
all_as_any (answer ∷ later) = in_front (as_any answer) (all_as_any later)

-- So it is for a classic file whose header `add` accepts, in which no frame has another tag than
-- one of 802.1Q, and all packets have the same VLAN. A VLAN of two zeros is none.
abbrev pub OneLinkIsReadAlike : Type 0
OneLinkIsReadAlike = (bytes : List ℕ) (format : Format) (vlan : Vlan) → is_section bytes ≡ false
    → judge_header (take 24 bytes) ≡ Ok format
    → has_plain_frames most_records format (drop 24 bytes) ≡ true
    → AllByRecursion (IsOfVlan vlan) (pieces.answers bytes)
    → answers_by no_choice bytes ≡ all_as_any (answers bytes)

-- ---- the merge of such captures

-- The file ends inside a record.
abbrev pub is_truncated : Answer → Bool
is_truncated (Err fault.Truncated) = true
is_truncated _ = false

-- No result of the capture says that its file ends inside a record.
abbrev pub IsWhole : List Answer → Type 0
IsWhole capture = list_any is_truncated capture ≡ false

-- A record that was taken, as any container gives it.
abbrev pub taken_as_any : Taken → Taken
taken_as_any taken = record { capture = taken.capture; moment = taken.moment; reported = event_as_any taken.reported }

-- A merge of what any container gives for classic captures takes the same records at the same
-- moments as a merge of these captures, and ends in the same way. None of their files ends inside a
-- record.
abbrev pub MergesAlike : Type 0
MergesAlike = (last : Option Time) (clock : Option Clock) (captures : List (List Answer)) (taken : List Taken)
    (fault : Option (ℕ × CaptureFault)) → AllByRecursion IsWhole captures →
    IsMergeBy last clock captures taken fault →
    IsMergeBy last clock (map all_as_any captures) (map taken_as_any taken) fault

-- Such a record has the same content for a router, and the same time.
abbrev pub RecordsHoldAlike : Type 0
RecordsHoldAlike = (family : AddressFamily) (reported : EventSeen) →
    (content_in family (event_as_any reported) ≡ content_in family reported) × (event_time (event_as_any reported) ≡ event_time reported)
