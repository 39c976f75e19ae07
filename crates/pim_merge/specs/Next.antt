-- What a call of `Merge::next` or `Merge::next_by` returns and leaves.
use Rattle.std.specs.Prelude.{◌≡◌, ◌≤◌, ◌⊎◌, ⊤, ℕ, List, [], ◌∷◌, length, slice_set}
use Rattle.std.specs.Prelude.{Option, None, Some, Result, Ok, Err}
use Rattle.std.specs.List.{AllByRecursion}
use Rattle.pim_capture.specs.declared.fault.CaptureFault.TheVariants as fault
use Rattle.pim_capture.specs.Capture.{EventSeen, Answer, most_captured}
use Rattle.pim_capture.specs.Next.{event_seen, PayloadLiesIn, IsRefusal, CountsReads, OnMemory}
use Rattle.pim_time.specs.declared.reading.Time.{Time}
use Rattle.pim_merge.specs.declared.clock.Clock.{Clock}
use Rattle.pim_merge.specs.declared.merge.Turn.{Turn}
use Rattle.pim_merge.specs.declared.merge.MergeFault.{MergeFault}
use Rattle.pim_merge.specs.Merge.{turn, turn_by, fails, takes, ends, after_turn, clock_after, moment_of, event_time}
use Rattle.pim_merge.specs.Lane.{LaneState, IsComing, lane_at, failures_of, records_to_come}
use Rattle.pim_merge.specs.Lane.{LacksHeadRoom, HadAll, tallies_of}
use Rattle.pim_merge.specs.declared.tally.Tally.{Tally}
use Rattle.pim_merge.specs.Tally.{no_tally, tallies_with, place_next}

-- A merge: its captures, and the clock of the records that were taken.
pub record MergeState : Type 0 where
  pub lanes : List LaneState
  pub clock : Option Clock

-- Nothing was taken of the captures.
abbrev pub IsUntaken : MergeState → Type 0
IsUntaken merge = (merge.clock ≡ None) × AllByRecursion (λ tally. tally ≡ no_tally) (tallies_of merge.lanes)

-- The bytes of the record that was read last of this capture.
abbrev pub bytes_at : ℕ → MergeState → List ℕ
bytes_at number merge = (lane_at number merge.lanes).bytes

-- What the record of a turn holds, with the bytes that the merge keeps for it.
abbrev pub event_at : MergeState → Turn → EventSeen
event_at merge turn = event_seen (bytes_at turn.capture merge) turn.event

-- The lists of results where this fault replaces all that its capture had still to return.
abbrev pub with_fault : MergeFault → List (List Answer) → List (List Answer)
with_fault reported captures = slice_set captures reported.capture (Err reported.fault ∷ [])

-- The result is the next turn of the captures that had these results to return, and they have still
-- to return the rest. A fault is the next turn where it replaces what its capture had to return. So
-- one definition serves faults that the bytes determine and those that they don't.
abbrev pub GivesTurn : List (List Answer) → Result (Option Turn) MergeFault → MergeState → Type 0
GivesTurn captures (Ok None) new = (turn captures ≡ ends) × IsComing new.lanes captures
GivesTurn captures (Ok (Some next)) new =
    (turn captures ≡ takes next.capture (event_at new next)) × IsComing new.lanes (after_turn next.capture captures)
GivesTurn captures (Err reported) new = turn (with_fault reported captures) ≡ fails reported.capture reported.fault

-- The same for a merge that ends at this time, with this clock of the records taken before. A fault
-- that is a head comes before the end.
abbrev pub GivesTurnBy : Option Time → Option Clock → List (List Answer) → Result (Option Turn) MergeFault →
    MergeState → Type 0
GivesTurnBy last clock captures (Ok None) new = (turn_by last clock captures ≡ ends) × IsComing new.lanes captures
GivesTurnBy last clock captures (Ok (Some next)) new =
    (turn_by last clock captures ≡ takes next.capture (event_at new next))
    × IsComing new.lanes (after_turn next.capture captures)
GivesTurnBy last clock captures (Err reported) new = turn (with_fault reported captures) ≡ fails reported.capture reported.fault

-- Why a fault comes: a read of its capture failed in this call, memory was refused, or the fault
-- was all that its capture had to return. The last is said where all bytes are known.
abbrev pub IsCause : List LaneState → List LaneState → MergeFault → Type 0
IsCause old new reported =
    IsRefusal {A = ⊤} (lane_at reported.capture old).failures (lane_at reported.capture new).failures (Err reported.fault)
    ⊎ ((captures : List (List Answer)) → IsComing old captures → with_fault reported captures ≡ captures)

-- Memory is refused only where the head of the fault's capture wasn't read. Its buffer had less
-- room than that record needs; or of any container, a piece up to the record or an interface lacked
-- it, or room is asked for to hold the record as a fragment.
abbrev pub LacksMemory : List LaneState → MergeFault → Type 0
LacksMemory old reported = OnMemory {A = ⊤} (Err reported.fault) (LacksHeadRoom (lane_at reported.capture old))

-- Only the failures of the fault's capture rise, and only for a failed read. `Read` without a
-- failed read means that its capture had all the records that are read of a capture; of any
-- container nothing is said.
abbrev pub CountsFailures : {A : Type 0} → List LaneState → Result A MergeFault → List LaneState → Type 0
CountsFailures old (Ok x) new = failures_of new ≡ failures_of old
CountsFailures old (Err reported) new =
    (failures_of new ≡ slice_set (failures_of old) reported.capture (lane_at reported.capture new).failures)
    × CountsReads {A = ⊤} (HadAll (lane_at reported.capture old))
    (lane_at reported.capture old).failures (lane_at reported.capture new).failures (Err reported.fault)

-- The result is `Failed` of the capture with this number.
abbrev pub IsFailed : {A : Type 0} → ℕ → Result A MergeFault → Type 0
IsFailed number (Ok value) = ⊥
IsFailed number (Err reported) = (reported.capture ≡ number) × (reported.fault ≡ fault.Failed)

-- A turn moves the clock on by its record and has the clock's moment. Other results leave the
-- clock.
abbrev pub KeepsTime : Option Clock → Result (Option Turn) MergeFault → MergeState → Type 0
KeepsTime clock (Ok (Some next)) new =
    (new.clock ≡ clock_after clock (event_time (event_at new next))) × (next.moment ≡ moment_of new.clock)
KeepsTime clock (Ok None) new = new.clock ≡ clock
KeepsTime clock (Err reported) new = new.clock ≡ clock

-- A turn moves on the tally of its capture by its record. Other results leave the tallies.
abbrev pub KeepsTallies : List Tally → Result (Option Turn) MergeFault → MergeState → Type 0
KeepsTallies tallies (Ok (Some next)) new =
    tallies_of new.lanes ≡ tallies_with next.capture (event_at new next) tallies
KeepsTallies tallies (Ok None) new = tallies_of new.lanes ≡ tallies
KeepsTallies tallies (Err reported) new = tallies_of new.lanes ≡ tallies

-- The fault has the place of the record that its capture gives next.
abbrev pub IsNumbered : List Tally → MergeFault → Type 0
IsNumbered tallies reported =
    (reported.file ≡ (place_next reported.capture tallies).file)
    × (reported.«record» ≡ (place_next reported.capture tallies).«record»)

-- The fact holds of the turn, if one was taken.
abbrev pub IfTaken : Result (Option Turn) MergeFault → (Turn → Type 0) → Type 0
IfTaken (Ok (Some next)) P = P next
IfTaken (Ok None) P = ⊤
IfTaken (Err reported) P = ⊤

-- The payload of a packet lies within the bytes that are kept for it, which are no more than a
-- record may have.
abbrev pub HoldsRecord : MergeState → Turn → Type 0
HoldsRecord new next =
    PayloadLiesIn (bytes_at next.capture new) next.event × (length (bytes_at next.capture new) ≤ most_captured)

-- The greatest number of turns that may follow.
abbrev pub turns_left : MergeState → ℕ
turns_left merge = records_to_come merge.lanes
