-- How captures are merged by time. A capture is the list of the results that it has still to
-- return, its head first: records, and after the last record its end or a fault.
use Rattle.std.specs.Prelude.{◌≡◌, ℕ, suc, ◌+◌, ◌-◌, max, nat_lt, if◌then◌else◌, Bool, false, List, [], ◌∷◌, map}
use Rattle.std.specs.Prelude.{slice_set, slice_index_or, Option, None, Some, Ok, Err}
use Rattle.pim_time.specs.declared.reading.Time.{Time}
use Rattle.pim_time.specs.declared.reading.Time.TheVariants.{Moment, Epoch}
use Rattle.pim_capture.specs.declared.fault.CaptureFault.{CaptureFault}
use Rattle.pim_capture.specs.declared.event.Why.{Why}
use Rattle.pim_capture.specs.declared.event.Why.TheVariants.{NoTime, NotChosen, Copy, CutShort, NextFile, OfLink, Incomplete}
use Rattle.pim_capture.specs.Capture.{EventSeen, packet, skipped, ended, Answer}
use Rattle.pim_merge.specs.declared.clock.Clock.{Clock}

-- ---- the head of a capture, and the results after it

-- The next result of a capture. An empty list counts as the end.
abbrev pub head_of : List Answer → Answer
head_of [] = Ok ended
head_of (answer ∷ later) = answer

-- The results after the head.
abbrev pub behind_head : List Answer → List Answer
behind_head [] = []
behind_head (answer ∷ later) = later

-- The time of a record that is skipped for this reason, in milliseconds since 1970. One that isn't
-- chosen, and a copy, have none here: a run over chosen records begins and ends with these. What is
-- no record, as the beginning of the next file, has none.
abbrev pub time_by : Why → ℕ → Option ℕ
time_by NoTime millis = None
time_by (NotChosen link) millis = None
time_by Copy millis = None
time_by CutShort millis = None
time_by NextFile millis = None
time_by (OfLink link) millis = None
time_by (Incomplete packets) millis = None
time_by _ millis = Some millis

-- The time of a record, in milliseconds since 1970. The end, and a record without a time, have
-- none.
abbrev pub event_time : EventSeen → Option ℕ
event_time (packet millis frame datagram) = Some millis
event_time (skipped millis why) = time_by why millis
event_time ended = None

-- ---- the moments of records

-- The clock after a record of this time. The first record sets the moment 0, and the others count
-- from it. A time that runs back leaves the moment.
abbrev pub clock_by : Option Clock → ℕ → Clock
clock_by None time = record { begin = time; moment = 0 }
clock_by (Some clock) time = record { begin = clock.begin; moment = max clock.moment (time - clock.begin) }

-- The clock after a result of this time. One without a time leaves it, so its moment is that of the
-- record before it.
abbrev pub clock_after : Option Clock → Option ℕ → Option Clock
clock_after clock None = clock
clock_after clock (Some time) = Some (clock_by clock time)

-- The moment of a clock, in milliseconds since the first record; 0 before the first record.
abbrev pub moment_of : Option Clock → ℕ
moment_of None = 0
moment_of (Some clock) = clock.moment

-- ---- a time at which a merge ends

-- Whether the moment of the clock is later than this time, if there is one. An epoch time counts
-- from 1970, so it is compared with the time of the first record and the moment together.
abbrev pub is_past : Option Time → Option Clock → Bool
is_past None clock = false
is_past (Some last) None = false
is_past (Some (Moment last)) (Some clock) = nat_lt last clock.moment
is_past (Some (Epoch last)) (Some clock) = nat_lt last (clock.begin + clock.moment)

-- ---- the rank by which a record is taken

-- Whether a record of this time is later than the end, in a merge with this clock that ends at the
-- time `last`, if there is one.
abbrev pub past_at : Option Time → Option Clock → ℕ → Bool
past_at last clock millis = is_past last (Some (clock_by clock millis))

-- No record is.
abbrev pub never : ℕ → Bool
never millis = false

-- The rank of a record that isn't chosen, where `past` says which times are later than the end. It
-- comes before all others, so it moves no order. One that is later isn't taken, and nothing after it
-- in its capture is.
abbrev pub unchosen_rank : (ℕ → Bool) → ℕ → Option ℕ
unchosen_rank past millis = if past millis then None else Some 0

-- The rank of a record that is skipped for this reason.
abbrev pub skipped_rank : (ℕ → Bool) → Why → ℕ → Option ℕ
skipped_rank past (NotChosen link) millis = unchosen_rank past millis
skipped_rank past Copy millis = unchosen_rank past millis
skipped_rank past why millis = Some (suc millis)

-- The rank of a record: one more than its time. A record without a time has the time 0, so it comes
-- before all others that are heads and chosen. The end has none.
abbrev pub event_rank : (ℕ → Bool) → EventSeen → Option ℕ
event_rank past (packet millis frame datagram) = Some (suc millis)
event_rank past (skipped millis why) = skipped_rank past why millis
event_rank past ended = None

-- The rank of a result. A fault has none.
abbrev pub rank_of : (ℕ → Bool) → Answer → Option ℕ
rank_of past (Ok reported) = event_rank past reported
rank_of past (Err fault) = None

-- ---- the first fault among heads, with the number of its capture

-- The fault of this result with the number of its capture, or else the fault of a later capture.
abbrev pub or_fault : ℕ → Answer → Option (ℕ × CaptureFault) → Option (ℕ × CaptureFault)
or_fault number (Ok reported) later = later
or_fault number (Err fault) later = Some (number, fault)

-- The first fault among these heads, with the number of its capture. The first head has this
-- number.
unfoldable pub fault_from : ℕ → List Answer → Option (ℕ × CaptureFault)
fault_from number [] = None
fault_from number (answer ∷ answers) = or_fault number answer (fault_from (suc number) answers)

-- ---- the head that is taken first, with the number of its capture

-- The lesser of two numbered times; of equal times the first.
abbrev pub sooner : Option (ℕ × ℕ) → Option (ℕ × ℕ) → Option (ℕ × ℕ)
sooner None other = other
sooner (Some one) None = Some one
sooner (Some one) (Some other) = if nat_lt other.1 one.1 then Some other else Some one

-- A time with the number of its capture.
abbrev pub numbered : ℕ → Option ℕ → Option (ℕ × ℕ)
numbered number None = None
numbered number (Some time) = Some (number, time)

-- The first of the least ranks, with the number of its capture. The first rank has this number.
unfoldable pub earliest_from : ℕ → List (Option ℕ) → Option (ℕ × ℕ)
earliest_from number [] = None
earliest_from number (time ∷ times) = sooner (numbered number time) (earliest_from (suc number) times)

-- ---- a turn

-- A turn: a head is a fault and the merge fails; a record is taken; or all captures are at their
-- ends.
pub data Outcome : Type 0 where
  fails : ℕ → CaptureFault → Outcome
  takes : ℕ → EventSeen → Outcome
  ends : Outcome

-- The turn that takes this head of a capture.
abbrev pub taken : ℕ → Answer → Outcome
taken number (Ok reported) = takes number reported
taken number (Err fault) = fails number fault

-- The turn that takes the head of the capture with this number. Without a number all captures are
-- at their ends.
abbrev pub turn_at : List (List Answer) → Option (ℕ × ℕ) → Outcome
turn_at captures None = ends
turn_at captures (Some (number, time)) = taken number (head_of (slice_index_or captures number []))

-- The turn that fails with this fault. Without a fault it takes the first head of least rank.
abbrev pub turn_or : (Answer → Option ℕ) → List (List Answer) → Option (ℕ × CaptureFault) → Outcome
turn_or rank captures (Some (number, fault)) = fails number fault
turn_or rank captures None = turn_at captures (earliest_from 0 (map (λ capture. rank (head_of capture)) captures))

-- The next turn of captures whose results have these ranks. A head that is a fault comes before all
-- records; of several faults the one of the first capture counts.
unfoldable pub turn_ranked : (Answer → Option ℕ) → List (List Answer) → Outcome
turn_ranked rank captures = turn_or rank captures (fault_from 0 (map head_of captures))

-- The next turn of captures in a merge that doesn't end before them.
abbrev pub turn : List (List Answer) → Outcome
turn captures = turn_ranked (rank_of never) captures

-- The captures after a turn that took the head of the one with this number.
abbrev pub after_turn : ℕ → List (List Answer) → List (List Answer)
after_turn number captures = slice_set captures number (behind_head (slice_index_or captures number []))

-- The turn of a merge that ends at this time: a record with a later moment isn't taken, and the
-- merge is at its end. Without a time it is the turn itself.
abbrev pub until : Option Time → Option Clock → Outcome → Outcome
until None clock outcome = outcome
until (Some last) clock (takes number reported) =
    if is_past (Some last) (clock_after clock (event_time reported)) then ends else takes number reported
until (Some last) clock (fails number fault) = fails number fault
until (Some last) clock ends = ends

-- The next turn of captures, if the merge ends at this time. The clock is that of the records which
-- were taken before.
abbrev pub turn_by : Option Time → Option Clock → List (List Answer) → Outcome
turn_by last clock captures = until last clock (turn_ranked (rank_of (past_at last clock)) captures)

-- The moment of this time, in milliseconds since the first record, where the clock is that of the
-- records which were taken. It is 0 for an epoch time if none was taken.
abbrev pub moment_at : Time → Option Clock → ℕ
moment_at (Moment last) clock = last
moment_at (Epoch last) None = 0
moment_at (Epoch last) (Some clock) = last - clock.begin

-- ---- the whole merge

-- A record that was taken: the number of its capture, its moment in milliseconds since the first
-- record, and what it holds.
pub record Taken : Type 0 where
  pub capture : ℕ
  pub moment : ℕ
  pub reported : EventSeen

-- The last turn of a merge: this fault of a capture, or the end of all captures.
abbrev pub ending : Option (ℕ × CaptureFault) → Outcome
ending None = ends
ending (Some (number, fault)) = fails number fault

-- The merge takes exactly these records in this order, and then ends with this fault of a capture,
-- or at the end of all captures. The clock is that of the records which were taken before.
unfoldable pub IsMerge : Option Clock → List (List Answer) → List Taken → Option (ℕ × CaptureFault) → Type 0
IsMerge clock captures [] fault = turn captures ≡ ending fault
IsMerge clock captures (first ∷ others) fault =
    (turn captures ≡ takes first.capture first.reported)
    × (first.moment ≡ moment_of (clock_after clock (event_time first.reported)))
    × IsMerge (clock_after clock (event_time first.reported)) (after_turn first.capture captures) others fault

-- The same for a merge that ends at the time `last`, if there is one.
unfoldable pub IsMergeBy : Option Time → Option Clock → List (List Answer) → List Taken → Option (ℕ × CaptureFault) →
    Type 0
IsMergeBy last clock captures [] fault = turn_by last clock captures ≡ ending fault
IsMergeBy last clock captures (first ∷ others) fault =
    (turn_by last clock captures ≡ takes first.capture first.reported)
    × (first.moment ≡ moment_of (clock_after clock (event_time first.reported)))
    × IsMergeBy last (clock_after clock (event_time first.reported)) (after_turn first.capture captures) others fault
