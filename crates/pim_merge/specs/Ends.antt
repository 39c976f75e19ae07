-- The end of a router's run over its captures, and the turns of their merge up to it.
use Rattle.std.specs.Prelude.{◌≡◌, ⊤, ℕ, ◌+◌, ◌≤◌, ◌<◌, ◌^◌, List, [], ◌∷◌, Option, None, Some}
use Rattle.pim_time.specs.declared.reading.Time.{Time}
use Rattle.pim_time.specs.Text.{millis_of}
use Rattle.pim_capture.specs.declared.fault.CaptureFault.{CaptureFault}
use Rattle.pim_capture.specs.Capture.{Answer}
use Rattle.pim_merge.specs.declared.clock.Clock.{Clock}
use Rattle.pim_merge.specs.declared.end.End.{End}
use Rattle.pim_merge.specs.declared.end.End.TheVariants.{After, At}
use Rattle.pim_merge.specs.declared.merge.MergeFault.{MergeFault}
use Rattle.pim_merge.specs.Merge.{Taken, IsMergeBy, turn, turn_by, takes, fails, after_turn, clock_after, moment_of}
use Rattle.pim_merge.specs.Merge.{moment_at, event_time}
use Rattle.pim_merge.specs.Lane.{IsComing}
use Rattle.pim_merge.specs.Next.{MergeState, with_fault}

-- ---- the end of a run

-- The time after which no record is taken, if there is one.
abbrev pub last_of : End → Option Time
last_of (After after_ms) = None
last_of (At time) = Some time

-- The moment to which the router runs at the end, where the clock is that of the records that were
-- taken: so long after the router's own moment, or that of the time.
abbrev pub end_moment : End → Option Clock → ℕ → ℕ
end_moment (After after_ms) clock moment = moment + after_ms
end_moment (At time) clock moment = moment_at time clock

-- The clock after these records.
unfoldable pub clock_of : Option Clock → List Taken → Option Clock
clock_of clock [] = clock
clock_of clock (first ∷ others) = clock_of (clock_after clock (event_time first.reported)) others

-- The run ends at most 10^9 milliseconds after the last record, or at a time below 10^15
-- milliseconds.
abbrev pub IsBoundedEnd : End → Type 0
IsBoundedEnd (After after_ms) = after_ms ≤ 1000000000
IsBoundedEnd (At time) = millis_of time < 10 ^ 15

-- ---- the turns of a merge

-- A merge that ends at the time `last`, if there is one, takes exactly these records first, in this
-- order. Its clock is then `clock'`, and `rest` is what the captures still have to give.
unfoldable pub Takes : Option Time → Option Clock → List (List Answer) → List Taken → Option Clock →
    List (List Answer) → Type 0
Takes last clock captures [] clock' rest = (clock' ≡ clock) × (rest ≡ captures)
Takes last clock captures (first ∷ others) clock' rest =
    (turn_by last clock captures ≡ takes first.capture first.reported)
    × (first.moment ≡ moment_of (clock_after clock (event_time first.reported)))
    × Takes last (clock_after clock (event_time first.reported)) (after_turn first.capture captures) others clock' rest

-- ---- the turns, for all answers that the captures can still give

-- These are all turns of the merge up to the end of the run. It ends with this fault of this
-- capture, or without a fault if there is none.
abbrev pub AreAll : End → MergeState → Option (ℕ × CaptureFault) → List Taken → Type 0
AreAll end merge fault taken = (captures : List (List Answer)) → IsComing merge.lanes captures →
    IsMergeBy (last_of end) merge.clock captures taken fault

-- A merge that ends at the time `last`, if there is one, takes these records first, and `IsRest`
-- holds for what the captures then have left.
pub record GoesOn (last : Option Time) (clock : Option Clock) (captures : List (List Answer)) (taken : List Taken)
    (IsRest : List (List Answer) → Type 0) : Type 0 where
  pub clock_then : Option Clock
  pub rest : List (List Answer)
  pub takes_them : Takes last clock captures taken clock_then rest
  pub is_rest : IsRest rest

-- These are some first turns of the merge, of those up to the end of the run.
abbrev pub AreFirst : End → MergeState → List Taken → Type 0
AreFirst end merge taken = (captures : List (List Answer)) → IsComing merge.lanes captures →
    GoesOn (last_of end) merge.clock captures taken (λ rest. ⊤)

-- These are the turns of the merge before a fault, which comes before the end of the run. The bytes
-- of a capture don't say when its reader fails. So the fault takes the place of everything that its
-- capture has left.
abbrev pub AreBefore : End → MergeState → MergeFault → List Taken → Type 0
AreBefore end merge reported taken = (captures : List (List Answer)) → IsComing merge.lanes captures →
    GoesOn (last_of end) merge.clock captures taken
    (λ rest. turn (with_fault reported rest) ≡ fails reported.capture reported.fault)
