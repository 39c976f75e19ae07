-- The law of the definitions of a merge.
use Rattle.std.specs.Prelude.{◌≡◌, ℕ, List, Option}
use Rattle.pim_capture.specs.declared.fault.CaptureFault.{CaptureFault}
use Rattle.pim_capture.specs.Capture.{Answer}
use Rattle.pim_time.specs.declared.reading.Time.{Time}
use Rattle.pim_merge.specs.declared.clock.Clock.{Clock}
use Rattle.pim_merge.specs.Merge.{Taken, IsMerge, IsMergeBy}

-- The clock and the results of the captures determine the records that a merge takes, their moments
-- and how it ends.
abbrev pub MergeHasOneEnd : Type 0
MergeHasOneEnd = (clock : Option Clock) (captures : List (List Answer)) (taken other : List Taken)
    (fault reported : Option (ℕ × CaptureFault)) → IsMerge clock captures taken fault → IsMerge clock captures other reported →
    (taken ≡ other) × (fault ≡ reported)

-- The same for a merge that ends at a time, if there is one.
abbrev pub MergeByHasOneEnd : Type 0
MergeByHasOneEnd = (last : Option Time) (clock : Option Clock) (captures : List (List Answer))
    (taken other : List Taken) (fault reported : Option (ℕ × CaptureFault)) →
    IsMergeBy last clock captures taken fault → IsMergeBy last clock captures other reported →
    (taken ≡ other) × (fault ≡ reported)
