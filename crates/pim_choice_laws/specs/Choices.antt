-- A merge of all records of its captures, and one of the chosen records alone. Neither ends at a
-- time.
use Rattle.std.specs.Prelude.{ℕ, Bool, true, false, not, List, map, filter, Option, None, Some, Ok, Err}
use Rattle.pim_capture.specs.declared.event.Why.TheVariants.{NotChosen, Copy}
use Rattle.pim_capture.specs.declared.fault.CaptureFault.{CaptureFault}
use Rattle.pim_capture.specs.Capture.{EventSeen, skipped, Answer}
use Rattle.pim_merge.specs.declared.clock.Clock.{Clock}
use Rattle.pim_merge.specs.Merge.{Taken, IsMergeBy}

-- The record isn't chosen, or is a copy of one that is.
abbrev pub is_unchosen_event : EventSeen → Bool
is_unchosen_event (skipped millis (NotChosen link)) = true
is_unchosen_event (skipped millis Copy) = true
is_unchosen_event _ = false

-- The result is such a record.
abbrev pub is_unchosen : Answer → Bool
is_unchosen (Ok reported) = is_unchosen_event reported
is_unchosen (Err fault) = false

-- The results of a capture without such records.
abbrev pub only_chosen : List Answer → List Answer
only_chosen answers = filter (λ answer. not (is_unchosen answer)) answers

-- The records that were taken, without such records.
abbrev pub chosen_taken : List Taken → List Taken
chosen_taken taken = filter (λ (it : Taken). not (is_unchosen_event it.reported)) taken

-- Where a merge of all records ends with its captures, so does one of the chosen records alone. It
-- takes the same chosen records in the same order and at the same moments.
abbrev pub ChoicesAreFilters : Type 0
ChoicesAreFilters = (clock : Option Clock) (captures : List (List Answer)) (taken : List Taken) →
    IsMergeBy None clock captures taken None →
    IsMergeBy None clock (map only_chosen captures) (chosen_taken taken) None

-- Where a merge of all records ends in a fault, so does one of the chosen records alone, after the
-- same chosen records at the same moments. Its fault may be one that stands after unchosen records.
abbrev pub BothEndInAFault : Type 0
BothEndInAFault = (clock : Option Clock) (captures : List (List Answer)) (taken : List Taken)
    (fault : ℕ × CaptureFault) → IsMergeBy None clock captures taken (Some fault) →
    (other : ℕ × CaptureFault) × IsMergeBy None clock (map only_chosen captures) (chosen_taken taken) (Some other)
