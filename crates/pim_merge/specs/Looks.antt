-- What reading the head of one capture does; for private functions.
use Rattle.std.specs.Prelude.{◌≡◌, ◌⊎◌, ⊤, List, [], ◌∷◌, Some, Err}
use Rattle.pim_capture.specs.declared.fault.CaptureFault.{CaptureFault}
use Rattle.pim_capture.specs.Capture.{Answer}
use Rattle.pim_capture.specs.Next.{IsRefusal}
use Rattle.pim_merge.specs.Lane.{LaneState, coming_on}

-- The results that the capture has still to return are the same, if they were known.
abbrev pub StillComes : LaneState → LaneState → Type 0
StillComes old new = (answers : List Answer) → coming_on old ≡ Some answers → coming_on new ≡ Some answers

-- A read failed, memory was refused, or the fault was all that the capture had still to return
-- (said where that is known).
abbrev pub IsReadOrRefused : LaneState → LaneState → CaptureFault → Type 0
IsReadOrRefused old new fault = IsRefusal {A = ⊤} old.failures new.failures (Err fault)
    ⊎ ((answers : List Answer) → coming_on old ≡ Some answers → answers ≡ Err fault ∷ [])
