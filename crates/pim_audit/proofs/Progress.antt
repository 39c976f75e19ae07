-- How far captures were read, by a ledger.
use Rattle.std.proofs.Common.{◌≡◌, ◌∙◌, ℕ, Option, None, Some, length, refl, ap}
use Rattle.std.proofs.lemmas.List.{length-set}
use Rattle.pim_capture.specs.declared.incomplete.RecordPlace.{RecordPlace}
use Rattle.pim_merge.specs.Merge.{Taken, event_time}
use Rattle.pim_trace.specs.Ledger.{Ledger, frame_of, frame_after, opened}
use Rattle.pim_audit.specs.Own.{after_own}
use Rattle.pim_audit.specs.Run.{Progress, progress_of, ledger_of, counted}

-- the progress depends on the ledger's alone
pub own_same : (port : ℕ) (own : Option (Option ℕ)) (ledger : Ledger)
    → progress_of (after_own port own ledger) ≡ progress_of (after_own port own (ledger_of (progress_of ledger)))
own_same port None ledger = refl
own_same port (Some generation) ledger = refl

-- no port is lost
pub frames_stay : (port : ℕ) (own : Option (Option ℕ)) (ledger : Ledger) → length (progress_of (after_own port own ledger)).frames ≡ length ledger.frames
frames_stay port None ledger = refl
frames_stay port (Some generation) ledger = refl

pub own_stays : (port : ℕ) (own : Option (Option ℕ)) (ledger : Ledger) → length (progress_of (after_own port own ledger)).own ≡ length ledger.own
own_stays port None ledger = refl
own_stays port (Some generation) ledger = length-set ledger.own port (Some generation)

pub counted_frames : (turn : Taken) (progress : Progress) → length (counted turn progress).frames ≡ length progress.frames
counted_frames turn progress =
    length-set progress.frames turn.capture (frame_after turn.reported (frame_of turn.capture (ledger_of progress)))

-- a record is counted
pub opens : (turn : Taken) (next frame : RecordPlace) (time : Option ℕ) (before after : Ledger) → after ≡ opened turn.capture next time before
    → frame ≡ frame_of turn.capture before → next ≡ frame_after turn.reported frame → time ≡ event_time turn.reported
    → progress_of after ≡ counted turn (progress_of before)
opens turn next frame time before after is frame_is next_is time_is =
    ap progress_of is
    ∙ ap (λ n. progress_of (opened turn.capture n time before)) (next_is ∙ ap (frame_after turn.reported) frame_is)
    ∙ ap (λ t. progress_of (opened turn.capture (frame_after turn.reported (frame_of turn.capture before)) t before)) time_is
