-- The results of a lane that reads any container in one or several files, as a function of the
-- results of the container (`pim_container`) and of a choice of records. They are those of a
-- classic capture in kind.
use Rattle.std.specs.Prelude.{ℕ, Bool, true, false, List, [], ◌∷◌, Option, None, Some, Ok, Err, if◌then◌else◌}
use Rattle.std.specs.Prelude.{min, sum_by}
use Rattle.std.specs.Option.{option_map}
use Rattle.pim_capture.specs.declared.fault.CaptureFault.{CaptureFault}
use Rattle.pim_capture.specs.declared.fault.CaptureFault.TheVariants as fault
use Rattle.pim_capture.specs.declared.event.Why.TheVariants.{CutShort, NextFile}
use Rattle.pim_capture.specs.Capture.{EventSeen, skipped, ended, Answer}
use Rattle.pim_capture.specs.Next.{in_front}
use Rattle.pim_device.specs.Device.{top_count}
use Rattle.pim_container.specs.declared.fault.ContainerFault.{ContainerFault}
use Rattle.pim_container.specs.declared.fault.ContainerFault.TheVariants as of_any
use Rattle.pim_container.specs.declared.choice.Choice.{Choice}
use Rattle.pim_container.specs.Pieces as pieces
use Rattle.pim_merge.specs.Taker.{TakerState, taker_of, event_given, state_after, in_next_file, report_of, reported}

-- A fault of a container, as one of a capture.
abbrev pub fault_of : ContainerFault → CaptureFault
fault_of of_any.Magic = fault.Magic
fault_of of_any.Gzip = fault.Gzip
fault_of (of_any.LinkType number) = fault.LinkNumber number
fault_of of_any.Truncated = fault.Truncated
fault_of of_any.TooLong = fault.TooLong
fault_of of_any.Block = fault.Block
fault_of of_any.Time = fault.Time
fault_of of_any.Read = fault.Read
fault_of of_any.Memory = fault.Memory
fault_of of_any.Failed = fault.Failed

-- The file ends inside a piece, and that is not the first one of the first file: `begun` says whether
-- one was read. So a further file may be empty, as the last of a ring is whose writer was stopped.
abbrev pub is_cut : Bool → ContainerFault → Bool
is_cut begun of_any.Truncated = begun
is_cut begun _ = false

-- What a fault gives. A piece inside which the file ends is a record that is skipped, with 0 in
-- place of its time.
abbrev pub fault_given : Bool → ContainerFault → Answer
fault_given begun fault = if is_cut begun fault then Ok (skipped 0 CutShort) else Err (fault_of fault)

-- What a result of the container gives.
abbrev pub given : Bool → TakerState → pieces.Answer → Option Answer
given begun state (Err fault) = Some (fault_given begun fault)
given begun state (Ok reported) = event_given state reported

-- The state after a result of the container.
abbrev pub state_then : TakerState → pieces.Answer → TakerState
state_then state (Ok reported) = state_after state reported
state_then state (Err fault) = state

-- What is given comes first. Nothing follows the end or a fault.
abbrev pub put : Option Answer → List Answer → List Answer
put None later = later
put (Some answer) later = in_front answer later

-- What is reported next, as a result.
abbrev pub report_given : TakerState → Option Answer
report_given state = option_map (λ (report : EventSeen). Ok report) (report_of state)

-- What is reported of the packet before it and of incomplete packets is no record, and comes before
-- the next one. There are at most two reports.
abbrev pub reports_first : TakerState → (TakerState → List Answer) → List Answer
reports_first state later = put (report_given state)
    (put (report_given (reported state)) (later (reported (reported state))))

-- ---- one file after the other

-- The results of the lane for these results of the container, which are left of a file. Where none
-- is left, the file is at its end: after its last piece, or after a record inside which it ends.
-- What follows it depends on what was taken and is held.
unfoldable pub chosen : (TakerState → List Answer) → Bool → TakerState → List pieces.Answer → List Answer
chosen behind begun state [] = reports_first state behind
chosen behind begun state (answer ∷ later) = reports_first state
    (λ state'. put (given begun state' answer) (chosen behind true (state_then state' answer) later))

-- What follows a file after which these files come: that the capture goes on with the next one,
-- whose results follow; or the end. The choice and the fragments go on.
unfoldable pub next_files : List (List ℕ) → TakerState → List Answer
next_files [] state = Ok ended ∷ []
next_files (file ∷ files) state =
    Ok (skipped 0 NextFile) ∷ chosen (next_files files) true (in_next_file state) (pieces.answers file)

-- The results of the lane for the bytes of these files, one after the other.
abbrev pub answers_of_files : Choice → List (List ℕ) → List Answer
answers_of_files choice [] = Ok ended ∷ []
answers_of_files choice (file ∷ files) = chosen (next_files files) false (taker_of choice) (pieces.answers file)

-- The results of the lane for the bytes of one file.
abbrev pub answers_by : Choice → List ℕ → List Answer
answers_by choice bytes = answers_of_files choice (bytes ∷ [])

-- ---- the devices of several files

-- These bytes before the others, if all are known.
abbrev pub known_too : Option (List ℕ) → Option (List (List ℕ)) → Option (List (List ℕ))
known_too None files = None
known_too (Some bytes) None = None
known_too (Some bytes) (Some files) = Some (bytes ∷ files)

-- The bytes of these devices, if those of all are known.
abbrev pub all_known : {R : Type 0} → (R → Option (List ℕ)) → List R → Option (List (List ℕ))
all_known remaining [] = Some []
all_known remaining (device ∷ devices) = known_too (remaining device) (all_known remaining devices)

-- The count of the failures of these devices: that of the only one, or else their sum, which stops
-- at `top_count`.
abbrev pub all_failures : {R : Type 0} → (R → ℕ) → List R → ℕ
all_failures failures [] = 0
all_failures failures (device ∷ []) = failures device
all_failures failures (device ∷ other ∷ devices) = min (sum_by failures (device ∷ other ∷ devices)) top_count
