-- What the program returns of a session, and writes in it.
use Rattle.std.specs.Prelude.{◌≡◌, ◌⊎◌, ℕ, List, Option, Result, Ok, Err}
use Rattle.std.specs.Io.KnownBytes.{Appends}
use Rattle.pim_device.specs.Device.{AppendsFront}
use Rattle.pim_request.specs.Items.{items_of}
use Rattle.pim_session.specs.Dialog.{AnswersAll, AnswersFirst, Wrote}
use Rattle.pim_session.specs.State.{new_session}
use Rattle.pim_faults.specs.declared.fault.Fault.{Fault}
use Rattle.pim_faults.specs.declared.fault.Fault.TheVariants.{InputRead, Output, Memory}

-- The answers to all items of an input were written, from `old` to `new` of their device.
abbrev pub IsAnswered : List ℕ → Option (List ℕ) → Option (List ℕ) → Type 0
IsAnswered input old new = Wrote (AnswersAll new_session (items_of input)) (Appends old new)

-- The program's result for a session over an input. The status is 0 where all was answered. At
-- `Output` the device failed with a front of answers written, or when it had to pass on the last
-- ones. At `Memory` nothing was written.
abbrev pub EndsSession : List ℕ → Option (List ℕ) → Option (List ℕ) → Result ℕ Fault → Type 0
EndsSession input old new (Ok status) = (status ≡ 0) × IsAnswered input old new
EndsSession input old new (Err InputRead) =
    Wrote (AnswersFirst new_session (items_of input)) (Appends old new)
EndsSession input old new (Err Output) =
    Wrote (AnswersFirst new_session (items_of input)) (AppendsFront old new)
    ⊎ IsAnswered input old new
EndsSession input old new (Err Memory) = new ≡ old
EndsSession input old new (Err other) = ⊥
