-- What `build` returns and writes for an input, and what `check` prints of it.
use Rattle.std.specs.Prelude.{◌≡◌, ◌≤◌, ◌<◌, ◌⊎◌, ⊤, ℕ, List, [], length, Option, Result, Ok, Err}
use Rattle.std.specs.Io.KnownBytes.{Appends, Keeps}
use Rattle.pim_addr.specs.declared.family.AddressFamily.{AddressFamily}
use Rattle.pim_text.specs.Building.{Value, IsInBytes, stated, text_of}
use Rattle.pim_text.specs.ReadingText.{text_limit}
use Rattle.pim_device.specs.Device.{AppendsFront}
use Rattle.pim_text.specs.Read.{States, IsWrongLine}
use Rattle.pim_text.specs.Spell.{IsTextFault, IsLong}
use Rattle.pim_text.specs.declared.message.TextFault.TheVariants as of_text
use Rattle.pim_words.specs.declared.task.Task.{Task}
use Rattle.pim_words.specs.declared.task.Task.TheVariants.{Build}
use Rattle.pim_faults.specs.declared.fault.Fault.{Fault}
use Rattle.pim_faults.specs.declared.fault.Fault.TheVariants.{Frame, Hello, JoinPrune, InputRead, Output, Memory}
use Rattle.pim_faults.specs.declared.fault.Fault.TheVariants.{TextTooLong, TextLine, TextFamily}
use Rattle.pim_commands.specs.Report.{input_report}

-- ---- the bytes of the message that a text states

-- The text is within its limit and states this message, and these are its bytes from `source` to
-- `destination`.
pub record IsMessageOf (family : AddressFamily) (source destination text : List ℕ) (value : Value) (message : List ℕ) : Type 0 where
  pub limit : length text ≤ text_limit
  pub states : States text (stated family value)
  pub bytes : IsInBytes family source destination value message
  pub size : length message ≤ 65536

-- The bytes are those of the message that the text states, and `check` prints the text of that
-- message for them: the lines that were read, with each address as `write_text` writes it.
abbrev pub IsAccepted : AddressFamily → List ℕ → List ℕ → List ℕ → List ℕ → Type 0
IsAccepted family source destination text message =
    (value : Value) × IsMessageOf family source destination text value message
    × (input_report family source destination message ≡ Ok (text_of family value))

-- `check` has this fault for the bytes of the message that the text states.
abbrev pub IsRefusedBy : AddressFamily → List ℕ → List ℕ → List ℕ → Fault → Type 0
IsRefusedBy family source destination text fault =
    (value : Value) × (message : List ℕ) × IsMessageOf family source destination text value message
    × (input_report family source destination message ≡ Err fault)

-- ---- faults

-- The cause of a fault that isn't one of a device.
abbrev pub IsBuildFault : AddressFamily → List ℕ → List ℕ → List ℕ → Fault → Type 0
IsBuildFault family source destination text TextTooLong = (text_limit < length text) ⊎ IsLong family text
IsBuildFault family source destination text (TextLine number) = IsWrongLine text number
IsBuildFault family source destination text TextFamily = IsTextFault family text of_text.Family
IsBuildFault family source destination text (Frame fault) = IsRefusedBy family source destination text (Frame fault)
IsBuildFault family source destination text (Hello fault) = IsRefusedBy family source destination text (Hello fault)
IsBuildFault family source destination text (JoinPrune fault) =
    IsRefusedBy family source destination text (JoinPrune fault)
IsBuildFault family source destination text fault = ⊥

-- The cause of a fault exists. If it is `Output`, a prefix of the message was written, otherwise
-- nothing.
abbrev pub Explains : AddressFamily → List ℕ → List ℕ → List ℕ → Option (List ℕ) → Option (List ℕ) → Fault → Type 0
Explains family source destination text old new Memory = Keeps old new
Explains family source destination text old new InputRead = Keeps old new
Explains family source destination text old new Output =
    (message : List ℕ) × IsAccepted family source destination text message × AppendsFront old new message
Explains family source destination text old new fault = IsBuildFault family source destination text fault × Keeps old new

-- What `build_into` returns and writes: the status 0 and the bytes of the message that the text
-- states, or a fault.
abbrev pub Builds : AddressFamily → List ℕ → List ℕ → List ℕ → Option (List ℕ) → Option (List ℕ) → Result ℕ Fault → Type 0
Builds family source destination text old new (Ok status) =
    (status ≡ 0)
    × ((message : List ℕ) × IsAccepted family source destination text message × Appends old new message)
Builds family source destination text old new (Err fault) = Explains family source destination text old new fault

-- ---- the addresses of a task of `build`

module _ {A : Type 0} (bytes_of : A → List ℕ) where
  -- The source address of the message; empty for a task of another command.
  abbrev pub built_source : Task A → List ℕ
  built_source (Build source destination) = bytes_of source
  built_source other = []

  -- The destination address of the message; empty for a task of another command.
  abbrev pub built_destination : Task A → List ℕ
  built_destination (Build source destination) = bytes_of destination
  built_destination other = []

-- The task is one of `build`.
abbrev pub IsBuildTask : {A : Type 0} → Task A → Type 0
IsBuildTask (Build source destination) = ⊤
IsBuildTask other = ⊥
