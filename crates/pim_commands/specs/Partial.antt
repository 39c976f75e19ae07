-- What `check --partial` returns and writes for an input.
use Rattle.std.specs.Prelude.{◌≡◌, ℕ, Bool, true, false, List, [], ◌++◌, take, drop, Option, Result, Ok, Err}
use Rattle.std.specs.Io.KnownBytes.{Appends, Keeps}
use Rattle.pim_device.specs.Device.{AppendsFront}
use Rattle.pim_addr.specs.declared.family.AddressFamily.{AddressFamily}
use Rattle.pim_text.specs.PartialText.{partial_text}
use Rattle.pim_faults.specs.Words.{ending_text}
use Rattle.pim_faults.specs.declared.fault.Fault.{Fault}
use Rattle.pim_faults.specs.declared.fault.Fault.TheVariants.{JoinPrune, InputTooLong, InputRead, Output, Memory}
use Rattle.pim_commands.specs.Report.{WroteAll}

-- The lines of what precedes a fault. Of a Join/Prune message they are those that end by the offset
-- of the fault, which counts from the end of the header of four bytes. Other faults have none.
abbrev pub lines_before : AddressFamily → List ℕ → Fault → List ℕ
lines_before family message (JoinPrune fault) = partial_text family (take fault.at (drop 4 message))
lines_before family message fault = []

-- What is written of a message with this first fault: what precedes it, and then its own line.
abbrev pub faulty_text : AddressFamily → List ℕ → Fault → List ℕ
faulty_text family message fault = lines_before family message fault ++ ending_text fault

-- A prefix of what is to be written was written. That is the text of a message without a fault, or
-- what there is of one with a fault. Of an input that is too long nothing is to be written.
abbrev pub WrotePart : AddressFamily → List ℕ → Result (List ℕ) Fault → Option (List ℕ) → Option (List ℕ) → Type 0
WrotePart family message (Ok text) old new = AppendsFront old new text
WrotePart family message (Err InputTooLong) old new = ⊥
WrotePart family message (Err fault) old new = AppendsFront old new (faulty_text family message fault)

-- What `check_partial_into` returns and writes for an input with this report: the status 0 and the
-- whole text, or a fault. A fault of the message is returned after the text of such a message was
-- written. `old` are the bytes of the device before the call, `new` those after it.
abbrev pub PartlyReports : AddressFamily → List ℕ → Result (List ℕ) Fault → Option (List ℕ) → Option (List ℕ) → Result ℕ Fault → Type 0
PartlyReports family message report old new (Ok status) = (status ≡ 0) × WroteAll report old new
PartlyReports family message report old new (Err Memory) = Keeps old new
PartlyReports family message report old new (Err InputRead) = Keeps old new
PartlyReports family message report old new (Err InputTooLong) = (report ≡ Err InputTooLong) × Keeps old new
PartlyReports family message report old new (Err Output) = WrotePart family message report old new
PartlyReports family message report old new (Err fault) =
    (report ≡ Err fault) × Appends old new (faulty_text family message fault)

-- ---- the step that writes what there is of a message with a fault

-- Whether the fault is refused memory.
abbrev pub is_memory_fault : Fault → Bool
is_memory_fault Memory = true
is_memory_fault fault = false

-- All of this text was written, or a prefix of it. Or memory was refused before anything was.
abbrev pub Writes : List ℕ → Option (List ℕ) → Option (List ℕ) → Result (Unit {0}) Fault → Type 0
Writes text old new (Ok done) = Appends old new text
Writes text old new (Err Memory) = Keeps old new
Writes text old new (Err Output) = AppendsFront old new text
Writes text old new (Err fault) = ⊥
