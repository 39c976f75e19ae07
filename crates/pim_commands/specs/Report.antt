-- What `check` returns and writes for an input.
use Rattle.std.specs.Prelude.{◌≡◌, ◌<◌, ◌≤◌, ⊤, ℕ, ◌+◌, List, [], ◌++◌, length, map, min, Option, Result, Ok, Err}
use Rattle.std.specs.Prelude.{nat_lt}
use Rattle.std.specs.Io.KnownBytes.{Appends, Keeps}
use Rattle.pim_addr.specs.Faults.{fault_if, judged}
use Rattle.pim_device.specs.Device.{AppendsFront, top_count}
use Rattle.pim_addr.specs.declared.family.AddressFamily.{AddressFamily}
use Rattle.pim_frame.specs.Frame.{Content, hello, join_prune, other, content, frame_faults}
use Rattle.pim_hello.specs.Value.{hello_of}
use Rattle.pim_hello.specs.Faults.{faults as hello_option_faults}
use Rattle.pim_jp.specs.Message.{message_of}
use Rattle.pim_jp.specs.Faults.{faults}
use Rattle.pim_faults.specs.declared.fault.Fault.{Fault}
use Rattle.pim_faults.specs.declared.fault.Fault.TheVariants.{Frame, Hello, JoinPrune, InputTooLong, InputRead, Output}
use Rattle.pim_faults.specs.declared.fault.Fault.TheVariants.{Memory}
use Rattle.pim_text.specs.Text.{type_text}
use Rattle.pim_text.specs.JoinPruneText.{message_text}
use Rattle.pim_text.specs.HelloText.{hello_text}
use Rattle.pim_text.specs.Read.{States}
use Rattle.pim_text.specs.Value.{hello_in, message_in}

-- The faults of the body of a Hello or a Join/Prune message, in order; a message of another type
-- has none.
abbrev pub content_faults : AddressFamily → Content → List Fault
content_faults family (hello body) = map Hello (hello_option_faults body)
content_faults family (join_prune body) = map JoinPrune (faults family body)
content_faults family (other kind) = []

-- The text of the body of a Join/Prune message, or its first fault.
abbrev pub body_report : AddressFamily → List ℕ → Result (List ℕ) Fault
body_report family body = judged (map JoinPrune (faults family body)) (message_text family (message_of family body))

-- The text of the body of a Hello, or its first fault.
abbrev pub hello_report : AddressFamily → List ℕ → Result (List ℕ) Fault
hello_report family body = judged (map Hello (hello_option_faults body)) (hello_text family (hello_of family body))

-- The text of a message's content, by its type.
abbrev pub content_text : AddressFamily → Content → List ℕ
content_text family (hello body) = hello_text family (hello_of family body)
content_text family (join_prune body) = message_text family (message_of family body)
content_text family (other kind) = type_text kind

-- The text that is written of a Hello or a Join/Prune message states that message.
abbrev pub IsStated : AddressFamily → Content → Type 0
IsStated family (hello body) = States (hello_text family (hello_of family body)) (hello_in family (hello_of family body))
IsStated family (join_prune body) =
    States (message_text family (message_of family body)) (message_in family (message_of family body))
IsStated family (other kind) = ⊤

-- The faults of a message from `source` to `destination`: those of its header, then those of its
-- body.
abbrev pub message_faults : AddressFamily → List ℕ → List ℕ → List ℕ → List Fault
message_faults family source destination message =
    map Frame (frame_faults family source destination message) ++ content_faults family (content message)

-- The text of a message, or its first fault.
abbrev pub message_report : AddressFamily → List ℕ → List ℕ → List ℕ → Result (List ℕ) Fault
message_report family source destination message =
    judged (message_faults family source destination message) (content_text family (content message))

-- The text of an input, or its first fault. An input of more than 65,536 bytes has the fault
-- `InputTooLong`.
abbrev pub input_report : AddressFamily → List ℕ → List ℕ → List ℕ → Result (List ℕ) Fault
input_report family source destination input =
    judged (fault_if (nat_lt 65536 (length input)) InputTooLong ++ message_faults family source destination input)
    (content_text family (content input))

-- ---- what a result says of the bytes that were written

-- The text of the report was written. `old` are the bytes of the device before the call, `new`
-- those after it.
abbrev pub WroteAll : Result (List ℕ) Fault → Option (List ℕ) → Option (List ℕ) → Type 0
WroteAll (Ok text) old new = Appends old new text
WroteAll (Err fault) old new = ⊥

-- A prefix of the text of the report was written.
abbrev pub WroteFront : Result (List ℕ) Fault → Option (List ℕ) → Option (List ℕ) → Type 0
WroteFront (Ok text) old new = AppendsFront old new text
WroteFront (Err fault) old new = ⊥

-- The cause of a fault exists. If it is `Output`, a prefix of the text was written, otherwise
-- nothing.
abbrev pub Explains : Result (List ℕ) Fault → Option (List ℕ) → Option (List ℕ) → Fault → Type 0
Explains report old new Memory = Keeps old new
Explains report old new InputRead = Keeps old new
Explains report old new Output = WroteFront report old new
Explains report old new fault = (report ≡ Err fault) × Keeps old new

-- What `check_into` returns and writes: the status 0 and the whole text, or a fault.
abbrev pub Reports : Result (List ℕ) Fault → Option (List ℕ) → Option (List ℕ) → Result ℕ Fault → Type 0
Reports report old new (Ok status) = (status ≡ 0) × WroteAll report old new
Reports report old new (Err fault) = Explains report old new fault

-- ---- how often the devices have failed after a call

-- How often the reader has failed after the call: once more if the result is `InputRead`, otherwise
-- as often as before it.
abbrev pub read_failures_after : {A : Type 0} → ℕ → Result A Fault → ℕ
read_failures_after before (Err InputRead) = min (before + 1) top_count
read_failures_after before answer = before

-- How often the writer has failed after the call: once more if the result is `Output`, otherwise as
-- often as before it.
abbrev pub write_failures_after : {A : Type 0} → ℕ → Result A Fault → ℕ
write_failures_after before (Err Output) = min (before + 1) top_count
write_failures_after before answer = before

-- ---- the steps of `check`

-- The faults that reading the input can have.
abbrev pub IsReadFault : Fault → Type 0
IsReadFault Memory = ⊤
IsReadFault InputRead = ⊤
IsReadFault InputTooLong = ⊤
IsReadFault fault = ⊥

-- The fault of reading the input, where the reader has all these bytes.
abbrev pub IsInputFault : List ℕ → Fault → Type 0
IsInputFault all InputTooLong = 65536 < length all
IsInputFault all fault = IsReadFault fault

-- What the step returns that reads the input: all bytes, or a fault.
abbrev pub GivesInput : {A : Type 0} → (A → List ℕ) → List ℕ → Result A Fault → Type 0
GivesInput bytes_of all (Ok input) = (all ≡ bytes_of input) × (length all ≤ 65536)
GivesInput bytes_of all (Err fault) = IsInputFault all fault

-- Why the text of a message isn't made.
abbrev pub IsMessageFault : Result (List ℕ) Fault → Fault → Type 0
IsMessageFault report Memory = ⊤
IsMessageFault report (Frame fault) = report ≡ Err (Frame fault)
IsMessageFault report (Hello fault) = report ≡ Err (Hello fault)
IsMessageFault report (JoinPrune fault) = report ≡ Err (JoinPrune fault)
IsMessageFault report fault = ⊥

-- What the step returns that makes the text of a message: the text of the report, or a fault.
abbrev pub GivesReport : {A : Type 0} → (A → List ℕ) → Result (List ℕ) Fault → Result A Fault → Type 0
GivesReport bytes_of report (Ok text) = report ≡ Ok (bytes_of text)
GivesReport bytes_of report (Err fault) = IsMessageFault report fault
