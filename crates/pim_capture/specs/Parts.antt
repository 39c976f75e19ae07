-- What the private readers of the parts of a capture do. Where the bytes of the reader aren't known
-- (`None`), they say less or nothing.
use Rattle.std.specs.Prelude.{◌≡◌, ◌<◌, ℕ, List, length, take, drop, Option, Some, None, Result, Ok, Err, ⊤}
use Rattle.std.specs.Io.KnownBytes.{Consumes}
use Rattle.pim_capture.specs.declared.fault.CaptureFault.{CaptureFault}
use Rattle.pim_capture.specs.declared.fault.CaptureFault.TheVariants as fault
use Rattle.pim_capture.specs.declared.header.Format.{Format}
use Rattle.pim_capture.specs.Header.{judge_header}

-- Ok means that the first 24 bytes were taken and are a file header of this format. A fault other
-- than a failed read is the fault of these bytes.
abbrev pub BeginsWith : Option (List ℕ) → Option (List ℕ) → Result Format CaptureFault → Type 0
BeginsWith None new answer = ⊤
BeginsWith (Some xs) None answer = ⊥
BeginsWith (Some xs) (Some ys) (Ok format) = (judge_header (take 24 xs) ≡ Ok format) × (ys ≡ drop 24 xs)
BeginsWith (Some xs) (Some ys) (Err fault.Read) = ⊤
BeginsWith (Some xs) (Some ys) (Err fault) = judge_header (take 24 xs) ≡ Err fault

-- Ok means that the buffer holds exactly the next `size` bytes of the reader. Err means that fewer
-- were left (Truncated), that a read failed, or that memory was refused.
abbrev pub FillsExactly : ℕ → Option (List ℕ) → Option (List ℕ) → List ℕ → Result (Unit {0}) CaptureFault → Type 0
FillsExactly size old new bytes (Ok _) = (length bytes ≡ size) × Consumes old new bytes
FillsExactly size None new bytes (Err _) = ⊤
FillsExactly size (Some xs) None bytes (Err _) = ⊥
FillsExactly size (Some xs) (Some ys) bytes (Err fault.Truncated) = length xs < size
FillsExactly size (Some xs) (Some ys) bytes (Err fault.Read) = ⊤
FillsExactly size (Some xs) (Some ys) bytes (Err fault.Memory) = ⊤
FillsExactly size (Some xs) (Some ys) bytes (Err _) = ⊥
