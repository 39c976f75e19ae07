-- What is read of a text: all its bytes, if they are within the limit.
use Rattle.std.specs.Prelude.{◌≡◌, ◌<◌, ◌≤◌, ⊤, ℕ, ◌+◌, ◌++◌, Bool, true, false, List, length, min, Option, Result, Ok, Err}
use Rattle.std.specs.Io.KnownBytes.{Consumes, IsAtEnd}
use Rattle.pim_device.specs.Device.{top_count}
use Rattle.pim_text.specs.declared.build.fault.BuildFault.{BuildFault}
use Rattle.pim_text.specs.declared.build.fault.BuildFault.TheVariants.{Read, TooLong, Memory}

-- The most bytes of a text: 8 MiB.
abbrev pub text_limit : ℕ
text_limit = 8388608

-- The bytes of a piece.
abbrev pub piece_length : ℕ
piece_length = 65536

-- The faults that reading a text can have.
abbrev pub IsReadFault : BuildFault → Type 0
IsReadFault Read = ⊤
IsReadFault TooLong = ⊤
IsReadFault Memory = ⊤
IsReadFault fault = ⊥

-- The faults that reading a piece of it can have.
abbrev pub IsPieceFault : BuildFault → Type 0
IsPieceFault Read = ⊤
IsPieceFault Memory = ⊤
IsPieceFault fault = ⊥

-- The fault of reading a text, where the reader has all these bytes.
abbrev pub IsReadFaultOf : List ℕ → BuildFault → Type 0
IsReadFaultOf all TooLong = text_limit < length all
IsReadFaultOf all fault = IsReadFault fault

-- What reading a text returns: all bytes, within the limit, or a fault.
abbrev pub GivesText : {A : Type 0} → (A → List ℕ) → List ℕ → Result A BuildFault → Type 0
GivesText bytes_of all (Ok text) = (all ≡ bytes_of text) × (length all ≤ text_limit)
GivesText bytes_of all (Err fault) = IsReadFaultOf all fault

-- How often the reader has failed after the call: once more if the result is `Read`, otherwise as
-- often as before it.
abbrev pub failures_after_reading : {A : Type 0} → ℕ → Result A BuildFault → ℕ
failures_after_reading before (Err Read) = min (before + 1) top_count
failures_after_reading before answer = before

-- ---- one piece

-- The bytes of a piece follow those that were read, and whether the reader is at its end: then, and
-- only then, the piece is shorter than `most`.
pub record AddsPiece (old new : Option (List ℕ)) (most : ℕ) (before after : List ℕ) (is_end : Bool) : Type 0 where
  pub got : List ℕ
  pub adds : after ≡ before ++ got
  pub consumes : Consumes old new got
  pub short : is_end ≡ true → IsAtEnd new
  pub whole : is_end ≡ false → length got ≡ most
  pub within : length got ≤ most
