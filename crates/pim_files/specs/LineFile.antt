-- Files of lines: the lines of a file, those that state nothing, and what reading a file gives.
use Rattle.std.specs.Prelude.{◌≡◌, ◌==◌, ⊤, ℕ, ◌+◌, ◌<◌, ◌≤◌, Bool, true, List, [], ◌∷◌, length, min}
use Rattle.std.specs.Prelude.{Option, None, Some, Result, Ok, Err}
use Rattle.std.specs.Borrow.{Bor}
use Rattle.std.specs.List.{slice_split}
use Rattle.pim_device.specs.Device.{top_count}
use Rattle.pim_files.specs.declared.line_file.FileFault.{FileFault}
use Rattle.pim_files.specs.declared.line_file.FileFault.TheVariants.{TooLong, Read}

-- The greatest length of a file, in bytes.
abbrev pub file_limit : ℕ
file_limit = 1048576

-- The lines of a file: the pieces between its line feeds, so that an empty line follows a final
-- line feed.
abbrev pub lines_of : List ℕ → List (List ℕ)
lines_of file = slice_split (λ byte. byte == 10) file

-- A line that states nothing: it is empty or begins with `#`.
abbrev pub is_passed_over : List ℕ → Bool
is_passed_over [] = true
is_passed_over (first ∷ others) = first == 35

-- The lines of the text that is left, none where no text is left.
abbrev pub lines_left : Option (Bor (List ℕ)) → List (List ℕ)
lines_left None = []
lines_left (Some text) = lines_of text.now

-- ---- reading a file to its end

-- The error may come at a file with these bytes; `TooLong` comes only above the limit.
abbrev pub IsFaultOf : List ℕ → FileFault → Type 0
IsFaultOf file TooLong = file_limit < length file
IsFaultOf file fault = ⊤

-- The result of reading a file with these bytes: all of them, within the limit, or why not.
abbrev pub GivesFile : {A : Type 0} → (A → List ℕ) → List ℕ → Result A FileFault → Type 0
GivesFile bytes_of file (Ok read) = (file ≡ bytes_of read) × (length file ≤ file_limit)
GivesFile bytes_of file (Err fault) = IsFaultOf file fault

-- The number of failures of the reader after this result: one more at `Read`, else the same.
abbrev pub failures_after_file : {A : Type 0} → ℕ → Result A FileFault → ℕ
failures_after_file before (Err Read) = min (before + 1) top_count
failures_after_file before answer = before
