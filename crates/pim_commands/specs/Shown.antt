-- The names of files in the lines of a trace and of an audit.
use Rattle.std.specs.Prelude.{ℕ, nat_lt, Bool, if◌then◌else◌, List, [], map, length}
use Rattle.std.specs.Borrow.{Bor}
use Rattle.pim_event_lines.specs.Files.{escaped}
use Rattle.pim_files.specs.Captures.{PortFiles}
use Rattle.pim_warnings.specs.Naming.{files_named}

-- The name of a file as lines have it: in JSON with the escapes of a string.
abbrev pub shown_name : Bool → List ℕ → List ℕ
shown_name json name = if json then escaped name else name

-- The names of the files of a port, as lines have them.
abbrev pub all_shown : {A : Type 0} → Bool → PortFiles A → List (List ℕ)
all_shown json it = map (λ (name : Bor (List ℕ)). shown_name json name.now) (files_named it)

-- The same if they are several, otherwise none: lines don't name the file of a port that has one.
abbrev pub names_shown : {A : Type 0} → Bool → PortFiles A → List (List ℕ)
names_shown json it = if nat_lt (length (all_shown json it)) 2 then [] else all_shown json it

-- Those of each port.
abbrev pub files_shown : {A : Type 0} → Bool → List (PortFiles A) → List (List (List ℕ))
files_shown json ports = map (names_shown json) ports
