-- A file of local receivers: the joins that its lines state, and what reading the file does to a
-- list of joins.
use Rattle.std.specs.Prelude.{◌≡◌, ◌⊎◌, ℕ, ◌+◌, ◌<◌, ◌≤◌, true, false, List, [], ◌∷◌, ◌++◌, length, take, min, ⊤}
use Rattle.std.specs.Prelude.{codes, None, Some, Result, Ok, Err}
use Rattle.pim_device.specs.Device.{top_count}
use Rattle.pim_addr.specs.declared.family.AddressFamily.{AddressFamily}
use Rattle.pim_addr.specs.TextForms.{IsText}
use Rattle.pim_local.specs.Joins.{Join, join_faults, with_join}
use Rattle.pim_files.specs.declared.line_file.FileFault.{FileFault}
use Rattle.pim_files.specs.declared.line_file.FileFault.TheVariants as reading
use Rattle.pim_files.specs.declared.local.fault.LocalFileFault.{LocalFileFault}
use Rattle.pim_files.specs.declared.local.fault.LocalFileFault.TheVariants.{TooLong, Read, Line, Memory}
use Rattle.pim_files.specs.LineFile.{file_limit, lines_of, is_passed_over}

-- ---- joins

-- The text `GROUP` states the join of all sources of this group.
pub record IsStar (family : AddressFamily) (text : List ℕ) (join : Join) : Type 0 where
  pub of_group : IsText family text join.group
  pub all : join.source ≡ None

-- The text `SOURCE GROUP` states the join of this source of the group.
pub record IsSource (family : AddressFamily) (text : List ℕ) (join : Join) : Type 0 where
  pub source : List ℕ
  pub source_text : List ℕ
  pub group_text : List ℕ
  pub spelled : text ≡ source_text ++ codes " " ++ group_text
  pub of_source : IsText family source_text source
  pub of_group : IsText family group_text join.group
  pub one : join.source ≡ Some source

-- The line states this join: `star` or `source`, one space, and the text of the join.
abbrev pub IsJoin : AddressFamily → List ℕ → Join → Type 0
IsJoin family line join =
    ((text : List ℕ) × (line ≡ codes "star " ++ text) × IsStar family text join)
    ⊎ ((text : List ℕ) × (line ≡ codes "source " ++ text) × IsSource family text join)

-- ---- adding joins

-- The line has no join and the list is unchanged. Or its join was added without a fault.
abbrev pub AddsLine : AddressFamily → List ℕ → List Join → List Join → Type 0
AddsLine family line old new =
    ((is_passed_over line ≡ true) × (new ≡ old))
    ⊎ ((join : Join) × (is_passed_over line ≡ false) × IsJoin family line join × (join_faults family join old ≡ [])
    × (new ≡ with_join join old))

-- The joins of these lines were added in order, and nothing else changed.
abbrev pub Adds : AddressFamily → List (List ℕ) → List Join → List Join → Type 0
Adds family [] old new = new ≡ old
Adds family (line ∷ lines) old new = (next : List Join) × AddsLine family line old next × Adds family lines next new

-- The line has another form, or its join is refused.
abbrev pub IsWrong : AddressFamily → List ℕ → List Join → Type 0
IsWrong family line joins =
    (is_passed_over line ≡ false)
    × ((join : Join) → IsJoin family line join → join_faults family join joins ≡ [] → ⊥)

-- The line with this number, from 1, is wrong, and only the joins of the lines before it were added.
pub record StopsAt (family : AddressFamily) (lines : List (List ℕ)) (old new : List Join) (number : ℕ) : Type 0 where
  pub before : List (List ℕ)
  pub line : List ℕ
  pub behind : List (List ℕ)
  pub cut : lines ≡ before ++ line ∷ behind
  pub numbered : number ≡ length before + 1
  pub added : Adds family before old new
  pub wrong : IsWrong family line new

-- ---- reading

-- The error of a file of local receivers that isn't read to its end.
abbrev pub local_unread : FileFault → LocalFileFault
local_unread reading.TooLong = TooLong
local_unread reading.Read = Read
local_unread reading.Memory = Memory

-- What the result of reading a file means for the file and the joins. At Ok, the joins of all lines
-- were added. `TooLong` and `Read` leave the joins unchanged. At `Line` the joins before that line
-- were added, and at `Memory` those of some first lines.
abbrev pub Reads : AddressFamily → List ℕ → List Join → List Join → Result (Unit {0}) LocalFileFault → Type 0
Reads family file old new (Ok done) = (length file ≤ file_limit) × Adds family (lines_of file) old new
Reads family file old new (Err TooLong) = (file_limit < length file) × (new ≡ old)
Reads family file old new (Err Read) = new ≡ old
Reads family file old new (Err (Line number)) =
    (length file ≤ file_limit) × StopsAt family (lines_of file) old new number
Reads family file old new (Err Memory) = (count : ℕ) × Adds family (take count (lines_of file)) old new

-- The error is `TooLong` or `Read`, which come before the first join is added.
abbrev pub IsBeforeLines : LocalFileFault → Type 0
IsBeforeLines TooLong = ⊤
IsBeforeLines Read = ⊤
IsBeforeLines fault = ⊥

-- The number of failures of the reader after this result: one more at `Read`, else the same.
abbrev pub failures_after_reading : {A : Type 0} → ℕ → Result A LocalFileFault → ℕ
failures_after_reading before (Err Read) = min (before + 1) top_count
failures_after_reading before answer = before
