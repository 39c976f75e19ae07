-- A file of routes: its lines, the rows of a route table that they state, and what reading the file
-- does to a table.
use Rattle.std.specs.Prelude.{◌≡◌, ◌⊎◌, ℕ, ◌+◌, ◌<◌, ◌≤◌, true, false, List, [], ◌∷◌, ◌++◌, length, take, min, ⊤}
use Rattle.std.specs.Prelude.{slice_index, codes, Result, Ok, Err}
use Rattle.std.specs.Str.Parse.{IsNumeral, digits_value}
use Rattle.pim_device.specs.Device.{top_count}
use Rattle.pim_addr.specs.declared.family.AddressFamily.{AddressFamily}
use Rattle.pim_addr.specs.declared.route_fault.RouteFault.{RouteFault}
use Rattle.pim_addr.specs.TextForms.{IsText}
use Rattle.pim_addr.specs.Routes.{Row, RouteTable, rp_faults, via_faults, with_rp, with_via}
use Rattle.pim_files.specs.declared.line_file.FileFault.{FileFault}
use Rattle.pim_files.specs.declared.line_file.FileFault.TheVariants as reading
use Rattle.pim_files.specs.declared.routes.fault.RoutesFault.{RoutesFault}
use Rattle.pim_files.specs.declared.routes.fault.RoutesFault.TheVariants.{TooLong, Read, Line, Memory}
use Rattle.pim_files.specs.declared.routes.row.FileRow.{FileRow}
use Rattle.pim_files.specs.declared.routes.row.FileRow.TheVariants.{Rp, Via}
use Rattle.pim_files.specs.LineFile.{file_limit, lines_of, is_passed_over}

-- ---- rows

-- The text is this number as a decimal without leading zeros.
pub record IsDecimal (text : List ℕ) (number : ℕ) : Type 0 where
  pub digits : IsNumeral 10 text
  pub value : digits_value 10 text ≡ number
  pub no_zeros : slice_index text 0 ≡ 48 → length text ≡ 1

-- The text `ADDRESS/LENGTH ADDRESS` states this row: a prefix with its length, and the address that
-- it leads to.
pub record Leads (family : AddressFamily) (text : List ℕ) (row : Row) : Type 0 where
  pub prefix_text : List ℕ
  pub length_text : List ℕ
  pub to_text : List ℕ
  pub spelled : text ≡ prefix_text ++ codes "/" ++ length_text ++ codes " " ++ to_text
  pub prefix : IsText family prefix_text row.0.address
  pub bits : IsDecimal length_text row.0.bits
  pub to : IsText family to_text row.1

-- The line states this row: `rp` for a row to an RP or `via` for a row to an upstream neighbour,
-- one space, and the text of the row.
abbrev pub IsRow : AddressFamily → List ℕ → FileRow Row → Type 0
IsRow family line (Rp row) = (text : List ℕ) × (line ≡ codes "rp " ++ text) × Leads family text row
IsRow family line (Via row) = (text : List ℕ) × (line ≡ codes "via " ++ text) × Leads family text row

-- The length of the prefix of a row.
abbrev pub bits_of : FileRow Row → ℕ
bits_of (Rp row) = row.0.bits
bits_of (Via row) = row.0.bits

-- The first of the rows is stated by this line, and `Others` holds of the rest.
abbrev pub BeginsWithRow : AddressFamily → List ℕ → List (FileRow Row) → (List (FileRow Row) → Type 0) → Type 0
BeginsWithRow family line [] Others = ⊥
BeginsWithRow family line (row ∷ rows) Others = IsRow family line row × Others rows

-- These are the rows of the lines, in order: none for a passed-over line, one for each other line.
abbrev pub AreRows : AddressFamily → List (List ℕ) → List (FileRow Row) → Type 0
AreRows family [] rows = rows ≡ []
AreRows family (line ∷ lines) rows =
    ((is_passed_over line ≡ true) × AreRows family lines rows)
    ⊎ ((is_passed_over line ≡ false) × BeginsWithRow family line rows (AreRows family lines))

-- ---- the table

-- The faults of adding this row to a table.
abbrev pub row_faults : AddressFamily → FileRow Row → RouteTable → List RouteFault
row_faults family (Rp row) table = rp_faults family row.0 row.1 table.rps
row_faults family (Via row) table = via_faults family row.0 row.1 table.vias

-- The table with this row added.
abbrev pub with_file_row : FileRow Row → RouteTable → RouteTable
with_file_row (Rp row) table = with_rp row.0 row.1 table
with_file_row (Via row) table = with_via row.0 row.1 table

-- The rows were added to the table in order, each without a fault, and nothing else changed.
abbrev pub AreAdded : AddressFamily → List (FileRow Row) → RouteTable → RouteTable → Type 0
AreAdded family [] old new = new ≡ old
AreAdded family (row ∷ rows) old new =
    (row_faults family row old ≡ []) × AreAdded family rows (with_file_row row old) new

-- The rows of these lines were added to the table in order, and nothing else changed.
abbrev pub Adds : AddressFamily → List (List ℕ) → RouteTable → RouteTable → Type 0
Adds family lines old new = (rows : List (FileRow Row)) × AreRows family lines rows × AreAdded family rows old new

-- The line has another form, or the table refuses its row.
abbrev pub IsWrong : AddressFamily → List ℕ → RouteTable → Type 0
IsWrong family line table =
    (is_passed_over line ≡ false)
    × ((row : FileRow Row) → IsRow family line row → row_faults family row table ≡ [] → ⊥)

-- The line with this number, from 1, is wrong, and only the rows of the lines before it were added.
pub record StopsAt (family : AddressFamily) (lines : List (List ℕ)) (old new : RouteTable) (number : ℕ) : Type 0 where
  pub before : List (List ℕ)
  pub line : List ℕ
  pub behind : List (List ℕ)
  pub cut : lines ≡ before ++ line ∷ behind
  pub numbered : number ≡ length before + 1
  pub added : Adds family before old new
  pub wrong : IsWrong family line new

-- ---- reading

-- The error of a file of routes that isn't read to its end.
abbrev pub routes_unread : FileFault → RoutesFault
routes_unread reading.TooLong = TooLong
routes_unread reading.Read = Read
routes_unread reading.Memory = Memory

-- What the result of reading a file means for the file and the table. At Ok, all rows were added.
-- `TooLong` and `Read` leave the table unchanged. At `Line` the rows before that line were added,
-- and at `Memory` those of some first lines.
abbrev pub Reads : AddressFamily → List ℕ → RouteTable → RouteTable → Result (Unit {0}) RoutesFault → Type 0
Reads family file old new (Ok done) = (length file ≤ file_limit) × Adds family (lines_of file) old new
Reads family file old new (Err TooLong) = (file_limit < length file) × (new ≡ old)
Reads family file old new (Err Read) = new ≡ old
Reads family file old new (Err (Line number)) =
    (length file ≤ file_limit) × StopsAt family (lines_of file) old new number
Reads family file old new (Err Memory) = (count : ℕ) × Adds family (take count (lines_of file)) old new

-- The error is `TooLong` or `Read`, which come before the first row is added.
abbrev pub IsBeforeRows : RoutesFault → Type 0
IsBeforeRows TooLong = ⊤
IsBeforeRows Read = ⊤
IsBeforeRows fault = ⊥

-- The number of failures of the reader after this result: one more at `Read`, else the same.
abbrev pub failures_after_reading : {A : Type 0} → ℕ → Result A RoutesFault → ℕ
failures_after_reading before (Err Read) = min (before + 1) top_count
failures_after_reading before answer = before
