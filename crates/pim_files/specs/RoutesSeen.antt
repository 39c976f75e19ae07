-- What the clauses of private functions say of the steps of reading.
use Rattle.std.specs.Prelude.{◌≡◌, ◌⊎◌, ℕ, true, false, ⊤, List, [], take}
use Rattle.pim_addr.specs.declared.family.AddressFamily.{AddressFamily}
use Rattle.pim_addr.specs.declared.route.Route.{Route}
use Rattle.pim_addr.specs.Routes.{Row, RouteTable}
use Rattle.pim_addr.specs.RouteRows.{row_seen}
use Rattle.pim_files.specs.declared.routes.fault.RoutesFault.{RoutesFault}
use Rattle.pim_files.specs.declared.routes.fault.RoutesFault.TheVariants.{Line, Memory}
use Rattle.pim_files.specs.declared.routes.row.FileRow.{FileRow}
use Rattle.pim_files.specs.declared.routes.row.FileRow.TheVariants.{Rp, Via}
use Rattle.pim_files.specs.LineFile.{is_passed_over}
use Rattle.pim_files.specs.RoutesFile.{IsRow, row_faults}
use Rattle.pim_files.specs.RoutesFile.{with_file_row, Adds, IsWrong, StopsAt}

-- A `FileRow` of a `Route` as the row that contracts see.
abbrev pub file_row_seen : {A : Type 0} → (A → List ℕ) → FileRow (Route A) → FileRow Row
file_row_seen bytes_of (Rp route) = Rp (row_seen bytes_of route)
file_row_seen bytes_of (Via route) = Via (row_seen bytes_of route)

-- The line has no row and the table is unchanged, or its row was added.
abbrev pub AddsLine : AddressFamily → List ℕ → RouteTable → RouteTable → Type 0
AddsLine family line old new =
    ((is_passed_over line ≡ true) × (new ≡ old))
    ⊎ ((row : FileRow Row) × (is_passed_over line ≡ false) × IsRow family line row × (row_faults family row old ≡ [])
    × (new ≡ with_file_row row old))

-- Why a line is not added: memory ran out, or the line with this number is wrong.
abbrev pub IsLineFault : AddressFamily → List ℕ → ℕ → RouteTable → RoutesFault → Type 0
IsLineFault family line number table Memory = ⊤
IsLineFault family line number table (Line reported) = (reported ≡ number) × IsWrong family line table
IsLineFault family line number table fault = ⊥

-- Why not all lines are added: memory ran out after some first lines, or a line is wrong.
abbrev pub StopsIn : AddressFamily → List (List ℕ) → RouteTable → RouteTable → RoutesFault → Type 0
StopsIn family lines old new Memory = (count : ℕ) × Adds family (take count lines) old new
StopsIn family lines old new (Line number) = StopsAt family lines old new number
StopsIn family lines old new fault = ⊥
