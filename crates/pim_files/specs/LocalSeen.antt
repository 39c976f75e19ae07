-- What the clauses of private functions say of the steps of reading a file of local receivers.
use Rattle.std.specs.Prelude.{◌≡◌, ℕ, ⊤, List, take}
use Rattle.pim_addr.specs.declared.family.AddressFamily.{AddressFamily}
use Rattle.pim_local.specs.declared.fault.LocalFault.{LocalFault}
use Rattle.pim_local.specs.declared.fault.LocalFault.TheVariants as adding
use Rattle.pim_local.specs.Joins.{Join}
use Rattle.pim_files.specs.declared.local.fault.LocalFileFault.{LocalFileFault}
use Rattle.pim_files.specs.declared.local.fault.LocalFileFault.TheVariants.{Line, Memory}
use Rattle.pim_files.specs.LocalFile.{Adds, IsWrong, StopsAt}

-- The error of the line with this number, whose join is refused.
abbrev pub line_fault : ℕ → LocalFault → LocalFileFault
line_fault number adding.Memory = Memory
line_fault number fault = Line number

-- Why a line is not added: memory ran out, or the line with this number is wrong.
abbrev pub IsLineFault : AddressFamily → List ℕ → ℕ → List Join → LocalFileFault → Type 0
IsLineFault family line number joins Memory = ⊤
IsLineFault family line number joins (Line reported) = (reported ≡ number) × IsWrong family line joins
IsLineFault family line number joins fault = ⊥

-- Why not all lines are added: memory ran out after some first lines, or a line is wrong.
abbrev pub StopsIn : AddressFamily → List (List ℕ) → List Join → List Join → LocalFileFault → Type 0
StopsIn family lines old new Memory = (count : ℕ) × Adds family (take count lines) old new
StopsIn family lines old new (Line number) = StopsAt family lines old new number
StopsIn family lines old new fault = ⊥
