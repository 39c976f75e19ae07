-- What local receivers have joined, as a command names it. `known` is what files hold, where it is
-- known.
use Rattle.std.specs.Prelude.{◌≡◌, ⊤, ℕ, List, [], Option, None, Some, IsSome, IfSome, Result, Ok, Err}
use Rattle.std.specs.Borrow.{Bor}
use Rattle.pim_addr.specs.declared.family.AddressFamily.{AddressFamily}
use Rattle.pim_local.specs.Joins.{Join}
use Rattle.pim_files.specs.declared.fault.OpenFault.{OpenFault}
use Rattle.pim_files.specs.declared.fault.OpenFault.TheVariants.{File, Local, Memory}
use Rattle.pim_files.specs.declared.local.fault.LocalFileFault.{LocalFileFault}
use Rattle.pim_files.specs.Files.{Files}
use Rattle.pim_files.specs.LocalFile.{Reads, failures_after_reading}

module _ {R : Type 0} (family : AddressFamily) (remaining : R → Option (List ℕ)) (failures : R → ℕ)
    (known : Option Files) (name : List ℕ) where
  -- The file of this name was opened, and read from its beginning into a list of joins. `before` and
  -- `after` are its reader, opened and read. The number of its failures rises exactly if the result
  -- is a failed read.
  pub record ReadsFile (old new : List Join) (result : Result (Unit {0}) LocalFileFault) : Type 0 where
    pub before : R
    pub after : R
    pub opened : IfSome known (λ files. IsSome (files.contents name) × (remaining before ≡ files.contents name))
    pub reads : IfSome (remaining before) (λ file. Reads family file old new result)
    pub failed : failures after ≡ failures_after_reading (failures before) result

  -- All joins of the file were added to the list.
  abbrev pub AddsFile : List Join → List Join → Type 0
  AddsFile old new = ReadsFile old new (Ok tt)

  -- Why not all joins were added: the file can't be opened, it has a fault, or memory is refused.
  abbrev pub IsLocalFault : List Join → OpenFault → Type 0
  IsLocalFault old (File word) = (word.now ≡ name) × IfSome known (λ files. files.contents name ≡ None)
  IsLocalFault old (Local fault) = (new : List Join) × ReadsFile old new (Err fault)
  IsLocalFault old Memory = ⊤
  IsLocalFault old fault = ⊥

module _ {R : Type 0} (family : AddressFamily) (remaining : R → Option (List ℕ)) (failures : R → ℕ)
    (known : Option Files) where
  -- These are the joins: those of the file that is named, or none.
  abbrev pub HasJoins : Option (Bor (List ℕ)) → List Join → Type 0
  HasJoins None joins = joins ≡ []
  HasJoins (Some name) joins = AddsFile family remaining failures known name.now [] joins

  -- Why there is no list of them: the fault of the file that is named.
  abbrev pub LacksJoins : Option (Bor (List ℕ)) → OpenFault → Type 0
  LacksJoins None fault = ⊥
  LacksJoins (Some name) fault = IsLocalFault family remaining failures known name.now [] fault
