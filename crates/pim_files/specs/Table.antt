-- The route table of a command: the rows of its options, and those of the file of routes. `known`
-- is what files hold, where it is known.
use Rattle.std.specs.Prelude.{◌≡◌, ◌⊎◌, ⊤, ℕ, Bool, false, not, List, [], ◌∷◌, ◌++◌, option_map}
use Rattle.std.specs.Prelude.{Option, None, Some, IsSome, IfSome, Result, Ok, Err}
use Rattle.std.specs.Borrow.{Bor}
use Rattle.pim_addr.specs.declared.family.AddressFamily.{AddressFamily}
use Rattle.pim_addr.specs.Address.{is_source}
use Rattle.pim_addr.specs.Faults.{fault_if}
use Rattle.pim_addr.specs.Routes.{RouteTable}
use Rattle.pim_files.specs.declared.routes.fault.RoutesFault.{RoutesFault}
use Rattle.pim_files.specs.RoutesFile.{Reads, failures_after_reading}
use Rattle.pim_words.specs.declared.task.Captures.{Captures}
use Rattle.pim_words.specs.Table.{given_table}
use Rattle.pim_files.specs.declared.fault.OpenFault.{OpenFault}
use Rattle.pim_files.specs.declared.fault.OpenFault.TheVariants.{Upstream, Rp, File, Routes, Memory}
use Rattle.pim_files.specs.Files.{Files}

-- ---- the rows of the options

-- Whether the address is given and isn't a valid source.
abbrev pub is_bad : AddressFamily → Option (List ℕ) → Bool
is_bad family None = false
is_bad family (Some address) = not (is_source family address)

-- The faults of the addresses that the table is made of: of the upstream neighbour, then of the RP.
abbrev pub table_causes : AddressFamily → Option (List ℕ) → Option (List ℕ) → List OpenFault
table_causes family rp upstream = fault_if (is_bad family upstream) Upstream ++ fault_if (is_bad family rp) Rp

-- The fault is the first of these causes, or memory is refused.
abbrev pub IsFirstCause : List OpenFault → OpenFault → Type 0
IsFirstCause all Memory = ⊤
IsFirstCause [] fault = ⊥
IsFirstCause (first ∷ others) fault = fault ≡ first

-- ---- the rows of the file of routes, by what readers have left to give and how often they failed

module _ {R : Type 0} (family : AddressFamily) (remaining : R → Option (List ℕ)) (failures : R → ℕ)
    (known : Option Files) (name : List ℕ) where
  -- The file of this name was opened, and read from its beginning into a table. `before` and
  -- `after` are its reader, opened and read. The number of its failures rises exactly if the result
  -- is a failed read.
  pub record ReadsFile (old new : RouteTable) (result : Result (Unit {0}) RoutesFault) : Type 0 where
    pub before : R
    pub after : R
    pub opened : IfSome known (λ files. IsSome (files.contents name) × (remaining before ≡ files.contents name))
    pub reads : IfSome (remaining before) (λ file. Reads family file old new result)
    pub failed : failures after ≡ failures_after_reading (failures before) result

  -- All rows of the file were added to the table.
  abbrev pub IsFileTable : RouteTable → RouteTable → Type 0
  IsFileTable old new = ReadsFile old new (Ok tt)

  -- Why not all rows were added: the file can't be opened, it has a fault, or memory is refused.
  abbrev pub IsFileFault : RouteTable → OpenFault → Type 0
  IsFileFault old (File word) = (word.now ≡ name) × IfSome known (λ files. files.contents name ≡ None)
  IsFileFault old (Routes fault) = (new : RouteTable) × ReadsFile old new (Err fault)
  IsFileFault old Memory = ⊤
  IsFileFault old fault = ⊥

-- ---- the table

-- The name of the file of routes, if one is given.
abbrev pub name_of : Option (Bor (List ℕ)) → List (List ℕ)
name_of None = []
name_of (Some name) = name.now ∷ []

-- The names that are asked for to make the table.
abbrev pub table_names : {A : Type 0} → Captures A → List (List ℕ)
table_names captures = name_of captures.routes

module _ {R : Type 0} (family : AddressFamily) (remaining : R → Option (List ℕ)) (failures : R → ℕ)
    (known : Option Files) (rp upstream : Option (List ℕ)) where
  -- The addresses have no fault. The table has the rows of the options. If a file of routes is
  -- named, its rows come in place of the row to the upstream neighbour.
  abbrev pub HasRows : Option (Bor (List ℕ)) → RouteTable → Type 0
  HasRows None table = (table_causes family rp upstream ≡ []) × (table ≡ given_table family rp upstream)
  HasRows (Some name) table = (table_causes family rp None ≡ [])
      × IsFileTable family remaining failures known name.now (given_table family rp None) table

  -- Why there is no table: the first fault of its addresses. If they have none, that of the file
  -- that is named.
  abbrev pub LacksRows : Option (Bor (List ℕ)) → OpenFault → Type 0
  LacksRows None fault = IsFirstCause (table_causes family rp upstream) fault
  LacksRows (Some name) fault = IsFirstCause (table_causes family rp None) fault
      ⊎ ((table_causes family rp None ≡ [])
      × IsFileFault family remaining failures known name.now (given_table family rp None) fault)

module _ {A R : Type 0} (family : AddressFamily) (bytes_of : A → List ℕ) (remaining : R → Option (List ℕ))
    (failures : R → ℕ) (known : Option Files) (captures : Captures A) (upstream : Option A) where
  -- The table of these captures, with this upstream neighbour.
  abbrev pub IsTable : RouteTable → Type 0
  IsTable = HasRows family remaining failures known (option_map bytes_of captures.rp) (option_map bytes_of upstream)
      captures.routes

  -- Why there is no such table.
  abbrev pub IsTableFault : OpenFault → Type 0
  IsTableFault = LacksRows family remaining failures known (option_map bytes_of captures.rp)
      (option_map bytes_of upstream) captures.routes
