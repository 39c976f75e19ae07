-- All files that the words of a command name. `known` and `known'` say what is known of the opener
-- before and after.
use Rattle.std.specs.Prelude.{◌≡◌, ◌⊎◌, ℕ, List, ◌++◌, length, filter, Option}
use Rattle.std.specs.Borrow.{Bor}
use Rattle.pim_addr.specs.declared.family.AddressFamily.{AddressFamily}
use Rattle.pim_addr.specs.Routes.{RouteTable}
use Rattle.pim_merge.specs.Next.{MergeState, IsUntaken}
use Rattle.pim_words.specs.declared.fault.RouterSide.TheVariants as side
use Rattle.pim_words.specs.declared.task.Captures.{Captures}
use Rattle.pim_files.specs.declared.fault.OpenFault.{OpenFault}
use Rattle.pim_files.specs.Captures.{PortFiles, all_files, files_from, names_of, of_router, HoldFiles, StopsAt}
use Rattle.pim_words.specs.Faults.{is_of}
use Rattle.pim_files.specs.Files.{Files, Known, RequestsFor}
use Rattle.pim_files.specs.Table.{IsTable, IsTableFault, name_of, table_names}
use Rattle.pim_files.specs.Receivers.{HasJoins, LacksJoins}
use Rattle.pim_local.specs.Joins.{Join}

-- The ports, each with its further files.
abbrev pub port_files : {A : Type 0} → Captures A → List (PortFiles A)
port_files captures = files_from 0 captures.more.items captures.ports.items

-- The names of the files, in the order in which they are asked for: the file of routes is first. The
-- further files of a port come after its own.
abbrev pub file_names : {A : Type 0} → Captures A → List (List ℕ)
file_names captures = table_names captures ++ names_of (all_files (port_files captures))

module _ {A R : Type 0} (family : AddressFamily) (bytes_of : A → List ℕ) (remaining : R → Option (List ℕ))
    (failures : R → ℕ) (known : Option Files) (captures : Captures A) (upstream : Option A) where
  -- Why not all files are open: there is no table. Or there is one, and a file of a port isn't
  -- open.
  abbrev pub IsUnopened : OpenFault → Type 0
  IsUnopened fault =
      IsTableFault family bytes_of remaining failures known captures upstream fault
      ⊎ ((table : RouteTable) × IsTable family bytes_of remaining failures known captures upstream table
      × StopsAt known (all_files (port_files captures)) fault)

module _ {A R : Type 0} (family : AddressFamily) (bytes_of : A → List ℕ) (remaining : R → Option (List ℕ))
    (failures : R → ℕ) (known known' : Known) (captures : Captures A) (upstream : Option A) (table : RouteTable) where
  -- There are a table and the captures of two routers, of which nothing was read.
  pub record AreOpen (merge other : MergeState) : Type 0 where
    pub is_table : IsTable family bytes_of remaining failures known.files captures upstream table
    pub each_of_a : length merge.lanes ≡ length (filter (is_of side.A) captures.ports.items)
    pub each_of_b : length other.lanes ≡ length (filter (is_of side.B) captures.ports.items)
    pub untaken_of_a : IsUntaken merge
    pub untaken_of_b : IsUntaken other
    pub held_of_a : HoldFiles known.files (of_router side.A (port_files captures)) merge.lanes
    pub held_of_b : HoldFiles known.files (of_router side.B (port_files captures)) other.lanes
    pub requested : RequestsFor known known' (file_names captures)

-- ---- with the file of local receivers, if one is named

-- The names of the files, in the order in which they are asked for: the file of routes is first, and
-- then that of local receivers.
abbrev pub local_file_names : {A : Type 0} → Captures A → Option (Bor (List ℕ)) → List (List ℕ)
local_file_names captures local = table_names captures ++ name_of local ++ names_of (all_files (port_files captures))

module _ {A R : Type 0} (family : AddressFamily) (bytes_of : A → List ℕ) (remaining : R → Option (List ℕ))
    (failures : R → ℕ) (known : Option Files) (captures : Captures A) (upstream : Option A)
    (local : Option (Bor (List ℕ))) where
  -- Why not all files are open: there is no table. Or there is one, and there are no joins. Or there
  -- are both, and a file of a port isn't open.
  abbrev pub IsUnopenedWithLocal : OpenFault → Type 0
  IsUnopenedWithLocal fault =
      IsTableFault family bytes_of remaining failures known captures upstream fault
      ⊎ ((table : RouteTable) × IsTable family bytes_of remaining failures known captures upstream table
      × (LacksJoins family remaining failures known local fault
      ⊎ ((joins : List Join) × HasJoins family remaining failures known local joins
      × StopsAt known (all_files (port_files captures)) fault)))

module _ {A R : Type 0} (family : AddressFamily) (bytes_of : A → List ℕ) (remaining : R → Option (List ℕ))
    (failures : R → ℕ) (known known' : Known) (captures : Captures A) (upstream : Option A)
    (local : Option (Bor (List ℕ))) (table : RouteTable) (joins : List Join) where
  -- There are a table, the joins, and the captures of one router, of which nothing was read.
  pub record IsOpenWithLocal (merge : MergeState) : Type 0 where
    pub is_table : IsTable family bytes_of remaining failures known.files captures upstream table
    pub has_joins : HasJoins family remaining failures known.files local joins
    pub each : length merge.lanes ≡ length captures.ports.items
    pub untaken : IsUntaken merge
    pub held : HoldFiles known.files (port_files captures) merge.lanes
    pub requested : RequestsFor known known' (local_file_names captures local)
