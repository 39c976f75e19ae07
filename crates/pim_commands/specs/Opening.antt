-- What a command returns and writes whose words name files. It promises its result over a table and
-- over the captures of its ports: those of the files that are named, where it is known what files
-- hold. Or it returns a fault of opening, and writes nothing.
use Rattle.std.specs.Prelude.{◌≡◌, ◌⊎◌, ℕ, List, [], ◌++◌, length, filter, is_ok}
use Rattle.std.specs.Prelude.{Option, None, Some, Result, Ok, Err}
use Rattle.std.specs.Borrow.{Bor}
use Rattle.pim_addr.specs.declared.family.AddressFamily.{AddressFamily}
use Rattle.pim_addr.specs.Routes.{RouteTable}
use Rattle.pim_files.specs.declared.fault.OpenFault.{OpenFault}
use Rattle.pim_files.specs.Captures.{of_router, HoldFiles}
use Rattle.pim_words.specs.Faults.{is_of}
use Rattle.pim_files.specs.Files.{Known, RequestsFor, RequestsFront}
use Rattle.pim_files.specs.Opening.{file_names, local_file_names, port_files, IsUnopened, IsUnopenedWithLocal}
use Rattle.pim_files.specs.Receivers.{HasJoins}
use Rattle.pim_files.specs.Table.{IsTable}
use Rattle.pim_local.specs.Joins.{Join}
use Rattle.pim_merge.specs.Next.{MergeState, IsUntaken}
use Rattle.pim_words.specs.declared.fault.RouterSide.TheVariants as side
use Rattle.pim_words.specs.declared.task.Auditing.{Auditing}
use Rattle.pim_words.specs.declared.task.Captures.{Captures}
use Rattle.pim_words.specs.declared.task.Tracing.{Tracing}
use Rattle.pim_words.specs.declared.task.Writing.{Writing}
use Rattle.pim_faults.specs.declared.fault.Fault.{Fault}
use Rattle.pim_commands.specs.Auditing.{audit_line_of, audit_of}
use Rattle.pim_warnings.specs.Census.{begun}
use Rattle.pim_commands.specs.declared.two_routers.TwoRouters.{TwoRouters}
use Rattle.pim_commands.specs.declared.two_routers.TwoRouters.TheVariants.{Same, Change}
use Rattle.pim_commands.specs.Engines.{Engine, a_report, a_trace, an_audit, a_mirror, an_emission}
use Rattle.pim_commands.specs.Engines.{RunsOne, RunsBoth}
use Rattle.pim_commands.specs.Routers.{writing_of}
use Rattle.pim_commands.specs.Shown.{files_shown}
use Rattle.pim_commands.specs.Tracing.{line_of, names_of}
use Rattle.pim_warnings.specs.Warnings.{warnings_text}
use Rattle.pim_faults.specs.Unopened.{open_fault}

-- ---- files that aren't open

-- Not all files of these names are open, and this is the program's fault. Some first ones of the
-- names were asked for. `Unopened` says why, and `known` and `known'` what is known of the opener
-- before and after.
pub record OpensNot (Unopened : OpenFault → Type 0) (known known' : Known) (names : List (List ℕ)) (fault : Fault)
    : Type 0 where
  pub reported : OpenFault
  pub is : fault ≡ open_fault reported
  pub unopened : Unopened reported
  pub requested : RequestsFront known known' names

-- The result has the property `Answered`, or it is a fault of opening and nothing is written. `Warns`
-- says of a text that it was written to the device for errors.
abbrev pub Opens : (Fault → Type 0) → (List ℕ → Type 0) → Option (List ℕ) → Option (List ℕ) → Result ℕ Fault → Type 0 →
    Type 0
Opens Unopened Warns old new (Ok status) Answered = Answered
Opens Unopened Warns old new (Err fault) Answered = (Unopened fault × (new ≡ old) × Warns []) ⊎ Answered

-- ---- what is opened for these captures, with this upstream neighbour and this file of local joins

module _ {A R : Type 0} (family : AddressFamily) (bytes_of : A → List ℕ) (remaining : R → Option (List ℕ))
    (failures : R → ℕ) (known known' : Known) (captures : Captures A) (upstream : Option A)
    (local : Option (Bor (List ℕ))) where
  -- Not all files of a router are open.
  abbrev pub OpensNotOne : Fault → Type 0
  OpensNotOne = OpensNot (IsUnopenedWithLocal family bytes_of remaining failures known.files captures upstream local)
      known known' (local_file_names captures local)

  -- The result is so over a table, local joins and the captures of one router. They are those of its
  -- ports' files, in their order, each by the link of its port. Nothing of them was read before the
  -- own files of all ports were open. `merge'` is what the run leaves of them.
  pub record OverOne (Answers : RouteTable → List Join → MergeState → MergeState → Type 0) : Type 0 where
    pub table : RouteTable
    pub is_table : IsTable family bytes_of remaining failures known.files captures upstream table
    pub joins : List Join
    pub has_joins : HasJoins family remaining failures known.files local joins
    pub merge : MergeState
    pub merge' : MergeState
    pub each : length merge.lanes ≡ length captures.ports.items
    pub untaken : IsUntaken merge
    pub held : HoldFiles known.files (port_files captures) merge.lanes
    pub requested : RequestsFor known known' (local_file_names captures local)
    pub answers : Answers table joins merge merge'

-- ---- the same for two routers, without local joins

module _ {A R : Type 0} (family : AddressFamily) (bytes_of : A → List ℕ) (remaining : R → Option (List ℕ))
    (failures : R → ℕ) (known known' : Known) (captures : Captures A) (upstream : Option A) where
  -- Not all files of two routers are open.
  abbrev pub OpensNotBoth : Fault → Type 0
  OpensNotBoth = OpensNot (IsUnopened family bytes_of remaining failures known.files captures upstream)
      known known' (file_names captures)

  -- The result is so over a table, and the captures of each router's own ports.
  pub record OverBoth (Answers : RouteTable → MergeState → MergeState → MergeState → MergeState → Type 0) : Type 0
    where
      pub table : RouteTable
      pub is_table : IsTable family bytes_of remaining failures known.files captures upstream table
      pub merge : MergeState
      pub merge' : MergeState
      pub other : MergeState
      pub other' : MergeState
      pub each_of_a : length merge.lanes ≡ length (filter (is_of side.A) captures.ports.items)
      pub each_of_b : length other.lanes ≡ length (filter (is_of side.B) captures.ports.items)
      pub untaken_of_a : IsUntaken merge
      pub untaken_of_b : IsUntaken other
      pub held_of_a : HoldFiles known.files (of_router side.A (port_files captures)) merge.lanes
      pub held_of_b : HoldFiles known.files (of_router side.B (port_files captures)) other.lanes
      pub requested : RequestsFor known known' (file_names captures)
      pub answers : Answers table merge merge' other other'

-- ---- what each command returns and writes. `Warns` says of a text that it was written to the device
-- for errors: the warnings on all captures, after the run.

module _ {A R : Type 0} (family : AddressFamily) (bytes_of : A → List ℕ) (remaining : R → Option (List ℕ))
    (failures : R → ℕ) (known known' : Known) (captures : Captures A) where
  -- The result has the property, over what is opened for one router.
  abbrev pub OpensOne : Option A → Option (Bor (List ℕ)) → (List ℕ → Type 0) → Option (List ℕ) → Option (List ℕ) →
      Result ℕ Fault → (RouteTable → List Join → MergeState → MergeState → Type 0) → Type 0
  OpensOne upstream local Warns old new result Answers = Opens
      (OpensNotOne family bytes_of remaining failures known known' captures upstream local) Warns old new result
      (OverOne family bytes_of remaining failures known known' captures upstream local Answers)

  -- The result has the property, over what is opened for two routers.
  abbrev pub OpensBoth : Option A → (List ℕ → Type 0) → Option (List ℕ) → Option (List ℕ) → Result ℕ Fault →
      (RouteTable → MergeState → MergeState → MergeState → MergeState → Type 0) → Type 0
  OpensBoth upstream Warns old new result Answers = Opens
      (OpensNotBoth family bytes_of remaining failures known known' captures upstream) Warns old new result
      (OverBoth family bytes_of remaining failures known known' captures upstream Answers)

  -- An engine runs over what is opened for one router; it may depend on the local joins. Then come the
  -- warnings on its captures.
  abbrev pub OneRuns : Option A → Option (Bor (List ℕ)) → (List Join → Engine) → (List ℕ → Type 0) → Option (List ℕ) →
      Option (List ℕ) → Result ℕ Fault → Type 0
  OneRuns upstream local engine Warns old new result = OpensOne upstream local Warns old new result
      (λ table joins merge merge'. RunsOne family bytes_of captures (engine joins) table
      (begun family bytes_of (port_files captures) merge) merge' old new result
      × Warns (warnings_text family table (is_ok result) (port_files captures) merge'))

  -- An engine with a writer runs over what is opened for two routers. Then come the warnings on the
  -- captures of router a, and on those of b.
  abbrev pub BothRun : TwoRouters → Writing A → (List ℕ → Type 0) → Option (List ℕ) → Option (List ℕ) → Result ℕ Fault → Type 0
  BothRun command writing Warns old new result = OpensBoth (Some writing.upstream) Warns old new result
      (λ table merge merge' other other'.
      RunsBoth family bytes_of captures command (writing_of bytes_of writing) table
      (begun family bytes_of (of_router side.A (port_files captures)) merge) merge'
      (begun family bytes_of (of_router side.B (port_files captures)) other) other' old new result
      × Warns (warnings_text family table (is_ok result) (of_router side.A (port_files captures)) merge'
      ++ warnings_text family table (is_ok result) (of_router side.B (port_files captures)) other'))

  -- What `replay` returns and writes. It writes upstream neighbours if a file of routes is named.
  abbrev pub ReplaysFiles : (List ℕ → Type 0) → Option (List ℕ) → Option (List ℕ) → Result ℕ Fault → Type 0
  ReplaysFiles Warns old new result = OneRuns None None (λ joins. a_report) Warns old new result

  -- What `trace` returns and writes.
  abbrev pub TracesFiles : Tracing A → (List ℕ → Type 0) → Option (List ℕ) → Option (List ℕ) → Result ℕ Fault → Type 0
  TracesFiles tracing Warns old new result = OneRuns None None
      (λ joins. a_trace tracing.state
      (line_of family bytes_of (names_of 0 tracing.names.items) (files_shown tracing.json (port_files captures)) tracing))
      Warns old new result

  -- What `audit` returns and writes.
  abbrev pub AuditsFiles : Auditing A → Tracing A → (List ℕ → Type 0) → Option (List ℕ) → Option (List ℕ) → Result ℕ Fault → Type 0
  AuditsFiles auditing tracing Warns old new result = OneRuns (Some auditing.upstream) auditing.local
      (λ joins. an_audit (audit_line_of family bytes_of (names_of 0 tracing.names.items)
      (files_shown tracing.json (port_files captures)) auditing.upstream tracing)
      (audit_of bytes_of auditing tracing joins)) Warns old new result

  -- What `mirror` returns and writes.
  abbrev pub MirrorsFiles : Writing A → (List ℕ → Type 0) → Option (List ℕ) → Option (List ℕ) → Result ℕ Fault → Type 0
  MirrorsFiles writing Warns old new result =
      OneRuns (Some writing.upstream) None (λ joins. a_mirror (writing_of bytes_of writing)) Warns old new result

  -- What `emit` returns and writes.
  abbrev pub EmitsFiles : Writing A → (List ℕ → Type 0) → Option (List ℕ) → Option (List ℕ) → Result ℕ Fault → Type 0
  EmitsFiles writing Warns old new result =
      OneRuns (Some writing.upstream) None (λ joins. an_emission (writing_of bytes_of writing)) Warns old new result

  -- What `same` returns and writes.
  abbrev pub ComparesFiles : Writing A → (List ℕ → Type 0) → Option (List ℕ) → Option (List ℕ) → Result ℕ Fault → Type 0
  ComparesFiles writing Warns old new result = BothRun Same writing Warns old new result

  -- What `change` returns and writes.
  abbrev pub ChangesFiles : Writing A → (List ℕ → Type 0) → Option (List ℕ) → Option (List ℕ) → Result ℕ Fault → Type 0
  ChangesFiles writing Warns old new result = BothRun Change writing Warns old new result
