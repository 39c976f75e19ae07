-- What the engines of the commands return and write, and what the program makes of it.
use Rattle.std.specs.Prelude.{◌≡◌, ◌⊎◌, ℕ, Bool, List, [], ◌++◌, is_some, Option, None, Some, Result, Ok, Err}
use Rattle.pim_addr.specs.declared.family.AddressFamily.{AddressFamily}
use Rattle.pim_addr.specs.Routes.{RouteTable}
use Rattle.pim_audit.specs.Run.{Audits, run_at_start}
use Rattle.pim_audit_events.specs.Lines.{Statement}
use Rattle.pim_events.specs.Events.{Occurrence}
use Rattle.pim_exchange.specs.declared.fault.ExchangeFault.{ExchangeFault}
use Rattle.pim_exchange.specs.declared.fault.ExchangeFault.TheVariants.{Replay}
use Rattle.pim_exchange.specs.ChangeText.{WritesChange}
use Rattle.pim_exchange.specs.Emit.{Emits}
use Rattle.pim_exchange.specs.MirrorText.{WritesMirror}
use Rattle.pim_exchange.specs.Same.{Compares}
use Rattle.pim_files.specs.Captures.{of_router}
use Rattle.pim_files.specs.Opening.{port_files}
use Rattle.pim_form.specs.Messages.{Writing}
use Rattle.pim_form.specs.Writer.{has_bad_address}
use Rattle.pim_merge.specs.Next.{MergeState}
use Rattle.pim_run.specs.declared.fault.RunFault.{RunFault}
use Rattle.pim_replay.specs.Report.{Replays}
use Rattle.pim_router.specs.State.{RouterState, new_router}
use Rattle.pim_words.specs.declared.fault.RouterSide.TheVariants as side
use Rattle.pim_words.specs.declared.task.Captures.{Captures}
use Rattle.pim_faults.specs.declared.fault.Fault.{Fault}
use Rattle.pim_commands.specs.declared.two_routers.TwoRouters.{TwoRouters}
use Rattle.pim_commands.specs.declared.two_routers.TwoRouters.TheVariants.{Same, Change}
use Rattle.pim_commands.specs.Answers.{answer_of}
use Rattle.pim_commands.specs.Auditing.{AuditAsked}
use Rattle.pim_commands.specs.Tracing.{TracesAsAsked}
use Rattle.pim_commands.specs.Routers.{end_of, setup_in, writer_causes, config_causes, IsFirstCause}

-- ---- the engines

-- The engine of a command for one router. It writes the report, this line of each event of a trace,
-- with the state at the end or without, this text of each line of an audit, or the messages of this
-- writer as text or as bytes.
pub data Engine : Type 0 where
  a_report : Engine
  a_trace : Bool → (Occurrence → List ℕ) → Engine
  an_audit : (Option ℕ → Statement → List ℕ) → AuditAsked → Engine
  a_mirror : Writing → Engine
  an_emission : Writing → Engine

-- The result of a replay, as one of any engine.
abbrev pub of_replayed : {A : Type 0} → Result ℕ RunFault → Result ℕ (ExchangeFault A)
of_replayed (Ok status) = Ok status
of_replayed (Err fault) = Err (Replay fault)

-- The result of a trace, as one of any engine.
abbrev pub of_traced : {A : Type 0} → Result (Unit {0}) RunFault → Result ℕ (ExchangeFault A)
of_traced (Ok done) = Ok 0
of_traced (Err fault) = Err (Replay fault)

-- The result is one of these, as one of any engine.
pub record IsAsOf {T U : Type 0} (Told : T → Type 0) (of : T → U) (result : U) : Type 0 where
  pub reported : T
  pub is_told : Told reported
  pub is : result ≡ of reported

module _ {A : Type 0} (family : AddressFamily) (bytes_of : A → List ℕ) (captures : Captures A) where
  -- What the engine returns and writes that leads the router from `state` to `after`.
  abbrev pub Does : Engine → MergeState → MergeState → RouterState → Option (List ℕ) → Option (List ℕ) → RouterState →
      Result ℕ (ExchangeFault A) → Type 0
  Does a_report merge merge' state old new after reported = IsAsOf
      (Replays family (is_some captures.routes) (end_of captures) merge merge' state after old new) of_replayed reported
  Does (a_trace has_state line) merge merge' state old new after reported = IsAsOf
      (TracesAsAsked has_state line family (end_of captures) merge merge' state after old new) of_traced reported
  Does (an_audit line asked) merge merge' state old new after reported = IsAsOf
      (Audits family bytes_of asked.groups line (end_of captures) merge
      (run_at_start asked.upstream asked.grace asked.local captures.limit state) state old merge' after new) of_replayed reported
  Does (a_mirror writing) merge merge' state old new after reported =
      WritesMirror family (end_of captures) writing captures.limit merge merge' state after bytes_of old new reported
  Does (an_emission writing) merge merge' state old new after reported =
      Emits family (end_of captures) writing merge merge' state after bytes_of old new reported

  -- The same for two routers and a writer.
  abbrev pub DoesBoth : TwoRouters → Writing → MergeState → MergeState → MergeState → MergeState → RouterState →
      RouterState → Option (List ℕ) → Option (List ℕ) → RouterState × RouterState → Result ℕ (ExchangeFault A) → Type 0
  DoesBoth Same writing merge merge' other other' state state_of old new after reported =
      Compares family (end_of captures) writing merge merge' state after.0 other other' state_of after.1
      bytes_of old new reported
  DoesBoth Change writing merge merge' other other' state state_of old new after reported =
      WritesChange family (end_of captures) writing captures.limit merge merge' state after.0 other other' state_of
      after.1 bytes_of old new reported

-- The fault of the engine's writer, if it has one.
abbrev pub causes_of : AddressFamily → Engine → List Fault
causes_of family (a_mirror writing) = writer_causes (has_bad_address family writing)
causes_of family (an_emission writing) = writer_causes (has_bad_address family writing)
causes_of family engine = []

-- ---- new routers

-- The engine ran, and this is the program's result for that of the engine.
pub record HasRun {S T : Type 0} (Ran : S → T → Type 0) (answer : T → Result ℕ Fault) (result : Result ℕ Fault)
    : Type 0 where
  pub after : S
  pub reported : T
  pub ran : Ran after reported
  pub answered : result ≡ answer reported

-- The engine ran, or `Unmade` holds and the result is the first of these causes.
abbrev pub Runs : {S T : Type 0} → List Fault → Type 0 → (S → T → Type 0) → (T → Result ℕ Fault) →
    Result ℕ Fault → Type 0
Runs causes Unmade Ran answer (Ok status) = HasRun Ran answer (Ok status)
Runs causes Unmade Ran answer (Err fault) = (IsFirstCause causes fault × Unmade) ⊎ HasRun Ran answer (Err fault)

module _ {A : Type 0} (family : AddressFamily) (bytes_of : A → List ℕ) (captures : Captures A) where
  -- The engine runs over the captures of a new router. Or there is no router, for one of these
  -- causes or one of its set-up, and nothing is written and taken.
  abbrev pub RunsBy : List Fault → Engine → RouteTable → MergeState → MergeState → Option (List ℕ) →
      Option (List ℕ) → Result ℕ Fault → Type 0
  RunsBy causes engine table merge merge' old new result =
      Runs (causes ++ config_causes family (setup_in bytes_of captures None table)) ((new ≡ old) × (merge' ≡ merge))
      (Does family bytes_of captures engine merge merge' (new_router (setup_in bytes_of captures None table)) old new)
      (answer_of (port_files captures) (port_files captures) family bytes_of) result

  -- The same, where the engine's writer may be such a cause.
  abbrev pub RunsOne : Engine → RouteTable → MergeState → MergeState → Option (List ℕ) → Option (List ℕ) →
      Result ℕ Fault → Type 0
  RunsOne engine table merge merge' old new result =
      RunsBy (causes_of family engine) engine table merge merge' old new result

  -- The same for two new routers. The faults are those of the writer, then of router a, then of b.
  abbrev pub RunsBoth : TwoRouters → Writing → RouteTable → MergeState → MergeState → MergeState → MergeState →
      Option (List ℕ) → Option (List ℕ) → Result ℕ Fault → Type 0
  RunsBoth command writing table merge merge' other other' old new result =
      Runs (writer_causes (has_bad_address family writing)
      ++ (config_causes family (setup_in bytes_of captures (Some side.A) table)
      ++ config_causes family (setup_in bytes_of captures (Some side.B) table)))
      ((new ≡ old) × (merge' ≡ merge) × (other' ≡ other))
      (DoesBoth family bytes_of captures command writing merge merge' other other'
      (new_router (setup_in bytes_of captures (Some side.A) table))
      (new_router (setup_in bytes_of captures (Some side.B) table)) old new)
      (answer_of (of_router side.A (port_files captures)) (of_router side.B (port_files captures)) family bytes_of)
      result
