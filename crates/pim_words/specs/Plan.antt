-- What is to be done, by the words of the command line.
use Rattle.std.specs.Prelude.{◌≡◌, ◌≤◌, ◌<◌, ◌⊎◌, List, [], ◌∷◌, length, ⊤, true, false, IfSome, IsSomeAnd, Result, Ok, Err}
use Rattle.std.specs.List.{AllByRecursion}
use Rattle.std.specs.declared.alloc.AllocError.{AllocError}
use Rattle.std.specs.declared.alloc.Global.{Global}
use Rattle.std.specs.declared.string.String.{String}
use Rattle.clap.specs.declared.error.kind.ErrorKind.{ErrorKind}
use Rattle.clap.specs.declared.error.kind.ErrorKind.TheVariants.{OutOfMemory}
use Rattle.clap.specs.Words.{App, IsAmong, Row, Text, fault_of, subcommand_of, takes}
use Rattle.pim_lines.specs.declared.either.AnyAddress.{AnyAddress}
use Rattle.pim_words.specs.declared.fault.CommandFault.{CommandFault}
use Rattle.pim_words.specs.declared.fault.CommandFault.TheVariants as cause
use Rattle.pim_words.specs.declared.task.CommandKind.{CommandKind}
use Rattle.pim_words.specs.declared.task.CommandPlan.{CommandPlan}
use Rattle.pim_words.specs.declared.task.CommandPlan.TheVariants.{V4, V6, Session}
use Rattle.pim_words.specs.declared.task.Task.{Task}
use Rattle.pim_words.specs.declared.task.Task.TheVariants.{Check, CheckPartial, Build, Replay, Trace, Audit, Same, Mirror, Emit, Change}
use Rattle.pim_words.specs.declared.task.Auditing.{Auditing}
use Rattle.pim_words.specs.declared.task.Captures.{Captures}
use Rattle.pim_words.specs.declared.task.More.{More}
use Rattle.pim_words.specs.declared.task.Tracing.{Tracing}
use Rattle.pim_words.specs.declared.task.Writing.{Writing}
use Rattle.pim_words.specs.Ends.{IsEarly}
use Rattle.pim_words.specs.Faults.{task_faults}
use Rattle.pim_words.specs.Given.{kind_name, session_name}
use Rattle.pim_words.specs.Inputs.{input_name, names_input_twice}
use Rattle.pim_lines.specs.PortNames.{is_port_name}
use Rattle.pim_words.specs.Reading.{IsTask, IsUnreadable}
use Rattle.pim_words.specs.Typed.{IsPlanFor}

-- ---- what a command asks for: its name, and what was found for its options and words

-- The command was given this task.
abbrev pub IsTaskOf : Text × List Row → Task AnyAddress → Type 0
IsTaskOf met task = (kind : CommandKind) × (met.0 ≡ kind_name kind) × IsTask kind met.1 task

-- The fault of a text that the command was given and that can't be read.
abbrev pub IsUnreadableOf : Text × List Row → CommandFault → Type 0
IsUnreadableOf met fault = (kind : CommandKind) × (met.0 ≡ kind_name kind) × IsUnreadable kind met.1 fault

-- ---- the plan of a task

-- The task has no fault, and this is its plan.
abbrev pub IsFaultless : Task AnyAddress → CommandPlan → Type 0
IsFaultless task plan = (task_faults task ≡ []) × IsPlanFor plan task

-- The fault is the first of a list.
abbrev pub IsFirstOf : List CommandFault → CommandFault → Type 0
IsFirstOf [] fault = ⊥
IsFirstOf (first ∷ others) fault = fault ≡ first

-- The fault is the first one of the task, or memory is refused.
abbrev pub IsFirstFault : Task AnyAddress → CommandFault → Type 0
IsFirstFault task cause.Memory = ⊤
IsFirstFault task fault = IsFirstOf (task_faults task) fault

-- A second file of the task is standard input. The fault has its name.
abbrev pub IsSecondInput : Task AnyAddress → CommandFault → Type 0
IsSecondInput task (cause.Word reported) = (reported.now ≡ input_name) × (names_input_twice task ≡ true)
IsSecondInput task other = ⊥

-- The task reads standard input at most once, it has no fault, and this is its plan.
abbrev pub IsPlanOfTask : Task AnyAddress → CommandPlan → Type 0
IsPlanOfTask task plan = (names_input_twice task ≡ false) × IsFaultless task plan

-- The task reads standard input twice; otherwise the fault is its first one. Or memory is refused.
abbrev pub IsWrongTask : Task AnyAddress → CommandFault → Type 0
IsWrongTask task cause.Memory = ⊤
IsWrongTask task fault =
    IsSecondInput task fault ⊎ ((names_input_twice task ≡ false) × IsFirstOf (task_faults task) fault)

-- ---- the plan of a command

-- The command asks for this plan: `session` for a session, another one for the plan of its task.
abbrev pub IsPlanOf : Text × List Row → CommandPlan → Type 0
IsPlanOf met Session = met.0 ≡ session_name
IsPlanOf met plan = (task : Task AnyAddress) × IsTaskOf met task × IsPlanOfTask task plan

-- What the command asks for has this fault: a text that can't be read, or a fault of its task.
abbrev pub IsWrongOf : Text × List Row → CommandFault → Type 0
IsWrongOf met fault =
    IsUnreadableOf met fault ⊎ ((task : Task AnyAddress) × IsTaskOf met task × IsWrongTask task fault)

-- ---- the plan of words by a command line; the first word is the program's name

-- `clap` accepts the words, and the command in them asks for this plan.
abbrev pub Plans : App → List Text → CommandPlan → Type 0
Plans app words plan = (fault_of app words ≡ []) × IsSomeAnd (subcommand_of app words) (λ met. IsPlanOf met plan)

-- `clap` accepts the words, but what they ask for has this fault.
abbrev pub HasWrong : App → List Text → CommandFault → Type 0
HasWrong app words fault =
    (fault_of app words ≡ []) × IsSomeAnd (subcommand_of app words) (λ met. IsWrongOf met fault)

-- `clap` doesn't accept the words, and this is a kind of error that it finds in them.
abbrev pub IsRefusedBy : App → List Text → ErrorKind → Type 0
IsRefusedBy app words kind = (takes app words ≡ true → ⊥) × IsAmong kind (fault_of app words)

-- The fault is a refusal of `clap`.
abbrev pub IsRefusal : App → List Text → CommandFault → Type 0
IsRefusal app words (cause.Clap refusal) = IsRefusedBy app words refusal.kind
IsRefusal app words fault = ⊥

-- Why there is no plan: a refusal of `clap`, or a fault of what the words ask for. Or memory is
-- refused.
abbrev pub HasCause : App → List Text → CommandFault → Type 0
HasCause app words cause.Memory = ⊤
HasCause app words fault = IsRefusal app words fault ⊎ HasWrong app words fault

-- ---- the ranges of a plan's numbers

-- A router runs on for at most 10^9 milliseconds after its last record, or to a time below 10^15
-- milliseconds.
abbrev pub IsBounded : {A : Type 0} → Captures A → Type 0
IsBounded captures = (captures.after_ms ≤ 1000000000) × IsEarly captures.at

-- A port holds at least one record and at most 100,000.
abbrev pub IsLimited : {A : Type 0} → Captures A → Type 0
IsLimited captures = (1 ≤ captures.limit) × (captures.limit ≤ 100000)

-- There are at most 4,096 further files, each of one of the ports.
abbrev pub AreFurther : {A : Type 0} → Captures A → Type 0
AreFurther captures = (length captures.more.items ≤ 4096)
    × AllByRecursion (λ (more : More). more.port < length captures.ports.items) captures.more.items

-- The holdtime is at least 99 seconds, and the budget is 70 to 65,000 bytes.
abbrev pub IsWritable : {A : Type 0} → Writing A → Type 0
IsWritable writing = (99 ≤ writing.holdtime) × (70 ≤ writing.budget) × (writing.budget ≤ 65000)

-- An entry may be due for at most 10^9 milliseconds before it is late.
abbrev pub HasGrace : {A : Type 0} → Auditing A → Type 0
HasGrace auditing = auditing.grace_ms ≤ 1000000000

-- Each port has a name or none, and the names are ones that a port may have.
abbrev pub AreNames : {A : Type 0} → Captures A → Tracing A → Type 0
AreNames captures tracing = (length tracing.names.items ≡ length captures.ports.items)
    × AllByRecursion (λ name. IfSome name (λ text. is_port_name text.now ≡ true)) tracing.names.items

-- The numbers of the task are in their ranges.
abbrev pub IsInRange : {A : Type 0} → Task A → Type 0
IsInRange (Check source destination) = ⊤
IsInRange (CheckPartial source destination) = ⊤
IsInRange (Build source destination) = ⊤
IsInRange (Replay captures) = IsBounded captures × IsLimited captures × AreFurther captures
IsInRange (Trace captures tracing) =
    IsBounded captures × IsLimited captures × AreNames captures tracing × AreFurther captures
IsInRange (Audit captures auditing tracing) =
    IsBounded captures × IsLimited captures × HasGrace auditing × AreNames captures tracing × AreFurther captures
IsInRange (Same captures writing) =
    IsBounded captures × IsLimited captures × IsWritable writing × AreFurther captures
IsInRange (Mirror captures writing) =
    IsBounded captures × IsLimited captures × IsWritable writing × AreFurther captures
IsInRange (Emit captures writing) =
    IsBounded captures × IsLimited captures × IsWritable writing × AreFurther captures
IsInRange (Change captures writing) =
    IsBounded captures × IsLimited captures × IsWritable writing × AreFurther captures

-- The numbers of the plan are in their ranges.
abbrev pub IsPlanInRange : CommandPlan → Type 0
IsPlanInRange (V4 task) = IsInRange task
IsPlanInRange (V6 task) = IsInRange task
IsPlanInRange Session = ⊤

-- ---- refusals

-- The fault of a refusal of `clap`, with its text. It is `Memory` if memory was refused, in `clap`
-- or for the text.
abbrev pub refusal_fault : ErrorKind → Result (String Global) AllocError → CommandFault
refusal_fault OutOfMemory text = cause.Memory
refusal_fault kind (Ok text) = cause.Clap (record { kind = kind; text = text })
refusal_fault kind (Err error) = cause.Memory
