-- The routers and the writer that the words of a command ask for, and the faults of making them.
use Rattle.std.specs.Prelude.{◌≡◌, ⊤, ℕ, Bool, true, false, List, [], ◌∷◌, map, filter}
use Rattle.std.specs.Prelude.{Option, None, Some, Result, Ok, Err}
use Rattle.pim_addr.specs.declared.family.AddressFamily.{AddressFamily}
use Rattle.pim_addr.specs.Routes.{RouteTable}
use Rattle.pim_form.specs.Messages.{Writing as MessageWriting}
use Rattle.pim_form.specs.Seen.{writing_seen}
use Rattle.pim_form.specs.Writer.{has_bad_address}
use Rattle.pim_merge.specs.declared.end.End.{End}
use Rattle.pim_merge.specs.declared.end.End.TheVariants.{After, At}
use Rattle.pim_router.specs.declared.config.ConfigFault.{ConfigFault}
use Rattle.pim_router.specs.declared.config.ConfigFault.TheVariants as of_config
use Rattle.pim_router.specs.declared.config.PortConfig.{PortConfig}
use Rattle.pim_router.specs.Config.{config_faults}
use Rattle.pim_router.specs.Seen.{setup_seen}
use Rattle.pim_router.specs.State.{Setup}
use Rattle.pim_time.specs.declared.reading.Time.{Time}
use Rattle.pim_words.specs.declared.fault.ConfigCause.TheVariants as cause
use Rattle.pim_words.specs.declared.fault.RouterSide.{RouterSide}
use Rattle.pim_words.specs.declared.task.Captures.{Captures}
use Rattle.pim_words.specs.declared.task.Port.{Port}
use Rattle.pim_words.specs.declared.task.Writing.{Writing}
use Rattle.pim_words.specs.Faults.{is_of}
use Rattle.pim_faults.specs.declared.fault.Fault.{Fault}
use Rattle.pim_faults.specs.declared.fault.Fault.TheVariants.{Memory}
use Rattle.pim_faults.specs.Unopened.{config_refused, writer_refused}

-- ---- the end of the run

-- The end at this time if one is given, otherwise so long after the last record.
abbrev pub end_by : ℕ → Option Time → End
end_by after_ms None = After after_ms
end_by after_ms (Some time) = At time

-- The end of the run that the words ask for.
abbrev pub end_of : {A : Type 0} → Captures A → End
end_of captures = end_by captures.after_ms captures.at

-- ---- a router

-- The configuration of a port that a word names. Its delays are the defaults of RFC 7761, 4.11, in
-- milliseconds: Propagation_delay_default and t_override_default.
abbrev pub config_of : {A : Type 0} → Port A → PortConfig A
config_of port = record { address = port.address; propagation = 500; override_ms = 2500 }

-- The ports of a router: of one of two, or of the one of all ports.
abbrev pub ports_in : {A : Type 0} → Option RouterSide → List (Port A) → List (Port A)
ports_in None ports = ports
ports_in (Some side) ports = filter (is_of side) ports

-- The set-up of a router: its ports, the table and the limit on records.
abbrev pub setup_in : {A : Type 0} → (A → List ℕ) → Captures A → Option RouterSide → RouteTable → Setup
setup_in bytes_of captures side table =
    setup_seen bytes_of (map config_of (ports_in side captures.ports.items)) table captures.limit

-- ---- the writer

-- The writer's addresses, holdtime and budget.
abbrev pub writing_of : {A : Type 0} → (A → List ℕ) → Writing A → MessageWriting
writing_of bytes_of writing = writing_seen bytes_of writing.upstream writing.own writing.holdtime writing.budget

-- The writer, if its two addresses are different valid sources, otherwise the fault
-- `WriterAddress`.
abbrev pub IsWriterOf : AddressFamily → MessageWriting → Result MessageWriting Fault → Type 0
IsWriterOf family writing (Ok writer) = (writer ≡ writing) × (has_bad_address family writing ≡ false)
IsWriterOf family writing (Err fault) = (fault ≡ writer_refused) × (has_bad_address family writing ≡ true)

-- ---- faults of the program

-- The fault of a writer whose addresses aren't so.
abbrev pub writer_causes : Bool → List Fault
writer_causes true = writer_refused ∷ []
writer_causes false = []

-- The program's fault for a fault of a router's configuration.
abbrev pub config_fault : ConfigFault → Fault
config_fault (of_config.Address port) = config_refused cause.Address
config_fault of_config.Memory = Memory
config_fault other = config_refused cause.Ports

-- The faults of a set-up.
abbrev pub config_causes : AddressFamily → Setup → List Fault
config_causes family setup = map config_fault (config_faults family setup)

-- The fault is the first of these causes, or memory is refused.
abbrev pub IsFirstCause : List Fault → Fault → Type 0
IsFirstCause all Memory = ⊤
IsFirstCause [] fault = ⊥
IsFirstCause (first ∷ others) fault = fault ≡ first
