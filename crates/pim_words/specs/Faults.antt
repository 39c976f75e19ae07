-- The faults of a task whose texts were all read, in the order in which they are reported.
use Rattle.std.specs.Prelude.{ℕ, Bool, true, false, not, List, [], ◌++◌, ◌&&◌, ◌||◌, ◌==◌, nat_lt, count_by, bytes_eq}
use Rattle.std.specs.List.{list_all, list_any}
use Rattle.std.specs.Option.{option_map_or}
use Rattle.pim_addr.specs.Address.{is_source}
use Rattle.pim_addr.specs.Faults.{fault_if}
use Rattle.pim_addr.specs.declared.family.AddressFamily.{AddressFamily}
use Rattle.pim_addr.specs.declared.family.AddressFamily.TheVariants.{Ipv4, Ipv6}
use Rattle.pim_lines.specs.declared.either.AnyAddress.{AnyAddress}
use Rattle.pim_lines.specs.declared.either.AnyAddress.TheVariants.{V4, V6}
use Rattle.pim_lines.specs.AnyAddress.{is_in}
use Rattle.pim_words.specs.declared.fault.ConfigCause.TheVariants as config
use Rattle.pim_words.specs.declared.fault.CommandFault.{CommandFault}
use Rattle.pim_words.specs.declared.fault.CommandFault.TheVariants.{Family, NoPort, WriterAddress, Config}
use Rattle.pim_words.specs.declared.fault.RouterSide.{RouterSide}
use Rattle.pim_words.specs.declared.fault.RouterSide.TheVariants.{A, B}
use Rattle.pim_words.specs.declared.task.Captures.{Captures}
use Rattle.pim_words.specs.declared.task.Port.{Port}
use Rattle.pim_words.specs.declared.task.Tracing.{Tracing}
use Rattle.pim_words.specs.declared.task.Writing.{Writing}
use Rattle.pim_words.specs.declared.task.Task.{Task}
use Rattle.pim_words.specs.declared.task.Task.TheVariants.{Check, CheckPartial, Build, Replay, Trace, Audit, Same, Mirror, Emit, Change}

-- ---- addresses

-- Whether the address is a valid source.
abbrev pub is_valid : AnyAddress → Bool
is_valid (V4 address) = is_source Ipv4 address
is_valid (V6 address) = is_source Ipv6 address

-- Whether two addresses are the same.
abbrev pub is_same : AnyAddress → AnyAddress → Bool
is_same (V4 this) (V4 that) = bytes_eq this that
is_same (V6 this) (V6 that) = bytes_eq this that
is_same this that = false

-- ---- all addresses of a task

-- Whether the RP and the addresses of all ports are of this family.
abbrev pub are_captures_in : AddressFamily → Captures AnyAddress → Bool
are_captures_in family captures =
    option_map_or (is_in family) captures.rp true && list_all (λ port. is_in family port.address) captures.ports.items

-- Whether the groups and the sources that a trace or an audit shows are of this family.
abbrev pub is_tracing_in : AddressFamily → Tracing AnyAddress → Bool
is_tracing_in family tracing =
    list_all (is_in family) tracing.groups.items && list_all (is_in family) tracing.sources.items

-- Whether the addresses of the writer are of this family.
abbrev pub is_writing_in : AddressFamily → Writing AnyAddress → Bool
is_writing_in family writing = is_in family writing.upstream && is_in family writing.own

-- Whether all addresses of the task are of this family.
abbrev pub are_in : AddressFamily → Task AnyAddress → Bool
are_in family (Check source destination) = is_in family source && is_in family destination
are_in family (CheckPartial source destination) = is_in family source && is_in family destination
are_in family (Build source destination) = is_in family source && is_in family destination
are_in family (Replay captures) = are_captures_in family captures
are_in family (Trace captures tracing) = are_captures_in family captures && is_tracing_in family tracing
are_in family (Audit captures auditing tracing) =
    are_captures_in family captures && (is_in family auditing.upstream && is_tracing_in family tracing)
are_in family (Same captures writing) = are_captures_in family captures && is_writing_in family writing
are_in family (Mirror captures writing) = are_captures_in family captures && is_writing_in family writing
are_in family (Emit captures writing) = are_captures_in family captures && is_writing_in family writing
are_in family (Change captures writing) = are_captures_in family captures && is_writing_in family writing

-- ---- faults

-- The fault of addresses that aren't all of one family.
abbrev pub family_faults : Task AnyAddress → List CommandFault
family_faults task = fault_if (not (are_in Ipv4 task || are_in Ipv6 task)) Family

-- Whether the two are the same router.
abbrev pub is_side : RouterSide → RouterSide → Bool
is_side A A = true
is_side B B = true
is_side this that = false

-- Whether the port belongs to this router.
abbrev pub is_of : {A : Type 0} → RouterSide → Port A → Bool
is_of side port = is_side side port.side

-- The number of ports of this router.
abbrev pub port_count : RouterSide → Captures AnyAddress → ℕ
port_count side captures = count_by (is_of side) captures.ports.items

-- The faults of words without a port of router a, or of router b.
abbrev pub no_port_faults : Captures AnyAddress → List CommandFault
no_port_faults captures =
    fault_if (port_count A captures == 0) (NoPort A) ++ fault_if (port_count B captures == 0) (NoPort B)

-- The fault of a writer whose addresses aren't two different valid sources.
abbrev pub writer_faults : Writing AnyAddress → List CommandFault
writer_faults writing =
    fault_if (not (is_valid writing.upstream) || not (is_valid writing.own) || is_same writing.own writing.upstream)
    WriterAddress

-- Whether the address is that of a port.
abbrev pub is_of_port : AnyAddress → Captures AnyAddress → Bool
is_of_port address captures = list_any (λ port. is_same port.address address) captures.ports.items

-- The fault of an upstream neighbour that isn't a valid source, or has the address of a port.
abbrev pub upstream_faults : AnyAddress → Captures AnyAddress → List CommandFault
upstream_faults upstream captures = fault_if (not (is_valid upstream) || is_of_port upstream captures) WriterAddress

-- The faults of a router: it has no port or more than 64, a port's address isn't a valid source, or
-- the RP isn't.
abbrev pub router_faults : RouterSide → Captures AnyAddress → List CommandFault
router_faults side captures =
    fault_if (port_count side captures == 0 || nat_lt 64 (port_count side captures)) (Config config.Ports)
    ++ fault_if (list_any (λ port. is_of side port && not (is_valid port.address)) captures.ports.items)
    (Config config.Address)
    ++ fault_if (option_map_or (λ rp. not (is_valid rp)) captures.rp false) (Config config.Rp)

-- The faults of a task with two routers and a writer.
abbrev pub faults_of_two : Captures AnyAddress → Writing AnyAddress → List CommandFault
faults_of_two captures writing =
    no_port_faults captures ++ (writer_faults writing ++ (router_faults A captures ++ router_faults B captures))

-- The faults of a task's routers, and of its writer or upstream neighbour.
abbrev pub setting_faults : Task AnyAddress → List CommandFault
setting_faults (Check source destination) = []
setting_faults (CheckPartial source destination) = []
setting_faults (Build source destination) = []
setting_faults (Replay captures) = router_faults A captures
setting_faults (Trace captures tracing) = router_faults A captures
setting_faults (Audit captures auditing tracing) =
    upstream_faults auditing.upstream captures ++ router_faults A captures
setting_faults (Same captures writing) = faults_of_two captures writing
setting_faults (Mirror captures writing) = writer_faults writing ++ router_faults A captures
setting_faults (Emit captures writing) = writer_faults writing ++ router_faults A captures
setting_faults (Change captures writing) = faults_of_two captures writing

-- The faults of a task: of its family, then the others.
abbrev pub task_faults : Task AnyAddress → List CommandFault
task_faults task = family_faults task ++ setting_faults task
