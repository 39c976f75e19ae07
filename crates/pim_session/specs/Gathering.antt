-- The commands before `start`: rows for the router to come.
use Rattle.std.specs.Prelude.{ℕ, List, [], ◌∷◌, ◌++◌, map, codes, Option, None, Some}
use Rattle.std.specs.Prelude.{unwrap_or}
use Rattle.pim_addr.specs.declared.family.AddressFamily.{AddressFamily}
use Rattle.pim_addr.specs.declared.family.AddressFamily.TheVariants.{Ipv4, Ipv6}
use Rattle.pim_addr.specs.declared.route_fault.RouteFault.{RouteFault}
use Rattle.pim_addr.specs.declared.route_fault.RouteFault.TheVariants as route
use Rattle.pim_addr.specs.Routes.{Prefix, RouteTable, with_rp, with_via, rp_faults, via_faults}
use Rattle.pim_lines.specs.declared.either.AnyAddress.{AnyAddress}
use Rattle.pim_lines.specs.declared.either.AnyAddress.TheVariants.{V4, V6}
use Rattle.pim_request.specs.declared.command.PortRow.{PortRow}
use Rattle.pim_request.specs.declared.command.RouteRow.{RouteRow}
use Rattle.pim_lines.specs.AnyAddress.{address_bytes}
use Rattle.pim_router.specs.declared.config.ConfigFault.{ConfigFault}
use Rattle.pim_router.specs.declared.config.ConfigFault.TheVariants as config
use Rattle.pim_router.specs.Config.{config_faults}
use Rattle.pim_router.specs.State.{Port, Setup, new_router}
use Rattle.pim_answers.specs.Answered.{Refused, RefusedIf, RefusedBy, OrMemory, Done}
use Rattle.pim_answers.specs.Families.{differ_from, family_words}
use Rattle.pim_session.specs.State.{Gathered, Phase, gathering, serving}

-- ---- families

-- The family of an address.
abbrev pub family_of : AnyAddress → AddressFamily
family_of (V4 address) = Ipv4
family_of (V6 address) = Ipv6

-- The family of a row with this first address: the one that is fixed, else that of the address.
abbrev pub family_with : Gathered → AnyAddress → AddressFamily
family_with gathered address = unwrap_or gathered.family (family_of address)

-- ---- rows

-- The port of a row.
abbrev pub port_of : PortRow → Port
port_of row = record {
  address = address_bytes row.address;
  propagation = row.propagation;
  override_ms = row.override_ms;
}

-- The session before `start`, with one more port of this family.
abbrev pub with_port : AddressFamily → PortRow → Gathered → Gathered
with_port family row gathered = record {
  family = Some family;
  ports = gathered.ports ++ port_of row ∷ [];
  routes = gathered.routes;
  limit = gathered.limit;
}

-- The same with this route table.
abbrev pub with_routes : AddressFamily → RouteTable → Gathered → Gathered
with_routes family routes gathered =
    record { family = Some family; ports = gathered.ports; routes = routes; limit = gathered.limit }

-- The prefix of a row.
abbrev pub prefix_of : RouteRow → Prefix
prefix_of row = record { bits = row.length; address = address_bytes row.prefix }

-- The words of a row that the route table refuses.
abbrev pub route_words : RouteFault → List ℕ
route_words route.Length = codes "routes length"
route_words route.Bits = codes "routes bits"
route_words route.Kind = codes "routes kind"
route_words route.Twice = codes "routes twice"
route_words route.Full = codes "routes full"
route_words route.Memory = codes "memory"

-- `port`
abbrev pub AddsPort : PortRow → Gathered → List ℕ → Gathered → Type 0
AddsPort row gathered =
    RefusedIf (differ_from (family_with gathered row.address) (row.address ∷ [])) family_words gathered
    (OrMemory gathered (Done (with_port (family_with gathered row.address) row gathered)))

-- `rp` and `via`: these are the faults of the row, and this is the table with it.
abbrev pub AddsRow : RouteRow → (AddressFamily → List RouteFault) → RouteTable → Gathered → List ℕ →
    Gathered → Type 0
AddsRow row faults table gathered =
    RefusedIf (differ_from (family_with gathered row.prefix) (row.prefix ∷ row.to ∷ [])) family_words
    gathered
    (RefusedBy (map route_words (faults (family_with gathered row.prefix))) gathered
    (OrMemory gathered (Done (with_routes (family_with gathered row.prefix) table gathered))))

-- `rp`
abbrev pub AddsRp : RouteRow → Gathered → List ℕ → Gathered → Type 0
AddsRp row gathered =
    AddsRow row (λ family. rp_faults family (prefix_of row) (address_bytes row.to)
    gathered.routes.rps)
    (with_rp (prefix_of row) (address_bytes row.to) gathered.routes) gathered

-- `via`
abbrev pub AddsVia : RouteRow → Gathered → List ℕ → Gathered → Type 0
AddsVia row gathered =
    AddsRow row (λ family. via_faults family (prefix_of row) (address_bytes row.to)
    gathered.routes.vias)
    (with_via (prefix_of row) (address_bytes row.to) gathered.routes) gathered

-- The same with this limit.
abbrev pub with_limit : ℕ → Gathered → Gathered
with_limit limit gathered = record {
  family = gathered.family;
  ports = gathered.ports;
  routes = gathered.routes;
  limit = limit;
}

-- ---- the start

-- What the router is made from.
abbrev pub setup_of : Gathered → Setup
setup_of gathered =
    record { ports = gathered.ports; routes = gathered.routes; limit = gathered.limit }

-- The words of a configuration that a router refuses. Its delays and its limit are in their ranges
-- by the words of the commands.
abbrev pub config_words : ConfigFault → List ℕ
config_words (config.Address port) = codes "config address"
config_words config.Memory = codes "memory"
config_words other = codes "config ports"

-- `start`, where this family is fixed.
abbrev pub StartsIn : AddressFamily → Gathered → List ℕ → Phase → Type 0
StartsIn family gathered = RefusedBy (map config_words (config_faults family (setup_of gathered)))
    (gathering gathered)
    (OrMemory (gathering gathered) (Done (serving family (new_router (setup_of gathered)))))

-- `start`. Without a family there is no port.
abbrev pub Starts : Option AddressFamily → Gathered → List ℕ → Phase → Type 0
Starts None gathered = Refused (codes "config ports") (gathering gathered)
Starts (Some family) gathered = StartsIn family gathered
