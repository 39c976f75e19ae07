-- How contracts see values of the code: an address as its list of bytes, the next refresh as the
-- time that is left until it.
use Rattle.std.specs.Prelude.{ℕ, ◌-◌, List, map}
use Rattle.pim_addr.specs.Routes.{RouteTable}
use Rattle.pim_hello.specs.Neighbours.{Table}
use Rattle.pim_down.specs.Time.{Downstream}
use Rattle.pim_router.specs.declared.config.PortConfig.{PortConfig}
use Rattle.pim_router.specs.declared.step.Step.{Step}
use Rattle.pim_router.specs.declared.step.Step.TheVariants.{Echo, Refresh, Reached}
use Rattle.pim_down.specs.Seen.{what_seen}
use Rattle.pim_router.specs.Packets.{Packet}
use Rattle.pim_router.specs.State.{Port, Setup, RouterState}

module _ {A : Type 0} (bytes_of : A → List ℕ) where
  -- How contracts see the configuration of a port.
  abbrev pub port_seen : PortConfig A → Port
  port_seen port =
      record { address = bytes_of port.address; propagation = port.propagation; override_ms = port.override_ms }

  -- How contracts see the configuration of a router.
  abbrev pub setup_seen : List (PortConfig A) → RouteTable → ℕ → Setup
  setup_seen ports routes limit = record { ports = map port_seen ports; routes = routes; limit = limit }

  -- How contracts see a router. The code keeps the moment of the next refresh; the state keeps the
  -- time until then.
  abbrev pub router_seen : List (PortConfig A) → RouteTable → Downstream → List Table → ℕ → RouterState
  router_seen ports routes machines tables next_refresh = record {
    ports = map port_seen ports;
    routes = routes;
    machines = machines;
    tables = tables;
    refresh = next_refresh - machines.moment;
  }

  -- How contracts see a received packet.
  abbrev pub packet_seen : ℕ → A → A → List ℕ → Packet
  packet_seen port source destination bytes = record {
    port = port;
    source = bytes_of source;
    destination = bytes_of destination;
    bytes = bytes;
  }

  -- How contracts see the end of a run.
  abbrev pub step_seen : Step A → Step (List ℕ)
  step_seen (Echo port group what) = Echo port (bytes_of group) (what_seen bytes_of what)
  step_seen Refresh = Refresh
  step_seen Reached = Reached
