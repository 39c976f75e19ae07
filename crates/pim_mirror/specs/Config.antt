-- A fresh router that hears one sender (RFC 7761, 4.3 and 4.5): what it is made from, its
-- neighbours, and the deliveries of messages to it.
use Rattle.std.specs.Prelude.{ℕ, List, [], ◌∷◌, map, reverse, false, None, Some}
use Rattle.pim_addr.specs.Routes.{RouteTable}
use Rattle.pim_hello.specs.Hello.{Parameters}
use Rattle.pim_hello.specs.Interval.{jp_override_interval}
use Rattle.pim_hello.specs.Kept.{parameters_seen}
use Rattle.pim_router.specs.Seen.{port_seen}
use Rattle.pim_router.specs.State.{Port, Setup}
use Rattle.pim_fresh.specs.Deliveries.{Delivery, final_moment}
use Rattle.pim_mirror.specs.declared.config.OtherNeighbour.{OtherNeighbour}
use Rattle.pim_mirror.specs.declared.config.Delivery as code
use Rattle.pim_mirror.specs.declared.config.FreshConfig.{FreshConfig}

-- A neighbour: its address, and the parameters of its Hello.
pub record Neighbour : Type 0 where
  pub address : List ℕ
  pub hello : Parameters

-- A fresh router, which is to have one port, and what comes to it. `limit` is the most records that
-- the port may hold, `others` are the neighbours beside the sender. The deliveries are in the order
-- in which they come.
pub record Fresh : Type 0 where
  pub ports : List Port
  pub routes : RouteTable
  pub limit : ℕ
  pub sender : List ℕ
  pub others : List Neighbour
  pub deliveries : List Delivery

-- The first port of a list.
abbrev pub first_port : List Port → Port
first_port [] = record { address = []; propagation = 0; override_ms = 0 }
first_port (port ∷ ports) = port

-- The only port of the fresh router.
abbrev pub port_of : Fresh → Port
port_of fresh = first_port fresh.ports

-- The sender's Hello: holdtime 65,535, the port's own delays as its LAN Prune Delay, and no other
-- option (RFC 7761, 4.9.2).
abbrev pub sender_hello : Port → Parameters
sender_hello port = record {
  holdtime = Some 65535;
  lan = Some (record { t = false; propagation = port.propagation; override_ms = port.override_ms });
  priority = None;
  generation = None;
}

-- The neighbours of the port, the sender first.
abbrev pub neighbours : Fresh → List Neighbour
neighbours fresh = record { address = fresh.sender; hello = sender_hello (port_of fresh) } ∷ fresh.others

-- The override interval of the port after the Hellos of all its neighbours, in milliseconds:
-- J/P_Override_Interval(I) (RFC 7761, 4.3.3).
abbrev pub interval_of : Fresh → ℕ
interval_of fresh = jp_override_interval (port_of fresh).propagation (port_of fresh).override_ms
    (map (λ (neighbour : Neighbour). neighbour.hello) (neighbours fresh))

-- The deliveries from the newest to the oldest, as `pim_fresh` lists them.
abbrev pub newest_first : Fresh → List Delivery
newest_first fresh = reverse fresh.deliveries

-- The final moment of the fresh router: that of the last delivery, or the end of the override
-- interval that began with the latest first delivery of a message, whichever is later.
abbrev pub end_of : Fresh → ℕ
end_of fresh = final_moment (interval_of fresh) (newest_first fresh)

-- What the fresh router is made from.
abbrev pub setup_of : Fresh → Setup
setup_of fresh = record { ports = fresh.ports; routes = fresh.routes; limit = fresh.limit }

-- ---- how contracts see values of the code

-- How contracts see a delivery.
abbrev pub delivery_seen : code.Delivery → Delivery
delivery_seen delivery = record { message = delivery.message; moment = delivery.moment }

module _ {A : Type 0} (bytes_of : A → List ℕ) where
  -- How contracts see another neighbour.
  abbrev pub neighbour_seen : OtherNeighbour A → Neighbour
  neighbour_seen other = record { address = bytes_of other.address; hello = parameters_seen other.hello }

  -- How contracts see a fresh router's configuration.
  abbrev pub fresh_seen : {F N : Type 0} → FreshConfig F A N → Fresh
  fresh_seen fresh = record {
    ports = map (port_seen bytes_of) fresh.ports.now;
    routes = fresh.routes.now;
    limit = fresh.limit;
    sender = bytes_of fresh.sender;
    others = map neighbour_seen fresh.others.now;
    deliveries = map delivery_seen fresh.deliveries.now;
  }
