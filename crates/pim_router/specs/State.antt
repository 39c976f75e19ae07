-- The state of a router: its ports and route table, the downstream machines, the neighbours of each
-- port, and the countdown to the next refresh.
use Rattle.std.specs.Prelude.{ℕ, List, [], length, replicate, slice_index_or}
use Rattle.pim_addr.specs.Routes.{RouteTable}
use Rattle.pim_hello.specs.Neighbours.{Table, no_neighbours}
use Rattle.pim_down.specs.Time.{Downstream}

-- A port: its own address, and its own Propagation_Delay and Override_Interval in milliseconds (RFC
-- 7761, 4.3.3).
pub record Port : Type 0 where
  pub address : List ℕ
  pub propagation : ℕ
  pub override_ms : ℕ

-- What a router is made from. `limit` is the most records that a port may hold.
pub record Setup : Type 0 where
  pub ports : List Port
  pub routes : RouteTable
  pub limit : ℕ

-- The state of a router. `tables` has the neighbours of each port, in port order. `refresh` is the
-- time to the next refresh, in milliseconds. The present moment is that of `machines`.
pub record RouterState : Type 0 where
  pub ports : List Port
  pub routes : RouteTable
  pub machines : Downstream
  pub tables : List Table
  pub refresh : ℕ

-- The period of the refreshes, in milliseconds: t_periodic, 60 s (RFC 7761, 4.11).
abbrev pub refresh_period : ℕ
refresh_period = 60000

-- The ports, the route table and the record limit of a router.
abbrev pub setup_of : RouterState → Setup
setup_of state = record { ports = state.ports; routes = state.routes; limit = state.machines.limit }

-- A new router at the moment 0: no records, no neighbours, the first refresh in 60 s.
abbrev pub new_router : Setup → RouterState
new_router setup = record {
  ports = setup.ports;
  routes = setup.routes;
  machines = record { ports = length setup.ports; limit = setup.limit; moment = 0; records = [] };
  tables = replicate (length setup.ports) no_neighbours;
  refresh = refresh_period;
}

-- The router with other downstream machines, and all else equal.
abbrev pub with_machines : RouterState → Downstream → RouterState
with_machines state machines = record {
  ports = state.ports;
  routes = state.routes;
  machines = machines;
  tables = state.tables;
  refresh = state.refresh;
}

-- The router with other neighbour tables, and all else equal.
abbrev pub with_tables : RouterState → List Table → RouterState
with_tables state tables = record {
  ports = state.ports;
  routes = state.routes;
  machines = state.machines;
  tables = tables;
  refresh = state.refresh;
}

-- The router with another time to the next refresh, and all else equal.
abbrev pub with_refresh : RouterState → ℕ → RouterState
with_refresh state refresh = record {
  ports = state.ports;
  routes = state.routes;
  machines = state.machines;
  tables = state.tables;
  refresh = refresh;
}

-- The port with this number, from 0.
abbrev pub port_at : ℕ → RouterState → Port
port_at port state = slice_index_or state.ports port (record { address = []; propagation = 0; override_ms = 0 })

-- The neighbours of the port with this number, including those whose time is over.
abbrev pub table_at : ℕ → RouterState → Table
table_at port state = slice_index_or state.tables port no_neighbours
