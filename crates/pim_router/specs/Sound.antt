-- The invariant of a router between calls.
use Rattle.std.specs.Prelude.{◌≡◌, ℕ, ◌≤◌, false, List, length}
use Rattle.std.specs.List.{AllByRecursion}
use Rattle.pim_hello.specs.Neighbours.{Neighbour, Table, is_over, neighbour_limit}
use Rattle.pim_router.specs.State.{Port, RouterState, refresh_period}

-- The neighbour's time isn't over: its Neighbor Liveness Timer hasn't ended (RFC 7761, 4.3.2).
abbrev pub HasTime : List ℕ × Neighbour → Type 0
HasTime entry = is_over entry.1.left ≡ false

-- The table has this moment, and no neighbour's time is over.
pub record IsCurrent (moment : ℕ) (table : Table) : Type 0 where
  pub moment_now : table.moment ≡ moment
  pub none_ended : AllByRecursion HasTime table.entries

-- There are machines and a neighbour table for each port, all at one moment, and no neighbour's
-- time is over. No table has more neighbours than the limit. Each propagation delay has 15 bits.
-- The next refresh comes within t_periodic.
pub record IsRouter (state : RouterState) : Type 0 where
  pub ports : length state.ports ≡ state.machines.ports
  pub tables : length state.tables ≡ state.machines.ports
  pub delays : AllByRecursion (λ (port : Port). port.propagation ≤ 32767) state.ports
  pub current : AllByRecursion (IsCurrent state.machines.moment) state.tables
  pub few : AllByRecursion (λ (table : Table). length table.entries ≤ neighbour_limit) state.tables
  pub refresh : state.refresh ≤ refresh_period
