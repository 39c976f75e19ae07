-- The state of a session: what is gathered for a router, or the router, and what is kept under
-- names.
use Rattle.std.specs.Prelude.{ℕ, List, [], Option, None}
use Rattle.pim_addr.specs.declared.family.AddressFamily.{AddressFamily}
use Rattle.pim_addr.specs.Routes.{RouteTable, no_routes}
use Rattle.pim_router.specs.State.{Port, RouterState}
use Rattle.pim_answers.specs.Kept.{Kept}

-- What the commands before `start` gave. The first row that was accepted fixes the family.
pub record Gathered : Type 0 where
  pub family : Option AddressFamily
  pub ports : List Port
  pub routes : RouteTable
  -- the most records that a port may hold
  pub limit : ℕ

-- Before and after `start`.
pub data Phase : Type 0 where
  gathering : Gathered → Phase
  serving : AddressFamily → RouterState → Phase

-- The state of a session.
pub record Session : Type 0 where
  pub phase : Phase
  pub kept : List Kept

-- Nothing was given: the limit of records is the program's.
abbrev pub nothing_gathered : Gathered
nothing_gathered = record { family = None; ports = []; routes = no_routes; limit = 100000 }

-- The session at its begin.
abbrev pub new_session : Session
new_session = record { phase = gathering nothing_gathered; kept = [] }
