-- What a Hello says (RFC 7761, 4.9.2). Each option may be absent.
use Rattle.std.specs.Prelude.{ℕ, Bool, List, Option}

-- The LAN Prune Delay option: the T bit, and the sender's Propagation_Delay and Override_Interval
-- in milliseconds.
pub record Delays : Type 0 where
  pub t : Bool
  pub propagation : ℕ
  pub override_ms : ℕ

-- All options except the Address List, which are kept of a neighbour: Holdtime in seconds, LAN
-- Prune Delay, DR Priority and Generation ID.
pub record Parameters : Type 0 where
  pub holdtime : Option ℕ
  pub lan : Option Delays
  pub priority : Option ℕ
  pub generation : Option ℕ

-- A Hello: its parameters, and those addresses of its Address List that are of the message's
-- family. Without that option there are none.
pub record Hello : Type 0 where
  pub parameters : Parameters
  pub addresses : List (List ℕ)
