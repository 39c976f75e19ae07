-- What receivers on the router's own links want: what a port wants that has joined all of it for ever
-- and prunes nothing (RFC 7761, 4.1.6).
use Rattle.std.specs.Prelude.{ℕ, List, map, Option, None, Some}
use Rattle.pim_down.specs.declared.machines.key.What.{What}
use Rattle.pim_down.specs.declared.machines.key.What.TheVariants.{Star, Source}
use Rattle.pim_down.specs.declared.machines.machine.Record.{Record}
use Rattle.pim_down.specs.declared.machines.machine.State.TheVariants.{Join as Joined}
use Rattle.pim_down.specs.Time.{Downstream}
use Rattle.pim_local.specs.Joins.{Join}

-- The machine of a join: that of the source, or of the star.
abbrev pub what_of : Option (List ℕ) → What (List ℕ)
what_of None = Star
what_of (Some source) = Source source

-- The record of a join: in Join, for ever.
abbrev pub joined : Join → Record (List ℕ)
joined join = record {
  key = record { port = 0; group = join.group; what = what_of join.source };
  machine = record { state = Joined; expires_in = None; pending = None };
}

-- The port that has joined all of this.
abbrev pub local_port : List Join → Downstream
local_port local = record { ports = 1; limit = 4096; moment = 0; records = map joined local }
