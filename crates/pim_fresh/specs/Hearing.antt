-- The machines of a port that heard nothing but these deliveries.
use Rattle.std.specs.Prelude.{ℕ, List, [], ◌∷◌}
use Rattle.pim_down.specs.declared.machines.step.Step.TheVariants.{Reached}
use Rattle.pim_down.specs.Hearing.{hearing}
use Rattle.pim_down.specs.Time.{Downstream, with_records, Runs}
use Rattle.pim_fresh.specs.Exchange.{Exchange, starts}
use Rattle.pim_fresh.specs.Deliveries.{Delivery}

-- Ports that hold no machine, at the moment 0.
abbrev pub fresh : ℕ → ℕ → Downstream
fresh ports limit = record { ports = ports; limit = limit; moment = 0; records = [] }

-- The machines after this message, before any timer fires.
abbrev pub after_message : Exchange → ℕ → Downstream → Downstream
after_message exchange message state =
    with_records state (hearing exchange.port (starts exchange) (exchange.messages message) state.records)

-- Some machines with the property `Before` become `after` by the change and a run that reaches the
-- moment without an echo.
pub record Goes (Before : Downstream → Type 0) (change : Downstream → Downstream) (moment : ℕ) (after : Downstream) :
    Type 0 where
  pub before : Downstream
  pub was : Before before
  pub runs : Runs moment (change before) Reached after

-- These deliveries to a fresh port, and a run up to the moment, leave these machines. Before each
-- delivery the port runs to its moment, and no run stops at an echo.
unfoldable pub Leaves : Exchange → ℕ → ℕ → List Delivery → ℕ → Downstream → Type 0
Leaves exchange ports limit [] moment after = Runs moment (fresh ports limit) Reached after
Leaves exchange ports limit (delivery ∷ earlier) moment after =
    Goes (Leaves exchange ports limit earlier delivery.moment) (after_message exchange delivery.message) moment after
