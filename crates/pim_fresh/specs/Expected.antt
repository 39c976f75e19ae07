-- What a machine is after some deliveries, by the first and the last of them that name it (RFC
-- 7761, 4.5.1 to 4.5.3).
use Rattle.std.specs.Prelude.{◌≡◌, ℕ, ◌+◌, ◌-◌, Bool, true, ◌&&◌, nat_lt}
use Rattle.std.specs.Prelude.{if◌then◌else◌, List, [], ◌∷◌, ◌++◌, Option, None, Some}
use Rattle.pim_down.specs.declared.machines.key.What.{What}
use Rattle.pim_down.specs.declared.machines.key.What.TheVariants.{Star, Source, Rpt}
use Rattle.pim_down.specs.declared.machines.key.Key.{Key}
use Rattle.pim_down.specs.declared.machines.machine.State.{State}
use Rattle.pim_down.specs.declared.machines.machine.State.TheVariants.{Join, PrunePending, Prune}
use Rattle.pim_down.specs.declared.machines.machine.Machine.{Machine}
use Rattle.pim_down.specs.declared.machines.event.Timing.{Timing}
use Rattle.pim_down.specs.Records.{machine_at}
use Rattle.pim_down.specs.Tables.{machine_in}
use Rattle.pim_down.specs.Hearing.{Event}
use Rattle.pim_down.specs.Time.{Downstream, expiry_after}
use Rattle.pim_fresh.specs.Exchange.{Exchange, starts, has_unit_of}
use Rattle.pim_fresh.specs.Deliveries.{Delivery, is_delivered}

-- The moments of the first and of the last delivery that names a machine.
pub record Span : Type 0 where
  pub first : ℕ
  pub last : ℕ

-- The span with one more delivery, at this moment.
abbrev pub up_to : ℕ → Option Span → Span
up_to moment None = record { first = moment; last = moment }
up_to moment (Some span) = record { first = span.first; last = moment }

-- The span of a machine, or `None` if no delivery names it.
unfoldable pub span_of : Exchange → Key (List ℕ) → List Delivery → Option Span
span_of exchange key [] = None
span_of exchange key (delivery ∷ earlier) =
    if has_unit_of exchange.port key (exchange.messages delivery.message)
    then Some (up_to delivery.moment (span_of exchange key earlier))
    else span_of exchange key earlier

-- What is left of the Expiry Timer: the holdtime less the time since the last delivery; without end
-- for 65,535.
abbrev pub time_left : Exchange → ℕ → Span → Option ℕ
time_left exchange moment span = expiry_after (moment - span.last) (starts exchange).expires_in

-- Whether the Prune-Pending Timer runs: the port has several neighbours, and
-- J/P_Override_Interval(I) since the first delivery isn't over.
abbrev pub is_waiting : Timing → ℕ → Span → Bool
is_waiting timing moment span = timing.several && nat_lt moment (span.first + timing.override_ms)

-- (*,G) and (S,G) are in Join. (S,G,rpt) is in Prune-Pending while others may override it, and in
-- Prune from then on.
abbrev pub unit_at : Exchange → ℕ → What (List ℕ) → Span → Option Machine
unit_at exchange moment Star span = machine_in Join (time_left exchange moment span) None
unit_at exchange moment (Source source) span = machine_in Join (time_left exchange moment span) None
unit_at exchange moment (Rpt source) span =
    if is_waiting exchange.timing moment span
    then machine_in PrunePending (time_left exchange moment span)
    (Some (record { ends_in = (span.first + exchange.timing.override_ms) - moment; several = true }))
    else machine_in Prune (time_left exchange moment span) None

-- A machine that no delivery names isn't held.
abbrev pub unit_of : Exchange → ℕ → What (List ℕ) → Option Span → Option Machine
unit_of exchange moment what None = None
unit_of exchange moment what (Some span) = unit_at exchange moment what span

-- What the machine is at this moment after these deliveries.
abbrev pub expected : Exchange → List Delivery → ℕ → Key (List ℕ) → Option Machine
expected exchange deliveries moment key = unit_of exchange moment key.what (span_of exchange key deliveries)

-- At this moment each machine is the one that is expected.
abbrev pub IsAsExpected : Exchange → List Delivery → ℕ → Downstream → Type 0
IsAsExpected exchange deliveries moment state =
    (key : Key (List ℕ)) → machine_at key state.records ≡ expected exchange deliveries moment key

-- ---- from the final moment on

-- The state that a unit asks for: Join for (*,G) and (S,G), Prune for (S,G,rpt).
abbrev pub state_wanted : What (List ℕ) → State
state_wanted Star = Join
state_wanted (Source source) = Join
state_wanted (Rpt source) = Prune

-- A unit that was delivered, in the state that it asks for and without a Prune-Pending Timer. Other
-- machines aren't held.
abbrev pub machine_wanted : Exchange → ℕ → What (List ℕ) → Option Span → Option Machine
machine_wanted exchange moment what None = None
machine_wanted exchange moment what (Some span) = machine_in (state_wanted what) (time_left exchange moment span) None

-- Each unit that was delivered is in the state that it asks for, without a Prune-Pending Timer, and
-- no other machine is held.
abbrev pub IsAsWanted : Exchange → List Delivery → ℕ → Downstream → Type 0
IsAsWanted exchange deliveries moment state = (key : Key (List ℕ)) →
    machine_at key state.records ≡ machine_wanted exchange moment key.what (span_of exchange key deliveries)

-- ---- the number of units

-- The units of the different messages that were delivered.
unfoldable pub units_of : Exchange → List Delivery → List Event
units_of exchange [] = []
units_of exchange (delivery ∷ earlier) =
    (if is_delivered delivery.message earlier then [] else exchange.messages delivery.message)
    ++ units_of exchange earlier
