-- The events of time that passes: neighbours that time out, and timers that fire.
use Rattle.std.specs.Prelude.{◌≡◌, ℕ, ◌-◌, List, [], ◌∷◌, Option, None, is_some, if◌then◌else◌, map, Result, Ok, Err}
use Rattle.std.specs.Io.KnownBytes.{Appends}
use Rattle.std.specs.List.{flat_map}
use Rattle.pim_device.specs.Device.{AppendsFront}
use Rattle.pim_hello.specs.Neighbours.{Table, passed_to}
use Rattle.pim_down.specs.declared.machines.step.Firing.{Firing}
use Rattle.pim_down.specs.declared.machines.step.Timer.{Timer}
use Rattle.pim_down.specs.declared.machines.step.Timer.TheVariants.{PrunePending, Expiry}
use Rattle.pim_router.specs.Happening.{Happening, timed_out, timer_fired, Happens, at_moment}
use Rattle.pim_router.specs.Happening.{gone_of, gone_from, gone_within}
use Rattle.pim_router.specs.State.{RouterState}
use Rattle.pim_events.specs.declared.event.Cause.{Cause}
use Rattle.pim_events.specs.declared.event.Fired.{Fired}
use Rattle.pim_events.specs.Events.{Occurrence, neighbour_gone}
use Rattle.pim_events.specs.Events as events
use Rattle.pim_trace.specs.declared.ledger.Causes.{Causes}
use Rattle.pim_trace.specs.declared.ledger.Sent.{Sent}
use Rattle.pim_trace.specs.Ledger.{Ledger, causes_of, sent_or_none, with_hello, forgetting}
use Rattle.pim_trace.specs.Heard.{event_on}

-- The packet that set this timer.
abbrev pub cause_of : Timer → Causes (List ℕ) → Cause (List ℕ)
cause_of PrunePending causes = causes.pending
cause_of Expiry causes = causes.expiry

-- A timer that fired, with the packet that set it.
abbrev pub fired_by : Ledger → Firing (List ℕ) → Fired (List ℕ)
fired_by ledger firing = record {
  timer = firing.timer;
  group = firing.before.key.group;
  what = firing.before.key.what;
  before = firing.before.machine.state;
  after = firing.after;
  echo = firing.echo;
  cause = cause_of firing.timer (causes_of firing.before.key ledger);
}

-- The event of what happens at this moment.
abbrev pub event_of : Ledger → ℕ → Happening → Occurrence
event_of ledger ms (timed_out port address) =
    let sent : Sent = sent_or_none (ledger.hellos port address) in
    event_on ledger ms port (neighbour_gone (record { neighbour = address; frame = sent.frame; ms = sent.ms }))
event_of ledger ms (timer_fired firing) =
    event_on ledger ms firing.before.key.port (events.timer_fired (fired_by ledger firing))

-- What is remembered after it: a neighbour that timed out and a machine that ended are forgotten.
abbrev pub after_happening : Happening → Ledger → Ledger
after_happening (timed_out port address) ledger = with_hello port address None ledger
after_happening (timer_fired firing) ledger =
    if is_some firing.after then ledger else forgetting firing.before.key ledger

-- The events of what happens, each with its moment, one after the other.
unfoldable pub events_in : Ledger → List (ℕ × Happening) → List Occurrence
events_in ledger [] = []
events_in ledger (first ∷ others) =
    event_of ledger first.0 first.1 ∷ events_in (after_happening first.1 ledger) others

-- What is remembered after all of it.
unfoldable pub after_all : Ledger → List (ℕ × Happening) → Ledger
after_all ledger [] = ledger
after_all ledger (first ∷ others) = after_all (after_happening first.1 ledger) others

-- The router runs to the moment. These are the events on the way, and `ledger'` is what the trace
-- remembers then.
pub record PassesTime (moment : ℕ) (ledger : Ledger) (state : RouterState) (events : List Occurrence)
    (ledger' : Ledger) (after : RouterState) : Type 0 where
  pub happened : List (ℕ × Happening)
  pub happens : Happens moment state happened after
  pub events_are : events ≡ events_in ledger happened
  pub ledger_is : ledger' ≡ after_all ledger happened

-- ---- what private calls write

-- What happened was written, where `line` is what is written of an event: at Ok all of it, and
-- `ledger'` is what the trace remembers then. At Err a front of what is written of it.
abbrev pub WritesAll : {A E : Type 0} → (Occurrence → List ℕ) → List (ℕ × Happening) → Ledger → Ledger →
    Option (List ℕ) → Option (List ℕ) → Result A E → Type 0
WritesAll line happened ledger ledger' old new (Ok done) =
    (ledger' ≡ after_all ledger happened) × Appends old new (flat_map line (events_in ledger happened))
WritesAll line happened ledger ledger' old new (Err fault) =
    AppendsFront old new (flat_map line (events_in ledger happened))

-- The neighbours of a port whose time is over at this moment.
abbrev pub time_outs_on : ℕ → ℕ → Table → List (ℕ × Happening)
time_outs_on port end table = at_moment end (gone_of port (passed_to end table))

-- The neighbours of all ports whose time is over at this moment.
abbrev pub time_outs : ℕ → List Table → List (ℕ × Happening)
time_outs end tables = at_moment end (gone_from 0 (map (passed_to end) tables))

-- The neighbours that go up to this moment.
abbrev pub gone_by : ℕ → RouterState → List (ℕ × Happening)
gone_by moment state = gone_within (moment - state.machines.moment) state.machines.moment state.tables
