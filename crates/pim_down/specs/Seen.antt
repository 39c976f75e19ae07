-- How contracts see values of the code: addresses as their lists of bytes, and deadlines as
-- countdowns.
use Rattle.std.specs.Prelude.{ℕ, List, [], ◌∷◌, Option, None, Some, map}
use Rattle.pim_down.specs.declared.machines.held.Held.{Held}
use Rattle.pim_down.specs.declared.machines.key.What.{What}
use Rattle.pim_down.specs.declared.machines.key.What.TheVariants.{Star, Source, Rpt}
use Rattle.pim_down.specs.declared.machines.key.Key.{Key}
use Rattle.pim_down.specs.declared.machines.machine.Record.{Record}
use Rattle.pim_down.specs.declared.machines.event.Event.{Event as EventOf}
use Rattle.pim_down.specs.declared.machines.held.Start.{Start as StartOf}
use Rattle.pim_down.specs.declared.machines.held.Timed.{Timed}
use Rattle.pim_down.specs.declared.machines.held.Waiting.{Waiting}
use Rattle.pim_down.specs.declared.machines.machine.Pending.{Pending}
use Rattle.pim_down.specs.declared.machines.machine.Machine.{Machine}
use Rattle.pim_down.specs.declared.machines.step.Firing.{Firing}
use Rattle.pim_down.specs.declared.machines.step.Step.{Step}
use Rattle.pim_down.specs.declared.machines.step.Step.TheVariants.{Echo, Reached}
use Rattle.pim_down.specs.Tables.{Start}
use Rattle.pim_down.specs.Hearing.{Event}
use Rattle.pim_down.specs.Time.{record_after}

-- A Prune-Pending Timer with its deadline as a countdown. Deadlines count from the moment 0, so at
-- that moment the deadline is the time that is left.
abbrev pub timer_seen : Waiting → Pending
timer_seen timer = record { ends_in = timer.ends_at; several = timer.several }

-- The Prune-Pending Timer of a machine, if one runs, as a countdown from the moment 0.
abbrev pub waiting_seen : Option Waiting → Option Pending
waiting_seen None = None
waiting_seen (Some timer) = Some (timer_seen timer)

-- A machine with its deadlines as countdowns from the moment 0.
abbrev pub timed_seen : Timed → Machine
timed_seen held = record { state = held.state; expires_in = held.expires_at; pending = waiting_seen held.pending }

-- The same of a machine that may be in NoInfo.
abbrev pub machine_seen : Option Timed → Option Machine
machine_seen None = None
machine_seen (Some held) = Some (timed_seen held)

-- The timers that a message starts, as countdowns from the moment 0.
abbrev pub start_seen : StartOf → Start
start_seen start = record { expires_in = start.expires_at; pending = timer_seen start.pending }

module _ {A : Type 0} (bytes_of : A → List ℕ) where
  -- Which machine of a group it is, with the source as a list of bytes.
  abbrev pub what_seen : What A → What (List ℕ)
  what_seen Star = Star
  what_seen (Source source) = Source (bytes_of source)
  what_seen (Rpt source) = Rpt (bytes_of source)

  -- A key with its addresses as lists of bytes.
  abbrev pub key_seen : Key A → Key (List ℕ)
  key_seen key = record { port = key.port; group = bytes_of key.group; what = what_seen key.what }

  -- A record with its deadlines as countdowns from the moment 0, and its addresses as lists of
  -- bytes.
  abbrev pub record_seen : Held A → Record (List ℕ)
  record_seen held = record { key = key_seen held.key; machine = timed_seen held.machine }

  -- The key of this machine, with its addresses as lists of bytes.
  abbrev pub key_at : ℕ → A → What A → Key (List ℕ)
  key_at port group what = record { port = port; group = bytes_of group; what = what_seen what }

  -- A returned record, with its addresses as lists of bytes.
  abbrev pub record_of_seen : Record A → Record (List ℕ)
  record_of_seen reported = record { key = key_seen reported.key; machine = reported.machine }

  -- How a run ended, with addresses as lists of bytes.
  abbrev pub step_seen : Step A → Step (List ℕ)
  step_seen (Echo port group what) = Echo port (bytes_of group) (what_seen what)
  step_seen Reached = Reached

  -- A timer that fired, with addresses as lists of bytes.
  abbrev pub firing_seen : Firing A → Firing (List ℕ)
  firing_seen fired =
      record { timer = fired.timer; before = record_of_seen fired.before; after = fired.after; echo = fired.echo }

  -- Records with their deadlines as countdowns from the moment 0.
  abbrev pub records_seen : List (Held A) → List (Record (List ℕ))
  records_seen records = map record_seen records

  -- Records with their deadlines as countdowns from this moment.
  abbrev pub shown : ℕ → List (Held A) → List (Record (List ℕ))
  shown moment records = map (record_after moment) (records_seen records)

  -- An event with its addresses as lists of bytes.
  abbrev pub event_seen : EventOf A → Event
  event_seen event = record { joins = event.joins; group = bytes_of event.group; what = what_seen event.what }

  -- An event, or none, as a list of events.
  abbrev pub events_seen : Option (EventOf A) → List Event
  events_seen None = []
  events_seen (Some event) = event_seen event ∷ []
