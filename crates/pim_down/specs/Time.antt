-- What time does to the downstream machines (RFC 7761, 4.5): a run, millisecond by millisecond, in
-- which timers count down. ET is the Expiry Timer and PPT the Prune-Pending Timer; a timer at 0 is
-- due.
use Rattle.std.specs.Prelude.{◌≡◌, ℕ, zero, suc, ◌+◌, ◌-◌, ◌≤◌, ◌<◌, Bool, true, false, ◌==◌, nat_lt, if◌then◌else◌}
use Rattle.std.specs.Prelude.{List, [], ◌∷◌, ◌++◌, map, Option, None, Some}
use Rattle.std.specs.Option.{is_some}
use Rattle.pim_down.specs.declared.machines.key.What.{What}
use Rattle.pim_down.specs.declared.machines.key.What.TheVariants.{Star, Source, Rpt}
use Rattle.pim_down.specs.declared.machines.key.Key.{Key}
use Rattle.pim_down.specs.declared.machines.machine.State.TheVariants.{Prune}
use Rattle.pim_down.specs.declared.machines.machine.Pending.{Pending}
use Rattle.pim_down.specs.declared.machines.machine.Machine.{Machine}
use Rattle.pim_down.specs.declared.machines.machine.Record.{Record}
use Rattle.pim_down.specs.declared.machines.step.Step.{Step}
use Rattle.pim_down.specs.declared.machines.step.Step.TheVariants.{Echo, Reached}
use Rattle.pim_down.specs.Tables.{machine_in}
use Rattle.pim_down.specs.Records.{machine_at, recorded}

-- The downstream machines of all ports of a router, at a moment in milliseconds. The records are
-- those of the machines that are held, in key order.
pub record Downstream : Type 0 where
  pub ports : ℕ
  -- how many records each port may have
  pub limit : ℕ
  pub moment : ℕ
  pub records : List (Record (List ℕ))

-- ---- a millisecond passes

-- An Expiry Timer after some milliseconds. A countdown stops at 0; `None`, never, stays.
abbrev pub expiry_after : ℕ → Option ℕ → Option ℕ
expiry_after passed None = None
expiry_after passed (Some ends) = Some (ends - passed)

-- A Prune-Pending Timer after some milliseconds, if one runs.
abbrev pub pending_after : ℕ → Option Pending → Option Pending
pending_after passed None = None
pending_after passed (Some timer) = Some (record { ends_in = timer.ends_in - passed; several = timer.several })

-- A machine whose timers have counted down for some milliseconds.
abbrev pub machine_after : ℕ → Machine → Machine
machine_after passed held = record {
  state = held.state;
  expires_in = expiry_after passed held.expires_in;
  pending = pending_after passed held.pending;
}

-- A record whose timers have counted down for some milliseconds.
abbrev pub record_after : ℕ → Record (List ℕ) → Record (List ℕ)
record_after passed held = record { key = held.key; machine = machine_after passed held.machine }

-- One millisecond passes: the moment rises, and all timers count down.
abbrev pub tick : Downstream → Downstream
tick state = record {
  ports = state.ports;
  limit = state.limit;
  moment = state.moment + 1;
  records = map (record_after 1) state.records;
}

-- ---- a timer fires

-- The Expiry Timer is due.
abbrev pub expiry_due : Option ℕ → Bool
expiry_due None = false
expiry_due (Some ends) = ends == 0

-- A Prune-Pending Timer runs and is due.
abbrev pub pending_due : Option Pending → Bool
pending_due None = false
pending_due (Some timer) = timer.ends_in == 0

-- The record's Expiry Timer is due.
abbrev pub et_due : Record (List ℕ) → Bool
et_due held = expiry_due held.machine.expires_in

-- The record's Prune-Pending Timer is due.
abbrev pub ppt_due : Record (List ℕ) → Bool
ppt_due held = pending_due held.machine.pending

-- Prune-Pending Timer Expires: a (*,G) or (S,G) machine goes to NoInfo, an (S,G,rpt) machine to
-- Prune (RFC 7761, Figures 2 to 4).
abbrev pub on_ppt : What (List ℕ) → Machine → Option Machine
on_ppt Star held = None
on_ppt (Source source) held = None
on_ppt (Rpt source) held = machine_in Prune held.expires_in None

-- Expiry Timer Expires: the machine goes to NoInfo, so its record is removed (RFC 7761, Figures 2
-- to 4). In Prune-Pending of (S,G,rpt) this is a choice of this project.
abbrev pub after_et : Record (List ℕ) → List (Record (List ℕ))
after_et held = []

-- The record after its Prune-Pending Timer expires, as a list; none in NoInfo.
abbrev pub after_ppt : Record (List ℕ) → List (Record (List ℕ))
after_ppt held = recorded held.key (on_ppt held.key.what held.machine)

-- The port had several neighbours when this Prune-Pending Timer started.
abbrev pub had_several : Option Pending → Bool
had_several None = false
had_several (Some timer) = timer.several

-- The end of the Prune-Pending Timer triggers a PruneEcho: for (*,G) and (S,G), where the port had
-- several neighbours (RFC 7761, 4.5.1 and 4.5.2).
abbrev pub echoes_at : What (List ℕ) → Bool → Bool
echoes_at Star several = several
echoes_at (Source source) several = several
echoes_at (Rpt source) several = false

-- What a run reports when the record's Prune-Pending Timer expires: a PruneEcho(*,G) or
-- PruneEcho(S,G), or nothing (RFC 7761, 4.5.1 and 4.5.2).
abbrev pub echo_of : Record (List ℕ) → Step (List ℕ)
echo_of held =
    if echoes_at held.key.what (had_several held.machine.pending)
    then Echo held.key.port held.key.group held.key.what else Reached

-- The first record that the test finds due.
unfoldable pub first_due : (Record (List ℕ) → Bool) → List (Record (List ℕ)) → Option (Record (List ℕ))
first_due due [] = None
first_due due (held ∷ records) = if due held then Some held else first_due due records

-- The records, with the first due one replaced.
unfoldable pub with_first : (Record (List ℕ) → Bool) → (Record (List ℕ) → List (Record (List ℕ))) →
    List (Record (List ℕ)) → List (Record (List ℕ))
with_first due after [] = []
with_first due after (held ∷ records) = if due held then after held ++ records else held ∷ with_first due after records

-- The first due Expiry Timer fires: what the run reports, and the records after it. `None` where
-- none is due.
abbrev pub fire_et : List (Record (List ℕ)) → Option (Record (List ℕ)) → Option (Step (List ℕ) × List (Record (List ℕ)))
fire_et records None = None
fire_et records (Some held) = Some (Reached, with_first et_due after_et records)

-- The first due Prune-Pending Timer fires, or where none is due, the first due Expiry Timer.
abbrev pub fire_ppt : List (Record (List ℕ)) → Option (Record (List ℕ)) →
    Option (Step (List ℕ) × List (Record (List ℕ)))
fire_ppt records None = fire_et records (first_due et_due records)
fire_ppt records (Some held) = Some (echo_of held, with_first ppt_due after_ppt records)

-- One due timer fires: what the run reports, and the records after it; `None` where none is due.
-- Prune-Pending Timers fire before Expiry Timers, each in key order, a choice of this project.
unfoldable pub fired : List (Record (List ℕ)) → Option (Step (List ℕ) × List (Record (List ℕ)))
fired records = fire_ppt records (first_due ppt_due records)

-- ---- a run, turn by turn

-- A turn of a run: nothing is left to do, or the machines go on, or the run stops at a PruneEcho.
pub data Outcome : Type 0 where
  rests : Outcome
  moves : Downstream → Outcome
  echoes : Step (List ℕ) → Downstream → Outcome

-- The same ports at the same moment, with other records.
abbrev pub with_records : Downstream → List (Record (List ℕ)) → Downstream
with_records state records =
    record { ports = state.ports; limit = state.limit; moment = state.moment; records = records }

-- The turn in which a timer fired: a PruneEcho stops the run.
abbrev pub reported : Step (List ℕ) → Downstream → Outcome
reported Reached state = moves state
reported (Echo port group what) state = echoes (Echo port group what) state

-- A turn, by the timer that fires, if one is due. Otherwise a millisecond passes, unless the moment
-- is reached.
abbrev pub turn_by : ℕ → Downstream → Option (Step (List ℕ) × List (Record (List ℕ))) → Outcome
turn_by moment state None = if nat_lt state.moment moment then moves (tick state) else rests
turn_by moment state (Some (answer, records)) = reported answer (with_records state records)

-- One turn of the run up to a moment.
unfoldable pub turn : ℕ → Downstream → Outcome
turn moment state = turn_by moment state (fired state.records)

-- A run after its turn: it stops at the end or at a PruneEcho, and goes on otherwise.
abbrev pub run_on : Outcome → Downstream → (Downstream → Option (Step (List ℕ) × Downstream)) →
    Option (Step (List ℕ) × Downstream)
run_on rests state more = Some (Reached, state)
run_on (echoes echo after) state more = Some (echo, after)
run_on (moves after) state more = more after

-- The end of a run up to a moment, if this number of turns suffices: the PruneEcho or `Reached`,
-- and the state then.
unfoldable pub run_within : ℕ → ℕ → Downstream → Option (Step (List ℕ) × Downstream)
run_within zero moment state = None
run_within (suc turns) moment state = run_on (turn moment state) state (run_within turns moment)

-- The run from a state up to a moment ends with this step, a PruneEcho or `Reached`, and in the
-- state `after`.
pub record Runs (moment : ℕ) (state : Downstream) (answer : Step (List ℕ)) (after : Downstream) : Type 0 where
  pub turns : ℕ
  pub within : run_within turns moment state ≡ Some (answer, after)

-- How many timers fire in a run after its turn.
abbrev pub fires_on : Outcome → (Downstream → ℕ) → ℕ
fires_on rests more = 0
fires_on (moves after) more = more after
fires_on (echoes echo after) more = 0

-- How many timers fire in a run within this number of turns.
unfoldable pub fires_within : ℕ → ℕ → Downstream → ℕ
fires_within zero moment state = 0
fires_within (suc turns) moment state =
    (if is_some (fired state.records) then 1 else 0) + fires_on (turn moment state) (fires_within turns moment)

-- A run as in `Runs`, with `looks` looks at timers: one for each timer that fires, and at most one
-- more.
pub record RunsLooking (moment : ℕ) (state : Downstream) (answer : Step (List ℕ)) (after : Downstream) (looks : ℕ) :
    Type 0 where
  pub turns : ℕ
  pub within : run_within turns moment state ≡ Some (answer, after)
  pub each : fires_within turns moment state ≤ looks
  pub few : looks ≤ fires_within turns moment state + 1

-- There is a run from the state up to the moment.
pub record HasRun (moment : ℕ) (state : Downstream) : Type 0 where
  pub answer : Step (List ℕ)
  pub after : Downstream
  pub runs : Runs moment state answer after

-- ---- what a run leaves at one key

-- A machine after its due timers have fired: ET ends it, or else PPT changes it.
abbrev pub settled_at : What (List ℕ) → Machine → Option Machine
settled_at what held =
    if expiry_due held.expires_in then None else (if pending_due held.pending then on_ppt what held else Some held)

-- What `passed` milliseconds without a message make of the machine at a key (RFC 7761, 4.5.1 to
-- 4.5.3). It is NoInfo if ET ends by then, and otherwise what PPT makes of it if PPT ends by then.
-- If neither ends, it is the machine with less time left.
abbrev pub after_silence : ℕ → Key (List ℕ) → Option Machine → Option Machine
after_silence passed key None = None
after_silence passed key (Some held) = settled_at key.what (machine_after passed held)

-- The machine that a PruneEcho names (RFC 7761, 4.5.1 and 4.5.2). It was held, its PPT started with
-- several neighbours and ends at the moment of the echo, and afterwards it is in NoInfo.
pub record IsEchoOf (key : Key (List ℕ)) (state after : Downstream) : Type 0 where
  pub machine : Machine
  pub held : machine_at key state.records ≡ Some machine
  pub timer : machine.pending ≡ Some (record { ends_in = after.moment - state.moment; several = true })
  pub echoes : echoes_at key.what true ≡ true
  pub gone : machine_at key after.records ≡ None

-- ---- the next moment at which a timer fires

-- This number of milliseconds passes, and nothing fires.
unfoldable pub ticks : ℕ → Downstream → Downstream
ticks zero state = state
ticks (suc count) state = ticks count (tick state)

-- A timer is due when this number of milliseconds has passed.
abbrev pub is_due_after : ℕ → Downstream → Bool
is_due_after passed state = is_some (fired (ticks passed state).records)

-- No timer is due until this number of milliseconds has passed.
abbrev pub IsQuietFor : ℕ → Downstream → Type 0
IsQuietFor passed state = (k : ℕ) → k < passed → is_due_after k state ≡ false

-- The first moment, from the present one on, at which a timer fires; `None` if none ever does.
abbrev pub IsNextDue : Downstream → Option ℕ → Type 0
IsNextDue state None = (k : ℕ) → is_due_after k state ≡ false
IsNextDue state (Some due) =
    (state.moment ≤ due) × (is_due_after (due - state.moment) state ≡ true) × IsQuietFor (due - state.moment) state
