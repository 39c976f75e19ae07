-- The call that hears a Join/Prune message (RFC 7761, 4.5): the machines that it leaves, and when
-- it is refused.
use Rattle.std.specs.Prelude.{◌≡◌, ◌≢◌, ℕ, ◌≤◌, ◌<◌, List, Option, Result, Ok, Err}
use Rattle.pim_jp.specs.Message.{Message}
use Rattle.pim_down.specs.declared.machines.key.Key.{Key}
use Rattle.pim_down.specs.declared.machines.event.Timing.{Timing}
use Rattle.pim_down.specs.declared.machines.fault.HearFault.{HearFault}
use Rattle.pim_down.specs.declared.machines.fault.HearFault.TheVariants.{Full, Memory}
use Rattle.pim_down.specs.Records.{machine_at}
use Rattle.pim_down.specs.Hearing.{events_of, start_of, hearing, count_new, needed}
use Rattle.pim_down.specs.Time.{Downstream, with_records}

-- The downstream machines after a port hears the message, where `known` gives RP(G) of each group.
-- No time passes and no timer fires.
abbrev pub heard : ℕ → Message → (List ℕ → Option (List ℕ)) → Timing → Downstream → Downstream
heard port message known timing state =
    with_records state (hearing port (start_of message.holdtime timing) (events_of known message) state.records)

-- The number of records that is compared with the limit: those of the port, and the message's
-- creating events whose record isn't held, repeats counted.
abbrev pub needed_for : ℕ → Message → (List ℕ → Option (List ℕ)) → Downstream → ℕ
needed_for port message known state = needed port state.records (events_of known message)

-- How many creating events of the message have no record yet, repeats counted.
abbrev pub new_for : ℕ → Message → (List ℕ → Option (List ℕ)) → Downstream → ℕ
new_for port message known state = count_new port state.records (events_of known message)

-- The call is refused as `Full` exactly if it needs more records than the limit, and the refusal
-- carries the number needed. `Ok` and `Memory` come only where the limit suffices.
abbrev pub IsWithin : {A : Type 0} → ℕ → ℕ → Result A HearFault → Type 0
IsWithin limit needed (Ok x) = needed ≤ limit
IsWithin limit needed (Err (Full n)) = (limit < needed) × (n ≡ needed)
IsWithin limit needed (Err Memory) = needed ≤ limit

-- The refusal `Memory` comes only for a message that makes a record.
abbrev pub MayWantMemory : {A : Type 0} → ℕ → Result A HearFault → Type 0
MayWantMemory new (Ok x) = Unit {0}
MayWantMemory new (Err (Full n)) = Unit {0}
MayWantMemory new (Err Memory) = 1 ≤ new

-- The machines of all other ports are unchanged.
abbrev pub OthersStay : ℕ → Downstream → Downstream → Type 0
OthersStay port old new =
    (key : Key (List ℕ)) → key.port ≢ port → machine_at key new.records ≡ machine_at key old.records

-- The statement holds if the call is refused as `Full`.
abbrev pub OnFull : {A : Type 0} → Result A HearFault → Type 0 → Type 0
OnFull (Ok x) P = Unit {0}
OnFull (Err (Full n)) P = P
OnFull (Err Memory) P = Unit {0}
