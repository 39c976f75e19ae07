-- Laws of the definitions: what they mean together. Each is proved, as the `ensures` of a function
-- of `src/laws.rt`.
use Rattle.std.specs.Prelude.{◌≡◌, ◌≢◌, ◌<◌, ◌≤◌, ◌↔◌, ℕ, ◌-◌, max, true, false}
use Rattle.std.specs.Prelude.{List, map, Option, Some, None, option_map}
use Rattle.std.specs.declared.cmp.Ordering.TheVariants.{Equal}
use Rattle.pim_addr.specs.declared.family.AddressFamily.{AddressFamily}
use Rattle.pim_jp.specs.Message.{Message}
use Rattle.pim_jp.specs.Canonical.{IsMessage}
use Rattle.pim_down.specs.declared.machines.event.Timing.{Timing}
use Rattle.pim_down.specs.declared.machines.key.What.{What}
use Rattle.pim_down.specs.declared.machines.key.Key.{Key}
use Rattle.pim_down.specs.declared.machines.machine.Record.{Record}
use Rattle.pim_down.specs.declared.machines.machine.Machine.{Machine}
use Rattle.pim_down.specs.Tables.{Start}
use Rattle.pim_down.specs.Hearing.{Event}
use Rattle.pim_down.specs.declared.machines.step.Firing.{Firing}
use Rattle.pim_down.specs.declared.machines.step.Step.{Step}
use Rattle.pim_down.specs.declared.machines.step.Step.TheVariants.{Echo, Reached}
use Rattle.pim_down.specs.Key.{key_cmp, same_key}
use Rattle.pim_down.specs.Records.{IsAscending, ChangesAtEach, machine_at, changed, each_changed}
use Rattle.pim_down.specs.Hearing.{effect, act, at_end, heard_at, hearing}
use Rattle.pim_down.specs.Time.{Downstream, Runs, HasRun, after_silence, IsEchoOf, fired, record_after}
use Rattle.pim_down.specs.Firing.{firing, step_of, FiresTo}
use Rattle.pim_down.specs.Ends.{weight}
use Rattle.pim_down.specs.Sound.{IsSound}
use Rattle.pim_down.specs.Heard.{heard, needed_for}

-- A change of one machine has its effect at the machine's key, and none at other keys.
abbrev pub ChangeActsAtItsKey : Type 0
ChangeActsAtItsKey =
    (key : Key (List ℕ)) (change : Option Machine → Option Machine) (records : List (Record (List ℕ))) →
    IsAscending records →
    (machine_at key (changed key change records) ≡ change (machine_at key records))
    × ((other : Key (List ℕ)) → same_key other key ≡ false →
    machine_at other (changed key change records) ≡ machine_at other records)

-- Two lists in key order that have the same machine at every key are equal. So a list in key order
-- is the one form of a map from keys to machines.
abbrev pub AMapHasOneList : Type 0
AMapHasOneList = (a b : List (Record (List ℕ))) → IsAscending a → IsAscending b →
    ((key : Key (List ℕ)) → machine_at key a ≡ machine_at key b) → a ≡ b

-- A run that reaches a moment, followed by a run up to a later one, is a run up to the later
-- moment.
abbrev pub RunGoesOn : Type 0
RunGoesOn = (earlier later : ℕ) (state middle after : Downstream) (answer : Step (List ℕ)) →
    earlier ≤ later → Runs earlier state Reached middle → Runs later middle answer after → Runs later state answer after

-- All runs from a state up to a moment have the same step and the same state at their end.
abbrev pub RunHasOneEnd : Type 0
RunHasOneEnd = (moment : ℕ) (state after other : Downstream) (answer reported : Step (List ℕ)) →
    Runs moment state answer after → Runs moment state reported other → (answer ≡ reported) × (after ≡ other)

-- An event does to the machine at each key what `effect` says.
abbrev pub EventActsAtEachKey : Type 0
EventActsAtEachKey = (port : ℕ) (start : Start) (event : Event) (records : List (Record (List ℕ))) →
    IsAscending records → ChangesAtEach (effect port start event) records (act port start event records)

-- An event keeps the records in key order.
abbrev pub EventKeepsTheOrder : Type 0
EventKeepsTheOrder = (port : ℕ) (start : Start) (event : Event) (records : List (Record (List ℕ))) →
    IsAscending records → IsAscending (act port start event records)

-- A message does to the machine at each key what `heard_at` says: the effects of its events, then
-- End of Message.
abbrev pub HearingActsAtEachKey : Type 0
HearingActsAtEachKey = (port : ℕ) (start : Start) (events : List Event) (records : List (Record (List ℕ))) →
    IsAscending records → ChangesAtEach (heard_at port start events) records (hearing port start events records)

-- A run keeps the number of ports and the limit. It ends between its start and the later of start
-- and moment, and exactly at the later one if it ends as `Reached`.
abbrev pub RunKeepsItsBounds : Type 0
RunKeepsItsBounds = (moment : ℕ) (state after : Downstream) (answer : Step (List ℕ)) → Runs moment state answer after →
    (after.ports ≡ state.ports) × (after.limit ≡ state.limit) × (state.moment ≤ after.moment)
    × (after.moment ≤ max state.moment moment) × (answer ≡ Reached → after.moment ≡ max state.moment moment)

-- A run that reaches its moment leaves at each key what `after_silence` makes of the machine.
abbrev pub SilenceActsAtEachKey : Type 0
SilenceActsAtEachKey = (moment : ℕ) (state after : Downstream) → IsAscending state.records →
    Runs moment state Reached after →
    ChangesAtEach (after_silence (after.moment - state.moment)) state.records after.records

-- A run keeps the records in key order.
abbrev pub RunKeepsTheOrder : Type 0
RunKeepsTheOrder = (moment : ℕ) (state after : Downstream) (answer : Step (List ℕ)) → IsAscending state.records →
    Runs moment state answer after → IsAscending after.records

-- Every state has a run up to every moment.
abbrev pub EveryStateHasARun : Type 0
EveryStateHasARun = (moment : ℕ) (state : Downstream) → HasRun moment state

-- Each timer that fires lowers the weight of the records, and a millisecond that passes keeps it.
-- So only finitely many timers fire without a message.
abbrev pub TimersRunOut : Type 0
TimersRunOut = ((records after : List (Record (List ℕ))) (answer : Step (List ℕ)) →
    fired records ≡ Some (answer, after) → weight after < weight records)
    × ((records : List (Record (List ℕ))) → weight (map (record_after 1) records) ≡ weight records)

-- A run up to a moment of at most 10^15 ms keeps the machines sound.
abbrev pub RunKeepsSound : Type 0
RunKeepsSound = (family : AddressFamily) (moment : ℕ) (state after : Downstream) (answer : Step (List ℕ)) →
    moment ≤ 1000000000000000 → IsSound family state → Runs moment state answer after → IsSound family after

-- A message keeps the machines sound if the port exists, the message can be encoded, and the limit
-- suffices for it.
abbrev pub HearingKeepsSound : Type 0
HearingKeepsSound = (family : AddressFamily) (port : ℕ) (message : Message) (known : List ℕ → Option (List ℕ))
    (timing : Timing) (state : Downstream) → IsSound family state → port < state.ports → IsMessage family message →
    needed_for port message known state ≤ state.limit →
    IsSound family (heard port message known timing state)

-- The PruneEcho at which a run stops names a machine as `IsEchoOf` says.
abbrev pub EchoNamesAMachine : Type 0
EchoNamesAMachine = (moment : ℕ) (state after : Downstream) (port : ℕ) (group : List ℕ) (what : What (List ℕ)) →
    IsAscending state.records → Runs moment state (Echo port group what) after →
    IsEchoOf (record { port = port; group = group; what = what }) state after

-- Two keys compare as equal exactly if they are the same key.
abbrev pub KeysAreDistinct : Type 0
KeysAreDistinct = (a b : Key (List ℕ)) → ((key_cmp a b ≡ Equal) ↔ (a ≡ b)) × ((same_key a b ≡ true) ↔ (a ≡ b))

-- End of Message does to the machine at each key what `at_end` says.
abbrev pub EndActsAtEachKey : Type 0
EndActsAtEachKey = (port : ℕ) (records : List (Record (List ℕ))) →
    IsAscending records → ChangesAtEach (at_end port) records (each_changed (at_end port) records)

-- Hearing a message keeps the records in key order.
abbrev pub HearingKeepsTheOrder : Type 0
HearingKeepsTheOrder = (port : ℕ) (start : Start) (events : List Event) (records : List (Record (List ℕ))) →
    IsAscending records → IsAscending (hearing port start events records)

-- Hearing a message on one port leaves the machines of all other ports unchanged.
abbrev pub HearingLeavesOtherPorts : Type 0
HearingLeavesOtherPorts =
    (port : ℕ) (start : Start) (events : List Event) (records : List (Record (List ℕ))) (key : Key (List ℕ)) →
    IsAscending records → key.port ≢ port → machine_at key (hearing port start events records) ≡ machine_at key records

-- ---- runs that stop at each timer that fires

-- What a run reports of a firing, and the records that it leaves.
abbrev pub said_of : Firing (List ℕ) × List (Record (List ℕ)) → Step (List ℕ) × List (Record (List ℕ))
said_of (reported, records) = (step_of reported, records)

-- `fired` is the same step as `firing`, with less said of it.
abbrev pub FiringSaysMore : Type 0
FiringSaysMore = (records : List (Record (List ℕ))) → fired records ≡ option_map said_of (firing records)

-- A run up to a moment is a chain of runs that stop at each timer that fires. It reaches the moment
-- where none fires. It ends with the PruneEcho of a timer that triggers one, and it goes on after
-- any other timer.
abbrev pub RunIsAChainOfFirings : Type 0
RunIsAChainOfFirings = (moment : ℕ) (state next : Downstream) →
    (FiresTo moment state None next → Runs moment state Reached next)
    × ((reported : Firing (List ℕ)) → reported.echo ≡ true → FiresTo moment state (Some reported) next →
    Runs moment state (step_of reported) next)
    × ((reported : Firing (List ℕ)) (after : Downstream) (answer : Step (List ℕ)) → reported.echo ≡ false →
    FiresTo moment state (Some reported) next → Runs moment next answer after → Runs moment state answer after)

-- All runs from a state up to a moment that stop at the first timer have the same firing and the
-- same state at their end.
abbrev pub FiringHasOneEnd : Type 0
FiringHasOneEnd = (moment : ℕ) (state after other : Downstream) (reported said : Option (Firing (List ℕ))) →
    FiresTo moment state reported after → FiresTo moment state said other → (reported ≡ said) × (after ≡ other)
