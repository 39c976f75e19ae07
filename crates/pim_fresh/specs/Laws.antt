-- What a fresh port holds, for any order of the deliveries and any number of repetitions: the laws
-- in `src/laws.rt`.
use Rattle.std.specs.Prelude.{◌≡◌, ℕ, ◌-◌, ◌≤◌, true, List, [], ◌∷◌, Option, length, option_map}
use Rattle.pim_down.specs.declared.machines.key.Key.{Key}
use Rattle.pim_down.specs.declared.machines.step.Step.{Step}
use Rattle.pim_down.specs.declared.machines.step.Step.TheVariants.{Reached}
use Rattle.pim_down.specs.Records.{machine_at, state_of}
use Rattle.pim_jp.specs.Message.{Message}
use Rattle.pim_down.specs.Hearing.{needed, events_of}
use Rattle.pim_down.specs.Time.{Downstream, machine_after, Runs}
use Rattle.pim_fresh.specs.Exchange.{Exchange, HasUnitsOnce, starts, has_unit_of, AreUnits}
use Rattle.pim_fresh.specs.Demanding.{IsDemanding}
use Rattle.pim_fresh.specs.Deliveries.{Delivery, first_of, last_of, IsTimely, final_moment}
use Rattle.pim_fresh.specs.Hearing.{Leaves, after_message}
use Rattle.pim_fresh.specs.Expected.{span_of, IsAsExpected, IsAsWanted, units_of}

-- After timely deliveries exactly the units of the messages that came have machines, each as
-- expected.
abbrev pub FreshHearing : Type 0
FreshHearing = (exchange : Exchange) (ports limit : ℕ) (deliveries : List Delivery) (moment : ℕ)
    (after : Downstream) → HasUnitsOnce exchange → IsTimely (starts exchange).expires_in moment deliveries →
    Leaves exchange ports limit deliveries moment after →
    (after.moment ≡ moment) × IsAsExpected exchange deliveries moment after

-- No run after a timely delivery stops at an echo (PruneEcho).
abbrev pub NoEchoIsDue : Type 0
NoEchoIsDue = (exchange : Exchange) (ports limit : ℕ) (delivery : Delivery) (earlier : List Delivery) (moment : ℕ)
    (before after : Downstream) (answer : Step (List ℕ)) → HasUnitsOnce exchange →
    IsTimely (starts exchange).expires_in moment (delivery ∷ earlier) →
    Leaves exchange ports limit earlier delivery.moment before →
    Runs moment (after_message exchange delivery.message before) answer after → answer ≡ Reached

-- These deliveries leave some machines.
pub record HasLeft (exchange : Exchange) (ports limit : ℕ) (deliveries : List Delivery) (moment : ℕ) : Type 0 where
  pub after : Downstream
  pub leaves : Leaves exchange ports limit deliveries moment after

-- Timely deliveries leave some machines, since each run reaches its moment.
abbrev pub EveryHearingReaches : Type 0
EveryHearingReaches = (exchange : Exchange) (ports limit : ℕ) (deliveries : List Delivery) (moment : ℕ) →
    HasUnitsOnce exchange → IsTimely (starts exchange).expires_in moment deliveries →
    HasLeft exchange ports limit deliveries moment

-- A run from `moment` reaches the moment `later`. Each machine is then as the messages ask, is the
-- old one after the time that passed, and has the old state.
pub record Stays (exchange : Exchange) (deliveries : List Delivery) (moment later : ℕ) (state : Downstream)
    (answer : Step (List ℕ)) (after : Downstream) : Type 0 where
  pub reached : answer ≡ Reached
  pub moment_is : after.moment ≡ later
  pub as_wanted : IsAsWanted exchange deliveries later after
  pub waited : (key : Key (List ℕ)) →
      machine_at key after.records ≡ option_map (machine_after (later - moment)) (machine_at key state.records)
  pub state_stays : (key : Key (List ℕ)) → state_of key after.records ≡ state_of key state.records

-- From the final moment on, while no message is missed for its holdtime, each run reaches its
-- moment and the machines stay as the messages ask.
abbrev pub StaysAsWanted : Type 0
StaysAsWanted = (exchange : Exchange) (ports limit : ℕ) (deliveries : List Delivery) (moment later : ℕ)
    (state after : Downstream) (answer : Step (List ℕ)) → HasUnitsOnce exchange →
    final_moment exchange.timing.override_ms deliveries ≤ moment → moment ≤ later →
    IsTimely (starts exchange).expires_in later deliveries →
    Leaves exchange ports limit deliveries moment state → Runs later state answer after →
    Stays exchange deliveries moment later state answer after

-- The number of machines is the number of units of the different messages that came.
abbrev pub HoldsTheUnits : Type 0
HoldsTheUnits = (exchange : Exchange) (ports limit : ℕ) (deliveries : List Delivery) (moment : ℕ)
    (after : Downstream) → HasUnitsOnce exchange → IsTimely (starts exchange).expires_in moment deliveries →
    Leaves exchange ports limit deliveries moment after →
    length after.records ≡ length (units_of exchange deliveries)

-- A delivery needs room for the units of the different messages up to and with it.
abbrev pub NeedsTheUnits : Type 0
NeedsTheUnits = (exchange : Exchange) (ports limit : ℕ) (delivery : Delivery) (earlier : List Delivery)
    (before : Downstream) → HasUnitsOnce exchange →
    IsTimely (starts exchange).expires_in delivery.moment earlier →
    Leaves exchange ports limit earlier delivery.moment before →
    needed exchange.port before.records (exchange.messages delivery.message)
    ≡ length (units_of exchange (delivery ∷ earlier))

-- The events of a message that asks for traffic, as canonical messages do, create different
-- machines, each exception after its star.
abbrev pub DemandingHasUnits : Type 0
DemandingHasUnits = (known : List ℕ → Option (List ℕ)) (port : ℕ) (message : Message) → IsDemanding known message →
    AreUnits port [] (events_of known message)

-- Deliveries leave at most one state.
abbrev pub HearingHasOneEnd : Type 0
HearingHasOneEnd = (exchange : Exchange) (ports limit : ℕ) (deliveries : List Delivery) (moment : ℕ)
    (one other : Downstream) → Leaves exchange ports limit deliveries moment one →
    Leaves exchange ports limit deliveries moment other → one ≡ other

-- The first and the last delivery that name a machine are those of the message that names it.
abbrev pub SpanIsOfItsMessage : Type 0
SpanIsOfItsMessage = (exchange : Exchange) (message : ℕ) (key : Key (List ℕ)) (deliveries : List Delivery) →
    HasUnitsOnce exchange → has_unit_of exchange.port key (exchange.messages message) ≡ true →
    (option_map (λ span. span.first) (span_of exchange key deliveries) ≡ first_of message deliveries)
    × (option_map (λ span. span.last) (span_of exchange key deliveries) ≡ last_of message deliveries)
