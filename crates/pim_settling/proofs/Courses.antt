-- The courses of machines, by induction on the deliveries.
use Rattle.pim_settling.proofs.Words.{ℕ, ◌+◌, List, [], ◌∷◌, Option, sym, subst, Key, Machine, Reached, IsAscending, machine_at}
use Rattle.pim_settling.proofs.Words.{Downstream, KeysAreDistinct, HearingKeepsTheOrder, HearingActsAtEachKey, Exchange, starts}
use Rattle.pim_settling.proofs.Words.{Delivery, Course, IsOn, course_heard, Passes, Hears, course_of, CoursesAreKept}
use Rattle.pim_fresh.specs.Hearing.{after_message}
use Rattle.pim_settling.proofs.Turns.{IsEnd, arrives, past, past_is_on}
use Rattle.pim_settling.proofs.Events.{heard_on}

-- the laws of the machines that this rests on
pub record Machines : Type 0 where
  pub keys : KeysAreDistinct
  pub order : HearingKeepsTheOrder
  pub hears : HearingActsAtEachKey

module _ (laws : Machines) (exchange : Exchange) where
  passes_on : (courses : Key (List ℕ) → Course) (moment : ℕ) (state after : Downstream) → IsAscending state.records
      → ((key : Key (List ℕ)) → IsOn key.what state.moment (courses key) (machine_at key state.records)) → Passes moment state after → IsEnd laws.keys courses moment Reached after
  passes_on courses moment state after ascending on passes =
      arrives laws.keys courses moment passes.echoes state after (record { ascending = ascending; machines = on; lasts = passes.lasts; early = passes.later }) passes.arrives

  -- a message that comes to machines on their courses
  message_on : (courses : Key (List ℕ) → Course) (delivery : Delivery) (before : Downstream) → IsEnd laws.keys courses delivery.moment Reached before → (key : Key (List ℕ))
      → IsOn key.what before.moment (course_heard exchange.port (delivery.moment + (starts exchange).pending.ends_in) (exchange.messages delivery.message) key (courses key)) (machine_at key (after_message exchange delivery.message before).records)
  message_on courses delivery before ends key =
      let there = past laws.keys courses delivery.moment before ends in
      let was = past_is_on key.what delivery.moment (courses key) (machine_at key before.records) (there.1 key) in
      let heard = heard_on laws.keys exchange.port delivery.moment (starts exchange) (exchange.messages delivery.message) key (courses key) (machine_at key before.records) was in
      let here = subst (λ (m : Option Machine). IsOn key.what delivery.moment (course_heard exchange.port (delivery.moment + (starts exchange).pending.ends_in) (exchange.messages delivery.message) key (courses key)) m)
      (sym (laws.hears exchange.port (starts exchange) (exchange.messages delivery.message) before.records ends.kept.ascending key)) heard in
      subst (λ (now : ℕ). IsOn key.what now (course_heard exchange.port (delivery.moment + (starts exchange).pending.ends_in) (exchange.messages delivery.message) key (courses key)) (machine_at key (after_message exchange delivery.message before).records)) (sym there.0) here

  module _ (start : Downstream) (courses : Key (List ℕ) → Course) (ascending : IsAscending start.records)
      (on : (key : Key (List ℕ)) → IsOn key.what start.moment (courses key) (machine_at key start.records)) where
    hears_on : (deliveries : List Delivery) (moment : ℕ) (after : Downstream) → Hears exchange start deliveries moment after → IsEnd laws.keys (λ key. course_of exchange key (courses key) deliveries) moment Reached after
    unfolding Hears course_of
    hears_on [] moment after hears = passes_on courses moment start after ascending on hears
    hears_on (delivery ∷ earlier) moment after hears =
        let before = hears_on earlier delivery.moment hears.before hears.was in
        passes_on (λ key. course_of exchange key (courses key) (delivery ∷ earlier)) moment (after_message exchange delivery.message hears.before) after
        (laws.order exchange.port (starts exchange) (exchange.messages delivery.message) hears.before.records before.kept.ascending)
        (message_on (λ key. course_of exchange key (courses key) earlier) delivery hears.before before) hears.passes

pub courses_are_kept : Machines → CoursesAreKept
courses_are_kept laws exchange start after deliveries moment courses ascending on hears =
    past laws.keys (λ key. course_of exchange key (courses key) deliveries) moment after (hears_on laws exchange start courses ascending on deliveries moment after hears)
