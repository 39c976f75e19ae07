-- Fresh hearing, by induction on the deliveries.
use Rattle.pim_fresh.proofs.Words.{◌≡◌, ℕ, ◌-◌, List, [], ◌∷◌, refl, ap, ◌∙◌, arith, Key, Reached, IsAscending}
use Rattle.pim_fresh.proofs.Words.{machine_at, Downstream, Runs, after_silence, KeysAreDistinct, HearingKeepsTheOrder}
use Rattle.pim_fresh.proofs.Words.{HearingActsAtEachKey, RunKeepsTheOrder, RunKeepsItsBounds, SilenceActsAtEachKey}
use Rattle.pim_fresh.proofs.Words.{Exchange, HasUnitsOnce, starts, Delivery, IsTimely, fresh, after_message, Leaves}
use Rattle.pim_fresh.proofs.Words.{span_of, expected, IsAsExpected, FreshHearing}
use Rattle.pim_fresh.proofs.Heard.{message_at, delivered}

-- the laws of the machines that this rests on
pub record Machines : Type 0 where
  pub keys : KeysAreDistinct
  pub order : HearingKeepsTheOrder
  pub hears : HearingActsAtEachKey
  pub run_order : RunKeepsTheOrder
  pub bounds : RunKeepsItsBounds
  pub silence : SilenceActsAtEachKey

module _ (laws : Machines) (exchange : Exchange) (carries : HasUnitsOnce exchange) (ports limit : ℕ) where
  -- at this moment the machines stand in key order and are as expected
  pub record IsExpected (deliveries : List Delivery) (moment : ℕ) (state : Downstream) : Type 0 where
    pub moment_is : state.moment ≡ moment
    pub ascending : IsAscending state.records
    pub machines : IsAsExpected exchange deliveries moment state

  first : (moment : ℕ) (after : Downstream) → Runs moment (fresh ports limit) Reached after → IsExpected [] moment after
  unfolding IsAscending span_of machine_at
  first moment after runs =
      let bounds = laws.bounds moment (fresh ports limit) after Reached runs in
      let reached = bounds.4 refl in
      record {
        moment_is = omega arith;
        ascending = laws.run_order moment (fresh ports limit) after Reached tt runs;
        machines = λ key. laws.silence moment (fresh ports limit) after tt runs key;
      }

  pub middle_order : (message : ℕ) (before : Downstream) → IsAscending before.records → IsAscending (after_message exchange message before).records
  middle_order message before ascending = laws.order exchange.port (starts exchange) (exchange.messages message) before.records ascending

  -- what the message leaves at a key, before any timer fires
  pub middle_at : (delivery : Delivery) (earlier : List Delivery) (before : Downstream) → IsExpected earlier delivery.moment before → (key : Key (List ℕ)) → machine_at key (after_message exchange delivery.message before).records ≡ message_at laws.keys exchange carries delivery.message key (expected exchange earlier delivery.moment key)
  middle_at delivery earlier before is key =
      laws.hears exchange.port (starts exchange) (exchange.messages delivery.message) before.records is.ascending key
      ∙ ap (message_at laws.keys exchange carries delivery.message key) (is.machines key)

  next : (delivery : Delivery) (earlier : List Delivery) (moment : ℕ) (before after : Downstream) → IsTimely (starts exchange).expires_in moment (delivery ∷ earlier) → IsExpected earlier delivery.moment before → Runs moment (after_message exchange delivery.message before) Reached after → IsExpected (delivery ∷ earlier) moment after
  unfolding IsTimely
  next delivery earlier moment before after timely is runs =
      let middle = after_message exchange delivery.message before in
      let ascending = middle_order delivery.message before is.ascending in
      let bounds = laws.bounds moment middle after Reached runs in
      let reached = bounds.4 refl in
      let began = is.moment_is in
      let later = timely.0 in
      let ends : after.moment ≡ moment = omega arith in
      let passed : after.moment - before.moment ≡ moment - delivery.moment = omega arith in
      record {
        moment_is = ends;
        ascending = laws.run_order moment middle after Reached ascending runs;
        machines = λ key.
            laws.silence moment middle after ascending runs key
            ∙ ap (λ n. after_silence n key (machine_at key middle.records)) passed
            ∙ ap (after_silence (moment - delivery.moment) key) (middle_at delivery earlier before is key)
            ∙ delivered laws.keys exchange carries delivery earlier moment timely key;
      }

  pub is_expected : (deliveries : List Delivery) (moment : ℕ) (after : Downstream) → IsTimely (starts exchange).expires_in moment deliveries → Leaves exchange ports limit deliveries moment after → IsExpected deliveries moment after
  unfolding IsTimely Leaves
  is_expected [] moment after timely leaves = first moment after leaves
  is_expected (delivery ∷ earlier) moment after timely leaves =
      next delivery earlier moment leaves.before after timely (is_expected earlier delivery.moment leaves.before timely.2 leaves.was) leaves.runs

pub fresh_hearing : Machines → FreshHearing
fresh_hearing laws exchange ports limit deliveries moment after carries timely leaves =
    let is = is_expected laws exchange carries ports limit deliveries moment after timely leaves in
    (is.moment_is, is.machines)
