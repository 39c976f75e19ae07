-- A router that hears deliveries tells no echo on its whole course.
use Rattle.pim_mirror.proofs.Words.{◌≡◌, ◌∙◌, ℕ, ◌≤◌, Bool, true, false, ◌||◌, List, [], ◌∷◌, ◌++◌, length, refl, sym, ap, ap₂}
use Rattle.pim_mirror.proofs.Words.{subst, arith, append_assoc, list_any, AddressFamily, Timing, start_of, rp_of, GroupForm}
use Rattle.pim_mirror.proofs.Words.{IsNormal, Writing, IsWriting, HaveRps, AreCanonical, Exchange, HasUnitsOnce, Delivery}
use Rattle.pim_mirror.proofs.Words.{IsTimely, after_message, NoEchoIsDue, Input, RouterReport, takes, runs_to, IsCourse, verdict}
use Rattle.pim_mirror.proofs.Words.{Packet, received, RouterState, Verdict, AreOf, HoldsNothing, Lasts, inputs_of, packet_of}
use Rattle.pim_mirror.proofs.Words.{HearsWriter, heard_exchange, DeliveryIsTaken, RouterLeavesItsPort, CourseHearsAll, is_echo}
use Rattle.pim_down.specs.declared.machines.step.Step.{Step as Fires}
use Rattle.pim_down.specs.declared.machines.step.Step.TheVariants as fires
use Rattle.pim_down.specs.Time.{Downstream, Runs as MachineRuns}
use Rattle.pim_fresh.specs.Expected.{units_of}
use Rattle.pim_mirror.proofs.Course.{fewer_units, timely_before}
use Rattle.pim_mirror.proofs.CourseSteps.{parts, last_run, first_by}
use Rattle.pim_mirror.proofs.RouterRuns.{reaches_quietly}

abbrev pub IsQuiet : List RouterReport → Type 0
IsQuiet reported = list_any is_echo reported ≡ false

pub quiet_both : (xs ys : List RouterReport) → IsQuiet xs → IsQuiet ys → IsQuiet (xs ++ ys)
quiet_both [] ys first second = second
quiet_both (x ∷ xs) ys first second = by (is_echo x) first (λ rest. quiet_both xs ys rest second)
  where
    by : (b : Bool) → (b || list_any is_echo xs) ≡ false → (IsQuiet xs → IsQuiet (xs ++ ys)) → (b || list_any is_echo (xs ++ ys)) ≡ false
    by true e rest = e
    by false e rest = rest e

pub quiet_as : (reported before behind : List RouterReport) → reported ≡ before ++ behind → IsQuiet before → IsQuiet behind → IsQuiet reported
quiet_as reported before behind joined first second = subst IsQuiet (sym joined) (quiet_both before behind first second)

-- a packet alone
pub record Took (family : AddressFamily) (packet : Packet) (reported : List RouterReport) (start after : RouterState) : Type 0 where
  pub told_is : reported ≡ verdict (received family packet start).0 ∷ []
  pub is : after ≡ (received family packet start).1

pub took : (family : AddressFamily) (packet : Packet) (reported : List RouterReport) (start after : RouterState) → IsCourse family (takes packet ∷ []) reported start after → Took family packet reported start after
unfolding IsCourse
took family packet reported start after course = record {
  told_is = course.joined ∙ ap₂ (λ (before behind : List RouterReport). before ++ behind) course.begins.0 course.goes_on.0;
  is = course.goes_on.1 ∙ course.begins.1;
}

module _ (taken : DeliveryIsTaken) (leaves : RouterLeavesItsPort) (course_hears : CourseHearsAll) (no_echo : NoEchoIsDue)
    (family : AddressFamily) (writing : Writing) (form : List GroupForm) (messages : List (List ℕ)) (timing : Timing) (limit last : ℕ) (start : RouterState)
    (is_writing : IsWriting family writing) (is : IsNormal family form) (have : HaveRps family (rp_of family start.routes) form) (are : AreCanonical family writing (rp_of family start.routes) form messages)
    (once : HasUnitsOnce (heard_exchange family writing 0 timing messages start))
    (nothing : HoldsNothing limit start) (lasts : Lasts last start) (hears : HearsWriter writing 0 timing start)
    (fresh_quiet : (moment : ℕ) (answer : Fires (List ℕ)) (end : Downstream) → MachineRuns moment start.machines answer end → answer ≡ fires.Reached) where
  abbrev exchange : Exchange
  exchange = heard_exchange family writing 0 timing messages start

  abbrev packet : Delivery → Packet
  packet delivery = packet_of family writing 0 messages delivery.message

  quiet_run : (moment : ℕ) (reported : List RouterReport) (from after : RouterState) → ((answer : Fires (List ℕ)) (end : Downstream) → MachineRuns moment from.machines answer end → answer ≡ fires.Reached)
      → IsCourse family (runs_to moment ∷ []) reported from after → IsQuiet reported
  quiet_run moment reported from after reached course =
      let run = last_run family moment reported from after course in
      quiet_as reported run.said [] run.is (reaches_quietly moment run.said from after reached run.reaches) refl

  pub all_quiet : (deliveries : List Delivery) (moment : ℕ) (reported : List RouterReport) (after : RouterState) → AreOf (length messages) deliveries → IsTimely (start_of writing.holdtime timing).expires_in moment deliveries
      → length (units_of exchange deliveries) ≤ limit → moment ≤ last → IsCourse family (inputs_of family writing 0 messages deliveries ++ runs_to moment ∷ []) reported start after → IsQuiet reported
  unfolding inputs_of
  all_quiet [] moment reported after of timely few early course = quiet_run moment reported start after (fresh_quiet moment) course
  all_quiet (delivery ∷ earlier) moment reported after of timely few early course =
      let timely_here = timely_before (start_of writing.holdtime timing).expires_in delivery earlier moment timely in
      let early_here : delivery.moment ≤ last = omega (arith, early, first_by (start_of writing.holdtime timing).expires_in delivery earlier moment timely) in
      let few_here = fewer_units exchange limit delivery earlier few in
      let front : List Input = inputs_of family writing 0 messages earlier ++ runs_to delivery.moment ∷ [] in
      let split = sym (append_assoc (inputs_of family writing 0 messages earlier) (runs_to delivery.moment ∷ []) (takes (packet delivery) ∷ [])) in
      let two = parts family (inputs_of family writing 0 messages (delivery ∷ earlier)) (runs_to moment ∷ []) reported start after course in
      let one = parts family front (takes (packet delivery) ∷ []) two.reported start two.between (subst (λ (inputs : List Input). IsCourse family inputs two.reported start two.between) split two.first) in
      let heard = course_hears family writing form messages timing limit last start earlier delivery.moment one.reported one.between is_writing is have are nothing of.1 timely_here few_here early_here lasts hears one.first in
      let left = leaves family writing form messages timing limit start earlier delivery.moment one.between is_writing is have are nothing of.1 timely_here few_here heard.0 in
      let applied = (taken family writing form messages timing limit start delivery earlier one.between is_writing is have are nothing of timely_here few_here heard.0 heard.2).applied few in
      let packet_took = took family (packet delivery) one.said one.between two.between one.second in
      let machines : two.between.machines ≡ after_message exchange delivery.message one.between.machines =
      ap (λ (state : RouterState). state.machines) packet_took.is ∙ ap (λ (end : Verdict × RouterState). end.1.machines) applied in
      quiet_as reported two.reported two.said two.joined
      (quiet_as two.reported one.reported one.said one.joined (all_quiet earlier delivery.moment one.reported one.between of.1 timely_here few_here early_here one.first) (subst IsQuiet (sym packet_took.told_is) refl))
      (quiet_run moment two.said two.between after
      (λ answer end runs. no_echo exchange 1 limit delivery earlier moment one.between.machines end answer once timely left.0 (subst (λ (m : Downstream). MachineRuns moment m answer end) machines runs))
      two.second)
