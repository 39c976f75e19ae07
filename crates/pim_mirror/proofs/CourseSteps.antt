-- The course of a router over deliveries is a hearing of all of them.
use Rattle.pim_mirror.proofs.Words.{◌≡◌, ◌∙◌, ℕ, ◌≤◌, List, [], ◌∷◌, ◌++◌, Option, length, refl, sym, ap, subst, arith}
use Rattle.pim_mirror.proofs.Words.{append_assoc, AddressFamily, Timing, start_of, rp_of, Downstream, GroupForm, IsNormal}
use Rattle.pim_mirror.proofs.Words.{Writing, IsWriting, HaveRps, AreCanonical, Exchange, Delivery, IsTimely, after_message, Input}
use Rattle.pim_mirror.proofs.Words.{runs_to, takes, RouterReport, Reaches, IsCourse, received, RouterState, with_machines}
use Rattle.pim_mirror.proofs.Words.{Verdict, HearsAll, AreOf, HoldsNothing, Lasts, inputs_of, packet_of, HearsWriter}
use Rattle.pim_mirror.proofs.Words.{heard_exchange, DeliveryIsTaken, WriterStaysHeard, CourseHearsAll}
use Rattle.pim_fresh.specs.Expected.{units_of}
use Rattle.pim_mirror.proofs.Course.{fewer_units, timely_before}

-- ---- a course in two parts

pub record Parts (family : AddressFamily) (xs ys : List Input) (whole : List RouterReport) (start after : RouterState) : Type 0 where
  pub between : RouterState
  pub reported : List RouterReport
  pub said : List RouterReport
  pub joined : whole ≡ reported ++ said
  pub first : IsCourse family xs reported start between
  pub second : IsCourse family ys said between after

pub parts : (family : AddressFamily) (xs ys : List Input) (reported : List RouterReport) (start after : RouterState) → IsCourse family (xs ++ ys) reported start after → Parts family xs ys reported start after
unfolding IsCourse
parts family [] ys reported start after course = record { between = start; reported = []; said = reported; joined = refl; first = (refl, refl); second = course }
parts family (x ∷ xs) ys reported start after course =
    let rest = parts family xs ys course.behind course.between after course.goes_on in
    record {
      between = rest.between;
      reported = course.before ++ rest.reported;
      said = rest.said;
      joined = course.joined ∙ ap (λ (more : List RouterReport). course.before ++ more) rest.joined ∙ sym (append_assoc course.before rest.reported rest.said);
      first = record { before = course.before; behind = rest.reported; between = course.between; joined = refl; begins = course.begins; goes_on = rest.first };
      second = rest.second;
    }

-- a run to a moment, and a packet behind it
record RunAndPacket (family : AddressFamily) (writing : Writing) (messages : List (List ℕ)) (delivery : Delivery) (start after : RouterState) : Type 0 where
  before : RouterState
  reported : List RouterReport
  reaches : Reaches delivery.moment reported start before
  taken : after ≡ (received family (packet_of family writing 0 messages delivery.message) before).1

run_and_packet : (family : AddressFamily) (writing : Writing) (messages : List (List ℕ)) (delivery : Delivery) (reported : List RouterReport) (start after : RouterState)
    → IsCourse family (runs_to delivery.moment ∷ takes (packet_of family writing 0 messages delivery.message) ∷ []) reported start after → RunAndPacket family writing messages delivery start after
unfolding IsCourse
run_and_packet family writing messages delivery reported start after course = record {
  before = course.between;
  reported = course.before;
  reaches = course.begins;
  taken = course.goes_on.goes_on.1 ∙ course.goes_on.begins.1;
}

pub record Run (moment : ℕ) (reported : List RouterReport) (start after : RouterState) : Type 0 where
  pub said : List RouterReport
  pub is : reported ≡ said ++ []
  pub reaches : Reaches moment said start after

pub last_run : (family : AddressFamily) (moment : ℕ) (reported : List RouterReport) (start after : RouterState) → IsCourse family (runs_to moment ∷ []) reported start after → Run moment reported start after
unfolding IsCourse
last_run family moment reported start after course = record {
  said = course.before;
  is = course.joined ∙ ap (λ (more : List RouterReport). course.before ++ more) course.goes_on.0;
  reaches = subst (λ (end : RouterState). Reaches moment course.before start end) (sym course.goes_on.1) course.begins;
}

no_inputs : (family : AddressFamily) (reported : List RouterReport) (start after : RouterState) → IsCourse family [] reported start after → after ≡ start
unfolding IsCourse
no_inputs family reported start after course = course.1

-- ---- deliveries

pub first_by : (expiry : Option ℕ) (delivery : Delivery) (earlier : List Delivery) (moment : ℕ) → IsTimely expiry moment (delivery ∷ earlier) → delivery.moment ≤ moment
unfolding IsTimely
first_by expiry delivery earlier moment timely = timely.0

module _ (taken : DeliveryIsTaken) (stays : WriterStaysHeard) (family : AddressFamily) (writing : Writing) (form : List GroupForm) (messages : List (List ℕ)) (timing : Timing) (limit last : ℕ) (start : RouterState)
    (is_writing : IsWriting family writing) (is : IsNormal family form) (have : HaveRps family (rp_of family start.routes) form) (are : AreCanonical family writing (rp_of family start.routes) form messages)
    (nothing : HoldsNothing limit start) (lasts : Lasts last start) (hears : HearsWriter writing 0 timing start) where
  abbrev exchange : Exchange
  exchange = heard_exchange family writing 0 timing messages start

  record Heard (deliveries : List Delivery) (moment : ℕ) (after : RouterState) : Type 0 where
    all : HearsAll family writing 0 timing messages start deliveries moment after
    still : Lasts last after × HearsWriter writing 0 timing after

  -- a packet that is applied changes no neighbour
  applied_keeps : (before : RouterState) (machines : Downstream) → machines.moment ≡ before.machines.moment → Lasts last before × HearsWriter writing 0 timing before
      → Lasts last (with_machines before machines) × HearsWriter writing 0 timing (with_machines before machines)
  applied_keeps before machines same still = (
    subst (λ (m : ℕ). Lasts last (with_machines before (record { ports = machines.ports; limit = machines.limit; moment = m; records = machines.records }))) (sym same)
        (record { by_then = still.0.by_then; now = still.0.now; left = still.0.left }),
    record { own = still.1.own; known = still.1.known; timing_is = still.1.timing_is },
  )

  heard_by : (deliveries : List Delivery) (moment : ℕ) (reported said : List RouterReport) (between after : RouterState) → AreOf (length messages) deliveries → IsTimely (start_of writing.holdtime timing).expires_in moment deliveries
      → length (units_of exchange deliveries) ≤ limit → moment ≤ last → IsCourse family (inputs_of family writing 0 messages deliveries) reported start between → Reaches moment said between after → Heard deliveries moment after
  unfolding HearsAll inputs_of
  heard_by [] moment reported said between after of timely few early course reaches =
      let from_start : Reaches moment said start after = subst (λ (state : RouterState). Reaches moment said state after) (no_inputs family reported start between course) reaches in
      record { all = (said, from_start); still = stays writing 0 timing moment last said start after early lasts hears from_start }
  heard_by (delivery ∷ earlier) moment reported said between after of timely few early course reaches =
      let timely_here = timely_before (start_of writing.holdtime timing).expires_in delivery earlier moment timely in
      let early_here : delivery.moment ≤ last = omega (arith, early, first_by (start_of writing.holdtime timing).expires_in delivery earlier moment timely) in
      let few_here = fewer_units exchange limit delivery earlier few in
      let two = parts family (inputs_of family writing 0 messages earlier) (runs_to delivery.moment ∷ takes (packet_of family writing 0 messages delivery.message) ∷ []) reported start between course in
      let step = run_and_packet family writing messages delivery two.said two.between between two.second in
      let before = heard_by earlier delivery.moment two.reported step.reported two.between step.before of.1 timely_here few_here early_here two.first step.reaches in
      let end = (taken family writing form messages timing limit start delivery earlier step.before is_writing is have are nothing of timely_here few_here before.all before.still.1).applied few in
      let from_packet : Reaches moment said (received family (packet_of family writing 0 messages delivery.message) step.before).1 after = subst (λ (state : RouterState). Reaches moment said state after) step.taken reaches in
      let from_machines : Reaches moment said (with_machines step.before (after_message exchange delivery.message step.before.machines)) after = subst (λ (state : Verdict × RouterState). Reaches moment said state.1 after) end from_packet in
      let kept = applied_keeps step.before (after_message exchange delivery.message step.before.machines) refl before.still in
      record {
        all = record { before = step.before; was = before.all; hears = before.still.1; reported = said; reaches = from_packet };
        still = stays writing 0 timing moment last said (with_machines step.before (after_message exchange delivery.message step.before.machines)) after early kept.0 kept.1 from_machines;
      }

pub course_hears : DeliveryIsTaken → WriterStaysHeard → CourseHearsAll
course_hears taken stays family writing form messages timing limit last start deliveries moment reported after is_writing is have are nothing of timely few early lasts hears course =
    let two = parts family (inputs_of family writing 0 messages deliveries) (runs_to moment ∷ []) reported start after course in
    let end = last_run family moment two.said two.between after two.second in
    let heard = heard_by taken stays family writing form messages timing limit last start is_writing is have are nothing lasts hears deliveries moment two.reported end.said two.between after of timely few early two.first end.reaches in
    (heard.all, heard.still.0, heard.still.1)
