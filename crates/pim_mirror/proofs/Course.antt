-- A router that hears deliveries leaves the machines of a port that hears them.
use Rattle.pim_mirror.proofs.Words.{◌≡◌, ◌∙◌, ℕ, ◌<◌, ◌≤◌, List, [], ◌∷◌, if◌then◌else◌, Option, length, refl, ap, subst, arith}
use Rattle.pim_mirror.proofs.Words.{length-append, AddressFamily, RouteTable, rp_of, Timing, Event, start_of, needed}
use Rattle.pim_mirror.proofs.Words.{RunKeepsItsBounds, RunHasOneEnd, GroupForm, IsNormal, Writing, IsWriting, HaveRps}
use Rattle.pim_mirror.proofs.Words.{AreCanonical, Exchange, HasUnitsOnce, Delivery, is_delivered, IsTimely, fresh, after_message}
use Rattle.pim_mirror.proofs.Words.{Leaves, NoEchoIsDue, EveryHearingReaches, NeedsTheUnits, Reaches, RouterState, with_machines}
use Rattle.pim_mirror.proofs.Words.{Verdict, HearsAll, IsTaken, AreOf, HoldsNothing, exchange_in, packet_of, HearsWriter, IsHeard}
use Rattle.pim_mirror.proofs.Words.{CanonicalMessagesCarryForm, CanonicalPacketIsHeard, RouterLeavesItsPort, DeliveryIsTaken}
use Rattle.pim_down.specs.declared.machines.step.Step.{Step}
use Rattle.pim_down.specs.declared.machines.step.Step.TheVariants.{Reached}
use Rattle.pim_down.specs.Time.{Downstream, Runs}
use Rattle.pim_fresh.specs.Expected.{units_of}
use Rattle.pim_router.specs.declared.verdict.Verdict.TheVariants.{Full}
use Rattle.pim_router.specs.declared.verdict.Store.TheVariants.{Records}
use Rattle.pim_mirror.proofs.RouterRuns.{reaches_as}

pub leaves_bounds : RunKeepsItsBounds → (exchange : Exchange) (ports limit : ℕ) (deliveries : List Delivery) (moment : ℕ) (after : Downstream) → Leaves exchange ports limit deliveries moment after
    → (after.ports ≡ ports) × (after.limit ≡ limit)
unfolding Leaves
leaves_bounds bounds exchange ports limit [] moment after leaves =
    let here = bounds moment (fresh ports limit) after Reached leaves in
    (here.0, here.1)
leaves_bounds bounds exchange ports limit (delivery ∷ earlier) moment after leaves =
    let here = bounds moment (after_message exchange delivery.message leaves.before) after Reached leaves.runs in
    let before = leaves_bounds bounds exchange ports limit earlier delivery.moment leaves.before leaves.was in
    (here.0 ∙ before.0, here.1 ∙ before.1)

-- earlier deliveries have no more units
pub fewer_units : (exchange : Exchange) (limit : ℕ) (delivery : Delivery) (earlier : List Delivery) → length (units_of exchange (delivery ∷ earlier)) ≤ limit → length (units_of exchange earlier) ≤ limit
unfolding units_of
fewer_units exchange limit delivery earlier few =
    let new : List Event = if is_delivered delivery.message earlier then [] else exchange.messages delivery.message in
    omega (arith, few, length-append new (units_of exchange earlier))

pub timely_before : (expiry : Option ℕ) (delivery : Delivery) (earlier : List Delivery) (moment : ℕ) → IsTimely expiry moment (delivery ∷ earlier) → IsTimely expiry delivery.moment earlier
unfolding IsTimely
timely_before expiry delivery earlier moment timely = timely.2

-- no run of fresh machines tells an echo
pub fresh_quiet : EveryHearingReaches → RunHasOneEnd → (exchange : Exchange) (limit : ℕ) → HasUnitsOnce exchange → (machines : Downstream) → machines ≡ fresh 1 limit
    → (moment : ℕ) (answer : Step (List ℕ)) (end : Downstream) → Runs moment machines answer end → answer ≡ Reached
unfolding Leaves IsTimely
fresh_quiet reaching one_end exchange limit once machines nothing moment answer end runs =
    let left = reaching exchange 1 limit [] moment once tt in
    (one_end moment (fresh 1 limit) end left.after answer Reached (subst (λ (m : Downstream). Runs moment m answer end) nothing runs) left.leaves).0

module _ (carries : CanonicalMessagesCarryForm) (heard : CanonicalPacketIsHeard) (needs : NeedsTheUnits) (bounds : RunKeepsItsBounds)
    (family : AddressFamily) (writing : Writing) (form : List GroupForm) (messages : List (List ℕ)) (timing : Timing) (limit : ℕ) (routes : RouteTable)
    (is_writing : IsWriting family writing) (is : IsNormal family form) (have : HaveRps family (rp_of family routes) form) (are : AreCanonical family writing (rp_of family routes) form messages) where
  abbrev exchange : Exchange
  exchange = exchange_in family (rp_of family routes) writing 0 timing messages

  -- under the route table with which the router began
  packet_heard : (i : ℕ) (before : RouterState) → before.routes ≡ routes → i < length messages → HearsWriter writing 0 timing before → IsHeard family exchange i (packet_of family writing 0 messages i) before
  packet_heard i before same within hears =
      subst (λ (table : RouteTable). HaveRps family (rp_of family table) form → AreCanonical family writing (rp_of family table) form messages
      → IsHeard family (exchange_in family (rp_of family table) writing 0 timing messages) i (packet_of family writing 0 messages i) before) same
      (λ have_here are_here. heard family writing form messages i 0 timing before is_writing is have_here are_here within hears) have are

  taken : (delivery : Delivery) (earlier : List Delivery) (before : RouterState) → before.routes ≡ routes → delivery.message < length messages → HearsWriter writing 0 timing before
      → IsTimely (start_of writing.holdtime timing).expires_in delivery.moment earlier → Leaves exchange 1 limit earlier delivery.moment before.machines
      → IsTaken family exchange limit delivery earlier (packet_of family writing 0 messages delivery.message) before
  taken delivery earlier before same within hears timely leaves =
      let here = packet_heard delivery.message before same within hears in
      let count : needed 0 before.machines.records (exchange.messages delivery.message) ≡ length (units_of exchange (delivery ∷ earlier)) =
      needs exchange 1 limit delivery earlier before.machines (carries family writing (rp_of family routes) form messages 0 timing is_writing is have are).once timely leaves in
      let room : before.machines.limit ≡ limit = (leaves_bounds bounds exchange 1 limit earlier delivery.moment before.machines leaves).1 in
      record {
        applied = λ few. here.applied (omega (arith, count, room, few));
        full = λ many. here.full (omega (arith, count, room, many)) ∙ ap (λ (n : ℕ). (Full (Records n), before)) count;
      }

  module _ (quiet : NoEchoIsDue) (reaching : EveryHearingReaches) (one_end : RunHasOneEnd) (start : RouterState) (begins : start.routes ≡ routes) (nothing : HoldsNothing limit start) where
    hears_leaves : (deliveries : List Delivery) (moment : ℕ) (after : RouterState) → AreOf (length messages) deliveries → IsTimely (start_of writing.holdtime timing).expires_in moment deliveries
        → length (units_of exchange deliveries) ≤ limit → HearsAll family writing 0 timing messages start deliveries moment after
        → Leaves exchange 1 limit deliveries moment after.machines × (after.routes ≡ routes)
    unfolding HearsAll Leaves
    hears_leaves [] moment after of timely few all =
        let ends = reaches_as moment all.0 start after (fresh_quiet reaching one_end exchange limit (carries family writing (rp_of family routes) form messages 0 timing is_writing is have are).once start.machines nothing moment) all.1 in
        (subst (λ (machines : Downstream). Runs moment machines Reached after.machines) nothing ends.0, ends.1 ∙ begins)
    hears_leaves (delivery ∷ earlier) moment after of timely few all =
        let before = hears_leaves earlier delivery.moment all.before of.1 (timely_before (start_of writing.holdtime timing).expires_in delivery earlier moment timely) (fewer_units exchange limit delivery earlier few) all.was in
        let applied = (taken delivery earlier all.before before.1 of.0 all.hears (timely_before (start_of writing.holdtime timing).expires_in delivery earlier moment timely) before.0).applied few in
        let reaches : Reaches moment all.reported (with_machines all.before (after_message exchange delivery.message all.before.machines)) after =
        subst (λ (end : Verdict × RouterState). Reaches moment all.reported end.1 after) applied all.reaches in
        let ends = reaches_as moment all.reported (with_machines all.before (after_message exchange delivery.message all.before.machines)) after
        (λ answer end runs. quiet exchange 1 limit delivery earlier moment all.before.machines end answer
        (carries family writing (rp_of family routes) form messages 0 timing is_writing is have are).once timely before.0 runs) reaches in
        (record { before = all.before.machines; was = before.0; runs = ends.0 }, ends.1 ∙ before.1)

pub leaves_its_port : CanonicalMessagesCarryForm → CanonicalPacketIsHeard → NoEchoIsDue → EveryHearingReaches → NeedsTheUnits → RunKeepsItsBounds → RunHasOneEnd → RouterLeavesItsPort
leaves_its_port carries heard quiet reaching needs bounds one_end family writing form messages timing limit start deliveries moment after is_writing is have are nothing of timely few all =
    hears_leaves carries heard needs bounds family writing form messages timing limit start.routes is_writing is have are quiet reaching one_end start refl nothing deliveries moment after of timely few all

pub one_more_taken : RouterLeavesItsPort → CanonicalMessagesCarryForm → CanonicalPacketIsHeard → NeedsTheUnits → RunKeepsItsBounds → DeliveryIsTaken
one_more_taken leaves carries heard needs bounds family writing form messages timing limit start delivery earlier before is_writing is have are nothing of timely few all hears =
    let behind = leaves family writing form messages timing limit start earlier delivery.moment before is_writing is have are nothing of.1 timely few all in
    taken carries heard needs bounds family writing form messages timing limit start.routes is_writing is have are delivery earlier before behind.1 of.0 hears timely behind.0
