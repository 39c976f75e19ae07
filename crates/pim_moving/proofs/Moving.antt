-- A router that is settled at a form, and is given the packets of a change.
use Rattle.std.proofs.Common.{◌≡◌, ◌∙◌, ℕ, ◌-◌, ◌≤◌, ◌<◌, max, true, false, nat_lt, List, [], ◌∷◌, length, None, Some, refl, sym, ap, subst, arith, Option}
use Rattle.std.specs.List.{AllByRecursion}
use Rattle.std.proofs.lemmas.Bool.{ltb-true, ltb-false}
use Rattle.pim_addr.specs.declared.family.AddressFamily.{AddressFamily}
use Rattle.pim_addr.specs.Address.{IsGroupAddress}
use Rattle.pim_addr.specs.Routes.{RouteTable, rp_of}
use Rattle.pim_down.specs.declared.machines.event.Timing.{Timing}
use Rattle.pim_down.specs.declared.machines.step.Step.{Step}
use Rattle.pim_down.specs.declared.machines.step.Step.TheVariants.{Reached}
use Rattle.pim_down.specs.Hearing.{start_of}
use Rattle.pim_down.specs.Records.{IsAscending}
use Rattle.pim_down.specs.Time.{Downstream}
use Rattle.pim_down.specs.Laws.{KeysAreDistinct, HearingActsAtEachKey, HearingKeepsTheOrder, RunKeepsItsBounds, RunKeepsTheOrder}
use Rattle.pim_form.specs.Messages.{Writing, IsWriting}
use Rattle.pim_form.specs.TowardLaws.{TestFindsTheNeighbour}
use Rattle.pim_change.specs.Change.{ChangeUnit}
use Rattle.pim_change.specs.Laws.{AreReadAsRuns, ChangeIsRead}
use Rattle.pim_fresh.specs.Deliveries.{Delivery, IsShorter}
use Rattle.pim_fresh.specs.Exchange.{Exchange, starts}
use Rattle.pim_fresh.specs.Hearing.{after_message}
use Rattle.pim_router.specs.Course.{runs_to, takes, RouterReport, Reaches, IsCourse}
use Rattle.pim_router.specs.Packets.{received}
use Rattle.pim_router.specs.State.{RouterState, with_machines}
use Rattle.pim_router.specs.declared.verdict.Verdict.{Verdict}
use Rattle.pim_router.specs.declared.verdict.Verdict.TheVariants.{Full}
use Rattle.pim_router.specs.declared.verdict.Store.TheVariants.{Records as RecordsAreMany}
use Rattle.pim_mirror.specs.CanonicalCourse.{AreOf, Lasts, inputs_of}
use Rattle.pim_mirror.specs.CanonicalExchange.{exchange_in}
use Rattle.pim_mirror.specs.CanonicalPackets.{packet_of, HearsWriter, IsHeard, needed_records}
use Rattle.pim_mirror.specs.Laws.{ReadPacketIsHeard, RouterRunsAsItsMachines, WriterStaysHeard}
use Rattle.pim_mirror.specs.MachineRuns.{MachinesArrive}
use Rattle.pim_mirror.specs.Mirror.{needed_by, first_needed}
use Rattle.pim_settling.specs.Hearing.{Arrives, NoneEnds, Passes, Hears}
use Rattle.pim_settling.specs.Laws.{WrittenChangeSettles, SettledWants}
use Rattle.pim_moving.specs.Changing.{AreBetween, NoneEndsBehind, NoneEndsOnTheWay}
use Rattle.pim_moving.specs.Laws.{ChangeMovesARouter, LongTimersLast}
use Rattle.pim_moving.proofs.Groups.{OfGroup, runs_are}
use Rattle.pim_moving.proofs.Hearing.{none_expires_behind}
use Rattle.pim_moving.proofs.Lasting.{Stays, stays_by_run, stays_of, none_expires, shorter_by, expires_later, none_ends}
use Rattle.pim_moving.proofs.Passing.{parts, no_inputs, last_run, none_in_parts, run_and_packet}
use Rattle.pim_moving.proofs.Reached.{stars_have_rps, asks_for}
use Rattle.pim_moving.proofs.Reading.{message_at, events_are, events_same}

-- the laws on which it rests
pub record Machines : Type 0 where
  pub keys : KeysAreDistinct
  pub acts : HearingActsAtEachKey
  pub hears_order : HearingKeepsTheOrder
  pub bounds : RunKeepsItsBounds
  pub runs_order : RunKeepsTheOrder
  pub heard : ReadPacketIsHeard
  pub runs : RouterRunsAsItsMachines
  pub stays : WriterStaysHeard

-- ---- the machines on the way to a moment

arrives : (echoes : List (Step (List ℕ))) (moment : ℕ) (state after : Downstream) → MachinesArrive echoes moment state after → Arrives echoes moment state after
unfolding MachinesArrive Arrives
arrives [] moment state after runs = runs
arrives (echo ∷ echoes) moment state after runs = (runs.0, runs.1, arrives echoes moment runs.0 after runs.2)

-- where the machines stand
record Standing (ports moment : ℕ) (state : Downstream) : Type 0 where
  moment_is : state.moment ≡ moment
  ports_are : state.ports ≡ ports
  up : IsAscending state.records

module _ (laws : Machines) (ports moment : ℕ) where
  stands_then : (echoes : List (Step (List ℕ))) (state after : Downstream) → state.moment ≤ moment → state.ports ≡ ports → IsAscending state.records → MachinesArrive echoes moment state after → Standing ports moment after
  unfolding MachinesArrive
  stands_then [] state after before same up runs =
      let bounds = laws.bounds moment state after Reached runs in
      record {
        moment_is = bounds.4 refl ∙ is_later state.moment before;
        ports_are = bounds.0 ∙ same;
        up = laws.runs_order moment state after Reached up runs;
      }
    where
      is_later : (now : ℕ) → now ≤ moment → max now moment ≡ moment
      is_later now e = omega (arith, e)
  stands_then (echo ∷ echoes) state after before same up runs =
      let bounds = laws.bounds moment state runs.0 echo runs.1 in
      stands_then echoes runs.0 after (omega (arith, before, bounds.3)) (bounds.0 ∙ same) (laws.runs_order moment state runs.0 echo up runs.1) runs.2

-- through all echoes no expiry timer ends by a later moment
stays_through : (moment last : ℕ) → moment ≤ last → (echoes : List (Step (List ℕ))) (state after : Downstream) → Stays last state → MachinesArrive echoes moment state after → Stays last after
unfolding MachinesArrive
stays_through moment last early [] state after timers runs = stays_by_run moment last early state after Reached timers runs
stays_through moment last early (echo ∷ echoes) state after timers runs =
    stays_through moment last early echoes runs.0 after (stays_by_run moment last early state runs.0 echo timers runs.1) runs.2

-- ---- the course

since_start : (from : ℕ) (deliveries : List Delivery) (to : ℕ) → AreBetween from deliveries to → from ≤ to
unfolding AreBetween
since_start from [] to between = between
since_start from (delivery ∷ earlier) to between = omega (arith, between.0, since_start from earlier delivery.moment between.1)

module _ (laws : Machines) (family : AddressFamily) (table : RouteTable) (writing : Writing) (timing : Timing) (messages : List (List ℕ)) (runs : List (List ChangeUnit)) (last : ℕ) (start : RouterState)
    (is_writing : IsWriting family writing) (same : (group : List ℕ) → IsGroupAddress family group → rp_of family start.routes group ≡ rp_of family table group) (read : AreReadAsRuns family writing (rp_of family table) runs messages)
    (of_groups : AllByRecursion (AllByRecursion (OfGroup family)) runs) where
  abbrev rps : List ℕ → Option (List ℕ)
  rps = rp_of family table

  abbrev exchange : Exchange
  exchange = exchange_in family rps writing 0 timing messages

  -- what is known of the router at a moment
  record At (moment : ℕ) (state : RouterState) : Type 0 where
    neighbours : Lasts last state
    hears : HearsWriter writing 0 timing state
    routes : state.routes ≡ start.routes
    machines : Standing start.machines.ports moment state.machines

  begins : Lasts last start → HearsWriter writing 0 timing start → IsAscending start.machines.records → At start.machines.moment start
  begins neighbours hears up = record { neighbours = neighbours; hears = hears; routes = refl; machines = record { moment_is = refl; ports_are = refl; up = up } }

  record Onward (moment : ℕ) (state after : RouterState) : Type 0 where
    later : state.machines.moment ≤ moment
    echoes : List (Step (List ℕ))
    way : MachinesArrive echoes moment state.machines after.machines
    there : At moment after

  onward : (from moment : ℕ) (said : List RouterReport) (state after : RouterState) → from ≤ moment → moment ≤ last → At from state → Reaches moment said state after → Onward moment state after
  onward from moment said state after later early at reaches =
      let run = laws.runs moment said state after reaches in
      let before : state.machines.moment ≤ moment = omega (arith, later, at.machines.moment_is) in
      let still = laws.stays writing 0 timing moment last said state after early at.neighbours at.hears reaches in
      record {
        later = before;
        echoes = run.echoes;
        way = run.arrives;
        there = record {
          neighbours = still.0;
          hears = still.1;
          routes = run.routes ∙ at.routes;
          machines = stands_then laws start.machines.ports moment run.echoes state.machines after.machines before at.machines.ports_are at.machines.up run.arrives;
        };
      }

  passes : (moment : ℕ) (state after : RouterState) → NoneEnds moment state.machines → Onward moment state after → Passes moment state.machines after.machines
  passes moment state after none on = record {
    later = on.later;
    lasts = none;
    echoes = on.echoes;
    arrives = arrives on.echoes moment state.machines after.machines on.way;
  }

  -- ---- a packet

  rps_same : (routes : RouteTable) → routes ≡ start.routes → (group : List ℕ) → IsGroupAddress family group → rps group ≡ rp_of family routes group
  rps_same routes e group is = sym (ap (λ (t : RouteTable). rp_of family t group) e ∙ same group is)

  heard : (i : ℕ) (state : RouterState) → i < length messages → HearsWriter writing 0 timing state → state.routes ≡ start.routes → IsHeard family exchange i (packet_of family writing 0 messages i) state
  heard i state within hears e =
      let this = message_at family writing rps messages runs i read of_groups within in
      laws.heard family writing exchange i _ this.said state is_writing this.read this.upstream this.holdtime
      (this.events ∙ events_same family rps (rp_of family state.routes) (rps_same state.routes e) this.said this.groups) hears

  not_full : (count : ℕ) (state : RouterState) (end : Verdict × RouterState) → end ≡ (Full (RecordsAreMany count), state) → needed_by end.0 ≡ None → ⊥
  not_full count state end e none =
      let some : needed_by end.0 ≡ Some count = ap (λ (p : Verdict × RouterState). needed_by p.0) e in
      let crossed : Some count ≡ None = sym some ∙ none in
      cc

  -- the state after the packet, by whether there is room
  module _ (i : ℕ) (state : RouterState) (is : IsHeard family exchange i (packet_of family writing 0 messages i) state) where
    abbrev count : ℕ
    count = needed_records exchange i state

    abbrev end : Verdict × RouterState
    end = received family (packet_of family writing 0 messages i) state

    applied : needed_by end.0 ≡ None → end.1 ≡ with_machines state (after_message exchange i state.machines)
    applied none =
        elim (nat_lt state.machines.limit count) as (λ b. nat_lt state.machines.limit count ≡ b → end.1 ≡ with_machines state (after_message exchange i state.machines)) [
          | true ↦ λ e. absurd (not_full count state end (is.full (ltb-true state.machines.limit count e)) none)
          | false ↦ λ e. ap (λ (p : Verdict × RouterState). p.1) (is.applied (ltb-false state.machines.limit count e))
        ] refl

    -- what holds of the state before and after its message holds after the packet
    either : (P : RouterState → Type 0) → P state → P (with_machines state (after_message exchange i state.machines)) → P end.1
    either P here behind =
        elim (nat_lt state.machines.limit count) as (λ b. nat_lt state.machines.limit count ≡ b → P end.1) [
          | true ↦ λ e. subst P (sym (ap (λ (p : Verdict × RouterState). p.1) (is.full (ltb-true state.machines.limit count e)))) here
          | false ↦ λ e. subst P (sym (ap (λ (p : Verdict × RouterState). p.1) (is.applied (ltb-false state.machines.limit count e)))) behind
        ] refl

  behind_packet : (i moment : ℕ) (state : RouterState) → At moment state → At moment (with_machines state (after_message exchange i state.machines))
  behind_packet i moment state at = record {
    neighbours = record { by_then = at.neighbours.by_then; now = at.neighbours.now; left = at.neighbours.left };
    hears = record { own = at.hears.own; known = at.hears.known; timing_is = at.hears.timing_is };
    routes = at.routes;
    machines = record {
      moment_is = at.machines.moment_is;
      ports_are = at.machines.ports_are;
      up = laws.hears_order 0 (starts exchange) (exchange.messages i) state.machines.records at.machines.up;
    };
  }

  -- ---- all deliveries

  record Behind (deliveries : List Delivery) (moment : ℕ) (after : RouterState) : Type 0 where
    all : Hears exchange start.machines deliveries moment after.machines
    there : At moment after

  walk : (deliveries : List Delivery) (moment : ℕ) (reported said : List RouterReport) (between after : RouterState) → At start.machines.moment start → AreOf (length messages) deliveries
      → AreBetween start.machines.moment deliveries moment → NoneEndsOnTheWay family writing messages start deliveries moment → moment ≤ last → first_needed reported ≡ None
      → IsCourse family (inputs_of family writing 0 messages deliveries) reported start between → Reaches moment said between after → Behind deliveries moment after
  unfolding Hears inputs_of AreBetween NoneEndsOnTheWay
  walk [] moment reported said between after at of since ending early none course reaches =
      let still = no_inputs family reported start between course in
      let from_start : Reaches moment said start after = subst (λ (state : RouterState). Reaches moment said state after) still reaches in
      let lasting : NoneEnds moment start.machines = subst (λ (state : RouterState). NoneEnds moment state.machines) still (ending reported between course) in
      let on = onward start.machines.moment moment said start after since early at from_start in
      record { all = passes moment start after lasting on; there = on.there }
  walk (delivery ∷ earlier) moment reported said between after at of since ending early none course reaches =
      let two = parts family (inputs_of family writing 0 messages earlier) (runs_to delivery.moment ∷ takes (packet_of family writing 0 messages delivery.message) ∷ []) reported start between course in
      let rooms = none_in_parts reported two.reported two.said two.joined none in
      let step = run_and_packet family writing messages delivery two.said two.between between two.second in
      let early_here : delivery.moment ≤ last = omega (arith, early, since.0) in
      let before = walk earlier delivery.moment two.reported step.reported two.between step.before at of.1 since.1 ending.1 early_here rooms.0 two.first step.reaches in
      let packet = heard delivery.message step.before of.0 before.there.hears before.there.routes in
      let behind : between ≡ with_machines step.before (after_message exchange delivery.message step.before.machines) = step.taken ∙ applied delivery.message step.before packet (step.room rooms.1) in
      let lasting : NoneEnds moment (after_message exchange delivery.message step.before.machines) = subst (λ (state : RouterState). NoneEnds moment state.machines) behind (ending.0 reported between course) in
      let here = behind_packet delivery.message delivery.moment step.before before.there in
      let on = onward delivery.moment moment said (with_machines step.before (after_message exchange delivery.message step.before.machines)) after since.0 early here
      (subst (λ (state : RouterState). Reaches moment said state after) behind reaches) in
      record {
        all = record {
          before = step.before.machines;
          was = before.all;
          passes = passes moment (with_machines step.before (after_message exchange delivery.message step.before.machines)) after lasting on;
        };
        there = on.there;
      }

  -- ---- timers that are long enough

  module _ (started : IsShorter (last - start.machines.moment) (start_of writing.holdtime timing).expires_in) where
    stays_behind : (i moment : ℕ) (state : RouterState) → start.machines.moment ≤ moment → At moment state → Stays last state.machines → Stays last (after_message exchange i state.machines)
    stays_behind i moment state since at timers =
        let left = shorter_by (last - start.machines.moment) (start_of writing.holdtime timing).expires_in started (last - state.machines.moment) (omega (arith, since, at.machines.moment_is)) in
        stays_of laws.keys last (after_message exchange i state.machines) timers.by_then (laws.hears_order 0 (starts exchange) (exchange.messages i) state.machines.records at.machines.up)
        (none_expires_behind laws.acts exchange i last state.machines at.machines.up left (none_expires last state.machines timers))

    newest : List Delivery → ℕ
    newest [] = start.machines.moment
    newest (delivery ∷ earlier) = delivery.moment

    newest_by : (deliveries : List Delivery) (to : ℕ) → AreBetween start.machines.moment deliveries to → newest deliveries ≤ to
    unfolding AreBetween newest
    newest_by [] to between = between
    newest_by (delivery ∷ earlier) to between = between.0

    record Lasting (moment : ℕ) (state : RouterState) : Type 0 where
      there : At moment state
      timers : Stays last state.machines

    outlasts : (deliveries : List Delivery) (to : ℕ) (reported : List RouterReport) (state : RouterState) → At start.machines.moment start → Stays last start.machines → AreOf (length messages) deliveries
        → AreBetween start.machines.moment deliveries to → to ≤ last → IsCourse family (inputs_of family writing 0 messages deliveries) reported start state → Lasting (newest deliveries) state
    unfolding inputs_of AreBetween newest
    outlasts [] to reported state at timers of since early course =
        let still = no_inputs family reported start state course in
        subst (Lasting start.machines.moment) (sym still) (record { there = at; timers = timers })
    outlasts (delivery ∷ earlier) to reported state at timers of since early course =
        let two = parts family (inputs_of family writing 0 messages earlier) (runs_to delivery.moment ∷ takes (packet_of family writing 0 messages delivery.message) ∷ []) reported start state course in
        let step = run_and_packet family writing messages delivery two.said two.between state two.second in
        let early_here : delivery.moment ≤ last = omega (arith, early, since.0) in
        let before = outlasts earlier delivery.moment two.reported two.between at timers of.1 since.1 early_here two.first in
        let on = onward (newest earlier) delivery.moment step.reported two.between step.before (newest_by earlier delivery.moment since.1) early_here before.there step.reaches in
        let stays = stays_through delivery.moment last early_here on.echoes two.between.machines step.before.machines before.timers on.way in
        let packet = heard delivery.message step.before of.0 on.there.hears on.there.routes in
        let here : Lasting delivery.moment step.before = record { there = on.there; timers = stays } in
        let behind : Lasting delivery.moment (with_machines step.before (after_message exchange delivery.message step.before.machines)) = record {
          there = behind_packet delivery.message delivery.moment step.before on.there;
          timers = stays_behind delivery.message delivery.moment step.before (since_start start.machines.moment earlier delivery.moment since.1) on.there stays;
        } in
        subst (Lasting delivery.moment) (sym step.taken) (either delivery.message step.before packet (Lasting delivery.moment) here behind)

    ends_none : (deliveries : List Delivery) (to : ℕ) → At start.machines.moment start → Stays last start.machines → AreOf (length messages) deliveries → AreBetween start.machines.moment deliveries to → to ≤ last
        → NoneEndsBehind family writing messages start deliveries to
    ends_none deliveries to at timers of since early reported state course =
        let behind = outlasts deliveries to reported state at timers of since early course in
        none_ends to state.machines (expires_later last to state.machines early (none_expires last state.machines behind.timers))

    all_last : (deliveries : List Delivery) (to : ℕ) → At start.machines.moment start → Stays last start.machines → AreOf (length messages) deliveries → AreBetween start.machines.moment deliveries to → to ≤ last
        → NoneEndsOnTheWay family writing messages start deliveries to
    unfolding AreBetween NoneEndsOnTheWay
    all_last [] to at timers of since early = ends_none [] to at timers of since early
    all_last (delivery ∷ earlier) to at timers of since early =
        (ends_none (delivery ∷ earlier) to at timers of since early, all_last earlier delivery.moment at timers of.1 since.1 (omega (arith, early, since.0)))

-- ---- both laws

pub long_timers : Machines → ChangeIsRead → LongTimersLast
long_timers laws reads family table writing timing old new messages deliveries moment start is_table is_writing of_old of_new reported sound knows of since lasts started =
    let rps = rp_of family table in
    let have_old = stars_have_rps family table writing.upstream is_table old of_old.toward in
    let have_new = stars_have_rps family table writing.upstream is_table new of_new.toward in
    let read = reads family writing rps old new messages is_writing of_old.normal of_new.normal have_old have_new reported in
    let groups = runs_are family old new read.runs of_old.normal of_new.normal read.whole in
    let now : start.machines.moment ≤ moment = since_start start.machines.moment deliveries moment since in
    let at_start = begins laws family table writing timing messages read.runs moment start is_writing knows.same_rps read.read groups knows.neighbours knows.hears sound.ascending in
    all_last laws family table writing timing messages read.runs moment start is_writing knows.same_rps read.read groups started deliveries moment at_start
    (stays_of laws.keys moment start.machines now sound.ascending lasts) of since (omega arith)

pub moves : Machines → TestFindsTheNeighbour → ChangeIsRead → WrittenChangeSettles → SettledWants → ChangeMovesARouter
moves laws tests reads settles wanted family table writing timing old new messages deliveries moment start after is_table is_writing of_old of_new reported stands knows given =
    let rps = rp_of family table in
    let have_old = stars_have_rps family table writing.upstream is_table old of_old.toward in
    let have_new = stars_have_rps family table writing.upstream is_table new of_new.toward in
    let read = reads family writing rps old new messages is_writing of_old.normal of_new.normal have_old have_new reported in
    let groups = runs_are family old new read.runs of_old.normal of_new.normal read.whole in
    let two = parts family (inputs_of family writing 0 messages deliveries) (runs_to moment ∷ []) given.reported start after given.course in
    let rooms = none_in_parts given.reported two.reported two.said two.joined given.room in
    let end = last_run family moment two.said two.between after two.second in
    let at_start = begins laws family table writing timing messages read.runs moment start is_writing knows.same_rps read.read groups knows.neighbours knows.hears stands.sound.ascending in
    let behind = walk laws family table writing timing messages read.runs moment start is_writing knows.same_rps read.read groups deliveries moment two.reported end.said two.between after at_start given.of_these given.between given.timers (omega arith) rooms.0 two.first end.reaches in
    let exchange = exchange_in family rps writing 0 timing messages in
    let settled = settles family writing rps old new messages exchange start.machines after.machines deliveries moment is_writing of_old.normal of_new.normal have_old have_new reported
    (events_are family writing rps messages) given.each_came stands.sound stands.settled behind.all given.final in
    let wants_it = wanted family new after.machines of_new.normal (behind.there.machines.ports_are ∙ stands.one_port) settled.1 in
    record {
      moment_is = settled.0;
      settled = settled.1;
      wanted = wants_it;
      routes = behind.there.routes;
      demanding = asks_for family table writing.upstream tests after.machines new of_new wants_it;
    }
