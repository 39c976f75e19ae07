-- A fresh router that hears canonical messages alone, and the headline.
use Rattle.pim_mirror.proofs.Words.{◌≡◌, ◌∙◌, ℕ, ◌≤◌, List, [], ◌∷◌, length, map, Option, None, sym, subst, arith, refl}
use Rattle.pim_mirror.proofs.Words.{AddressFamily, RouteTable, IsRouteTable, rp_of, RunHasOneEnd, RunKeepsItsBounds, Writing}
use Rattle.pim_mirror.proofs.Words.{IsWriting, OneNormalForm, SameMessagesSameDemandToward, Delivery, IsTimely, AreAlive}
use Rattle.pim_mirror.proofs.Words.{Exchange, HasUnitsOnce, Leaves, SpanIsOfItsMessage, NoEchoIsDue, EveryHearingReaches}
use Rattle.pim_mirror.proofs.Words.{RouterReport, takes, IsCourse, Packet, RouterState, new_router, Fresh, newest_first, end_of}
use Rattle.pim_mirror.proofs.Words.{setup_of, OthersStay, expiry_of, exchange_in, CarriesForm, timing_of, WrittenHellosAreRead}
use Rattle.pim_mirror.proofs.Words.{HellosAreHeard, DemandedStarsHaveRps, CanonicalMessagesCarryForm}
use Rattle.pim_mirror.proofs.Words.{HeardMessagesAreDemandedAgain, RouterLeavesItsPort, CourseHearsAll, DeliveryIsTaken}
use Rattle.pim_mirror.proofs.Words.{AreMessagesOf, fresh_exchange, HearsAlone, IsInWindow, IsAt, MirrorsForm}
use Rattle.pim_mirror.proofs.Words.{NormalisingTwiceIsOnce, RoomIsForTheUnits, FreshRouterMirrors, FreshRouterSendsNoEcho}
use Rattle.pim_mirror.proofs.Words.{KnowsItsWriter, FreshRouterKnowsTheWriter, Headline}
use Rattle.pim_down.specs.declared.machines.step.Step.{Step as Fires}
use Rattle.pim_down.specs.declared.machines.step.Step.TheVariants as fires
use Rattle.pim_down.specs.Time.{Downstream, Runs as MachineRuns}
use Rattle.pim_fresh.specs.Expected.{units_of}
use Rattle.pim_mirror.proofs.Begun.{Begun, begun}
use Rattle.pim_mirror.proofs.Course.{fresh_quiet, leaves_bounds}
use Rattle.pim_mirror.proofs.FormHeld.{holds_the_form}
use Rattle.pim_mirror.proofs.Quiet.{IsQuiet, quiet_as, all_quiet}
use Rattle.pim_mirror.proofs.Rooms.{within}
use Rattle.pim_mirror.proofs.RouterRuns.{reaches_as, reaches_quietly}

-- ---- normalising

pub twice_is_once : OneNormalForm → NormalisingTwiceIsOnce
twice_is_once one_form family demand once twice is_once is_twice =
    one_form family twice once is_twice.normal is_once.normal (λ source group tree valid is_group. sym (is_twice.wants source group tree valid is_group))

-- ---- time

timely_later : (expiry : Option ℕ) (deliveries : List Delivery) (moment later : ℕ) → IsTimely expiry moment deliveries → moment ≤ later → AreAlive expiry later deliveries → IsTimely expiry later deliveries
unfolding IsTimely
timely_later expiry [] moment later timely order alive = tt
timely_later expiry (delivery ∷ earlier) moment later timely order alive =
    let by = timely.0 in
    (omega (arith, by, order), alive, timely.2)

hellos_quiet : (family : AddressFamily) (hellos : List Packet) (reported : List RouterReport) (start after : RouterState) → IsCourse family (map (λ packet. takes packet) hellos) reported start after → IsQuiet reported
unfolding IsCourse
hellos_quiet family [] reported start after course = subst IsQuiet (sym course.0) refl
hellos_quiet family (hello ∷ hellos) reported start after course =
    quiet_as reported course.before course.behind course.joined (subst IsQuiet (sym course.begins.0) refl) (hellos_quiet family hellos course.behind course.between after course.goes_on)

-- ---- a fresh router

-- the laws that its timed half rests on
pub record Laws : Type 0 where
  pub read : WrittenHellosAreRead
  pub hellos_heard : HellosAreHeard
  pub stars : DemandedStarsHaveRps
  pub room : RoomIsForTheUnits
  pub course_hears : CourseHearsAll
  pub leaves_port : RouterLeavesItsPort
  pub tell : CanonicalMessagesCarryForm

module _ (laws : Laws) (family : AddressFamily) (table : RouteTable) (writing : Writing) (state : Downstream) (messages : List (List ℕ)) (fresh : Fresh) (router : RouterState)
    (sound : IsRouteTable family table) (is_writing : IsWriting family writing) (demanded : AreMessagesOf family table writing state messages) (hears : HearsAlone family table writing messages fresh router) where
  abbrev exchange : Exchange
  exchange = fresh_exchange family table writing messages fresh

  abbrev deliveries : List Delivery
  deliveries = newest_first fresh

  first : Begun laws.read laws.hellos_heard laws.stars family table writing state messages fresh None router sound is_writing demanded hears.fits hears.course
  first = begun laws.read laws.hellos_heard laws.stars family table writing state messages fresh None router sound is_writing demanded hears.fits hears.course

  room : length (units_of exchange deliveries) ≤ fresh.limit
  room = within exchange fresh.limit deliveries (sym (laws.room family table writing state messages fresh None router sound is_writing demanded hears.fits hears.course).0)

  room_here : length (units_of (exchange_in family (rp_of family first.start.routes) writing 0 (timing_of fresh) messages) deliveries) ≤ fresh.limit
  room_here = subst (λ (t : RouteTable). length (units_of (exchange_in family (rp_of family t) writing 0 (timing_of fresh) messages) deliveries) ≤ fresh.limit) (sym first.routes) room

  carries : CarriesForm exchange (length messages) demanded.form
  carries = laws.tell family writing (rp_of family table) demanded.form messages 0 (timing_of fresh) is_writing demanded.is.normal (laws.stars family table writing.upstream state demanded.form sound demanded.is) demanded.reported

  -- at the final moment it is a port that has heard the deliveries
  record Left : Type 0 where
    leaves : Leaves exchange 1 fresh.limit deliveries (end_of fresh) router.machines
    routes : router.routes ≡ table

  left : Left
  left =
      let heard = laws.course_hears family writing demanded.form messages (timing_of fresh) fresh.limit (end_of fresh) first.start deliveries (end_of fresh) first.said router is_writing demanded.is.normal first.have first.messages_are first.met.nothing first.are_of hears.fits.timely room_here (omega arith) (first.met.lasts (end_of fresh) hears.fits.others_stay) first.met.hears first.course in
      let there = laws.leaves_port family writing demanded.form messages (timing_of fresh) fresh.limit first.start deliveries (end_of fresh) router is_writing demanded.is.normal first.have first.messages_are first.met.nothing first.are_of hears.fits.timely room_here heard.0 in
      record {
        leaves = subst (λ (t : RouteTable). Leaves (exchange_in family (rp_of family t) writing 0 (timing_of fresh) messages) 1 fresh.limit deliveries (end_of fresh) router.machines) first.routes there.0;
        routes = there.1 ∙ first.routes;
      }

  knows_its_writer : RunKeepsItsBounds → (last : ℕ) → end_of fresh ≤ last → OthersStay fresh last → KnowsItsWriter writing fresh last router
  knows_its_writer bounds last later others =
      let heard = laws.course_hears family writing demanded.form messages (timing_of fresh) fresh.limit last first.start deliveries (end_of fresh) first.said router is_writing demanded.is.normal first.have first.messages_are first.met.nothing first.are_of hears.fits.timely room_here later (first.met.lasts last others) first.met.hears first.course in
      record {
        one_port = (leaves_bounds bounds exchange 1 fresh.limit deliveries (end_of fresh) router.machines left.leaves).0;
        lasts = heard.1;
        hears = heard.2;
      }

  tells_no_echo : DeliveryIsTaken → NoEchoIsDue → EveryHearingReaches → RunHasOneEnd → IsQuiet hears.course.reported
  tells_no_echo taken no_echo reaching one_end =
      let once : HasUnitsOnce (exchange_in family (rp_of family first.start.routes) writing 0 (timing_of fresh) messages) =
      (laws.tell family writing (rp_of family first.start.routes) demanded.form messages 0 (timing_of fresh) is_writing demanded.is.normal first.have first.messages_are).once in
      quiet_as hears.course.reported first.reported first.said first.joined
      (hellos_quiet family hears.course.hellos first.reported (new_router (setup_of fresh)) first.start first.hellos)
      (all_quiet taken laws.leaves_port laws.course_hears no_echo family writing demanded.form messages (timing_of fresh) fresh.limit (end_of fresh) first.start is_writing demanded.is.normal first.have first.messages_are once first.met.nothing (first.met.lasts (end_of fresh) hears.fits.others_stay) first.met.hears
      (fresh_quiet reaching one_end (exchange_in family (rp_of family first.start.routes) writing 0 (timing_of fresh) messages) fresh.limit once first.start.machines first.met.nothing)
      deliveries (end_of fresh) first.said router first.are_of hears.fits.timely room_here (omega arith) first.course)

  mirrors : HeardMessagesAreDemandedAgain → SpanIsOfItsMessage → (moment : ℕ) (later : RouterState) → IsInWindow writing fresh moment → (at : IsAt moment router later) → MirrorsForm family table writing demanded.form messages fresh moment at.reported later
  mirrors again span_is moment later window at =
      let timely = timely_later (expiry_of writing.holdtime) deliveries (end_of fresh) moment hears.fits.timely window.from_the_end window.before_expiry in
      let end : (answer : Fires (List ℕ)) (after : Downstream) → MachineRuns moment router.machines answer after → answer ≡ fires.Reached =
      λ answer after runs. (again family table writing state demanded.form messages (timing_of fresh) fresh.limit deliveries (end_of fresh) moment router.machines after answer sound is_writing demanded.is demanded.reported hears.fits.delivered (omega arith) window.from_the_end timely left.leaves runs).0.reached in
      let ends = reaches_as moment at.reported router later end at.reaches in
      let both = again family table writing state demanded.form messages (timing_of fresh) fresh.limit deliveries (end_of fresh) moment router.machines later.machines fires.Reached sound is_writing demanded.is demanded.reported hears.fits.delivered (omega arith) window.from_the_end timely left.leaves ends.0 in
      record {
        moment_is = both.0.moment_is;
        routes = ends.1 ∙ left.routes;
        holds = holds_the_form span_is exchange (length messages) demanded.form deliveries moment later.machines carries hears.fits.delivered both.0.as_wanted;
        demanding = both.1;
        no_echo = reaches_quietly moment at.reported router later end at.reaches;
      }

pub fresh_router_mirrors : Laws → HeardMessagesAreDemandedAgain → SpanIsOfItsMessage → FreshRouterMirrors
fresh_router_mirrors laws again span_is family table writing state messages fresh router later moment sound is_writing demanded hears window at =
    mirrors laws family table writing state messages fresh router sound is_writing demanded hears again span_is moment later window at

pub tells_no_echo_before : Laws → DeliveryIsTaken → NoEchoIsDue → EveryHearingReaches → RunHasOneEnd → FreshRouterSendsNoEcho
tells_no_echo_before laws taken no_echo reaching one_end family table writing state messages fresh router sound is_writing demanded hears =
    tells_no_echo laws family table writing state messages fresh router sound is_writing demanded hears taken no_echo reaching one_end

pub knows_the_writer : Laws → RunKeepsItsBounds → FreshRouterKnowsTheWriter
knows_the_writer laws bounds family table writing state messages fresh router last sound is_writing demanded hears later others =
    knows_its_writer laws family table writing state messages fresh router sound is_writing demanded hears bounds last later others

-- ---- the headline

pub headline : SameMessagesSameDemandToward → NormalisingTwiceIsOnce → FreshRouterMirrors → Headline
headline same_asked once mirror family table writing sound is_writing = record {
  same_traffic_same_bytes = λ one other first second of_one of_other.
      let same = same_asked family table writing one other of_one.form of_other.form first second sound is_writing of_one.is of_other.is of_one.reported of_other.reported in
      (same.1, same.0);
  twice_is_once = once family;
  fresh_router_does_the_same = λ state messages fresh router later moment demanded hears window at.
      let mirrored = mirror family table writing state messages fresh router later moment sound is_writing demanded hears window at in
      record {
        traffic = λ source group tree valid is_group. demanded.is.wants source group tree valid is_group ∙ sym (mirrored.demanding.is_form.wants source group tree valid is_group);
        no_more = λ source group tree valid is_group. demanded.is.wants source group tree valid is_group ∙ sym (mirrored.demanding.wanted source group tree);
        bytes = record { form = demanded.form; is = mirrored.demanding.is_form; reported = demanded.reported };
        no_others = λ others of_later. mirrored.demanding.same_messages of_later.form others of_later.is of_later.reported;
      };
}
