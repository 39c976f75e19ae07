-- The statements of the laws in `src/headline_laws.rt` (RFC 7761, 4.1, 4.5 and 4.9.5). They speak
-- of two downstream states and their canonical messages, and of a fresh router that hears the
-- messages of one of them alone.
use Rattle.std.specs.Prelude.{◌≡◌, ◌↔◌, ℕ, zero, suc, ◌+◌, ◌-◌, ◌≤◌, ◌<◌, Bool, true, false, List, [], ◌∷◌, length}
use Rattle.std.specs.Prelude.{Option, None, Some, Result, Ok, Err, nat_lt, if◌then◌else◌}
use Rattle.std.specs.Option.{is_some}
use Rattle.std.specs.List.{list_any}
use Rattle.pim_addr.specs.declared.family.AddressFamily.{AddressFamily}
use Rattle.pim_addr.specs.Routes.{RouteTable, IsRouteTable, rp_of}
use Rattle.pim_down.specs.declared.machines.key.Key.{Key}
use Rattle.pim_down.specs.declared.machines.machine.Machine.{Machine}
use Rattle.pim_down.specs.Records.{machine_at}
use Rattle.pim_down.specs.Tables.{machine_in}
use Rattle.pim_down.specs.Time.{Downstream, expiry_after}
use Rattle.pim_form.specs.NormalForm.{GroupForm, Demand, Agree, IsFormOf, form_wants}
use Rattle.pim_form.specs.Messages.{Writing, IsWriting, AreCanonical}
use Rattle.pim_form.specs.TowardLaws.{demand_toward}
use Rattle.pim_form.specs.Wants.{wants}
use Rattle.pim_fresh.specs.Deliveries.{Delivery, AreAlive, last_of}
use Rattle.pim_fresh.specs.Exchange.{Exchange, has_unit_of}
use Rattle.pim_fresh.specs.Expected.{state_wanted, units_of}
use Rattle.pim_router.specs.Course.{RouterReport, echo, refresh, verdict, Reaches}
use Rattle.pim_router.specs.Packets.{Packet}
use Rattle.pim_router.specs.State.{RouterState}
use Rattle.pim_mirror.specs.Config.{Fresh, neighbours, newest_first, end_of}
use Rattle.pim_mirror.specs.Fits.{Fits, OthersStay, expiry_of}
use Rattle.pim_mirror.specs.CanonicalCourse.{Lasts}
use Rattle.pim_mirror.specs.CanonicalExchange.{exchange_in}
use Rattle.pim_mirror.specs.CanonicalMirror.{DemandsAgain}
use Rattle.pim_mirror.specs.CanonicalPackets.{HearsWriter}
use Rattle.pim_mirror.specs.CanonicalUnits.{form_names}
use Rattle.pim_mirror.specs.Hellos.{timing_of}
use Rattle.pim_mirror.specs.Mirror.{AreHellosOf, GoesThrough, Mirrors, or_later}
use Rattle.pim_mirror.specs.declared.mirroring.MirrorFault.{MirrorFault}
use Rattle.pim_mirror.specs.declared.mirroring.MirrorFault.TheVariants as fault

-- ---- a state and its messages

-- The canonical messages by which the writer, under a route table, asks its upstream neighbour for
-- what these machines want (RFC 7761, 4.1 and 4.9.5). A state whose star with its exceptions is too
-- big for a message has none.
pub record AreMessagesOf (family : AddressFamily) (table : RouteTable) (writing : Writing) (state : Downstream)
    (messages : List (List ℕ)) : Type 0 where
  pub form : List GroupForm
  pub is : IsFormOf family (demand_toward family table writing.upstream state) form
  pub reported : AreCanonical family writing (rp_of family table) form messages

-- Two states want the same traffic of the writer's upstream neighbour, for every valid source,
-- every group and both trees (RFC 7761, 4.1).
abbrev pub WantTheSameTraffic : AddressFamily → RouteTable → Writing → Downstream → Downstream → Type 0
WantTheSameTraffic family table writing one other =
    Agree family (demand_toward family table writing.upstream one) (demand_toward family table writing.upstream other)

-- All that the other state wants, wherever the route table leads it, is what this state asks of the
-- writer's upstream neighbour. This is of every valid source, every group and both trees (RFC 7761,
-- 4.1).
abbrev pub WantsDemandOf : AddressFamily → RouteTable → Writing → Downstream → Downstream → Type 0
WantsDemandOf family table writing state other =
    Agree family (demand_toward family table writing.upstream state) (wants other)

-- ---- a fresh router that hears messages alone

-- The messages as the exchange that the fresh router's port hears.
abbrev pub fresh_exchange : AddressFamily → RouteTable → Writing → List (List ℕ) → Fresh → Exchange
fresh_exchange family table writing messages fresh =
    exchange_in family (rp_of family table) writing 0 (timing_of fresh) messages

-- A new router that fits its sender receives the Hellos of its neighbours and these messages,
-- nothing else, and is `router` at its final moment. Each message had room.
pub record HearsAlone (family : AddressFamily) (table : RouteTable) (writing : Writing) (messages : List (List ℕ))
    (fresh : Fresh) (router : RouterState) : Type 0 where
  pub fits : Fits messages writing table fresh
  pub course : GoesThrough family messages fresh None router

-- The moment is in the window from the end of the prune-pending times until the first expiry: the
-- final moment has come, and each message came last less than its holdtime ago. It may be beyond
-- 10^15 ms.
pub record IsInWindow (writing : Writing) (fresh : Fresh) (moment : ℕ) : Type 0 where
  pub from_the_end : end_of fresh ≤ moment
  pub before_expiry : AreAlive (expiry_of writing.holdtime) moment (newest_first fresh)

-- The router runs on to this moment until nothing is due, and is `later` there.
pub record IsAt (moment : ℕ) (router later : RouterState) : Type 0 where
  pub reported : List RouterReport
  pub reaches : Reaches moment reported router later

-- ---- the machines that it holds

-- The report is a PruneEcho.
abbrev pub is_echo : RouterReport → Bool
is_echo (echo port group what) = true
is_echo refresh = false
is_echo (verdict of_packet) = false

-- The machine at `key`, which one of the first `count` messages names, at this moment: Join for a
-- star or a source, Prune for an exception. Its Expiry Timer has the holdtime less the time since
-- the message came last, without end for 65,535. Its Prune-Pending Timer doesn't run.
pub record IsHeldAs (exchange : Exchange) (count : ℕ) (deliveries : List Delivery) (moment : ℕ) (key : Key (List ℕ))
    (machine : Option Machine) : Type 0 where
  pub message : ℕ
  pub within : message < count
  pub listed : has_unit_of exchange.port key (exchange.messages message) ≡ true
  pub last : ℕ
  pub came : last_of message deliveries ≡ Some last
  pub is : machine
      ≡ machine_in (state_wanted key.what) (expiry_after (moment - last) (expiry_of exchange.holdtime)) None

-- The machines are exactly those of the form: (*,G) of each star, (S,G,rpt) of each exception,
-- (S,G) of each source.
pub record HoldsTheForm (exchange : Exchange) (count : ℕ) (form : List GroupForm) (deliveries : List Delivery)
    (moment : ℕ) (state : Downstream) : Type 0 where
  pub held : (key : Key (List ℕ)) → key.port ≡ exchange.port → form_names form key.group key.what ≡ true →
      IsHeldAs exchange count deliveries moment key (machine_at key state.records)
  pub no_others : (key : Key (List ℕ)) → is_some (machine_at key state.records) ≡ true →
      (key.port ≡ exchange.port) × (form_names form key.group key.what ≡ true)

-- At this moment the router holds exactly the machines of the form and wants exactly what the form
-- wants. It asks for it again by the same messages, under the same table. On the way no PruneEcho
-- was reported.
pub record MirrorsForm (family : AddressFamily) (table : RouteTable) (writing : Writing) (form : List GroupForm)
    (messages : List (List ℕ)) (fresh : Fresh) (moment : ℕ) (reported : List RouterReport) (later : RouterState) : Type 0 where
  pub moment_is : later.machines.moment ≡ moment
  pub routes : later.routes ≡ table
  pub holds : HoldsTheForm (fresh_exchange family table writing messages fresh) (length messages) form
      (newest_first fresh) moment later.machines
  pub demanding : DemandsAgain family table writing form messages later.machines
  pub no_echo : list_any is_echo reported ≡ false

-- ---- the laws

-- The normal form of what a normal form wants is that normal form.
abbrev pub NormalisingTwiceIsOnce : Type 0
NormalisingTwiceIsOnce = (family : AddressFamily) (demand : Demand) (once twice : List GroupForm) →
    IsFormOf family demand once → IsFormOf family (form_wants once) twice → twice ≡ once

-- A fresh router that heard the canonical messages of a form alone mirrors it at every moment of
-- the window.
abbrev pub FreshRouterMirrors : Type 0
FreshRouterMirrors = (family : AddressFamily) (table : RouteTable) (writing : Writing) (state : Downstream)
    (messages : List (List ℕ)) (fresh : Fresh) (router later : RouterState) (moment : ℕ) →
    IsRouteTable family table → IsWriting family writing →
    (demanded : AreMessagesOf family table writing state messages) →
    HearsAlone family table writing messages fresh router → IsInWindow writing fresh moment →
    (at : IsAt moment router later) →
    MirrorsForm family table writing demanded.form messages fresh moment at.reported later

-- Such a router reports no PruneEcho up to its final moment.
abbrev pub FreshRouterSendsNoEcho : Type 0
FreshRouterSendsNoEcho = (family : AddressFamily) (table : RouteTable) (writing : Writing) (state : Downstream)
    (messages : List (List ℕ)) (fresh : Fresh) (router : RouterState) → IsRouteTable family table →
    IsWriting family writing → AreMessagesOf family table writing state messages →
    (hears : HearsAlone family table writing messages fresh router) → list_any is_echo hears.course.reported ≡ false

-- The router has one port, which is the writer's upstream neighbour and knows the writer. At the
-- moment `last` no neighbour's time is over.
pub record KnowsItsWriter (writing : Writing) (fresh : Fresh) (last : ℕ) (router : RouterState) : Type 0 where
  pub one_port : router.machines.ports ≡ 1
  pub lasts : Lasts last router
  pub hears : HearsWriter writing 0 (timing_of fresh) router

-- Such a router knows the writer at its final moment. No neighbour's time is over at any later
-- moment up to which the other neighbours stay.
abbrev pub FreshRouterKnowsTheWriter : Type 0
FreshRouterKnowsTheWriter = (family : AddressFamily) (table : RouteTable) (writing : Writing) (state : Downstream)
    (messages : List (List ℕ)) (fresh : Fresh) (router : RouterState) (last : ℕ) → IsRouteTable family table →
    IsWriting family writing → AreMessagesOf family table writing state messages →
    HearsAlone family table writing messages fresh router → end_of fresh ≤ last → OthersStay fresh last →
    KnowsItsWriter writing fresh last router

-- The number of entries of the first `count` messages: stars, exceptions and sources.
unfoldable pub entries_of : Exchange → ℕ → ℕ
entries_of exchange zero = 0
entries_of exchange (suc count) = entries_of exchange count + length (exchange.messages count)

-- The number of entries of all messages.
abbrev pub all_entries : AddressFamily → RouteTable → Writing → List (List ℕ) → Fresh → ℕ
all_entries family table writing messages fresh =
    entries_of (fresh_exchange family table writing messages fresh) (length messages)

-- The number `count` where it passes the limit, else none.
abbrev pub if_over : ℕ → ℕ → Option ℕ
if_over limit count = if nat_lt limit count then Some count else None

-- The number of units of the different messages up to the first delivery at which they pass the
-- limit; none where they never do.
unfoldable pub first_over : Exchange → ℕ → List Delivery → Option ℕ
first_over exchange limit [] = None
first_over exchange limit (delivery ∷ earlier) = or_later (first_over exchange limit earlier)
    (if_over limit (length (units_of exchange (delivery ∷ earlier))))

-- Each message has room on the course exactly where the entries of all messages together are within
-- the limit. The first message without room needs as many records as the different messages have
-- units up to it.
abbrev pub RoomIsForTheUnits : Type 0
RoomIsForTheUnits = (family : AddressFamily) (table : RouteTable) (writing : Writing) (state : Downstream)
    (messages : List (List ℕ)) (fresh : Fresh) (needed : Option ℕ) (after : RouterState) →
    IsRouteTable family table → IsWriting family writing → AreMessagesOf family table writing state messages →
    Fits messages writing table fresh → GoesThrough family messages fresh needed after →
    (needed ≡ first_over (fresh_exchange family table writing messages fresh) fresh.limit (newest_first fresh))
    × ((needed ≡ None) ↔ (all_entries family table writing messages fresh ≤ fresh.limit))

-- There is such a router. Its final moment is in the window, it is at that moment, and it runs on
-- to every moment.
pub record IsThere (family : AddressFamily) (table : RouteTable) (writing : Writing) (messages : List (List ℕ))
    (fresh : Fresh) : Type 0 where
  pub router : RouterState
  pub hears : HearsAlone family table writing messages fresh router
  pub window : IsInWindow writing fresh (end_of fresh)
  pub stands : IsAt (end_of fresh) router router
  pub goes_on : (moment : ℕ) → (later : RouterState) × IsAt moment router later

-- Where the conditions of `Fits` hold and there is room for the entries of all messages, there is
-- such a router.
abbrev pub FreshRouterIsThere : Type 0
FreshRouterIsThere = (family : AddressFamily) (table : RouteTable) (writing : Writing) (state : Downstream)
    (messages : List (List ℕ)) (fresh : Fresh) (hellos : List Packet) → IsRouteTable family table →
    IsWriting family writing → AreMessagesOf family table writing state messages → Fits messages writing table fresh →
    all_entries family table writing messages fresh ≤ fresh.limit →
    AreHellosOf family (neighbours fresh) hellos → IsThere family table writing messages fresh

-- ---- the result of `mirror`

-- What an Ok router of `mirror` is, where the messages are the canonical ones of a state. There was
-- room for the entries of all messages. At its final moment and at every moment of the window to
-- which it runs on, the router mirrors the form. No PruneEcho was reported on its course.
pub record IsMirrorOf (family : AddressFamily) (table : RouteTable) (writing : Writing) (form : List GroupForm)
    (messages : List (List ℕ)) (fresh : Fresh) (router : RouterState)
    (course : GoesThrough family messages fresh None router) : Type 0 where
  pub room : all_entries family table writing messages fresh ≤ fresh.limit
  pub window : IsInWindow writing fresh (end_of fresh)
  pub at_first : MirrorsForm family table writing form messages fresh (end_of fresh) [] router
  pub later : (moment : ℕ) (later : RouterState) → IsInWindow writing fresh moment → (at : IsAt moment router later) →
      MirrorsForm family table writing form messages fresh moment at.reported later
  pub no_echo : list_any is_echo course.reported ≡ false
  -- It knows the writer, and by a later moment up to which the other neighbours stay no neighbour's
  -- time is over.
  pub knows : (last : ℕ) → end_of fresh ≤ last → OthersStay fresh last → KnowsItsWriter writing fresh last router

-- The meaning of a result of `mirror`. Ok is such a router. `Full` says that the entries of all
-- messages together pass the limit. Its number is that of the units of the different messages up to
-- the first delivery at which they do. `Memory` says nothing.
abbrev pub AnswersFor : (family : AddressFamily) (table : RouteTable) (writing : Writing) (form : List GroupForm)
    (messages : List (List ℕ)) (fresh : Fresh) (result : Result RouterState MirrorFault) →
    Mirrors family messages fresh result → Type 0
AnswersFor family table writing form messages fresh (Ok router) course =
    IsMirrorOf family table writing form messages fresh router course
AnswersFor family table writing form messages fresh (Err (fault.Full needed)) course =
    (fresh.limit < all_entries family table writing messages fresh)
    × (first_over (fresh_exchange family table writing messages fresh) fresh.limit (newest_first fresh) ≡ Some needed)
AnswersFor family table writing form messages fresh (Err fault.Memory) course = Unit {0}

-- A result of `mirror`: the course that it comes from, and its meaning.
pub record CarriesTheForm (family : AddressFamily) (table : RouteTable) (writing : Writing) (form : List GroupForm)
    (messages : List (List ℕ)) (fresh : Fresh) (result : Result RouterState MirrorFault) : Type 0 where
  pub course : Mirrors family messages fresh result
  pub answers : AnswersFor family table writing form messages fresh result course

-- Where the messages are the canonical ones of a state, the course of `mirror` determines the
-- meaning of its result.
abbrev pub MirrorAnswersForTheForm : Type 0
MirrorAnswersForTheForm = (family : AddressFamily) (table : RouteTable) (writing : Writing) (state : Downstream)
    (messages : List (List ℕ)) (fresh : Fresh) (result : Result RouterState MirrorFault) →
    IsRouteTable family table → IsWriting family writing →
    (demanded : AreMessagesOf family table writing state messages) → Fits messages writing table fresh →
    (course : Mirrors family messages fresh result) →
    AnswersFor family table writing demanded.form messages fresh result course

-- ---- the headline

-- A state wants the same traffic as another one, whose canonical messages these are, and no traffic
-- beside it. They are its canonical messages too, and it has no others.
pub record WantsAndWritesTheSame (family : AddressFamily) (table : RouteTable) (writing : Writing) (state : Downstream)
    (messages : List (List ℕ)) (other : Downstream) : Type 0 where
  pub traffic : WantTheSameTraffic family table writing state other
  pub no_more : WantsDemandOf family table writing state other
  pub bytes : AreMessagesOf family table writing other messages
  pub no_others : (others : List (List ℕ)) → AreMessagesOf family table writing other others → others ≡ messages

-- The three parts of the headline, for one route table and one writer.
pub record IsHeadline (family : AddressFamily) (table : RouteTable) (writing : Writing) : Type 0 where
  -- Two downstream states under one route table want the same traffic of an upstream neighbour
  -- exactly if their canonical Join/Prune messages to it are byte-equal. The traffic is that of
  -- every source, group and tree.
  pub same_traffic_same_bytes : (one other : Downstream) (first second : List (List ℕ)) →
      AreMessagesOf family table writing one first → AreMessagesOf family table writing other second →
      WantTheSameTraffic family table writing one other ↔ (first ≡ second)
  -- Normalizing twice is once.
  pub twice_is_once : (demand : Demand) (once twice : List GroupForm) →
      IsFormOf family demand once → IsFormOf family (form_wants once) twice → twice ≡ once
  -- A fresh router hears these messages alone, in any order and however often. From the end of its
  -- prune-pending times until the first expiry it wants exactly the traffic that the state asks of
  -- it. It would ask its own address for that by the same bytes.
  pub fresh_router_does_the_same : (state : Downstream) (messages : List (List ℕ)) (fresh : Fresh)
      (router later : RouterState) (moment : ℕ) → AreMessagesOf family table writing state messages →
      HearsAlone family table writing messages fresh router → IsInWindow writing fresh moment →
      IsAt moment router later → WantsAndWritesTheSame family table writing state messages later.machines

-- The headline, for every route table and every writer.
abbrev pub Headline : Type 0
Headline = (family : AddressFamily) (table : RouteTable) (writing : Writing) → IsRouteTable family table →
    IsWriting family writing → IsHeadline family table writing
