-- The statements of the laws in `src/laws.rt`.
use Rattle.std.specs.Prelude.{◌≡◌, ℕ, ◌<◌, ◌≤◌, List, [], ◌∷◌, ◌++◌, length, map, Option}
use Rattle.pim_addr.specs.declared.family.AddressFamily.{AddressFamily}
use Rattle.pim_addr.specs.Routes.{RouteTable, IsRouteTable, rp_of}
use Rattle.pim_frame.specs.Frame.{all_routers}
use Rattle.pim_jp.specs.Message.{Message}
use Rattle.pim_down.specs.declared.machines.event.Timing.{Timing}
use Rattle.pim_down.specs.declared.machines.step.Step.{Step}
use Rattle.pim_down.specs.Hearing.{start_of, events_of}
use Rattle.pim_down.specs.Time.{Downstream, Runs}
use Rattle.pim_form.specs.NormalForm.{GroupForm, IsNormal, IsFormOf}
use Rattle.pim_form.specs.Messages.{Writing, IsWriting, HaveRps, AreCanonical, written_message}
use Rattle.pim_form.specs.Laws.{IsReadAs}
use Rattle.pim_form.specs.TowardLaws.{demand_toward}
use Rattle.pim_fresh.specs.Demanding.{IsDemanding}
use Rattle.pim_fresh.specs.Deliveries.{Delivery, IsTimely, final_moment}
use Rattle.pim_fresh.specs.Exchange.{Exchange}
use Rattle.pim_fresh.specs.Expected.{units_of}
use Rattle.pim_fresh.specs.Hearing.{Leaves}
use Rattle.pim_fresh.specs.Laws.{Stays}
use Rattle.pim_router.specs.Course.{runs_to, RouterReport, Reaches, IsCourse}
use Rattle.pim_router.specs.State.{RouterState}
use Rattle.pim_mirror.specs.CanonicalParts.{IsInOrder, AreParts}
use Rattle.pim_mirror.specs.CanonicalExchange.{exchange_of, exchange_in, CarriesForm, AreReadAs}
use Rattle.pim_mirror.specs.CanonicalMirror.{AllCame, DemandsAgain}
use Rattle.pim_mirror.specs.CanonicalCourse.{HearsAll, IsTaken, AreOf, HoldsNothing, Lasts, inputs_of}
use Rattle.pim_mirror.specs.CanonicalPackets.{packet_of, HearsWriter, heard_exchange, IsHeard}
use Rattle.pim_mirror.specs.MachineRuns.{IsRunOfMachines}

-- The message of a part in strictly ascending order whose stars have RPs asks for traffic.
abbrev pub PartIsDemanding : Type 0
PartIsDemanding = (family : AddressFamily) (writing : Writing) (rps : List ℕ → Option (List ℕ)) (part : List GroupForm) →
    IsInOrder part → HaveRps family rps part → IsDemanding rps (written_message writing rps part)

-- The canonical messages of a normal form announce parts of it.
abbrev pub CanonicalMessagesCarryParts : Type 0
CanonicalMessagesCarryParts = (family : AddressFamily) (writing : Writing) (rps : List ℕ → Option (List ℕ)) (form : List GroupForm)
    (messages : List (List ℕ)) → IsNormal family form → HaveRps family rps form →
    AreCanonical family writing rps form messages →
    (parts : List (List GroupForm)) × AreParts family writing rps form messages parts

-- The messages of these parts name exactly the machines of the form, each in one message.
abbrev pub PartsHaveUnitsOnce : Type 0
PartsHaveUnitsOnce = (family : AddressFamily) (writing : Writing) (rps : List ℕ → Option (List ℕ)) (form : List GroupForm)
    (messages : List (List ℕ)) (parts : List (List GroupForm)) (port : ℕ) (timing : Timing) → IsNormal family form →
    AreParts family writing rps form messages parts →
    CarriesForm (exchange_of rps writing.holdtime port timing (map (written_message writing rps) parts)) (length parts) form

-- The bytes of the messages are read as the messages of these parts.
abbrev pub MessagesAreRead : Type 0
MessagesAreRead = (family : AddressFamily) (writing : Writing) (rps : List ℕ → Option (List ℕ)) (form : List GroupForm)
    (messages : List (List ℕ)) (parts : List (List GroupForm)) → IsWriting family writing →
    AreParts family writing rps form messages parts →
    AreReadAs family writing.own messages (map (written_message writing rps) parts)

-- What is read from the canonical messages of a form names exactly its machines, each in one
-- message.
abbrev pub CanonicalMessagesCarryForm : Type 0
CanonicalMessagesCarryForm = (family : AddressFamily) (writing : Writing) (rps : List ℕ → Option (List ℕ)) (form : List GroupForm)
    (messages : List (List ℕ)) (port : ℕ) (timing : Timing) → IsWriting family writing → IsNormal family form →
    HaveRps family rps form → AreCanonical family writing rps form messages →
    CarriesForm (exchange_in family rps writing port timing messages) (length messages) form

-- In the normal form of what is asked of a neighbour under a route table each star has an RP.
abbrev pub DemandedStarsHaveRps : Type 0
DemandedStarsHaveRps = (family : AddressFamily) (table : RouteTable) (neighbour : List ℕ) (state : Downstream)
    (form : List GroupForm) → IsRouteTable family table → IsFormOf family (demand_toward family table neighbour state) form →
    HaveRps family (rp_of family table) form

-- A fresh port heard all canonical messages of what is asked of a neighbour. It asks again for what
-- their form asks for, from the final moment of the deliveries on, while no message expires.
abbrev pub HeardMessagesAreDemandedAgain : Type 0
HeardMessagesAreDemandedAgain = (family : AddressFamily) (table : RouteTable) (writing : Writing) (sender : Downstream)
    (form : List GroupForm) (messages : List (List ℕ)) (timing : Timing) (limit : ℕ) (deliveries : List Delivery)
    (moment later : ℕ) (state after : Downstream) (answer : Step (List ℕ)) →
    IsRouteTable family table → IsWriting family writing →
    IsFormOf family (demand_toward family table writing.upstream sender) form →
    AreCanonical family writing (rp_of family table) form messages →
    AllCame (length messages) deliveries → final_moment timing.override_ms deliveries ≤ moment → moment ≤ later →
    IsTimely (start_of writing.holdtime timing).expires_in later deliveries →
    Leaves (exchange_in family (rp_of family table) writing 0 timing messages) 1 limit deliveries moment state →
    Runs later state answer after →
    Stays (exchange_in family (rp_of family table) writing 0 timing messages) deliveries moment later state answer
    after × DemandsAgain family table writing form messages after

-- A packet of the writer whose bytes are read as a message to this neighbour acts as that message,
-- or is `Full`.
abbrev pub ReadPacketIsHeard : Type 0
ReadPacketIsHeard = (family : AddressFamily) (writing : Writing) (exchange : Exchange) (i : ℕ) (bytes : List ℕ)
    (said : Message) (state : RouterState) → IsWriting family writing → IsReadAs family writing.own bytes said →
    said.upstream ≡ writing.upstream → said.holdtime ≡ exchange.holdtime →
    exchange.messages i ≡ events_of (rp_of family state.routes) said →
    HearsWriter writing exchange.port exchange.timing state →
    IsHeard family exchange i (record {
      port = exchange.port;
      source = writing.own;
      destination = all_routers family;
      bytes = bytes;
    }) state

-- The packet of a canonical message acts at the router to which it is written as the exchange says,
-- or is `Full`.
abbrev pub CanonicalPacketIsHeard : Type 0
CanonicalPacketIsHeard = (family : AddressFamily) (writing : Writing) (form : List GroupForm)
    (messages : List (List ℕ)) (i port : ℕ) (timing : Timing) (state : RouterState) → IsWriting family writing →
    IsNormal family form → HaveRps family (rp_of family state.routes) form →
    AreCanonical family writing (rp_of family state.routes) form messages → i < length messages →
    HearsWriter writing port timing state →
    IsHeard family (heard_exchange family writing port timing messages state) i
    (packet_of family writing port messages i) state

-- A router of one port that begins without records hears deliveries of canonical messages whose
-- units are within its limit. Its machines are those of a fresh port that hears them under its
-- route table.
abbrev pub RouterLeavesItsPort : Type 0
RouterLeavesItsPort = (family : AddressFamily) (writing : Writing) (form : List GroupForm) (messages : List (List ℕ))
    (timing : Timing) (limit : ℕ) (start : RouterState) (deliveries : List Delivery) (moment : ℕ)
    (after : RouterState) → IsWriting family writing → IsNormal family form →
    HaveRps family (rp_of family start.routes) form →
    AreCanonical family writing (rp_of family start.routes) form messages → HoldsNothing limit start →
    AreOf (length messages) deliveries → IsTimely (start_of writing.holdtime timing).expires_in moment deliveries →
    length (units_of (heard_exchange family writing 0 timing messages start) deliveries) ≤ limit →
    HearsAll family writing 0 timing messages start deliveries moment after →
    Leaves (heard_exchange family writing 0 timing messages start) 1 limit deliveries moment after.machines
    × (after.routes ≡ start.routes)

-- After such deliveries the packet of one more is applied where there is room for its units, and is
-- else `Full`.
abbrev pub DeliveryIsTaken : Type 0
DeliveryIsTaken = (family : AddressFamily) (writing : Writing) (form : List GroupForm) (messages : List (List ℕ))
    (timing : Timing) (limit : ℕ) (start : RouterState) (delivery : Delivery) (earlier : List Delivery)
    (before : RouterState) → IsWriting family writing → IsNormal family form →
    HaveRps family (rp_of family start.routes) form →
    AreCanonical family writing (rp_of family start.routes) form messages → HoldsNothing limit start →
    AreOf (length messages) (delivery ∷ earlier) →
    IsTimely (start_of writing.holdtime timing).expires_in delivery.moment earlier →
    length (units_of (heard_exchange family writing 0 timing messages start) earlier) ≤ limit →
    HearsAll family writing 0 timing messages start earlier delivery.moment before →
    HearsWriter writing 0 timing before →
    IsTaken family (heard_exchange family writing 0 timing messages start) limit delivery earlier
    (packet_of family writing 0 messages delivery.message) before

-- The runs of a router to a moment are runs of its machines through some echoes, and its table and
-- its ports stay.
abbrev pub RouterRunsAsItsMachines : Type 0
RouterRunsAsItsMachines = (moment : ℕ) (reported : List RouterReport) (state after : RouterState) →
    Reaches moment reported state after → IsRunOfMachines moment state after

-- A router that hears the writer hears it still after runs to a moment by which no neighbour's time
-- is over.
abbrev pub WriterStaysHeard : Type 0
WriterStaysHeard = (writing : Writing) (port : ℕ) (timing : Timing) (moment last : ℕ) (reported : List RouterReport)
    (state after : RouterState) → moment ≤ last → Lasts last state → HearsWriter writing port timing state →
    Reaches moment reported state after → Lasts last after × HearsWriter writing port timing after

-- The course of a router over deliveries and then to a moment hears all of them. It knows the
-- writer at first, and no neighbour's time is over by the last moment.
abbrev pub CourseHearsAll : Type 0
CourseHearsAll = (family : AddressFamily) (writing : Writing) (form : List GroupForm) (messages : List (List ℕ))
    (timing : Timing) (limit last : ℕ) (start : RouterState) (deliveries : List Delivery) (moment : ℕ)
    (reported : List RouterReport) (after : RouterState) → IsWriting family writing → IsNormal family form →
    HaveRps family (rp_of family start.routes) form →
    AreCanonical family writing (rp_of family start.routes) form messages → HoldsNothing limit start →
    AreOf (length messages) deliveries → IsTimely (start_of writing.holdtime timing).expires_in moment deliveries →
    length (units_of (heard_exchange family writing 0 timing messages start) deliveries) ≤ limit → moment ≤ last →
    Lasts last start → HearsWriter writing 0 timing start →
    IsCourse family (inputs_of family writing 0 messages deliveries ++ runs_to moment ∷ []) reported start after →
    HearsAll family writing 0 timing messages start deliveries moment after × Lasts last after
    × HearsWriter writing 0 timing after

-- A router of one port begins without records and knows the writer. It receives the packets of all
-- canonical messages of what is asked of it, in any order and however often, and no others.
--
-- From the final moment of these deliveries on it asks again for what the form asks for, by the
-- same messages. There is room for their units, no message expires, and no neighbour's time is over
-- by then.
abbrev pub RouterDemandsAgain : Type 0
RouterDemandsAgain = (family : AddressFamily) (writing : Writing) (sender : Downstream) (form : List GroupForm)
    (messages : List (List ℕ)) (timing : Timing) (limit last : ℕ) (start : RouterState) (deliveries : List Delivery)
    (moment : ℕ) (reported : List RouterReport) (after : RouterState) → IsRouteTable family start.routes →
    IsWriting family writing → IsFormOf family (demand_toward family start.routes writing.upstream sender) form →
    AreCanonical family writing (rp_of family start.routes) form messages → HoldsNothing limit start →
    AreOf (length messages) deliveries → AllCame (length messages) deliveries →
    final_moment timing.override_ms deliveries ≤ moment →
    IsTimely (start_of writing.holdtime timing).expires_in moment deliveries →
    length (units_of (heard_exchange family writing 0 timing messages start) deliveries) ≤ limit → moment ≤ last →
    Lasts last start → HearsWriter writing 0 timing start →
    IsCourse family (inputs_of family writing 0 messages deliveries ++ runs_to moment ∷ []) reported start after →
    DemandsAgain family start.routes writing form messages after.machines
