-- The course of a fresh router that hears one sender: the Hellos of its neighbours at the moment 0,
-- each delivery at its moment, and the time up to the final moment.
use Rattle.std.specs.Prelude.{◌≡◌, ℕ, List, [], ◌∷◌, ◌++◌, map, flat_map, slice_index_or, Option, None, Some}
use Rattle.std.specs.Prelude.{Result, Ok, Err, Bool, true, false}
use Rattle.pim_addr.specs.declared.family.AddressFamily.{AddressFamily}
use Rattle.pim_frame.specs.Frame.{all_routers}
use Rattle.pim_frame.specs.Seal.{IsSealed}
use Rattle.pim_frame.specs.declared.frame.MessageType.TheVariants.{Hello}
use Rattle.pim_hello.specs.Spelling.{spelling_of, ParametersFit}
use Rattle.pim_down.specs.declared.machines.step.Step.{Step}
use Rattle.pim_down.specs.declared.machines.step.Step.TheVariants.{Reached}
use Rattle.pim_router.specs.Course.{Input, runs_to, takes, RouterReport, verdict, Reaches, IsCourse}
use Rattle.pim_router.specs.Packets.{Packet, causes, received}
use Rattle.pim_router.specs.State.{RouterState, new_router}
use Rattle.pim_router.specs.declared.verdict.Verdict.{Verdict}
use Rattle.pim_router.specs.declared.verdict.Verdict.TheVariants.{Full}
use Rattle.pim_router.specs.declared.verdict.Store.TheVariants.{Records}
use Rattle.pim_fresh.specs.Deliveries.{Delivery}
use Rattle.pim_mirror.specs.Config.{Neighbour, Fresh, neighbours, setup_of, end_of}
use Rattle.pim_mirror.specs.declared.mirroring.MirrorFault.{MirrorFault}
use Rattle.pim_mirror.specs.declared.mirroring.MirrorFault.TheVariants as fault

-- ---- its inputs

-- The packet is this neighbour's Hello on the only port, written canonically and sealed for
-- ALL-PIM-ROUTERS (RFC 7761, 4.3.1 and 4.9.2). Its numbers are in their ranges, and it has no
-- Address List.
pub record IsHelloOf (family : AddressFamily) (neighbour : Neighbour) (packet : Packet) : Type 0 where
  pub port : packet.port ≡ 0
  pub source : packet.source ≡ neighbour.address
  pub destination : packet.destination ≡ all_routers family
  pub fit : ParametersFit neighbour.hello
  pub sealed : IsSealed family neighbour.address (all_routers family) Hello
      (spelling_of family (record { parameters = neighbour.hello; addresses = [] })) packet.bytes

-- The packets are one such Hello of each neighbour, in order.
unfoldable pub AreHellosOf : AddressFamily → List Neighbour → List Packet → Type 0
AreHellosOf family [] [] = Unit {0}
AreHellosOf family [] (packet ∷ packets) = ⊥
AreHellosOf family (neighbour ∷ neighbours) [] = ⊥
AreHellosOf family (neighbour ∷ neighbours) (packet ∷ packets) =
    IsHelloOf family neighbour packet × AreHellosOf family neighbours packets

-- The packet of a delivery: its message, from the sender to ALL-PIM-ROUTERS on the only port.
abbrev pub delivery_packet : AddressFamily → List (List ℕ) → List ℕ → Delivery → Packet
delivery_packet family messages sender delivery = record {
  port = 0;
  source = sender;
  destination = all_routers family;
  bytes = slice_index_or messages delivery.message [];
}

-- The inputs of a delivery: its moment, and then its packet.
abbrev pub delivery_inputs : AddressFamily → List (List ℕ) → List ℕ → Delivery → List Input
delivery_inputs family messages sender delivery =
    runs_to delivery.moment ∷ takes (delivery_packet family messages sender delivery) ∷ []

-- All inputs of a fresh router: the Hellos, the deliveries, and the final moment.
abbrev pub inputs_of : AddressFamily → List (List ℕ) → Fresh → List Packet → List Input
inputs_of family messages fresh hellos =
    map (λ packet. takes packet) hellos
    ++ (flat_map (delivery_inputs family messages fresh.sender) fresh.deliveries ++ runs_to (end_of fresh) ∷ [])

-- ---- its reports

-- The number of records that a Join/Prune message needed which had no room; none for any other
-- verdict.
abbrev pub needed_by : Verdict → Option ℕ
needed_by (Full (Records needed)) = Some needed
needed_by other = None

-- The same for a report of the router.
abbrev pub needed_of : RouterReport → Option ℕ
needed_of (verdict of_packet) = needed_by of_packet
needed_of other = None

-- The first number, or else the later one.
abbrev pub or_later : Option ℕ → Option ℕ → Option ℕ
or_later None later = later
or_later (Some needed) later = Some needed

-- The number of records that the first Join/Prune message needed which had no room; none where each
-- had room.
unfoldable pub first_needed : List RouterReport → Option ℕ
first_needed [] = None
first_needed (reported ∷ more) = or_later (needed_of reported) (first_needed more)

-- ---- the mirror

-- The course of a new router over the Hellos, the deliveries and the final moment leaves the state
-- `after`. `needed` is the number of records that the first message without room needed on it.
pub record GoesThrough (family : AddressFamily) (messages : List (List ℕ)) (fresh : Fresh) (needed : Option ℕ)
    (after : RouterState) : Type 0 where
  pub hellos : List Packet
  pub are_hellos : AreHellosOf family (neighbours fresh) hellos
  pub reported : List RouterReport
  pub course : IsCourse family (inputs_of family messages fresh hellos) reported (new_router (setup_of fresh)) after
  pub needed_is : first_needed reported ≡ needed

-- The result of a mirror: Ok with the state after the course, on which each message had room;
-- `Full` with the number that the first message without room needed; `Memory` says nothing.
abbrev pub Mirrors : AddressFamily → List (List ℕ) → Fresh → Result RouterState MirrorFault → Type 0
Mirrors family messages fresh (Ok router) = GoesThrough family messages fresh None router
Mirrors family messages fresh (Err (fault.Full needed)) =
    (after : RouterState) × GoesThrough family messages fresh (Some needed) after
Mirrors family messages fresh (Err fault.Memory) = Unit {0}

-- ---- the deliveries that a router hears

-- The result over inputs of a course: Ok leaves the state after them, and each message had room.
-- `Full` gives what the first message without room needed, and says nothing of the state.
abbrev pub IsPassed : List RouterReport → RouterState → RouterState → Result (Unit {0}) MirrorFault → Type 0
IsPassed reported after now (Ok done) = (first_needed reported ≡ None) × (now ≡ after)
IsPassed reported after now (Err (fault.Full needed)) = first_needed reported ≡ Some needed
IsPassed reported after now (Err fault.Memory) = Unit {0}

-- The router gets these inputs, and `result` is the result over their course.
pub record Passes (family : AddressFamily) (inputs : List Input) (old : RouterState)
    (result : Result (Unit {0}) MirrorFault) (now : RouterState) : Type 0 where
  pub reported : List RouterReport
  pub after : RouterState
  pub course : IsCourse family inputs reported old after
  pub passed : IsPassed reported after now result

-- The packet isn't taken in this state. It is `Full` with this number of records. Or memory is
-- refused for it, and no cause refuses it.
abbrev pub IsRefused : AddressFamily → Packet → RouterState → MirrorFault → Type 0
IsRefused family packet state (fault.Full needed) = (received family packet state).0 ≡ Full (Records needed)
IsRefused family packet state fault.Memory = causes family packet state ≡ []

-- The router refuses one of these deliveries. It is as after the deliveries before that one, each
-- of which had room, at the moment of the refused one. The refused packet and those behind it
-- change nothing.
pub record StopsAt (family : AddressFamily) (messages : List (List ℕ)) (sender : List ℕ) (deliveries : List Delivery)
    (old : RouterState) (why : MirrorFault) (now : RouterState) : Type 0 where
  pub earlier : List Delivery
  pub refused : Delivery
  pub later : List Delivery
  pub split : deliveries ≡ earlier ++ refused ∷ later
  pub before : Passes family (flat_map (delivery_inputs family messages sender) earlier ++ runs_to refused.moment ∷ [])
      old (Ok tt) now
  pub refuses : IsRefused family (delivery_packet family messages sender refused) now why

-- ---- the results of private functions

-- The router receives the Hello of a neighbour.
pub record PassesHello (family : AddressFamily) (neighbour : Neighbour) (old now : RouterState) : Type 0 where
  pub packet : Packet
  pub is_hello : IsHelloOf family neighbour packet
  pub passes : Passes family (takes packet ∷ []) old (Ok tt) now

-- The router receives the Hellos of these neighbours, in order.
pub record PassesHellos (family : AddressFamily) (of : List Neighbour) (old now : RouterState) : Type 0 where
  pub hellos : List Packet
  pub are_hellos : AreHellosOf family of hellos
  pub passes : Passes family (map (λ packet. takes packet) hellos) old (Ok tt) now

-- The router runs up to the moment until nothing is due, and no report on the way is of a message
-- without room.
pub record HasReached (moment : ℕ) (old now : RouterState) : Type 0 where
  pub reported : List RouterReport
  pub reaches : Reaches moment reported old now
  pub none_needed : first_needed reported ≡ None

-- The result after a verdict: `Full` where a number of records had no room, else Ok.
abbrev pub outcome_if : Option ℕ → Result (Unit {0}) MirrorFault
outcome_if None = Ok tt
outcome_if (Some needed) = Err (fault.Full needed)

-- The result after a call that receives a packet.
abbrev pub outcome_of : {E : Type 0} → Result Verdict E → Result (Unit {0}) MirrorFault
outcome_of (Ok reported) = outcome_if (needed_by reported)
outcome_of (Err refused) = Err fault.Memory

-- The step of a run is that nothing is due and the moment is reached.
abbrev pub is_reached : {A : Type 0} → Step A → Bool
is_reached Reached = true
is_reached other = false
