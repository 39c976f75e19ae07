-- The Hellos by which a fresh router meets its neighbours at the moment 0, and the router after
-- them (RFC 7761, 4.3.1 and 4.3.3).
use Rattle.std.specs.Prelude.{◌≡◌, ℕ, nat_lt, List, [], ◌∷◌, length}
use Rattle.pim_addr.specs.declared.family.AddressFamily.{AddressFamily}
use Rattle.pim_frame.specs.Frame.{content, hello, frame_faults}
use Rattle.pim_hello.specs.Faults.{faults}
use Rattle.pim_hello.specs.Value.{hello_of}
use Rattle.pim_down.specs.declared.machines.event.Timing.{Timing}
use Rattle.pim_form.specs.Messages.{Writing}
use Rattle.pim_router.specs.Packets.{Packet}
use Rattle.pim_router.specs.State.{RouterState}
use Rattle.pim_mirror.specs.Config.{Neighbour, Fresh, neighbours, interval_of}
use Rattle.pim_mirror.specs.Fits.{OthersStay}
use Rattle.pim_mirror.specs.CanonicalCourse.{HoldsNothing, Lasts}
use Rattle.pim_mirror.specs.CanonicalPackets.{HearsWriter}

-- The packet is a Hello of this neighbour on the only port. Its header and its body have no fault
-- (RFC 7761, 4.9 and 4.9.2), and its options but the Address List are the neighbour's parameters.
pub record IsHelloFrom (family : AddressFamily) (neighbour : Neighbour) (packet : Packet) : Type 0 where
  pub port : packet.port ≡ 0
  pub source : packet.source ≡ neighbour.address
  pub body : List ℕ
  pub opened : frame_faults family packet.source packet.destination packet.bytes ≡ []
  pub holds : content packet.bytes ≡ hello body
  pub legal : faults body ≡ []
  pub says : (hello_of family body).parameters ≡ neighbour.hello

-- The packets are one Hello of each of these neighbours, in order.
unfoldable pub AreHellosFrom : AddressFamily → List Neighbour → List Packet → Type 0
AreHellosFrom family [] [] = Unit {0}
AreHellosFrom family [] (packet ∷ packets) = ⊥
AreHellosFrom family (neighbour ∷ neighbours) [] = ⊥
AreHellosFrom family (neighbour ∷ neighbours) (packet ∷ packets) =
    IsHelloFrom family neighbour packet × AreHellosFrom family neighbours packets

-- The override interval of the port, and whether it has neighbours beside the sender.
abbrev pub timing_of : Fresh → Timing
timing_of fresh = record { override_ms = interval_of fresh; several = nat_lt 1 (length (neighbours fresh)) }

-- The router holds no records and has the fresh router's table. Its port is the writer's upstream
-- neighbour and knows the writer, and no neighbour's time is over while the other neighbours stay.
pub record HasMet (writing : Writing) (fresh : Fresh) (state : RouterState) : Type 0 where
  pub nothing : HoldsNothing fresh.limit state
  pub routes : state.routes ≡ fresh.routes
  pub lasts : (last : ℕ) → OthersStay fresh last → Lasts last state
  pub hears : HearsWriter writing 0 (timing_of fresh) state
