-- The course of a router that hears deliveries of canonical messages: its runs between them, and
-- their packets. Lists of deliveries have the newest first.
use Rattle.std.specs.Prelude.{◌≡◌, ◌<◌, ◌≤◌, ◌-◌, ℕ, List, [], ◌∷◌, ◌++◌, length}
use Rattle.std.specs.List.{AllByRecursion}
use Rattle.pim_addr.specs.declared.family.AddressFamily.{AddressFamily}
use Rattle.pim_down.specs.declared.machines.event.Timing.{Timing}
use Rattle.pim_form.specs.Messages.{Writing}
use Rattle.pim_hello.specs.Neighbours.{Neighbour, Table}
use Rattle.pim_fresh.specs.Deliveries.{Delivery, IsShorter}
use Rattle.pim_fresh.specs.Expected.{units_of}
use Rattle.pim_fresh.specs.Exchange.{Exchange}
use Rattle.pim_fresh.specs.Hearing.{fresh, after_message}
use Rattle.pim_router.specs.Course.{Input, runs_to, takes, RouterReport, Reaches}
use Rattle.pim_router.specs.Packets.{Packet, received}
use Rattle.pim_router.specs.State.{RouterState, with_machines}
use Rattle.pim_router.specs.declared.verdict.Verdict.TheVariants.{Applied, Full}
use Rattle.pim_router.specs.declared.verdict.Store.TheVariants.{Records}
use Rattle.pim_mirror.specs.CanonicalPackets.{packet_of, HearsWriter}

-- A router that was as `Before` says, and whose port hears the writer, receives the packet of the
-- message. Its runs from there to the moment report `reported` and leave `after`.
pub record Hears (Before : RouterState → Type 0) (family : AddressFamily) (writing : Writing) (port : ℕ)
    (timing : Timing) (messages : List (List ℕ)) (message moment : ℕ) (after : RouterState) : Type 0 where
  pub before : RouterState
  pub was : Before before
  pub hears : HearsWriter writing port timing before
  pub reported : List RouterReport
  pub reaches : Reaches moment reported (received family (packet_of family writing port messages message) before).1 after

-- The router hears these deliveries: it runs to the moment of each until nothing is due and then
-- receives its packet. After the last one it runs to `moment`.
unfoldable pub HearsAll : AddressFamily → Writing → ℕ → Timing → List (List ℕ) → RouterState → List Delivery → ℕ →
    RouterState → Type 0
HearsAll family writing port timing messages start [] moment after =
    (reported : List RouterReport) × Reaches moment reported start after
HearsAll family writing port timing messages start (delivery ∷ earlier) moment after =
    Hears (HearsAll family writing port timing messages start earlier delivery.moment) family writing port timing
    messages delivery.message moment after

-- The verdict on the packet of one more delivery, and the state after it. It is applied where the
-- units of the different messages up to it are within the limit. Else it is `Full` with their
-- number, and nothing changes.
pub record IsTaken (family : AddressFamily) (exchange : Exchange) (limit : ℕ) (delivery : Delivery)
    (earlier : List Delivery) (packet : Packet) (before : RouterState) : Type 0 where
  pub applied : length (units_of exchange (delivery ∷ earlier)) ≤ limit → received family packet before
      ≡ (Applied, with_machines before (after_message exchange delivery.message before.machines))
  pub full : limit < length (units_of exchange (delivery ∷ earlier)) →
      received family packet before ≡ (Full (Records (length (units_of exchange (delivery ∷ earlier)))), before)

-- The inputs of a router that hears these deliveries on a port, from the oldest to the newest: the
-- moment of each, and then its packet.
unfoldable pub inputs_of : AddressFamily → Writing → ℕ → List (List ℕ) → List Delivery → List Input
inputs_of family writing port messages [] = []
inputs_of family writing port messages (delivery ∷ earlier) = inputs_of family writing port messages earlier
    ++ (runs_to delivery.moment ∷ takes (packet_of family writing port messages delivery.message) ∷ [])

-- Each delivery is of a message with a number below `count`.
abbrev pub AreOf : ℕ → List Delivery → Type 0
AreOf count deliveries = AllByRecursion (λ delivery. delivery.message < count) deliveries

-- The router has one port without records and this limit, at the moment 0. It may have received
-- Hellos.
abbrev pub HoldsNothing : ℕ → RouterState → Type 0
HoldsNothing limit state = state.machines ≡ fresh 1 limit

-- At the moment `last` no neighbour's time is over. All tables are at the moment of the machines,
-- and each neighbour has more time left than there is until `last`.
pub record Lasts (last : ℕ) (state : RouterState) : Type 0 where
  pub by_then : state.machines.moment ≤ last
  pub now : AllByRecursion (λ (table : Table). table.moment ≡ state.machines.moment) state.tables
  pub left : AllByRecursion (λ (table : Table).
      AllByRecursion (λ (entry : List ℕ × Neighbour). IsShorter (last - state.machines.moment) entry.1.left)
      table.entries) state.tables
