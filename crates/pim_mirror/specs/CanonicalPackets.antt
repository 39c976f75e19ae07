-- The packets of canonical messages at the router to which they are written (RFC 7761, 4.3.1 and
-- 4.5.1).
use Rattle.std.specs.Prelude.{◌≡◌, ℕ, ◌<◌, ◌≤◌, nat_lt, true, List, [], slice_index_or}
use Rattle.pim_addr.specs.Faults.{fault_if}
use Rattle.pim_addr.specs.declared.family.AddressFamily.{AddressFamily}
use Rattle.pim_frame.specs.Frame.{all_routers}
use Rattle.pim_down.specs.declared.machines.event.Timing.{Timing}
use Rattle.pim_down.specs.Hearing.{needed}
use Rattle.pim_addr.specs.Routes.{rp_of}
use Rattle.pim_form.specs.Messages.{Writing}
use Rattle.pim_fresh.specs.Exchange.{Exchange}
use Rattle.pim_fresh.specs.Hearing.{after_message}
use Rattle.pim_router.specs.declared.verdict.Verdict.TheVariants.{Applied, Full}
use Rattle.pim_router.specs.declared.verdict.Store.TheVariants.{Records}
use Rattle.pim_router.specs.Packets.{Packet, causes, received, own_address, knows, timing_on}
use Rattle.pim_router.specs.State.{RouterState, with_machines}
use Rattle.pim_mirror.specs.CanonicalExchange.{exchange_in}

-- The packet of the message with this number, from the writer to ALL-PIM-ROUTERS, as a port
-- receives it.
abbrev pub packet_of : AddressFamily → Writing → ℕ → List (List ℕ) → ℕ → Packet
packet_of family writing port messages i = record {
  port = port;
  source = writing.own;
  destination = all_routers family;
  bytes = slice_index_or messages i [];
}

-- The port is the writer's upstream neighbour, knows the writer as a neighbour, and has this
-- timing.
pub record HearsWriter (writing : Writing) (port : ℕ) (timing : Timing) (state : RouterState) : Type 0 where
  pub own : own_address port state ≡ writing.upstream
  pub known : knows port writing.own state ≡ true
  pub timing_is : timing ≡ timing_on port state

-- These messages as an exchange on the port, under the router's route table.
abbrev pub heard_exchange : AddressFamily → Writing → ℕ → Timing → List (List ℕ) → RouterState → Exchange
heard_exchange family writing port timing messages state =
    exchange_in family (rp_of family state.routes) writing port timing messages

-- The number of records that the port needs for the message with this number.
abbrev pub needed_records : Exchange → ℕ → RouterState → ℕ
needed_records exchange i state = needed exchange.port state.machines.records (exchange.messages i)

-- Only want of room can refuse the packet. With room its message acts as the exchange says, and
-- nothing else changes. Without room the verdict is `Full` with the number of records that it
-- needs, and nothing changes.
pub record IsHeard (family : AddressFamily) (exchange : Exchange) (i : ℕ) (packet : Packet) (state : RouterState)
    : Type 0 where
  pub only_room : causes family packet state ≡ fault_if
      (nat_lt state.machines.limit (needed_records exchange i state)) (Full (Records (needed_records exchange i state)))
  pub applied : needed_records exchange i state ≤ state.machines.limit →
      received family packet state ≡ (Applied, with_machines state (after_message exchange i state.machines))
  pub full : state.machines.limit < needed_records exchange i state →
      received family packet state ≡ (Full (Records (needed_records exchange i state)), state)
