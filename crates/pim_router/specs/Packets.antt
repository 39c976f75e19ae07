-- How a router receives a packet: its verdict and the state after it (RFC 7761, 4.3.1, 4.5 and
-- 4.9).
use Rattle.std.specs.Prelude.{◌≡◌, ℕ, Bool, false, not, nat_eq, nat_lt, List, [], ◌∷◌, ◌++◌, length, map, slice_set}
use Rattle.std.specs.Prelude.{Result, Ok, Err}
use Rattle.std.specs.Option.{is_some}
use Rattle.std.specs.Cmp.Lexicographic.{pointwise}
use Rattle.pim_addr.specs.declared.family.AddressFamily.{AddressFamily}
use Rattle.pim_addr.specs.Faults.{fault_if}
use Rattle.pim_frame.specs.Frame.{Content, hello, join_prune, other, content, frame_faults}
use Rattle.pim_hello.specs.Faults.{faults as hello_faults}
use Rattle.pim_hello.specs.Hello.{Parameters}
use Rattle.pim_hello.specs.Value.{hello_of}
use Rattle.pim_hello.specs.Interval.{jp_override_interval}
use Rattle.pim_hello.specs.Neighbours.{Table, neighbour_at, hellos_of, without_ended, heard_from, heard_as, is_full}
use Rattle.pim_hello.specs.Neighbours.{needs_no_memory}
use Rattle.pim_jp.specs.Faults.{faults as join_prune_faults}
use Rattle.pim_jp.specs.Message.{Message, message_of}
use Rattle.pim_down.specs.declared.machines.event.Timing.{Timing}
use Rattle.pim_down.specs.Heard.{heard, needed_for, new_for}
use Rattle.pim_addr.specs.Routes.{rp_of}
use Rattle.pim_router.specs.declared.verdict.Verdict.{Verdict}
use Rattle.pim_router.specs.declared.verdict.Verdict.TheVariants as verdict
use Rattle.pim_router.specs.declared.verdict.Malformed.TheVariants as malformed
use Rattle.pim_router.specs.declared.verdict.Store.TheVariants as store
use Rattle.pim_router.specs.State.{RouterState, with_machines, with_tables, port_at, table_at}

-- A received packet: the port, the IP source and destination, and the PIM message.
pub record Packet : Type 0 where
  pub port : ℕ
  pub source : List ℕ
  pub destination : List ℕ
  pub bytes : List ℕ

-- ---- the neighbours of a port

-- The neighbours of a port, without those whose time is over.
abbrev pub neighbours_on : ℕ → RouterState → Table
neighbours_on port state = without_ended (table_at port state)

-- The source is a neighbour on the port whose time isn't over. A Join/Prune message from any other
-- source is discarded (RFC 7761, 4.3.1).
abbrev pub knows : ℕ → List ℕ → RouterState → Bool
knows port source state = is_some (neighbour_at source (neighbours_on port state))

-- What a Join/Prune message needs of the port's neighbours: J/P_Override_Interval(I) of the port's
-- and the neighbours' delays (RFC 7761, 4.3.3), and whether the port has more than one neighbour
-- (4.5.1).
abbrev pub timing_on : ℕ → RouterState → Timing
timing_on port state = record {
  override_ms = jp_override_interval (port_at port state).propagation (port_at port state).override_ms
      (hellos_of (neighbours_on port state));
  several = nat_lt 1 (length (neighbours_on port state).entries);
}

-- ---- the causes that refuse a packet

-- The port's own address.
abbrev pub own_address : ℕ → RouterState → List ℕ
own_address port state = (port_at port state).address

-- The number of records that the port may need for a Join/Prune message: those that it holds and
-- those that the message makes, repeats counted.
abbrev pub needed_by : AddressFamily → ℕ → Message → RouterState → ℕ
needed_by family port message state = needed_for port message (rp_of family state.routes) state.machines

-- The causes that refuse a Hello without a fault: the port has no room for one more neighbour.
abbrev pub hello_causes : ℕ → List ℕ → RouterState → Parameters → List Verdict
hello_causes port source state said =
    fault_if (is_full source said (neighbours_on port state)) (verdict.Full store.Neighbours)

-- The causes that refuse a Join/Prune message to this router: the records that it needs pass the
-- limit.
abbrev pub room_causes : AddressFamily → ℕ → RouterState → Message → List Verdict
room_causes family port state message = fault_if (nat_lt state.machines.limit (needed_by family port message state))
    (verdict.Full (store.Records (needed_by family port message state)))

-- The causes that refuse a Join/Prune message without a fault, in order: the source isn't a
-- neighbour (RFC 7761, 4.3.1), the upstream neighbour isn't the port's own address (4.5.1), no room
-- for its records.
abbrev pub message_causes : AddressFamily → ℕ → List ℕ → RouterState → Message → List Verdict
message_causes family port source state message =
    fault_if (not (knows port source state)) verdict.UnknownNeighbour
    ++ fault_if (not (pointwise nat_eq message.upstream (own_address port state))) verdict.NotForUs
    ++ room_causes family port state message

-- The causes that refuse a PIM message with a sound header: another type, or the faults of the body
-- and then the causes above.
abbrev pub body_causes : AddressFamily → ℕ → List ℕ → RouterState → Content → List Verdict
body_causes family port source state (other type) = verdict.OtherType type ∷ []
body_causes family port source state (hello body) =
    map (λ fault. verdict.Malformed (malformed.Hello fault)) (hello_faults body)
    ++ hello_causes port source state (hello_of family body).parameters
body_causes family port source state (join_prune body) =
    map (λ fault. verdict.Malformed (malformed.JoinPrune fault)) (join_prune_faults family body)
    ++ message_causes family port source state (message_of family body)

-- All causes that refuse a packet, in order: its source is the port's own address, the faults of
-- the header (RFC 7761, 4.9), the causes of the body. The first cause is the verdict.
abbrev pub causes : AddressFamily → Packet → RouterState → List Verdict
causes family packet state =
    fault_if (pointwise nat_eq packet.source (own_address packet.port state)) verdict.Mine
    ++ map (λ fault. verdict.Malformed (malformed.Frame fault))
    (frame_faults family packet.source packet.destination packet.bytes)
    ++ body_causes family packet.port packet.source state (content packet.bytes)

-- ---- the effect of a packet that is taken

-- The verdict and the state after a Hello that is taken: the port keeps what it says, or removes
-- the neighbour at a goodbye (RFC 7761, 4.3.1).
abbrev pub hello_heard : ℕ → List ℕ → RouterState → Parameters → Verdict × RouterState
hello_heard port source state said = (
  verdict.HelloTaken (heard_as (neighbour_at source (neighbours_on port state)) said),
  with_tables state (slice_set state.tables port (heard_from source said (neighbours_on port state))),
)

-- The verdict and the state after a Join/Prune message that is taken: it acts on the port's
-- machines by the state machines of RFC 7761, 4.5.
abbrev pub message_heard : AddressFamily → ℕ → RouterState → Message → Verdict × RouterState
message_heard family port state message = (
  verdict.Applied,
  with_machines state (heard port message (rp_of family state.routes) (timing_on port state) state.machines),
)

-- The verdict and the state after a body that no cause refuses. A message of another type changes
-- nothing.
abbrev pub body_heard : AddressFamily → ℕ → List ℕ → RouterState → Content → Verdict × RouterState
body_heard family port source state (other type) = (verdict.OtherType type, state)
body_heard family port source state (hello body) = hello_heard port source state (hello_of family body).parameters
body_heard family port source state (join_prune body) = message_heard family port state (message_of family body)

-- ---- the verdict, and the state after the packet

-- The first cause as the verdict, with the state unchanged; without a cause, what taking the packet
-- gives.
abbrev pub unless : List Verdict → RouterState → Verdict × RouterState → Verdict × RouterState
unless [] state taken = taken
unless (cause ∷ others) state taken = (cause, state)

-- The verdict on a packet, and the state after it.
abbrev pub received : AddressFamily → Packet → RouterState → Verdict × RouterState
received family packet state = unless (causes family packet state) state
    (body_heard family packet.port packet.source state (content packet.bytes))

-- The result of a call that receives a packet, and the state that it leaves. An error comes only
-- where no cause refuses the packet, and then nothing changes.
abbrev pub Receives : {E : Type 0} → List Verdict → Verdict × RouterState → RouterState → Result Verdict E →
    RouterState → Type 0
Receives causes end old (Ok reported) new = (reported, new) ≡ end
Receives causes end old (Err refused) new = (causes ≡ []) × (new ≡ old)

-- ---- which packets may need memory

-- The number of records that a Join/Prune message makes, repeats counted.
abbrev pub new_by : AddressFamily → ℕ → Message → RouterState → ℕ
new_by family port message state = new_for port message (rp_of family state.routes) state.machines

-- Taking the message may need memory. A Hello may, unless it is a goodbye, or comes from a known
-- neighbour with holdtime 65,535. A Join/Prune message may where it makes a record.
abbrev pub may_grow : AddressFamily → ℕ → List ℕ → RouterState → Content → Bool
may_grow family port source state (other type) = false
may_grow family port source state (hello body) =
    not (needs_no_memory source (hello_of family body).parameters (neighbours_on port state))
may_grow family port source state (join_prune body) = nat_lt 0 (new_by family port (message_of family body) state)
