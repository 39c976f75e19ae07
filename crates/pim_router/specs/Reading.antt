-- What the PIM message of a packet reads as, and how a router takes what was read.
use Rattle.std.specs.Prelude.{◌≡◌, ◌↔◌, ℕ, Bool, false, IsTrue, nat_eq, nat_lt, not, List, [], ◌∷◌, ◌++◌}
use Rattle.std.specs.Prelude.{Result, Ok, Err}
use Rattle.std.specs.Cmp.Lexicographic.{pointwise}
use Rattle.pim_addr.specs.Faults.{fault_if, judged}
use Rattle.pim_addr.specs.declared.family.AddressFamily.{AddressFamily}
use Rattle.pim_frame.specs.Frame.{Content, hello, join_prune, other, content, frame_faults}
use Rattle.pim_frame.specs.declared.frame.FrameFault.{FrameFault}
use Rattle.pim_hello.specs.Faults.{faults as hello_faults}
use Rattle.pim_hello.specs.declared.fault.HelloFault.{HelloFault}
use Rattle.pim_hello.specs.Hello.{Hello}
use Rattle.pim_hello.specs.Neighbours.{needs_no_memory}
use Rattle.pim_hello.specs.Seen.{hello_seen}
use Rattle.pim_hello.specs.Value.{hello_of}
use Rattle.pim_jp.specs.Faults.{faults as join_prune_faults}
use Rattle.pim_jp.specs.declared.fault.JpFault.{JpFault}
use Rattle.pim_jp.specs.Message.{Message, message_of}
use Rattle.pim_router.specs.declared.message.PimMessage.{PimMessage}
use Rattle.pim_router.specs.declared.message.PimMessage.TheVariants as code
use Rattle.pim_router.specs.declared.verdict.Malformed.{Malformed}
use Rattle.pim_router.specs.declared.verdict.Malformed.TheVariants as malformed
use Rattle.pim_router.specs.declared.verdict.Verdict.{Verdict}
use Rattle.pim_router.specs.declared.verdict.Verdict.TheVariants as verdict
use Rattle.pim_router.specs.Packets.{Packet, causes, received, unless, own_address, neighbours_on, may_grow, new_by}
use Rattle.pim_router.specs.Packets.{hello_causes, hello_heard, message_causes, message_heard}
use Rattle.pim_router.specs.State.{RouterState}

-- What a PIM message reads as: a Hello (RFC 7761, 4.9.2), a Join/Prune (4.9.5), a message of
-- another type, or a message with this first fault.
pub data Reading : Type 0 where
  read_hello : Hello → Reading
  read_message : Message → Reading
  read_other : ℕ → Reading
  read_fault : Malformed → Reading

-- By the body of a Hello.
abbrev pub hello_by : Result Hello HelloFault → Reading
hello_by (Ok said) = read_hello said
hello_by (Err fault) = read_fault (malformed.Hello fault)

-- By the body of a Join/Prune.
abbrev pub message_by : Result Message JpFault → Reading
message_by (Ok message) = read_message message
message_by (Err fault) = read_fault (malformed.JoinPrune fault)

-- By the content of a message whose header has no fault.
abbrev pub read_by : AddressFamily → Result Content FrameFault → Reading
read_by family (Err fault) = read_fault (malformed.Frame fault)
read_by family (Ok (hello body)) = hello_by (judged (hello_faults body) (hello_of family body))
read_by family (Ok (join_prune body)) = message_by (judged (join_prune_faults family body) (message_of family body))
read_by family (Ok (other type)) = read_other type

-- What a message from this source to this destination reads as.
abbrev pub read_as : AddressFamily → List ℕ → List ℕ → List ℕ → Reading
read_as family source destination bytes =
    read_by family (judged (frame_faults family source destination bytes) (content bytes))

-- What the message of a packet reads as.
abbrev pub packet_read : AddressFamily → Packet → Reading
packet_read family packet = read_as family packet.source packet.destination packet.bytes

-- How contracts see a message that was read.
abbrev pub reading_seen : {F A N : Type 0} → AddressFamily → PimMessage F A N → Reading
reading_seen family (code.Hello said) = read_hello (hello_seen family said)
reading_seen family (code.JoinPrune message) = read_message message
reading_seen family (code.Other type) = read_other type
reading_seen family (code.Malformed fault) = read_fault fault

-- ---- how a port takes what was read

module _ (family : AddressFamily) (port : ℕ) (source : List ℕ) (state : RouterState) where
  -- The causes that refuse a message from another address than the port's own.
  abbrev pub message_refusals : Reading → List Verdict
  message_refusals (read_hello said) = hello_causes port source state said.parameters
  message_refusals (read_message message) = message_causes family port source state message
  message_refusals (read_other type) = verdict.OtherType type ∷ []
  message_refusals (read_fault fault) = verdict.Malformed fault ∷ []

  -- All causes that refuse it, in order. The first one is the verdict.
  abbrev pub read_causes : Reading → List Verdict
  read_causes reading =
      fault_if (pointwise nat_eq source (own_address port state)) verdict.Mine ++ message_refusals reading

  -- The verdict and the state after a message that no cause refuses.
  abbrev pub read_taken : Reading → Verdict × RouterState
  read_taken (read_hello said) = hello_heard port source state said.parameters
  read_taken (read_message message) = message_heard family port state message
  read_taken (read_other type) = (verdict.OtherType type, state)
  read_taken (read_fault fault) = (verdict.Malformed fault, state)

  -- The verdict, and the state after it.
  abbrev pub read_received : Reading → Verdict × RouterState
  read_received reading = unless (read_causes reading) state (read_taken reading)

  -- Taking the message may need memory.
  abbrev pub read_may_grow : Reading → Bool
  read_may_grow (read_hello said) = not (needs_no_memory source said.parameters (neighbours_on port state))
  read_may_grow (read_message message) = nat_lt 0 (new_by family port message state)
  read_may_grow (read_other type) = false
  read_may_grow (read_fault fault) = false

-- A port takes a packet as it takes what the packet's message reads as: with the same verdict, the
-- same state after it, and memory where the packet may need some.
pub record IsTakenAsRead (family : AddressFamily) (packet : Packet) (state : RouterState) : Type 0 where
  pub refused : (read_causes family packet.port packet.source state (packet_read family packet) ≡ [])
      ↔ (causes family packet state ≡ [])
  pub received_is : read_received family packet.port packet.source state (packet_read family packet)
      ≡ received family packet state
  pub grows : IsTrue (read_may_grow family packet.port packet.source state (packet_read family packet)) →
      IsTrue (may_grow family packet.port packet.source state (content packet.bytes))

-- Each packet is taken so.
abbrev pub PacketIsTakenAsRead : Type 0
PacketIsTakenAsRead = (family : AddressFamily) (packet : Packet) (state : RouterState) →
    IsTakenAsRead family packet state
