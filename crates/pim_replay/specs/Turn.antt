-- A turn of a replay: the router runs to the moment of a record, then the port of its capture takes
-- the record.
use Rattle.std.specs.Prelude.{◌≡◌, ℕ, List}
use Rattle.pim_addr.specs.declared.family.AddressFamily.{AddressFamily}
use Rattle.pim_capture.specs.Capture.{EventSeen}
use Rattle.pim_merge.specs.Content.{Content, holds, no_record, content_in}
use Rattle.pim_merge.specs.Merge.{Taken}
use Rattle.pim_router.specs.Packets.{Packet, received}
use Rattle.pim_router.specs.State.{RouterState}
use Rattle.pim_replay.specs.declared.event.ReplayEvent.TheVariants as event
use Rattle.pim_replay.specs.Events.{Account, nothing, of_event, one_skipped, Follows}
use Rattle.pim_replay.specs.Passing.{PassesTime}

-- ---- taking a record

-- The packet that a port gets.
abbrev pub packet_on : ℕ → List ℕ → List ℕ → List ℕ → Packet
packet_on port source destination payload =
    record { port = port; source = source; destination = destination; bytes = payload }

-- The account of a packet that the router takes, and the router after it. The event has the
-- router's moment and verdict.
abbrev pub heard : AddressFamily → Packet → RouterState → Account × RouterState
heard family sent state = (
  of_event (event.Packet state.machines.moment sent.port sent.source (received family sent state).0),
  (received family sent state).1,
)

-- A skipped record counts as one and leaves the router unchanged.
abbrev pub passed_over : RouterState → Account × RouterState
passed_over state = (one_skipped, state)

-- What is no record reports nothing, and leaves the router unchanged.
abbrev pub rested : RouterState → Account × RouterState
rested state = (nothing, state)

-- The account of what a record holds, and the router after it. A packet of the router's family goes
-- to the port with the number of its capture. What is no record, as the beginning of a capture's
-- next file, reports nothing. Any other record is skipped.
abbrev pub taken_as : AddressFamily → ℕ → Content → RouterState → Account × RouterState
taken_as family port (holds source destination payload) state =
    heard family (packet_on port source destination payload) state
taken_as family port no_record state = rested state
taken_as family port other state = passed_over state

-- The account of a record, and the router after it.
abbrev pub taking : AddressFamily → ℕ → EventSeen → RouterState → Account × RouterState
taking family port reported state = taken_as family port (content_in family reported) state

-- ---- the turn

-- The port takes the record of the turn.
abbrev pub TakesRecord : AddressFamily → Taken → RouterState → Account → RouterState → Type 0
TakesRecord family turn state account after = (account, after) ≡ taking family turn.capture turn.reported state

-- The router runs to the moment of the record, then its port takes the record.
abbrev pub WritesTurn : AddressFamily → Taken → RouterState → Account → RouterState → Type 0
WritesTurn family turn state = Follows (PassesTime turn.moment state) (TakesRecord family turn)

-- ---- used by private functions only

-- The number of records that are skipped of what holds no packet of the router's family.
abbrev pub skips_in : Content → ℕ
skips_in no_record = 0
skips_in other = 1
