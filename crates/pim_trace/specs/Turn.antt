-- A turn of a trace: time passes up to the moment of a record, then the port of its capture takes
-- the record.
use Rattle.std.specs.Prelude.{◌≡◌, ℕ, List, [], ◌∷◌, ◌++◌}
use Rattle.pim_addr.specs.declared.family.AddressFamily.{AddressFamily}
use Rattle.pim_capture.specs.Capture.{EventSeen}
use Rattle.pim_capture.specs.declared.incomplete.RecordPlace.{RecordPlace}
use Rattle.pim_merge.specs.Content.{Content, holds, of_other_family, without_packet, no_record, content_in}
use Rattle.pim_merge.specs.Merge.{Taken, event_time}
use Rattle.pim_router.specs.Packets.{Packet}
use Rattle.pim_router.specs.State.{RouterState}
use Rattle.pim_events.specs.declared.event.Skip.TheVariants.{NoPacket, OtherFamily}
use Rattle.pim_events.specs.declared.event.Skipping.{Skipping}
use Rattle.pim_events.specs.Events.{Occurrence, record_skipped}
use Rattle.pim_trace.specs.Ledger.{Ledger, frame_of, frame_after, opened, with_skip}
use Rattle.pim_trace.specs.Heard.{event_on, HearsPacket}
use Rattle.pim_trace.specs.Passing.{PassesTime}

-- ---- how a port takes a record

-- A record is skipped. The router stays as it is.
abbrev pub Skips : ℕ → Skipping → Ledger → RouterState → List Occurrence → Ledger → RouterState → Type 0
Skips port skipping ledger state events ledger' after =
    (events ≡ event_on ledger state.machines.moment port (record_skipped skipping) ∷ [])
    × (ledger' ≡ with_skip skipping.why ledger) × (after ≡ state)

-- Nothing happens, and all stays as it is.
abbrev pub Rests : Ledger → RouterState → List Occurrence → Ledger → RouterState → Type 0
Rests ledger state events ledger' after = (events ≡ []) × (ledger' ≡ ledger) × (after ≡ state)

-- The packet that a port gets.
abbrev pub packet_on : ℕ → List ℕ → List ℕ → List ℕ → Packet
packet_on port source destination payload =
    record { port = port; source = source; destination = destination; bytes = payload }

-- What the record at this place in its capture holds is received, or the record is skipped. A
-- packet of the other family counts as none.
abbrev pub TakesContent : AddressFamily → ℕ → RecordPlace → Content → Ledger → RouterState → List Occurrence → Ledger →
    RouterState → Type 0
TakesContent family port frame (holds source destination payload) =
    HearsPacket family frame (packet_on port source destination payload)
TakesContent family port frame of_other_family = Skips port (record { frame = frame; why = OtherFamily })
TakesContent family port frame (without_packet why) = Skips port (record { frame = frame; why = NoPacket why })
TakesContent family port frame no_record = Rests

-- The record that was counted last of the port's capture is taken.
abbrev pub TakesRecord : AddressFamily → ℕ → EventSeen → Ledger → RouterState → List Occurrence → Ledger →
    RouterState → Type 0
TakesRecord family port reported ledger = TakesContent family port (frame_of port ledger) (content_in family reported) ledger

-- ---- the turn

-- The ledger when the record of a turn is counted.
abbrev pub counting : Taken → Ledger → Ledger
counting turn ledger =
    opened turn.capture (frame_after turn.reported (frame_of turn.capture ledger)) (event_time turn.reported) ledger

-- The events of a turn: first those of the time up to its moment, then those of its record.
pub record WritesTurn (family : AddressFamily) (turn : Taken) (ledger : Ledger) (state : RouterState)
    (events : List Occurrence) (ledger' : Ledger) (after : RouterState) : Type 0 where
  pub way : List Occurrence
  pub between : RouterState
  pub ledger_then : Ledger
  pub passes : PassesTime turn.moment (counting turn ledger) state way ledger_then between
  pub of_record : List Occurrence
  pub takes : TakesRecord family turn.capture turn.reported ledger_then between of_record ledger' after
  pub events_are : events ≡ way ++ of_record
