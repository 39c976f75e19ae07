-- The events of a packet that a port receives, and what the trace remembers afterwards.
use Rattle.std.specs.Prelude.{◌≡◌, ℕ, nat_eq, Bool, not, true, false, ◌&&◌, if◌then◌else◌, List, [], ◌∷◌, ◌++◌, map}
use Rattle.std.specs.Prelude.{length, slice_index_or, Option, None, Some}
use Rattle.std.specs.Option.{option_eq}
use Rattle.std.specs.List.{flat_map}
use Rattle.pim_addr.specs.declared.family.AddressFamily.{AddressFamily}
use Rattle.pim_capture.specs.declared.incomplete.RecordPlace.{RecordPlace}
use Rattle.pim_hello.specs.Hello.{Parameters}
use Rattle.pim_hello.specs.Neighbours.{Neighbour, neighbour_at}
use Rattle.pim_hello.specs.declared.heard.Heard.{Heard}
use Rattle.pim_hello.specs.declared.heard.Heard.TheVariants.{Gone}
use Rattle.pim_jp.specs.declared.entry.Entry.{Entry}
use Rattle.pim_jp.specs.declared.entry.Entry.TheVariants as entry
use Rattle.pim_jp.specs.Message.{GroupSet, Message}
use Rattle.pim_down.specs.declared.machines.machine.State.{State}
use Rattle.pim_down.specs.declared.machines.machine.State.TheVariants.{PrunePending}
use Rattle.pim_down.specs.declared.machines.machine.Record.{Record}
use Rattle.pim_down.specs.Hearing.{is_known, events_of, start_of, hearing}
use Rattle.pim_addr.specs.Routes.{rp_of}
use Rattle.pim_down.specs.Records.{state_of_machine}
use Rattle.pim_router.specs.declared.verdict.Verdict.{Verdict}
use Rattle.pim_router.specs.declared.verdict.Verdict.TheVariants as verdict
use Rattle.pim_router.specs.Packets.{Packet, received, neighbours_on, timing_on}
use Rattle.pim_router.specs.State.{RouterState}
use Rattle.pim_events.specs.declared.event.Cause.{Cause}
use Rattle.pim_events.specs.declared.event.TransitionEvent.{TransitionEvent}
use Rattle.pim_events.specs.Events.{Happened, Occurrence, hello_heard, packet_judged, machine_changed, join_ignored}
use Rattle.pim_events.specs.Events.{own_restart}
use Rattle.pim_transitions.specs.declared.transition.Transition.{Transition}
use Rattle.pim_transitions.specs.Transitions.{AreTransitions}
use Rattle.pim_trace.specs.declared.ledger.Sent.{Sent}
use Rattle.pim_trace.specs.Ledger.{Ledger, causes_of, epoch_of, with_own, with_hello, with_change, with_changes}
use Rattle.pim_trace.specs.Reading.{hello_read, message_read}

-- An event on a port at this moment.
abbrev pub event_on : Ledger → ℕ → ℕ → Happened → Occurrence
event_on ledger ms port what = record {
  ms = ms;
  epoch = epoch_of ms ledger;
  port = Some port;
  what = what;
}

-- ---- what a trace says of a packet

-- The Generation ID that is kept of a neighbour; none if nothing is kept of it.
abbrev pub generation_of : Option Neighbour → Option ℕ
generation_of None = None
generation_of (Some known) = known.parameters.generation

-- The Generation ID of a Hello; none without a Hello.
abbrev pub generation_in : Option Parameters → Option ℕ
generation_in None = None
generation_in (Some said) = said.generation

-- A Hello was taken, which means this for its sender.
abbrev pub greeting : AddressFamily → RecordPlace → Packet → RouterState → Heard → Happened
greeting family frame packet state heard = hello_heard (record {
  frame = frame;
  from = packet.source;
  verdict = heard;
  was = generation_of (neighbour_at packet.source (neighbours_on packet.port state));
  generation = generation_in (hello_read family packet);
})

-- Another packet got this verdict.
abbrev pub judgment : AddressFamily → RecordPlace → Packet → Verdict → Happened
judgment family frame packet reported = packet_judged (record {
  frame = frame;
  from = packet.source;
  verdict = reported;
  message = message_read family packet;
})

-- ---- the port's own Hellos

-- The port's own Hello has another Generation ID than the one before it. None is one, too.
abbrev pub restart_of : RecordPlace → Option (Option ℕ) → Option ℕ → List Happened
restart_of frame None generation = []
restart_of frame (Some was) generation =
    if option_eq nat_eq was generation then []
    else own_restart (record { frame = frame; was = was; generation = generation }) ∷ []

-- What the trace says of a packet from the port's own address, after its verdict.
abbrev pub restarts : RecordPlace → Option (Option ℕ) → Option Parameters → List Happened
restarts frame before None = []
restarts frame before (Some said) = restart_of frame before said.generation

-- What the trace remembers after such a packet.
abbrev pub after_own : ℕ → Option Parameters → Ledger → Ledger
after_own port None ledger = ledger
after_own port (Some said) ledger = with_own port said.generation ledger

-- ---- a Join/Prune message that was applied

module _ (frame : RecordPlace) (from : List ℕ) (known : List ℕ → Option (List ℕ)) where
  -- A Join(*,G) that counts for nothing, since its RP isn't that of the group (RFC 7761, 4.5.1).
  abbrev pub ignored_entry : List ℕ → Entry (List ℕ) → List Happened
  ignored_entry group (entry.Star rp) = if is_known (known group) rp then [] else
      join_ignored (record { frame = frame; from = from; group = group; names = rp; rp = known group }) ∷ []
  ignored_entry group (entry.Source source) = []
  ignored_entry group (entry.Rpt source) = []

  -- Those of a group set.
  abbrev pub ignored_in : GroupSet → List Happened
  ignored_in set = flat_map (ignored_entry set.group) set.joined

  -- Those of the group sets of a message, in their order.
  abbrev pub all_ignored : List GroupSet → List Happened
  all_ignored sets = flat_map ignored_in sets

-- It is Prune-Pending.
abbrev pub is_pending : Option State → Bool
is_pending None = false
is_pending (Some PrunePending) = true
is_pending (Some other) = false

-- The packet that started the Prune-Pending Timer of a machine that is Prune-Pending no more: this
-- message overrides it.
abbrev pub overridden : Ledger → Transition (List ℕ) → Option RecordPlace
overridden ledger change =
    if is_pending (state_of_machine change.before) && not (is_pending (state_of_machine change.after))
    then Some (causes_of change.key ledger).pending.frame else None

-- A machine that a message changed. The port has this number of neighbours.
abbrev pub change_by : Ledger → Cause (List ℕ) → ℕ → Transition (List ℕ) → TransitionEvent (List ℕ)
change_by ledger packet neighbours change = record {
  frame = packet.frame;
  from = packet.from;
  by = change.by;
  group = change.key.group;
  what = change.key.what;
  before = state_of_machine change.before;
  after = change.after;
  neighbours = neighbours;
  overrides = overridden ledger change;
}

-- What the trace says of it.
abbrev pub change_of : Ledger → Cause (List ℕ) → ℕ → Transition (List ℕ) → Happened
change_of ledger packet neighbours change = machine_changed (change_by ledger packet neighbours change)

-- All machines that a message changed, one after the other.
unfoldable pub changes_of : Ledger → Cause (List ℕ) → ℕ → List (Transition (List ℕ)) → List Happened
changes_of ledger packet neighbours [] = []
changes_of ledger packet neighbours (change ∷ changes) = change_of ledger packet neighbours change
    ∷ changes_of (with_change packet change ledger) packet neighbours changes

-- ---- the packet

-- The packet as a cause.
abbrev pub as_cause : RecordPlace → Packet → RouterState → Cause (List ℕ)
as_cause frame packet state = record { frame = frame; from = packet.source; ms = state.machines.moment }

-- What is remembered of the sender of a Hello that was taken at this moment: nothing after a
-- goodbye.
abbrev pub sent_by : RecordPlace → ℕ → Heard → Option Sent
sent_by frame ms Gone = None
sent_by frame ms heard = Some (record { frame = frame; ms = ms })

-- What a message with these group sets says that was applied: the Joins that count for nothing,
-- then the machines that changed.
abbrev pub message_says : AddressFamily → RecordPlace → Packet → RouterState → Ledger → List GroupSet →
    List (Transition (List ℕ)) → List Happened
message_says family frame packet state ledger sets changes =
    all_ignored frame packet.source (rp_of family state.routes) sets
    ++ changes_of ledger (as_cause frame packet state) (length (neighbours_on packet.port state).entries) changes

-- What the trace says of a packet with this verdict, and remembers afterwards. `changes` are the
-- transitions of a message that was applied.
module _ (family : AddressFamily) (frame : RecordPlace) (packet : Packet) (state : RouterState) (ledger : Ledger) where
  -- What an applied message says.
  abbrev pub applied_says : Option Message → List (Transition (List ℕ)) → List Happened
  applied_says None changes = []
  applied_says (Some message) changes = message_says family frame packet state ledger message.sets changes

  -- What the trace says.
  abbrev pub says : Verdict → List (Transition (List ℕ)) → List Happened
  says (verdict.HelloTaken heard) changes = greeting family frame packet state heard ∷ []
  says verdict.Mine changes = judgment family frame packet verdict.Mine
      ∷ restarts frame (slice_index_or ledger.own packet.port None) (hello_read family packet)
  says verdict.Applied changes = judgment family frame packet verdict.Applied
      ∷ applied_says (message_read family packet) changes
  says other changes = judgment family frame packet other ∷ []

  -- What the trace remembers.
  abbrev pub remembers : Verdict → List (Transition (List ℕ)) → Ledger
  remembers (verdict.HelloTaken heard) changes =
      with_hello packet.port packet.source (sent_by frame state.machines.moment heard) ledger
  remembers verdict.Mine changes = after_own packet.port (hello_read family packet) ledger
  remembers verdict.Applied changes = with_changes (as_cause frame packet state) changes ledger
  remembers other changes = ledger

-- The records after a message is heard on a port.
abbrev pub records_after : AddressFamily → ℕ → RouterState → Message → List (Record (List ℕ))
records_after family port state message =
    hearing port (start_of message.holdtime (timing_on port state)) (events_of (rp_of family state.routes) message)
    state.machines.records

-- These are the transitions of a message that is heard on a port.
abbrev pub AreTransitionsOf : AddressFamily → ℕ → RouterState → Message → List (Transition (List ℕ)) → Type 0
AreTransitionsOf family port state message changes =
    AreTransitions port (start_of message.holdtime (timing_on port state))
    (events_of (rp_of family state.routes) message) state.machines.records
    (records_after family port state message) changes

-- The transitions of a packet: those of the machines of its port, if it was applied.
abbrev pub AreChangesOf : AddressFamily → Packet → RouterState → RouterState → Verdict → Option Message →
    List (Transition (List ℕ)) → Type 0
AreChangesOf family packet state after verdict.Applied (Some message) changes =
    AreTransitions packet.port (start_of message.holdtime (timing_on packet.port state))
    (events_of (rp_of family state.routes) message) state.machines.records after.machines.records changes
AreChangesOf family packet state after reported message changes = changes ≡ []

-- A port receives a packet: these are its events, and `ledger'` is what the trace remembers.
pub record HearsPacket (family : AddressFamily) (frame : RecordPlace) (packet : Packet) (ledger : Ledger) (state : RouterState)
    (events : List Occurrence) (ledger' : Ledger) (after : RouterState) : Type 0 where
  pub changes : List (Transition (List ℕ))
  pub are : AreChangesOf family packet state after (received family packet state).0 (message_read family packet) changes
  pub after_is : after ≡ (received family packet state).1
  pub events_are : events ≡ map (event_on ledger state.machines.moment packet.port)
      (says family frame packet state ledger (received family packet state).0 changes)
  pub ledger_is : ledger' ≡ remembers family frame packet state ledger (received family packet state).0 changes
