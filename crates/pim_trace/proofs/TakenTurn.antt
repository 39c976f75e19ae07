-- A turn: the time up to it, and then what its record holds.
use Rattle.pim_trace.proofs.Words.{◌≡◌, ℕ, List, [], ◌∷◌, ◌++◌, Option, None, Some, Ok, Err, Result, map, refl, subst, Appends}
use Rattle.pim_trace.proofs.Words.{AppendsFront, AddressFamily, Taken, Message, events_of, start_of, rp_of, Verdict, Packet}
use Rattle.pim_trace.proofs.Words.{received, timing_on, RouterState, NoPacket, OtherFamily, Skipping, Occurrence, record_skipped}
use Rattle.pim_trace.proofs.Words.{Transition, TransitionsAreThere, AreChangesOf, event_on, says, remembers, Ledger, frame_of}
use Rattle.pim_trace.proofs.Words.{with_skip, PassesTime, message_read, TurnFault, OnTurn, HasWritten, HasBegun, Writes}
use Rattle.pim_trace.proofs.Words.{packet_on, Skips, TakesContent, TakesRecord, counting, WritesTurn, RecordPlace}
use Rattle.pim_capture.specs.Capture.{EventSeen}
use Rattle.pim_merge.specs.Content.{Content, holds, of_other_family, without_packet, no_record, content_in}
use Rattle.pim_router.specs.declared.verdict.Verdict.TheVariants as verdict
use Rattle.pim_trace.proofs.Pieces.{none_told, one_told, one_begun, happens_then, told_begun, begun_longer}

-- ---- each record has its events

-- Some events are those of the content, with what is remembered and the router after it.
pub record HasEvents (family : AddressFamily) (port : ℕ) (frame : RecordPlace) (content : Content) (ledger : Ledger) (state : RouterState) : Type 0 where
  pub events : List Occurrence
  pub ledger' : Ledger
  pub after : RouterState
  pub takes : TakesContent family port frame content ledger state events ledger' after

module _ (law : TransitionsAreThere) (family : AddressFamily) where
  record HasChanges (packet : Packet) (state after : RouterState) (reported : Verdict) (message : Option Message) : Type 0 where
    pub changes : List (Transition (List ℕ))
    pub are : AreChangesOf family packet state after reported message changes

  some_changes : (packet : Packet) (state after : RouterState) (reported : Verdict) (message : Option Message) → HasChanges packet state after reported message
  some_changes packet state after verdict.Applied (Some message) =
      let list = law packet.port (start_of message.holdtime (timing_on packet.port state)) (events_of (rp_of family state.routes) message) state.machines.records after.machines.records in
      record { changes = list.0; are = list.1 }
  some_changes packet state after verdict.Applied None = record { changes = []; are = refl }
  some_changes packet state after verdict.Mine message = record { changes = []; are = refl }
  some_changes packet state after (verdict.Malformed fault) message = record { changes = []; are = refl }
  some_changes packet state after (verdict.OtherType type) message = record { changes = []; are = refl }
  some_changes packet state after verdict.UnknownNeighbour message = record { changes = []; are = refl }
  some_changes packet state after verdict.NotForUs message = record { changes = []; are = refl }
  some_changes packet state after (verdict.Full store) message = record { changes = []; are = refl }
  some_changes packet state after (verdict.HelloTaken heard) message = record { changes = []; are = refl }

  pub some_events : (port : ℕ) (frame : RecordPlace) (content : Content) (ledger : Ledger) (state : RouterState) → HasEvents family port frame content ledger state
  some_events port frame (holds source destination payload) ledger state =
      let packet = packet_on port source destination payload in
      let reported = received family packet state in
      let some = some_changes packet state reported.1 reported.0 (message_read family packet) in
      record {
        events = map (event_on ledger state.machines.moment packet.port) (says family frame packet state ledger reported.0 some.changes);
        ledger' = remembers family frame packet state ledger reported.0 some.changes;
        after = reported.1;
        takes = record { changes = some.changes; are = some.are; after_is = refl; events_are = refl; ledger_is = refl };
      }
  some_events port frame of_other_family ledger state = record {
    events = event_on ledger state.machines.moment port (record_skipped (record { frame = frame; why = OtherFamily })) ∷ [];
    ledger' = with_skip (OtherFamily) ledger;
    after = state;
    takes = (refl, refl, refl);
  }
  some_events port frame (without_packet why) ledger state = record {
    events = event_on ledger state.machines.moment port (record_skipped (record { frame = frame; why = NoPacket why })) ∷ [];
    ledger' = with_skip (NoPacket why) ledger;
    after = state;
    takes = (refl, refl, refl);
  }
  some_events port frame no_record ledger state = record { events = []; ledger' = ledger; after = state; takes = (refl, refl, refl) }

-- ---- a record that is skipped

module _ (line : Occurrence → List ℕ) (port : ℕ) (skipping : Skipping) (ledger : Ledger) (state : RouterState) (ms : ℕ) (now : ms ≡ state.machines.moment) where
  abbrev event_at : ℕ → Occurrence
  event_at moment = event_on ledger moment port (record_skipped skipping)

  pub skip_begun : (old new : Option (List ℕ)) → AppendsFront old new (line (event_at ms)) → HasBegun line (Skips port skipping ledger state) old new
  skip_begun old new p = record {
    events = event_at state.machines.moment ∷ [];
    ledger = with_skip skipping.why ledger;
    after = state;
    are = (refl, refl, refl);
    written = one_begun line old new (event_at state.machines.moment) (subst (λ (m : ℕ). AppendsFront old new (line (event_at m))) now p);
  }

  pub skip_told : (ledger' : Ledger) → ledger' ≡ with_skip skipping.why ledger → (old new : Option (List ℕ)) → Appends old new (line (event_at ms))
      → HasWritten line (Skips port skipping ledger state) ledger' state old new
  skip_told ledger' counts old new p = record {
    events = event_at state.machines.moment ∷ [];
    are = (refl, counts, refl);
    written = one_told line old new (event_at state.machines.moment) (subst (λ (m : ℕ). Appends old new (line (event_at m))) now p);
  }

-- ---- the record of a turn

module _ (line : Occurrence → List ℕ) (family : AddressFamily) (port : ℕ) where
  -- what was told of its content was told of the record
  pub content_tells : {E : Type 0} (frame : RecordPlace) (content : Content) (ledger : Ledger) (state : RouterState) → frame ≡ frame_of port ledger → (reported : EventSeen) → content ≡ content_in family reported
      → (ledger' : Ledger) (after : RouterState) (old new : Option (List ℕ)) (result : Result (Unit {0}) E) → Writes line (TakesContent family port frame content ledger state) ledger' after old new result
      → Writes line (TakesRecord family port reported ledger state) ledger' after old new result
  content_tells frame content ledger state numbered reported is ledger' after old new result wrote =
      subst (λ (c : Content). Writes line (TakesContent family port (frame_of port ledger) c ledger state) ledger' after old new result) is
      (subst (λ (n : RecordPlace). Writes line (TakesContent family port n content ledger state) ledger' after old new result) numbered wrote)

  -- nothing was told of what is no record
  pub rest_tells : (ledger : Ledger) (state : RouterState) (reported : EventSeen) → no_record ≡ content_in family reported → (old : Option (List ℕ)) → HasWritten line (TakesRecord family port reported ledger state) ledger state old old
  rest_tells ledger state reported is old =
      subst (λ (c : Content). HasWritten line (TakesContent family port (frame_of port ledger) c ledger state) ledger state old old) is
      (record { events = []; are = (refl, refl, refl); written = none_told line old })

-- ---- the turn

module _ (line : Occurrence → List ℕ) (family : AddressFamily) (turn : Taken) (ledger counted : Ledger) (state : RouterState) (counts : counted ≡ counting turn ledger) where
  -- the time that passed up to the turn
  abbrev Way : List Occurrence → Ledger → RouterState → Type 0
  Way = PassesTime turn.moment counted state

  abbrev Tell : List Occurrence → Ledger → RouterState → Type 0
  Tell = WritesTurn family turn ledger state

  passes_so : (events : List Occurrence) (ledger_then : Ledger) (between : RouterState) → Way events ledger_then between → PassesTime turn.moment (counting turn ledger) state events ledger_then between
  passes_so events ledger_then between passes = subst (λ (l : Ledger). PassesTime turn.moment l state events ledger_then between) counts passes

  -- the device failed on the way
  pub stopped_on_the_way : TransitionsAreThere → (old new : Option (List ℕ)) → HasBegun line Way old new → HasBegun line Tell old new
  stopped_on_the_way law old new way =
      let rest = some_events law family turn.capture (frame_of turn.capture way.ledger) (content_in family turn.reported) way.ledger way.after in
      record {
        events = way.events ++ rest.events;
        ledger = rest.ledger';
        after = rest.after;
        are = record {
          way = way.events;
          between = way.after;
          ledger_then = way.ledger;
          passes = passes_so way.events way.ledger way.after way.are;
          of_record = rest.events;
          takes = rest.takes;
          events_are = refl;
        };
        written = begun_longer line old new way.events rest.events way.written;
      }

  module _ (ledger_then : Ledger) (between : RouterState) (old mid : Option (List ℕ)) (way : HasWritten line Way ledger_then between old mid) where
    abbrev Takes : List Occurrence → Ledger → RouterState → Type 0
    Takes = TakesRecord family turn.capture turn.reported ledger_then between

    turn_is : (events : List Occurrence) (ledger' : Ledger) (after : RouterState) → Takes events ledger' after
        → Tell (way.events ++ events) ledger' after
    turn_is events ledger' after takes = record {
      way = way.events;
      between = between;
      ledger_then = ledger_then;
      passes = passes_so way.events ledger_then between way.are;
      of_record = events;
      takes = takes;
      events_are = refl;
    }

    -- the whole turn was told
    pub turn_told : (ledger' : Ledger) (after : RouterState) (new : Option (List ℕ)) → HasWritten line Takes ledger' after mid new
        → HasWritten line Tell ledger' after old new
    turn_told ledger' after new one = record {
      events = way.events ++ one.events;
      are = turn_is one.events ledger' after one.are;
      written = happens_then line old mid new way.events one.events way.written one.written;
    }

    -- a front of what its record tells was told
    pub turn_begun : (new : Option (List ℕ)) → HasBegun line Takes mid new → HasBegun line Tell old new
    turn_begun new one = record {
      events = way.events ++ one.events;
      ledger = one.ledger;
      after = one.after;
      are = turn_is one.events one.ledger one.after one.are;
      written = told_begun line old mid new way.events one.events way.written one.written;
    }

    pub turn_over : (ledger' : Ledger) (after : RouterState) (new : Option (List ℕ)) (result : Result (Unit {0}) TurnFault) → Writes line Takes ledger' after mid new result
        → OnTurn (HasWritten line Tell ledger' after old new) (HasBegun line Tell old new) result
    turn_over ledger' after new (Ok done) p = turn_told ledger' after new p
    turn_over ledger' after new (Err fault) p = turn_begun new p
