-- What contracts see of the source of a lane: a classic capture, or any container with a choice.
use Rattle.std.specs.Prelude.{◌≡◌, ◌+◌, ◌*◌, ◌⊎◌, ⊤, ℕ, Bool, true, false, List, [], ◌∷◌, Option, None, Some, Result, Ok}
use Rattle.std.specs.Prelude.{Err, drop, length, ◌<◌, ◌≤◌, max, unwrap_or, vec_capacity, if◌then◌else◌}
use Rattle.std.specs.Option.{IfSome, option_map}
use Rattle.pim_capture.specs.declared.fault.CaptureFault.{CaptureFault}
use Rattle.pim_capture.specs.declared.fault.CaptureFault.TheVariants as fault
use Rattle.pim_capture.specs.declared.event.Event.{Event}
use Rattle.pim_capture.specs.declared.capture.CaptureState.{CaptureState}
use Rattle.pim_capture.specs.declared.capture.CaptureState.TheVariants.{Failed}
use Rattle.pim_capture.specs.declared.event.Event.TheVariants.{Packet, Skipped, End}
use Rattle.pim_capture.specs.declared.event.Why.TheVariants.{CutShort}
use Rattle.pim_capture.specs.Capture.{Answer, packet}
use Rattle.pim_capture.specs.Next as classic
use Rattle.pim_container.specs.Next as any
use Rattle.pim_container.specs.Room as pieces_room
use Rattle.pim_container.specs.Room.{Need, Exceeds}
use Rattle.pim_container.specs.declared.choice.Choice.{Choice}
use Rattle.pim_container.specs.declared.fault.ContainerFault.{ContainerFault}
use Rattle.pim_merge.specs.declared.chosen.Chosen.{Chosen}
use Rattle.pim_merge.specs.declared.source.Source.{Source}
use Rattle.pim_merge.specs.declared.source.Source.TheVariants.{Classic, Any}
use Rattle.pim_container.specs.Pieces as pieces
use Rattle.pim_container.specs.declared.event.ContainerEvent as piece
use Rattle.pim_container.specs.declared.event.ContainerEvent.TheVariants as piece_kind
use Rattle.pim_container.specs.EventSeen as of_any
use Rattle.pim_capture.specs.declared.link.Link.{Link}
use Rattle.pim_merge.specs.Taker.{TakerState, taker_of, asks_to_hold}
use Rattle.pim_merge.specs.Chosen.{chosen, next_files, all_known, all_failures, fault_of}

-- The results of the container that are left of the file that is read: these, or none if it ended
-- inside a piece.
abbrev pub unless_cut : Bool → Option (List pieces.Answer) → Option (List pieces.Answer)
unless_cut false all = all
unless_cut true all = Some []

-- What is left of the file that is read, if its bytes are known.
abbrev pub left_of_file : {R : Type 0} → (R → Option (List ℕ)) → Chosen R → Option (List pieces.Answer)
left_of_file remaining it = unless_cut it.is_cut (any.coming remaining it.reader)

-- The devices of the files after the one that is read.
abbrev pub later_of : {R : Type 0} → Chosen R → List R
later_of it = drop it.files_read it.others.items

-- The results for what is left of a file, and for the files after it, if both are known.
abbrev pub chosen_known : Bool → TakerState → Option (List pieces.Answer) → Option (List (List ℕ)) →
    Option (List Answer)
chosen_known begun state None files = None
chosen_known begun state (Some left) None = None
chosen_known begun state (Some left) (Some files) = Some (chosen (next_files files) begun state left)

-- The results that a container has to return for its choice, as long as it returned no fault, if
-- the bytes of its devices are known.
abbrev pub read_coming : {R : Type 0} → (R → Option (List ℕ)) → Chosen R → Option (List Answer)
read_coming remaining it =
    chosen_known it.is_begun it.taker (left_of_file remaining it) (all_known remaining (later_of it))

-- Nothing is left, where that is known.
abbrev pub none_left : Option (List pieces.Answer) → Option (List pieces.Answer)
none_left None = None
none_left (Some left) = Some []

-- The same at the end of the file that is read.
abbrev pub coming_at_end : {R : Type 0} → (R → Option (List ℕ)) → Chosen R → Option (List Answer)
coming_at_end remaining it =
    chosen_known it.is_begun it.taker (none_left (left_of_file remaining it)) (all_known remaining (later_of it))

-- A call returned a fault.
abbrev pub chosen_is_over : {R : Type 0} → Chosen R → Bool
chosen_is_over it = it.is_over

-- These results, unless a call returned a fault. Then each call returns `Failed`.
abbrev pub coming_unless : Bool → Option (List Answer) → Option (List Answer)
coming_unless false all = all
coming_unless true all = Some (Err fault.Failed ∷ [])

-- The results that a container has still to return for its choice, if they are known.
abbrev pub chosen_coming : {R : Type 0} → (R → Option (List ℕ)) → Chosen R → Option (List Answer)
chosen_coming remaining it = coming_unless (chosen_is_over it) (read_coming remaining it)

-- The count of failures of all its devices.
abbrev pub chosen_failures : {R : Type 0} → (R → ℕ) → Chosen R → ℕ
chosen_failures failures it = all_failures failures (any.device_of it.reader ∷ it.others.items)

-- 1 for the record inside which the file may end, unless it has ended so.
abbrev pub cut_left : Bool → ℕ
cut_left false = 1
cut_left true = 0

-- 1 for a link that isn't reported.
abbrev pub link_left : Option Link → ℕ
link_left None = 0
link_left (Some link) = 1

-- The number of reports that aren't made.
abbrev pub reports_left : TakerState → ℕ
reports_left state = link_left state.link_of_packet + (if state.is_reported then 0 else 1)

-- The number of results that may still come: three for each piece that may still be read. A further
-- file has 4294967296 pieces, one result for a record inside which it ends, and one for its
-- beginning.
abbrev pub chosen_left : {R : Type 0} → Chosen R → ℕ
chosen_left it = any.pieces_left (any.state_of it.reader) * 3 + cut_left it.is_cut + reports_left it.taker
    + length (later_of it) * 12884901890

-- ---- either

-- The results that a source has still to return, if they are known.
abbrev pub coming : {R : Type 0} → (R → Option (List ℕ)) → Source R → Option (List Answer)
coming remaining (Classic capture) = classic.coming remaining capture
coming remaining (Any it) = chosen_coming remaining it

-- The reader's count of failures.
abbrev pub failures_in : {R : Type 0} → (R → ℕ) → Source R → ℕ
failures_in failures (Classic capture) = failures (classic.reader_of capture)
failures_in failures (Any it) = chosen_failures failures it

-- A call of a classic capture returned a fault.
abbrev pub has_failed : CaptureState → Bool
has_failed Failed = true
has_failed _ = false

-- A call of the source returned a fault.
abbrev pub is_over_in : {R : Type 0} → Source R → Bool
is_over_in (Classic capture) = has_failed (classic.state_of capture)
is_over_in (Any it) = chosen_is_over it

-- After a fault a call returns `Failed`.
abbrev pub IsRepeatedIf : {A : Type 0} → Bool → Result A CaptureFault → Type 0
IsRepeatedIf false result = ⊤
IsRepeatedIf true result = result ≡ Err fault.Failed

-- The number of records or pieces that may still be read.
abbrev pub left_in : {R : Type 0} → Source R → ℕ
left_in (Classic capture) = classic.records_left (classic.state_of capture)
left_in (Any it) = chosen_left it

-- Whether pieces are passed over.
abbrev pub passes_over : {R : Type 0} → Source R → Bool
passes_over (Classic capture) = false
passes_over (Any it) = true

-- The capacity of the buffer of a classic capture.
abbrev pub room_in : {R : Type 0} → Source R → ℕ → ℕ
room_in (Classic capture) capacity = capacity
room_in (Any it) capacity = 0

-- ---- the memory of any container

-- The capacity of the buffer of pieces.
abbrev pub piece_capacity : {R : Type 0} → Chosen R → ℕ
piece_capacity it = vec_capacity it.piece

-- How many interfaces the list of the section has room for.
abbrev pub places : {R : Type 0} → Chosen R → ℕ
places it = pieces_room.list_room it.reader

-- These needs, unless nothing more is read of the file.
abbrev pub needs_unless : Bool → Option (List Need) → Option (List Need)
needs_unless false needs = needs
needs_unless true needs = Some []

-- What the pieces up to the next record need, as long as no call returned a fault.
abbrev pub read_needs : {R : Type 0} → (R → Option (List ℕ)) → Chosen R → Option (List Need)
read_needs remaining it = needs_unless it.is_cut (pieces_room.needs_of remaining it.reader)

-- What the pieces up to the next record need.
abbrev pub chosen_needs : {R : Type 0} → (R → Option (List ℕ)) → Chosen R → Option (List Need)
chosen_needs remaining it = needs_unless (chosen_is_over it) (read_needs remaining it)

-- One of these pieces needs more than this capacity of the buffer of pieces, or this room of the
-- list.
unfoldable pub SomeExceeds : ℕ → ℕ → List Need → Type 0
SomeExceeds capacity room [] = ⊥
SomeExceeds capacity room (need ∷ needs) = Exceeds capacity room need ⊎ SomeExceeds capacity room needs

-- The answer is a packet with more bytes than this.
abbrev pub IsLonger : ℕ → Option Answer → Type 0
IsLonger room (Some (Ok (packet millis bytes datagram))) = room < length bytes
IsLonger room _ = ⊥

-- The first of these answers, if there is one.
abbrev pub first_answer : List Answer → Option Answer
first_answer [] = None
first_answer (answer ∷ later) = Some answer

-- For the first record of a container room is asked for to hold it as a fragment, where this is the
-- first result of the container, and this says so of the others.
abbrev pub held_first : TakerState → pieces.Answer → Bool → Bool
held_first state (Ok (of_any.fragment millis origin datagram part)) later =
    asks_to_hold state (of_any.fragment millis origin datagram part)
held_first state (Ok of_any.section) later = later
held_first state (Ok (of_any.described name)) later = later
held_first state (Ok of_any.passed) later = later
held_first state _ later = false

-- For the first record among these results of a container room is asked for to hold it.
unfoldable pub begins_with_held : TakerState → List pieces.Answer → Bool
begins_with_held state [] = false
begins_with_held state (answer ∷ later) = held_first state answer (begins_with_held state later)

-- For the next record room is asked for to hold it, if that is known, as long as no call returned a
-- fault.
abbrev pub read_held : {R : Type 0} → (R → Option (List ℕ)) → Chosen R → Option Bool
read_held remaining it = option_map (begins_with_held it.taker) (left_of_file remaining it)

-- This, unless a call returned a fault.
abbrev pub held_unless : Bool → Option Bool → Option Bool
held_unless false held = held
held_unless true held = Some false

-- For the next record room is asked for to hold it, if that is known.
abbrev pub chosen_held : {R : Type 0} → (R → Option (List ℕ)) → Chosen R → Option Bool
chosen_held remaining it = held_unless (chosen_is_over it) (read_held remaining it)

-- It stays known whether room is asked for to hold the next record.
abbrev pub StaysHeld : Option Bool → Option Bool → Type 0
StaysHeld old new = IfSome old (λ it. new ≡ Some it)

-- What memory is asked for up to the next record: room for the bytes of the record, room for a
-- piece, a place for an interface, or room to hold a fragment that is taken. It says nothing if the bytes of the
-- devices aren't known.
abbrev pub Allocates : ℕ → ℕ → ℕ → Option (List Answer) → Option (List Need) → Option Bool → Type 0
Allocates bytes capacity room all needs held =
    IfSome all (λ answers. IsLonger bytes (first_answer answers)) ⊎ IfSome needs (SomeExceeds capacity room)
    ⊎ IfSome held (λ it. it ≡ true)

-- The same of any container.
abbrev pub ChosenAllocates : {R : Type 0} → (R → Option (List ℕ)) → ℕ → Chosen R → Type 0
ChosenAllocates remaining room it = Allocates room (piece_capacity it) (places it) (chosen_coming remaining it)
    (chosen_needs remaining it) (chosen_held remaining it)

-- The same, as long as no call returned a fault.
abbrev pub ReadAllocates : {R : Type 0} → (R → Option (List ℕ)) → ℕ → Chosen R → Type 0
ReadAllocates remaining room it = Allocates room (piece_capacity it) (places it) (read_coming remaining it)
    (read_needs remaining it) (read_held remaining it)

-- The needs of the pieces after the first are left.
abbrev pub PassesNeeds : Option (List Need) → Option (List Need) → Type 0
PassesNeeds old new = IfSome old (λ needs. new ≡ Some (drop 1 needs))

-- The length of the longest of these pieces.
unfoldable pub longest : List Need → ℕ
longest [] = 0
longest (need ∷ needs) = max (unwrap_or need.size 0) (longest needs)

-- The capacity of the buffer of pieces grows to the longest of these pieces at most.
abbrev pub GrowsWithin : ℕ → ℕ → Option (List Need) → Type 0
GrowsWithin old new needs = IfSome needs (λ all. new ≤ max old (longest all))

-- The captured length of the next record of a classic capture, if it is known.
abbrev pub size_in : {R : Type 0} → (R → Option (List ℕ)) → Source R → Option (Option ℕ)
size_in remaining (Classic capture) = classic.next_length remaining capture
size_in remaining (Any it) = None

-- What is held of any container from one record to the next, and what its pieces need up to that.
pub record Store : Type 0 where
  -- the capacity of the buffer of records
  pub record_room : ℕ
  -- the capacity of the buffer of pieces
  pub piece_room : ℕ
  -- how many interfaces the list of the section has room for
  pub list_room : ℕ
  -- what the pieces up to the next record need, if the bytes of the devices are known
  pub needs : Option (List Need)
  -- whether room is asked for to hold the next record, if the bytes of the devices are known
  pub held : Option Bool

-- The same before anything was read, with these needs and this first record.
abbrev pub begun_store : Option (List Need) → Option Bool → Store
begun_store needs held =
    record { record_room = 0; piece_room = 0; list_room = 0; needs = needs; held = held }

-- Whether room is asked for to hold the first record of a file with these bytes, by this choice.
abbrev pub first_held : Choice → Option (List ℕ) → Option Bool
first_held choice bytes = option_map (λ it. begins_with_held (taker_of choice) (pieces.answers it)) bytes

-- The same of a source whose buffer of records has this capacity. A classic capture has no pieces.
abbrev pub store_in : {R : Type 0} → (R → Option (List ℕ)) → Source R → ℕ → Store
store_in remaining (Classic capture) capacity =
    record { record_room = capacity; piece_room = 0; list_room = 0; needs = Some []; held = Some false }
store_in remaining (Any it) capacity = record {
  record_room = capacity;
  piece_room = piece_capacity it;
  list_room = places it;
  needs = chosen_needs remaining it;
  held = chosen_held remaining it;
}

-- Any container that has these results to return asks for memory up to its next record. Of a
-- classic capture nothing is said.
abbrev pub AllocatesIf : Bool → Option (List Answer) → Store → Type 0
AllocatesIf false all store = ⊤
AllocatesIf true all store =
    Allocates store.record_room store.piece_room store.list_room all store.needs store.held

-- All records that are read of a capture were read before. Of one that passes over pieces nothing
-- is said.
abbrev pub HadAllIf : Bool → ℕ → Type 0
HadAllIf false left = left ≡ 0
HadAllIf true left = ⊤

-- 1 for a record, else 0.
abbrev pub count_of : Result Event CaptureFault → ℕ
count_of (Ok (Packet millis ip)) = 1
count_of (Ok (Skipped millis why)) = 1
count_of (Ok End) = 0
count_of (Err fault) = 0

-- ---- one piece of a container

-- The result is what a result of the container gives, or memory was refused.
abbrev pub IsGiven : Option Answer → List ℕ → Result (Option Event) CaptureFault → Type 0
IsGiven given bytes (Ok None) = given ≡ None
IsGiven given bytes (Ok (Some event)) = given ≡ Some (Ok (classic.event_seen bytes event))
IsGiven given bytes (Err fault.Memory) = ⊤
IsGiven given bytes (Err fault) = given ≡ Some (Err fault)

-- The same results are still to come, if they were known.
abbrev pub StaysComing : Option (List Answer) → Option (List Answer) → Type 0
StaysComing all later = IfSome all (λ it. later ≡ Some it)

-- A step gave the first of the results to come, or none of them, and leaves the others. Or a read
-- failed, or memory was refused.
abbrev pub Steps : ℕ → ℕ → Option (List Answer) → Option (List Answer) → List ℕ →
    Result (Option Event) CaptureFault → Type 0
Steps failures failures' all later bytes (Ok None) = StaysComing all later
Steps failures failures' all later bytes (Ok (Some event)) =
    classic.IsNext all (Ok (classic.event_seen bytes event)) later
Steps failures failures' all later bytes (Err fault) =
    classic.IsRefusal {A = ⊤} failures failures' (Err fault) ⊎ classic.IsNext all (Err fault) later

-- 1 for a piece, 0 for the end and for a fault.
abbrev pub step_count : Result (Option Event) CaptureFault → ℕ
step_count (Ok None) = 1
step_count (Ok (Some End)) = 0
step_count (Ok (Some event)) = 1
step_count (Err fault) = 0

-- The event is the end of the file.
abbrev pub is_end : piece.ContainerEvent → Bool
is_end piece_kind.End = true
is_end _ = false

-- ---- a fault of a container

-- What a call returns for a fault of the container: a record that is skipped, if the file is cut.
abbrev pub failed : Bool → ContainerFault → Result (Option Event) CaptureFault
failed true fault = Ok (Some (Skipped 0 CutShort))
failed false fault = Err (fault_of fault)
