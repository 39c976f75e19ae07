-- What contracts see of the captures of a merge.
use Rattle.std.specs.Prelude.{◌≡◌, ◌⊎◌, ℕ, ◌+◌, max, Bool, true, false, List, [], ◌∷◌, length, map, take}
use Rattle.std.specs.Prelude.{Option, None, Some, Ok, IsSome, slice_index_or, slice_set, Result, Err}
use Rattle.std.specs.Option.{option_map}
use Rattle.std.specs.List.{AllByRecursion}
use Rattle.pim_addr.specs.declared.family.AddressFamily.{AddressFamily}
use Rattle.pim_capture.specs.declared.event.Event.{Event}
use Rattle.pim_capture.specs.declared.fault.CaptureFault.{CaptureFault}
use Rattle.pim_capture.specs.declared.fault.CaptureFault.TheVariants as fault
use Rattle.pim_capture.specs.Capture.{EventSeen, packet, skipped, ended, Answer}
use Rattle.pim_capture.specs.Next.{event_seen, in_front, LacksRoom}
use Rattle.pim_merge.specs.declared.source.Source.{Source}
use Rattle.pim_merge.specs.Source.{coming, failures_in, left_in, passes_over, room_in, size_in}
use Rattle.pim_merge.specs.Source.{is_over_in, HadAllIf, Store, begun_store, store_in, AllocatesIf, GrowsWithin}
use Rattle.pim_merge.specs.Merge.{event_time, event_rank}
use Rattle.pim_merge.specs.declared.tally.Tally.{Tally}
use Rattle.pim_merge.specs.Tally.{no_tally, tally_taken, census_begun}

-- A capture of a merge.
pub record LaneState : Type 0 where
  -- what its next record holds, or that it is at its end, if that was read
  pub head : Option EventSeen
  -- the results that it has to return after the head, if the bytes of its reader are known
  pub behind : Option (List Answer)
  -- the reader's count of failures
  pub failures : ℕ
  -- the number of records that may still be read, or of pieces of any container
  pub left : ℕ
  -- whether it passes over pieces that are no records, as any container
  pub passes : Bool
  -- the bytes of the record that was read last
  pub bytes : List ℕ
  -- the number of bytes that its buffer holds without new memory; of any container 0, since
  -- `store` has it
  pub room : ℕ
  -- whether a call returned a fault
  pub is_over : Bool
  -- the captured length of the record that is read next, where the bytes of its reader are known;
  -- `Some None` if none is read next, and `None` for any container
  pub size : Option (Option ℕ)
  -- what is held of any container, and what its pieces need up to its next record
  pub store : Store
  -- what was taken of it
  pub tally : Tally

-- What contracts see of a source, its head, the bytes and the capacity of its buffer, and its
-- tally.
abbrev pub lane_seen : {R : Type 0} → (R → Option (List ℕ)) → (R → ℕ) → Source R → Option Event
    → List ℕ → ℕ → Tally → LaneState
lane_seen remaining failures source head bytes capacity tally = record {
  head = option_map (event_seen bytes) head;
  behind = coming remaining source;
  failures = failures_in failures source;
  left = left_in source;
  passes = passes_over source;
  bytes = bytes;
  room = room_in source capacity;
  is_over = is_over_in source;
  size = size_in remaining source;
  store = store_in remaining source capacity;
  tally = tally;
}

-- ---- the results to come, the head first

-- The results that a capture has still to return, with its head in front if it was read.
abbrev pub with_head : Option EventSeen → Option (List Answer) → Option (List Answer)
with_head None behind = behind
with_head (Some reported) behind = option_map (in_front (Ok reported)) behind

-- The results that a capture has still to return, whether its head was read or not. `None` if the
-- bytes of its reader aren't known.
abbrev pub coming_on : LaneState → Option (List Answer)
coming_on lane = with_head lane.head lane.behind

-- These are the lists of results that the captures have still to return. The bytes of all their
-- readers are known.
abbrev pub IsComing : List LaneState → List (List Answer) → Type 0
IsComing lanes captures = map coming_on lanes ≡ map Some captures

-- The capture after its head was taken. The tally counts it.
abbrev pub without_head : LaneState → LaneState
without_head lane = record {
  head = None;
  behind = lane.behind;
  failures = lane.failures;
  left = lane.left;
  passes = lane.passes;
  bytes = lane.bytes;
  room = lane.room;
  is_over = lane.is_over;
  size = lane.size;
  store = lane.store;
  tally = tally_taken lane.tally lane.head;
}

-- The capture with a census of messages of this family for a router with this address, in which
-- nothing was counted.
abbrev pub with_census : AddressFamily → List ℕ → LaneState → LaneState
with_census family own lane = record lane { tally = census_begun family own lane.tally }

-- The head of the capture was read.
abbrev pub IsLooked : LaneState → Type 0
IsLooked lane = IsSome lane.head

-- The capture returned a fault in place of its head.
abbrev pub HasFailed : LaneState → Type 0
HasFailed lane = (lane.head ≡ None) × (lane.is_over ≡ true)

-- The result of a call for the head is `Failed`.
abbrev pub IsFailedHead : {A : Type 0} → Result A CaptureFault → Type 0
IsFailedHead (Ok value) = ⊥
IsFailedHead (Err reported) = reported ≡ fault.Failed

-- All records that are read of a capture were read before. Of any container nothing is said.
abbrev pub HadAll : LaneState → Type 0
HadAll lane = HadAllIf lane.passes lane.left

-- The head of the capture wasn't read, and its buffer has less room than that record needs. Any
-- container has less room for the record, for a piece up to it, or for an interface described
-- there; or the record is a fragment that is taken, and it asks for room to hold that.
abbrev pub LacksHeadRoom : LaneState → Type 0
LacksHeadRoom lane =
    (lane.head ≡ None) × LacksRoom lane.room lane.size × AllocatesIf lane.passes lane.behind lane.store

-- The buffer of the capture keeps its capacity, or that grows to exactly the bytes in it. The
-- buffer of pieces grows to the longest piece up to the next record at most.
abbrev pub KeepsRoom : LaneState → LaneState → Type 0
KeepsRoom old new =
    ((new.room ≡ old.room) ⊎ (new.room ≡ max old.room (length new.bytes)))
    × GrowsWithin old.store.piece_room new.store.piece_room old.store.needs

-- The rank by which a head is taken, if it was read and is a record, where `past` says which times
-- are later than the end.
abbrev pub rank_at : (ℕ → Bool) → Option EventSeen → Option ℕ
rank_at past None = None
rank_at past (Some reported) = event_rank past reported

-- The same of the head of a capture.
abbrev pub head_rank : (ℕ → Bool) → LaneState → Option ℕ
head_rank past lane = rank_at past lane.head

-- The time of a head, if it was read and has one.
abbrev pub time_at : Option EventSeen → Option ℕ
time_at None = None
time_at (Some reported) = event_time reported

-- The time of the head of a capture, if it was read and has one.
abbrev pub head_time : LaneState → Option ℕ
head_time lane = time_at lane.head

-- ---- the number of records that may still be taken

-- 1 for a head that is a record, else 0.
abbrev pub counted : Option EventSeen → ℕ
counted None = 0
counted (Some (packet millis frame datagram)) = 1
counted (Some (skipped millis why)) = 1
counted (Some ended) = 0

-- The number of records that may still be taken of a capture.
abbrev pub lane_left : LaneState → ℕ
lane_left lane = lane.left + counted lane.head

-- The number of records that may still be taken of all captures.
unfoldable pub records_to_come : List LaneState → ℕ
records_to_come [] = 0
records_to_come (lane ∷ lanes) = lane_left lane + records_to_come lanes

-- ---- a capture by its number

-- The state that `lane_at` gives for a number without a capture: no record is read next.
abbrev pub no_lane : LaneState
no_lane = record {
  head = None;
  behind = None;
  failures = 0;
  left = 0;
  passes = false;
  bytes = [];
  room = 0;
  is_over = false;
  size = Some None;
  store = begun_store (Some []) (Some false);
  tally = no_tally;
}

-- The capture with this number.
abbrev pub lane_at : ℕ → List LaneState → LaneState
lane_at number lanes = slice_index_or lanes number no_lane

-- The captures where a census of the one with this number has begun.
abbrev pub census_at : AddressFamily → List ℕ → ℕ → List LaneState → List LaneState
census_at family own number lanes = slice_set lanes number (with_census family own (lane_at number lanes))

-- The capture with this number returned a fault in place of its head, after the heads of those
-- before it were read.
abbrev pub FailsAt : ℕ → List LaneState → Type 0
FailsAt number lanes = AllByRecursion IsLooked (take number lanes) × HasFailed (lane_at number lanes)

-- The count of failures of each capture's reader.
abbrev pub failures_of : List LaneState → List ℕ
failures_of lanes = map (λ (lane : LaneState). lane.failures) lanes

-- The capacity of each capture's buffer.
abbrev pub rooms_of : List LaneState → List ℕ
rooms_of lanes = map (λ (lane : LaneState). lane.room) lanes

-- The captured length of the record that is read next of each capture.
abbrev pub sizes_of : List LaneState → List (Option (Option ℕ))
sizes_of lanes = map (λ (lane : LaneState). lane.size) lanes

-- What each capture holds of any container, and what its pieces need up to its next record.
abbrev pub stores_of : List LaneState → List Store
stores_of lanes = map (λ (lane : LaneState). lane.store) lanes

-- What was taken of each capture.
abbrev pub tallies_of : List LaneState → List Tally
tallies_of lanes = map (λ (lane : LaneState). lane.tally) lanes

-- Each buffer keeps its capacity, or that grows to exactly the bytes in it.
abbrev pub KeepRooms : List LaneState → List LaneState → Type 0
KeepRooms old new = (number : ℕ) → KeepsRoom (lane_at number old) (lane_at number new)
