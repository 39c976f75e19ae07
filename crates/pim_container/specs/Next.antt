-- What a call of `Reader::next` returns, and what the reader has still to return after it.
use Rattle.std.specs.Prelude.{◌≡◌, ◌+◌, ◌<◌, ◌≤◌, min, ℕ, List, [], ◌∷◌, ◌++◌, length, take, drop, Option, Some, None}
use Rattle.std.specs.Prelude.{Result, Ok, Err, true, false, ⊤, ◌⊎◌}
use Rattle.std.specs.Option.{option_map}
use Rattle.std.specs.Io.KnownBytes.{Consumes}
use Rattle.pim_device.specs.Device.{FailedIn, top_count}
use Rattle.pim_container.specs.declared.link.BlockEndianness.TheVariants.{Big}
use Rattle.pim_container.specs.declared.fault.ContainerFault.{ContainerFault}
use Rattle.pim_container.specs.declared.fault.ContainerFault.TheVariants as fault
use Rattle.pim_container.specs.declared.event.ContainerEvent.{ContainerEvent}
use Rattle.pim_container.specs.declared.event.ContainerEvent.TheVariants as event
use Rattle.pim_container.specs.declared.interface.Interface.{Interface}
use Rattle.pim_container.specs.declared.classic.ClassicFormat.{ClassicFormat}
use Rattle.pim_container.specs.declared.container.Container.{Container}
use Rattle.pim_container.specs.declared.container.Container.TheVariants.{Classic, Blocks}
use Rattle.pim_container.specs.declared.piece.FoundPiece.{FoundPiece}
use Rattle.pim_container.specs.declared.reader.ReaderStep.{ReaderStep}
use Rattle.pim_container.specs.declared.reader.ReaderState.{ReaderState}
use Rattle.pim_container.specs.declared.reader.ReaderState.TheVariants.{Unbegun, Pieces, Ended, Failed}
use Rattle.pim_container.specs.declared.reader.Reader.{Reader}
use Rattle.pim_container.specs.EventSeen.{ended, event_seen}
use Rattle.pim_container.specs.Block.{block_type, least_block, most_block, is_section}
use Rattle.pim_container.specs.Pieces.{Answer, answers, pieces, judge_beginning, judge_piece, head_of, piece_of, after_piece}
use Rattle.pim_container.specs.Pieces.{container_after, interfaces_after, piece_length}

-- What the result of a call means if the buffer holds these bytes.
abbrev pub seen : List ℕ → Result ContainerEvent ContainerFault → Answer
seen bytes (Ok event) = Ok (event_seen bytes event)
seen bytes (Err fault) = Err fault

-- The results that a reader in this state, with these interfaces, has still to return for these
-- bytes.
abbrev pub answers_in : ReaderState → List Interface → List ℕ → List Answer
answers_in Unbegun interfaces bytes = answers bytes
answers_in (Pieces container left) interfaces bytes = pieces left container interfaces bytes
answers_in Ended interfaces bytes = Ok ended ∷ []
answers_in Failed interfaces bytes = Err fault.Failed ∷ []

-- How far a file was read.
abbrev pub state_of : {R : Type 0} → Reader R → ReaderState
state_of reader = reader.state

-- The device that is read.
abbrev pub device_of : {R : Type 0} → Reader R → R
device_of reader = reader.device

-- The results that a reader has still to return, or `None` if the bytes of its device aren't known.
abbrev pub coming : {R : Type 0} → (R → Option (List ℕ)) → Reader R → Option (List Answer)
coming remaining reader =
    option_map (answers_in reader.state reader.interfaces.items) (remaining reader.device)

-- This result and the later ones. No results follow the end or a fault.
abbrev pub in_front : Answer → List Answer → List Answer
in_front (Ok ended) later = Ok ended ∷ []
in_front (Ok reported) later = Ok reported ∷ later
in_front (Err fault) later = Err fault ∷ []

-- The result was the first of those to come, and the others are still to come. It says nothing if
-- the bytes weren't known.
abbrev pub IsNext : Option (List Answer) → Answer → Option (List Answer) → Type 0
IsNext None answer later = ⊤
IsNext (Some all) answer None = ⊥
IsNext (Some all) answer (Some later) = all ≡ in_front answer later

-- A result that the bytes don't determine: a read failed in this call, or memory was refused.
abbrev pub IsRefusal : {A : Type 0} → ℕ → ℕ → Result A ContainerFault → Type 0
IsRefusal failures failures' (Ok value) = ⊥
IsRefusal failures failures' (Err fault.Read) = FailedIn failures failures'
IsRefusal failures failures' (Err fault.Memory) = ⊤
IsRefusal failures failures' (Err _) = ⊥

-- ---- the parts of a call

-- A fault of the bytes, not of the device or the memory.
abbrev pub IsOfBytes : ContainerFault → Type 0
IsOfBytes fault.Read = ⊥
IsOfBytes fault.Memory = ⊥
IsOfBytes _ = ⊤

-- A whole piece: it is as long as its head at least, and a block within the limit.
abbrev pub IsPiece : Container → List ℕ → Type 0
IsPiece (Classic format) piece = 16 ≤ length piece
IsPiece (Blocks order) piece = (least_block (block_type order piece) ≤ length piece) × (length piece ≤ most_block)

-- The bytes of a device behind a head that was read of it.
abbrev pub behind : List ℕ → Option (List ℕ) → Option (List ℕ)
behind head bytes = option_map (λ rest. head ++ rest) bytes

-- A buffer holds a head and the bytes that were read after it, `size` in all. Err means that fewer
-- were left (Truncated), that a read failed, or that memory was refused.
abbrev pub FillsAfter : List ℕ → ℕ → Option (List ℕ) → Option (List ℕ) → List ℕ → Result (Unit {0}) ContainerFault → Type 0
FillsAfter head size old new bytes (Ok _) =
    (length bytes ≡ size) × (take (length head) bytes ≡ head) × Consumes (behind head old) new bytes
FillsAfter head size None new bytes (Err _) = ⊤
FillsAfter head size (Some xs) None bytes (Err _) = ⊥
FillsAfter head size (Some xs) (Some ys) bytes (Err fault.Truncated) = length (head ++ xs) < size
FillsAfter head size (Some xs) (Some ys) bytes (Err fault.Read) = ⊤
FillsAfter head size (Some xs) (Some ys) bytes (Err fault.Memory) = ⊤
FillsAfter head size (Some xs) (Some ys) bytes (Err _) = ⊥

-- The beginning of a classic file was taken: Ok means that it has this format. A fault other than a
-- failed read and refused memory is that of the beginning.
abbrev pub BeginsClassic : Option (List ℕ) → Option (List ℕ) → Result ClassicFormat ContainerFault → Type 0
BeginsClassic None new answer = ⊤
BeginsClassic (Some xs) None answer = ⊥
BeginsClassic (Some xs) (Some ys) (Ok format) = (judge_beginning xs ≡ Ok format) × (ys ≡ drop 24 xs)
BeginsClassic (Some xs) (Some ys) (Err fault.Read) = ⊤
BeginsClassic (Some xs) (Some ys) (Err fault.Memory) = ⊤
BeginsClassic (Some xs) (Some ys) (Err fault) = judge_beginning xs ≡ Err fault

-- The first piece of known bytes was taken and gives this; a fault other than a failed read and
-- refused memory is that of the piece.
abbrev pub TakesPiece : Container → List Interface → Option (List ℕ) → Option (List ℕ) → List Interface → List ℕ → Result FoundPiece ContainerFault → Type 0
TakesPiece container interfaces None new interfaces' bytes answer = ⊤
TakesPiece container interfaces (Some xs) None interfaces' bytes answer = ⊥
TakesPiece container interfaces (Some xs) (Some ys) interfaces' bytes (Ok found) =
    (judge_piece container interfaces xs ≡ Ok (event_seen bytes found.event))
    × (found.container ≡ container_after container (head_of container xs))
    × (interfaces' ≡ interfaces_after found.container interfaces (piece_of container xs))
    × (ys ≡ after_piece container xs)
TakesPiece container interfaces (Some xs) (Some ys) interfaces' bytes (Err fault.Read) = ⊤
TakesPiece container interfaces (Some xs) (Some ys) interfaces' bytes (Err fault.Memory) = ⊤
TakesPiece container interfaces (Some xs) (Some ys) interfaces' bytes (Err fault) =
    judge_piece container interfaces xs ≡ Err fault

-- The device's count of failures rises by one, up to its top, where the call returns `Read` for a
-- failed read, and stays otherwise. `Read` without a failed read has the cause `other`.
abbrev pub CountsReads : {A : Type 0} → Type 0 → ℕ → ℕ → Result A ContainerFault → Type 0
CountsReads other failures failures' (Err fault.Read) =
    (failures' ≡ min (failures + 1) top_count) ⊎ (other × (failures' ≡ failures))
CountsReads other failures failures' _ = failures' ≡ failures

-- A step was the first of the results to come, and leaves the others.
abbrev pub Reads : ℕ → ℕ → Option (List Answer) → Option (List ℕ) → List Interface → List ℕ → Result ReaderStep ContainerFault → Type 0
Reads failures failures' all remaining interfaces bytes (Ok step) =
    IsNext all (Ok (event_seen bytes step.event)) (option_map (answers_in step.state interfaces) remaining)
Reads failures failures' all remaining interfaces bytes (Err fault) =
    IsRefusal {A = ReaderStep} failures failures' (Err fault)
    ⊎ IsNext all (Err fault) (option_map (answers_in Failed interfaces) remaining)

-- ---- refused memory

-- The fact holds if the result is `Memory`.
abbrev pub OnMemory : {A : Type 0} → Result A ContainerFault → Type 0 → Type 0
OnMemory (Err fault.Memory) fact = fact
OnMemory _ fact = ⊤

-- A piece describes an interface, which is added to a list.
abbrev pub Describes : Container → List ℕ → Type 0
Describes (Classic format) piece = ⊥
Describes (Blocks order) piece = block_type order piece ≡ 1

-- What the first piece needs memory for, where the buffer has this capacity: it is longer, or it
-- describes an interface.
abbrev pub NeedsMemory : ℕ → Container → List ℕ → Type 0
NeedsMemory capacity container bytes =
    (capacity < piece_length container (head_of container bytes))
    ⊎ Describes (container_after container (head_of container bytes)) (piece_of container bytes)

-- What the beginning of a file needs memory for: the first section header, or a file header of 24
-- bytes.
abbrev pub NeedsToBegin : ℕ → List ℕ → Type 0
NeedsToBegin capacity bytes =
    ((is_section bytes ≡ true) × NeedsMemory capacity (Blocks Big) bytes)
    ⊎ ((is_section bytes ≡ false) × (capacity < 24))

-- What the next call needs memory for in this state.
abbrev pub NeedsNext : ℕ → ReaderState → List ℕ → Type 0
NeedsNext capacity Unbegun bytes = NeedsToBegin capacity bytes
NeedsNext capacity (Pieces container left) bytes = NeedsMemory capacity container bytes
NeedsNext capacity Ended bytes = ⊥
NeedsNext capacity Failed bytes = ⊥

-- ---- after the last result

-- After the end a call returns the end, and after a fault it returns `Failed`.
abbrev pub IsRepeated : ReaderState → Result ContainerEvent ContainerFault → Type 0
IsRepeated Ended answer = answer ≡ Ok event.End
IsRepeated Failed answer = answer ≡ Err fault.Failed
IsRepeated _ answer = ⊤

-- The end leaves the reader ended, and a fault leaves it failed.
abbrev pub StaysOver : Result ContainerEvent ContainerFault → ReaderState → Type 0
StaysOver (Ok event.End) state = state ≡ Ended
StaysOver (Err fault) state = state ≡ Failed
StaysOver (Ok _) state = ⊤

-- The number of events before the end that may still be returned in this state.
abbrev pub pieces_left : ReaderState → ℕ
pieces_left Unbegun = 4294967296
pieces_left (Pieces container left) = left
pieces_left Ended = 0
pieces_left Failed = 0
