-- The results of a capture as a function of the bytes of its file, for both containers. They are a
-- list whose last item is the end or a fault. A piece is a record of a classic file or a block of a
-- pcapng file.
use Rattle.std.specs.Prelude.{ℕ, zero, suc, ◌+◌, Bool, true, false, List, [], ◌∷◌, ◌++◌, length, take, drop, nat_lt}
use Rattle.std.specs.Prelude.{Result, Ok, Err, if◌then◌else◌}
use Rattle.pim_addr.specs.Faults.{fault_if}
use Rattle.pim_capture.specs.Capture.{most_records}
use Rattle.pim_container.specs.declared.link.BlockEndianness.TheVariants.{Big}
use Rattle.pim_container.specs.declared.fault.ContainerFault.{ContainerFault}
use Rattle.pim_container.specs.declared.fault.ContainerFault.TheVariants as fault
use Rattle.pim_container.specs.declared.interface.Interface.{Interface}
use Rattle.pim_container.specs.declared.classic.ClassicFormat.{ClassicFormat}
use Rattle.pim_container.specs.declared.container.Container.{Container}
use Rattle.pim_container.specs.declared.container.Extent.{Extent}
use Rattle.pim_container.specs.declared.container.Container.TheVariants.{Classic, Blocks}
use Rattle.pim_container.specs.EventSeen.{EventSeen, section, ended}
use Rattle.pim_container.specs.Block as block
use Rattle.pim_container.specs.Classic as classic

-- The length of the head of a piece, in bytes.
abbrev pub head_length : Container → ℕ
head_length (Classic format) = 16
head_length (Blocks order) = 12

-- The length of the piece with this head.
abbrev pub piece_length : Container → List ℕ → ℕ
piece_length (Classic format) head = 16 + classic.captured_length format head
piece_length (Blocks order) head = block.block_length (block.order_of order head) head

-- What is wrong with the head of a piece.
abbrev pub head_faults : Container → List ℕ → List ContainerFault
head_faults (Classic format) head = classic.head_faults format head
head_faults (Blocks order) head = block.head_faults order head

-- The container after the piece with this head: a section header changes its byte order.
abbrev pub container_after : Container → List ℕ → Container
container_after (Classic format) head = Classic format
container_after (Blocks order) head = Blocks (block.order_of order head)

-- What the head of a piece says.
abbrev pub extent_of : Container → List ℕ → Extent
extent_of container head =
    record { container = container_after container head; length = piece_length container head }

-- What a whole piece gives, in a container in whose byte order it is written.
abbrev pub piece_event : Container → List Interface → List ℕ → Result EventSeen ContainerFault
piece_event (Classic format) interfaces piece = Ok (classic.record_event format piece)
piece_event (Blocks order) interfaces piece = block.block_event order interfaces piece

-- The interfaces that are described after a piece.
abbrev pub interfaces_after : Container → List Interface → List ℕ → List Interface
interfaces_after (Classic format) interfaces piece = interfaces
interfaces_after (Blocks order) interfaces piece = block.interfaces_after order interfaces piece

-- ---- one piece after the other

-- One result of a capture.
abbrev pub Answer : Type 0
Answer = Result EventSeen ContainerFault

-- The head of the first piece, as far as it is there.
abbrev pub head_of : Container → List ℕ → List ℕ
head_of container bytes = take (head_length container) bytes

-- The first piece, as far as it is there.
abbrev pub piece_of : Container → List ℕ → List ℕ
piece_of container bytes = take (piece_length container (head_of container bytes)) bytes

-- The bytes after the first piece.
abbrev pub after_piece : Container → List ℕ → List ℕ
after_piece container bytes = drop (piece_length container (head_of container bytes)) bytes

-- What is wrong with the extent of the first piece: its head isn't whole; the head; or its bytes
-- aren't whole. The first fault counts.
abbrev pub piece_faults : Container → List ℕ → List ContainerFault
piece_faults container bytes =
    if nat_lt (length bytes) (head_length container) then fault.Truncated ∷ [] else
    head_faults container (head_of container bytes)
    ++ fault_if (nat_lt (length bytes) (piece_length container (head_of container bytes))) fault.Truncated

-- The first fault, or this result where there is none.
abbrev pub unless_faults : {A : Type 0} → List ContainerFault → Result A ContainerFault → Result A ContainerFault
unless_faults [] result = result
unless_faults (fault ∷ others) result = Err fault

-- What the first piece gives.
abbrev pub judge_piece : Container → List Interface → List ℕ → Answer
judge_piece container interfaces bytes =
    unless_faults (piece_faults container bytes)
    (piece_event (container_after container (head_of container bytes)) interfaces (piece_of container bytes))

-- The results that follow from a value. A fault is the last result.
abbrev pub unless_fault : {A : Type 0} → Result A ContainerFault → (A → List Answer) → List Answer
unless_fault (Ok value) answers = answers value
unless_fault (Err fault) answers = Err fault ∷ []

abbrev pub is_empty : List ℕ → Bool
is_empty [] = true
is_empty (byte ∷ bytes) = false

-- The results for these bytes, where at most `left` more pieces may be read. A piece beyond that
-- counts as a failed read.
unfoldable pub pieces : ℕ → Container → List Interface → List ℕ → List Answer
pieces zero container interfaces bytes = (if is_empty bytes then Ok ended else Err fault.Read) ∷ []
pieces (suc left) container interfaces bytes =
    if is_empty bytes then Ok ended ∷ [] else
    unless_fault (judge_piece container interfaces bytes)
    (λ reported. Ok reported ∷ pieces left (container_after container (head_of container bytes))
    (interfaces_after (container_after container (head_of container bytes)) interfaces (piece_of container bytes))
    (after_piece container bytes))

-- The format of a classic file that begins with these bytes, or the first fault.
abbrev pub judge_beginning : List ℕ → Result ClassicFormat ContainerFault
judge_beginning bytes =
    if nat_lt (length bytes) 24 then Err fault.Truncated else classic.judge_header (take 24 bytes)

-- The results for a classic file: its header begins its only section.
abbrev pub classic_answers : List ℕ → List Answer
classic_answers bytes =
    unless_fault (judge_beginning bytes)
    (λ format. Ok section ∷ pieces most_records (Classic format) [] (drop 24 bytes))

-- The results for the bytes of a file. A pcapng file begins with a section header.
abbrev pub answers : List ℕ → List Answer
answers bytes =
    if block.is_section bytes then pieces most_records (Blocks Big) [] bytes else classic_answers bytes
