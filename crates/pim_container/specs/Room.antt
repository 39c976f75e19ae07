-- What a call of `Reader::next` takes from the device, and what memory it asks for: room in the
-- buffer for a piece, and a place in the list of a section's interfaces.
use Rattle.std.specs.Prelude.{◌≡◌, ◌+◌, ◌<◌, ◌≤◌, ◌==◌, ◌||◌, nat_lt, max, ℕ, zero, suc, List, [], ◌∷◌, length, drop, Bool, true, false}
use Rattle.std.specs.Prelude.{Option, Some, None, Result, Ok, Err, IsSomeAnd, IfSome, ⊤, ◌⊎◌, if◌then◌else◌, vec_len, vec_capacity}
use Rattle.std.specs.Option.{option_map}
use Rattle.pim_device.specs.Device.{ConsumesAtMost}
use Rattle.pim_capture.specs.Capture.{most_records}
use Rattle.pim_container.specs.declared.link.BlockEndianness.TheVariants.{Big}
use Rattle.pim_container.specs.declared.fault.ContainerFault.{ContainerFault}
use Rattle.pim_container.specs.declared.fault.ContainerFault.TheVariants as fault
use Rattle.pim_container.specs.declared.event.ContainerEvent.{ContainerEvent}
use Rattle.pim_container.specs.declared.event.ContainerEvent.TheVariants as event
use Rattle.pim_container.specs.declared.container.Container.{Container}
use Rattle.pim_container.specs.declared.container.Container.TheVariants.{Classic, Blocks}
use Rattle.pim_container.specs.declared.reader.ReaderState.{ReaderState}
use Rattle.pim_container.specs.declared.reader.ReaderState.TheVariants.{Unbegun, Pieces, Ended, Failed}
use Rattle.pim_container.specs.declared.reader.Reader.{Reader}
use Rattle.pim_container.specs.declared.interface.Interface.{Interface}
use Rattle.pim_container.specs.declared.classic.ClassicFormat.{ClassicFormat}
use Rattle.pim_container.specs.EventSeen.{section, described, passed}
use Rattle.pim_container.specs.Block.{most_block, is_section, block_type}
use Rattle.pim_container.specs.Pieces.{Answer, head_length, piece_length, head_faults, head_of, piece_of, after_piece}
use Rattle.pim_container.specs.Pieces.{container_after, interfaces_after, judge_piece, judge_beginning}
use Rattle.pim_container.specs.Next.{Describes}

-- ---- the length of the next piece

-- This length, if there are no faults.
abbrev pub unless_any : List ContainerFault → ℕ → Option ℕ
unless_any [] size = Some size
unless_any (fault ∷ others) size = None

-- The length that the head of a piece names, if the head has no fault.
abbrev pub stated_length : Container → List ℕ → Option ℕ
stated_length container head = unless_any (head_faults container head) (piece_length container head)

-- The length of the first of these pieces, if one more may be read, and its head is whole and has
-- no fault.
abbrev pub next_length : ℕ → Container → List ℕ → Option ℕ
next_length left container bytes =
    if left == 0 || nat_lt (length bytes) (head_length container) then None
    else stated_length container (head_of container bytes)

-- The length of what a file begins with: a section header, or the header of a classic file.
abbrev pub first_length : List ℕ → Option ℕ
first_length bytes =
    if is_section bytes then next_length most_records (Blocks Big) bytes
    else (if nat_lt (length bytes) 12 then None else Some 24)

-- The length of the next piece in this state.
abbrev pub length_in : ReaderState → List ℕ → Option ℕ
length_in Unbegun bytes = first_length bytes
length_in (Pieces container left) bytes = next_length left container bytes
length_in Ended bytes = None
length_in Failed bytes = None

-- The length of the next piece, if the bytes of the device are known.
abbrev pub length_ahead : {R : Type 0} → (R → Option (List ℕ)) → Reader R → Option (Option ℕ)
length_ahead remaining reader = option_map (length_in reader.state) (remaining reader.device)

-- ---- the bytes that are taken

-- The length of the head that is read first in this state.
abbrev pub head_in : ReaderState → ℕ
head_in Unbegun = 12
head_in (Pieces container left) = head_length container
head_in Ended = 0
head_in Failed = 0

-- How many bytes are taken: a piece of this length, or its head alone if that names none.
abbrev pub taken_by : ℕ → Option ℕ → ℕ
taken_by head None = head
taken_by head (Some size) = size

-- Known bytes lost their first `size`, or all if there are fewer.
abbrev pub Loses : ℕ → Option (List ℕ) → Option (List ℕ) → Type 0
Loses size None new = ⊤
Loses size (Some xs) None = ⊥
Loses size (Some xs) (Some ys) = ys ≡ drop size xs

-- The same. Where a read failed or memory was refused, it may be fewer.
abbrev pub Takes : {A : Type 0} → ℕ → Result A ContainerFault → Option (List ℕ) → Option (List ℕ) → Type 0
Takes size (Err fault.Read) old new = ConsumesAtMost size old new
Takes size (Err fault.Memory) old new = ConsumesAtMost size old new
Takes size _ old new = Loses size old new

-- A call in this state took the next piece of known bytes, or its head alone if that names no
-- length.
abbrev pub TakesNext : {A : Type 0} → ReaderState → Result A ContainerFault → Option (List ℕ) → Option (List ℕ) → Type 0
TakesNext state result None new = ⊤
TakesNext state result (Some bytes) new =
    Takes (taken_by (head_in state) (length_in state bytes)) result (Some bytes) new

-- After the end and after a fault the device stays as it was.
abbrev pub IsUnread : {R : Type 0} → ReaderState → R → R → Type 0
IsUnread Ended old new = new ≡ old
IsUnread Failed old new = new ≡ old
IsUnread _ old new = ⊤

-- ---- the room of the buffer

-- A capacity stays, or grows to exactly this length.
abbrev pub GrowsBy : Option ℕ → ℕ → ℕ → Type 0
GrowsBy None old new = new ≡ old
GrowsBy (Some size) old new = (new ≡ old) ⊎ (new ≡ max old size)

-- The capacity stays, or grows to exactly the length of the next piece. If the bytes aren't known,
-- it grows to the limit at most.
abbrev pub GrowsFor : Option (Option ℕ) → ℕ → ℕ → Type 0
GrowsFor None old new = (old ≤ new) × (new ≤ max old most_block)
GrowsFor (Some size) old new = GrowsBy size old new

-- The next piece is longer than this capacity. If the bytes aren't known, the capacity is below the
-- limit.
abbrev pub LacksRoom : ℕ → Option (Option ℕ) → Type 0
LacksRoom capacity None = capacity < most_block
LacksRoom capacity (Some size) = IsSomeAnd size (λ length. capacity < length)

-- ---- the list of interfaces

-- How many interfaces of the section are described. Nothing is, before the file begins.
abbrev pub count_in : ReaderState → ℕ → ℕ
count_in (Pieces container left) count = count
count_in _ count = 0

-- How many interfaces of the section are described.
abbrev pub described_by : {R : Type 0} → Reader R → ℕ
described_by reader = count_in reader.state (vec_len reader.interfaces)

-- How many interfaces the list has room for.
abbrev pub list_room : {R : Type 0} → Reader R → ℕ
list_room reader = vec_capacity reader.interfaces

-- The list grows only for an interface that is described after as many as it has room for: to twice
-- as many, and by four at least.
abbrev pub GrowsList : ContainerEvent → ℕ → ℕ → ℕ → Type 0
GrowsList (event.Interface name) count old new =
    ((count < old) × (new ≡ old)) ⊎ ((old ≤ count) × (new ≡ count + max count 4))
GrowsList _ count old new = new ≡ old

-- After an interface is described, there is one more; a section begins with none.
abbrev pub CountsList : ContainerEvent → ℕ → ℕ → Type 0
CountsList event.Section count new = new ≡ 0
CountsList (event.Interface name) count new = new ≡ count + 1
CountsList event.End count new = ⊤
CountsList _ count new = new ≡ count

-- The first of these pieces describes an interface.
abbrev pub DescribesFirst : Container → List ℕ → Type 0
DescribesFirst container bytes =
    Describes (container_after container (head_of container bytes)) (piece_of container bytes)

-- The next piece describes an interface in this state.
abbrev pub DescribesNext : ReaderState → List ℕ → Type 0
DescribesNext Unbegun bytes = (is_section bytes ≡ true) × DescribesFirst (Blocks Big) bytes
DescribesNext (Pieces container left) bytes = (0 < left) × DescribesFirst container bytes
DescribesNext Ended bytes = ⊥
DescribesNext Failed bytes = ⊥

-- The next piece describes an interface, if the bytes are known, and the list has no room for it.
abbrev pub LacksPlace : {R : Type 0} → (R → Option (List ℕ)) → Reader R → Type 0
LacksPlace remaining reader =
    (list_room reader ≤ described_by reader) × IfSome (remaining reader.device) (DescribesNext reader.state)

-- ---- the pieces up to the next record

-- What a piece needs: room for its length, if its head names one; and if it describes an interface,
-- a place in the list after those that were described before it.
pub record Need : Type 0 where
  pub size : Option ℕ
  pub describes : Bool
  pub count : ℕ

-- It needs more than this capacity of the buffer, or this room of the list.
abbrev pub Exceeds : ℕ → ℕ → Need → Type 0
Exceeds capacity room need =
    LacksRoom capacity (Some need.size) ⊎ ((room ≤ need.count) × (need.describes ≡ true))

-- Whether a piece describes an interface.
abbrev pub describes : Container → List ℕ → Bool
describes (Classic format) piece = false
describes (Blocks order) piece = block_type order piece == 1

-- What the first of these pieces needs, where so many interfaces are described.
abbrev pub first_need : ℕ → Container → ℕ → List ℕ → Need
first_need left container count bytes = record {
  size = next_length left container bytes;
  describes = describes (container_after container (head_of container bytes)) (piece_of container bytes);
  count = count;
}

-- What follows a piece with this result, by the number of interfaces that are then described.
-- Nothing does after a record, the end or a fault.
abbrev pub unless_record : ℕ → Answer → (ℕ → List Need) → List Need
unless_record count (Ok section) later = later 0
unless_record count (Ok (described name)) later = later (count + 1)
unless_record count (Ok passed) later = later count
unless_record count _ later = []

-- What the pieces need, up to the first that gives a record or a fault.
unfoldable pub needs : ℕ → Container → ℕ → List Interface → List ℕ → List Need
needs zero container count interfaces bytes = []
needs (suc left) container count interfaces bytes =
    first_need (suc left) container count bytes
    ∷ unless_record count (judge_piece container interfaces bytes)
    (λ count'. needs left (container_after container (head_of container bytes)) count'
    (interfaces_after (container_after container (head_of container bytes)) interfaces (piece_of container bytes))
    (after_piece container bytes))

-- The header of a classic file needs its length.
abbrev pub header_need : List ℕ → Need
header_need bytes = record { size = first_length bytes; describes = false; count = 0 }

-- What follows the header of a classic file with this format.
abbrev pub after_header : Result ClassicFormat ContainerFault → (ClassicFormat → List Need) → List Need
after_header (Ok format) later = later format
after_header (Err fault) later = []

-- The same for a classic file, whose header is no record.
abbrev pub classic_needs : List ℕ → List Need
classic_needs bytes = header_need bytes ∷ after_header (judge_beginning bytes)
    (λ format. needs most_records (Classic format) 0 [] (drop 24 bytes))

-- The same in this state.
abbrev pub needs_in : ReaderState → ℕ → List Interface → List ℕ → List Need
needs_in Unbegun count interfaces bytes =
    if is_section bytes then needs most_records (Blocks Big) 0 [] bytes else classic_needs bytes
needs_in (Pieces container left) count interfaces bytes = needs left container count interfaces bytes
needs_in Ended count interfaces bytes = []
needs_in Failed count interfaces bytes = []

-- What the pieces of a reader need up to the next record, if the bytes of its device are known.
abbrev pub needs_of : {R : Type 0} → (R → Option (List ℕ)) → Reader R → Option (List Need)
needs_of remaining reader =
    option_map (needs_in reader.state (vec_len reader.interfaces) reader.interfaces.items) (remaining reader.device)

-- After an event that is no record, the needs of the other pieces are left.
abbrev pub PassesNeed : ContainerEvent → Option (List Need) → Option (List Need) → Type 0
PassesNeed event.Section old new = IfSome old (λ needs. new ≡ Some (drop 1 needs))
PassesNeed (event.Interface name) old new = IfSome old (λ needs. new ≡ Some (drop 1 needs))
PassesNeed event.Passed old new = IfSome old (λ needs. new ≡ Some (drop 1 needs))
PassesNeed _ old new = ⊤
