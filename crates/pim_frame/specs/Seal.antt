-- Messages with the header that is written (RFC 7761, 4.9).
use Rattle.std.specs.Prelude.{◌≡◌, ℕ, ◌+◌, ◌*◌, ◌<◌, IsTrue, List, [], ◌∷◌, ◌++◌, slice_index}
use Rattle.std.specs.Int.{w16, to_be_bytes}
use Rattle.pim_addr.specs.declared.family.AddressFamily.{AddressFamily}
use Rattle.pim_frame.specs.Sum.{sums_rightly}
use Rattle.pim_frame.specs.Frame.{Content, hello, join_prune, frame_faults, content, all_routers}
use Rattle.pim_frame.specs.declared.frame.MessageType.{MessageType}
use Rattle.pim_frame.specs.declared.frame.MessageType.TheVariants.{Hello, JoinPrune}

-- The first byte of a header: version 2 with the type, 0 for a Hello and 3 for a Join/Prune.
abbrev pub first_byte : MessageType → ℕ
first_byte Hello = 0x20
first_byte JoinPrune = 0x23

-- The value of the Checksum field.
abbrev pub checksum : List ℕ → ℕ
checksum message = 256 * slice_index message 2 + slice_index message 3

-- A header and a body: version and type, a Reserved byte of 0, the checksum in 16 bits, the body.
abbrev pub framed : MessageType → ℕ → List ℕ → List ℕ
framed message_type sum body = first_byte message_type ∷ 0 ∷ [] ++ to_be_bytes w16 sum ++ body

-- A message of this type and body as `seal` writes it: its checksum is correct and below 65,535, so
-- 0xffff is never written.
abbrev pub IsSealed : AddressFamily → List ℕ → List ℕ → MessageType → List ℕ → List ℕ → Type 0
IsSealed family source destination message_type body message =
    (message ≡ framed message_type (checksum message) body) × (checksum message < 65535)
    × IsTrue (sums_rightly family source destination message)

-- ---- laws

-- At most one message is sealed for a type and a body: at most one checksum below 65,535 is
-- correct.
abbrev pub OneChecksum : Type 0
OneChecksum = (family : AddressFamily) (source destination : List ℕ) (message_type : MessageType)
    (body first second : List ℕ)
    → IsSealed family source destination message_type body first
    → IsSealed family source destination message_type body second
    → first ≡ second

-- At least one message is sealed for a type and a body.
abbrev pub SomeMessageIsSealed : Type 0
SomeMessageIsSealed = (family : AddressFamily) (source destination : List ℕ) (message_type : MessageType)
    (body : List ℕ) → (message : List ℕ) × IsSealed family source destination message_type body message

-- The content that a receiver gets from a message of this type and body.
abbrev pub type_content : MessageType → List ℕ → Content
type_content Hello body = hello body
type_content JoinPrune body = join_prune body

-- A message that is sealed for ALL-PIM-ROUTERS has no fault, and its content is its body.
abbrev pub SealedOpens : Type 0
SealedOpens = (family : AddressFamily) (source : List ℕ) (message_type : MessageType) (body message : List ℕ)
    → IsSealed family source (all_routers family) message_type body message
    → (frame_faults family source (all_routers family) message ≡ [])
    × (content message ≡ type_content message_type body)
