-- The fragments of one packet, and when they make it whole (RFC 791, 3.2; RFC 8200, 4.5; RFC 5722).
use Rattle.std.specs.Prelude.{ℕ, ◌+◌, ◌%◌, Bool, false, ◌&&◌, ◌||◌, ◌==◌, not, nat_lt, nat_eq, if◌then◌else◌}
use Rattle.std.specs.Prelude.{List, [], ◌∷◌, ◌++◌, length, Option, None, Some, is_some, ◌≤◌, ⊤}
use Rattle.std.specs.Bool.{beq}
use Rattle.std.specs.Cmp.Lexicographic.{pointwise}
use Rattle.pim_fragments.specs.declared.headers.Fragment.{Fragment}

-- A fragment: its bytes, the index of the first of them in its packet's payload, and whether more
-- fragments follow it.
pub record Piece : Type 0 where
  pub offset : ℕ
  pub more : Bool
  pub bytes : List ℕ

-- The fragment of these fields with these bytes.
abbrev pub piece_of : Fragment → List ℕ → Piece
piece_of fragment bytes = record { offset = fragment.offset; more = fragment.more; bytes = bytes }

-- Where the bytes of a fragment end.
abbrev pub end_of : Piece → ℕ
end_of piece = piece.offset + length piece.bytes

-- ---- the fragments that are held of a packet, in order of their offsets

-- The fragment at this offset.
abbrev pub piece_at : ℕ → List Piece → Option Piece
piece_at offset [] = None
piece_at offset (first ∷ others) = if offset == first.offset then Some first else piece_at offset others

-- The fragments with one more.
abbrev pub with_piece : Piece → List Piece → List Piece
with_piece piece [] = piece ∷ []
with_piece piece (first ∷ others) =
    if nat_lt piece.offset first.offset then piece ∷ first ∷ others else first ∷ with_piece piece others

-- How many bytes they have.
abbrev pub size_of : List Piece → ℕ
size_of [] = 0
size_of (first ∷ others) = length first.bytes + size_of others

-- Where the packet ends: the end of the fragment that no more fragments follow.
abbrev pub last_end : List Piece → Option ℕ
last_end [] = None
last_end (first ∷ others) = if first.more then last_end others else Some (end_of first)

-- They follow one another from `at` to `end`, without a gap and without an overlap.
abbrev pub abut : ℕ → ℕ → List Piece → Bool
abut at end [] = at == end
abut at end (first ∷ others) = at == first.offset && abut (end_of first) end others

-- Their bytes, one after another.
abbrev pub joined : List Piece → List ℕ
joined [] = []
joined (first ∷ others) = first.bytes ++ joined others

-- ---- fragments that break their packet

-- The greatest number of bytes of a packet.
abbrev pub most_bytes : ℕ
most_bytes = 65535

-- No packet has this fragment: it has no bytes, or more fragments follow and its length is no
-- multiple of eight, or it ends too far.
abbrev pub is_misshapen : Piece → Bool
is_misshapen piece =
    length piece.bytes == 0 || (piece.more && not (length piece.bytes % 8 == 0)) || nat_lt most_bytes (end_of piece)

-- It is the last fragment of a packet with another end.
abbrev pub ends_elsewhere : Piece → Option ℕ → Bool
ends_elsewhere piece None = false
ends_elsewhere piece (Some end) = not piece.more && not (end == end_of piece)

-- It breaks a packet with this end and this number of bytes, of which no fragment has its offset.
abbrev pub is_breaking : Piece → Option ℕ → ℕ → Bool
is_breaking piece end size =
    is_misshapen piece || ends_elsewhere piece end || nat_lt most_bytes (size + length piece.bytes)

-- Two fragments at one offset are the same.
abbrev pub are_same : Piece → Piece → Bool
are_same this that = beq this.more that.more && pointwise nat_eq this.bytes that.bytes

-- ---- one more fragment

-- What becomes of a packet: its payload, if it is whole, and the fragments that are held of it. Of a
-- packet that is whole or broken nothing is held.
pub record Next : Type 0 where
  pub whole : Option (List ℕ)
  pub held : Option (List Piece)

-- A packet that is broken.
abbrev pub broken : Next
broken = record { whole = None; held = None }

-- A packet that waits for more fragments.
abbrev pub waiting : List Piece → Next
waiting held = record { whole = None; held = Some held }

-- A packet whose fragments have as many bytes as it has: it is whole, or some of them overlap.
abbrev pub complete : ℕ → List Piece → Next
complete end held = if abut 0 end held then (record { whole = Some (joined held); held = None }) else broken

-- A packet with this end.
abbrev pub settled_at : Option ℕ → List Piece → Next
settled_at None held = waiting held
settled_at (Some end) held = if nat_lt (size_of held) end then waiting held else complete end held

-- A packet of which these fragments are held.
abbrev pub settled : List Piece → Next
settled held = settled_at (last_end held) held

-- A packet with one more fragment, where none is held at its offset.
abbrev pub taken_new : Piece → List Piece → Next
taken_new piece held =
    if is_breaking piece (last_end held) (size_of held) then broken else settled (with_piece piece held)

-- A packet of which this fragment, if any, is held at the offset of the new one.
abbrev pub taken_at : Piece → List Piece → Option Piece → Next
taken_at piece held None = taken_new piece held
taken_at piece held (Some there) = if are_same there piece then waiting held else broken

-- What one more fragment makes of a packet. A broken one stays broken.
abbrev pub taken : Piece → Option (List Piece) → Next
taken piece None = broken
taken piece (Some held) = taken_at piece held (piece_at piece.offset held)

-- Whether one more fragment is added to those that are held, so that memory is asked for.
abbrev pub is_added : Piece → Option (List Piece) → Bool
is_added piece None = false
is_added piece (Some held) =
    not (is_some (piece_at piece.offset held)) && not (is_breaking piece (last_end held) (size_of held))

-- ---- what holds at any time

-- At most 65,535 bytes are held of a packet.
abbrev pub IsSmall : Option (List Piece) → Type 0
IsSmall None = ⊤
IsSmall (Some held) = size_of held ≤ most_bytes
