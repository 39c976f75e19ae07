-- The fragments of a packet as the code keeps them.
use Rattle.std.specs.Prelude.{◌≡◌, ◌≤◌, ℕ, Bool, List, map, length, Option, None, Some, Vec, option_map, ⊤, if◌then◌else◌}
use Rattle.pim_fragments.specs.declared.pieces.Held.{Held}
use Rattle.pim_fragments.specs.Pieces.{Piece, Next, size_of, last_end, piece_at, most_bytes, broken, taken_new, settled, are_same}

-- The fragment that is kept at an offset.
abbrev pub piece_seen : ℕ × Held → Piece
piece_seen entry = record { offset = entry.0; more = entry.1.more; bytes = entry.1.bytes.items }

-- Those that are kept.
abbrev pub pieces_seen : List (ℕ × Held) → List Piece
pieces_seen entries = map piece_seen entries

-- What is kept of a packet; None if it is broken.
abbrev pub held_seen : Bool → List (ℕ × Held) → Option (List Piece)
held_seen is_broken entries = if is_broken then None else Some (pieces_seen entries)

-- The number of bytes and the end that are kept beside the fragments are theirs.
pub record AreTheirs (entries : List (ℕ × Held)) (size : ℕ) (end : Option ℕ) : Type 0 where
  pub size_is : size ≡ size_of (pieces_seen entries)
  pub end_is : end ≡ last_end (pieces_seen entries)
  pub small : size ≤ most_bytes

-- What one more fragment makes of a packet that isn't broken, and of which none is held at its
-- offset.
abbrev pub new_in : Piece → Option (List Piece) → Next
new_in piece None = broken
new_in piece (Some held) = taken_new piece held

-- What a packet is with these fragments.
abbrev pub settled_in : Option (List Piece) → Next
settled_in None = broken
settled_in (Some held) = settled held

-- A packet that isn't broken, and of which no fragment is held at this offset.
abbrev pub IsFreeAt : ℕ → Option (List Piece) → Type 0
IsFreeAt offset None = ⊥
IsFreeAt offset (Some held) = piece_at offset held ≡ None

-- Whether the fragment that is held at the offset of this one is the same; None if none is held.
abbrev pub found_in : Piece → Option (List Piece) → Option Bool
found_in piece None = None
found_in piece (Some held) = option_map (λ there. are_same there piece) (piece_at piece.offset held)

-- The payload of a whole packet has at most 65,535 bytes.
abbrev pub IsShort : {A : Type 0} → Option (Vec ℕ A) → Type 0
IsShort None = ⊤
IsShort (Some payload) = length payload.items ≤ most_bytes

-- The payload of a packet, if it is whole.
abbrev pub payload_seen : {A : Type 0} → Option (Vec ℕ A) → Option (List ℕ)
payload_seen payload = option_map (λ bytes. bytes.items) payload
