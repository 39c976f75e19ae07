-- The parts of a Join/Prune body (RFC 7761, 4.9.5). Num groups and the counts of each group set
-- alone decide the cut, which ends at the first part that isn't whole.
use Rattle.std.specs.Prelude.{ℕ, zero, suc, ◌+◌, Bool, ◌&&◌, not, List, [], ◌∷◌, ◌++◌, length, drop, slice_index}
use Rattle.std.specs.Prelude.{nat_lt, if◌then◌else◌}
use Rattle.byteorder.specs.Endian.{big_number}
use Rattle.pim_addr.specs.declared.family.AddressFamily.{AddressFamily}
use Rattle.pim_addr.specs.Encoded.{SourceValue, unicast_length, group_length, source_length, source_value}
use Rattle.pim_jp.specs.declared.entry.Entry.{Entry}
use Rattle.pim_jp.specs.Message.{entry_of}

-- What a part is. An entry also carries the entries that precede it in its group set, and those of
-- them that are in the other list.
pub data Shape : Type 0 where
  upstream : Shape
  head : Shape
  group : Shape
  counts : Shape
  entry : List (Entry (List ℕ)) → List (Entry (List ℕ)) → Shape
  rest : Shape

-- A part: its shape, its offset in the body, and the bytes from its first byte to the end of the
-- body.
pub record Part : Type 0 where
  pub shape : Shape
  pub at : ℕ
  pub bytes : List ℕ

-- A part of `size` bytes and, if it is whole, the parts of `next` after it.
abbrev pub part_then : Shape → ℕ → ℕ → List ℕ → (ℕ → List ℕ → List Part) → List Part
part_then shape size at bytes next =
    record { shape = shape; at = at; bytes = bytes }
    ∷ (if nat_lt (length bytes) size then [] else next (at + size) (drop size bytes))

-- The W bit without the R bit, which is the encoding of none of (*,G), (S,G) and (S,G,rpt).
abbrev pub is_typeless : SourceValue → Bool
is_typeless source = source.wildcard && not source.rpt

-- The entry that the W and R bits name, or none if the source is typeless.
abbrev pub entry_of_bytes : SourceValue → List (Entry (List ℕ))
entry_of_bytes source = if is_typeless source then [] else entry_of source ∷ []

-- The parts of `count` entries of one list. `next` takes all entries of the group set up to there
-- and gives the parts after them. Typeless entries don't count.
unfoldable pub entry_parts : AddressFamily → ℕ → List (Entry (List ℕ)) → List (Entry (List ℕ)) → ℕ → List ℕ
    → (List (Entry (List ℕ)) → ℕ → List ℕ → List Part) → List Part
entry_parts family zero earlier other at bytes next = next earlier at bytes
entry_parts family (suc count) earlier other at bytes next =
    part_then (entry earlier other) (source_length family) at bytes
    (λ at bytes'. entry_parts family count (earlier ++ entry_of_bytes (source_value family bytes)) other at bytes' next)

-- The parts of `count` group sets, and the rest of the body after them.
unfoldable pub set_parts : AddressFamily → ℕ → ℕ → List ℕ → List Part
set_parts family zero at bytes = record { shape = rest; at = at; bytes = bytes } ∷ []
set_parts family (suc count) at bytes =
    part_then group (group_length family) at bytes (λ at bytes.
    part_then counts 4 at bytes (λ at entries.
    entry_parts family (big_number 2 bytes) [] [] at entries (λ joined at entries.
    entry_parts family (big_number 2 (drop 2 bytes)) joined joined at entries (λ _ at bytes.
    set_parts family count at bytes))))

-- The parts of a whole body, in their order.
abbrev pub body_parts : AddressFamily → List ℕ → List Part
body_parts family body =
    part_then upstream (unicast_length family) 0 body (λ at bytes.
    part_then head 4 at bytes (λ at sets.
    set_parts family (slice_index bytes 1) at sets))
