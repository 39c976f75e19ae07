-- Fragments by their offsets, as a map keeps them.
use Rattle.std.proofs.Common.{◌≡◌, ℕ, ◌+◌, Bool, true, false, cond, List, [], ◌∷◌, length, refl, ap, arith, eq-eqb, eqb-true}
use Rattle.std.specs.Prelude.{Option, None, Some, option_map, nat_lt, not, ◌&&◌, ◌||◌, ◌==◌}
use Rattle.std.specs.Ordering.{nat_cmp}
use Rattle.std.specs.Cmp.{unsigned_tied}
use Rattle.std.specs.BTreeMap.{insert_entry, is_at}
use Rattle.std.specs.Map.{lookup, remove_entry}
use Rattle.pim_fragments.specs.declared.pieces.Held.{Held}
use Rattle.pim_fragments.specs.Pieces.{Piece, piece_at, with_piece, size_of, last_end, end_of, ends_elsewhere, is_misshapen, is_breaking, most_bytes}
use Rattle.pim_fragments.specs.Stored.{piece_seen, pieces_seen}

-- the fragment at an offset is what the map has there
pub at_offset : (offset : ℕ) (entries : List (ℕ × Held)) → option_map (λ (held : Held). piece_seen (offset, held)) (lookup (is_at (nat_cmp offset)) entries) ≡ piece_at offset (pieces_seen entries)
at_offset offset [] = refl
at_offset offset (e ∷ entries) =
    elim (offset == e.0) as (λ b. (offset == e.0) ≡ b → option_map (λ (held : Held). piece_seen (offset, held)) (lookup (is_at (nat_cmp offset)) (e ∷ entries)) ≡ piece_at offset (pieces_seen (e ∷ entries))) [
      | true ↦ λ h. rw (unsigned_tied offset e.0, h) (ap (λ n. Some (piece_seen (n, e.1))) (eqb-true offset e.0 h))
      | false ↦ λ h. rw (unsigned_tied offset e.0, h) (at_offset offset entries)
    ] refl

-- what is free stays so in what follows
free_first : (offset : ℕ) (first : Piece) (others : List Piece) → piece_at offset (first ∷ others) ≡ None → (offset == first.offset) ≡ false
free_first offset first others free =
    elim (offset == first.offset) as (λ b. (offset == first.offset) ≡ b → (offset == first.offset) ≡ false) [
      | true ↦ λ h. let e : Some first ≡ None = (rw h at free) in cc
      | false ↦ λ h. h
    ] refl

free_others : (offset : ℕ) (first : Piece) (others : List Piece) → piece_at offset (first ∷ others) ≡ None → piece_at offset others ≡ None
free_others offset first others free = let h = free_first offset first others free in rw h at free

-- a fragment that is inserted stands at its place
pub inserted : (offset : ℕ) (held : Held) (entries : List (ℕ × Held)) → piece_at offset (pieces_seen entries) ≡ None
    → pieces_seen (insert_entry nat_cmp entries offset held) ≡ with_piece (piece_seen (offset, held)) (pieces_seen entries)
inserted offset held [] free = refl
inserted offset held (e ∷ entries) free =
    let other : (offset == e.0) ≡ false = free_first offset (piece_seen e) (pieces_seen entries) free in
    elim (nat_lt offset e.0) as (λ b. nat_lt offset e.0 ≡ b → pieces_seen (insert_entry nat_cmp (e ∷ entries) offset held) ≡ with_piece (piece_seen (offset, held)) (pieces_seen (e ∷ entries))) [
      | true ↦ λ h. rw h refl
      | false ↦ λ h. rw (h, other) (ap (λ (l : List Piece). piece_seen e ∷ l) (inserted offset held entries (free_others offset (piece_seen e) (pieces_seen entries) free)))
    ] refl

-- ---- a fragment that is removed again

abbrev pub without : ℕ → List Piece → List Piece
without offset [] = []
without offset (first ∷ others) = cond (offset == first.offset) others (first ∷ without offset others)

pub removed : (offset : ℕ) (entries : List (ℕ × Held)) → pieces_seen (remove_entry (is_at (nat_cmp offset)) entries) ≡ without offset (pieces_seen entries)
removed offset [] = refl
removed offset (e ∷ entries) =
    elim (offset == e.0) as (λ b. (offset == e.0) ≡ b → pieces_seen (remove_entry (is_at (nat_cmp offset)) (e ∷ entries)) ≡ without offset (pieces_seen (e ∷ entries))) [
      | true ↦ λ h. rw (unsigned_tied offset e.0, h) refl
      | false ↦ λ h. rw (unsigned_tied offset e.0, h) (ap (λ (l : List Piece). piece_seen e ∷ l) (removed offset entries))
    ] refl

pub undone : (piece : Piece) (held : List Piece) → piece_at piece.offset held ≡ None → without piece.offset (with_piece piece held) ≡ held
undone piece [] free = rw (eq-eqb piece.offset piece.offset refl) refl
undone piece (first ∷ others) free =
    elim (nat_lt piece.offset first.offset) as (λ b. (nat_lt piece.offset first.offset) ≡ b → without piece.offset (with_piece piece (first ∷ others)) ≡ first ∷ others) [
      | true ↦ λ h. rw (h, eq-eqb piece.offset piece.offset refl) refl
      | false ↦ λ h. rw (h, free_first piece.offset first others free) (ap (λ (l : List Piece). first ∷ l) (undone piece others (free_others piece.offset first others free)))
    ] refl

-- ---- the number of bytes, and the end

pub size_with : (piece : Piece) (held : List Piece) → size_of (with_piece piece held) ≡ size_of held + length piece.bytes
size_with piece [] = omega arith
size_with piece (first ∷ others) =
    elim (nat_lt piece.offset first.offset) as (λ b. (nat_lt piece.offset first.offset) ≡ b → size_of (with_piece piece (first ∷ others)) ≡ size_of (first ∷ others) + length piece.bytes) [
      | true ↦ λ h. rw h (omega arith)
      | false ↦ λ h. rw h (omega (arith, size_with piece others))
    ] refl

same_end : (more : Bool) (there here : ℕ) → (not more && not (there == here)) ≡ false → Some there ≡ cond more (Some there) (Some here)
same_end true there here h = refl
same_end false there here h =
    elim (there == here) as (λ b. (there == here) ≡ b → Some there ≡ Some here) [
      | true ↦ λ e. ap (λ (n : ℕ). Some n) (eqb-true there here e)
      | false ↦ λ e. let k : true ≡ false = (rw e at h) in cc
    ] refl

pub end_with : (piece : Piece) (held : List Piece) → ends_elsewhere piece (last_end held) ≡ false → last_end (with_piece piece held) ≡ cond piece.more (last_end held) (Some (end_of piece))
end_with piece [] h = refl
end_with piece (first ∷ others) h =
    elim (nat_lt piece.offset first.offset) as (λ b. nat_lt piece.offset first.offset ≡ b → last_end (with_piece piece (first ∷ others)) ≡ cond piece.more (last_end (first ∷ others)) (Some (end_of piece))) [
      | true ↦ λ e. rw e refl
      | false ↦ λ e. rw e (elim first.more as (λ m. first.more ≡ m → cond first.more (last_end (with_piece piece others)) (Some (end_of first)) ≡ cond piece.more (cond first.more (last_end others) (Some (end_of first))) (Some (end_of piece))) [
        | true ↦ λ m. rw m (end_with piece others (rw m at h))
        | false ↦ λ m. rw m (same_end piece.more (end_of first) (end_of piece) (rw m at h))
      ] refl)
    ] refl

or_left : (a b : Bool) → (a || b) ≡ false → a ≡ false
or_left true b h = h
or_left false b h = refl

or_right : (a b : Bool) → (a || b) ≡ false → b ≡ false
or_right true b h = let k : true ≡ false = h in cc
or_right false b h = h

pub ends_here : (piece : Piece) (end : Option ℕ) (size : ℕ) → is_breaking piece end size ≡ false → ends_elsewhere piece end ≡ false
ends_here piece end size h = or_right (is_misshapen piece) (ends_elsewhere piece end) (or_left _ _ h)

pub has_room : (piece : Piece) (end : Option ℕ) (size : ℕ) → is_breaking piece end size ≡ false → nat_lt most_bytes (size + length piece.bytes) ≡ false
has_room piece end size h = or_right _ (nat_lt most_bytes (size + length piece.bytes)) h
