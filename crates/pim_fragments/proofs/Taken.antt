-- A packet with one more fragment, as it is kept.
use Rattle.std.proofs.Common.{◌≡◌, ◌∙◌, ℕ, ◌+◌, Bool, true, false, cond, List, length, refl, sym, ap, subst, ltb-false}
use Rattle.std.specs.Ordering.{nat_cmp}
use mathlib.Core.Bool.{false≢true}
use Rattle.std.specs.Prelude.{Option, None, Some, option_map, IsSome, is_some}
use Rattle.std.specs.BTreeMap.{is_at}
use Rattle.std.specs.Map.{lookup, remove_entry}
use Rattle.pim_fragments.specs.declared.pieces.Held.{Held}
use Rattle.pim_fragments.specs.Pieces.{Piece, piece_at, with_piece, size_of, last_end, end_of, is_breaking, are_same, ends_elsewhere}
use Rattle.pim_fragments.specs.Stored.{piece_seen, pieces_seen, held_seen, found_in, AreTheirs, IsFreeAt}
use Rattle.pim_fragments.proofs.Stored.{at_offset, without, removed, undone, size_with, end_with, ends_here, has_room}

both : {A B C : Type 0} (f : B → C) (g : A → B) (found : Option A) → option_map (λ (a : A). f (g a)) found ≡ option_map f (option_map g found)
both f g None = refl
both f g (Some a) = refl

pub finds : (piece : Piece) (is_broken : Bool) (entries : List (ℕ × Held)) (now : Option (List Piece)) → held_seen is_broken entries ≡ now → IsSome now → (found : Option Held)
    → found ≡ lookup (is_at (nat_cmp piece.offset)) entries → option_map (λ (held : Held). are_same (piece_seen (piece.offset, held)) piece) found ≡ found_in piece now
finds piece true entries now view some found is = absurd (false≢true (ap is_some view ∙ some))
finds piece false entries now view some found is =
    both (λ (there : Piece). are_same there piece) (λ (held : Held). piece_seen (piece.offset, held)) found
    ∙ ap (λ (f : Option Held). option_map (λ (there : Piece). are_same there piece) (option_map (λ (held : Held). piece_seen (piece.offset, held)) f)) is
    ∙ ap (option_map (λ (there : Piece). are_same there piece)) (at_offset piece.offset entries)
    ∙ ap (found_in piece) view

pub still_theirs : (piece : Piece) (entries entries' : List (ℕ × Held)) (size : ℕ) (end end' : Option ℕ) → AreTheirs entries size end
    → pieces_seen entries' ≡ with_piece piece (pieces_seen entries) → is_breaking piece end size ≡ false → end' ≡ cond piece.more end (Some (end_of piece))
    → AreTheirs entries' (size + length piece.bytes) end'
still_theirs piece entries entries' size end end' theirs kept room is =
    let here = ends_here piece end size room in
    record {
      size_is = ap (λ n. n + length piece.bytes) theirs.size_is ∙ sym (size_with piece (pieces_seen entries)) ∙ ap size_of (sym kept);
      end_is = is ∙ ap (λ (e : Option ℕ). cond piece.more e (Some (end_of piece))) theirs.end_is
          ∙ sym (end_with piece (pieces_seen entries) (subst (λ (e : Option ℕ). ends_elsewhere piece e ≡ false) theirs.end_is here)) ∙ ap last_end (sym kept);
      small = ltb-false _ _ (has_room piece end size room);
    }

-- what is free isn't broken
free_is : (offset : ℕ) (is_broken : Bool) (entries : List (ℕ × Held)) (now : Option (List Piece)) → held_seen is_broken entries ≡ now → IsFreeAt offset now → (is_broken ≡ false) × (piece_at offset (pieces_seen entries) ≡ None)
free_is offset true entries now view free = absurd (subst (IsFreeAt offset) (sym view) free)
free_is offset false entries now view free = (refl, subst (IsFreeAt offset) (sym view) free)

same_pieces : (b : Bool) (entries : List (ℕ × Held)) (held : List Piece) → held_seen b entries ≡ Some held → (b ≡ false) × (pieces_seen entries ≡ held)
same_pieces true entries held e = absurd (false≢true (ap is_some e))
same_pieces false entries held e = (refl, (let h = e in cc))

-- `entries1` has one more fragment, `entries2` the same as it, and `entries3` is without it
module _ (piece : Piece) (b b2 : Bool) (entries entries1 entries2 entries3 : List (ℕ × Held)) (now new : Option (List Piece)) (view : held_seen b entries ≡ now) (free : IsFreeAt piece.offset now)
    (kept : pieces_seen entries1 ≡ with_piece piece (pieces_seen entries)) (view2 : held_seen b2 entries2 ≡ new) (same : new ≡ held_seen b entries1)
    (gone : entries3 ≡ remove_entry (is_at (nat_cmp piece.offset)) entries2) where
  there : (b2 ≡ false) × (pieces_seen entries2 ≡ with_piece piece (pieces_seen entries))
  there =
      let f = free_is piece.offset b entries now view free in
      same_pieces b2 entries2 (with_piece piece (pieces_seen entries)) (view2 ∙ same ∙ ap (λ broken. held_seen broken entries1) f.0 ∙ ap (λ (held : List Piece). Some held) kept)

  pub as_before : pieces_seen entries3 ≡ pieces_seen entries
  as_before =
      ap pieces_seen gone ∙ removed piece.offset entries2 ∙ ap (without piece.offset) there.1 ∙ undone piece (pieces_seen entries) (free_is piece.offset b entries now view free).1

  pub seen_as_before : held_seen b2 entries3 ≡ now
  seen_as_before =
      ap (λ broken. held_seen broken entries3) (there.0 ∙ sym (free_is piece.offset b entries now view free).0) ∙ ap (λ (held : List Piece). cond b None (Some held)) as_before ∙ view

  pub theirs_as_before : (size : ℕ) (end : Option ℕ) → AreTheirs entries size end → AreTheirs entries3 size end
  theirs_as_before size end theirs = record {
    size_is = theirs.size_is ∙ ap size_of (sym as_before);
    end_is = theirs.end_is ∙ ap last_end (sym as_before);
    small = theirs.small;
  }
