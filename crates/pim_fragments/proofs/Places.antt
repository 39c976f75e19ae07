-- Packets by their places.
use Rattle.std.proofs.Common.{◌≡◌, ◌∙◌, ℕ, zero, suc, ◌<◌, ◌≤◌, ◌+◌, ◌-◌, Bool, true, false, List, [], ◌∷◌, ◌++◌, length, refl, sym, ap, subst, arith}
use Rattle.std.specs.Prelude.{Option, None, Some, Vec, is_some, slice_set, slice_index_or, Result, Ok, Err, OnErr}
use Rattle.std.specs.List.{remove, position, position_from}
use Rattle.std.proofs.lemmas.Iterator.Adapters.{position_from-zero}
use Rattle.pim_fragments.specs.declared.fragments.PartialPacket.{PartialPacket}
use Rattle.pim_fragments.specs.Pieces.{Piece, taken, is_added}
use Rattle.pim_fragments.specs.Stored.{payload_seen}
use Rattle.pim_fragments.specs.Packets.{left_of}
use Rattle.pim_fragments.specs.Places.{packets_at, whole_at, is_added_at}

pub some_seen : {A : Type 0} (whole : Option (Vec ℕ A)) → is_some (payload_seen whole) ≡ is_some whole
some_seen None = refl
some_seen (Some bytes) = refl

pub on_err : {A E : Type 0} (result : Result A E) (P : Type 0) → P → OnErr result P
on_err (Ok answer) P p = tt
on_err (Err fault) P p = p

-- ---- one more fragment of the packet at a place

module _ {K : Type 0} (piece : Piece) where
  pub whole_there : (packets : List (PartialPacket K)) (place : ℕ) (packet : PartialPacket K) → place < length packets → packet ≡ slice_index_or packets place packet → (taken piece packet.pieces).whole ≡ whole_at piece place packets
  whole_there [] place packet l e = absurd (omega arith)
  whole_there (first ∷ packets) zero packet l e = ap (λ (p : PartialPacket K). (taken piece p.pieces).whole) e
  whole_there (first ∷ packets) (suc place) packet l e = whole_there packets place packet (omega arith) e

  pub added_there : (packets : List (PartialPacket K)) (place : ℕ) (packet : PartialPacket K) → place < length packets → packet ≡ slice_index_or packets place packet → is_added piece packet.pieces ≡ is_added_at piece place packets
  added_there [] place packet l e = absurd (omega arith)
  added_there (first ∷ packets) zero packet l e = ap (λ (p : PartialPacket K). is_added piece p.pieces) e
  added_there (first ∷ packets) (suc place) packet l e = added_there packets place packet (omega arith) e

  pub stays_there : (packets : List (PartialPacket K)) (place : ℕ) (packet : PartialPacket K) (held : Option (List Piece)) → place < length packets → packet ≡ slice_index_or packets place packet
      → held ≡ (taken piece packet.pieces).held → is_some (taken piece packet.pieces).whole ≡ false
      → slice_set packets place (record { key = packet.key; first = packet.first; since = packet.since; pieces = held }) ≡ packets_at piece place packets
  stays_there [] place packet held l e is none = absurd (omega arith)
  stays_there (first ∷ packets) zero packet held l e is none =
      let left : (record { key = packet.key; first = packet.first; since = packet.since; pieces = held }) ∷ packets ≡ left_of packet (taken piece packet.pieces) ++ packets
      = rw none (ap (λ (h : Option (List Piece)). (record { key = packet.key; first = packet.first; since = packet.since; pieces = h }) ∷ packets) is) in
      left ∙ ap (λ (p : PartialPacket K). left_of p (taken piece p.pieces) ++ packets) e
  stays_there (first ∷ packets) (suc place) packet held l e is none = ap (λ (ps : List (PartialPacket K)). first ∷ ps) (stays_there packets place packet held (omega arith) e is none)

  pub leaves_there : (packets : List (PartialPacket K)) (place : ℕ) (packet other : PartialPacket K) → place < length packets → packet ≡ slice_index_or packets place packet
      → is_some (taken piece packet.pieces).whole ≡ true → remove (slice_set packets place other) place ≡ packets_at piece place packets
  leaves_there [] place packet other l e some = absurd (omega arith)
  leaves_there (first ∷ packets) zero packet other l e some =
      let left : packets ≡ left_of packet (taken piece packet.pieces) ++ packets = rw some refl in
      left ∙ ap (λ (p : PartialPacket K). left_of p (taken piece p.pieces) ++ packets) e
  leaves_there (first ∷ packets) (suc place) packet other l e some = ap (λ (ps : List (PartialPacket K)). first ∷ ps) (leaves_there packets place packet other (omega arith) e some)

-- ---- the first packet that passes a test

module _ {K : Type 0} (test : PartialPacket K → Bool) where
  abbrev pub IsFirst : List (PartialPacket K) → ℕ → Type 0
  IsFirst [] place = ⊥
  IsFirst (packet ∷ packets) zero = test packet ≡ true
  IsFirst (packet ∷ packets) (suc place) = (test packet ≡ false) × IsFirst packets place

  abbrev pub AreNone : List (PartialPacket K) → Type 0
  AreNone [] = Unit {0}
  AreNone (packet ∷ packets) = (test packet ≡ false) × AreNone packets

  first_from : (packets : List (PartialPacket K)) (begin place : ℕ) → position_from test begin packets ≡ Some place → (begin ≤ place) × IsFirst packets (place - begin)
  first_from [] begin place is = absurd (let h = is in cc)
  first_from (packet ∷ packets) begin place is =
      elim (test packet) as (λ b. test packet ≡ b → (begin ≤ place) × IsFirst (packet ∷ packets) (place - begin)) [
        | true ↦ λ yes. let e : Some begin ≡ Some place = (rw yes at is) in let same : begin ≡ place = cc in let none : zero ≡ place - begin = omega arith in (omega arith, subst (IsFirst (packet ∷ packets)) none yes)
        | false ↦ λ no. let later = first_from packets (begin + 1) place (rw no at is) in
            let one_more : suc (place - (begin + 1)) ≡ place - begin = omega (arith, later.0) in
            (omega (arith, later.0), subst (IsFirst (packet ∷ packets)) one_more (no, later.1))
      ] refl

  pub is_first : (packets : List (PartialPacket K)) (place : ℕ) → position test packets ≡ Some place → IsFirst packets place
  is_first packets place is = let all : place - 0 ≡ place = omega arith in subst (IsFirst packets) all (first_from packets 0 place (sym (position_from-zero test packets) ∙ is)).1

  none_from : (packets : List (PartialPacket K)) (begin : ℕ) → position_from test begin packets ≡ None → AreNone packets
  none_from [] begin is = tt
  none_from (packet ∷ packets) begin is =
      elim (test packet) as (λ b. test packet ≡ b → AreNone (packet ∷ packets)) [
        | true ↦ λ yes. let e : Some begin ≡ None = (rw yes at is) in absurd (cc)
        | false ↦ λ no. (no, none_from packets (begin + 1) (rw no at is))
      ] refl

  pub are_none : (packets : List (PartialPacket K)) → position test packets ≡ None → AreNone packets
  are_none packets is = none_from packets 0 (sym (position_from-zero test packets) ∙ is)
