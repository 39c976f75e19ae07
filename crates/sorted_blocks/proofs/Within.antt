-- Places stand within the list.
use Rattle.sorted_blocks.proofs.Words.{◌≡◌, ℕ, zero, suc, ◌+◌, ◌<◌, ◌≤◌, List, [], ◌∷◌, length, get_or, ap, arith, length-append, take, refl, Place, Shape, items, joined, before, IsPlace}
use Rattle.sorted_blocks.proofs.Joined.{start}
use Rattle.sorted_blocks.proofs.Moves.{before_is}

module _ {A : Type 0} where
  in_row : (bs : List (List A)) (i at : ℕ) → i < length bs → at ≤ length (get_or bs i []) → start bs i + at ≤ length (joined bs)
  in_row [] i at h l = absurd (omega arith)
  in_row (b ∷ bs) zero at h l = omega (arith, l, length-append b (joined bs))
  in_row (b ∷ bs) (suc i) at h l =
      let r = in_row bs i at (omega arith) l in
      omega (arith, r, length-append b (joined bs), length-append b (joined (take i bs)))

  pub place_within : (s : Shape A) (p : Place) → IsPlace s p → before s p ≤ length (items s)
  unfolding IsPlace
  place_within s p h = by_blocks s.blocks refl
    where
      by_blocks : (bs : List (List A)) → s.blocks ≡ bs → before s p ≤ length (items s)
      by_blocks [] e =
          let b = h.0 in
          let l = ap length e in
          let a = h.1 in
          let none = ap (λ rows. length (get_or rows p.block [])) e in
          let z = ap (λ rows. start rows p.block) e in
          let most = start-none p.block in
          omega (arith, before_is s p, a, none, z, most)
        where
          start-none : (i : ℕ) → start {A = A} [] i ≡ 0
          start-none zero = refl
          start-none (suc i) = refl
      by_blocks (b ∷ bs) e =
          let n = ap length e in
          let m = h.0 in
          omega (arith, before_is s p, in_row s.blocks p.block p.at (omega (arith, n, m)) h.1)
