-- A walk over the items of blocks.
use Rattle.sorted_blocks.proofs.Words.{◌≡◌, ℕ, zero, suc, ◌+◌, ◌-◌, ◌<◌, ◌≤◌, List, [], ◌∷◌, ◌++◌, length, get_or, take, drop, refl, sym, ap, ◌∙◌, arith, length-append, add-one, zero-add, drop-append-le, get_or_read, drop-append-add, drop_of_length-le, Place, Shape, joined, items, AllFilled, before, IsPlace}
use Rattle.sorted_blocks.proofs.Counted.{filled-get}
use Rattle.sorted_blocks.proofs.Joined.{start}
use Rattle.sorted_blocks.proofs.Moves.{at_most, place_block, before_is}

module _ {A : Type 0} where
  -- the items of the blocks from one on
  pub opened : (bs : List (List A)) (i : ℕ) → i < length bs → joined (drop i bs) ≡ get_or bs i [] ++ joined (drop (i + 1) bs)
  opened bs i h = step bs i h ∙ ap (λ n. get_or bs i [] ++ joined (drop n bs)) (sym (add-one i))
    where
      step : (bs : List (List A)) (i : ℕ) → i < length bs → joined (drop i bs) ≡ get_or bs i [] ++ joined (drop (suc i) bs)
      step [] i h = absurd (omega (arith, h))
      step (b ∷ bs) zero h = refl
      step (b ∷ bs) (suc i) h = step bs i (omega (arith, h))

  -- a walk that begins in a block
  pub from_block : (s : Shape A) (p : Place) → IsPlace s p → p.block < length s.blocks → drop p.at (get_or s.blocks p.block []) ++ joined (drop (p.block + 1) s.blocks) ≡ drop (before s p) (items s)
  from_block s p h l =
      let bs = s.blocks in
      let i = p.block in
      let b = get_or bs i [] in
      let rest = joined (drop (i + 1) bs) in
      sym (drop-append-le p.at b rest (at_most s p h)) ∙ ap (λ xs. drop p.at xs) (sym (opened bs i l)) ∙ skip bs i p.at ∙ ap (λ n. drop n (joined bs)) (sym (before_is s p))
    where
      skip : (bs : List (List A)) (i at : ℕ) → drop at (joined (drop i bs)) ≡ drop (start bs i + at) (joined bs)
      skip bs zero at = rw zero-add refl
      skip [] (suc i) at = rw zero-add refl
      skip (b ∷ bs) (suc i) at =
          let n = length-append b (joined (take i bs)) in
          let e : start (b ∷ bs) (suc i) + at ≡ length b + (start bs i + at) = omega (arith, n) in
          skip bs i at ∙ sym (drop-append-add b (joined bs) (start bs i + at)) ∙ ap (λ k. drop k (b ++ joined bs)) (sym e)

  -- with what the code has in its hands
  pub walk_from : (s : Shape A) (p : Place) → IsPlace s p → (all : List (List A)) → all ≡ s.blocks → (b row : List A) → p.block < length all → b ≡ get_or all p.block b → row ≡ drop p.at b → row ++ joined (drop (p.block + 1) all) ≡ drop (before s p) (items s)
  walk_from s p place all is b row h at e =
      let there = get_or_read all p.block b h at [] ∙ ap (λ bs. get_or bs p.block []) is in
      ap (λ xs. xs ++ joined (drop (p.block + 1) all)) (e ∙ ap (λ xs. drop p.at xs) there)
      ∙ ap (λ bs. drop p.at (get_or s.blocks p.block []) ++ joined (drop (p.block + 1) bs)) is
      ∙ from_block s p place (omega (arith, h, ap length is))

  -- a walk of no blocks
  pub from_none : (s : Shape A) (p : Place) → IsPlace s p → length s.blocks ≤ p.block → joined (drop p.block s.blocks) ≡ drop (before s p) (items s)
  from_none s p h l = none s.blocks p.block (before s p) (place_block s p h) l
    where
      none : (bs : List (List A)) (i n : ℕ) → i ≤ length bs - 1 → length bs ≤ i → joined (drop i bs) ≡ drop n (joined bs)
      none [] i zero h l = ap joined (drop_of_length-le [] (omega arith))
      none [] i (suc n) h l = ap joined (drop_of_length-le [] (omega arith))
      none (b ∷ bs) i n h l = absurd (omega (arith, h, l))

  -- a block of a walk has an item
  pub never_empty : (half : ℕ) (bs : List (List A)) (i : ℕ) (b : List A) → AllFilled half bs → i < length bs → b ≡ get_or bs i b → length b ≡ 0 → ⊥
  never_empty half bs i b f h at none = absurd (omega (arith, none, (filled-get half bs i f h).0, ap length (get_or_read bs i b h at [])))
