-- What a block has from a place on.
use Rattle.sorted_blocks.proofs.Words.{◌≡◌, ℕ, suc, ◌+◌, ◌-◌, ◌<◌, ◌≤◌, List, [], ◌∷◌, ◌++◌, length, get_or, take, drop, refl, sym, ap, ◌∙◌, arith, length-drop, inl, inr, zero, cases_lt, take_at, drop_of_length-le, Place, Shape, items, joined, before, rest_of, IsPlace, IsItem}
use Rattle.sorted_blocks.proofs.Moves.{item_within}
use Rattle.sorted_blocks.proofs.Walking.{from_block}

module _ {A : Type 0} where
  pub rest_is : (s : Shape A) (p : Place) → rest_of s p ≡ drop p.at (get_or s.blocks p.block [])
  unfolding rest_of
  rest_is s p = refl

  pub rest_long : (s : Shape A) (p : Place) → length (rest_of s p) ≡ length (get_or s.blocks p.block []) - p.at
  rest_long s p = ap length (rest_is s p) ∙ length-drop p.at (get_or s.blocks p.block [])

  past : (bs : List (List A)) (i : ℕ) → length bs ≤ i → get_or bs i [] ≡ []
  past [] i h = refl
  past (b ∷ bs) zero h = absurd (omega (arith, h))
  past (b ∷ bs) (suc i) h = past bs i (omega (arith, h))

  pub rest_none : (s : Shape A) (p : Place) → length s.blocks ≤ p.block → [] ≡ rest_of s p
  rest_none s p h = sym (rest_is s p ∙ ap (drop p.at) (past s.blocks p.block h) ∙ drop_of_length-le [] (omega arith))

  pub rest_past : (s : Shape A) (p : Place) → length (get_or s.blocks p.block []) ≤ p.at → [] ≡ rest_of s p
  rest_past s p h = sym (rest_is s p ∙ drop_of_length-le (get_or s.blocks p.block []) h)

  -- the row is the next items of the list
  pub row_is : (s : Shape A) (p : Place) (row : List A) → row ≡ rest_of s p → IsPlace s p → row ≡ take (length row) (drop (before s p) (items s))
  row_is s p row e place = elim (cases_lt p.block (length s.blocks)) [
    | inl within ↦
        let is = e ∙ rest_is s p in
        let behind = joined (drop (p.block + 1) s.blocks) in
        let whole = ap (λ xs. xs ++ behind) is ∙ from_block s p place within in
        sym (ap (take (length row)) (sym whole) ∙ take_at row behind (length row) refl)
    | inr beyond ↦
        let none : row ≡ [] = e ∙ sym (rest_none s p beyond) in
        none ∙ sym (ap (λ (n : ℕ). take n (drop (before s p) (items s))) (ap length none))
  ]

  pub row_some : (s : Shape A) (p : Place) (row : List A) → row ≡ rest_of s p → IsItem s p → 0 < length row
  row_some s p row e h = omega (arith, ap length e, rest_long s p, item_within s p h)
