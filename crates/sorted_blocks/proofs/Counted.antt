-- What one edit of a list of blocks leaves: how many items, and that each block is filled.
use Rattle.sorted_blocks.proofs.Words.{◌≡◌, ℕ, zero, suc, ◌+◌, ◌*◌, ◌<◌, ◌≤◌, List, [], ◌∷◌, length, get_or, set, arith, length-append, insert, remove, joined, AllFilled}

module _ {A : Type 0} where
  pub count-set : (bs : List (List A)) (i : ℕ) (c : List A) → i < length bs → length (joined (set bs i c)) + length (get_or bs i []) ≡ length (joined bs) + length c
  count-set [] i c h = absurd (omega arith)
  count-set (b ∷ bs) zero c h = omega (arith, length-append c (joined bs), length-append b (joined bs))
  count-set (b ∷ bs) (suc i) c h = let r = count-set bs i c (omega arith) in omega (arith, r, length-append b (joined bs), length-append b (joined (set bs i c)))

  pub count-insert : (bs : List (List A)) (i : ℕ) (c : List A) → i ≤ length bs → length (joined (insert bs i c)) ≡ length (joined bs) + length c
  count-insert [] zero c h = omega (arith, length-append c [])
  count-insert [] (suc i) c h = absurd (omega arith)
  count-insert (b ∷ bs) zero c h = omega (arith, length-append c (joined (b ∷ bs)))
  count-insert (b ∷ bs) (suc i) c h = let r = count-insert bs i c (omega arith) in omega (arith, r, length-append b (joined bs), length-append b (joined (insert bs i c)))

  pub count-remove : (bs : List (List A)) (i : ℕ) → i < length bs → length (joined (remove bs i)) + length (get_or bs i []) ≡ length (joined bs)
  count-remove [] i h = absurd (omega arith)
  count-remove (b ∷ bs) zero h = omega (arith, length-append b (joined bs))
  count-remove (b ∷ bs) (suc i) h = let r = count-remove bs i (omega arith) in omega (arith, r, length-append b (joined bs), length-append b (joined (remove bs i)))

  pub filled-get : (half : ℕ) (bs : List (List A)) (i : ℕ) → AllFilled half bs → i < length bs → (1 ≤ length (get_or bs i [])) × (length (get_or bs i []) ≤ half + half)
  unfolding AllFilled
  filled-get half [] i f h = absurd (omega arith)
  filled-get half (b ∷ bs) zero f h = (f.0, f.1)
  filled-get half (b ∷ bs) (suc i) f h = filled-get half bs i f.2 (omega arith)

  pub filled-set : (half : ℕ) (bs : List (List A)) (i : ℕ) (c : List A) → AllFilled half bs → 1 ≤ length c → length c ≤ half + half → AllFilled half (set bs i c)
  unfolding AllFilled
  filled-set half [] i c f s m = tt
  filled-set half (b ∷ bs) zero c f s m = (s, m, f.2)
  filled-set half (b ∷ bs) (suc i) c f s m = (f.0, f.1, filled-set half bs i c f.2 s m)

  pub filled-insert : (half : ℕ) (bs : List (List A)) (i : ℕ) (c : List A) → AllFilled half bs → 1 ≤ length c → length c ≤ half + half → i ≤ length bs → AllFilled half (insert bs i c)
  unfolding AllFilled
  filled-insert half [] zero c f s m h = (s, m, tt)
  filled-insert half [] (suc i) c f s m h = absurd (omega arith)
  filled-insert half (b ∷ bs) zero c f s m h = (s, m, f)
  filled-insert half (b ∷ bs) (suc i) c f s m h = (f.0, f.1, filled-insert half bs i c f.2 s m (omega arith))

  pub filled-remove : (half : ℕ) (bs : List (List A)) (i : ℕ) → AllFilled half bs → i < length bs → AllFilled half (remove bs i)
  unfolding AllFilled
  filled-remove half [] i f h = absurd (omega arith)
  filled-remove half (b ∷ bs) zero f h = f.2
  filled-remove half (b ∷ bs) (suc i) f h = (f.0, f.1, filled-remove half bs i f.2 (omega arith))

  -- a list of few blocks has few items
  pub count-few : (half : ℕ) (bs : List (List A)) → AllFilled half bs → half ≤ 65536 → length (joined bs) ≤ length bs * 131072
  unfolding AllFilled
  count-few half [] f s = omega arith
  count-few half (b ∷ bs) f s = let r = count-few half bs f.2 s in let m = f.1 in omega (arith, r, m, length-append b (joined bs))
