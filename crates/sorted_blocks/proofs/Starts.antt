-- Where blocks start after an edit.
use Rattle.sorted_blocks.proofs.Words.{◌≡◌, ℕ, zero, suc, ◌+◌, ◌<◌, List, [], ◌∷◌, length, get_or, set, take, refl, ap, arith, length-append, insert, remove, take-set, joined}
use Rattle.sorted_blocks.proofs.Joined.{start}

module _ {A : Type 0} where
  pub start-set : (bs : List (List A)) (i : ℕ) (c : List A) → start (set bs i c) i ≡ start bs i
  start-set bs i c = ap (λ xs. length (joined xs)) (take-set bs i c)

  pub start-split : (bs : List (List A)) (i : ℕ) (f k : List A) → i < length bs → start (insert (set bs i f) (suc i) k) i ≡ start bs i
  start-split [] i f k h = absurd (omega arith)
  start-split (b ∷ bs) zero f k h = refl
  start-split (b ∷ bs) (suc i) f k h = omega (arith, start-split bs i f k (omega arith), length-append b (joined (take i bs)), length-append b (joined (take i (insert (set bs i f) (suc i) k))))

  pub start-split_suc : (bs : List (List A)) (i : ℕ) (f k : List A) → i < length bs → start (insert (set bs i f) (suc i) k) (suc i) ≡ start bs i + length f
  start-split_suc [] i f k h = absurd (omega arith)
  start-split_suc (b ∷ bs) zero f k h = omega (arith, length-append f [])
  start-split_suc (b ∷ bs) (suc i) f k h = omega (arith, start-split_suc bs i f k (omega arith), length-append b (joined (take i bs)), length-append b (joined (take (suc i) (insert (set bs i f) (suc i) k))))

  pub at-split : (bs : List (List A)) (i : ℕ) (f k : List A) → i < length bs → get_or (insert (set bs i f) (suc i) k) i [] ≡ f
  at-split [] i f k h = absurd (omega arith)
  at-split (b ∷ bs) zero f k h = refl
  at-split (b ∷ bs) (suc i) f k h = at-split bs i f k (omega arith)

  pub at-split_suc : (bs : List (List A)) (i : ℕ) (f k : List A) → i < length bs → get_or (insert (set bs i f) (suc i) k) (suc i) [] ≡ k
  at-split_suc [] i f k h = absurd (omega arith)
  at-split_suc (b ∷ bs) zero f k h = refl
  at-split_suc (b ∷ bs) (suc i) f k h = at-split_suc bs i f k (omega arith)

  pub start-merge : (bs : List (List A)) (i : ℕ) (x : List A) → suc i < length bs → start (set (remove bs (suc i)) i x) i ≡ start bs i
  start-merge [] i x h = absurd (omega arith)
  start-merge (b ∷ bs) zero x h = refl
  start-merge (b ∷ bs) (suc i) x h = omega (arith, start-merge bs i x (omega arith), length-append b (joined (take i bs)), length-append b (joined (take i (set (remove bs (suc i)) i x))))

  pub at-merge : (bs : List (List A)) (i : ℕ) (x : List A) → suc i < length bs → get_or (set (remove bs (suc i)) i x) i [] ≡ x
  at-merge [] i x h = absurd (omega arith)
  at-merge (b ∷ []) zero x h = absurd (omega arith)
  at-merge (b ∷ c ∷ bs) zero x h = refl
  at-merge (b ∷ bs) (suc i) x h = at-merge bs i x (omega arith)

  pub start-remove : (bs : List (List A)) (i : ℕ) → i < length bs → start (remove bs i) i ≡ start bs i
  start-remove [] i h = absurd (omega arith)
  start-remove (b ∷ bs) zero h = refl
  start-remove (b ∷ bs) (suc i) h = omega (arith, start-remove bs i (omega arith), length-append b (joined (take i bs)), length-append b (joined (take i (remove bs i))))
