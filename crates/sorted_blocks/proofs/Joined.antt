-- What an edit of a block is to the list of all items.
use Rattle.sorted_blocks.proofs.Words.{◌≡◌, ℕ, zero, suc, ◌+◌, ◌-◌, ◌<◌, ◌≤◌, List, [], ◌∷◌, ◌++◌, length, get_or, set, take, drop, refl, sym, ap, ◌∙◌, arith, length-append, append_assoc, zero-add, insert, remove, take-append-drop, get_or_append_left, get_or-append-add, insert-append_left, insert-append_right, remove-append_right, joined, cut}
use Rattle.sorted_blocks.proofs.Cuts.{cut-append_left, cut-append_right}

module _ {A : Type 0} where
  -- how many items stand before the block of this number
  abbrev pub start : List (List A) → ℕ → ℕ
  start bs i = length (joined (take i bs))

  pub joined-put : (bs : List (List A)) (i at : ℕ) (x : A) → i < length bs → at ≤ length (get_or bs i []) → joined (set bs i (insert (get_or bs i []) at x)) ≡ insert (joined bs) (start bs i + at) x
  joined-put [] i at x h l = absurd (omega arith)
  joined-put (b ∷ bs) zero at x h l = rw zero-add (sym (insert-append_left b (joined bs) at x l))
  joined-put (b ∷ bs) (suc i) at x h l =
      let r = joined-put bs i at x (omega arith) l in
      let n = length-append b (joined (take i bs)) in
      let m : start (b ∷ bs) (suc i) + at - length b ≡ start bs i + at = omega (arith, n) in
      ap (λ xs. b ++ xs) r ∙ ap (λ k. b ++ insert (joined bs) k x) (sym m) ∙ sym (insert-append_right b (joined bs) (length b) (start (b ∷ bs) (suc i) + at) x refl (omega (arith, n)))

  -- a block of one item goes
  alone : (b xs : List A) → length b ≡ 1 → xs ≡ remove (b ++ xs) 0
  alone [] xs h = absurd (omega arith)
  alone (x ∷ []) xs h = refl
  alone (x ∷ y ∷ b) xs h = absurd (omega arith)

  pub joined-whole : (bs : List (List A)) (i : ℕ) → i < length bs → length (get_or bs i []) ≡ 1 → joined (remove bs i) ≡ remove (joined bs) (start bs i)
  joined-whole [] i h l = absurd (omega arith)
  joined-whole (b ∷ bs) zero h l = alone b (joined bs) l
  joined-whole (b ∷ bs) (suc i) h l =
      let r = joined-whole bs i (omega arith) l in
      let n = length-append b (joined (take i bs)) in
      let m : start (b ∷ bs) (suc i) - length b ≡ start bs i = omega (arith, n) in
      ap (λ xs. b ++ xs) r ∙ ap (λ k. b ++ remove (joined bs) k) (sym m) ∙ sym (remove-append_right b (joined bs) (length b) (start (b ∷ bs) (suc i)) refl (omega (arith, n)))

  -- items of a block go
  pub joined-cut : (bs : List (List A)) (i at count : ℕ) → i < length bs → at + count ≤ length (get_or bs i []) → joined (set bs i (cut (get_or bs i []) at count)) ≡ cut (joined bs) (start bs i + at) count
  joined-cut [] i at count h l = absurd (omega arith)
  joined-cut (b ∷ bs) zero at count h l = rw zero-add (sym (cut-append_left b (joined bs) at count l))
  joined-cut (b ∷ bs) (suc i) at count h l =
      let r = joined-cut bs i at count (omega arith) l in
      let n = length-append b (joined (take i bs)) in
      let m : start (b ∷ bs) (suc i) + at - length b ≡ start bs i + at = omega (arith, n) in
      ap (λ xs. b ++ xs) r ∙ ap (λ k. b ++ cut (joined bs) k count) (sym m) ∙ sym (cut-append_right b (joined bs) (length b) (start (b ∷ bs) (suc i) + at) count refl (omega (arith, n)))

  pub joined-split : (half : ℕ) (bs : List (List A)) (i : ℕ) → i < length bs → joined (insert (set bs i (take half (get_or bs i []))) (suc i) (drop half (get_or bs i []))) ≡ joined bs
  joined-split half [] i h = absurd (omega arith)
  joined-split half (b ∷ bs) zero h = sym (append_assoc (take half b) (drop half b) (joined bs)) ∙ ap (λ xs. xs ++ joined bs) (take-append-drop half b)
  joined-split half (b ∷ bs) (suc i) h = ap (λ xs. b ++ xs) (joined-split half bs i (omega arith))

  pub joined-merge : (bs : List (List A)) (i : ℕ) → suc i < length bs → joined (set (remove bs (suc i)) i (get_or bs i [] ++ get_or bs (suc i) [])) ≡ joined bs
  joined-merge [] i h = absurd (omega arith)
  joined-merge (b ∷ []) i h = absurd (omega arith)
  joined-merge (b ∷ c ∷ bs) zero h = append_assoc b c (joined bs)
  joined-merge (b ∷ c ∷ bs) (suc i) h = ap (λ xs. b ++ xs) (joined-merge (c ∷ bs) i (omega arith))

  -- the items of a block, in the list
  pub item_at : (bs : List (List A)) (i at : ℕ) (d : A) → i < length bs → at < length (get_or bs i []) → get_or (joined bs) (start bs i + at) d ≡ get_or (get_or bs i []) at d
  item_at [] i at d h l = absurd (omega arith)
  item_at (b ∷ bs) zero at d h l = rw zero-add (get_or_append_left b (joined bs) d at l)
  item_at (b ∷ bs) (suc i) at d h l =
      let n = length-append b (joined (take i bs)) in
      let m : start (b ∷ bs) (suc i) + at ≡ length b + (start bs i + at) = omega (arith, n) in
      ap (λ k. get_or (b ++ joined bs) k d) m ∙ get_or-append-add b (joined bs) (start bs i + at) d ∙ item_at bs i at d (omega arith) l

  -- where the next block starts, and where the list ends
  pub start-suc : (bs : List (List A)) (i : ℕ) → i < length bs → start bs (suc i) ≡ start bs i + length (get_or bs i [])
  start-suc [] i h = absurd (omega arith)
  start-suc (b ∷ bs) zero h = omega (arith, length-append b [])
  start-suc (b ∷ bs) (suc i) h = omega (arith, start-suc bs i (omega arith), length-append b (joined (take (suc i) bs)), length-append b (joined (take i bs)))

  pub start-all : (bs : List (List A)) (i : ℕ) → length bs ≤ i → start bs i ≡ length (joined bs)
  start-all [] zero h = refl
  start-all [] (suc i) h = refl
  start-all (b ∷ bs) zero h = absurd (omega arith)
  start-all (b ∷ bs) (suc i) h = omega (arith, start-all bs i (omega arith), length-append b (joined bs), length-append b (joined (take i bs)))

  pub start-within : (bs : List (List A)) (i : ℕ) → start bs i ≤ length (joined bs)
  start-within bs zero = omega arith
  start-within [] (suc i) = omega arith
  start-within (b ∷ bs) (suc i) = omega (arith, start-within bs i, length-append b (joined bs), length-append b (joined (take i bs)))
