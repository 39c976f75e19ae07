-- Lists with some items put in.
use Rattle.sorted_blocks.proofs.Words.{◌≡◌, ℕ, zero, suc, ◌+◌, ◌-◌, ◌<◌, ◌≤◌, List, [], ◌∷◌, ◌++◌, length, get_or, set, take, drop, sym, ap, ap₂, ◌∙◌, arith, length-append, length-drop, append_assoc, zero-add, take-append-add, drop-append-add, drop_at, take_at, length-take-le, take-append-le, drop-append-le, take-append-drop, spliced, joined}
use Rattle.sorted_blocks.proofs.Joined.{start}

module _ {A : Type 0} where
  pub length-spliced : (xs : List A) (at : ℕ) (run : List A) → at ≤ length xs → length (spliced xs at run) ≡ length xs + length run
  unfolding spliced
  length-spliced xs at run w =
      let a = length-take-le at xs w in
      let b = length-drop at xs in
      let c = length-append (take at xs) (run ++ drop at xs) in
      let d = length-append run (drop at xs) in
      omega (arith, a, b, c, d, w)

  spliced-append_left : (xs ys : List A) (at : ℕ) (run : List A) → at ≤ length xs → spliced (xs ++ ys) at run ≡ spliced xs at run ++ ys
  unfolding spliced
  spliced-append_left xs ys at run w =
      ap₂ (λ p q. p ++ (run ++ q)) (take-append-le at xs ys w) (drop-append-le at xs ys w)
      ∙ ap (λ q. take at xs ++ q) (sym (append_assoc run (drop at xs) ys))
      ∙ sym (append_assoc (take at xs) (run ++ drop at xs) ys)

  spliced-append_right : (xs ys : List A) (at : ℕ) (run : List A) → length xs ≤ at → spliced (xs ++ ys) at run ≡ xs ++ spliced ys (at - length xs) run
  unfolding spliced
  spliced-append_right xs ys at run from =
      let e : at ≡ length xs + (at - length xs) = omega (arith, from) in
      ap₂ (λ p q. p ++ (run ++ q)) (ap (λ k. take k (xs ++ ys)) e ∙ take-append-add xs ys (at - length xs)) (ap (λ k. drop k (xs ++ ys)) e ∙ drop-append-add xs ys (at - length xs))
      ∙ append_assoc xs (take (at - length xs) ys) (run ++ drop (at - length xs) ys)

  -- in a block whose first items are left over
  pub spliced_beyond : (start at : ℕ) (xs run : List A) → start ≤ length xs → drop start (spliced xs (start + at) run) ≡ spliced (drop start xs) at run
  spliced_beyond start at xs run within =
      let len : length (take start xs) ≡ start = length-take-le start xs within in
      let apart = spliced-append_right (take start xs) (drop start xs) (start + at) run (omega (arith, len)) in
      let same : start + at - length (take start xs) ≡ at = omega (arith, len) in
      ap (drop start) (ap (λ zs. spliced zs (start + at) run) (sym (take-append-drop start xs)) ∙ apart) ∙ drop_at (take start xs) _ start len ∙ ap (λ n. spliced (drop start xs) n run) same

  -- appended, and then moved to their place
  pub over_end : (xs run : List A) (at : ℕ) → at ≤ length xs → take at (xs ++ run) ++ (run ++ take (length (xs ++ run) - at - length run) (drop at (xs ++ run))) ≡ spliced xs at run
  unfolding spliced
  over_end xs run at w =
      let m = length (xs ++ run) - at - length run in
      let long : length (drop at xs) ≡ m = omega (arith, length-append xs run, length-drop at xs, w) in
      ap₂ (λ p q. p ++ (run ++ q)) (take-append-le at xs run w) (ap (take m) (drop-append-le at xs run w) ∙ take_at (drop at xs) run m long)

  -- ---- in the list of all items

  pub joined-spliced : (bs : List (List A)) (i at : ℕ) (run : List A) → i < length bs → at ≤ length (get_or bs i []) → joined (set bs i (spliced (get_or bs i []) at run)) ≡ spliced (joined bs) (start bs i + at) run
  joined-spliced [] i at run h l = absurd (omega arith)
  joined-spliced (b ∷ bs) zero at run h l = rw zero-add (sym (spliced-append_left b (joined bs) at run l))
  joined-spliced (b ∷ bs) (suc i) at run h l =
      let r = joined-spliced bs i at run (omega arith) l in
      let n = length-append b (joined (take i bs)) in
      let m : start (b ∷ bs) (suc i) + at - length b ≡ start bs i + at = omega (arith, n) in
      ap (λ xs. b ++ xs) r ∙ ap (λ k. b ++ spliced (joined bs) k run) (sym m) ∙ sym (spliced-append_right b (joined bs) (start (b ∷ bs) (suc i) + at) run (omega (arith, n)))
