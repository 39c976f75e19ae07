-- Lists without some items.
use Rattle.sorted_blocks.proofs.Words.{◌≡◌, ℕ, ◌+◌, ◌-◌, ◌≤◌, List, ◌++◌, length, take, drop, sym, ap, ap₂, ◌∙◌, arith, length-append, length-drop, append_assoc, add-one, paste, take-append-add, drop-append-add, remove, drop-drop, drop-take, drop_at, take_at, take_all, length-take-le, take-append-le, drop-append-le, cut}

module _ {A : Type 0} where
  pub cut_first : (xs : List A) (n : ℕ) → cut xs 0 n ≡ drop n xs
  unfolding cut
  cut_first xs n =
      let same : 0 + n ≡ n = omega arith in
      ap (λ k. drop k xs) same

  pub cut_one : (xs : List A) (i : ℕ) → cut xs i 1 ≡ remove xs i
  unfolding cut
  cut_one xs i = ap (λ k. take i xs ++ drop k xs) (add-one i)

  pub cut_cut : (xs : List A) (i m n : ℕ) → i ≤ length xs → cut (cut xs i m) i n ≡ cut xs i (m + n)
  unfolding cut
  cut_cut xs i m n w =
      let f = take i xs in
      let b = drop (i + m) xs in
      let len : length f ≡ i = length-take-le i xs w in
      let behind : i + m + n ≡ i + (m + n) = omega arith in
      ap₂ (λ p q. p ++ q) (take_at f b i len) (sym (drop-drop n i (f ++ b)) ∙ ap (drop n) (drop_at f b i len) ∙ drop-drop n (i + m) xs) ∙ ap (λ k. f ++ drop k xs) behind

  pub length-cut : (xs : List A) (i n : ℕ) → i + n ≤ length xs → length (cut xs i n) + n ≡ length xs
  unfolding cut
  length-cut xs i n w =
      let a = length-take-le i xs (omega (arith, w)) in
      let b = length-drop (i + n) xs in
      let c = length-append (take i xs) (drop (i + n) xs) in
      omega (arith, a, b, c, w)

  pub cut-append_left : (xs ys : List A) (i n : ℕ) → i + n ≤ length xs → cut (xs ++ ys) i n ≡ cut xs i n ++ ys
  unfolding cut
  cut-append_left xs ys i n le = ap₂ (λ p q. p ++ q) (take-append-le i xs ys (omega (arith, le))) (drop-append-le (i + n) xs ys le) ∙ sym (append_assoc (take i xs) (drop (i + n) xs) ys)

  pub cut-append_right : (xs ys : List A) (long i n : ℕ) → length xs ≡ long → long ≤ i → cut (xs ++ ys) i n ≡ xs ++ cut ys (i - long) n
  unfolding cut
  cut-append_right xs ys long i n is from =
      let e : i ≡ length xs + (i - long) = omega (arith, is, from) in
      let next : i + n ≡ length xs + (i - long + n) = omega (arith, is, from) in
      ap₂ (λ p q. p ++ q) (ap (λ k. take k (xs ++ ys)) e ∙ take-append-add xs ys (i - long)) (ap (λ k. drop k (xs ++ ys)) next ∙ drop-append-add xs ys (i - long + n))
      ∙ append_assoc xs (take (i - long) ys) (drop (i - long + n) ys)

  -- ---- in a block whose first items are left over

  pub cut_moved : (start at count : ℕ) (xs : List A) → start + (at + count) ≤ length xs → drop (start + count) (paste xs (start + count) (drop start xs) (start + at - start)) ≡ cut (drop start xs) at count
  unfolding cut
  cut_moved start at count xs within =
      let len : length (take (start + count) xs) ≡ start + count = length-take-le (start + count) xs (omega (arith, within)) in
      let moved : start + at - start ≡ at = omega arith in
      let behind : start + count + (start + at - start) ≡ start + (at + count) = omega arith in
      ap (drop (start + count)) (append_assoc (take (start + count) xs) _ _) ∙ drop_at (take (start + count) xs) _ (start + count) len ∙ (λ i. take (moved i) (drop start xs) ++ drop (behind i) xs) ∙ ap (λ ys. take at (drop start xs) ++ ys) (sym (drop-drop (at + count) start xs))

  pub cut_later : (start at count : ℕ) (xs : List A) → start + (at + count) ≤ length xs → drop start (cut xs (start + at) count) ≡ cut (drop start xs) at count
  unfolding cut
  cut_later start at count xs within =
      let len = length-take-le (start + at) xs (omega (arith, within)) in
      let behind : start + at + count ≡ start + (at + count) = omega arith in
      drop-append-le start (take (start + at) xs) (drop (start + at + count) xs) (omega (arith, len)) ∙ ap₂ (λ p q. p ++ q) (drop-take start at xs) (ap (λ k. drop k xs) behind ∙ sym (drop-drop (at + count) start xs))

  -- what stands behind moved up, and the end taken away
  pub cut_closed : (at count long : ℕ) (xs : List A) → length xs ≡ long → at + count ≤ long → take (long - count) (paste xs at (drop (at + count) xs) (long - (at + count))) ≡ cut xs at count
  unfolding cut
  cut_closed at count long xs is within =
      let f = take at xs in
      let b = drop (at + count) xs in
      let m = long - (at + count) in
      let whole : take m b ≡ b = take_all m b (omega (arith, is, length-drop (at + count) xs)) in
      let len : length (f ++ b) ≡ long - count = omega (arith, is, length-append f b, length-take-le at xs (omega (arith, is, within)), length-drop (at + count) xs, within) in
      ap (λ ys. take (long - count) ((f ++ ys) ++ drop (at + m) xs)) whole ∙ take_at (f ++ b) (drop (at + m) xs) (long - count) len
