-- The row of the first items follows each edit of the blocks.
use Rattle.sorted_blocks.proofs.Words.{◌≡◌, ℕ, zero, suc, ◌+◌, ◌<◌, ◌≤◌, List, [], ◌∷◌, length, get_or, set, refl, ap, sym, ◌∙◌, arith, insert, remove, length-set, length-insert, length-remove, firsts, AllFilled, IsLed, IsLead}
use Rattle.sorted_blocks.proofs.Counted.{filled-get}

module _ {A : Type 0} where
  pub firsts-length : (half : ℕ) (bs : List (List A)) → AllFilled half bs → length (firsts bs) ≡ length bs
  unfolding firsts AllFilled
  firsts-length half [] f = refl
  firsts-length half ([] ∷ bs) f = let s = f.0 in absurd (omega (arith, s))
  firsts-length half ((x ∷ b) ∷ bs) f = ap suc (firsts-length half bs f.2)

  pub firsts-at : (half : ℕ) (bs : List (List A)) (i : ℕ) (d : A) → AllFilled half bs → i < length bs → get_or (firsts bs) i d ≡ get_or (get_or bs i []) 0 d
  unfolding firsts AllFilled
  firsts-at half [] i d f h = absurd (omega (arith, h))
  firsts-at half ([] ∷ bs) i d f h = let s = f.0 in absurd (omega (arith, s))
  firsts-at half ((x ∷ b) ∷ bs) zero d f h = refl
  firsts-at half ((x ∷ b) ∷ bs) (suc i) d f h = firsts-at half bs i d f.2 (omega (arith, h))

  pub firsts-set : (half : ℕ) (bs : List (List A)) (i : ℕ) (c : List A) (y : A) → AllFilled half bs → i < length bs → 0 < length c → y ≡ get_or c 0 y → firsts (set bs i c) ≡ set (firsts bs) i y
  unfolding firsts AllFilled
  firsts-set half [] i c y f h some is = absurd (omega (arith, h))
  firsts-set half ([] ∷ bs) i c y f h some is = let s = f.0 in absurd (omega (arith, s))
  firsts-set half ((x ∷ b) ∷ bs) zero [] y f h some is = absurd (omega (arith, some))
  firsts-set half ((x ∷ b) ∷ bs) zero (z ∷ c) y f h some is = ap (λ w. w ∷ firsts bs) (sym is)
  firsts-set half ((x ∷ b) ∷ bs) (suc i) c y f h some is = ap (λ xs. x ∷ xs) (firsts-set half bs i c y f.2 (omega (arith, h)) some is)

  pub firsts-insert : (half : ℕ) (bs : List (List A)) (i : ℕ) (c : List A) (y : A) → AllFilled half bs → i ≤ length bs → 0 < length c → y ≡ get_or c 0 y → firsts (insert bs i c) ≡ insert (firsts bs) i y
  unfolding firsts AllFilled
  firsts-insert half [] zero [] y f h some is = absurd (omega (arith, some))
  firsts-insert half [] zero (z ∷ c) y f h some is = ap (λ w. w ∷ []) (sym is)
  firsts-insert half [] (suc i) c y f h some is = absurd (omega (arith, h))
  firsts-insert half ([] ∷ bs) i c y f h some is = let s = f.0 in absurd (omega (arith, s))
  firsts-insert half ((x ∷ b) ∷ bs) zero [] y f h some is = absurd (omega (arith, some))
  firsts-insert half ((x ∷ b) ∷ bs) zero (z ∷ c) y f h some is = ap (λ w. w ∷ x ∷ firsts bs) (sym is)
  firsts-insert half ((x ∷ b) ∷ bs) (suc i) c y f h some is = ap (λ xs. x ∷ xs) (firsts-insert half bs i c y f.2 (omega (arith, h)) some is)

  pub firsts-remove : (half : ℕ) (bs : List (List A)) (i : ℕ) → AllFilled half bs → i < length bs → firsts (remove bs i) ≡ remove (firsts bs) i
  unfolding firsts AllFilled
  firsts-remove half [] i f h = absurd (omega (arith, h))
  firsts-remove half ([] ∷ bs) i f h = let s = f.0 in absurd (omega (arith, s))
  firsts-remove half ((x ∷ b) ∷ bs) zero f h = refl
  firsts-remove half ((x ∷ b) ∷ bs) (suc i) f h = ap (λ xs. x ∷ xs) (firsts-remove half bs i f.2 (omega (arith, h)))

  pub is_lead : (half : ℕ) (bs : List (List A)) → AllFilled half bs → IsLead bs (firsts bs)
  is_lead half bs f = record {
    long = firsts-length half bs f;
    some = λ i h. (filled-get half bs i f h).0;
    same = λ i d h. firsts-at half bs i d f h;
  }

  pub led_set : (half : ℕ) (bs : List (List A)) (spare : ℕ) (row : List A) (cap : ℕ) → AllFilled half bs → IsLed bs spare row cap → (i : ℕ) (c : List A) (y : A) → i < length bs → 0 < length c → y ≡ get_or c 0 y → IsLed (set bs i c) spare (set row i y) cap
  led_set half bs spare row cap f led i c y h some is = record {
    row_is = ap (λ xs. set xs i y) led.row_is ∙ sym (firsts-set half bs i c y f h some is);
    row_room = omega (arith, led.row_room, length-set bs i c);
  }

  pub led_insert : (half : ℕ) (bs : List (List A)) (spare : ℕ) (row : List A) (cap : ℕ) → AllFilled half bs → IsLed bs spare row cap → (i : ℕ) (c : List A) (y : A) → i ≤ length bs → 0 < length c → y ≡ get_or c 0 y → (spare2 cap2 : ℕ) → spare2 + 1 ≡ spare → cap ≤ cap2 → IsLed (insert bs i c) spare2 (insert row i y) cap2
  led_insert half bs spare row cap f led i c y h some is spare2 cap2 p u = record {
    row_is = ap (λ xs. insert xs i y) led.row_is ∙ sym (firsts-insert half bs i c y f h some is);
    row_room = omega (arith, led.row_room, length-insert bs i c h, p, u);
  }

  pub led_remove : (half : ℕ) (bs : List (List A)) (spare : ℕ) (row : List A) (cap : ℕ) → AllFilled half bs → IsLed bs spare row cap → (i : ℕ) → i < length bs → (spare2 cap2 : ℕ) → spare2 ≡ spare + 1 → cap ≤ cap2 → IsLed (remove bs i) spare2 (remove row i) cap2
  led_remove half bs spare row cap f led i h spare2 cap2 p u = record {
    row_is = ap (λ xs. remove xs i) led.row_is ∙ sym (firsts-remove half bs i f h);
    row_room = omega (arith, led.row_room, length-remove bs i h, p, u);
  }

  pub led_long : (half : ℕ) (bs : List (List A)) (spare : ℕ) (row : List A) (cap : ℕ) → AllFilled half bs → IsLed bs spare row cap → length row ≡ length bs
  led_long half bs spare row cap f led = ap length led.row_is ∙ firsts-length half bs f

  -- a block that contracts see has its first item in the row
  pub led_within : (half : ℕ) (bs now : List (List A)) (spare : ℕ) (row : List A) (cap i : ℕ) → AllFilled half bs → IsLed bs spare row cap → bs ≡ now → i < length now → i < length row
  led_within half bs now spare row cap i f led e h = let within : i < length bs = rw e h in omega (arith, within, led_long half bs spare row cap f led)
