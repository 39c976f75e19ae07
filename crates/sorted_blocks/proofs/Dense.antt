-- After every edit neighbouring blocks have more than half a block's items together, so that there are few.
use Rattle.sorted_blocks.proofs.Words.{◌≡◌, ℕ, zero, suc, ◌+◌, ◌-◌, ◌*◌, ◌<◌, ◌≤◌, List, [], ◌∷◌, ◌++◌, length, get_or, set, take, drop, ap, subst, ◌∙◌, arith, length-append, length-drop, add-one, inl, inr, false, IsTrue, insert, remove, suc-mul, zero-mul, cases_lt, false≢true, length-set, length-take-le, get_or-set_other, get_or-set_same, length-insert, length-remove, get_or-remove_below, get_or-remove_above, get_or-insert_below, get_or-insert_at, get_or-insert_above, Shape, joined, AllFilled, IsDense, IsDenseIn}
use Rattle.sorted_blocks.proofs.Counted.{filled-get}

pub not_short : (n half : ℕ) → (n ≤ half → IsTrue false) → half < n
not_short n half f = elim (cases_lt half n) [
  | inl h ↦ h
  | inr l ↦ absurd (false≢true (f l))
]

module _ {A : Type 0} where
  -- how many items the block of this number has
  abbrev pub long : List (List A) → ℕ → ℕ
  long bs i = length (get_or bs i [])

  pub dense-none : (half : ℕ) (bs : List (List A)) → bs ≡ [] → IsDense half bs
  unfolding IsDenseIn
  dense-none half bs e i l h = absurd (omega (arith, h, ap length e))

  pub dense-one : (half : ℕ) (bs : List (List A)) (b : List A) → bs ≡ b ∷ [] → IsDense half bs
  unfolding IsDenseIn
  dense-one half bs b e i l h = absurd (omega (arith, h, ap length e))

  -- a block that grows
  pub dense-set : (half : ℕ) (bs : List (List A)) (i : ℕ) (c : List A) → i < length bs → long bs i ≤ length c → IsDense half bs → IsDense half (set bs i c)
  unfolding IsDenseIn
  dense-set half bs i c h m d j l k = omega (arith, d j l (omega (arith, k, length-set bs i c)), more bs i c m j, more bs i c m (j + 1))
    where
      more : (bs : List (List A)) (i : ℕ) (c : List A) → long bs i ≤ length c → (j : ℕ) → long bs j ≤ long (set bs i c) j
      more [] i c m j = omega arith
      more (b ∷ bs) zero c m zero = m
      more (b ∷ bs) zero c m (suc j) = omega arith
      more (b ∷ bs) (suc i) c m zero = omega arith
      more (b ∷ bs) (suc i) c m (suc j) = more bs i c m j

  -- a block that shrinks spoils its own pairs alone
  pub front-set : (half : ℕ) (bs : List (List A)) (i : ℕ) (c : List A) → IsDense half bs → i < length bs → IsDenseIn half (set bs i c) 0 i
  unfolding IsDenseIn
  front-set half bs i c d h j l k =
      let a = ap length (get_or-set_other bs i j c [] (λ e. absurd (omega (arith, k, e)))) in
      let b = ap length (get_or-set_other bs i (j + 1) c [] (λ e. absurd (omega (arith, k, e)))) in
      omega (arith, a, b, d j l (omega (arith, k, h)))

  pub back-set : (half : ℕ) (bs : List (List A)) (i : ℕ) (c : List A) → IsDense half bs → IsDenseIn half (set bs i c) (i + 1) (length (set bs i c))
  unfolding IsDenseIn
  back-set half bs i c d j l k =
      let a = ap length (get_or-set_other bs i j c [] (λ e. absurd (omega (arith, l, e)))) in
      let b = ap length (get_or-set_other bs i (j + 1) c [] (λ e. absurd (omega (arith, l, e)))) in
      omega (arith, a, b, d j (omega arith) (omega (arith, k, length-set bs i c)))

  -- a full block that becomes two
  pub dense-split : (half : ℕ) (bs : List (List A)) (i : ℕ) (f k : List A) → AllFilled half bs → i < length bs → 1 ≤ half → length f ≡ half → length k ≡ half → IsDense half bs → IsDense half (insert (set bs i f) (i + 1) k)
  unfolding IsDenseIn
  dense-split half bs i f k filled h some fl kl d j l n =
      let u = length-set bs i f in
      let m : i + 1 ≤ length (set bs i f) = omega (arith, u, h) in
      let v = length-insert (set bs i f) (i + 1) k m in
      let at_i = ap length (get_or-insert_below (set bs i f) (i + 1) k [] i (omega arith) m) in
      let is_f = ap length (get_or-set_same bs i f [] h) in
      let at_k = ap length (get_or-insert_at (set bs i f) (i + 1) k [] m) in
      let below : (j : ℕ) → j < i → long (insert (set bs i f) (i + 1) k) j ≡ long bs j = λ j l. ap length (get_or-insert_below (set bs i f) (i + 1) k [] j (omega (arith, l)) m) ∙ ap length (get_or-set_other bs i j f [] (λ e. absurd (omega (arith, l, e)))) in
      let above : (j : ℕ) → i < j → long (insert (set bs i f) (i + 1) k) (j + 1) ≡ long bs j = λ j l. ap length (get_or-insert_above (set bs i f) (i + 1) k [] j (omega (arith, l)) m) ∙ ap length (get_or-set_other bs i j f [] (λ e. absurd (omega (arith, l, e)))) in
      elim (cases_lt (j + 1) i) [
        | inl front ↦ omega (arith, below j (omega (arith, front)), below (j + 1) front, d j l (omega (arith, front, h)))
        | inr rest ↦ elim (cases_lt j i) [
          | inl edge ↦
              let e : j + 1 ≡ i = omega (arith, edge, rest) in
              let is = ap (λ n. long (insert (set bs i f) (i + 1) k) n) e in
              omega (arith, is, at_i, is_f, fl, below j edge, (filled-get half bs j filled (omega (arith, edge, h))).0)
          | inr behind ↦ elim (cases_lt i j) [
            | inr same ↦
                let e : j ≡ i = omega (arith, behind, same) in
                let is = ap (λ n. long (insert (set bs i f) (i + 1) k) n) e in
                let is2 = ap (λ n. long (insert (set bs i f) (i + 1) k) (n + 1)) e in
                omega (arith, is, is2, at_i, at_k, is_f, fl, kl, some)
            | inl past ↦
                let e : j - 1 + 1 ≡ j = omega (arith, past) in
                let is = ap (λ n. long (insert (set bs i f) (i + 1) k) n) e in
                elim (cases_lt (i + 1) j) [
                  | inr next ↦
                      let e2 : j ≡ i + 1 = omega (arith, past, next) in
                      let is2 = ap (λ n. long (insert (set bs i f) (i + 1) k) n) e2 in
                      omega (arith, is2, at_k, kl, above j past, (filled-get half bs j filled (omega (arith, n, v, u))).0)
                  | inl far ↦
                      let old = ap (λ n. long bs n) e in
                      omega (arith, is, old, above (j - 1) (omega (arith, far)), above j past, d (j - 1) (omega arith) (omega (arith, n, v, u)))
                ]
          ]
        ]
      ]

  -- a block of one item that goes: its neighbours are long enough
  pub dense-remove : (half : ℕ) (bs : List (List A)) (i : ℕ) → AllFilled half bs → i < length bs → long bs i ≡ 1 → IsDense half bs → IsDense half (remove bs i)
  unfolding IsDenseIn
  dense-remove half bs i filled h one d j l n =
      let v = length-remove bs i h in
      let below : (j : ℕ) → j < i → long (remove bs i) j ≡ long bs j = λ j l. ap length (get_or-remove_below bs i [] j l h) in
      let above : (j : ℕ) → i ≤ j → long (remove bs i) j ≡ long bs (j + 1) = λ j l. ap length (get_or-remove_above bs i [] j l h) in
      elim (cases_lt (j + 1) i) [
        | inl front ↦ omega (arith, below j (omega (arith, front)), below (j + 1) front, d j l (omega (arith, front, h)))
        | inr rest ↦ elim (cases_lt j i) [
          | inl edge ↦
              let e : j + 1 ≡ i = omega (arith, edge, rest) in
              let is = ap (λ n. long bs n) e in
              omega (arith, is, one, below j edge, above (j + 1) rest, d j l (omega (arith, edge, h)), (filled-get half bs (j + 1 + 1) filled (omega (arith, n, v))).0)
          | inr behind ↦ omega (arith, above j behind, above (j + 1) rest, d (j + 1) (omega arith) (omega (arith, n, v)))
        ]
      ]

  -- two blocks that become one
  merged-below : (bs : List (List A)) (i : ℕ) (x : List A) → i + 1 < length bs → (j : ℕ) → j < i → long (set (remove bs (i + 1)) i x) j ≡ long bs j
  merged-below bs i x h j l = ap length (get_or-set_other (remove bs (i + 1)) i j x [] (λ e. absurd (omega (arith, l, e))) ∙ get_or-remove_below bs (i + 1) [] j (omega (arith, l)) h)

  merged-at : (bs : List (List A)) (i : ℕ) (x : List A) → i + 1 < length bs → long (set (remove bs (i + 1)) i x) i ≡ length x
  merged-at bs i x h = ap length (get_or-set_same (remove bs (i + 1)) i x [] (omega (arith, h, length-remove bs (i + 1) h)))

  merged-above : (bs : List (List A)) (i : ℕ) (x : List A) → i + 1 < length bs → (j : ℕ) → i < j → long (set (remove bs (i + 1)) i x) j ≡ long bs (j + 1)
  merged-above bs i x h j l = ap length (get_or-set_other (remove bs (i + 1)) i j x [] (λ e. absurd (omega (arith, l, e))) ∙ get_or-remove_above bs (i + 1) [] j (omega (arith, l)) h)

  pub front-merge : (half : ℕ) (bs : List (List A)) (i : ℕ) (x : List A) → i + 1 < length bs → IsDenseIn half bs 0 i → IsDenseIn half (set (remove bs (i + 1)) i x) 0 i
  unfolding IsDenseIn
  front-merge half bs i x h d j l n = omega (arith, merged-below bs i x h j (omega (arith, n)), merged-below bs i x h (j + 1) n, d j l n)

  -- the pairs behind, once those of the second block are dense
  pub back-merge : (half : ℕ) (bs : List (List A)) (i : ℕ) → i + 1 < length bs → IsDenseIn half bs (i + 1) (length bs) → IsDenseIn half (set (remove bs (i + 1)) i (get_or bs i [] ++ get_or bs (i + 1) [])) i (length (set (remove bs (i + 1)) i (get_or bs i [] ++ get_or bs (i + 1) [])))
  unfolding IsDenseIn
  back-merge half bs i h d j l n =
      let x = get_or bs i [] ++ get_or bs (i + 1) [] in
      let v = length-remove bs (i + 1) h in
      let u = length-set (remove bs (i + 1)) i x in
      elim (cases_lt i j) [
        | inl past ↦ omega (arith, merged-above bs i x h j past, merged-above bs i x h (j + 1) (omega (arith, past)), d (j + 1) (omega (arith, past)) (omega (arith, n, u, v)))
        | inr same ↦
            let e : j ≡ i = omega (arith, same, l) in
            let is = ap (λ n. long (set (remove bs (i + 1)) i x) n) e in
            let is2 = ap (λ n. long bs (n + 1)) e in
            omega (arith, is, is2, merged-at bs i x h, length-append (get_or bs i []) (get_or bs (i + 1) []), merged-above bs i x h (j + 1) (omega (arith, e)), d (j + 1) (omega (arith, e)) (omega (arith, n, u, v)))
      ]

  pub dense-merge : (half : ℕ) (bs : List (List A)) (i : ℕ) → i + 1 < length bs → IsDenseIn half bs 0 (i + 1) → IsDenseIn half bs (i + 1) (length bs) → IsDense half (set (remove bs (i + 1)) i (get_or bs i [] ++ get_or bs (i + 1) []))
  unfolding IsDenseIn
  dense-merge half bs i h d c j l n =
      let x = get_or bs i [] ++ get_or bs (i + 1) [] in
      elim (cases_lt j i) [
        | inr behind ↦ back-merge half bs i h c j behind n
        | inl before ↦ elim (cases_lt (j + 1) i) [
          | inl front ↦ omega (arith, merged-below bs i x h j before, merged-below bs i x h (j + 1) front, d j l (omega (arith, before)))
          | inr edge ↦
              let e : j + 1 ≡ i = omega (arith, before, edge) in
              let is = ap (λ n. long (set (remove bs (i + 1)) i x) n) e in
              let is2 = ap (λ n. long bs n) e in
              omega (arith, is, is2, merged-at bs i x h, length-append (get_or bs i []) (get_or bs (i + 1) []), merged-below bs i x h j before, d j l (omega (arith, before)))
        ]
      ]

  -- two parts that meet
  pub dense-both : (half : ℕ) (bs : List (List A)) (i : ℕ) → IsDenseIn half bs 0 (i + 1) → IsDenseIn half bs i (length bs) → IsDense half bs
  unfolding IsDenseIn
  dense-both half bs i d c j l n = elim (cases_lt j i) [
    | inl before ↦ d j l (omega (arith, before))
    | inr behind ↦ c j behind n
  ]

  pub dense-more : (half : ℕ) (bs : List (List A)) (i to : ℕ) → (i + 1 < to → half < long bs i + long bs (i + 1)) → IsDenseIn half bs (i + 1) to → IsDenseIn half bs i to
  unfolding IsDenseIn
  dense-more half bs i to pair c j l n = elim (cases_lt i j) [
    | inl past ↦ c j (omega (arith, past)) n
    | inr same ↦
        let e : j ≡ i = omega (arith, same, l) in
        let is = ap (λ n. long bs n) e in
        let is2 = ap (λ n. long bs (n + 1)) e in
        omega (arith, is, is2, pair (omega (arith, e, n)))
  ]

  pub dense-longer : (half : ℕ) (bs : List (List A)) (from i : ℕ) → half < long bs i + long bs (i + 1) → IsDenseIn half bs from (i + 1) → IsDenseIn half bs from (i + 1 + 1)
  unfolding IsDenseIn
  dense-longer half bs from i pair c j l n = elim (cases_lt j i) [
    | inl past ↦ c j l (omega (arith, past))
    | inr same ↦
        let e : j ≡ i = omega (arith, same, n) in
        let is = ap (λ n. long bs n) e in
        let is2 = ap (λ n. long bs (n + 1)) e in
        omega (arith, is, is2, pair)
  ]

  -- few blocks: each pair of neighbours has more than half a block
  pub dense-few : (half : ℕ) (bs : List (List A)) → IsDense half bs → (length bs - 1) * (half + 1) ≤ 2 * length (joined bs)
  unfolding IsDenseIn
  dense-few half bs d = omega (arith, few bs (λ j n. subst (λ (k : ℕ). half < long bs j + long bs k) (add-one j) (d j (omega arith) (omega (arith, n)))))
    where
      few : (bs : List (List A)) → ((j : ℕ) → suc j < length bs → half < long bs j + long bs (suc j)) → (length bs - 1) * (half + 1) + long bs 0 ≤ 2 * length (joined bs)
      few [] d = omega (arith, zero-mul (half + 1))
      few (b ∷ []) d = omega (arith, zero-mul (half + 1), length-append b [])
      few (b ∷ c ∷ bs) d =
          let rest = few (c ∷ bs) (λ j n. d (suc j) (omega (arith, n))) in
          let pair = d 0 (omega arith) in
          let e : length (b ∷ c ∷ bs) - 1 ≡ suc (length bs) = omega arith in
          let e2 : length (c ∷ bs) - 1 ≡ length bs = omega arith in
          let u = ap (λ n. n * (half + 1)) e in
          let v = ap (λ n. n * (half + 1)) e2 in
          omega (arith, rest, pair, u, v, suc-mul (length bs) (half + 1), length-append b (joined (c ∷ bs)))

  -- as the edits of the code have them
  pub split-dense : (half : ℕ) (s : Shape A) (i : ℕ) → AllFilled half s.blocks → i < length s.blocks → 1 ≤ half → long s.blocks i ≡ half + half → IsDense half s.blocks → IsDense half (insert (set s.blocks i (take half (get_or s.blocks i []))) (i + 1) (drop half (get_or s.blocks i [])))
  split-dense half s i filled h some full d =
      let row = get_or s.blocks i [] in
      dense-split half s.blocks i (take half row) (drop half row) filled h some (length-take-le half row (omega (arith, full))) (omega (arith, full, length-drop half row)) d

  pub put-dense : (half : ℕ) (s t : Shape A) (i at : ℕ) (x : A) → i < length s.blocks → at ≤ long s.blocks i → t.blocks ≡ set s.blocks i (insert (get_or s.blocks i []) at x) → IsDense half s.blocks → IsDense half t.blocks
  put-dense half s t i at x h l e d = rw e (dense-set half s.blocks i (insert (get_or s.blocks i []) at x) h (omega (arith, length-insert (get_or s.blocks i []) at x l)) d)
