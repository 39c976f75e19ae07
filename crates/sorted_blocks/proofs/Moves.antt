-- What each edit does to the list and to a place.
use Rattle.sorted_blocks.proofs.Words.{◌≡◌, ℕ, suc, ◌+◌, ◌-◌, ◌<◌, ◌≤◌, List, [], ◌∷◌, ◌++◌, length, get_or, set, take, drop, refl, sym, ap, subst, ◌∙◌, arith, length-append, length-drop, add-one, ◌⊎◌, inl, inr, insert, remove, length-set, length-take-le, get_or-set_same, length-insert, length-remove, Place, Shape, items, joined, cut, before, IsPlace, IsItem, spliced}
use Rattle.sorted_blocks.proofs.Cuts.{length-cut}
use Rattle.sorted_blocks.proofs.Splices.{length-spliced, joined-spliced}
use Rattle.sorted_blocks.proofs.Joined.{start, joined-put, joined-cut, joined-whole, joined-split, joined-merge, item_at, start-suc, start-all}
use Rattle.sorted_blocks.proofs.Starts.{start-set, start-split, start-split_suc, at-split, at-split_suc, start-merge, at-merge, start-remove}

-- the list is the same, and the second place stands in a block where the first one stood
pub record Moved {A : Type 0} (s t : Shape A) (p q : Place) : Type 0 where
  pub same : items t ≡ items s
  pub block : q.block < length t.blocks
  pub at : q.at ≤ length (get_or t.blocks q.block [])
  pub stands : before t q ≡ before s p

module _ {A : Type 0} where
  pub in_block : (s : Shape A) (p : Place) → IsPlace s p → 0 < length s.blocks → p.block < length s.blocks
  unfolding IsPlace
  in_block s p h some = let b = h.0 in omega (arith, b, some)

  pub at_most : (s : Shape A) (p : Place) → IsPlace s p → p.at ≤ length (get_or s.blocks p.block [])
  unfolding IsPlace
  at_most s p h = h.1

  pub item_block : (s : Shape A) (p : Place) → IsItem s p → p.block < length s.blocks
  unfolding IsItem
  item_block s p h = h.0

  pub item_within : (s : Shape A) (p : Place) → IsItem s p → p.at < length (get_or s.blocks p.block [])
  unfolding IsItem
  item_within s p h = h.1

  pub is_item : (s : Shape A) (p : Place) → p.block < length s.blocks → p.at < length (get_or s.blocks p.block []) → IsItem s p
  unfolding IsItem
  is_item s p h l = (h, l)

  pub is_place : (s : Shape A) (p : Place) → p.block < length s.blocks → p.at ≤ length (get_or s.blocks p.block []) → IsPlace s p
  unfolding IsPlace
  is_place s p h l = (omega (arith, h), l)

  -- before all items
  pub is_start : (s : Shape A) → IsPlace s (record { block = 0; at = 0 })
  unfolding IsPlace
  is_start s = (omega arith, omega arith)

  pub before_is : (s : Shape A) (p : Place) → before s p ≡ start s.blocks p.block + p.at
  unfolding before
  before_is s p = refl

  pub before_none : (s : Shape A) (p : Place) → s.blocks ≡ [] → IsPlace s p → before s p ≡ 0
  before_none s p e h =
      let l = ap length e in
      let n = start-all s.blocks p.block (omega (arith, l)) in
      let a = at_most s p h in
      let z = ap (λ bs. length (joined bs)) e in
      let w = ap (λ bs. length (get_or bs p.block [])) e in
      omega (arith, before_is s p, n, a, z, w)

  -- the item at a place, in the list
  pub item_of : (s : Shape A) (p : Place) (r : A) → p.block < length s.blocks → p.at < length (get_or s.blocks p.block []) → r ≡ get_or (get_or s.blocks p.block []) p.at r → r ≡ get_or (items s) (before s p) r
  unfolding before
  item_of s p r h l e = e ∙ sym (item_at s.blocks p.block p.at r h l)

  -- an insert into a block
  pub put_items : (s t : Shape A) (p : Place) (x : A) → p.block < length s.blocks → p.at ≤ length (get_or s.blocks p.block []) → t.blocks ≡ set s.blocks p.block (insert (get_or s.blocks p.block []) p.at x) → items t ≡ insert (items s) (before s p) x
  unfolding before
  put_items s t p x h l e = ap joined e ∙ joined-put s.blocks p.block p.at x h l

  pub put_item : (s t : Shape A) (p : Place) (x : A) → p.block < length s.blocks → p.at ≤ length (get_or s.blocks p.block []) → t.blocks ≡ set s.blocks p.block (insert (get_or s.blocks p.block []) p.at x) → IsItem t p
  put_item s t p x h l e =
      let c = insert (get_or s.blocks p.block []) p.at x in
      let n = ap length e ∙ length-set s.blocks p.block c in
      let r = ap length (ap (λ bs. get_or bs p.block []) e ∙ get_or-set_same s.blocks p.block c [] h) in
      is_item t p (omega (arith, n, h)) (omega (arith, r, l, length-insert (get_or s.blocks p.block []) p.at x l))

  -- items put into a block
  pub spliced_items : (s t : Shape A) (p : Place) (run : List A) → p.block < length s.blocks → p.at ≤ length (get_or s.blocks p.block []) → t.blocks ≡ set s.blocks p.block (spliced (get_or s.blocks p.block []) p.at run) → items t ≡ spliced (items s) (before s p) run
  unfolding before
  spliced_items s t p run h l e = ap joined e ∙ joined-spliced s.blocks p.block p.at run h l

  pub spliced_place : (s t : Shape A) (p : Place) (run : List A) → p.block < length s.blocks → p.at ≤ length (get_or s.blocks p.block []) → t.blocks ≡ set s.blocks p.block (spliced (get_or s.blocks p.block []) p.at run) → IsPlace t (record { block = p.block; at = p.at + length run })
  spliced_place s t p run h l e =
      let c = spliced (get_or s.blocks p.block []) p.at run in
      let n = ap length e ∙ length-set s.blocks p.block c in
      let r = ap length (ap (λ bs. get_or bs p.block []) e ∙ get_or-set_same s.blocks p.block c [] h) in
      is_place t (record { block = p.block; at = p.at + length run }) (omega (arith, n, h)) (omega (arith, r, l, length-spliced (get_or s.blocks p.block []) p.at run l))

  pub spliced_before : (s t : Shape A) (p : Place) (run : List A) → t.blocks ≡ set s.blocks p.block (spliced (get_or s.blocks p.block []) p.at run) → before t (record { block = p.block; at = p.at + length run }) ≡ before s p + length run
  spliced_before s t p run e =
      let c = spliced (get_or s.blocks p.block []) p.at run in
      let n = ap (λ bs. start bs p.block) e ∙ start-set s.blocks p.block c in
      omega (arith, n, before_is t (record { block = p.block; at = p.at + length run }), before_is s p)

  -- a place in a block that is replaced
  pub set_before : (s t : Shape A) (p : Place) (c : List A) → t.blocks ≡ set s.blocks p.block c → before t p ≡ before s p
  unfolding before
  set_before s t p c e = ap (λ n. n + p.at) (ap (λ bs. start bs p.block) e ∙ start-set s.blocks p.block c)

  -- items of a block go
  pub cut_items : (s t : Shape A) (p : Place) (n : ℕ) → p.block < length s.blocks → p.at + n ≤ length (get_or s.blocks p.block []) → t.blocks ≡ set s.blocks p.block (cut (get_or s.blocks p.block []) p.at n) → items t ≡ cut (items s) (before s p) n
  unfolding before
  cut_items s t p n h l e = ap joined e ∙ joined-cut s.blocks p.block p.at n h l

  pub cut_block : (s t : Shape A) (p : Place) (c : List A) → p.block < length s.blocks → t.blocks ≡ set s.blocks p.block c → p.block < length t.blocks
  cut_block s t p c h e = omega (arith, h, ap length e ∙ length-set s.blocks p.block c)

  pub cut_at : (s t : Shape A) (p : Place) (n : ℕ) → p.block < length s.blocks → p.at + n ≤ length (get_or s.blocks p.block []) → t.blocks ≡ set s.blocks p.block (cut (get_or s.blocks p.block []) p.at n) → p.at ≤ length (get_or t.blocks p.block [])
  cut_at s t p n h l e =
      let c = cut (get_or s.blocks p.block []) p.at n in
      let r = ap length (ap (λ bs. get_or bs p.block []) e ∙ get_or-set_same s.blocks p.block c [] h) in
      omega (arith, r, l, length-cut (get_or s.blocks p.block []) p.at n l)

  -- a block of one item goes
  pub whole_items : (s t : Shape A) (p : Place) → p.block < length s.blocks → p.at < length (get_or s.blocks p.block []) → length (get_or s.blocks p.block []) ≡ 1 → t.blocks ≡ remove s.blocks p.block → items t ≡ remove (items s) (before s p)
  whole_items s t p h l one e =
      let n : start s.blocks p.block ≡ before s p = omega (arith, before_is s p, one, l) in
      ap joined e ∙ joined-whole s.blocks p.block h one ∙ ap (λ k. remove (items s) k) n

  pub whole_before : (s t : Shape A) (p : Place) → p.block < length s.blocks → p.at < length (get_or s.blocks p.block []) → length (get_or s.blocks p.block []) ≡ 1 → t.blocks ≡ remove s.blocks p.block → before t (record { block = p.block; at = 0 }) ≡ before s p
  whole_before s t p h l one e =
      let n = ap (λ bs. start bs p.block) e ∙ start-remove s.blocks p.block h in
      omega (arith, n, before_is t (record { block = p.block; at = 0 }), before_is s p, one, l)

  whole_item : (xs : List A) (at : ℕ) (r : A) → length xs ≡ 1 → at < length xs → r ≡ get_or xs 0 r → r ≡ get_or xs at r
  whole_item xs at r one l e = let n : 0 ≡ at = omega (arith, one, l) in e ∙ ap (λ k. get_or xs k r) n

  pub whole_is : (s : Shape A) (p : Place) (r : A) → p.block < length s.blocks → p.at < length (get_or s.blocks p.block []) → length (get_or s.blocks p.block []) ≡ 1 → r ≡ get_or (get_or s.blocks p.block []) 0 r → r ≡ get_or (items s) (before s p) r
  whole_is s p r h l one e = item_of s p r h l (whole_item (get_or s.blocks p.block []) p.at r one l e)

  -- a full block becomes two
  pub split_stays : (half : ℕ) (s t : Shape A) (p : Place) → p.block < length s.blocks → length (get_or s.blocks p.block []) ≡ half + half → t.blocks ≡ insert (set s.blocks p.block (take half (get_or s.blocks p.block []))) (p.block + 1) (drop half (get_or s.blocks p.block [])) → p.at ≤ half → Moved s t p p
  split_stays half s t p h full e l =
      let row = get_or s.blocks p.block [] in
      let f = take half row in
      let d = drop half row in
      let bs2 = set s.blocks p.block f in
      let e2 = subst (λ (n : ℕ). t.blocks ≡ insert bs2 n d) (add-one p.block) e in
      let n = length-take-le half row (omega (arith, full)) in
      let c = ap length e ∙ length-insert bs2 (p.block + 1) d (omega (arith, h, length-set s.blocks p.block f)) in
      let r = ap (λ bs. length (get_or bs p.block [])) e2 ∙ ap length (at-split s.blocks p.block f d h) in
      let b = ap (λ bs. start bs p.block) e2 ∙ start-split s.blocks p.block f d h in
      record {
        same = ap joined e2 ∙ joined-split half s.blocks p.block h;
        block = omega (arith, c, h, length-set s.blocks p.block f);
        at = omega (arith, r, n, l);
        stands = omega (arith, b, before_is t p, before_is s p);
      }

  pub split_moves : (half : ℕ) (s t : Shape A) (p : Place) → p.block < length s.blocks → p.at ≤ length (get_or s.blocks p.block []) → length (get_or s.blocks p.block []) ≡ half + half → t.blocks ≡ insert (set s.blocks p.block (take half (get_or s.blocks p.block []))) (p.block + 1) (drop half (get_or s.blocks p.block [])) → half ≤ p.at → Moved s t p (record { block = p.block + 1; at = p.at - half })
  split_moves half s t p h fits full e l =
      let row = get_or s.blocks p.block [] in
      let f = take half row in
      let d = drop half row in
      let bs2 = set s.blocks p.block f in
      let e2 = subst (λ (n : ℕ). t.blocks ≡ insert bs2 n d) (add-one p.block) e in
      let n = length-take-le half row (omega (arith, full)) in
      let c = ap length e ∙ length-insert bs2 (p.block + 1) d (omega (arith, h, length-set s.blocks p.block f)) in
      let r = ap (λ i. length (get_or t.blocks i [])) (add-one p.block) ∙ ap (λ bs. length (get_or bs (suc p.block) [])) e2 ∙ ap length (at-split_suc s.blocks p.block f d h) in
      let b = ap (λ i. start t.blocks i) (add-one p.block) ∙ ap (λ bs. start bs (suc p.block)) e2 ∙ start-split_suc s.blocks p.block f d h in
      record {
        same = ap joined e2 ∙ joined-split half s.blocks p.block h;
        block = omega (arith, c, h, length-set s.blocks p.block f);
        at = omega (arith, r, length-drop half row, full, fits);
        stands = omega (arith, b, n, l, before_is t (record { block = p.block + 1; at = p.at - half }), before_is s p);
      }

  -- two short neighbours become one
  pub merge_stays : (s t : Shape A) (p : Place) → p.block + 1 < length s.blocks → p.at ≤ length (get_or s.blocks p.block []) → t.blocks ≡ set (remove s.blocks (p.block + 1)) p.block (get_or s.blocks p.block [] ++ get_or s.blocks (p.block + 1) []) → Moved s t p p
  merge_stays s t p h l e =
      let i = p.block in
      let front = get_or s.blocks i [] in
      let e2 = subst (λ (n : ℕ). t.blocks ≡ set (remove s.blocks n) i (front ++ get_or s.blocks n [])) (add-one i) e in
      let both = front ++ get_or s.blocks (suc i) [] in
      let h2 : suc i < length s.blocks = omega (arith, h) in
      let c = ap length e2 ∙ length-set (remove s.blocks (suc i)) i both in
      let r = ap (λ bs. length (get_or bs i [])) e2 ∙ ap length (at-merge s.blocks i both h2) in
      let b = ap (λ bs. start bs i) e2 ∙ start-merge s.blocks i both h2 in
      record {
        same = ap joined e2 ∙ joined-merge s.blocks i h2;
        block = omega (arith, c, h, length-remove s.blocks (suc i) h2);
        at = omega (arith, r, l, length-append front (get_or s.blocks (suc i) []));
        stands = omega (arith, b, before_is t p, before_is s p);
      }

  pub merge_moves : (s t : Shape A) (p : Place) (i : ℕ) → i + 1 ≡ p.block → p.block < length s.blocks → p.at ≤ length (get_or s.blocks p.block []) → t.blocks ≡ set (remove s.blocks (i + 1)) i (get_or s.blocks i [] ++ get_or s.blocks (i + 1) []) → (len : ℕ) → len ≡ length (get_or s.blocks i []) → Moved s t p (record { block = i; at = len + p.at })
  merge_moves s t p i is h l e len long =
      let front = get_or s.blocks i [] in
      let e2 = subst (λ (n : ℕ). t.blocks ≡ set (remove s.blocks n) i (front ++ get_or s.blocks n [])) (add-one i) e in
      let both = front ++ get_or s.blocks (suc i) [] in
      let is2 : suc i ≡ p.block = omega (arith, is) in
      let h2 : suc i < length s.blocks = omega (arith, is, h) in
      let l2 = ap (λ n. length (get_or s.blocks n [])) is2 in
      let c = ap length e2 ∙ length-set (remove s.blocks (suc i)) i both in
      let r = ap (λ bs. length (get_or bs i [])) e2 ∙ ap length (at-merge s.blocks i both h2) in
      let b = ap (λ bs. start bs i) e2 ∙ start-merge s.blocks i both h2 in
      let u = ap (λ n. start s.blocks n) is2 in
      record {
        same = ap joined e2 ∙ joined-merge s.blocks i h2;
        block = omega (arith, c, h2, length-remove s.blocks (suc i) h2);
        at = omega (arith, r, l, l2, long, length-append front (get_or s.blocks (suc i) []));
        stands = omega (arith, b, u, long, start-suc s.blocks i (omega (arith, h2)), before_is t (record { block = i; at = len + p.at }), before_is s p);
      }

  pub place_block : (s : Shape A) (p : Place) → IsPlace s p → p.block ≤ length s.blocks - 1
  unfolding IsPlace
  place_block s p h = h.0

  -- where the last block has no item at the place, none stands behind it
  pub last_item : (s : Shape A) (p : Place) → IsPlace s p → length s.blocks ≤ p.block + 1 → before s p < length (items s) → IsItem s p
  last_item s p h last l =
      let a = at_most s p h in
      let b = place_block s p h in
      let d = before_is s p in
      elim (cases s.blocks p.block b) [
        | inl none ↦ absurd (omega (arith, l, ap (λ bs. length (joined bs)) none))
        | inr within ↦
            let n = start-suc s.blocks p.block within in
            let m = start-all s.blocks (suc p.block) (omega (arith, last)) in
            is_item s p within (omega (arith, d, n, m, l))
      ]
    where
      cases : (bs : List (List A)) (i : ℕ) → i ≤ length bs - 1 → (bs ≡ []) ⊎ (i < length bs)
      cases [] i h = inl refl
      cases (b ∷ bs) i h = inr (omega arith)

  -- a block's end is the next one's start
  pub next_start : (s : Shape A) (p : Place) → p.block + 1 < length s.blocks → p.at ≡ length (get_or s.blocks p.block []) → before s (record { block = p.block + 1; at = 0 }) ≡ before s p
  next_start s p h e =
      let n = start-suc s.blocks p.block (omega (arith, h)) in
      let u = ap (λ i. start s.blocks i) (add-one p.block) in
      omega (arith, n, u, e, before_is s (record { block = p.block + 1; at = 0 }), before_is s p)

  -- a list of the same blocks has the same places
  pub same_place : (s t : Shape A) → t.blocks ≡ s.blocks → (p : Place) → IsPlace s p → IsPlace t p
  unfolding IsPlace
  same_place s t e p h = (rw e h.0, rw e h.1)

  pub same_item : (s t : Shape A) → t.blocks ≡ s.blocks → (p : Place) → IsItem s p → IsItem t p
  unfolding IsItem
  same_item s t e p h = rw e h

  pub same_before : (s t : Shape A) → t.blocks ≡ s.blocks → (p : Place) → before t p ≡ before s p
  unfolding before
  same_before s t e p = ap (λ bs. start bs p.block + p.at) e
