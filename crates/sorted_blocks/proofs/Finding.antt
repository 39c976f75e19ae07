-- An answer in a block is one in the list.
use Rattle.sorted_blocks.proofs.Words.{◌≡◌, ℕ, suc, ◌+◌, ◌-◌, ◌<◌, ◌≤◌, List, [], length, get_or, sym, ap, subst, ◌∙◌, arith, Ok, Err, inl, inr, All, Ordering, Less, Equal, Greater, cases_lt, get_or_read, Place, Shape, items, before, IsPlace, IsItem, IsGap, IsFound, IsLessAt, IsLead, IsBlockGap, IsRowLeft}
use Rattle.sorted_blocks.proofs.Joined.{start, item_at, start-suc, start-all, start-within}
use Rattle.sorted_blocks.proofs.Moves.{before_is, is_item, is_place, is_start, item_block, item_within}

module _ {A : Type 0} where
  -- the item of a block at an index of the list
  pub item_is : (s : Shape A) (block at index : ℕ) (d : A) → block < length s.blocks → at < length (get_or s.blocks block []) → index ≡ start s.blocks block + at → get_or (items s) index d ≡ get_or (get_or s.blocks block []) at d
  item_is s block at index d h l e = ap (λ n. get_or (items s) n d) e ∙ item_at s.blocks block at d h l

  pub index_within : (s : Shape A) (block at : ℕ) → block < length s.blocks → at < length (get_or s.blocks block []) → start s.blocks block + at < length (items s)
  index_within s block at h l = omega (arith, l, start-suc s.blocks block h, start-within s.blocks (suc block))

  before_within : (s : Shape A) (p : Place) → IsItem s p → before s p < length (items s)
  before_within s p item = omega (arith, before_is s p, index_within s p.block p.at (item_block s p item) (item_within s p item))

  -- what holds of all items holds of each in a block
  pub each_row : (P : A → Type 0) (s : Shape A) (block : ℕ) → All P (items s) → block < length s.blocks → All P (get_or s.blocks block [])
  each_row P s block all h = λ k d l. subst P (item_at s.blocks block k d h l) (all (start s.blocks block + k) d (index_within s block k h l))

  pub can_firsts : (P : A → Type 0) (s : Shape A) (row : List A) → All P (items s) → IsLead s.blocks row → All P row
  can_firsts P s row all lead = λ k d l.
      let h : k < length s.blocks = omega (arith, l, lead.long) in
      subst P (sym (lead.same k d h)) (each_row P s k all h 0 d (lead.some k h))

  pub found_equal : (order : A → Ordering) (s : Shape A) (p : Place) → p.block < length s.blocks → p.at < length (get_or s.blocks p.block []) → ((d : A) → order (get_or (get_or s.blocks p.block []) p.at d) ≡ Equal) → IsFound order s (Ok p)
  found_equal order s p h l e = (
    is_item s p h l,
    record {
      within = omega (arith, before_is s p, index_within s p.block p.at h l);
      equal = λ d. ap order (item_is s p.block p.at (before s p) d h l (before_is s p)) ∙ e d;
    },
  )

  pub found_gap : (order : A → Ordering) (s : Shape A) (p : Place) (low : ℕ) → IsRowLeft order s.blocks p.block low → low ≤ p.at → p.at ≤ length (get_or s.blocks p.block []) → IsGap order (get_or s.blocks p.block []) p.at → IsFound order s (Err p)
  found_gap order s p low r some most gap =
      let row = get_or s.blocks p.block [] in
      let b = before_is s p in
      let one = r.some in
      let ends = start-suc s.blocks p.block r.within in (
        is_place s p r.within most,
        record {
          less = λ d h. ap order (item_is s p.block (p.at - 1) (before s p - 1) d r.within (omega (arith, some, one, most)) (omega (arith, b, some, one))) ∙ gap.less d (omega (arith, some, one));
          greater = λ d h. elim (cases_lt p.at (length row)) [
            | inl inside ↦ ap order (item_is s p.block p.at (before s p) d r.within inside b) ∙ gap.greater d inside
            | inr past ↦ elim (cases_lt (suc p.block) (length s.blocks)) [
              | inl more ↦ ap order (item_is s (suc p.block) 0 (before s p) d more (r.some_behind more) (omega (arith, b, ends, past, most))) ∙ r.greater d more
              | inr last ↦ absurd (omega (arith, h, b, ends, past, most, start-all s.blocks (suc p.block) last))
            ]
          ];
        },
      )

  pub found_start : (order : A → Ordering) (s : Shape A) → IsBlockGap order s.blocks 0 0 → IsFound order s (Err (record { block = 0; at = 0 }))
  found_start order s gap =
      let b = before_is s (record { block = 0; at = 0 }) in (
        is_start s,
        record {
          less = λ d h. absurd (omega (arith, b, h));
          greater = λ d h. elim (cases_lt 0 (length s.blocks)) [
            | inl more ↦ ap order (item_is s 0 0 (before s (record { block = 0; at = 0 })) d more (gap.some_behind more) b) ∙ gap.greater d more
            | inr none ↦ absurd (omega (arith, h, b, start-all s.blocks 0 none))
          ];
        },
      )

  pub row_left : (order : A → Ordering) (blocks : List (List A)) (n : ℕ) → IsBlockGap order blocks n n → 0 < n → IsRowLeft order blocks (n - 1) 1
  row_left order blocks n gap h =
      let e : n ≡ suc (n - 1) = omega (arith, h) in
      let last = gap.high_end in
      record {
        within = omega (arith, h, last);
        from_low = gap.some_before h;
        some = omega arith;
        less = λ d. gap.less d h;
        greater = λ d l. subst (λ (k : ℕ). k < length blocks → order (get_or (get_or blocks k []) 0 d) ≡ Greater) e (λ m. gap.greater d m) l;
        some_behind = λ l. subst (λ (k : ℕ). k < length blocks → 0 < length (get_or blocks k [])) e gap.some_behind l;
      }

  -- what was read at a place
  pub can_item : (P : A → Type 0) (s : Shape A) (p : Place) (r : A) → All P (items s) → IsItem s p → r ≡ get_or (items s) (before s p) r → P r
  can_item P s p r all item e = subst P (sym e) (all (before s p) r (before_within s p item))

  pub reads : (order : A → Ordering) (s : Shape A) (p : Place) (r : A) (o : Ordering) → IsItem s p → r ≡ get_or (items s) (before s p) r → o ≡ order r → (d : A) → order (get_or (items s) (before s p) d) ≡ o
  reads order s p r o item e is d = ap order (sym (get_or_read (items s) (before s p) r (before_within s p item) e d)) ∙ sym is

  pub found_item : (order : A → Ordering) (s : Shape A) (p : Place) (r : A) → IsItem s p → r ≡ get_or (items s) (before s p) r → Equal ≡ order r → IsFound order s (Ok p)
  found_item order s p r item e is = (item, record { within = before_within s p item; equal = reads order s p r Equal item e is })

  -- the gap behind an item that is less
  pub found_behind : (order : A → Ordering) (s : Shape A) (near behind : Place) → IsLessAt order (items s) (before s near) → IsPlace s behind → before s behind ≡ before s near + 1 → ((d : A) → before s behind < length (items s) → order (get_or (items s) (before s behind) d) ≡ Greater) → IsFound order s (Err behind)
  found_behind order s near behind less place b greater =
      let e : before s near ≡ before s behind - 1 = omega (arith, b) in (
        place,
        record {
          less = λ d h. subst (λ (k : ℕ). order (get_or (items s) k d) ≡ Less) e (less d);
          greater = greater;
        },
      )
