-- Every edit keeps a list in blocks sound.
use Rattle.sorted_blocks.proofs.Words.{◌≡◌, ℕ, ◌+◌, ◌-◌, ◌*◌, ◌^◌, ◌<◌, ◌≤◌, List, [], ◌++◌, length, get_or, set, take, drop, ap, ◌∙◌, arith, length-append, length-drop, insert, remove, get_or_read, length-set, length-take-le, length-insert, length-remove, AllFilled, IsSound}
use Rattle.sorted_blocks.proofs.Counted.{count-set, count-insert, count-remove, filled-get, filled-set, filled-insert, filled-remove, count-few}

module _ {A : Type 0} where
  -- a block that contracts see is in the list, with one item at least and two halves at most
  pub opened : (half : ℕ) (bs now : List (List A)) (i : ℕ) (b : List A) → AllFilled half bs → bs ≡ now → i < length now → b ≡ get_or bs i b → (i < length bs) × (b ≡ get_or now i []) × (1 ≤ length b) × (length b ≤ half + half)
  opened half bs now i b f e h at =
      let within : i < length bs = rw e h in
      let same = get_or_read bs i b within at [] in
      let bounds = filled-get half bs i f within in
      (within, same ∙ ap (λ xs. get_or xs i []) e, rw same bounds.0, rw same bounds.1)

  -- another block in a block's place
  pub kept_set : (half : ℕ) (bs : List (List A)) (spare um sm count : ℕ) → IsSound half bs spare um sm count → (i : ℕ) (b c : List A) → i < length bs → b ≡ get_or bs i b → 1 ≤ length c → length c ≤ half + half → (count2 : ℕ) → count2 + length b ≡ count + length c → IsSound half (set bs i c) spare um sm count2
  kept_set half bs spare um sm count s i b c h at some most count2 n =
      let e = ap length (get_or_read bs i b h at []) in
      let l = length-set bs i c in
      record {
        half_some = s.half_some;
        half_small = s.half_small;
        filled = filled-set half bs i c s.filled some most;
        used_room = omega (arith, l, s.used_room);
        spare_room = omega (arith, l, s.spare_room);
        few = omega (arith, l, s.few);
        count_is = omega (arith, e, n, s.count_is, count-set bs i c h);
      }

  -- a spare block comes in
  pub kept_insert : (half : ℕ) (bs : List (List A)) (spare um sm count : ℕ) → IsSound half bs spare um sm count → (i : ℕ) (c : List A) → i ≤ length bs → 1 ≤ length c → length c ≤ half + half → (spare2 um2 sm2 count2 : ℕ) → spare2 + 1 ≡ spare → um ≤ um2 → sm ≤ sm2 → count2 ≡ count + length c → IsSound half (insert bs i c) spare2 um2 sm2 count2
  kept_insert half bs spare um sm count s i c h some most spare2 um2 sm2 count2 p u v n =
      let l = length-insert bs i c h in
      record {
        half_some = s.half_some;
        half_small = s.half_small;
        filled = filled-insert half bs i c s.filled some most h;
        used_room = omega (arith, l, p, u, s.used_room);
        spare_room = omega (arith, l, p, v, s.spare_room);
        few = omega (arith, l, p, s.few);
        count_is = omega (arith, n, s.count_is, count-insert bs i c h);
      }

  -- a block goes to the spare ones
  pub kept_remove : (half : ℕ) (bs : List (List A)) (spare um sm count : ℕ) → IsSound half bs spare um sm count → (i : ℕ) (c : List A) → i < length bs → c ≡ get_or bs i c → (spare2 um2 sm2 count2 : ℕ) → spare2 ≡ spare + 1 → um ≤ um2 → sm ≤ sm2 → count2 + length c ≡ count → IsSound half (remove bs i) spare2 um2 sm2 count2
  kept_remove half bs spare um sm count s i c h at spare2 um2 sm2 count2 p u v n =
      let e = ap length (get_or_read bs i c h at []) in
      let l = length-remove bs i h in
      record {
        half_some = s.half_some;
        half_small = s.half_small;
        filled = filled-remove half bs i s.filled h;
        used_room = omega (arith, l, p, u, s.used_room);
        spare_room = omega (arith, l, p, v, s.spare_room);
        few = omega (arith, l, p, s.few);
        count_is = omega (arith, e, n, s.count_is, count-remove bs i h);
      }

  -- the count is far below 2 ^ 64
  pub count_small : (half : ℕ) (bs : List (List A)) (spare um sm count : ℕ) → IsSound half bs spare um sm count → count ≤ 2 ^ 32 * 131072
  count_small half bs spare um sm count s = omega (arith, s.few, s.count_is, count-few half bs s.filled s.half_small)

  -- a block is a part of the count
  pub count_covers : (half : ℕ) (bs : List (List A)) (spare um sm count : ℕ) → IsSound half bs spare um sm count → (i : ℕ) (b : List A) → i < length bs → b ≡ get_or bs i b → length b ≤ count
  count_covers half bs spare um sm count s i b h at =
      let e = ap length (get_or_read bs i b h at []) in omega (arith, e, s.count_is, count-remove bs i h)

  -- a full block becomes two
  pub kept_split : (half : ℕ) (bs : List (List A)) (spare um sm count : ℕ) → IsSound half bs spare um sm count → (i : ℕ) (row front back : List A) → i < length bs → row ≡ get_or bs i row → length row ≡ half + half → front ≡ take half row → back ≡ drop half row → (spare2 um2 sm2 : ℕ) → spare2 + 1 ≡ spare → um ≤ um2 → sm ≤ sm2 → IsSound half (insert (set bs i front) (i + 1) back) spare2 um2 sm2 count
  kept_split half bs spare um sm count s i row front back h at full f k spare2 um2 sm2 p u v =
      let some = s.half_some in
      let n : length front ≡ half = ap length f ∙ length-take-le half row (omega (arith, full)) in
      let m : length back ≡ half = ap length k ∙ length-drop half row ∙ omega (arith, full) in
      let count_has = count_covers half bs spare um sm count s i row h at in
      let first = kept_set half bs spare um sm count s i row front h at (omega (arith, n, some)) (omega (arith, n)) (count - half) (omega (arith, n, full, count_has)) in
      kept_insert half (set bs i front) spare um sm (count - half) first (i + 1) back (omega (arith, length-set bs i front, h)) (omega (arith, m, some)) (omega (arith, m)) spare2 um2 sm2 count p u v (omega (arith, m, full, count_has))

  -- two blocks that are short together become one
  pub kept_merge : (half : ℕ) (bs : List (List A)) (spare um sm count : ℕ) → IsSound half bs spare um sm count → (i : ℕ) (front back both : List A) → i + 1 < length bs → front ≡ get_or (remove bs (i + 1)) i front → back ≡ get_or bs (i + 1) back → length front + length back ≤ half → both ≡ front ++ back → (spare2 um2 sm2 : ℕ) → spare2 ≡ spare + 1 → um ≤ um2 → sm ≤ sm2 → IsSound half (set (remove bs (i + 1)) i both) spare2 um2 sm2 count
  kept_merge half bs spare um sm count s i front back both h at behind short is spare2 um2 sm2 p u v =
      let long = ap length is ∙ length-append front back in
      let there = ap length (get_or_read bs (i + 1) back h behind []) in
      let some = (filled-get half bs (i + 1) s.filled h).0 in
      let count_has = count_covers half bs spare um sm count s (i + 1) back h behind in
      let first = kept_remove half bs spare um sm count s (i + 1) back h behind spare2 um2 sm2 (count - length back) p u v (omega (arith, count_has)) in
      kept_set half (remove bs (i + 1)) spare2 um2 sm2 (count - length back) first i front both (omega (arith, length-remove bs (i + 1) h, h)) at (omega (arith, long, there, some)) (omega (arith, long, short)) count (omega (arith, long, count_has))
