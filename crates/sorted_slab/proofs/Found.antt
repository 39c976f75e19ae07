-- What stands under the numbers of a list, and what an edit of the numbers and of the slab makes of it.
use Rattle.sorted_slab.proofs.Words.{◌≡◌, ◌≢◌, ℕ, zero, suc, ◌+◌, ◌-◌, ◌<◌, ◌≤◌, true, List, [], ◌∷◌, length, get_or, set, take, drop, Option, Some, None, option_copied, Bor, is_some, count_by, refl, sym, ap, ◌∙◌, arith, false≢true, insert, remove, AllByRecursion, YieldsFirstBy, MakesProgress, item_count, Slab, get, slab_len, with_value, entries_from, Updates, length-entries, with_item, found, AllDiffer, AllHeld}

pub some_of : {A : Type 0} (o : Option A) → is_some o ≡ true → (x : A) × (o ≡ Some x)
some_of None h = absurd (false≢true h)
some_of (Some x) h = (x, refl)

module _ {X : Type 0} (P : X → Type 0) where
  pub all_at : (xs : List X) (i : ℕ) (d : X) → AllByRecursion P xs → i < length xs → P (get_or xs i d)
  all_at [] i d h w = absurd (omega arith)
  all_at (x ∷ xs) zero d h w = h.0
  all_at (x ∷ xs) (suc i) d h w = all_at xs i d h.1 (omega arith)

  pub all_insert : (xs : List X) (i : ℕ) (x : X) → i ≤ length xs → AllByRecursion P xs → P x → AllByRecursion P (insert xs i x)
  all_insert [] zero x w h p = (p, tt)
  all_insert [] (suc i) x w h p = absurd (omega arith)
  all_insert (y ∷ xs) zero x w h p = (p, h)
  all_insert (y ∷ xs) (suc i) x w h p = (h.0, all_insert xs i x (omega arith) h.1 p)

  pub all_remove : (xs : List X) (i : ℕ) → i < length xs → AllByRecursion P xs → AllByRecursion P (remove xs i)
  all_remove [] i w h = absurd (omega arith)
  all_remove (y ∷ xs) zero w h = h.1
  all_remove (y ∷ xs) (suc i) w h = (h.0, all_remove xs i (omega arith) h.1)

pub remove_insert : {X : Type 0} (xs : List X) (i : ℕ) (x : X) → i ≤ length xs → remove (insert xs i x) i ≡ xs
remove_insert [] zero x w = refl
remove_insert [] (suc i) x w = absurd (omega arith)
remove_insert (y ∷ xs) zero x w = refl
remove_insert (y ∷ xs) (suc i) x w = ap (λ ys. y ∷ ys) (remove_insert xs i x (omega arith))

-- ---- numbers that differ

pub differ_insert : (ns : List ℕ) (i k : ℕ) → i ≤ length ns → AllDiffer ns → AllByRecursion (λ other. other ≢ k) ns → AllDiffer (insert ns i k)
unfolding AllDiffer
differ_insert [] zero k w d f = (tt, tt)
differ_insert [] (suc i) k w d f = absurd (omega arith)
differ_insert (n ∷ ns) zero k w d f = (f, d)
differ_insert (n ∷ ns) (suc i) k w d f = (all_insert (λ other. other ≢ n) ns i k (omega arith) d.0 (λ e. f.0 (sym e)), differ_insert ns i k (omega arith) d.1 f.1)

pub differ_remove : (ns : List ℕ) (i : ℕ) → i < length ns → AllDiffer ns → AllDiffer (remove ns i)
unfolding AllDiffer
differ_remove [] i w d = absurd (omega arith)
differ_remove (n ∷ ns) zero w d = d.1
differ_remove (n ∷ ns) (suc i) w d = (all_remove (λ other. other ≢ n) ns i (omega arith) d.0, differ_remove ns i (omega arith) d.1)

-- the number at another place of numbers that differ
head_apart : (n : ℕ) (ns : List ℕ) (i d : ℕ) → AllByRecursion (λ other. other ≢ n) ns → i < length ns → n ≢ get_or ns i d
head_apart n ns i d f w = λ e. all_at (λ other. other ≢ n) ns i d f w (sym e)

module _ {A : Type 0} where
  -- ---- one slab

  pub length_found : (s : Slab A) (ns : List ℕ) → AllHeld s ns → length (found (get s) ns) ≡ length ns
  unfolding found AllHeld
  length_found s [] h = refl
  length_found s (n ∷ ns) h = let x = some_of (get s n) h.0 in rw x.1 (ap suc (length_found s ns h.1))

  pub held_at : (s : Slab A) (ns : List ℕ) (i d : ℕ) → AllHeld s ns → i < length ns → is_some (get s (get_or ns i d)) ≡ true
  unfolding AllHeld
  held_at s [] i d h w = absurd (omega arith)
  held_at s (n ∷ ns) zero d h w = h.0
  held_at s (n ∷ ns) (suc i) d h w = held_at s ns i d h.1 (omega arith)

  pub found_at : (s : Slab A) (ns : List ℕ) (i d : ℕ) (e : A) → AllHeld s ns → i < length ns → get s (get_or ns i d) ≡ Some (get_or (found (get s) ns) i e)
  unfolding found AllHeld
  found_at s [] i d e h w = absurd (omega arith)
  found_at s (n ∷ ns) zero d e h w = let x = some_of (get s n) h.0 in rw x.1 refl
  found_at s (n ∷ ns) (suc i) d e h w = let x = some_of (get s n) h.0 in rw x.1 (found_at s ns i d e h.1 (omega arith))

  pub held_drop : (s : Slab A) (ns : List ℕ) (i : ℕ) → AllHeld s ns → AllHeld s (drop i ns)
  unfolding AllHeld
  held_drop s ns zero h = h
  held_drop s [] (suc i) h = tt
  held_drop s (n ∷ ns) (suc i) h = held_drop s ns i h.1

  pub found_drop : (s : Slab A) (ns : List ℕ) (i : ℕ) → AllHeld s ns → found (get s) (drop i ns) ≡ drop i (found (get s) ns)
  unfolding found AllHeld
  found_drop s ns zero h = refl
  found_drop s [] (suc i) h = refl
  found_drop s (n ∷ ns) (suc i) h = let x = some_of (get s n) h.0 in rw x.1 (found_drop s ns i h.1)

  -- ---- a slab of which one number changes

  -- a number that isn't in the list
  pub found_apart : (s t : Slab A) (k : ℕ) (slot : Option A) (ns : List ℕ) → Updates s t k slot → AllByRecursion (λ other. other ≢ k) ns → found (get t) ns ≡ found (get s) ns
  unfolding found
  found_apart s t k slot [] u f = refl
  found_apart s t k slot (n ∷ ns) u f = rw (u.others n f.0, found_apart s t k slot ns u f.1) refl

  pub held_apart : (s t : Slab A) (k : ℕ) (slot : Option A) (ns : List ℕ) → Updates s t k slot → AllByRecursion (λ other. other ≢ k) ns → AllHeld s ns → AllHeld t ns
  unfolding AllHeld
  held_apart s t k slot [] u f h = tt
  held_apart s t k slot (n ∷ ns) u f h = (ap is_some (u.others n f.0) ∙ h.0, held_apart s t k slot ns u f.1 h.1)

  -- a number under which nothing stands isn't in the list
  pub fresh : (s : Slab A) (k : ℕ) (ns : List ℕ) → get s k ≡ None → AllHeld s ns → AllByRecursion (λ other. other ≢ k) ns
  unfolding AllHeld
  fresh s k [] none h = tt
  fresh s k (n ∷ ns) none h = (λ e. false≢true (sym (ap is_some (ap (get s) e ∙ none)) ∙ h.0), fresh s k ns none h.1)

  -- ---- an insert

  pub found_insert : (t : Slab A) (ns : List ℕ) (i k : ℕ) (x : A) → i ≤ length ns → AllHeld t ns → get t k ≡ Some x → found (get t) (insert ns i k) ≡ insert (found (get t) ns) i x
  unfolding found AllHeld
  found_insert t [] zero k x w h e = rw e refl
  found_insert t [] (suc i) k x w h e = absurd (omega arith)
  found_insert t (n ∷ ns) zero k x w h e = rw e refl
  found_insert t (n ∷ ns) (suc i) k x w h e = let y = some_of (get t n) h.0 in rw y.1 (ap (λ xs. y.0 ∷ xs) (found_insert t ns i k x (omega arith) h.1 e))

  pub held_insert : (t : Slab A) (ns : List ℕ) (i k : ℕ) (x : A) → i ≤ length ns → AllHeld t ns → get t k ≡ Some x → AllHeld t (insert ns i k)
  unfolding AllHeld
  held_insert t [] zero k x w h e = (ap is_some e, tt)
  held_insert t [] (suc i) k x w h e = absurd (omega arith)
  held_insert t (n ∷ ns) zero k x w h e = (ap is_some e, h)
  held_insert t (n ∷ ns) (suc i) k x w h e = (h.0, held_insert t ns i k x (omega arith) h.1 e)

  -- ---- a removal

  pub found_remove : (s t : Slab A) (ns : List ℕ) (i d : ℕ) (slot : Option A) → i < length ns → AllDiffer ns → AllHeld s ns → Updates s t (get_or ns i d) slot → found (get t) (remove ns i) ≡ remove (found (get s) ns) i
  unfolding found AllHeld AllDiffer
  found_remove s t [] i d slot w f h u = absurd (omega arith)
  found_remove s t (n ∷ ns) zero d slot w f h u =
      let x = some_of (get s n) h.0 in
      rw x.1 (found_apart s t n slot ns u f.0)
  found_remove s t (n ∷ ns) (suc i) d slot w f h u =
      let x = some_of (get s n) h.0 in
      let same = u.others n (head_apart n ns i d f.0 (omega arith)) ∙ x.1 in
      rw (x.1, same) (ap (λ xs. x.0 ∷ xs) (found_remove s t ns i d slot (omega arith) f.1 h.1 u))

  pub held_remove : (s t : Slab A) (ns : List ℕ) (i d : ℕ) (slot : Option A) → i < length ns → AllDiffer ns → AllHeld s ns → Updates s t (get_or ns i d) slot → AllHeld t (remove ns i)
  unfolding AllHeld AllDiffer
  held_remove s t [] i d slot w f h u = absurd (omega arith)
  held_remove s t (n ∷ ns) zero d slot w f h u = held_apart s t n slot ns u f.0 h.1
  held_remove s t (n ∷ ns) (suc i) d slot w f h u =
      (ap is_some (u.others n (head_apart n ns i d f.0 (omega arith))) ∙ h.0, held_remove s t ns i d slot (omega arith) f.1 h.1 u)

  -- ---- a change

  pub found_set : (s t : Slab A) (ns : List ℕ) (i d : ℕ) (x : A) → i < length ns → AllDiffer ns → AllHeld s ns → Updates s t (get_or ns i d) (Some x) → found (get t) ns ≡ set (found (get s) ns) i x
  unfolding found AllHeld AllDiffer
  found_set s t [] i d x w f h u = absurd (omega arith)
  found_set s t (n ∷ ns) zero d x w f h u =
      let y = some_of (get s n) h.0 in
      rw (y.1, u.changed) (ap (λ xs. x ∷ xs) (found_apart s t n (Some x) ns u f.0))
  found_set s t (n ∷ ns) (suc i) d x w f h u =
      let y = some_of (get s n) h.0 in
      let same = u.others n (head_apart n ns i d f.0 (omega arith)) ∙ y.1 in
      rw (y.1, same) (ap (λ xs. y.0 ∷ xs) (found_set s t ns i d x (omega arith) f.1 h.1 u))

  pub held_set : (s t : Slab A) (ns : List ℕ) (i d : ℕ) (x : A) → i < length ns → AllDiffer ns → AllHeld s ns → Updates s t (get_or ns i d) (Some x) → AllHeld t ns
  unfolding AllHeld AllDiffer
  held_set s t [] i d x w f h u = absurd (omega arith)
  held_set s t (n ∷ ns) zero d x w f h u = (ap is_some u.changed, held_apart s t n (Some x) ns u f.0 h.1)
  held_set s t (n ∷ ns) (suc i) d x w f h u =
      (ap is_some (u.others n (head_apart n ns i d f.0 (omega arith))) ∙ h.0, held_set s t ns i d x (omega arith) f.1 h.1 u)

  -- ---- a walk

  pub walk_none : (left : ℕ) (s : Slab A) (ns : List ℕ) → left ≡ 0 → take left (found (get s) ns) ≡ []
  walk_none left s ns e = ap (λ n. take n (found (get s) ns)) e

  pub walk_end : (left : ℕ) (s : Slab A) (ns : List ℕ) → ns ≡ [] → take left (found (get s) ns) ≡ []
  unfolding found
  walk_end left s ns e = ap (λ ms. take left (found (get s) ms)) e ∙ nothing left
    where
      nothing : (left : ℕ) → take left (found (get s) []) ≡ []
      nothing zero = refl
      nothing (suc left) = refl

  pub walk_first : (left : ℕ) (s : Slab A) (ns rest : List ℕ) (n : ℕ) (x : A) → left ≢ 0 → ns ≡ n ∷ rest → get s n ≡ Some x → take left (found (get s) ns) ≡ x ∷ take (left - 1) (found (get s) rest)
  unfolding found
  walk_first zero s ns rest n x some e here = absurd (some refl)
  walk_first (suc left) s ns rest n x some e here =
      let less : suc left - 1 ≡ left = omega arith in
      rw less (ap (λ ms. take (suc left) (found (get s) ms)) e ∙ ap (λ o. take (suc left) (with_item o (found (get s) rest))) here)

  pub held_first : (s : Slab A) (ns rest : List ℕ) (n : ℕ) → AllHeld s ns → ns ≡ n ∷ rest → (is_some (get s n) ≡ true) × AllHeld s rest
  unfolding AllHeld
  held_first s ns rest n h e = rw e at h

  pub sound_none : (ns : List ℕ) → ns ≡ [] → (s : Slab A) → s.slots ≡ [] → AllDiffer ns × AllHeld s ns × (slab_len s ≡ length ns)
  unfolding AllDiffer AllHeld
  sound_none ns e s none = (rw e tt, rw e tt, ap (count_by is_some) none ∙ sym (ap length e))

  pub found_none : (ns : List ℕ) → ns ≡ [] → (s : Slab A) → found (get s) ns ≡ []
  unfolding found
  found_none ns e s = ap (found (get s)) e

  -- the number of items of which one is changed
  count_set : (first : ℕ) (slots : List (Option A)) (k : ℕ) (x : A) → is_some (get_or slots k None) ≡ true → length (entries_from first (set slots k (Some x))) ≡ length (entries_from first slots)
  count_set first [] k x h = absurd (false≢true h)
  count_set first (None ∷ slots) zero x h = absurd (false≢true h)
  count_set first (Some y ∷ slots) zero x h = refl
  count_set first (None ∷ slots) (suc k) x h = count_set (first + 1) slots k x h
  count_set first (Some y ∷ slots) (suc k) x h = ap suc (count_set (first + 1) slots k x h)

  pub len_set : (s : Slab A) (k : ℕ) (x : A) → is_some (get s k) ≡ true → slab_len (with_value s k x) ≡ slab_len s
  len_set s k x h = sym (length-entries (with_value s k x)) ∙ count_set 0 s.slots k x h ∙ length-entries s

  -- another capacity
  pub held_same : (s t : Slab A) (ns : List ℕ) → t.slots ≡ s.slots → AllHeld s ns → AllHeld t ns
  unfolding AllHeld
  held_same s t [] e h = tt
  held_same s t (n ∷ ns) e h = (ap (λ slots. is_some (get_or slots n None)) e ∙ h.0, held_same s t ns e h.1)

  pub walk_steps : (left : ℕ) (s : Slab A) (ns rest : List ℕ) (n : ℕ) (r : Option (Bor A)) → left ≢ 0 → AllHeld s ns → ns ≡ n ∷ rest → option_copied r ≡ get s n → YieldsFirstBy (λ item. item.now) (λ items. items) (take left (found (get s) ns)) r (take (left - 1) (found (get s) rest))
  walk_steps left s ns rest n None some h e here = absurd (false≢true (ap is_some here ∙ (held_first s ns rest n h e).0))
  walk_steps left s ns rest n (Some item) some h e here = walk_first left s ns rest n item.now some e (sym here)

  pub goes : (can : List A → Type 0) → ((xs : List A) → can xs) → (xs ys : List A) (r : Option (Bor A)) → YieldsFirstBy (λ item. item.now) (λ items. items) xs r ys → MakesProgress can (item_count (λ items. items)) xs r ys
  goes can every xs ys None steps = record { on = λ f. tt; keeps = tt; rests = λ f. tt }
  goes can every xs ys (Some item) steps = record { on = λ f. (every ys, tt, omega (arith, ap length steps)); keeps = every ys; rests = λ f. tt }
