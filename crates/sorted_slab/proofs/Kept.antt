-- An edit keeps what holds of the list.
use Rattle.sorted_slab.proofs.Words.{◌≡◌, ℕ, ◌+◌, ◌-◌, ◌<◌, ◌≤◌, List, length, get_or, Some, None, Result, Ok, Err, OnOk, set, count_by, IsSomeAnd, is_some, true, refl, sym, ap, subst, ◌∙◌, arith, insert, remove, All, Ordering, length-insert, length-remove, Slab, get, slab_len, with_value, Updates, Updates-with_value, IsGap, IsEqualAt, Shape, items, capacity, Place, before, Listed, listed, found, at, IsPlace, IsItem, IsFound, order_of, IsSound}
use Rattle.sorted_blocks.specs.Places.{IsPlace as IsIndexPlace, IsItem as IsIndexItem}
use Rattle.sorted_blocks.specs.Found.{IsFound as IsIndexFound}
use Rattle.sorted_slab.proofs.Found.{some_of, differ_insert, differ_remove, length_found, held_at, found_at, found_apart, held_apart, fresh, found_insert, held_insert, found_remove, held_remove, found_set, held_set, len_set, held_same}

pub on_ok : {X E : Type 0} {P Q : Type 0} (r : Result X E) → OnOk r P → (P → Q) → OnOk r Q
on_ok (Ok x) h f = f h
on_ok (Err e) h f = tt

module _ {A : Type 0} where
  pub inserted : (s t : Slab A) (ns : List ℕ) (i k : ℕ) (x : A) → i ≤ length ns → IsSound s ns → get s k ≡ None → Updates s t k (Some x) → found (get t) (insert ns i k) ≡ insert (found (get s) ns) i x
  inserted s t ns i k x w sound none u =
      let away = fresh s k ns none sound.held in
      found_insert t ns i k x w (held_apart s t k (Some x) ns u away sound.held) u.changed ∙ ap (λ xs. insert xs i x) (found_apart s t k (Some x) ns u away)

  pub sound_insert : (s t : Slab A) (ns : List ℕ) (i k : ℕ) (x : A) → i ≤ length ns → IsSound s ns → get s k ≡ None → Updates s t k (Some x) → slab_len t ≡ slab_len s + 1 → IsSound t (insert ns i k)
  sound_insert s t ns i k x w sound none u l =
      let away = fresh s k ns none sound.held in
      record {
        differ = differ_insert ns i k w sound.differ away;
        held = held_insert t ns i k x w (held_apart s t k (Some x) ns u away sound.held) u.changed;
        nothing_else = omega (arith, l, sound.nothing_else, length-insert ns i k w);
      }

  pub removed : (s t : Slab A) (ns : List ℕ) (i k : ℕ) → i < length ns → IsSound s ns → k ≡ get_or ns i k → Updates s t k None → found (get t) (remove ns i) ≡ remove (found (get s) ns) i
  removed s t ns i k w sound e u = found_remove s t ns i k None w sound.differ sound.held (rw (sym e) u)

  pub sound_remove : (s t : Slab A) (ns : List ℕ) (i k : ℕ) → i < length ns → IsSound s ns → k ≡ get_or ns i k → Updates s t k None → slab_len t + 1 ≡ slab_len s → IsSound t (remove ns i)
  sound_remove s t ns i k w sound e u l = record {
    differ = differ_remove ns i w sound.differ;
    held = held_remove s t ns i k None w sound.differ sound.held (rw (sym e) u);
    nothing_else = omega (arith, l, sound.nothing_else, length-remove ns i w);
  }

  -- the item under the number at this index
  pub item_is : (s : Slab A) (ns : List ℕ) (i k : ℕ) (x : A) → i < length ns → IsSound s ns → k ≡ get_or ns i k → get s k ≡ Some x → x ≡ get_or (found (get s) ns) i x
  item_is s ns i k x w sound e here =
      let both = sym here ∙ ap (get s) e ∙ found_at s ns i k x sound.held w in
      same both
    where
      same : {a b : A} → Some a ≡ Some b → a ≡ b
      same e = cc

  pub is_held : (s : Slab A) (ns : List ℕ) (i k : ℕ) → i < length ns → IsSound s ns → k ≡ get_or ns i k → is_some (get s k) ≡ true
  is_held s ns i k w sound e = ap (λ n. is_some (get s n)) e ∙ held_at s ns i k sound.held w

  pub sound_set : (s : Slab A) (ns : List ℕ) (i k : ℕ) (x : A) → i < length ns → IsSound s ns → k ≡ get_or ns i k → IsSound (with_value s k x) ns
  sound_set s ns i k x w sound e =
      let here = is_held s ns i k w sound e in
      let u = Updates-with_value s k x here in
      record {
        differ = sound.differ;
        held = held_set s (with_value s k x) ns i k x w sound.differ sound.held (rw (sym e) u);
        nothing_else = len_set s k x here ∙ sound.nothing_else;
      }

  pub was_set : (s : Slab A) (ns : List ℕ) (i k : ℕ) (x : A) → i < length ns → IsSound s ns → k ≡ get_or ns i k → found (get (with_value s k x)) ns ≡ set (found (get s) ns) i x
  was_set s ns i k x w sound e =
      let u = Updates-with_value s k x (is_held s ns i k w sound e) in
      found_set s (with_value s k x) ns i k x w sound.differ sound.held (rw (sym e) u)

  pub sound_same : (s t : Slab A) (ns : List ℕ) → t.slots ≡ s.slots → IsSound s ns → IsSound t ns
  sound_same s t ns e sound = record {
    differ = sound.differ;
    held = held_same s t ns e sound.held;
    nothing_else = ap (count_by is_some) e ∙ sound.nothing_else;
  }

  -- ---- finding

  pub can_compare : (can : A → Type 0) (s : Slab A) (ns : List ℕ) → IsSound s ns → All can (found (get s) ns) → All (λ n. IsSomeAnd (get s n) can) ns
  can_compare can s ns sound all i d w =
      let x = some_of (get s (get_or ns i d)) (held_at s ns i d sound.held w) in
      rw (found_at s ns i d x.0 sound.held w) (all i x.0 (omega (arith, w, length_found s ns sound.held)))

  pub equal_at : (order : A → Ordering) (s : Slab A) (ns : List ℕ) (i : ℕ) → IsSound s ns → IsEqualAt (λ n. order_of order (get s n)) ns i → IsEqualAt order (found (get s) ns) i
  equal_at order s ns i sound h = record {
    within = omega (arith, h.within, length_found s ns sound.held);
    equal = λ d. ap (order_of order) (sym (found_at s ns i 0 d sound.held h.within)) ∙ h.equal 0;
  }

  pub gap_at : (order : A → Ordering) (s : Slab A) (ns : List ℕ) (i : ℕ) → i ≤ length ns → IsSound s ns → IsGap (λ n. order_of order (get s n)) ns i → IsGap order (found (get s) ns) i
  gap_at order s ns i w sound h = record {
    less = λ d some. ap (order_of order) (sym (found_at s ns (i - 1) 0 d sound.held (omega (arith, w, some)))) ∙ h.less 0 some;
    greater = λ d some. ap (order_of order) (sym (found_at s ns i 0 d sound.held (omega (arith, some, length_found s ns sound.held)))) ∙ h.greater 0 (omega (arith, some, length_found s ns sound.held));
  }

-- ---- what callers see

module _ {A : Type 0} (s : Slab A) (shape : Shape ℕ) (half : ℕ) (l : Listed A) (e : listed shape s half ≡ l) (sound : IsSound s (items shape)) where
  pub seen_length : length l.items ≡ length (items shape)
  seen_length = subst (λ (m : Listed A). length m.items ≡ length (items shape)) e (length_found s (items shape) sound.held)

  pub seen_at : (p : Place) → at l p ≡ before shape p
  seen_at p = subst (λ (m : Listed A). at m p ≡ before shape p) e refl

  pub seen_item : (p : Place) → IsIndexItem shape p → before shape p < length (items shape) → IsItem l p
  seen_item p h w = subst (λ (m : Listed A). IsItem m p) e (h, omega (arith, w, length_found s (items shape) sound.held))

  pub index_place : (p : Place) → IsPlace l p → IsIndexPlace shape p
  index_place p h = subst (λ (m : Listed A). IsIndexPlace m.index p) (sym e) h

  pub index_item : (p : Place) → IsItem l p → IsIndexItem shape p
  index_item p h = subst (λ (m : Listed A). IsIndexItem m.index p) (sym e) h.0

  pub index_within : (p : Place) → IsItem l p → before shape p < length (items shape)
  index_within p h = omega (arith, h.1, seen_at p, seen_length)

  pub slab_room : (n : ℕ) → length l.items + n ≤ l.capacity → slab_len s + n ≤ s.capacity
  slab_room n h =
      let c = ap (λ (m : Listed A). m.capacity) e in
      omega (arith, h, c, seen_length, sound.nothing_else)

  pub index_room : (n : ℕ) → length l.items + n ≤ l.capacity → length (items shape) + n ≤ capacity half shape
  index_room n h =
      let c = ap (λ (m : Listed A). m.capacity) e in
      omega (arith, h, c, seen_length)

  pub found_place : (order : A → Ordering) (r : Result Place Place) → ((p : Place) → IsIndexPlace shape p → before shape p ≤ length (items shape)) → IsIndexFound (λ n. order_of order (get s n)) shape r → IsFound order l r
  found_place order (Ok p) within h = (seen_item p h.0 h.1.within, subst (λ (m : Listed A). IsEqualAt order m.items (at m p)) e (equal_at order s (items shape) (before shape p) sound h.1))
  found_place order (Err p) within h = (
    subst (λ (m : Listed A). IsPlace m p) e h.0,
    omega (arith, within p h.0, seen_at p, seen_length),
    subst (λ (m : Listed A). IsGap order m.items (at m p)) e (gap_at order s (items shape) (before shape p) (within p h.0) sound h.1),
  )
