-- Going from place to place of a list, up to the first record that passes a test.
use Rattle.pim_down.proofs.Words.{◌≡◌, ◌↔◌, IsTrue, ℕ, ◌+◌, ◌<◌, ◌≤◌, Bool, true, false, cond, List, [], ◌∷◌, Option, Some, None, length, drop, get_or, ltb, refl, sym, ap, ◌∙◌, arith, position, slice_get, false≢true, ltb-true, ltb-false, lt-ltb, get_or-drop, length-drop, position_or_len_is, slice_get_past, slice_get-get_or, Place, Listed, at, IsItem}
pub use Rattle.pim_down.specs.Store.{NoneBefore}
use Rattle.pim_down.proofs.Rpts.{same_default}

module _ {X : Type 0} where
  -- a record stands there, unless the list ends
  abbrev pub IsNext : Listed X → Place → Type 0
  IsNext list place = at list place < length list.items → IsItem list place

  pub past_end : (list : Listed X) (place : Place) (r : Bool) → (IsTrue r ↔ IsItem list place) → r ≡ false → IsNext list place → length list.items ≤ at list place
  past_end list place r tells e next = by (ltb (at list place) (length list.items)) refl
    where
      by : (t : Bool) → ltb (at list place) (length list.items) ≡ t → length list.items ≤ at list place
      by true t = absurd (false≢true (sym e ∙ tells.1 (next (ltb-true (at list place) (length list.items) t))))
      by false t = ltb-false (at list place) (length list.items) t

  pub none_more : (test : X → Bool) (xs : List X) (i j : ℕ) (x : X) → j ≡ i + 1 → x ≡ get_or xs i x → test x ≡ false → NoneBefore test xs i → NoneBefore test xs j
  none_more test xs i j x next here fails none k d lt w = by (ltb k i) refl
    where
      by : (t : Bool) → ltb k i ≡ t → test (get_or xs k d) ≡ false
      by true t = none k d (ltb-true k i t) w
      by false t =
          let one : k ≡ i = omega (arith, lt, next, ltb-false k i t) in
          ap (λ n. test (get_or xs n d)) one ∙ ap test (same_default xs i d x (omega (arith, one, w)) ∙ sym here) ∙ fails

  pub first_here : (test : X → Bool) (list : Listed X) (place : Place) (x : X) → IsItem list place → x ≡ get_or list.items (at list place) x → test x ≡ true → NoneBefore test list.items (at list place) → IsItem list place × (position test list.items ≡ Some (at list place))
  first_here test list place x item here passes none =
      let xs = list.items in
      let i = at list place in
      let n = position_or_len_is test xs i x (omega (arith, item.1)) (λ k lt. none k x lt (omega (arith, lt, item.1))) (λ w. ap test (sym here) ∙ passes) in
      (item, ap (λ m. cond (ltb m (length xs)) (Some m) None) n ∙ ap (λ b. cond b (Some i) None) (lt-ltb i (length xs) item.1))

  pub none_here : (test : X → Bool) (xs : List X) (i : ℕ) → length xs ≤ i → NoneBefore test xs i → position test xs ≡ None
  none_here test [] i past none = refl
  none_here test (x ∷ xs) i past none =
      let all = x ∷ xs in
      let n = position_or_len_is test all (length all) x (omega arith) (λ k lt. none k x (omega arith) lt) (λ w. absurd (omega arith)) in
      ap (λ m. cond (ltb m (length all)) (Some m) None) n ∙ by (ltb (length all) (length all)) refl
    where
      by : (t : Bool) → ltb (length (x ∷ xs)) (length (x ∷ xs)) ≡ t → ◌≡◌ {A = Option ℕ} (cond t (Some (length (x ∷ xs))) None) None
      by true t = let lt = ltb-true (length (x ∷ xs)) (length (x ∷ xs)) t in absurd (omega arith)
      by false t = refl

  -- what stands first behind an index
  pub front_none : (xs : List X) (i : ℕ) → length xs ≤ i → slice_get (drop i xs) 0 ≡ None
  front_none xs i past = slice_get_past (drop i xs) 0 (omega (arith, past, length-drop i xs))

  pub front_some : (xs : List X) (i : ℕ) (x : X) → i < length xs → x ≡ get_or xs i x → slice_get (drop i xs) 0 ≡ Some x
  front_some xs i x w here =
      slice_get-get_or (drop i xs) 0 x (omega (arith, w, length-drop i xs))
      ∙ ap (λ (y : X). Some y) (get_or-drop i xs 0 x ∙ (let n : i + 0 ≡ i = omega arith in ap (λ m. get_or xs m x) n) ∙ sym here)
