-- Lists in an order: what is put in and taken out, wherever it is found.
use Rattle.pim_down.proofs.Words.{◌≡◌, ℕ, zero, suc, ◌-◌, ◌<◌, ◌≤◌, Bool, true, false, cond, List, [], ◌∷◌, length, get_or, ltb, refl, sym, ap, subst, ◌∙◌, arith, Ordering, Less, Equal, Greater, is_eq, is_gt, ordering_reverse, insert, remove, IsTotalOrder, upto, tied_itself, false≢true, ltb-true, ltb-false, placed, without, IsLow, IsInOrder}

-- ---- orderings

not_behind : (r : Ordering) → is_gt r ≡ true → is_gt (ordering_reverse r) ≡ false
not_behind Less e = absurd (false≢true e)
not_behind Equal e = absurd (false≢true e)
not_behind Greater e = refl

not_tied : (r : Ordering) → is_gt r ≡ true → is_eq r ≡ false
not_tied Less e = absurd (false≢true e)
not_tied Equal e = absurd (false≢true e)
not_tied Greater e = refl

tied_is : (r : Ordering) → is_eq r ≡ true → r ≡ Equal
tied_is Less e = absurd (false≢true e)
tied_is Equal e = refl
tied_is Greater e = absurd (false≢true e)

module _ {X : Type 0} (cmp : X → X → Ordering) (total : IsTotalOrder cmp) (same : (x y : X) → cmp x y ≡ Equal → x ≡ y) where
  abbrev pub Le : X → X → Type 0
  Le x y = is_gt (cmp x y) ≡ false

  pub le_itself : (x : X) → Le x x
  le_itself x = ap is_gt (tied_itself total x)

  pub le_other : (x y : X) → is_gt (cmp x y) ≡ true → Le y x
  le_other x y e = ap is_gt (total.antisymm y x) ∙ not_behind (cmp x y) e

  pub le_trans : (x y z : X) → Le x y → Le y z → Le x z
  le_trans x y z = upto total x y z

  pub greater_le : (x y : X) → cmp x y ≡ Greater → Le y x
  greater_le x y e = le_other x y (ap is_gt e)

  pub le_both : (x y : X) → Le x y → Le y x → x ≡ y
  le_both x y h k = by (cmp x y) refl
    where
      by : (r : Ordering) → cmp x y ≡ r → x ≡ y
      by Less e = absurd (false≢true (sym k ∙ ap is_gt (total.antisymm y x ∙ ap ordering_reverse e)))
      by Equal e = same x y e
      by Greater e = absurd (false≢true (sym h ∙ ap is_gt e))

  -- ---- put in

  pub placed_low : (x : X) (ys : List X) → IsLow cmp x ys → placed cmp x ys ≡ x ∷ ys
  unfolding placed IsLow
  placed_low x [] low = refl
  placed_low x (y ∷ ys) low = rw low.0 refl

  pub placed_swap : (x y : X) (zs : List X) → placed cmp x (placed cmp y zs) ≡ placed cmp y (placed cmp x zs)
  unfolding placed
  placed_swap x y [] = by (is_gt (cmp x y)) refl (is_gt (cmp y x)) refl
    where
      by : (a : Bool) → is_gt (cmp x y) ≡ a → (b : Bool) → is_gt (cmp y x) ≡ b → cond (is_gt (cmp x y)) (y ∷ x ∷ []) (x ∷ y ∷ []) ≡ cond (is_gt (cmp y x)) (x ∷ y ∷ []) (y ∷ x ∷ [])
      by true e true f = absurd (false≢true (sym (le_other x y e) ∙ f))
      by true e false f = rw (e, f) refl
      by false e true f = rw (e, f) refl
      by false e false f = let one = le_both x y e f in rw (e, f) (λ i. one i ∷ sym one i ∷ [])
  placed_swap x y (z ∷ zs) = by (is_gt (cmp x z)) refl (is_gt (cmp y z)) refl (placed_swap x y zs)
    where
      both : (a : Bool) → is_gt (cmp x y) ≡ a → (b : Bool) → is_gt (cmp y x) ≡ b → cond (is_gt (cmp x y)) (y ∷ x ∷ z ∷ zs) (x ∷ y ∷ z ∷ zs) ≡ cond (is_gt (cmp y x)) (x ∷ y ∷ z ∷ zs) (y ∷ x ∷ z ∷ zs)
      both true e true f = absurd (false≢true (sym (le_other x y e) ∙ f))
      both true e false f = rw (e, f) refl
      both false e true f = rw (e, f) refl
      both false e false f = let one = le_both x y e f in rw (e, f) (λ i. one i ∷ sym one i ∷ z ∷ zs)

      behind_too : (x y : X) → is_gt (cmp x z) ≡ true → Le y z → (b : Bool) → is_gt (cmp x y) ≡ b → is_gt (cmp x y) ≡ true
      behind_too x y h k true e = e
      behind_too x y h k false e = absurd (false≢true (sym (le_trans x y z e k) ∙ h))

      by : (a : Bool) → is_gt (cmp x z) ≡ a → (b : Bool) → is_gt (cmp y z) ≡ b → placed cmp x (placed cmp y zs) ≡ placed cmp y (placed cmp x zs) → placed cmp x (placed cmp y (z ∷ zs)) ≡ placed cmp y (placed cmp x (z ∷ zs))
      by true e true f rest = rw (e, f) (rw e (ap (λ xs. z ∷ xs) rest))
      by true e false f rest = rw (e, f) (rw (behind_too x y e f (is_gt (cmp x y)) refl) (rw e refl))
      by false e true f rest = rw (e, f) (rw (e, behind_too y x f e (is_gt (cmp y x)) refl) refl)
      by false e false f rest = rw (e, f) (rw e (both (is_gt (cmp x y)) refl (is_gt (cmp y x)) refl))

  pub low_placed : (x y : X) (zs : List X) → Le x y → IsLow cmp x zs → IsLow cmp x (placed cmp y zs)
  unfolding placed IsLow
  low_placed x y [] le low = (le, tt)
  low_placed x y (z ∷ zs) le low =
      elim (is_gt (cmp y z)) as (λ b. IsLow cmp x (cond b (z ∷ placed cmp y zs) (y ∷ z ∷ zs))) [
        | true ↦ (low.0, low_placed x y zs le low.1)
        | false ↦ (le, low)
      ]

  -- and back
  pub low_parts : (x y : X) (zs : List X) → IsLow cmp x (placed cmp y zs) → Le x y × IsLow cmp x zs
  unfolding placed IsLow
  low_parts x y [] low = (low.0, tt)
  low_parts x y (z ∷ zs) low =
      elim (is_gt (cmp y z)) as (λ b. IsLow cmp x (cond b (z ∷ placed cmp y zs) (y ∷ z ∷ zs)) → Le x y × IsLow cmp x (z ∷ zs)) [
        | true ↦ λ l. let rest = low_parts x y zs l.1 in (rest.0, (l.0, rest.1))
        | false ↦ λ l. l
      ] low

  pub low_trans : (x y : X) (zs : List X) → Le x y → IsLow cmp y zs → IsLow cmp x zs
  unfolding IsLow
  low_trans x y [] le low = tt
  low_trans x y (z ∷ zs) le low = (le_trans x y z le low.0, low_trans x y zs le low.1)

  pub order_placed : (x : X) (ys : List X) → IsInOrder cmp ys → IsInOrder cmp (placed cmp x ys)
  unfolding placed IsLow IsInOrder
  order_placed x [] order = (tt, tt)
  order_placed x (y ∷ ys) order = by (is_gt (cmp x y)) refl (order_placed x ys order.1)
    where
      by : (b : Bool) → is_gt (cmp x y) ≡ b → IsInOrder cmp (placed cmp x ys) → IsInOrder cmp (cond b (y ∷ placed cmp x ys) (x ∷ y ∷ ys))
      by true e rest = (low_placed y x ys (le_other x y e) order.0, rest)
      by false e rest = ((e, low_trans x y ys e order.0), order)

  pub length_placed : (x : X) (ys : List X) → length (placed cmp x ys) ≡ suc (length ys)
  unfolding placed
  length_placed x [] = refl
  length_placed x (y ∷ ys) =
      elim (is_gt (cmp x y)) as (λ b. length (cond b (y ∷ placed cmp x ys) (x ∷ y ∷ ys)) ≡ suc (suc (length ys))) [
        | true ↦ ap suc (length_placed x ys)
        | false ↦ refl
      ]

  -- ---- taken out

  pub without_placed : (x : X) (ys : List X) → without cmp x (placed cmp x ys) ≡ ys
  unfolding placed without
  without_placed x [] = rw (ap is_eq (tied_itself total x)) refl
  without_placed x (y ∷ ys) = by (is_gt (cmp x y)) refl (without_placed x ys)
    where
      by : (b : Bool) → is_gt (cmp x y) ≡ b → without cmp x (placed cmp x ys) ≡ ys → without cmp x (cond b (y ∷ placed cmp x ys) (x ∷ y ∷ ys)) ≡ y ∷ ys
      by true e rest = rw (not_tied (cmp x y) e) (ap (λ zs. y ∷ zs) rest)
      by false e rest = rw (ap is_eq (tied_itself total x)) refl

  -- ---- at a place

  pub low_at : (x : X) (ys : List X) (i : ℕ) (d : X) → i < length ys → IsLow cmp x ys → Le x (get_or ys i d)
  unfolding IsLow
  low_at x [] i d w low = absurd (omega arith)
  low_at x (y ∷ ys) zero d w low = low.0
  low_at x (y ∷ ys) (suc i) d w low = low_at x ys i d (omega arith) low.1

  pub in_order_at : (xs : List X) (i j : ℕ) (d : X) → i ≤ j → j < length xs → IsInOrder cmp xs → Le (get_or xs i d) (get_or xs j d)
  unfolding IsInOrder
  in_order_at [] i j d le w order = absurd (omega arith)
  in_order_at (x ∷ xs) zero zero d le w order = le_itself x
  in_order_at (x ∷ xs) zero (suc j) d le w order = low_at x xs j d (omega arith) order.0
  in_order_at (x ∷ xs) (suc i) zero d le w order = absurd (omega arith)
  in_order_at (x ∷ xs) (suc i) (suc j) d le w order = in_order_at xs i j d (omega arith) (omega arith) order.1

  -- what stands before isn't greater, and what stands there isn't less
  pub insert_is : (x : X) (ys : List X) (i : ℕ) → i ≤ length ys → IsInOrder cmp ys → ((j : ℕ) (d : X) → i ≡ suc j → Le (get_or ys j d) x) → ((d : X) → i < length ys → Le x (get_or ys i d)) → insert ys i x ≡ placed cmp x ys
  unfolding placed IsInOrder
  insert_is x [] zero w order low high = refl
  insert_is x [] (suc i) w order low high = absurd (omega arith)
  insert_is x (y ∷ ys) zero w order low high = rw (high y (omega arith)) refl
  insert_is x (y ∷ ys) (suc i) w order low high = by (is_gt (cmp x y)) refl (insert_is x ys i (omega arith) order.1 (λ j d is. low (suc j) d (ap suc is)) (λ d lt. high d (omega arith)))
    where
      first : (i : ℕ) → suc i ≤ suc (length ys) → ((j : ℕ) (d : X) → suc i ≡ suc j → Le (get_or (y ∷ ys) j d) x) → Le y x
      first zero w low = low zero y refl
      first (suc j) w low = le_trans y (get_or ys j y) x (low_at y ys j y (omega arith) order.0) (low (suc j) y refl)

      by : (b : Bool) → is_gt (cmp x y) ≡ b → insert ys i x ≡ placed cmp x ys → y ∷ insert ys i x ≡ cond b (y ∷ placed cmp x ys) (x ∷ y ∷ ys)
      by true e is = ap (λ zs. y ∷ zs) is
      by false e is =
          let one = le_both x y e (first i w low) in
          ap (λ zs. y ∷ zs) (is ∙ placed_low x ys (low_trans x y ys e order.0)) ∙ (λ k. sym one k ∷ one k ∷ ys)

  first_same : (x : X) (ys : List X) (i : ℕ) → i < length ys → IsInOrder cmp ys → IsLow cmp x ys → ((d : X) → get_or ys i d ≡ x) → ys ≡ x ∷ without cmp x ys
  unfolding without IsLow IsInOrder
  first_same x [] i w order low here = absurd (omega arith)
  first_same x (y ∷ ys) i w order low here =
      let le : Le y x = subst (Le y) (here y) (in_order_at (y ∷ ys) 0 i y (omega arith) w order) in
      let one = le_both x y low.0 le in
      let tied : is_eq (cmp x y) ≡ true = subst (λ z. is_eq (cmp x z) ≡ true) one (ap is_eq (tied_itself total x)) in
      rw tied (λ k. sym one k ∷ ys)

  pub remove_is : (x : X) (ys : List X) (i : ℕ) → i < length ys → IsInOrder cmp ys → ((d : X) → get_or ys i d ≡ x) → remove ys i ≡ without cmp x ys
  unfolding without IsInOrder
  remove_is x [] i w order here = absurd (omega arith)
  remove_is x (y ∷ ys) zero w order here = let tied : is_eq (cmp x y) ≡ true = subst (λ z. is_eq (cmp x z) ≡ true) (sym (here y)) (ap is_eq (tied_itself total x)) in rw tied refl
  remove_is x (y ∷ ys) (suc i) w order here = by (is_eq (cmp x y)) refl (remove_is x ys i (omega arith) order.1 here)
    where
      by : (b : Bool) → is_eq (cmp x y) ≡ b → remove ys i ≡ without cmp x ys → y ∷ remove ys i ≡ cond b ys (y ∷ without cmp x ys)
      by true e is =
          let one = same x y (tied_is (cmp x y) e) in
          (λ k. sym one k ∷ is k) ∙ sym (first_same x ys i (omega arith) order.1 (subst (λ z. IsLow cmp z ys) (sym one) order.0) here)
      by false e is = ap (λ zs. y ∷ zs) is

  without_none : (x : X) (ys : List X) → ((k : ℕ) (d : X) → k < length ys → is_eq (cmp x (get_or ys k d)) ≡ false) → without cmp x ys ≡ ys
  unfolding without
  without_none x [] none = refl
  without_none x (y ∷ ys) none = let first : is_eq (cmp x y) ≡ false = none 0 y (omega arith) in rw first (ap (λ zs. y ∷ zs) (without_none x ys (λ k d w. none (suc k) d (omega arith))))

  -- a gap: it isn't there
  pub gap_without : (x : X) (ys : List X) (i : ℕ) → IsInOrder cmp ys → ((d : X) → 0 < i → cmp (get_or ys (i - 1) d) x ≡ Less) → ((d : X) → i < length ys → cmp (get_or ys i d) x ≡ Greater) → i ≤ length ys → without cmp x ys ≡ ys
  gap_without x ys i order less greater w = without_none x ys (λ k d lt. by k d lt (is_eq (cmp x (get_or ys k d))) refl (ltb k i) refl)
    where
      by : (k : ℕ) (d : X) → k < length ys → (b : Bool) → is_eq (cmp x (get_or ys k d)) ≡ b → (t : Bool) → ltb k i ≡ t → b ≡ false
      by k d lt false e t f = refl
      by k d lt true e true f =
          let one = same x (get_or ys k d) (tied_is (cmp x (get_or ys k d)) e) in
          let before = ltb-true k i f in
          let le : Le x (get_or ys (i - 1) d) = subst (λ z. Le z (get_or ys (i - 1) d)) (sym one) (in_order_at ys k (i - 1) d (omega (arith, before)) (omega (arith, before, w)) order) in
          absurd (false≢true (sym le ∙ ap is_gt (total.antisymm x (get_or ys (i - 1) d) ∙ ap ordering_reverse (less d (omega (arith, before))))))
      by k d lt true e false f =
          let one = same x (get_or ys k d) (tied_is (cmp x (get_or ys k d)) e) in
          let behind = ltb-false k i f in
          let le : Le (get_or ys i d) x = subst (Le (get_or ys i d)) (sym one) (in_order_at ys i k d (omega (arith, behind)) lt order) in
          absurd (false≢true (sym le ∙ ap is_gt (greater d (omega (arith, behind, lt)))))
