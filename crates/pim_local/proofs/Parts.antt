-- The joins of one group are one part of the joins in order.
use Rattle.pim_local.proofs.Words.{◌≡◌, ◌∙◌, ℕ, zero, suc, ◌+◌, ◌<◌, ◌≤◌, Bool, true, false, cond, List, [], ◌∷◌, length, map, filter, take, drop, get_or, refl, sym, ap, subst, arith, add-one}
use Rattle.pim_local.proofs.Words.{Ordering, Less, Equal, Greater, is_eq, is_le, is_lt, ordering_index, nat_cmp, slice_cmp, nat_lt}
use Rattle.pim_local.proofs.Words.{nat_list_cmp_total, eq_by_cmp_equiv, texts_ties, searchable_from_sorted, IsPartitionedBy-ltb}
use Rattle.pim_local.proofs.Words.{IsNonDecreasingBy, IsNonDecreasingBy-drop, IsPartitionPoint, IsPartitionedBy}
use Rattle.pim_local.proofs.Words.{IsStrictlySortedBy, get_or-drop, length-drop, false≢true, Join, AreInOrder, of_group}
use Rattle.pim_local.proofs.Orders.{groups_rise}

module _ {X : Type 0} (test : X → Bool) where
  none_pass : (xs : List X) → ((k : ℕ) (d : X) → k < length xs → test (get_or xs k d) ≡ false) → filter test xs ≡ []
  none_pass [] none = refl
  none_pass (x ∷ xs) none = rw (none 0 x (omega arith)) (none_pass xs (λ k d l. none (suc k) d (omega arith)))

  front_passes : (xs : List X) (end : ℕ) → end ≤ length xs → ((k : ℕ) (d : X) → k < end → test (get_or xs k d) ≡ true) → ((k : ℕ) (d : X) → end ≤ k → k < length xs → test (get_or xs k d) ≡ false)
      → filter test xs ≡ take end xs
  front_passes xs zero within pass fail = none_pass xs (λ k d l. fail k d (omega arith) l)
  front_passes [] (suc end) within pass fail = absurd (omega arith)
  front_passes (x ∷ xs) (suc end) within pass fail =
      rw (pass 0 x (omega arith)) (ap (λ l. x ∷ l) (front_passes xs end (omega arith) (λ k d l. pass (suc k) d (omega arith)) (λ k d l m. fail (suc k) d (omega arith) (omega arith))))

  front_fails : (xs : List X) (begin : ℕ) → begin ≤ length xs → ((k : ℕ) (d : X) → k < begin → test (get_or xs k d) ≡ false) → filter test xs ≡ filter test (drop begin xs)
  front_fails xs zero within fail = refl
  front_fails [] (suc begin) within fail = absurd (omega arith)
  front_fails (x ∷ xs) (suc begin) within fail = rw (fail 0 x (omega arith)) (front_fails xs begin (omega arith) (λ k d l. fail (suc k) d (omega arith)))

filter_seen : {X Y : Type 0} (seen : X → Y) (test : Y → Bool) (xs : List X) → map seen (filter (λ x. test (seen x)) xs) ≡ filter test (map seen xs)
filter_seen seen test [] = refl
filter_seen seen test (x ∷ xs) = by (test (seen x)) (filter_seen seen test xs)
  where
    by : (b : Bool) → map seen (filter (λ x. test (seen x)) xs) ≡ filter test (map seen xs) →
        map seen (cond b (x ∷ filter (λ x. test (seen x)) xs) (filter (λ x. test (seen x)) xs)) ≡ cond b (seen x ∷ filter test (map seen xs)) (filter test (map seen xs))
    by true others = ap (λ l. seen x ∷ l) others
    by false others = others

-- ---- the part between two places

below_one : (r : Ordering) → nat_lt (ordering_index r) 1 ≡ is_lt r
below_one Less = refl
below_one Equal = refl
below_one Greater = refl

below_two : (r : Ordering) → nat_lt (ordering_index r) 2 ≡ is_le r
below_two Less = refl
below_two Equal = refl
below_two Greater = refl

less_differs : (r : Ordering) → is_lt r ≡ true → is_eq r ≡ false
less_differs Less e = refl
less_differs Equal e = absurd (false≢true e)
less_differs Greater e = absurd (false≢true e)

greater_differs : (r : Ordering) → is_le r ≡ false → is_eq r ≡ false
greater_differs Less e = absurd (false≢true (sym e))
greater_differs Equal e = absurd (false≢true (sym e))
greater_differs Greater e = refl

between_same : (r : Ordering) → is_lt r ≡ false → is_le r ≡ true → is_eq r ≡ true
between_same Less e f = absurd (false≢true (sym e))
between_same Equal e f = refl
between_same Greater e f = absurd (false≢true f)

module _ {R : Type 0} (seen : R → Join) (group : List ℕ) (cmp : R → Ordering) (order : (held : R) → cmp held ≡ slice_cmp nat_cmp (seen held).group group) where
  tests : (held : R) → of_group group (seen held) ≡ is_eq (cmp held)
  tests held = texts_ties group (seen held).group ∙ (eq_by_cmp_equiv nat_list_cmp_total).symm group (seen held).group ∙ ap is_eq (sym (order held))

  steps : (xs : List R) → AreInOrder (map seen xs) → (k : ℕ) (d : R) → suc k < length xs → is_lt (slice_cmp nat_cmp (seen (get_or xs (suc k) d)).group (seen (get_or xs k d)).group) ≡ false
  unfolding IsStrictlySortedBy
  steps [] up k d below = absurd (omega arith)
  steps (x ∷ []) up k d below = absurd (omega arith)
  steps (x ∷ y ∷ xs) up zero d below = groups_rise (seen x) (seen y) up.0.0
  steps (x ∷ y ∷ xs) up (suc k) d below = steps (y ∷ xs) up.1 k d (omega arith)

  rises : (joins : List R) → AreInOrder (map seen joins) → IsNonDecreasingBy (λ held. ordering_index (cmp held)) joins
  rises joins up =
      subst (λ (f : R → Ordering). IsNonDecreasingBy (λ held. ordering_index (f held)) joins) (λ i held. sym (order held) i)
      (searchable_from_sorted nat_list_cmp_total (λ (held : R). (seen held).group) joins group (λ k d low high. rw (add-one k) (steps joins up k d (omega arith))))

  -- what a search for the first join of the group asks, and for the first one after them
  pub begins : (joins : List R) → AreInOrder (map seen joins) → IsPartitionedBy (λ held. is_lt (cmp held)) joins
  begins joins up = subst (λ (f : R → Bool). IsPartitionedBy f joins) (λ i held. below_one (cmp held) i) (IsPartitionedBy-ltb (λ held. ordering_index (cmp held)) joins 1 (rises joins up))

  pub ends : (joins others : List R) (begin : ℕ) → AreInOrder (map seen joins) → others ≡ drop begin joins → IsPartitionedBy (λ held. is_le (cmp held)) others
  ends joins others begin up same =
      subst (λ (f : R → Bool). IsPartitionedBy f others) (λ i held. below_two (cmp held) i)
      (IsPartitionedBy-ltb (λ held. ordering_index (cmp held)) others 2
      (subst (IsNonDecreasingBy (λ held. ordering_index (cmp held))) (sym same) (IsNonDecreasingBy-drop (λ held. ordering_index (cmp held)) begin joins (rises joins up))))

  pub part_is : (joins others part : List R) (begin end : ℕ) → begin ≤ length joins → IsPartitionPoint (λ held. is_lt (cmp held) ≡ true) (λ held. is_lt (cmp held) ≡ false) joins begin
      → others ≡ drop begin joins → end ≤ length others → IsPartitionPoint (λ held. is_le (cmp held) ≡ true) (λ held. is_le (cmp held) ≡ false) others end
      → part ≡ take end others → map seen part ≡ filter (of_group group) (map seen joins)
  part_is joins others part begin end within first same within' second is =
      let test = λ (held : R). of_group group (seen held) in
      let front : filter test joins ≡ filter test (drop begin joins) =
      front_fails test joins begin within (λ k d l. tests (get_or joins k d) ∙ less_differs (cmp (get_or joins k d)) (first.0 k d (omega arith) l)) in
      let middle : filter test others ≡ take end others =
      front_passes test others end within'
      (λ k d l. tests (get_or others k d) ∙ between_same (cmp (get_or others k d)) (at k d (omega (arith, l, within'))) (second.0 k d (omega arith) l))
      (λ k d l m. tests (get_or others k d) ∙ greater_differs (cmp (get_or others k d)) (second.1 k d l m)) in
      ap (map seen) (is ∙ sym middle ∙ ap (filter test) same ∙ sym front) ∙ filter_seen seen (of_group group) joins
    where
      at : (k : ℕ) (d : R) → k < length others → is_lt (cmp (get_or others k d)) ≡ false
      at k d l =
          let here : get_or others k d ≡ get_or joins (begin + k) d = ap (λ (xs : List R). get_or xs k d) same ∙ get_or-drop begin joins k d in
          ap (λ (held : R). is_lt (cmp held)) here ∙ first.1 (begin + k) d (omega arith) (omega (arith, l, ap length same, length-drop begin joins))
