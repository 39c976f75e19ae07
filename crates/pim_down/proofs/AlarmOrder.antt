-- The timers of one kind: found by their records' numbers, put in and taken out.
use Rattle.pim_down.proofs.Words.{◌≡◌, ℕ, zero, suc, ◌+◌, ◌-◌, ◌<◌, ◌≤◌, true, false, cond, List, [], ◌∷◌, Option, Some, None, option_map, map, length, take, drop, ◌++◌, get_or, sym, ap, subst, ◌∙◌, arith, Ordering, Less, Equal, Greater, nat_cmp, ordering_then, is_gt, insert, remove, AllByRecursion, IsTotalOrder, nat_cmp-IsAntisymmetric, nat_cmp_total, on_total, then_total, length-map, get_or-map, Slab, get, IsGap, IsEqualAt, Alarm, Held, Key, key_cmp, placed, without, IsInOrder, Numbered, alarm_cmp, alarm_of, with_alarm, AreKnown, key_order, alarm_order, key_seen}
use Rattle.pim_down.specs.Schedule.{key_of}
use Rattle.pim_down.proofs.Lists.{map_insert, map_remove}
use Rattle.pim_down.proofs.Order.{key_total, both_equal, equal_keys}
use Rattle.pim_down.proofs.InOrder.{le_itself, greater_le, in_order_at, low_parts, without_placed, insert_is, remove_is, gap_without}

-- ---- the order

pub alarm_total : IsTotalOrder alarm_cmp
unfolding alarm_cmp
alarm_total =
    then_total
    (then_total (on_total (λ (t : Numbered). t.ends_at) nat_cmp_total) (on_total (λ (t : Numbered). t.key) key_total))
    (on_total (λ (t : Numbered). t.number) nat_cmp_total)

pub same_alarm : (a b : Numbered) → alarm_cmp a b ≡ Equal → a ≡ b
unfolding alarm_cmp
same_alarm a b e =
    let whole = both_equal (ordering_then (nat_cmp a.ends_at b.ends_at) (key_cmp a.key b.key)) (nat_cmp a.number b.number) e in
    let front = both_equal (nat_cmp a.ends_at b.ends_at) (key_cmp a.key b.key) whole.0 in
    let ends = nat_cmp-IsAntisymmetric a.ends_at b.ends_at front.0 in
    let keys = equal_keys a.key b.key front.1 in
    let numbers = nat_cmp-IsAntisymmetric a.number b.number whole.1 in
    λ i. record { ends_at = ends i; key = keys i; number = numbers i }

abbrev pub Ordered : List Numbered → Type 0
Ordered = IsInOrder alarm_cmp

pub order_parts : (x : Numbered) (ys : List Numbered) → Ordered (placed alarm_cmp x ys) → Ordered ys
unfolding placed IsInOrder
order_parts x [] order = tt
order_parts x (y ∷ ys) order =
    elim (is_gt (alarm_cmp x y)) as (λ b. Ordered (cond b (y ∷ placed alarm_cmp x ys) (x ∷ y ∷ ys)) → Ordered (y ∷ ys)) [
      | true ↦ λ o. ((low_parts alarm_cmp alarm_total same_alarm y x ys o.0).1, order_parts x ys o.1)
      | false ↦ λ o. o.1
    ] order

-- ---- a property of all

module _ (P : Numbered → Type 0) where
  pub all_placed : (x : Numbered) (ys : List Numbered) → P x → AllByRecursion P ys → AllByRecursion P (placed alarm_cmp x ys)
  unfolding placed
  all_placed x [] p all = (p, tt)
  all_placed x (y ∷ ys) p all =
      elim (is_gt (alarm_cmp x y)) as (λ b. AllByRecursion P (cond b (y ∷ placed alarm_cmp x ys) (x ∷ y ∷ ys))) [
        | true ↦ (all.0, all_placed x ys p all.1)
        | false ↦ (p, all)
      ]

  pub all_parts : (x : Numbered) (ys : List Numbered) → AllByRecursion P (placed alarm_cmp x ys) → AllByRecursion P ys
  unfolding placed
  all_parts x [] all = tt
  all_parts x (y ∷ ys) all =
      elim (is_gt (alarm_cmp x y)) as (λ b. AllByRecursion P (cond b (y ∷ placed alarm_cmp x ys) (x ∷ y ∷ ys)) → AllByRecursion P (y ∷ ys)) [
        | true ↦ λ a. (a.0, all_parts x ys a.1)
        | false ↦ λ a. a.1
      ] all

  pub one_of : (ys : List Numbered) (i : ℕ) (d : Numbered) → i < length ys → AllByRecursion P ys → P (get_or ys i d)
  one_of [] i d w all = absurd (omega arith)
  one_of (y ∷ ys) zero d w all = all.0
  one_of (y ∷ ys) (suc i) d w all = one_of ys i d (omega arith) all.1

-- ---- at the place that was found

module _ {A : Type 0} (bytes_of : A → List ℕ) (slab : Slab (Held A)) where
  pub known_rest : (key : Key (List ℕ)) (number : ℕ) (end : Option ℕ) (ts : List Numbered) → AreKnown bytes_of slab (with_alarm key number end ts) → AreKnown bytes_of slab ts
  known_rest key number None ts known = known
  known_rest key number (Some ends) ts known =
      let this : Numbered = record { ends_at = ends; key = key; number = number } in
      record {
        keys = all_parts (λ (t : Numbered). key_of bytes_of slab t.number ≡ Some t.key) this ts known.keys;
        order = order_parts this ts known.order;
      }

  pub stopped : (key : Key (List ℕ)) (number ends : ℕ) (end : Option ℕ) (ts : List Numbered) (old new : List Alarm) → end ≡ Some ends →
      ((all : List Numbered) → AreKnown bytes_of slab all → old ≡ map alarm_of all → new ≡ map alarm_of (without alarm_cmp (record { ends_at = ends; key = key; number = number }) all)) →
      AreKnown bytes_of slab (with_alarm key number end ts) → old ≡ map alarm_of (with_alarm key number end ts) → new ≡ map alarm_of ts
  stopped key number ends end ts old new some gone known kept =
      let this : Numbered = record { ends_at = ends; key = key; number = number } in
      let all = ap (λ e. with_alarm key number e ts) some in
      gone (placed alarm_cmp this ts) (subst (AreKnown bytes_of slab) all known) (kept ∙ ap (map alarm_of) all) ∙ ap (map alarm_of) (without_placed alarm_cmp alarm_total same_alarm this ts)

  -- the key of a known timer is compared
  key_is : (sought key : Key (List ℕ)) (slot : Option (Held A)) → option_map (λ (h : Held A). key_seen bytes_of h.key) slot ≡ Some key → key_order bytes_of slab sought slot ≡ key_cmp key sought
  key_is sought key None e = absurd (never e)
    where
      never : ◌≡◌ {A = Option (Key (List ℕ))} None (Some key) → ⊥
      never f = cc
  key_is sought key (Some held) e = let same : key_seen bytes_of held.key ≡ key = cc in ap (λ k. key_cmp k sought) same

  order_is : (this : Numbered) (t : Numbered) → key_of bytes_of slab t.number ≡ Some t.key → alarm_order bytes_of slab this (alarm_of t) ≡ alarm_cmp t this
  unfolding alarm_order alarm_cmp
  order_is this t e = ap (λ o. ordering_then (ordering_then (nat_cmp t.ends_at this.ends_at) o) (nat_cmp t.number this.number)) (key_is this.key t.key (get slab t.number) e)

  module _ (this : Numbered) (ts : List Numbered) (known : AreKnown bytes_of slab ts) where
    abbrev order : Alarm → Ordering
    order = alarm_order bytes_of slab this

    at_is : (i : ℕ) (d : Numbered) → i < length ts → order (get_or (map alarm_of ts) i (alarm_of d)) ≡ alarm_cmp (get_or ts i d) this
    at_is i d w =
        ap order (get_or-map alarm_of ts i d (alarm_of d) w)
        ∙ order_is this (get_or ts i d) (one_of (λ (t : Numbered). key_of bytes_of slab t.number ≡ Some t.key) ts i d w known.keys)

    same_at : (i : ℕ) → IsEqualAt order (map alarm_of ts) i → (d : Numbered) → get_or ts i d ≡ this
    same_at i equal d =
        let w : i < length ts = omega (arith, equal.within, length-map ts alarm_of) in
        same_alarm (get_or ts i d) this (sym (at_is i d w) ∙ equal.equal (alarm_of d))

    less_at : (i : ℕ) → i ≤ length ts → IsGap order (map alarm_of ts) i → (d : Numbered) → 0 < i → alarm_cmp (get_or ts (i - 1) d) this ≡ Less
    less_at i w gap d some = sym (at_is (i - 1) d (omega (arith, some, w))) ∙ gap.less (alarm_of d) some

    greater_at : (i : ℕ) → IsGap order (map alarm_of ts) i → (d : Numbered) → i < length ts → alarm_cmp (get_or ts i d) this ≡ Greater
    greater_at i gap d w = sym (at_is i d w) ∙ gap.greater (alarm_of d) (omega (arith, w, length-map ts alarm_of))

    slot_at_equal : (i : ℕ) → IsEqualAt order (map alarm_of ts) i → insert ts i this ≡ placed alarm_cmp this ts
    slot_at_equal i equal =
        let w : i < length ts = omega (arith, equal.within, length-map ts alarm_of) in
        insert_is alarm_cmp alarm_total same_alarm this ts i (omega (arith, w)) known.order
        (λ j e is. subst (λ x. is_gt (alarm_cmp (get_or ts j e) x) ≡ false) (same_at i equal e) (in_order_at alarm_cmp alarm_total same_alarm ts j i e (omega (arith, is)) w known.order))
        (λ e lt. subst (λ x. is_gt (alarm_cmp this x) ≡ false) (sym (same_at i equal e)) (le_itself alarm_cmp alarm_total same_alarm this))

    slot_at_gap : (i : ℕ) → i ≤ length ts → IsGap order (map alarm_of ts) i → insert ts i this ≡ placed alarm_cmp this ts
    slot_at_gap i w gap =
        insert_is alarm_cmp alarm_total same_alarm this ts i w known.order
        (λ j e is. let one : i - 1 ≡ j = omega (arith, is) in subst (λ k. is_gt (alarm_cmp (get_or ts k e) this) ≡ false) one (ap is_gt (less_at i w gap e (omega (arith, is)))))
        (λ e lt. greater_le alarm_cmp alarm_total same_alarm (get_or ts i e) this (greater_at i gap e lt))

    gone_at : (i : ℕ) → IsEqualAt order (map alarm_of ts) i → remove ts i ≡ without alarm_cmp this ts
    gone_at i equal = remove_is alarm_cmp alarm_total same_alarm this ts i (omega (arith, equal.within, length-map ts alarm_of)) known.order (same_at i equal)

    none_gone : (i : ℕ) → i ≤ length ts → IsGap order (map alarm_of ts) i → ts ≡ without alarm_cmp this ts
    none_gone i w gap = sym (gap_without alarm_cmp alarm_total same_alarm this ts i known.order (less_at i w gap) (λ d lt. greater_at i gap d lt) w)

    -- the alarms as the list has them
    module _ (xs : List Alarm) (kept : xs ≡ map alarm_of ts) (i : ℕ) where
      at_kept : IsEqualAt order xs i → IsEqualAt order (map alarm_of ts) i
      at_kept equal = subst (λ ys. IsEqualAt order ys i) kept equal

      gap_kept : IsGap order xs i → IsGap order (map alarm_of ts) i
      gap_kept gap = subst (λ ys. IsGap order ys i) kept gap

      within : i ≤ length xs → i ≤ length ts
      within w = omega (arith, w, ap length kept, length-map ts alarm_of)

      inserted : insert ts i this ≡ placed alarm_cmp this ts → insert xs i (alarm_of this) ≡ map alarm_of (placed alarm_cmp this ts)
      inserted is = ap (λ ys. insert ys i (alarm_of this)) kept ∙ sym (map_insert alarm_of ts i this) ∙ ap (map alarm_of) is

      pub put_equal : IsEqualAt order xs i → insert xs i (alarm_of this) ≡ map alarm_of (placed alarm_cmp this ts)
      put_equal equal = inserted (slot_at_equal i (at_kept equal))

      pub put_gap : i ≤ length xs → IsGap order xs i → insert xs i (alarm_of this) ≡ map alarm_of (placed alarm_cmp this ts)
      put_gap w gap = inserted (slot_at_gap i (within w) (gap_kept gap))

      pub taken : IsEqualAt order xs i → remove xs i ≡ map alarm_of (without alarm_cmp this ts)
      taken equal =
          let n : suc i ≡ i + 1 = omega arith in
          ap (λ ys. remove ys i) kept ∙ (λ k. take i (map alarm_of ts) ++ drop (n k) (map alarm_of ts)) ∙ sym (map_remove alarm_of ts i) ∙ ap (map alarm_of) (gone_at i (at_kept equal))

      pub not_there : i ≤ length xs → IsGap order xs i → xs ≡ map alarm_of (without alarm_cmp this ts)
      not_there w gap = kept ∙ ap (map alarm_of) (none_gone i (within w) (gap_kept gap))
