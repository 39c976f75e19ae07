-- What a search by halves for the next group, or the next machine of a group, passes over.
use Rattle.pim_down.proofs.Words.{◌≡◌, ℕ, zero, suc, ◌+◌, ◌<◌, ◌≤◌, Bool, true, false, cond, ◌&&◌, List, [], ◌∷◌, Option, Some, None, length, drop, get_or, eqb, ltb, option_map, map, refl, sym, ap, subst, ◌∙◌, arith, Ordering, Less, Equal, Greater, ordering_then, ordering_reverse, is_eq, is_lt, is_le, nat_cmp, IsTotalOrder, find, slice_get, is_some, IsPartitionPoint, IsPartitionedBy, nat_cmp_total, nat_list_cmp_total, alike_right, on_total, then_total, false≢true, ltb-true, ltb-false, nat_tests, get_or-drop, length-drop, Held, Record, rank, source_of, address_cmp, what_cmp, key_cmp, What, IsBelow, IsAscending, record_seen, records_seen, record_after, group_after, next_in_group, is_above, is_of_group_after, is_machine_after, is_before_groups, is_up_to, is_of_group, Key}
use Rattle.pim_down.proofs.Order.{key_total}
use Rattle.pim_down.proofs.OnPort.{ports_rise}

none_some : {X : Type 0} {x : X} → None ≡ Some x → ⊥
none_some e = absurd (false≢true (ap is_some e))

some_back : {X : Type 0} {x y : X} → Some x ≡ Some y → x ≡ y
some_back e = cc

-- ---- what passes stands at the front of what is left

abbrev pub first_if : {X : Type 0} → (X → Bool) → List X → Option X
first_if q [] = None
first_if q (x ∷ xs) = cond (q x) (Some x) None

module _ {X : Type 0} (q : X → Bool) where
  none_found : (xs : List X) → ((k : ℕ) (d : X) → k < length xs → q (get_or xs k d) ≡ false) → find q xs ≡ None
  none_found [] none = refl
  none_found (x ∷ xs) none = let first : q x ≡ false = none 0 x (omega arith) in rw first (none_found xs (λ k d h. none (suc k) d (omega arith)))

  found_first : (xs : List X) → IsPartitionedBy q xs → find q xs ≡ first_if q xs
  found_first [] parted = refl
  found_first (x ∷ xs) parted = by (q x) refl
    where
      by : (t : Bool) → q x ≡ t → find q (x ∷ xs) ≡ first_if q (x ∷ xs)
      by true e = simp e
      by false e =
          let rest : find q xs ≡ None = none_found xs (λ k d h. others k d h (q (get_or xs k d)) refl) in
          rw e rest
        where
          others : (k : ℕ) (d : X) → k < length xs → (t : Bool) → q (get_or xs k d) ≡ t → q (get_or xs k d) ≡ false
          others k d h false s = s
          others k d h true s = absurd (false≢true (sym e ∙ parted 0 (suc k) d (omega arith) (omega arith) s))

  found_behind : (xs : List X) (i : ℕ) → ((k : ℕ) (d : X) → k < i → k < length xs → q (get_or xs k d) ≡ false) → find q xs ≡ find q (drop i xs)
  found_behind xs zero none = refl
  found_behind [] (suc i) none = refl
  found_behind (x ∷ xs) (suc i) none =
      let first : q x ≡ false = none 0 x (omega arith) (omega arith) in
      rw first (found_behind xs i (λ k d h w. none (suc k) d (omega arith) (omega arith)))

-- ---- orders

module _ {K : Type 0} {R : K → K → Ordering} (o : IsTotalOrder R) where
  -- what stands up to one that stands up to a third, stands up to the third
  up_to : (x y z : K) → (r s : Ordering) → R x y ≡ r → R y z ≡ s → is_le r ≡ true → is_le s ≡ true → is_le (R x z) ≡ true
  up_to x y z Greater s e f h k = absurd (false≢true h)
  up_to x y z Equal s e f h k = ap is_le (o.congr x y z e ∙ f) ∙ k
  up_to x y z Less Greater e f h k = absurd (false≢true k)
  up_to x y z Less Equal e f h k = ap is_le (sym (alike_right o y z x f) ∙ e)
  up_to x y z Less Less e f h k = ap is_le (o.trans x y z e f)

  pub le_le : (x y z : K) → is_le (R x y) ≡ true → is_le (R y z) ≡ true → is_le (R x z) ≡ true
  le_le x y z h k = up_to x y z (R x y) (R y z) refl refl h k

-- both may be told apart: by the first, or where that ties by the second
front_le : (r s : Ordering) → ordering_then r s ≡ Less → is_le r ≡ true
front_le Less s e = refl
front_le Equal s e = refl
front_le Greater s e = absurd (false≢true (ap is_le e))

-- ---- keys in order

module _ {A : Type 0} (bytes_of : A → List ℕ) where
  abbrev pub see : Held A → Record (List ℕ)
  see held = record_seen bytes_of held

  below_at : (key : Key (List ℕ)) (records : List (Held A)) → IsBelow key (records_seen bytes_of records) → (j : ℕ) (d : Held A) → j < length records → key_cmp key (see (get_or records j d)).key ≡ Less
  unfolding IsBelow
  below_at key [] below j d within = absurd (omega arith)
  below_at key (held ∷ records) below zero d within = below.0
  below_at key (held ∷ records) below (suc j) d within = below_at key records below.1 j d (omega arith)

  pub rise_at : (records : List (Held A)) → IsAscending (records_seen bytes_of records) → (i j : ℕ) (d : Held A) → i < j → j < length records → key_cmp (see (get_or records i d)).key (see (get_or records j d)).key ≡ Less
  unfolding IsAscending
  rise_at [] a i j d lt within = absurd (omega arith)
  rise_at (held ∷ records) a zero zero d lt within = absurd (omega arith)
  rise_at (held ∷ records) a zero (suc j) d lt within = below_at _ records a.0 j d (omega arith)
  rise_at (held ∷ records) a (suc i) zero d lt within = absurd (omega arith)
  rise_at (held ∷ records) a (suc i) (suc j) d lt within = rise_at records a.1 i j d (omega arith) (omega arith)

  -- a test that holds of what stands before what it holds of
  pub parted : (p : Key (List ℕ) → Bool) → ((a b : Key (List ℕ)) → key_cmp a b ≡ Less → p b ≡ true → p a ≡ true) → (records : List (Held A)) → IsAscending (records_seen bytes_of records) → IsPartitionedBy (λ (held : Held A). p (see held).key) records
  parted p falls records a i j d le within h = by (ltb i j) refl
    where
      by : (t : Bool) → ltb i j ≡ t → p (see (get_or records i d)).key ≡ true
      by true t = falls _ _ (rise_at records a i j d (ltb-true i j t) within) h
      by false t = let same : j ≡ i = omega (arith, ltb-false i j t) in subst (λ k. p (see (get_or records k d)).key ≡ true) same h

  module _ (p : Key (List ℕ) → Bool) (q : Record (List ℕ) → Bool)
      (apart : (held : Record (List ℕ)) → p held.key ≡ true → q held ≡ false)
      (near : (x y : Record (List ℕ)) → key_cmp x.key y.key ≡ Less → p x.key ≡ false → q y ≡ true → q x ≡ true) where
    pub searched : (records : List (Held A)) (i : ℕ) → IsAscending (records_seen bytes_of records)
        → IsPartitionPoint (λ (held : Held A). p (see held).key ≡ true) (λ (held : Held A). p (see held).key ≡ false) records i
        → option_map see (first_if (λ held. q (see held)) (drop i records)) ≡ find q (records_seen bytes_of records)
    searched records i a parts =
        let test : Held A → Bool = λ held. q (see held) in
        let long = length-drop i records in
        let behind : IsPartitionedBy test (drop i records) = λ j k d le within h. front j k d le within h (ltb j k) refl in
        ap (option_map see) (sym (found_first test (drop i records) behind) ∙ sym (found_behind test records i (λ k d lt within. apart _ (parts.0 k d (omega arith) lt))))
        ∙ seen_find records
      where
        seen_find : (rs : List (Held A)) → option_map see (find (λ held. q (see held)) rs) ≡ find q (records_seen bytes_of rs)
        seen_find [] = refl
        seen_find (held ∷ rs) =
            elim (q (see held)) as (λ b. option_map see (cond b (Some held) (find (λ h. q (see h)) rs)) ≡ cond b (Some (see held)) (find q (records_seen bytes_of rs))) [
              | true ↦ refl
              | false ↦ seen_find rs
            ]

        front : (j k : ℕ) (d : Held A) → j ≤ k → k < length (drop i records) → q (see (get_or (drop i records) k d)) ≡ true → (t : Bool) → ltb j k ≡ t → q (see (get_or (drop i records) j d)) ≡ true
        front j k d le within h false e = let same : k ≡ j = omega (arith, ltb-false j k e) in subst (λ n. q (see (get_or (drop i records) n d)) ≡ true) same h
        front j k d le within h true e =
            let lt : j < k = ltb-true j k e in
            let long = length-drop i records in
            subst (λ held. q (see held) ≡ true) (sym (get_or-drop i records j d))
            (near (see (get_or records (i + j) d)) (see (get_or records (i + k) d)) (rise_at records a (i + j) (i + k) d (omega arith) (omega arith)) (parts.1 (i + j) d (omega arith) (omega arith))
            (subst (λ held. q (see held) ≡ true) (get_or-drop i records k d) h))

    -- what the first record behind the point tells, where it fails `p`: that it passes `q` is then that it passes `t`
    module _ (t : Record (List ℕ) → Bool) (first : (held : Record (List ℕ)) → p held.key ≡ false → q held ≡ t held)
        (records behind : List (Held A)) (i : ℕ) (a : IsAscending (records_seen bytes_of records))
        (parts : IsPartitionPoint (λ (held : Held A). p (see held).key ≡ true) (λ (held : Held A). p (see held).key ≡ false) records i)
        (is : behind ≡ drop i records) where
      fails : (xs : List (Held A)) (held : Held A) → xs ≡ drop i records → slice_get xs 0 ≡ Some held → p (see held).key ≡ false
      fails [] held e k = absurd (none_some k)
      fails (x ∷ xs) held e k =
          let within : i < length records = omega (arith, length-drop i records, ap length e) in
          let at : get_or records (i + 0) x ≡ x = sym (get_or-drop i records 0 x) ∙ ap (λ ys. get_or ys 0 x) (sym e) in
          subst (λ (h : Held A). p (see h).key ≡ false) (at ∙ some_back k) (parts.1 (i + 0) x (omega arith) (omega arith))

      whole : option_map see (first_if (λ held. q (see held)) behind) ≡ find q (records_seen bytes_of records)
      whole = subst (λ (xs : List (Held A)). option_map see (first_if (λ held. q (see held)) xs) ≡ find q (records_seen bytes_of records)) (sym is) (searched records i a parts)

      pub found_none : slice_get behind 0 ≡ None → None ≡ find q (records_seen bytes_of records)
      found_none k = by behind k whole
        where
          by : (xs : List (Held A)) → slice_get xs 0 ≡ None → option_map see (first_if (λ held. q (see held)) xs) ≡ find q (records_seen bytes_of records) → None ≡ find q (records_seen bytes_of records)
          by [] k w = w
          by (x ∷ xs) k w = absurd (none_some (sym k))

      at_first : (held : Held A) → slice_get behind 0 ≡ Some held → option_map see (cond (t (see held)) (Some held) None) ≡ find q (records_seen bytes_of records)
      at_first held k = by behind is k whole
        where
          by : (xs : List (Held A)) → xs ≡ drop i records → slice_get xs 0 ≡ Some held → option_map see (first_if (λ h. q (see h)) xs) ≡ find q (records_seen bytes_of records) → option_map see (cond (t (see held)) (Some held) None) ≡ find q (records_seen bytes_of records)
          by [] e k w = absurd (none_some k)
          by (x ∷ xs) e k w =
              let same : x ≡ held = some_back k in
              let tests : q (see held) ≡ t (see held) = first (see held) (fails (x ∷ xs) held e k) in
              ap (λ b. option_map see (cond b (Some held) None)) (sym tests)
              ∙ subst (λ (h : Held A). option_map see (cond (q (see h)) (Some h) None) ≡ find q (records_seen bytes_of records)) same w

      pub found_some : (held : Held A) → slice_get behind 0 ≡ Some held → t (see held) ≡ true → Some (see held) ≡ find q (records_seen bytes_of records)
      found_some held k e = subst (λ b. option_map see (cond b (Some held) None) ≡ find q (records_seen bytes_of records)) e (at_first held k)

      pub found_other : (held : Held A) → slice_get behind 0 ≡ Some held → t (see held) ≡ false → None ≡ find q (records_seen bytes_of records)
      found_other held k e = subst (λ b. option_map see (cond b (Some held) None) ≡ find q (records_seen bytes_of records)) e (at_first held k)

-- ---- the groups of a port

pub front_of : (a b : Key (List ℕ)) → key_cmp a b ≡ Less → is_le (ordering_then (nat_cmp a.port b.port) (address_cmp a.group b.group)) ≡ true
unfolding key_cmp
front_of a b e = front_le (ordering_then (nat_cmp a.port b.port) (address_cmp a.group b.group)) (what_cmp a.what b.what) e

-- port and group, and the port alone
abbrev front_cmp : ℕ × List ℕ → ℕ × List ℕ → Ordering
front_cmp a b = ordering_then (nat_cmp a.0 b.0) (address_cmp a.1 b.1)

front_total : IsTotalOrder front_cmp
front_total = then_total (on_total (λ (k : ℕ × List ℕ). k.0) nat_cmp_total) (on_total (λ (k : ℕ × List ℕ). k.1) nat_list_cmp_total)

-- how two numbers compare, by the two tests
abbrev by_tests : Bool → Bool → Ordering
by_tests lt eq = cond lt Less (cond eq Equal Greater)

passed_apart : (lt eq : Bool) (r : Ordering) → (lt ≡ true → eq ≡ false) → is_le (ordering_then (by_tests lt eq) r) ≡ true → (eq && is_lt (ordering_reverse r)) ≡ false
passed_apart true true r not_both h = absurd (false≢true (sym (not_both refl)))
passed_apart true false r not_both h = refl
passed_apart false true Less not_both h = refl
passed_apart false true Equal not_both h = refl
passed_apart false true Greater not_both h = absurd (false≢true h)
passed_apart false false r not_both h = refl

behind_same : (lt eq : Bool) (r : Ordering) → is_le (ordering_then (by_tests lt eq) r) ≡ false → (eq && is_lt (ordering_reverse r)) ≡ eq
behind_same true eq r h = absurd (false≢true (sym h))
behind_same false true Less h = absurd (false≢true (sym h))
behind_same false true Equal h = absurd (false≢true (sym h))
behind_same false true Greater h = refl
behind_same false false r h = refl

not_less : (lt eq : Bool) (r : Ordering) → is_le (ordering_then (by_tests lt eq) r) ≡ false → lt ≡ false
not_less true eq r h = absurd (false≢true (sym h))
not_less false eq r h = refl

less_alone : (lt eq : Bool) → is_lt (by_tests lt eq) ≡ lt
less_alone true eq = refl
less_alone false true = refl
less_alone false false = refl

and_true : (b : Bool) → (b && true) ≡ b
and_true true = refl
and_true false = refl

less_not_equal : (a b : ℕ) → ltb a b ≡ true → eqb a b ≡ false
less_not_equal a b e = grind (arith, nat_tests)

equal_from : (a b c : ℕ) → a ≤ b → eqb b c ≡ true → ltb a c ≡ false → eqb a c ≡ true
equal_from a b c le e f = grind (arith, nat_tests)

pub first_part : (a b : Bool) → (a && b) ≡ true → a ≡ true
first_part true b e = refl
first_part false b e = absurd (false≢true e)

pub second_part : (a b : Bool) → (a && b) ≡ true → b ≡ true
second_part true b e = e
second_part false b e = absurd (false≢true e)

module _ (port : ℕ) where
  turned : (bound group : List ℕ) → address_cmp bound group ≡ ordering_reverse (address_cmp group bound)
  turned bound group = nat_list_cmp_total.antisymm bound group

  -- behind what stands before them, a record of the port is of such a group
  pub group_first : (bound : Option (List ℕ)) (held : Record (List ℕ)) → is_before_groups port bound held.key ≡ false → is_of_group_after port bound held ≡ eqb held.key.port port
  group_first None held h = and_true (eqb held.key.port port)
  group_first (Some bound) held h =
      let same = behind_same (ltb held.key.port port) (eqb held.key.port port) (address_cmp held.key.group bound) h in
      ap (λ o. eqb held.key.port port && is_lt o) (turned bound held.key.group) ∙ same

  pub groups_fall : (bound : Option (List ℕ)) (a b : Key (List ℕ)) → key_cmp a b ≡ Less → is_before_groups port bound b ≡ true → is_before_groups port bound a ≡ true
  groups_fall None a b e h =
      let le = ports_rise a b e in
      let lt : ltb b.port port ≡ true = sym (less_alone (ltb b.port port) (eqb b.port port)) ∙ h in
      less_alone (ltb a.port port) (eqb a.port port) ∙ grind (arith, nat_tests)
  groups_fall (Some bound) a b e h = le_le front_total (a.port, a.group) (b.port, b.group) (port, bound) (front_of a b e) h

  pub groups_apart : (bound : Option (List ℕ)) (held : Record (List ℕ)) → is_before_groups port bound held.key ≡ true → is_of_group_after port bound held ≡ false
  groups_apart None held h =
      let lt : ltb held.key.port port ≡ true = sym (less_alone (ltb held.key.port port) (eqb held.key.port port)) ∙ h in
      and_true (eqb held.key.port port) ∙ less_not_equal held.key.port port lt
  groups_apart (Some bound) held h =
      ap (λ o. eqb held.key.port port && is_lt o) (turned bound held.key.group)
      ∙ passed_apart (ltb held.key.port port) (eqb held.key.port port) (address_cmp held.key.group bound) (less_not_equal held.key.port port) h

  not_before : (bound : Option (List ℕ)) (key : Key (List ℕ)) → is_before_groups port bound key ≡ false → ltb key.port port ≡ false
  not_before None key h = sym (less_alone (ltb key.port port) (eqb key.port port)) ∙ h
  not_before (Some bound) key h = not_less (ltb key.port port) (eqb key.port port) (address_cmp key.group bound) h

  pub groups_near : (bound : Option (List ℕ)) (x y : Record (List ℕ)) → key_cmp x.key y.key ≡ Less → is_before_groups port bound x.key ≡ false → is_of_group_after port bound y ≡ true → is_of_group_after port bound x ≡ true
  groups_near bound x y e h k =
      let here = first_part (eqb y.key.port port) (is_above bound y.key.group) k in
      group_first bound x h ∙ equal_from x.key.port y.key.port port (ports_rise x.key y.key e) here (not_before bound x.key h)

-- ---- the machines of a group

what_total : IsTotalOrder what_cmp
unfolding what_cmp
what_total = then_total (on_total rank nat_cmp_total) (on_total source_of nat_list_cmp_total)

machine_passed : (lt eq : Bool) (r s : Ordering) → (lt ≡ true → eq ≡ false) → is_le (ordering_then (ordering_then (by_tests lt eq) r) s) ≡ true → (eq && (is_eq r && is_lt (ordering_reverse s))) ≡ false
machine_passed true true r s not_both h = absurd (false≢true (sym (not_both refl)))
machine_passed true false r s not_both h = refl
machine_passed false false r s not_both h = refl
machine_passed false true Less s not_both h = refl
machine_passed false true Greater s not_both h = refl
machine_passed false true Equal Less not_both h = refl
machine_passed false true Equal Equal not_both h = refl
machine_passed false true Equal Greater not_both h = absurd (false≢true h)

machine_behind : (lt eq : Bool) (r s : Ordering) → is_le (ordering_then (ordering_then (by_tests lt eq) r) s) ≡ false → (eq && (is_eq r && is_lt (ordering_reverse s))) ≡ (eq && is_eq r)
machine_behind true eq r s h = absurd (false≢true (sym h))
machine_behind false false r s h = refl
machine_behind false true Less s h = refl
machine_behind false true Greater s h = refl
machine_behind false true Equal Less h = absurd (false≢true (sym h))
machine_behind false true Equal Equal h = absurd (false≢true (sym h))
machine_behind false true Equal Greater h = refl

-- what stands up to the group, and isn't passed by the whole key, is of the group
of_the_group : (lt eq : Bool) (r s : Ordering) → is_le (ordering_then (by_tests lt eq) r) ≡ true → is_le (ordering_then (ordering_then (by_tests lt eq) r) s) ≡ false → (eq && is_eq r) ≡ true
of_the_group true eq r s h k = absurd (false≢true (sym k))
of_the_group false false r s h k = absurd (false≢true h)
of_the_group false true Less s h k = absurd (false≢true (sym k))
of_the_group false true Equal s h k = refl
of_the_group false true Greater s h k = absurd (false≢true h)

both_tied : (lt eq : Bool) (r : Ordering) → (lt ≡ true → eq ≡ false) → eq ≡ true → is_eq r ≡ true → ordering_then (by_tests lt eq) r ≡ Equal
both_tied lt false r not_both h k = absurd (false≢true h)
both_tied true true r not_both h k = absurd (false≢true (sym (not_both refl)))
both_tied false true Less not_both h k = absurd (false≢true k)
both_tied false true Equal not_both h k = refl
both_tied false true Greater not_both h k = absurd (false≢true k)

module _ (bound : Key (List ℕ)) where
  turned_what : (what : What (List ℕ)) → what_cmp bound.what what ≡ ordering_reverse (what_cmp what bound.what)
  turned_what what = what_total.antisymm bound.what what

  pub machines_fall : (a b : Key (List ℕ)) → key_cmp a b ≡ Less → is_up_to bound b ≡ true → is_up_to bound a ≡ true
  machines_fall a b e h = le_le key_total a b bound (ap is_le e) h

  pub machines_apart : (held : Record (List ℕ)) → is_up_to bound held.key ≡ true → is_machine_after bound.port bound.group bound.what held ≡ false
  unfolding key_cmp
  machines_apart held h =
      let k = held.key in
      ap (λ o. eqb k.port bound.port && (is_eq (address_cmp k.group bound.group) && is_lt o)) (turned_what k.what)
      ∙ machine_passed (ltb k.port bound.port) (eqb k.port bound.port) (address_cmp k.group bound.group) (what_cmp k.what bound.what) (less_not_equal k.port bound.port) h

  pub machine_first : (held : Record (List ℕ)) → is_up_to bound held.key ≡ false → is_machine_after bound.port bound.group bound.what held ≡ is_of_group bound held.key
  unfolding key_cmp
  machine_first held h =
      let k = held.key in
      ap (λ o. eqb k.port bound.port && (is_eq (address_cmp k.group bound.group) && is_lt o)) (turned_what k.what)
      ∙ machine_behind (ltb k.port bound.port) (eqb k.port bound.port) (address_cmp k.group bound.group) (what_cmp k.what bound.what) h

  pub machines_near : (x y : Record (List ℕ)) → key_cmp x.key y.key ≡ Less → is_up_to bound x.key ≡ false → is_machine_after bound.port bound.group bound.what y ≡ true → is_machine_after bound.port bound.group bound.what x ≡ true
  unfolding key_cmp
  machines_near x y e h k =
      let here = first_part (eqb y.key.port bound.port) (is_eq (address_cmp y.key.group bound.group) && is_lt (what_cmp bound.what y.key.what)) k in
      let others = second_part (eqb y.key.port bound.port) (is_eq (address_cmp y.key.group bound.group) && is_lt (what_cmp bound.what y.key.what)) k in
      let tied = first_part (is_eq (address_cmp y.key.group bound.group)) (is_lt (what_cmp bound.what y.key.what)) others in
      let same : front_cmp (y.key.port, y.key.group) (bound.port, bound.group) ≡ Equal = both_tied (ltb y.key.port bound.port) (eqb y.key.port bound.port) (address_cmp y.key.group bound.group) (less_not_equal y.key.port bound.port) here tied in
      let front = le_le front_total (x.key.port, x.key.group) (y.key.port, y.key.group) (bound.port, bound.group) (front_of x.key y.key e) (ap is_le same) in
      machine_first x h
      ∙ of_the_group (ltb x.key.port bound.port) (eqb x.key.port bound.port) (address_cmp x.key.group bound.group) (what_cmp x.key.what bound.what) front h

-- ---- as they stand at a moment

find_later : (test : Record (List ℕ) → Bool) (passed : ℕ) → ((held : Record (List ℕ)) → test (record_after passed held) ≡ test held) → (records : List (Record (List ℕ))) → option_map (record_after passed) (find test records) ≡ find test (map (record_after passed) records)
find_later test passed same [] = refl
find_later test passed same (held ∷ records) =
    rw (same held) (elim (test held) as (λ b. option_map (record_after passed) (cond b (Some held) (find test records)) ≡ cond b (Some (record_after passed held)) (find test (map (record_after passed) records))) [
      | true ↦ refl
      | false ↦ find_later test passed same records
    ])

module _ {A : Type 0} (bytes_of : A → List ℕ) (passed : ℕ) (records now : List (Record (List ℕ))) (is : map (record_after passed) records ≡ now) where
  pub group_told : (port : ℕ) (bound : Option (List ℕ)) (first : Option (Held A)) → option_map (see bytes_of) first ≡ find (is_of_group_after port bound) records → option_map (λ (held : Held A). bytes_of held.key.group) first ≡ group_after port bound now
  group_told port bound first e = by first ∙ ap (option_map group) (ap (option_map (record_after passed)) e ∙ find_later (is_of_group_after port bound) passed (λ held. refl) records ∙ ap (find (is_of_group_after port bound)) is)
    where
      group : Record (List ℕ) → List ℕ
      group held = held.key.group

      by : (o : Option (Held A)) → option_map (λ (held : Held A). bytes_of held.key.group) o ≡ option_map group (option_map (record_after passed) (option_map (see bytes_of) o))
      by None = refl
      by (Some held) = refl

  pub next_told : (port : ℕ) (group : List ℕ) (what : What (List ℕ)) (first : Option (Held A)) → option_map (see bytes_of) first ≡ find (is_machine_after port group what) records → option_map (λ (held : Held A). record_after passed (see bytes_of held)) first ≡ next_in_group port group what now
  next_told port group what first e = by first ∙ ap (option_map (record_after passed)) e ∙ find_later (is_machine_after port group what) passed (λ held. refl) records ∙ ap (find (is_machine_after port group what)) is
    where
      by : (o : Option (Held A)) → option_map (λ (held : Held A). record_after passed (see bytes_of held)) o ≡ option_map (record_after passed) (option_map (see bytes_of) o)
      by None = refl
      by (Some held) = refl
