-- The (S,G,rpt) machines of a group on a port stand together.
use Rattle.pim_down.proofs.Words.{◌≡◌, ℕ, zero, suc, ◌+◌, ◌<◌, ◌≤◌, Bool, true, false, cond, ◌&&◌, List, [], ◌∷◌, ◌++◌, Option, Some, length, take, drop, set, get_or, eqb, ltb, refl, sym, ap, subst, ◌∙◌, arith, Ordering, Less, Equal, Greater, ordering_then, is_lt, is_le, nat_cmp, nat_cmp-IsAntisymmetric, pointwise, same_text, IsPartitionPoint, nat_cmp_total, nat_list_cmp_total, tied_itself, false≢true, eqb-true, eq-eqb, ltb-true, ltb-false, length-map, length-take, take-append-drop, get_or-take, get_or-drop, get_or-map, length-drop, drop_at, Held, What, Star, Source, Rpt, Key, Machine, Record, address_cmp, what_cmp, key_cmp, is_below, IsAscending, recorded, each_changed, is_rpt, is_rpt_of, on_rpts, on_star_join, beside_rpts, is_before_rpts, timed_seen, key_seen, record_seen, records_seen, Timed}
use Rattle.pim_down.proofs.Order.{both_equal, same_address, key_total}
use Rattle.pim_down.proofs.Searched.{first_part as first_of, second_part as second_of, front_of, rise_at}
use Rattle.pim_down.proofs.Lists.{map_set, map_at}
use Rattle.pim_down.proofs.Sought.{element}
use Rattle.pim_down.proofs.Each.{ChangedTo, each_append, changed_to_more}

-- ---- one key

pub itself : (xs : List ℕ) → pointwise eqb xs xs ≡ true
itself [] = refl
itself (x ∷ xs) = rw (eq-eqb x x refl) (itself xs)

less_of : (r : Ordering) → is_lt r ≡ true → r ≡ Less
less_of Less h = refl
less_of Equal h = absurd (false≢true h)
less_of Greater h = absurd (false≢true h)

-- a key before one that is below
falls : (key a b : Key (List ℕ)) → key_cmp a b ≡ Less → is_below key b ≡ true → is_below key a ≡ true
falls key a b e h = ap is_lt (key_total.trans a b key e (less_of (key_cmp b key) h))

module _ (port : ℕ) (group : List ℕ) where
  abbrev front : Key (List ℕ) → Ordering
  front key = ordering_then (nat_cmp key.port port) (address_cmp key.group group)

  -- what its test tells
  record IsRptOf (key : Key (List ℕ)) : Type 0 where
    same_port : key.port ≡ port
    same_group : key.group ≡ group
    rpt : is_rpt key.what ≡ true

  parts_of : (key : Key (List ℕ)) → is_rpt_of port group key ≡ true → IsRptOf key
  parts_of key e =
      let on = first_of (eqb key.port port && is_rpt key.what) (pointwise eqb key.group group) e in
      record {
        same_port = eqb-true key.port port (first_of (eqb key.port port) (is_rpt key.what) on);
        same_group = same_text key.group group (sym (second_of (eqb key.port port && is_rpt key.what) (pointwise eqb key.group group) e));
        rpt = second_of (eqb key.port port) (is_rpt key.what) on;
      }

  of_parts : (key : Key (List ℕ)) → key.port ≡ port → key.group ≡ group → is_rpt key.what ≡ true → is_rpt_of port group key ≡ true
  of_parts key p q r =
      let same : pointwise eqb key.group group ≡ true = subst (λ (g : List ℕ). pointwise eqb key.group g ≡ true) q (itself key.group) in
      rw (eq-eqb key.port port p, r, same) refl

  -- the same as a comparison with a key
  begin : Key (List ℕ)
  begin = record { port = port; group = group; what = Rpt [] }

  below_by : (r : Ordering) (what : What (List ℕ)) → is_lt (ordering_then r (beside_rpts (is_rpt what))) ≡ is_lt (ordering_then r (what_cmp what (Rpt [])))
  unfolding what_cmp
  below_by Less what = refl
  below_by Greater what = refl
  below_by Equal Star = refl
  below_by Equal (Source s) = refl
  below_by Equal (Rpt []) = refl
  below_by Equal (Rpt (x ∷ s)) = refl

  below_begin : (key : Key (List ℕ)) → is_before_rpts port group key ≡ is_below begin key
  unfolding key_cmp begin
  below_begin key = below_by (front key) key.what

  pub rpts_fall : (a b : Key (List ℕ)) → key_cmp a b ≡ Less → is_before_rpts port group b ≡ true → is_before_rpts port group a ≡ true
  rpts_fall a b e h = below_begin a ∙ falls begin a b e (sym (below_begin b) ∙ h)

  pub rpts_apart : (key : Key (List ℕ)) → is_before_rpts port group key ≡ true → is_rpt_of port group key ≡ false
  rpts_apart key h = by (is_rpt_of port group key) refl
    where
      by : (t : Bool) → is_rpt_of port group key ≡ t → is_rpt_of port group key ≡ false
      by false e = e
      by true e =
          let is = parts_of key e in
          let ports : nat_cmp key.port port ≡ Equal = subst (λ p. nat_cmp key.port p ≡ Equal) is.same_port (tied_itself nat_cmp_total key.port) in
          let groups : address_cmp key.group group ≡ Equal = subst (λ (g : List ℕ). address_cmp key.group g ≡ Equal) is.same_group (tied_itself nat_list_cmp_total key.group) in
          let both : ordering_then (nat_cmp key.port port) (address_cmp key.group group) ≡ Equal = ap (λ r. ordering_then r (address_cmp key.group group)) ports ∙ groups in
          let not : is_before_rpts port group key ≡ false = ap (λ r. is_lt (ordering_then r (beside_rpts (is_rpt key.what)))) both ∙ ap (λ b. is_lt (beside_rpts b)) is.rpt in
          absurd (false≢true (sym not ∙ h))

  at_front : (r : Ordering) (b : Bool) → is_le r ≡ true → is_lt (ordering_then r (beside_rpts b)) ≡ false → (r ≡ Equal) × (b ≡ true)
  at_front Less b le h = absurd (false≢true (sym h))
  at_front Equal true le h = (refl, refl)
  at_front Equal false le h = absurd (false≢true (sym h))
  at_front Greater b le h = absurd (false≢true le)

  pub rpts_near : (x y : Key (List ℕ)) → key_cmp x y ≡ Less → is_before_rpts port group x ≡ false → is_rpt_of port group y ≡ true → is_rpt_of port group x ≡ true
  rpts_near x y e h k =
      let is = parts_of y k in
      let le : is_le (front x) ≡ true =
      subst (λ (g : List ℕ). is_le (ordering_then (nat_cmp x.port port) (address_cmp x.group g)) ≡ true) is.same_group
      (subst (λ p. is_le (ordering_then (nat_cmp x.port p) (address_cmp x.group y.group)) ≡ true) is.same_port (front_of x y e)) in
      let here = at_front (front x) (is_rpt x.what) le h in
      let both = both_equal (nat_cmp x.port port) (address_cmp x.group group) here.0 in
      of_parts x (nat_cmp-IsAntisymmetric x.port port both.0) (same_address x.group group both.1) here.1

-- ---- the records of a list

pub same_default : {X : Type 0} (xs : List X) (i : ℕ) (d e : X) → i < length xs → get_or xs i d ≡ get_or xs i e
same_default [] i d e w = absurd (omega arith)
same_default (x ∷ xs) zero d e w = refl
same_default (x ∷ xs) (suc i) d e w = same_default xs i d e (omega arith)

module _ {A : Type 0} (bytes_of : A → List ℕ) (port : ℕ) (group : List ℕ) where
  -- a record of the list
  abbrev key_of : List (Held A) → ℕ → Held A → Key (List ℕ)
  key_of items k d = (record_seen bytes_of (get_or items k d)).key

  -- from this place on none stands before them
  abbrev pub AreBehind : List (Held A) → ℕ → Type 0
  AreBehind items i = (k : ℕ) (d : Held A) → i ≤ k → k < length items → is_before_rpts port group (key_of items k d) ≡ false

  -- from this place on none is one of them
  abbrev pub AreOthers : List (Held A) → ℕ → Type 0
  AreOthers items i = (k : ℕ) (d : Held A) → i ≤ k → k < length items → is_rpt_of port group (key_of items k d) ≡ false

  -- up to this place none is one of them
  abbrev pub AreBefore : List (Held A) → ℕ → Type 0
  AreBefore items i = (k : ℕ) (d : Held A) → k < i → k < length items → is_rpt_of port group (key_of items k d) ≡ false

  module _ (items : List (Held A)) where
    pub before_parts : (i : ℕ) → IsPartitionPoint (λ (held : Held A). is_before_rpts port group (record_seen bytes_of held).key ≡ true) (λ (held : Held A). is_before_rpts port group (record_seen bytes_of held).key ≡ false) items i → AreBefore items i
    before_parts i parts k d lt w = rpts_apart port group (key_of items k d) (parts.0 k d (omega arith) lt)

    pub behind_parts : (i : ℕ) → IsPartitionPoint (λ (held : Held A). is_before_rpts port group (record_seen bytes_of held).key ≡ true) (λ (held : Held A). is_before_rpts port group (record_seen bytes_of held).key ≡ false) items i → AreBehind items i
    behind_parts i parts k d from w = parts.1 k d from w

    -- where a record isn't one of them, none behind it is
    pub none_behind : IsAscending (records_seen bytes_of items) → (i : ℕ) (held : Held A) → i < length items → held ≡ get_or items i held → AreBehind items i → is_rpt_of port group (record_seen bytes_of held).key ≡ false → AreOthers items i
    none_behind a i held w here behind other k d from within = by (ltb i k) refl
      where
        same : key_of items i d ≡ (record_seen bytes_of held).key
        same = ap (λ (h : Held A). (record_seen bytes_of h).key) (same_default items i d held w ∙ sym here)

        not_here : is_rpt_of port group (key_of items i d) ≡ false
        not_here = ap (is_rpt_of port group) same ∙ other

        by : (t : Bool) → ltb i k ≡ t → is_rpt_of port group (key_of items k d) ≡ false
        by false e = let one : k ≡ i = omega (arith, from, ltb-false i k e) in subst (λ n. is_rpt_of port group (key_of items n d) ≡ false) (sym one) not_here
        by true e = which (is_rpt_of port group (key_of items k d)) refl
          where
            which : (u : Bool) → is_rpt_of port group (key_of items k d) ≡ u → is_rpt_of port group (key_of items k d) ≡ false
            which false f = f
            which true f =
                let near = rpts_near port group (key_of items i d) (key_of items k d) (rise_at bytes_of items a i k d (ltb-true i k e) within) (behind i d (omega arith) w) f in
                absurd (false≢true (sym not_here ∙ near))

    pub none_past : (i : ℕ) → length items ≤ i → AreOthers items i
    none_past i past k d from within = absurd (omega arith)

-- ---- a change that leaves all but these

module _ (change : Key (List ℕ) → Option Machine → Option Machine) where
  abbrev Stays : Record (List ℕ) → Type 0
  Stays held = recorded held.key (change held.key (Some held.machine)) ≡ held ∷ []

  each_same : (xs : List (Record (List ℕ))) → ((k : ℕ) (d : Record (List ℕ)) → k < length xs → Stays (get_or xs k d)) → each_changed change xs ≡ xs
  unfolding each_changed
  each_same [] stay = refl
  each_same (x ∷ xs) stay = (λ i. stay 0 x (omega arith) i ++ each_changed change xs) ∙ ap (λ (rs : List (Record (List ℕ))). x ∷ rs) (each_same xs (λ k d w. stay (suc k) d (omega arith)))

  -- the first ones stay
  pub changed_from : (old : List (Record (List ℕ))) (i : ℕ) → i ≤ length old → ((k : ℕ) (d : Record (List ℕ)) → k < i → k < length old → Stays (get_or old k d)) → ChangedTo change old old i
  changed_from old i w stay =
      let front : each_changed change (take i old) ≡ take i old = each_same (take i old) (λ k d lt. let n = length-take i old in subst Stays (sym (get_or-take i old k d (omega arith))) (stay k d (omega arith) (omega arith))) in
      record {
        count = ap length front ∙ (let n = length-take i old in omega arith);
        seen = sym (take-append-drop i old) ∙ ap (λ (rs : List (Record (List ℕ))). rs ++ drop i old) (sym front);
      }

  -- the last ones stay
  pub changed_rest : (old new : List (Record (List ℕ))) (i : ℕ) → ((k : ℕ) (d : Record (List ℕ)) → i ≤ k → k < length old → Stays (get_or old k d)) → ChangedTo change old new i → new ≡ each_changed change old
  changed_rest old new i stay to =
      let rest : each_changed change (drop i old) ≡ drop i old = each_same (drop i old) (λ k d lt. let n = length-drop i old in subst Stays (sym (get_or-drop i old k d)) (stay (i + k) d (omega arith) (omega arith))) in
      to.seen ∙ ap (λ (rs : List (Record (List ℕ))). each_changed change (take i old) ++ rs) (sym rest) ∙ sym (each_append change (take i old) (drop i old)) ∙ ap (each_changed change) (take-append-drop i old)

pub other_stays : (port : ℕ) (group : List ℕ) (held : Record (List ℕ)) → is_rpt_of port group held.key ≡ false → recorded held.key (on_rpts port group held.key (Some held.machine)) ≡ held ∷ []
other_stays port group held e = ap (λ b. recorded held.key (cond b (on_star_join (Some held.machine)) (Some held.machine))) e

pub made_rpt : (port : ℕ) (group : List ℕ) (key : Key (List ℕ)) (held now : Machine) → is_rpt_of port group key ≡ true → Some now ≡ on_star_join (Some held) → record { key = key; machine = now } ∷ [] ≡ recorded key (on_rpts port group key (Some held))
made_rpt port group key held now is joined = ap (recorded key) joined ∙ ap (λ b. recorded key (cond b (on_star_join (Some held)) (Some held))) (sym is)

-- ---- a Join(*,G) comes to them, one after the other

module _ {A : Type 0} (bytes_of : A → List ℕ) (port : ℕ) (group : List ℕ) (old : List (Held A)) where
  seen_at : (i : ℕ) (d : Record (List ℕ)) → i < length old → (P : Record (List ℕ) → Type 0) → ((e : Held A) → P (record_seen bytes_of (get_or old i e))) → P (get_or (records_seen bytes_of old) i d)
  seen_at i d w P holds =
      let one = element old i w in
      subst P (sym (get_or-map (record_seen bytes_of) old i one.0 d w)) (holds one.0)

  pub joins_begin : (i : ℕ) → i ≤ length old → IsPartitionPoint (λ (held : Held A). is_before_rpts port group (record_seen bytes_of held).key ≡ true) (λ (held : Held A). is_before_rpts port group (record_seen bytes_of held).key ≡ false) old i → ChangedTo (on_rpts port group) (records_seen bytes_of old) (records_seen bytes_of old) i
  joins_begin i w parts =
      let long = length-map old (record_seen bytes_of) in
      changed_from (on_rpts port group) (records_seen bytes_of old) i (omega (arith, w, long))
      (λ k d lt u. seen_at k d (omega (arith, u, long)) (λ held. recorded held.key (on_rpts port group held.key (Some held.machine)) ≡ held ∷ []) (λ e. other_stays port group (record_seen bytes_of (get_or old k e)) (before_parts bytes_of port group old i parts k e lt (omega (arith, u, long)))))

  pub joins_more : (items new : List (Held A)) (i j : ℕ) (held : Held A) (now : Timed) → length items ≡ length old → i < length items → held ≡ get_or items i held → is_rpt_of port group (key_seen bytes_of held.key) ≡ true → Some (timed_seen now) ≡ on_star_join (Some (timed_seen held.machine)) → new ≡ set items i (record { key = (get_or items i held).key; machine = now }) → j ≡ i + 1 → ChangedTo (on_rpts port group) (records_seen bytes_of old) (records_seen bytes_of items) i → ChangedTo (on_rpts port group) (records_seen bytes_of old) (records_seen bytes_of new) j
  joins_more items new i j held now long w here is joined edited next to =
      let see = record_seen bytes_of in
      let put : Held A = record { key = held.key; machine = now } in
      let within_old : i < length (records_seen bytes_of old) = rw length-map (omega (arith, w, long)) in
      let within_new : i < length (records_seen bytes_of items) = rw length-map w in
      let same : new ≡ set items i put = edited ∙ ap (λ (h : Held A). set items i (record { key = h.key; machine = now })) (sym here) in
      subst (λ n. ChangedTo (on_rpts port group) (records_seen bytes_of old) (records_seen bytes_of new) n) (sym next)
      (changed_to_more (on_rpts port group) (records_seen bytes_of old) (records_seen bytes_of items) (records_seen bytes_of new) i (see held) (see put) within_old within_new (map_at see items i held w here (see held))
      (made_rpt port group (key_seen bytes_of held.key) (timed_seen held.machine) (timed_seen now) is joined) (ap (records_seen bytes_of) same ∙ map_set see items i put w) to)

  all_others : (i : ℕ) → AreOthers bytes_of port group old i → (k : ℕ) (d : Record (List ℕ)) → i ≤ k → k < length (records_seen bytes_of old) → recorded (get_or (records_seen bytes_of old) k d).key (on_rpts port group (get_or (records_seen bytes_of old) k d).key (Some (get_or (records_seen bytes_of old) k d).machine)) ≡ get_or (records_seen bytes_of old) k d ∷ []
  all_others i others k d le u =
      let long = length-map old (record_seen bytes_of) in
      seen_at k d (omega (arith, u, long)) (λ held. recorded held.key (on_rpts port group held.key (Some held.machine)) ≡ held ∷ []) (λ e. other_stays port group (record_seen bytes_of (get_or old k e)) (others k e le (omega (arith, u, long))))

  pub joins_past : (items : List (Held A)) (i : ℕ) → length old ≤ i → ChangedTo (on_rpts port group) (records_seen bytes_of old) (records_seen bytes_of items) i → records_seen bytes_of items ≡ each_changed (on_rpts port group) (records_seen bytes_of old)
  joins_past items i past to = changed_rest (on_rpts port group) (records_seen bytes_of old) (records_seen bytes_of items) i (all_others i (none_past bytes_of port group old i past)) to

  -- what stands at the place is as it was
  pub joins_end : (items : List (Held A)) (i : ℕ) (held : Held A) → IsAscending (records_seen bytes_of old) → length items ≡ length old → i < length items → held ≡ get_or items i held → AreBehind bytes_of port group old i → is_rpt_of port group (key_seen bytes_of held.key) ≡ false → ChangedTo (on_rpts port group) (records_seen bytes_of old) (records_seen bytes_of items) i → records_seen bytes_of items ≡ each_changed (on_rpts port group) (records_seen bytes_of old)
  joins_end items i held a long w here behind other to =
      let see = record_seen bytes_of in
      let seen = records_seen bytes_of old in
      let one = element old i (omega (arith, w, long)) in
      let within_old : i < length old = omega (arith, w, long) in
      let rests : drop i (records_seen bytes_of items) ≡ drop i seen = ap (drop i) to.seen ∙ drop_at (each_changed (on_rpts port group) (take i seen)) (drop i seen) i to.count in
      let now : get_or (drop i (records_seen bytes_of items)) 0 (see held) ≡ see held = get_or-drop i (records_seen bytes_of items) 0 (see held) ∙ (let n : i + 0 ≡ i = omega arith in ap (λ m. get_or (records_seen bytes_of items) m (see held)) n) ∙ map_at see items i held w here (see held) in
      let then : get_or (drop i seen) 0 (see held) ≡ see one.0 = get_or-drop i seen 0 (see held) ∙ (let n : i + 0 ≡ i = omega arith in ap (λ m. get_or seen m (see held)) n) ∙ map_at see old i one.0 within_old one.1 (see held) in
      let same : see held ≡ see one.0 = sym now ∙ ap (λ (rs : List (Record (List ℕ))). get_or rs 0 (see held)) rests ∙ then in
      let not_one : is_rpt_of port group (see one.0).key ≡ false = ap (λ (r : Record (List ℕ)). is_rpt_of port group r.key) (sym same) ∙ other in
      changed_rest (on_rpts port group) seen (records_seen bytes_of items) i (all_others i (none_behind bytes_of port group old a i one.0 within_old one.1 behind not_one)) to
