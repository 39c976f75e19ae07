-- A key that is looked for among records in key order, and what is done at the place that is found.
use Rattle.pim_down.proofs.Words.{◌≡◌, ℕ, zero, suc, ◌+◌, ◌-◌, ◌<◌, ◌≤◌, Bool, true, false, not, List, [], ◌∷◌, ◌++◌, Option, Some, None, Result, Ok, Err, length, take, drop, get_or, ltb, refl, sym, ap, subst, ◌∙◌, arith, add-one, Ordering, Less, Equal, Greater, ordering_reverse, is_some, is_err, Join, ltb-true, ltb-false, alike_right, length-map, get_or-map, Place, IsGap, IsEqualAt, Listed, at, IsItem, IsPlace, IsFound, Held, Timed, Key, Machine, Record, key_cmp, IsAscending, machine_at, recorded, changed, StandsAt, WouldStandAt, timed_seen, machine_seen, key_seen, record_seen, records_seen, IsPlaceOf}
use Rattle.pim_down.proofs.Order.{key_total, less_back, greater_back}
use Rattle.pim_down.proofs.Lists.{map_at}
use Rattle.pim_down.proofs.Places.{IsPast, past_none, past_more, stands_here, would_stand_here, would_stand_last}
use Rattle.pim_down.proofs.Searched.{rise_at}
use Rattle.pim_down.proofs.Counts.{one_longer}

pub element : {X : Type 0} (xs : List X) (n : ℕ) → n < length xs → (x : X) × (x ≡ get_or xs n x)
element [] n w = absurd (omega arith)
element (x ∷ xs) zero w = (x, refl)
element (x ∷ xs) (suc n) w = element xs n (omega arith)

module _ {A : Type 0} (bytes_of : A → List ℕ) (key : Key (List ℕ)) where
  order : Held A → Ordering
  order held = key_cmp (key_seen bytes_of held.key) key

  -- what stands before a place is below the key
  passed : (items : List (Held A)) (i : ℕ) → ((n : ℕ) (d : Held A) → n < i → n < length items → order (get_or items n d) ≡ Less) → (n : ℕ) → n ≤ i → n ≤ length items → IsPast key (records_seen bytes_of items) n
  unfolding order
  passed items i less zero h w = past_none key (records_seen bytes_of items)
  passed items i less (suc n) h w =
      let one = element items n (omega arith) in
      let seen = record_seen bytes_of one.0 in
      let below : key_cmp seen.key key ≡ Less = subst (λ (held : Held A). key_cmp (key_seen bytes_of held.key) key ≡ Less) (sym one.1) (less n one.0 (omega arith) (omega arith)) in
      let within : n < length (records_seen bytes_of items) = rw length-map (omega arith) in
      subst (IsPast key (records_seen bytes_of items)) (add-one n) (past_more key (records_seen bytes_of items) n seen within (map_at (record_seen bytes_of) items n one.0 (omega arith) one.1) (passed items i less n (omega arith) (omega arith)) (less_back seen.key key below))

  module _ (items : List (Held A)) (ascending : IsAscending (records_seen bytes_of items)) (i : ℕ) where
    equal_past : IsEqualAt order items i → IsPast key (records_seen bytes_of items) i
    unfolding order
    equal_past equal = passed items i below i (omega arith) (let w = equal.within in omega arith)
      where
        below : (n : ℕ) (d : Held A) → n < i → n < length items → key_cmp (key_seen bytes_of (get_or items n d).key) key ≡ Less
        below n d lt w =
            let rise = rise_at bytes_of items ascending n i d lt equal.within in
            sym (alike_right key_total (key_seen bytes_of (get_or items i d).key) key (key_seen bytes_of (get_or items n d).key) (equal.equal d)) ∙ rise

    gap_past : i ≤ length items → IsGap order items i → IsPast key (records_seen bytes_of items) i
    unfolding order
    gap_past w gap = passed items i (λ n d lt within. by n d lt (ltb n (i - 1)) refl) i (omega arith) w
      where
        by : (n : ℕ) (d : Held A) → n < i → (t : Bool) → ltb n (i - 1) ≡ t → key_cmp (key_seen bytes_of (get_or items n d).key) key ≡ Less
        by n d lt true e = key_total.trans _ _ key (rise_at bytes_of items ascending n (i - 1) d (ltb-true n (i - 1) e) (omega arith)) (gap.less d (omega arith))
        by n d lt false e = let same : i - 1 ≡ n = omega (arith, ltb-false n (i - 1) e, lt) in subst (λ k. key_cmp (key_seen bytes_of (get_or items k d).key) key ≡ Less) same (gap.less d (omega arith))

    stands : IsEqualAt order items i → StandsAt key (records_seen bytes_of items) i
    unfolding order
    stands equal =
        let one = element items i equal.within in
        let seen = record_seen bytes_of one.0 in
        let same : key_cmp seen.key key ≡ Equal = subst (λ (held : Held A). key_cmp (key_seen bytes_of held.key) key ≡ Equal) (sym one.1) (equal.equal one.0) in
        let within : i < length (records_seen bytes_of items) = rw length-map equal.within in
        stands_here key (records_seen bytes_of items) i seen within (map_at (record_seen bytes_of) items i one.0 equal.within one.1) (equal_past equal) (key_total.antisymm key seen.key ∙ ap ordering_reverse same)

    would_stand : i ≤ length items → IsGap order items i → WouldStandAt key (records_seen bytes_of items) i
    unfolding order
    would_stand w gap = by (ltb i (length items)) refl
      where
        by : (t : Bool) → ltb i (length items) ≡ t → WouldStandAt key (records_seen bytes_of items) i
        by true e =
            let here = ltb-true i (length items) e in
            let one = element items i here in
            let seen = record_seen bytes_of one.0 in
            let above : key_cmp seen.key key ≡ Greater = subst (λ (held : Held A). key_cmp (key_seen bytes_of held.key) key ≡ Greater) (sym one.1) (gap.greater one.0 here) in
            would_stand_here key (records_seen bytes_of items) i seen (rw length-map here) (map_at (record_seen bytes_of) items i one.0 here one.1) (gap_past w gap) (greater_back seen.key key above)
        by false e = let end : i ≡ length items = omega (arith, w, ltb-false i (length items) e) in would_stand_last key (records_seen bytes_of items) i (rw length-map end) (gap_past w gap)

  pub found_place : (list : Listed (Held A)) → IsAscending (records_seen bytes_of list.items) → (r : Result Place Place) → IsFound (λ (held : Held A). key_cmp (key_seen bytes_of held.key) key) list r → IsPlaceOf bytes_of key list r
  unfolding order
  found_place list a (Ok place) f = (f.0, stands list.items a (at list place) f.1)
  found_place list a (Err place) f = (f.0, would_stand list.items a (at list place) f.1 f.2)

  -- ---- at the place that was found

  pub missing_is : (list : Listed (Held A)) → IsAscending (records_seen bytes_of list.items) → (found : Result Place Place) → IsPlaceOf bytes_of key list found → is_err found ≡ not (is_some (machine_at key (records_seen bytes_of list.items)))
  missing_is list a (Ok place) h = sym (ap (λ (m : Option Machine). not (is_some m)) (h.1.machine (record { key = key; machine = record { state = Join; expires_in = None; pending = None } })))
  missing_is list a (Err place) h = sym (ap (λ (m : Option Machine). not (is_some m)) (h.1.machine a))

  pub place_ok : (list : Listed (Held A)) (found : Result Place Place) (place : Place) → IsPlaceOf bytes_of key list found → found ≡ Ok place → IsItem list place × StandsAt key (records_seen bytes_of list.items) (at list place)
  place_ok list found place h is = subst (IsPlaceOf bytes_of key list) is h

  pub place_err : (list : Listed (Held A)) (found : Result Place Place) (place : Place) → IsPlaceOf bytes_of key list found → found ≡ Err place → IsPlace list place × WouldStandAt key (records_seen bytes_of list.items) (at list place)
  place_err list found place h is = subst (IsPlaceOf bytes_of key list) is h

  module _ (items : List (Held A)) (i : ℕ) where
    pub machine_is : (held : Held A) → i < length items → held ≡ get_or items i held → StandsAt key (records_seen bytes_of items) i → Some (timed_seen held.machine) ≡ machine_at key (records_seen bytes_of items)
    machine_is held within here found =
        ap (λ (r : Record (List ℕ)). Some r.machine) (sym (map_at (record_seen bytes_of) items i held within here (record_seen bytes_of held)))
        ∙ sym (found.machine (record_seen bytes_of held))

    pub replaced_is : (new : List (Record (List ℕ))) (machine : Option Machine) → i < length items → StandsAt key (records_seen bytes_of items) i → ((d : Held A) → new ≡ take i (records_seen bytes_of items) ++ (recorded (key_seen bytes_of (get_or items i d).key) machine ++ drop (i + 1) (records_seen bytes_of items))) → new ≡ changed key (λ _. machine) (records_seen bytes_of items)
    replaced_is new machine within found left =
        let one = element items i within in
        let seen = record_seen bytes_of one.0 in
        let same : key_seen bytes_of (get_or items i one.0).key ≡ key = ap (λ (r : Record (List ℕ)). r.key) (sym (get_or-map (record_seen bytes_of) items i one.0 seen within)) ∙ found.here seen in
        left one.0
        ∙ ap (λ (k : Key (List ℕ)). take i (records_seen bytes_of items) ++ (recorded k machine ++ drop (i + 1) (records_seen bytes_of items))) same
        ∙ sym (found.after (λ _. machine) seen)

    pub room_one : (space : ℕ) (option : Option Timed) (machine : Timed) → WouldStandAt key (records_seen bytes_of items) i → option ≡ Some machine → length (changed key (λ _. machine_seen option) (records_seen bytes_of items)) ≤ space → length items < space
    room_one space option machine would is room =
        let seen = records_seen bytes_of items in
        let more : length (changed key (λ _. machine_seen option) seen) ≡ suc (length seen) =
        ap length (would.after (λ _. machine_seen option))
        ∙ ap (λ (o : Option Timed). length (take i seen ++ (recorded key (machine_seen o) ++ drop i seen))) is
        ∙ one_longer seen i (record { key = key; machine = timed_seen machine }) in
        let long : length seen ≡ length items = length-map items (record_seen bytes_of) in
        omega (arith, room, more, long)
