-- The first timer that is due, in a list of records whose times count from the moment 0.
use Rattle.pim_down.proofs.Words.{◌≡◌, ℕ, zero, suc, ◌+◌, ◌*◌, ◌<◌, ◌≤◌, Bool, true, false, cond, List, [], ◌∷◌, ◌++◌, Option, Some, None, option_map, map, length, take, drop, get_or, ltb, refl, sym, ap, subst, ◌∙◌, arith, position, position_or_len, remove, map-append, take-map, drop-map, ltb-false, false≢true, position-Some, fails_before_first, Held, What, Star, Source, Rpt, Pending, Record, Firing, Step, Reached, recorded, machine_after, record_after, pending_after, et_due, ppt_due, pending_due, on_ppt, after_et, after_ppt, echo_of, first_due, with_first, fire_et, fire_ppt, fired, said_of, weight, pending_weight, ppt_fires, et_fires, et_firing, ppt_firing, firing, step_of, record_seen, records_seen, shown}
use Rattle.pim_down.proofs.Lists.{map_remove}

module _ {X : Type 0} (f : X → Record (List ℕ)) (due : Record (List ℕ) → Bool) where
  pub first_due_at : (xs : List X) (i : ℕ) (d : X) → i < length xs → due (f (get_or xs i d)) ≡ true → ((k : ℕ) → k < i → due (f (get_or xs k d)) ≡ false) → first_due due (map f xs) ≡ Some (f (get_or xs i d))
  unfolding first_due
  first_due_at [] i d within passes fails = absurd (omega arith)
  first_due_at (x ∷ xs) zero d within passes fails = rw passes refl
  first_due_at (x ∷ xs) (suc i) d within passes fails = let first : due (f x) ≡ false = fails 0 (omega arith) in rw first (first_due_at xs i d (omega arith) passes (λ k h. fails (suc k) (omega arith)))

  pub with_first_at : (after : Record (List ℕ) → List (Record (List ℕ))) (xs : List X) (i : ℕ) (d : X) → i < length xs → due (f (get_or xs i d)) ≡ true → ((k : ℕ) → k < i → due (f (get_or xs k d)) ≡ false) → with_first due after (map f xs) ≡ take i (map f xs) ++ (after (f (get_or xs i d)) ++ drop (suc i) (map f xs))
  unfolding with_first
  with_first_at after [] i d within passes fails = absurd (omega arith)
  with_first_at after (x ∷ xs) zero d within passes fails = rw passes refl
  with_first_at after (x ∷ xs) (suc i) d within passes fails =
      let first : due (f x) ≡ false = fails 0 (omega arith) in
      rw first (ap (λ (rs : List (Record (List ℕ))). f x ∷ rs) (with_first_at after xs i d (omega arith) passes (λ k h. fails (suc k) (omega arith))))

  pub first_due_none : (xs : List X) → ((k : ℕ) (d : X) → k < length xs → due (f (get_or xs k d)) ≡ false) → first_due due (map f xs) ≡ None
  unfolding first_due
  first_due_none [] fails = refl
  first_due_none (x ∷ xs) fails = let first : due (f x) ≡ false = fails 0 x (omega arith) in rw first (first_due_none xs (λ k d h. fails (suc k) d (omega arith)))

-- no place passes the test
pub position_none : {X : Type 0} (p : X → Bool) (xs : List X) → position p xs ≡ None → (k : ℕ) (d : X) → k < length xs → p (get_or xs k d) ≡ false
position_none p xs none k d within =
    elim (ltb (position_or_len p xs) (length xs)) as (λ b. ltb (position_or_len p xs) (length xs) ≡ b → cond b (Some (position_or_len p xs)) None ≡ None → p (get_or xs k d) ≡ false) [
      | true ↦ λ t e. cc
      | false ↦ λ t e. let past = ltb-false (position_or_len p xs) (length xs) t in fails_before_first p xs k d (omega arith)
    ] refl none

map_map : {X Y Z : Type 0} (f : X → Y) (g : Y → Z) (xs : List X) → map g (map f xs) ≡ map (λ (x : X). g (f x)) xs
map_map f g [] = refl
map_map f g (x ∷ xs) = λ i. g (f x) ∷ map_map f g xs i

-- a prune-pending timer fires alike, from whatever moment its time counts
pub after_ppt_later : (k : ℕ) (held : Record (List ℕ)) → map (record_after k) (after_ppt held) ≡ after_ppt (record_after k held)
after_ppt_later k held = by held.key.what
  where
    by : (what : What (List ℕ)) → map (record_after k) (recorded held.key (on_ppt what held.machine)) ≡ recorded held.key (on_ppt what (machine_after k held.machine))
    by Star = refl
    by (Source source) = refl
    by (Rpt source) = refl

-- ---- a firing tells more than a step

told_et : (records : List (Record (List ℕ))) (o : Option (Record (List ℕ))) → fire_et records o ≡ option_map said_of (et_firing records o)
told_et records None = refl
told_et records (Some held) = refl

told_ppt : (records : List (Record (List ℕ))) (o : Option (Record (List ℕ))) → fire_ppt records o ≡ option_map said_of (ppt_firing records o)
told_ppt records None = told_et records (first_due et_due records)
told_ppt records (Some held) = refl

pub fired_by_firing : (records : List (Record (List ℕ))) → fired records ≡ option_map said_of (firing records)
unfolding fired firing
fired_by_firing records = told_ppt records (first_due ppt_due records)

pub fired_with : (records after : List (Record (List ℕ))) (reported : Firing (List ℕ)) → firing records ≡ Some (reported, after) → fired records ≡ Some (step_of reported, after)
fired_with records after reported e = fired_by_firing records ∙ ap (option_map said_of) e

module _ {A : Type 0} (bytes_of : A → List ℕ) (now : ℕ) where
  shown_is : (records : List (Held A)) → shown bytes_of now records ≡ map (λ (held : Held A). record_after now (record_seen bytes_of held)) records
  shown_is records = map_map (record_seen bytes_of) (record_after now) records

  -- what is left of a list of which the record at a place was replaced
  pub shown_parts : (records : List (Record (List ℕ))) (i : ℕ) (middle : List (Record (List ℕ))) → map (record_after now) (take i records ++ (middle ++ drop (i + 1) records)) ≡ take i (map (record_after now) records) ++ (map (record_after now) middle ++ drop (i + 1) (map (record_after now) records))
  shown_parts records i middle =
      map-append (record_after now) (take i records) (middle ++ drop (i + 1) records)
      ∙ ap (λ (rs : List (Record (List ℕ))). map (record_after now) (take i records) ++ rs) (map-append (record_after now) middle (drop (i + 1) records))
      ∙ (λ k. sym (take-map (record_after now) i records) k ++ (map (record_after now) middle ++ sym (drop-map (record_after now) (i + 1) records) k))

  -- the first due prune-pending timer fires
  pub firing_pending : (records new : List (Held A)) (place : ℕ) (reported : Firing (List ℕ)) (d : Held A) →
      position (λ (held : Held A). ppt_due (record_after now (record_seen bytes_of held))) records ≡ Some place →
      reported ≡ ppt_fires (record_after now (record_seen bytes_of (get_or records place d))) →
      records_seen bytes_of new ≡ take place (records_seen bytes_of records) ++ (after_ppt (record_seen bytes_of (get_or records place d)) ++ drop (place + 1) (records_seen bytes_of records)) →
      firing (shown bytes_of now records) ≡ Some (reported, shown bytes_of now new)
  unfolding firing
  firing_pending records new place reported d found is left =
      let here = position-Some (λ (held : Held A). ppt_due (record_after now (record_seen bytes_of held))) records place d found in
      let held = record_seen bytes_of (get_or records place d) in
      let same = shown_is records in
      let first : first_due ppt_due (shown bytes_of now records) ≡ Some (record_after now held) = ap (first_due ppt_due) same ∙ first_due_at (λ (r : Held A). record_after now (record_seen bytes_of r)) ppt_due records place d here.0 here.1 here.2 in
      let n : suc place ≡ place + 1 = omega arith in
      let rest : with_first ppt_due after_ppt (shown bytes_of now records) ≡ take place (shown bytes_of now records) ++ (after_ppt (record_after now held) ++ drop (place + 1) (shown bytes_of now records)) =
      ap (with_first ppt_due after_ppt) same ∙ with_first_at (λ (r : Held A). record_after now (record_seen bytes_of r)) ppt_due after_ppt records place d here.0 here.1 here.2
      ∙ (λ i. take place (sym same i) ++ (after_ppt (record_after now held) ++ drop (n i) (sym same i))) in
      let after : shown bytes_of now new ≡ take place (shown bytes_of now records) ++ (after_ppt (record_after now held) ++ drop (place + 1) (shown bytes_of now records)) =
      ap (map (record_after now)) left ∙ shown_parts (records_seen bytes_of records) place (after_ppt held)
      ∙ ap (λ (rs : List (Record (List ℕ))). take place (shown bytes_of now records) ++ (rs ++ drop (place + 1) (shown bytes_of now records))) (after_ppt_later now held) in
      rw first (λ i. Some (sym is i, (rest ∙ sym after) i))

  none_due : (due : Record (List ℕ) → Bool) (records : List (Held A)) → position (λ (held : Held A). due (record_after now (record_seen bytes_of held))) records ≡ None → first_due due (shown bytes_of now records) ≡ None
  none_due due records none =
      ap (first_due due) (shown_is records) ∙ first_due_none (λ (r : Held A). record_after now (record_seen bytes_of r)) due records (position_none (λ (held : Held A). due (record_after now (record_seen bytes_of held))) records none)

  -- no prune-pending timer is due, and the first due expiry timer fires
  pub firing_expiry : (records new : List (Held A)) (place : ℕ) (reported : Firing (List ℕ)) (d : Held A) →
      position (λ (held : Held A). ppt_due (record_after now (record_seen bytes_of held))) records ≡ None →
      position (λ (held : Held A). et_due (record_after now (record_seen bytes_of held))) records ≡ Some place →
      reported ≡ et_fires (record_after now (record_seen bytes_of (get_or records place d))) →
      new ≡ remove records place →
      firing (shown bytes_of now records) ≡ Some (reported, shown bytes_of now new)
  unfolding firing
  firing_expiry records new place reported d none found is removed =
      let here = position-Some (λ (held : Held A). et_due (record_after now (record_seen bytes_of held))) records place d found in
      let held = record_seen bytes_of (get_or records place d) in
      let same = shown_is records in
      let quiet = none_due ppt_due records none in
      let first : first_due et_due (shown bytes_of now records) ≡ Some (record_after now held) = ap (first_due et_due) same ∙ first_due_at (λ (r : Held A). record_after now (record_seen bytes_of r)) et_due records place d here.0 here.1 here.2 in
      let n : suc place ≡ place + 1 = omega arith in
      let rest : with_first et_due after_et (shown bytes_of now records) ≡ take place (shown bytes_of now records) ++ drop (place + 1) (shown bytes_of now records) =
      ap (with_first et_due after_et) same ∙ with_first_at (λ (r : Held A). record_after now (record_seen bytes_of r)) et_due after_et records place d here.0 here.1 here.2
      ∙ (λ i. take place (sym same i) ++ drop (n i) (sym same i)) in
      let after : shown bytes_of now (remove records place) ≡ take place (shown bytes_of now records) ++ drop (place + 1) (shown bytes_of now records) =
      ap (map (record_after now)) (map_remove (record_seen bytes_of) records place) ∙ shown_parts (records_seen bytes_of records) place [] in
      rw (quiet, first) (λ i. Some (sym is i, (rest ∙ sym after ∙ ap (shown bytes_of now) (sym removed)) i))

-- ---- each timer that fires makes the records lighter

weight_append : (xs ys : List (Record (List ℕ))) → weight (xs ++ ys) ≡ weight xs + weight ys
unfolding weight
weight_append [] ys = omega arith
weight_append (x ∷ xs) ys = omega (arith, weight_append xs ys)

-- what stands where the first due record stood
weight_first : (due : Record (List ℕ) → Bool) (after : Record (List ℕ) → List (Record (List ℕ))) (records : List (Record (List ℕ))) (held : Record (List ℕ)) → first_due due records ≡ Some held → (due held ≡ true) × (weight (with_first due after records) + weight (held ∷ []) ≡ weight (after held) + weight records)
unfolding weight first_due with_first
weight_first due after [] held e = absurd (none_some e)
  where
    none_some : ◌≡◌ {A = Option (Record (List ℕ))} None (Some held) → ⊥
    none_some f = cc
weight_first due after (x ∷ records) held e =
    elim (due x) as (λ b. due x ≡ b → cond b (Some x) (first_due due records) ≡ Some held → (due held ≡ true) × (weight (cond b (after x ++ records) (x ∷ with_first due after records)) + weight (held ∷ []) ≡ weight (after held) + weight (x ∷ records))) [
      | true ↦ λ t f. let same : x ≡ held = cc in subst (λ (h : Record (List ℕ)). (due h ≡ true) × (weight (after x ++ records) + weight (h ∷ []) ≡ weight (after h) + weight (x ∷ records))) same (t, omega (arith, weight_append (after x) records))
      | false ↦ λ t f. let rest = weight_first due after records held f in (rest.0, omega (arith, rest.1))
    ] refl e

lighter_ppt : (held : Record (List ℕ)) → ppt_due held ≡ true → weight (after_ppt held) < weight (held ∷ [])
unfolding weight
lighter_ppt held due = by held.key.what held.machine.pending due
  where
    by : (what : What (List ℕ)) (p : Option Pending) → pending_due p ≡ true → weight (recorded held.key (on_ppt what held.machine)) < 1 + pending_weight p + 0
    by what None due = absurd (false≢true due)
    by Star (Some timer) due = omega arith
    by (Source source) (Some timer) due = omega arith
    by (Rpt source) (Some timer) due = omega arith

lighter_et : (held : Record (List ℕ)) → weight (after_et held) < weight (held ∷ [])
unfolding weight
lighter_et held = omega arith

pub weight_fired : (records after : List (Record (List ℕ))) (answer : Step (List ℕ)) → fired records ≡ Some (answer, after) → weight after < weight records
unfolding fired
weight_fired records after answer e = by_ppt (first_due ppt_due records) refl e
  where
    snd : (r s : Step (List ℕ)) (xs ys : List (Record (List ℕ))) → ◌≡◌ {A = Option (Step (List ℕ) × List (Record (List ℕ)))} (Some (r, xs)) (Some (s, ys)) → xs ≡ ys
    snd r s xs ys f = let pairs : ◌≡◌ {A = Step (List ℕ) × List (Record (List ℕ))} (r, xs) (s, ys) = cc in ap (λ (x : Step (List ℕ) × List (Record (List ℕ))). x.1) pairs

    by_et : (o : Option (Record (List ℕ))) → first_due et_due records ≡ o → fire_et records o ≡ Some (answer, after) → weight after < weight records
    by_et None d f = absurd (none_some f)
      where
        none_some : ◌≡◌ {A = Option (Step (List ℕ) × List (Record (List ℕ)))} None (Some (answer, after)) → ⊥
        none_some f = cc
    by_et (Some held) d f = let w = weight_first et_due after_et records held d in let l = lighter_et held in let s = ap weight (snd Reached answer (with_first et_due after_et records) after f) in omega (arith, w.1)

    by_ppt : (o : Option (Record (List ℕ))) → first_due ppt_due records ≡ o → fire_ppt records o ≡ Some (answer, after) → weight after < weight records
    by_ppt None d f = by_et (first_due et_due records) refl f
    by_ppt (Some held) d f = let w = weight_first ppt_due after_ppt records held d in let l = lighter_ppt held w.0 in let s = ap weight (snd (echo_of held) answer (with_first ppt_due after_ppt records) after f) in omega (arith, w.1)

pending_weight_later : (k : ℕ) (p : Option Pending) → pending_weight (pending_after k p) ≡ pending_weight p
pending_weight_later k None = refl
pending_weight_later k (Some timer) = refl

pub weight_later : (k : ℕ) (records : List (Record (List ℕ))) → weight (map (record_after k) records) ≡ weight records
unfolding weight
weight_later k [] = refl
weight_later k (held ∷ records) = omega (arith, weight_later k records, pending_weight_later k held.machine.pending)

-- a record has two timers at most
pub weight_length : (records : List (Record (List ℕ))) → weight records ≤ 2 * length records
unfolding weight
weight_length [] = omega arith
weight_length (held ∷ records) = omega (arith, weight_length records, one held.machine.pending)
  where
    one : (p : Option Pending) → pending_weight p ≤ 1
    one None = omega arith
    one (Some timer) = omega arith
