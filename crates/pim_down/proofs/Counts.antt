-- How many records each port has, and how many (S,G,rpt) ones, while records come and go.
use Rattle.pim_down.proofs.Words.{◌≡◌, ℕ, zero, suc, ◌+◌, ◌-◌, ◌<◌, ◌≤◌, Bool, true, false, cond, List, [], ◌∷◌, length, get_or, set, replicate, eqb, ltb, ◌&&◌, refl, sym, ap, subst, ◌∙◌, arith, from_bool, filter, insert, remove, eqb-true, eqb-false, ltb-true, ltb-false, get_or-set_at, get_or-set_other, length-set, length-remove, Listed, Held, Key, Record, is_rpt, is_rpt_on, rpt_count_on, count_on, what_seen, record_seen, records_seen, IsKept}

-- what each record adds to the count of its port
module _ {A : Type 0} (weight : Held A → ℕ) (port : ℕ) where
  abbrev share : Held A → ℕ
  share held = cond (eqb held.key.port port) (weight held) 0

  pub sum : List (Held A) → ℕ
  sum [] = 0
  sum (held ∷ items) = share held + sum items

  sum_insert : (items : List (Held A)) (i : ℕ) (held : Held A) → sum (insert items i held) ≡ share held + sum items
  unfolding sum
  sum_insert [] zero held = refl
  sum_insert [] (suc i) held = refl
  sum_insert (x ∷ items) zero held = refl
  sum_insert (x ∷ items) (suc i) held = let rest = sum_insert items i held in omega (arith, rest)

  sum_remove : (items : List (Held A)) (i : ℕ) (d : Held A) → i < length items → sum (remove items i) + share (get_or items i d) ≡ sum items
  unfolding sum
  sum_remove [] i d w = absurd (omega arith)
  sum_remove (x ∷ items) zero d w = omega arith
  sum_remove (x ∷ items) (suc i) d w = let rest = sum_remove items i d (omega arith) in omega (arith, rest)

  sum_set : (items : List (Held A)) (i : ℕ) (held d : Held A) → i < length items → share held ≡ share (get_or items i d) → sum (set items i held) ≡ sum items
  unfolding sum
  sum_set [] i held d w same = absurd (omega arith)
  sum_set (x ∷ items) zero held d w same = omega (arith, same)
  sum_set (x ∷ items) (suc i) held d w same = let rest = sum_set items i held d (omega arith) same in omega (arith, rest)

  pub sum_length : ((held : Held A) → weight held ≤ 1) → (items : List (Held A)) → sum items ≤ length items
  unfolding sum
  sum_length small [] = omega arith
  sum_length small (x ∷ items) = let rest = sum_length small items in at_most (eqb x.key.port port) rest
    where
      at_most : (b : Bool) → sum items ≤ length items → cond b (weight x) 0 + sum items ≤ suc (length items)
      at_most true le = omega (arith, le, small x)
      at_most false le = omega (arith, le)

abbrev pub one : {A : Type 0} → Held A → ℕ
one held = 1

module _ {A : Type 0} (bytes_of : A → List ℕ) where
  abbrev pub one_rpt : Held A → ℕ
  one_rpt held = from_bool (is_rpt (what_seen bytes_of held.key.what))

  count_is : (port : ℕ) (items : List (Held A)) → count_on port (records_seen bytes_of items) ≡ sum one port items
  unfolding count_on sum
  count_is port [] = refl
  count_is port (x ∷ items) = ap (λ n. cond (eqb x.key.port port) 1 0 + n) (count_is port items)

  rpts_are : (port : ℕ) (items : List (Held A)) → rpt_count_on port (records_seen bytes_of items) ≡ sum one_rpt port items
  unfolding sum
  rpts_are port [] = refl
  rpts_are port (x ∷ items) =
      let before = rpts_are port items in
      elim (eqb x.key.port port) as (λ b. length (cond (b && is_rpt (what_seen bytes_of x.key.what)) (record_seen bytes_of x ∷ rest) rest) ≡ cond b (one_rpt x) 0 + sum one_rpt port items) [
        | true ↦ elim (is_rpt (what_seen bytes_of x.key.what)) as (λ c. length (cond c (record_seen bytes_of x ∷ rest) rest) ≡ from_bool c + sum one_rpt port items) [
          | true ↦ omega (arith, before)
          | false ↦ omega (arith, before)
        ]
        | false ↦ omega (arith, before)
      ]
    where
      rest : List (Record (List ℕ))
      rest = filter (λ held. is_rpt_on port held.key) (records_seen bytes_of items)

  pub few_rpts : (held : Held A) → one_rpt held ≤ 1
  few_rpts held = by (is_rpt (what_seen bytes_of held.key.what))
    where
      by : (b : Bool) → from_bool b ≤ 1
      by true = omega arith
      by false = omega arith

pub one_longer : {X : Type 0} (xs : List X) (i : ℕ) (x : X) → length (insert xs i x) ≡ suc (length xs)
one_longer [] zero x = refl
one_longer [] (suc i) x = refl
one_longer (y ∷ xs) zero x = refl
one_longer (y ∷ xs) (suc i) x = ap suc (one_longer xs i x)

past : (counts : List ℕ) (p : ℕ) → length counts ≤ p → ◌≡◌ {A = ℕ} (get_or counts p 0) 0
past [] p w = refl
past (n ∷ counts) zero w = absurd (omega arith)
past (n ∷ counts) (suc p) w = past counts p (omega arith)

-- one count of 64 is changed
changed_at : (counts : List ℕ) (p q v : ℕ) → length counts ≡ 64 → q < 64 → get_or (set counts p v) q 0 ≡ cond (eqb p q) v (get_or counts q 0)
changed_at counts p q v long w = by (eqb p q) refl
  where
    by : (t : Bool) → eqb p q ≡ t → get_or (set counts p v) q 0 ≡ cond t v (get_or counts q 0)
    by true e = let same = eqb-true p q e in get_or-set_at counts p q v 0 (sym same) (omega (arith, same, long, w))
    by false e = get_or-set_other counts p q v 0 (λ same. eqb-false p q e (sym same))

-- a count of 64 ports
abbrev IsSum : {A : Type 0} → List ℕ → (Held A → ℕ) → List (Held A) → Type 0
IsSum counts weight items = (port : ℕ) → port < 64 → get_or counts port 0 ≡ sum weight port items

one_more : (t : Bool) (by n m k : ℕ) → (t ≡ true → n ≡ m) → m ≡ k → cond t (n + by) m ≡ cond t by 0 + k
one_more true by n m k same is = omega (arith, same refl, is)
one_more false by n m k same is = omega (arith, is)

one_less : (t : Bool) (by n m k l : ℕ) → (t ≡ true → n ≡ m) → m ≡ k → l + cond t by 0 ≡ k → cond t (n - by) m ≡ l
one_less true by n m k l same is split = omega (arith, same refl, is, split)
one_less false by n m k l same is split = omega (arith, is, split)

module _ {A : Type 0} (counts : List ℕ) (long : length counts ≡ 64) (weight : Held A → ℕ) (items : List (Held A)) (are : IsSum counts weight items) where
  same_count : (p q : ℕ) → eqb p q ≡ true → get_or counts p 0 ≡ get_or counts q 0
  same_count p q e = ap (λ n. get_or counts n 0) (eqb-true p q e)

  -- no port has more than there are
  few_in : ((held : Held A) → weight held ≤ 1) → (p : ℕ) → get_or counts p 0 ≤ length items
  few_in small p = by (ltb p 64) refl
    where
      by : (t : Bool) → ltb p 64 ≡ t → get_or counts p 0 ≤ length items
      by true e = omega (arith, are p (ltb-true p 64 e), sum_length weight p small items)
      by false e = omega (arith, past counts p (omega (arith, ltb-false p 64 e, long)))

  summed_in : (i : ℕ) (held : Held A) (by : ℕ) → by ≡ weight held → IsSum (set counts held.key.port (get_or counts held.key.port 0 + by)) weight (insert items i held)
  summed_in i held by is port small =
      changed_at counts held.key.port port (get_or counts held.key.port 0 + by) long small
      ∙ one_more (eqb held.key.port port) by (get_or counts held.key.port 0) (get_or counts port 0) (sum weight port items) (same_count held.key.port port) (are port small)
      ∙ ap (λ n. cond (eqb held.key.port port) n 0 + sum weight port items) is
      ∙ sym (sum_insert weight port items i held)

  summed_out : (i : ℕ) (held : Held A) (by : ℕ) → i < length items → held ≡ get_or items i held → by ≡ weight held → IsSum (set counts held.key.port (get_or counts held.key.port 0 - by)) weight (remove items i)
  summed_out i held by w here is port small =
      let gone : sum weight port (remove items i) + cond (eqb held.key.port port) by 0 ≡ sum weight port items =
      ap (λ n. sum weight port (remove items i) + cond (eqb held.key.port port) n 0) is
      ∙ ap (λ (h : Held A). sum weight port (remove items i) + share weight port h) here ∙ sum_remove weight port items i held w in
      changed_at counts held.key.port port (get_or counts held.key.port 0 - by) long small
      ∙ one_less (eqb held.key.port port) by (get_or counts held.key.port 0) (get_or counts port 0) (sum weight port items) (sum weight port (remove items i)) (same_count held.key.port port) (are port small) gone

  -- the count of the record that goes
  summed_some : (i : ℕ) (held : Held A) (by : ℕ) → i < length items → held ≡ get_or items i held → by ≡ weight held → held.key.port < 64 → by ≤ get_or counts held.key.port 0
  summed_some i held by w here is small =
      let gone : sum weight held.key.port (remove items i) + share weight held.key.port held ≡ sum weight held.key.port items =
      ap (λ (h : Held A). sum weight held.key.port (remove items i) + share weight held.key.port h) here ∙ sum_remove weight held.key.port items i held w in
      omega (arith, gone, are held.key.port small, is, itself (eqb held.key.port held.key.port) refl)
    where
      itself : (t : Bool) → eqb held.key.port held.key.port ≡ t → ◌≡◌ {A = ℕ} (cond t (weight held) 0) (weight held)
      itself true e = refl
      itself false e = absurd (eqb-false held.key.port held.key.port e refl)

  summed_set : (i : ℕ) (old held : Held A) → i < length items → old ≡ get_or items i old → held.key.port ≡ old.key.port → weight held ≡ weight old → IsSum counts weight (set items i held)
  summed_set i old held w here same alike port small =
      are port small ∙ sym (sum_set weight port items i held old w (ap (λ (p : ℕ). cond (eqb p port) (weight held) 0) same ∙ ap (λ (n : ℕ). cond (eqb old.key.port port) n 0) alike ∙ ap (λ (h : Held A). share weight port h) here))

module _ {A : Type 0} (counts rpts : List ℕ) (list new : Listed (Held A)) (long : length counts ≡ 64) (rpts_long : length rpts ≡ 64) (kept : IsKept counts rpts list) where
  all_summed : (bytes_of : A → List ℕ) → IsSum counts one list.items
  all_summed bytes_of port small = kept.counted bytes_of port small ∙ count_is bytes_of port list.items

  rpts_summed : (bytes_of : A → List ℕ) → IsSum rpts (one_rpt bytes_of) list.items
  rpts_summed bytes_of port small = kept.rpts_counted bytes_of port small ∙ rpts_are bytes_of port list.items

  pub few : (p : ℕ) → get_or counts p 0 ≤ length list.items
  few p = few_in counts long one list.items (all_summed (λ _. [])) (λ held. omega arith) p

  pub few_rpts_on : (p : ℕ) → get_or rpts p 0 ≤ length list.items
  few_rpts_on p = few_in rpts rpts_long (one_rpt (λ _. [])) list.items (rpts_summed (λ _. [])) (few_rpts (λ _. [])) p

  pub kept_in : (i : ℕ) (held : Held A) (by : ℕ) → length list.items < list.capacity → ((bytes_of : A → List ℕ) → by ≡ one_rpt bytes_of held) → new.items ≡ insert list.items i held → new.capacity ≡ list.capacity
      → IsKept (set counts held.key.port (get_or counts held.key.port 0 + 1)) (set rpts held.key.port (get_or rpts held.key.port 0 + by)) new
  kept_in i held by room is items capacity = record {
    counted = λ bytes_of port small.
        summed_in counts long one list.items (all_summed bytes_of) i held 1 refl port small
        ∙ sym (ap (λ xs. count_on port (records_seen bytes_of xs)) items ∙ count_is bytes_of port (insert list.items i held));
    rpts_counted = λ bytes_of port small.
        summed_in rpts rpts_long (one_rpt bytes_of) list.items (rpts_summed bytes_of) i held by (is bytes_of) port small
        ∙ sym (ap (λ xs. rpt_count_on port (records_seen bytes_of xs)) items ∙ rpts_are bytes_of port (insert list.items i held));
    fits = omega (arith, room, capacity, ap length items, one_longer list.items i held);
  }

  pub kept_out : (i : ℕ) (held : Held A) (by : ℕ) → i < length list.items → held ≡ get_or list.items i held → ((bytes_of : A → List ℕ) → by ≡ one_rpt bytes_of held) → new.items ≡ remove list.items i → new.capacity ≡ list.capacity
      → IsKept (set counts held.key.port (get_or counts held.key.port 0 - 1)) (set rpts held.key.port (get_or rpts held.key.port 0 - by)) new
  kept_out i held by w here is items capacity = record {
    counted = λ bytes_of port small.
        summed_out counts long one list.items (all_summed bytes_of) i held 1 w here refl port small
        ∙ sym (ap (λ xs. count_on port (records_seen bytes_of xs)) items ∙ count_is bytes_of port (remove list.items i));
    rpts_counted = λ bytes_of port small.
        summed_out rpts rpts_long (one_rpt bytes_of) list.items (rpts_summed bytes_of) i held by w here (is bytes_of) port small
        ∙ sym (ap (λ xs. rpt_count_on port (records_seen bytes_of xs)) items ∙ rpts_are bytes_of port (remove list.items i));
    fits = omega (arith, kept.fits, capacity, ap length items, length-remove list.items i w);
  }

  -- the counts of the record that goes
  pub some_out : (i : ℕ) (held : Held A) → i < length list.items → held ≡ get_or list.items i held → held.key.port < 64 → 1 ≤ get_or counts held.key.port 0
  some_out i held w here small = summed_some counts long one list.items (all_summed (λ _. [])) i held 1 w here refl small

  pub some_rpt_out : (i : ℕ) (held : Held A) (by : ℕ) → i < length list.items → held ≡ get_or list.items i held → ((bytes_of : A → List ℕ) → by ≡ one_rpt bytes_of held) → held.key.port < 64 → by ≤ get_or rpts held.key.port 0
  some_rpt_out i held by w here is small = summed_some rpts rpts_long (one_rpt (λ _. [])) list.items (rpts_summed (λ _. [])) i held by w here (is (λ _. [])) small

  pub kept_set : (i : ℕ) (old held : Held A) → i < length list.items → old ≡ get_or list.items i old → held.key ≡ old.key → new.items ≡ set list.items i held → new.capacity ≡ list.capacity → IsKept counts rpts new
  kept_set i old held w here same items capacity = record {
    counted = λ bytes_of port small.
        summed_set counts long one list.items (all_summed bytes_of) i old held w here (ap (λ (k : Key A). k.port) same) refl port small
        ∙ sym (ap (λ xs. count_on port (records_seen bytes_of xs)) items ∙ count_is bytes_of port (set list.items i held));
    rpts_counted = λ bytes_of port small.
        summed_set rpts rpts_long (one_rpt bytes_of) list.items (rpts_summed bytes_of) i old held w here (ap (λ (k : Key A). k.port) same) (ap (λ (k : Key A). from_bool (is_rpt (what_seen bytes_of k.what))) same) port small
        ∙ sym (ap (λ xs. rpt_count_on port (records_seen bytes_of xs)) items ∙ rpts_are bytes_of port (set list.items i held));
    fits = omega (arith, kept.fits, capacity, ap length items, length-set list.items i held);
  }

pub kept_as : {A : Type 0} (counts rpts other others : List ℕ) (list : Listed (Held A)) → other ≡ counts → others ≡ rpts → IsKept counts rpts list → IsKept other others list
kept_as counts rpts other others list one two kept = subst (λ c. IsKept c others list) (sym one) (subst (λ r. IsKept counts r list) (sym two) kept)

pub kept_same : {A : Type 0} (counts rpts : List ℕ) (list new : Listed (Held A)) → IsKept counts rpts list → new.items ≡ list.items → list.capacity ≤ new.capacity → IsKept counts rpts new
kept_same counts rpts list new kept items more = record {
  counted = λ bytes_of port small. kept.counted bytes_of port small ∙ sym (ap (λ (xs : List (Held _)). count_on port (records_seen bytes_of xs)) items);
  rpts_counted = λ bytes_of port small. kept.rpts_counted bytes_of port small ∙ sym (ap (λ (xs : List (Held _)). rpt_count_on port (records_seen bytes_of xs)) items);
  fits = omega (arith, kept.fits, ap length items, more);
}

pub zeros : (n port : ℕ) → ◌≡◌ {A = ℕ} (get_or (replicate n 0) port 0) 0
zeros zero port = refl
zeros (suc n) zero = refl
zeros (suc n) (suc port) = zeros n port

pub kept_none : {A : Type 0} (counts rpts : List ℕ) (list : Listed (Held A)) → ((port : ℕ) → get_or counts port 0 ≡ 0) → ((port : ℕ) → get_or rpts port 0 ≡ 0) → list.items ≡ [] → IsKept counts rpts list
unfolding count_on
kept_none counts rpts list none no_rpts items = record {
  counted = λ bytes_of port small. none port ∙ sym (ap (λ (xs : List (Held _)). count_on port (records_seen bytes_of xs)) items);
  rpts_counted = λ bytes_of port small. no_rpts port ∙ sym (ap (λ (xs : List (Held _)). rpt_count_on port (records_seen bytes_of xs)) items);
  fits = omega (arith, ap length items);
}
