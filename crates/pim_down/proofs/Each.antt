-- Changes of records one after another, as loops make them.
use Rattle.pim_down.proofs.Words.{◌≡◌, ℕ, ◌+◌, ◌<◌, Bool, true, false, cond, ◌&&◌, not, List, [], ◌∷◌, ◌++◌, Option, Some, None, length, take, drop, get_or, refl, sym, ap, subst, ◌∙◌, arith, length-append, Less, Equal, Greater, filter, drop_more, take_more, take_at, drop_at, append_assoc, append-nil, Held, Key, State, Join, PrunePending, Prune, PruneTmp, PrunePendingTmp, Machine, Start, Record, Event, key_cmp, same_key, on_star_join, star_join_in, on_end, end_in, IsBelow, IsAscending, machine_at, recorded, at_rank, changed, each_changed, key_of, on_own, is_star_join, is_rpt_on, is_rpt_of, on_rpts, act, at_end, is_temporary, is_over, record_seen, records_seen}
use Rattle.pim_down.proofs.Order.{less_differs, greater_differs, equal_keys, same_itself}
use Rattle.pim_down.proofs.Map.{none_below, IsBelow-trans}

-- a change to what the key's machine was made into
pub changed_into : (key : Key (List ℕ)) (change : Option Machine → Option Machine) (machine : Option Machine) (records : List (Record (List ℕ))) → IsAscending records → machine ≡ change (machine_at key records) → changed key (λ _. machine) records ≡ changed key change records
unfolding IsBelow IsAscending machine_at changed
changed_into key change machine [] a e = ap (recorded key) e
changed_into key change machine (held ∷ records) a e =
    elim (key_cmp key held.key) as (λ r. key_cmp key held.key ≡ r → at_rank r (recorded key machine ++ held ∷ records) (recorded held.key machine ++ records) (held ∷ changed key (λ _. machine) records) ≡ at_rank r (recorded key (change None) ++ held ∷ records) (recorded held.key (change (Some held.machine)) ++ records) (held ∷ changed key change records)) [
      | Less ↦ λ l. let none : cond (same_key key held.key) (Some held.machine) (machine_at key records) ≡ None = rw (less_differs key held.key l) (none_below key records (IsBelow-trans key held.key records l a.0)) in
          ap (λ (m : Option Machine). recorded key m ++ held ∷ records) (e ∙ ap change none)
      | Equal ↦ λ l. let some : cond (same_key key held.key) (Some held.machine) (machine_at key records) ≡ Some held.machine = subst (λ (k : Key (List ℕ)). cond (same_key key k) (Some held.machine) (machine_at key records) ≡ Some held.machine) (equal_keys key held.key l) (rw (same_itself key) refl) in
          ap (λ (m : Option Machine). recorded held.key m ++ records) (e ∙ ap change some)
      | Greater ↦ λ l. let later : cond (same_key key held.key) (Some held.machine) (machine_at key records) ≡ machine_at key records = rw (greater_differs key held.key l) refl in
          ap (λ (rs : List (Record (List ℕ))). held ∷ rs) (changed_into key change machine records a.1 (e ∙ ap change later))
    ] refl

module _ (change : Key (List ℕ) → Option Machine → Option Machine) where
  pub each_append : (xs ys : List (Record (List ℕ))) → each_changed change (xs ++ ys) ≡ each_changed change xs ++ each_changed change ys
  unfolding each_changed
  each_append [] ys = refl
  each_append (x ∷ xs) ys = ap (λ (rs : List (Record (List ℕ))). recorded x.key (change x.key (Some x.machine)) ++ rs) (each_append xs ys) ∙ sym (append_assoc (recorded x.key (change x.key (Some x.machine))) (each_changed change xs) (each_changed change ys))

  -- the first records are changed, the others not yet
  pub record ChangedTo (old new : List (Record (List ℕ))) (i : ℕ) : Type 0 where
    pub count : length (each_changed change (take i old)) ≡ i
    pub seen : new ≡ each_changed change (take i old) ++ drop i old

  pub changed_to_more : (old new next : List (Record (List ℕ))) (i : ℕ) (held now : Record (List ℕ)) → i < length old → i < length new → get_or new i held ≡ held → now ∷ [] ≡ recorded held.key (change held.key (Some held.machine)) → next ≡ take i new ++ now ∷ drop (i + 1) new → ChangedTo old new i → ChangedTo old next (i + 1)
  unfolding each_changed
  changed_to_more old new next i held now within within_new at made edited to =
      let front = each_changed change (take i old) in
      let same_rest : drop i new ≡ drop i old = ap (drop i) to.seen ∙ drop_at front (drop i old) i to.count in
      let new_split : drop i new ≡ held ∷ drop (i + 1) new = drop_more new i held within_new ∙ ap (λ (r : Record (List ℕ)). r ∷ drop (i + 1) new) at in
      let old_split : drop i old ≡ get_or old i held ∷ drop (i + 1) old = drop_more old i held within in
      let conses : held ∷ drop (i + 1) new ≡ get_or old i held ∷ drop (i + 1) old = sym new_split ∙ same_rest ∙ old_split in
      let heads : held ≡ get_or old i held = cc in
      let tails : drop (i + 1) new ≡ drop (i + 1) old = cc in
      let same_front : take i new ≡ front = ap (take i) to.seen ∙ take_at front (drop i old) i to.count in
      let more : each_changed change (take (i + 1) old) ≡ front ++ now ∷ [] =
      ap (each_changed change) (take_more old i held within ∙ ap (λ (r : Record (List ℕ)). take i old ++ r ∷ []) (sym heads))
      ∙ each_append (take i old) (held ∷ []) ∙ ap (λ (rs : List (Record (List ℕ))). front ++ rs) (append-nil (recorded held.key (change held.key (Some held.machine))) ∙ sym made) in
      record {
        count = ap length more ∙ length-append front (now ∷ []) ∙ ap (λ n. n + 1) to.count;
        seen = edited ∙ (λ k. same_front k ++ now ∷ tails k) ∙ sym (append_assoc front (now ∷ []) (drop (i + 1) old)) ∙ ap (λ (rs : List (Record (List ℕ))). rs ++ drop (i + 1) old) (sym more);
      }

-- a Join(*,G) lets no record go
rpts_kept : (state : State) (held : Record (List ℕ)) → length (recorded held.key (star_join_in state held.machine)) ≡ 1
rpts_kept Join held = refl
rpts_kept PrunePending held = refl
rpts_kept Prune held = refl
rpts_kept PruneTmp held = refl
rpts_kept PrunePendingTmp held = refl

length_rpt : (b : Bool) (held : Record (List ℕ)) → length (recorded held.key (cond b (on_star_join (Some held.machine)) (Some held.machine))) ≡ 1
unfolding on_star_join
length_rpt true held = rpts_kept held.machine.state held
length_rpt false held = refl

length_rpts : (port : ℕ) (group : List ℕ) (records : List (Record (List ℕ))) → length (each_changed (on_rpts port group) records) ≡ length records
unfolding each_changed
length_rpts port group [] = refl
length_rpts port group (held ∷ records) =
    length-append (recorded held.key (on_rpts port group held.key (Some held.machine))) (each_changed (on_rpts port group) records)
    ∙ (λ i. length_rpt (is_rpt_of port group held.key) held i + length_rpts port group records i) ∙ (omega arith)

pub length_act : (port : ℕ) (start : Start) (event : Event) (records : List (Record (List ℕ))) → length (act port start event records) ≡ length (changed (key_of port event) (on_own event.joins event.what start) records)
length_act port start event records =
    elim (is_star_join event) as (λ s. length (cond s (each_changed (on_rpts port event.group) (changed (key_of port event) (on_own event.joins event.what start) records)) (changed (key_of port event) (on_own event.joins event.what start) records)) ≡ length (changed (key_of port event) (on_own event.joins event.what start) records)) [
      | true ↦ length_rpts port event.group (changed (key_of port event) (on_own event.joins event.what start) records)
      | false ↦ refl
    ]

-- End of Message is a filter
end_is : (port : ℕ) (held : Record (List ℕ)) → recorded held.key (at_end port held.key (Some held.machine)) ≡ cond (not (is_over port held)) (held ∷ []) []
unfolding on_end
end_is port held = by (is_rpt_on port held.key)
  where
    state_is : (state : State) → recorded held.key (end_in state held.machine) ≡ cond (not (is_temporary state)) (held ∷ []) []
    state_is Join = refl
    state_is PrunePending = refl
    state_is Prune = refl
    state_is PruneTmp = refl
    state_is PrunePendingTmp = refl

    by : (b : Bool) → recorded held.key (cond b (on_end (Some held.machine)) (Some held.machine)) ≡ cond (not (b && is_temporary held.machine.state)) (held ∷ []) []
    by true = state_is held.machine.state
    by false = refl

pub end_filter : (port : ℕ) (records : List (Record (List ℕ))) → each_changed (at_end port) records ≡ filter (λ held. not (is_over port held)) records
unfolding each_changed
end_filter port [] = refl
end_filter port (held ∷ records) =
    (λ i. end_is port held i ++ end_filter port records i) ∙ by (not (is_over port held))
  where
    by : (b : Bool) → cond b (held ∷ []) [] ++ filter (λ h. not (is_over port h)) records ≡ cond b (held ∷ filter (λ h. not (is_over port h)) records) (filter (λ h. not (is_over port h)) records)
    by true = refl
    by false = refl

seen_cond : {A : Type 0} (bytes_of : A → List ℕ) (b : Bool) (held : Held A) (rest : List (Held A)) (seen : List (Record (List ℕ))) → records_seen bytes_of rest ≡ seen → records_seen bytes_of (cond b (held ∷ rest) rest) ≡ cond b (record_seen bytes_of held ∷ seen) seen
seen_cond bytes_of true held rest seen e = ap (λ (rs : List (Record (List ℕ))). record_seen bytes_of held ∷ rs) e
seen_cond bytes_of false held rest seen e = e

pub seen_filter : {A : Type 0} (bytes_of : A → List ℕ) (test : Record (List ℕ) → Bool) (records : List (Held A)) → records_seen bytes_of (filter (λ (held : Held A). test (record_seen bytes_of held)) records) ≡ filter test (records_seen bytes_of records)
seen_filter bytes_of test [] = refl
seen_filter {A} bytes_of test (held ∷ records) =
    seen_cond bytes_of (test (record_seen bytes_of held)) held (filter (λ (h : Held A). test (record_seen bytes_of h)) records) (filter test (records_seen bytes_of records)) (seen_filter bytes_of test records)

pub act_star : (port : ℕ) (start : Start) (event : Event) (records : List (Record (List ℕ))) → is_star_join event ≡ true → act port start event records ≡ each_changed (on_rpts port event.group) (changed (key_of port event) (on_own event.joins event.what start) records)
act_star port start event records star = rw star refl

pub act_other : (port : ℕ) (start : Start) (event : Event) (records : List (Record (List ℕ))) → is_star_join event ≡ false → act port start event records ≡ changed (key_of port event) (on_own event.joins event.what start) records
act_other port start event records other = rw other refl
