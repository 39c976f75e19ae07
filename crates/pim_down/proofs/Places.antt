-- Going through records in key order, up to the place of a key.
use Rattle.pim_down.proofs.Words.{◌≡◌, ℕ, ◌+◌, ◌<◌, cond, List, [], ◌∷◌, ◌++◌, Option, Some, None, length, take, drop, get_or, refl, sym, ap, subst, ◌∙◌, arith, Ordering, Less, Equal, Greater, drop_more, drop_all, take_more, append_assoc, append-nil, Key, Machine, Record, key_cmp, same_key, IsBelow, IsAscending, machine_at, recorded, at_rank, changed, StandsAt, WouldStandAt}
use Rattle.pim_down.proofs.Order.{equal_keys, same_itself, greater_differs}
use Rattle.pim_down.proofs.Map.{IsBelow-trans, none_below}

-- all before this place are below the key
pub record IsPast (key : Key (List ℕ)) (records : List (Record (List ℕ))) (place : ℕ) : Type 0 where
  pub machine : machine_at key records ≡ machine_at key (drop place records)
  pub after : (change : Option Machine → Option Machine) → changed key change records ≡ take place records ++ changed key change (drop place records)
  pub ascending : IsAscending records → IsAscending (drop place records)

pub past_none : (key : Key (List ℕ)) (records : List (Record (List ℕ))) → IsPast key records 0
past_none key records = record { machine = refl; after = λ change. refl; ascending = λ a. a }

module _ (key : Key (List ℕ)) (records : List (Record (List ℕ))) (place : ℕ) (held : Record (List ℕ)) (within : place < length records) (here : (d : Record (List ℕ)) → get_or records place d ≡ held) (past : IsPast key records place) where
  split : drop place records ≡ held ∷ drop (place + 1) records
  split = drop_more records place held within ∙ ap (λ (r : Record (List ℕ)). r ∷ drop (place + 1) records) (here held)

  step_change : (change : Option Machine → Option Machine) (r : Ordering) → key_cmp key held.key ≡ r → changed key change (held ∷ drop (place + 1) records) ≡ at_rank r (recorded key (change None) ++ held ∷ drop (place + 1) records) (recorded held.key (change (Some held.machine)) ++ drop (place + 1) records) (held ∷ changed key change (drop (place + 1) records))
  unfolding changed
  step_change change r e = rw e refl

  all_change : (change : Option Machine → Option Machine) (r : Ordering) → key_cmp key held.key ≡ r → changed key change records ≡ take place records ++ at_rank r (recorded key (change None) ++ held ∷ drop (place + 1) records) (recorded held.key (change (Some held.machine)) ++ drop (place + 1) records) (held ∷ changed key change (drop (place + 1) records))
  all_change change r e = past.after change ∙ ap (λ (rs : List (Record (List ℕ))). take place records ++ rs) (ap (changed key change) split ∙ step_change change r e)

  pub stands_here : key_cmp key held.key ≡ Equal → StandsAt key records place
  unfolding machine_at
  stands_here e =
      let same = equal_keys key held.key e in
      let at_all : machine_at key records ≡ Some held.machine = past.machine ∙ ap (machine_at key) split ∙ subst (λ (k : Key (List ℕ)). cond (same_key key k) (Some held.machine) (machine_at key (drop (place + 1) records)) ≡ Some held.machine) same (rw (same_itself key) refl) in
      record {
        within = within;
        here = λ d. ap (λ (r : Record (List ℕ)). r.key) (here d) ∙ sym same;
        machine = λ d. at_all ∙ ap (λ (r : Record (List ℕ)). Some r.machine) (sym (here d));
        after = λ change d. all_change change Equal e ∙ (λ i. take place records ++ (recorded (sym same i) (change (Some (sym (here d) i).machine)) ++ drop (place + 1) records));
      }

  pub would_stand_here : key_cmp key held.key ≡ Less → WouldStandAt key records place
  unfolding IsBelow IsAscending
  would_stand_here e =
      record {
        within = omega arith;
        machine = λ a. let tail : IsAscending (held ∷ drop (place + 1) records) = subst IsAscending split (past.ascending a) in
            let below : IsBelow key (held ∷ drop (place + 1) records) = (e, IsBelow-trans key held.key (drop (place + 1) records) e tail.0) in
            past.machine ∙ ap (machine_at key) split ∙ none_below key (held ∷ drop (place + 1) records) below;
        after = λ change. all_change change Less e ∙ ap (λ (rs : List (Record (List ℕ))). take place records ++ (recorded key (change None) ++ rs)) (sym split);
      }

  pub past_more : key_cmp key held.key ≡ Greater → IsPast key records (place + 1)
  unfolding IsAscending machine_at
  past_more e =
      record {
        machine = past.machine ∙ ap (machine_at key) split ∙ rw (greater_differs key held.key e) refl;
        after = λ change. all_change change Greater e ∙ sym (append_assoc (take place records) (held ∷ []) (changed key change (drop (place + 1) records))) ∙ ap (λ (rs : List (Record (List ℕ))). rs ++ changed key change (drop (place + 1) records)) (sym (take_more records place held within ∙ ap (λ (r : Record (List ℕ)). take place records ++ r ∷ []) (here held)));
        ascending = λ a. let tail : IsAscending (held ∷ drop (place + 1) records) = subst IsAscending split (past.ascending a) in tail.1;
      }

pub would_stand_last : (key : Key (List ℕ)) (records : List (Record (List ℕ))) (place : ℕ) → place ≡ length records → IsPast key records place → WouldStandAt key records place
unfolding machine_at changed
would_stand_last key records place e past =
    let nothing : drop place records ≡ [] = drop_all place records (omega arith) in
    record {
      within = omega arith;
      machine = λ a. past.machine ∙ ap (machine_at key) nothing;
      after = λ change. past.after change ∙ ap (λ (rs : List (Record (List ℕ))). take place records ++ rs) (ap (changed key change) nothing ∙ sym (append-nil (recorded key (change None))) ∙ ap (λ (rs : List (Record (List ℕ))). recorded key (change None) ++ rs) (sym nothing));
    }
