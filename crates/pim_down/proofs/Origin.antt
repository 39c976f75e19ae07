-- A message does the same, from whatever moment the times are counted.
use Rattle.pim_down.proofs.Words.{◌≡◌, ℕ, ◌+◌, ◌-◌, Bool, true, false, cond, List, [], ◌∷◌, ◌++◌, Option, Some, None, map, max, eqb, refl, ap, ◌∙◌, arith, Less, Equal, Greater, is_some, map-append, What, Star, Source, Rpt, Key, State, Join, PrunePending, Prune, PruneTmp, PrunePendingTmp, Machine, Start, Record, Event, key_cmp, same_key, greater, join_in, on_join, prune_in, on_prune, star_join_in, on_star_join, rpt_prune_in, on_rpt_prune, end_in, on_end, machine_at, recorded, at_rank, changed, each_changed, count_on, key_of, on_own, is_star_join, is_rpt_on, is_rpt_of, on_rpts, act, act_all, at_end, hearing, count_new, expiry_after, machine_after, record_after, start_after}

abbrev option_after : ℕ → Option Machine → Option Machine
option_after k None = None
option_after k (Some machine) = Some (machine_after k machine)

greater_later : (k : ℕ) (a b : Option ℕ) → expiry_after k (greater a b) ≡ greater (expiry_after k a) (expiry_after k b)
greater_later k None b = refl
greater_later k (Some a) None = refl
greater_later k (Some a) (Some b) = let e : max a b - k ≡ max (a - k) (b - k) = omega arith in ap (λ n. Some n) e

join_later : (k : ℕ) (start : Start) (state : State) (m : Machine) → m.state ≡ state → option_after k (join_in state start m) ≡ join_in state (start_after k start) (machine_after k m)
join_later k start Join m e = ap (λ (x : Option ℕ). Some (record { state = Join; expires_in = x; pending = (machine_after k m).pending })) (greater_later k m.expires_in start.expires_in)
join_later k start PrunePending m e = ap (λ (x : Option ℕ). Some (record { state = Join; expires_in = x; pending = None })) (greater_later k m.expires_in start.expires_in)
join_later k start Prune m e = refl
join_later k start PruneTmp m e = refl
join_later k start PrunePendingTmp m e = refl

prune_later : (k : ℕ) (start : Start) (state : State) (m : Machine) → option_after k (prune_in state start m) ≡ prune_in state (start_after k start) (machine_after k m)
prune_later k start Join m = refl
prune_later k start PrunePending m = refl
prune_later k start Prune m = refl
prune_later k start PruneTmp m = refl
prune_later k start PrunePendingTmp m = refl

rpt_prune_later : (k : ℕ) (start : Start) (state : State) (m : Machine) → option_after k (rpt_prune_in state start m) ≡ rpt_prune_in state (start_after k start) (machine_after k m)
rpt_prune_later k start Join m = refl
rpt_prune_later k start PrunePending m = refl
rpt_prune_later k start Prune m = ap (λ (x : Option ℕ). Some (record { state = Prune; expires_in = x; pending = (machine_after k m).pending })) (greater_later k m.expires_in start.expires_in)
rpt_prune_later k start PruneTmp m = ap (λ (x : Option ℕ). Some (record { state = Prune; expires_in = x; pending = (machine_after k m).pending })) (greater_later k m.expires_in start.expires_in)
rpt_prune_later k start PrunePendingTmp m = ap (λ (x : Option ℕ). Some (record { state = PrunePending; expires_in = x; pending = (machine_after k m).pending })) (greater_later k m.expires_in start.expires_in)

star_later : (k : ℕ) (state : State) (m : Machine) → option_after k (star_join_in state m) ≡ star_join_in state (machine_after k m)
star_later k Join m = refl
star_later k PrunePending m = refl
star_later k Prune m = refl
star_later k PruneTmp m = refl
star_later k PrunePendingTmp m = refl

end_later : (k : ℕ) (state : State) (m : Machine) → option_after k (end_in state m) ≡ end_in state (machine_after k m)
end_later k Join m = refl
end_later k PrunePending m = refl
end_later k Prune m = refl
end_later k PruneTmp m = refl
end_later k PrunePendingTmp m = refl

on_join_later : (k : ℕ) (start : Start) (held : Option Machine) → option_after k (on_join start held) ≡ on_join (start_after k start) (option_after k held)
unfolding on_join
on_join_later k start None = refl
on_join_later k start (Some m) = join_later k start m.state m refl

on_prune_later : (k : ℕ) (start : Start) (held : Option Machine) → option_after k (on_prune start held) ≡ on_prune (start_after k start) (option_after k held)
unfolding on_prune
on_prune_later k start None = refl
on_prune_later k start (Some m) = prune_later k start m.state m

on_rpt_prune_later : (k : ℕ) (start : Start) (held : Option Machine) → option_after k (on_rpt_prune start held) ≡ on_rpt_prune (start_after k start) (option_after k held)
unfolding on_rpt_prune
on_rpt_prune_later k start None = refl
on_rpt_prune_later k start (Some m) = rpt_prune_later k start m.state m

own_later : (k : ℕ) (start : Start) (joins : Bool) (what : What (List ℕ)) (held : Option Machine) → option_after k (on_own joins what start held) ≡ on_own joins what (start_after k start) (option_after k held)
own_later k start true Star held = on_join_later k start held
own_later k start true (Source s) held = on_join_later k start held
own_later k start true (Rpt s) held = refl
own_later k start false Star held = on_prune_later k start held
own_later k start false (Source s) held = on_prune_later k start held
own_later k start false (Rpt s) held = on_rpt_prune_later k start held

on_star_later : (k : ℕ) (held : Option Machine) → option_after k (on_star_join held) ≡ on_star_join (option_after k held)
unfolding on_star_join
on_star_later k None = refl
on_star_later k (Some m) = star_later k m.state m

on_end_later : (k : ℕ) (held : Option Machine) → option_after k (on_end held) ≡ on_end (option_after k held)
unfolding on_end
on_end_later k None = refl
on_end_later k (Some m) = end_later k m.state m

rpts_later : (k port : ℕ) (group : List ℕ) (key : Key (List ℕ)) (held : Option Machine) → option_after k (on_rpts port group key held) ≡ on_rpts port group key (option_after k held)
rpts_later k port group key held = elim (is_rpt_of port group key) as (λ b. option_after k (cond b (on_star_join held) held) ≡ cond b (on_star_join (option_after k held)) (option_after k held)) [ true ↦ on_star_later k held | false ↦ refl ]

at_end_later : (k port : ℕ) (key : Key (List ℕ)) (held : Option Machine) → option_after k (at_end port key held) ≡ at_end port key (option_after k held)
at_end_later k port key held = elim (is_rpt_on port key) as (λ b. option_after k (cond b (on_end held) held) ≡ cond b (on_end (option_after k held)) (option_after k held)) [ true ↦ on_end_later k held | false ↦ refl ]

-- ---- records

recorded_later : (k : ℕ) (key : Key (List ℕ)) (m : Option Machine) → map (record_after k) (recorded key m) ≡ recorded key (option_after k m)
recorded_later k key None = refl
recorded_later k key (Some m) = refl

joined_later : (k : ℕ) (key : Key (List ℕ)) (m n : Option Machine) (rs : List (Record (List ℕ))) (ss : List (Record (List ℕ))) → option_after k m ≡ n → map (record_after k) rs ≡ ss → map (record_after k) (recorded key m ++ rs) ≡ recorded key n ++ ss
joined_later k key m n rs ss e f = map-append (record_after k) (recorded key m) rs ∙ (λ i. (recorded_later k key m ∙ ap (recorded key) e) i ++ f i)

changed_later : (k : ℕ) (key : Key (List ℕ)) (f g : Option Machine → Option Machine) → ((m : Option Machine) → option_after k (f m) ≡ g (option_after k m)) → (records : List (Record (List ℕ))) → map (record_after k) (changed key f records) ≡ changed key g (map (record_after k) records)
unfolding changed
changed_later k key f g same [] = recorded_later k key (f None) ∙ ap (recorded key) (same None)
changed_later k key f g same (held ∷ records) =
    elim (key_cmp key held.key) as (λ r. map (record_after k) (at_rank r (recorded key (f None) ++ held ∷ records) (recorded held.key (f (Some held.machine)) ++ records) (held ∷ changed key f records)) ≡ at_rank r (recorded key (g None) ++ record_after k held ∷ map (record_after k) records) (recorded held.key (g (Some (machine_after k held.machine))) ++ map (record_after k) records) (record_after k held ∷ changed key g (map (record_after k) records))) [
      | Less ↦ joined_later k key (f None) (g None) (held ∷ records) (record_after k held ∷ map (record_after k) records) (same None) refl
      | Equal ↦ joined_later k held.key (f (Some held.machine)) (g (Some (machine_after k held.machine))) records (map (record_after k) records) (same (Some held.machine)) refl
      | Greater ↦ ap (λ (rs : List (Record (List ℕ))). record_after k held ∷ rs) (changed_later k key f g same records)
    ]

each_later : (k : ℕ) (f : Key (List ℕ) → Option Machine → Option Machine) → ((key : Key (List ℕ)) (m : Option Machine) → option_after k (f key m) ≡ f key (option_after k m)) → (records : List (Record (List ℕ))) → map (record_after k) (each_changed f records) ≡ each_changed f (map (record_after k) records)
unfolding each_changed
each_later k f same [] = refl
each_later k f same (held ∷ records) = joined_later k held.key (f held.key (Some held.machine)) (f held.key (Some (machine_after k held.machine))) (each_changed f records) (each_changed f (map (record_after k) records)) (same held.key (Some held.machine)) (each_later k f same records)

act_later : (k port : ℕ) (start : Start) (event : Event) (records : List (Record (List ℕ))) → map (record_after k) (act port start event records) ≡ act port (start_after k start) event (map (record_after k) records)
act_later k port start event records =
    let own = changed_later k (key_of port event) (on_own event.joins event.what start) (on_own event.joins event.what (start_after k start)) (own_later k start event.joins event.what) records in
    elim (is_star_join event) as (λ s. map (record_after k) (cond s (each_changed (on_rpts port event.group) (changed (key_of port event) (on_own event.joins event.what start) records)) (changed (key_of port event) (on_own event.joins event.what start) records)) ≡ cond s (each_changed (on_rpts port event.group) (changed (key_of port event) (on_own event.joins event.what (start_after k start)) (map (record_after k) records))) (changed (key_of port event) (on_own event.joins event.what (start_after k start)) (map (record_after k) records))) [
      | true ↦ each_later k (on_rpts port event.group) (rpts_later k port event.group) (changed (key_of port event) (on_own event.joins event.what start) records) ∙ ap (each_changed (on_rpts port event.group)) own
      | false ↦ own
    ]

act_all_later : (k port : ℕ) (start : Start) (events : List Event) (records : List (Record (List ℕ))) → map (record_after k) (act_all port start events records) ≡ act_all port (start_after k start) events (map (record_after k) records)
unfolding act_all
act_all_later k port start [] records = refl
act_all_later k port start (event ∷ events) records = act_all_later k port start events (act port start event records) ∙ ap (act_all port (start_after k start) events) (act_later k port start event records)

pub hearing_later : (k port : ℕ) (start : Start) (events : List Event) (records : List (Record (List ℕ))) → map (record_after k) (hearing port start events records) ≡ hearing port (start_after k start) events (map (record_after k) records)
hearing_later k port start events records =
    each_later k (at_end port) (at_end_later k port) (act_all port start events records) ∙ ap (each_changed (at_end port)) (act_all_later k port start events records)

-- ---- counts

some_later : (k : ℕ) (key : Key (List ℕ)) (records : List (Record (List ℕ))) → is_some (machine_at key (map (record_after k) records)) ≡ is_some (machine_at key records)
unfolding machine_at
some_later k key [] = refl
some_later k key (held ∷ records) = elim (same_key key held.key) as (λ b. is_some (cond b (Some (machine_after k held.machine)) (machine_at key (map (record_after k) records))) ≡ is_some (cond b (Some held.machine) (machine_at key records))) [ true ↦ refl | false ↦ some_later k key records ]

pub count_on_later : (k port : ℕ) (records : List (Record (List ℕ))) → count_on port (map (record_after k) records) ≡ count_on port records
unfolding count_on
count_on_later k port [] = refl
count_on_later k port (held ∷ records) = ap (λ n. cond (eqb held.key.port port) 1 0 + n) (count_on_later k port records)

pub count_new_later : (k port : ℕ) (events : List Event) (records : List (Record (List ℕ))) → count_new port (map (record_after k) records) events ≡ count_new port records events
unfolding count_new
count_new_later k port [] records = refl
count_new_later k port (event ∷ events) records = rw (some_later k (key_of port event) records, count_new_later k port events records) refl
