-- A Join(*,G) that comes again within a message: which (S,G,rpt) machines it leaves as they are.
use Rattle.pim_down.proofs.Words.{◌≡◌, ℕ, Bool, true, false, cond, ◌&&◌, ◌||◌, ◌⊎◌, inl, inr, List, [], ◌∷◌, ◌++◌, Option, Some, None, map, eqb, refl, sym, ap, subst, ◌∙◌, pointwise, same_text, list_any, false≢true, eq-eqb, take-append-drop, Entry, What, Star, Source, Rpt, Key, State, Join, PrunePending, Prune, PruneTmp, PrunePendingTmp, Machine, Record, same_key, Start, on_star_join, star_join_in, IsAscending, machine_at, changed, each_changed, Event, is_rpt, is_star, is_star_join, is_rpt_on, is_rpt_of, on_own, on_rpts, key_of, effect, act, entry_of_what, entry_of_event, StayButListed, WouldStandAt, what_seen, Stays, StayBut, AllStay, rpt_key, is_prune_of, is_pruned_by}
use Rattle.pim_jp.specs.declared.entry.Entry.TheVariants as entry
use Rattle.pim_down.proofs.Order.{same_keys, same_back}
use Rattle.pim_down.proofs.Map.{IsAscending-changed, IsAscending-each_changed, at_changed, at_other_changed, at_each_changed}
use Rattle.pim_down.proofs.OneList.{one_list}
use Rattle.pim_down.proofs.Act.{at_act}
use Rattle.pim_down.proofs.Rpts.{itself}
use Rattle.pim_down.proofs.Searched.{first_part as first_of, second_part as second_of}

-- ---- truth

left_of : (a b : Bool) → (a || b) ≡ false → a ≡ false
left_of true b e = absurd (false≢true (sym e))
left_of false b e = refl

right_of : (a b : Bool) → (a || b) ≡ false → b ≡ false
right_of true b e = absurd (false≢true (sym e))
right_of false b e = e

none_of : (a b : Bool) → a ≡ false → b ≡ false → (a || b) ≡ false
none_of true b e f = e
none_of false b e f = f

-- ---- one machine

pub star_twice : (held : Option Machine) → Stays (on_star_join held)
unfolding on_star_join
star_twice None = refl
star_twice (Some held) = by held.state refl
  where
    by : (s : State) → held.state ≡ s → on_star_join (star_join_in s held) ≡ star_join_in s held
    by Join e = ap (λ t. star_join_in t held) e
    by PrunePending e = refl
    by Prune e = refl
    by PruneTmp e = ap (λ t. star_join_in t held) e
    by PrunePendingTmp e = ap (λ t. star_join_in t held) e

rpt_of : (port : ℕ) (group : List ℕ) (key : Key (List ℕ)) → is_rpt_of port group key ≡ true → is_rpt key.what ≡ true
rpt_of port group key e = second_of (eqb key.port port) (is_rpt key.what) (first_of (is_rpt_on port key) (pointwise eqb key.group group) e)

-- an event keeps it, unless it is a Prune of it
effect_stays : (port : ℕ) (start : Start) (event : Event) (key : Key (List ℕ)) (held : Option Machine) → is_rpt key.what ≡ true → (event.joins ≡ false → same_key (key_of port event) key ≡ false) → Stays held → Stays (effect port start event key held)
unfolding on_star_join
effect_stays port start event key held rpt apart stays = by (same_key (key_of port event) key) refl
  where
    own : (joins : Bool) (what : What (List ℕ)) → event.joins ≡ joins → is_rpt what ≡ true → same_key (key_of port event) key ≡ true → Stays (on_own joins what start held)
    own true Star j r e = absurd (false≢true r)
    own true (Source s) j r e = absurd (false≢true r)
    own true (Rpt s) j r e = refl
    own false what j r e = absurd (false≢true (sym (apart j) ∙ e))

    joined : (r : Bool) → Stays (cond r (on_star_join held) held)
    joined true = star_twice held
    joined false = stays

    other : (s : Bool) → Stays (cond s (on_rpts port event.group key held) held)
    other true = joined (is_rpt_of port event.group key)
    other false = stays

    by : (b : Bool) → same_key (key_of port event) key ≡ b → Stays (cond b (on_own event.joins event.what start held) (cond (is_star_join event) (on_rpts port event.group key held) held))
    by true e = own event.joins event.what refl (ap (λ (k : Key (List ℕ)). is_rpt k.what) (same_keys (key_of port event) key e) ∙ rpt) e
    by false e = other (is_star_join event)

-- a Join(*,G) makes each of its group stay
effect_met : (port : ℕ) (start : Start) (event : Event) (key : Key (List ℕ)) (held : Option Machine) → is_star_join event ≡ true → is_rpt_of port event.group key ≡ true → Stays (effect port start event key held)
unfolding on_star_join
effect_met port start event key held star is = by (same_key (key_of port event) key) refl
  where
    own : (joins : Bool) (what : What (List ℕ)) → (joins && is_star what) ≡ true → is_rpt what ≡ true → Stays (on_own joins what start held)
    own true Star s r = absurd (false≢true r)
    own true (Source t) s r = absurd (false≢true r)
    own true (Rpt t) s r = absurd (false≢true s)
    own false what s r = absurd (false≢true s)

    other : (s r : Bool) → s ≡ true → r ≡ true → Stays (cond s (cond r (on_star_join held) held) held)
    other true true e f = star_twice held
    other true false e f = absurd (false≢true f)
    other false r e f = absurd (false≢true e)

    by : (b : Bool) → same_key (key_of port event) key ≡ b → Stays (cond b (on_own event.joins event.what start held) (cond (is_star_join event) (on_rpts port event.group key held) held))
    by true e = own event.joins event.what star (ap (λ (k : Key (List ℕ)). is_rpt k.what) (same_keys (key_of port event) key e) ∙ rpt_of port event.group key is)
    by false e = other (is_star_join event) (is_rpt_of port event.group key) star is

module _ (port : ℕ) (start : Start) (event : Event) (records : List (Record (List ℕ))) (ascending : IsAscending records) where
  met_act : is_star_join event ≡ true → AllStay port event.group (act port start event records)
  met_act star key is out =
      subst Stays (sym (at_act port start event records ascending key)) (effect_met port start event key (machine_at key records) star is)

rpt_apart : (port : ℕ) (group : List ℕ) (what : What (List ℕ)) (key : Key (List ℕ)) → is_rpt what ≡ false → is_rpt key.what ≡ true → same_key (record { port = port; group = group; what = what }) key ≡ false
rpt_apart port group what key other rpt = by (same_key (record { port = port; group = group; what = what }) key) refl
  where
    by : (b : Bool) → same_key (record { port = port; group = group; what = what }) key ≡ b → same_key (record { port = port; group = group; what = what }) key ≡ false
    by false e = e
    by true e = absurd (false≢true (sym other ∙ ap (λ (k : Key (List ℕ)). is_rpt k.what) (same_keys (record { port = port; group = group; what = what }) key e) ∙ rpt))

-- ---- an event of a list of its own

-- an event that doesn't name the machine leaves it so
pub unnamed_stays : (port : ℕ) (start : Start) (group : List ℕ) (event : Event) (key : Key (List ℕ)) (held : Option Machine) → is_rpt_of port group key ≡ true → is_prune_of port group key (entry_of_event event) ≡ false → Stays held → Stays (effect port start event key held)
unnamed_stays port start group event key held is out stays =
    effect_stays port start event key held (rpt_of port group key is) (λ j. by (same_key (key_of port event) key) refl) stays
  where
    in_group : key.group ≡ group
    in_group = same_text key.group group (sym (second_of (is_rpt_on port key) (pointwise eqb key.group group) is))

    named : (what : What (List ℕ)) → event.what ≡ what → is_rpt what ≡ true → same_key (key_of port event) key ≡ true → is_prune_of port group key (entry_of_what what) ≡ true
    named Star w r e = absurd (false≢true r)
    named (Source s) w r e = absurd (false≢true r)
    named (Rpt s) w r e =
        let groups : event.group ≡ group = ap (λ (k : Key (List ℕ)). k.group) (same_keys (key_of port event) key e) ∙ in_group in
        let keys : key_of port event ≡ rpt_key port group s = λ i. record { port = port; group = groups i; what = w i } in
        subst (λ (k : Key (List ℕ)). same_key k key ≡ true) keys e

    by : (b : Bool) → same_key (key_of port event) key ≡ b → same_key (key_of port event) key ≡ false
    by false e = e
    by true e =
        let rpt : is_rpt event.what ≡ true = ap (λ (k : Key (List ℕ)). is_rpt k.what) (same_keys (key_of port event) key e) ∙ rpt_of port group key is in
        absurd (false≢true (sym out ∙ named event.what refl rpt e))

any_last : (test : Entry (List ℕ) → Bool) (entries : List (Entry (List ℕ))) (this : Entry (List ℕ)) → list_any test (entries ++ this ∷ []) ≡ false → (list_any test entries ≡ false) × (test this ≡ false)
any_last test [] this e = (refl, left_of (test this) false e)
any_last test (first ∷ entries) this e =
    let more = any_last test entries this (right_of (test first) (list_any test (entries ++ this ∷ [])) e) in
    (none_of (test first) (list_any test entries) (left_of (test first) (list_any test (entries ++ this ∷ [])) e) more.0, more.1)

named_last : (events : List Event) (event : Event) → map entry_of_event (events ++ event ∷ []) ≡ map entry_of_event events ++ entry_of_event event ∷ []
named_last [] event = refl
named_last (first ∷ events) event = ap (λ (es : List (Entry (List ℕ))). entry_of_event first ∷ es) (named_last events event)

module _ (port : ℕ) (start : Start) (event : Event) (records : List (Record (List ℕ))) (ascending : IsAscending records) where
  -- one more event has acted
  pub stay_more : (group : List ℕ) (events : List Event) → StayButListed port group events records → StayButListed port group (events ++ event ∷ []) (act port start event records)
  stay_more group events stay key is out =
      let parts = any_last (is_prune_of port group key) (map entry_of_event events) (entry_of_event event) (subst (λ (es : List (Entry (List ℕ))). list_any (is_prune_of port group key) es ≡ false) (named_last events event) out) in
      subst Stays (sym (at_act port start event records ascending key))
      (unnamed_stays port start group event key (machine_at key records) is parts.1 (stay key is parts.0))

  -- a Join(*,G) has acted
  pub stay_none : is_star_join event ≡ true → StayButListed port event.group [] (act port start event records)
  stay_none star key is out = met_act port start event records ascending star key is refl

-- ---- a Join(*,G) at its own machine

-- it leaves the (S,G,rpt) machines
pub stay_own : (port : ℕ) (group : List ℕ) (but : Key (List ℕ) → Bool) (event : Event) (change : Option Machine → Option Machine) (records new : List (Record (List ℕ))) → is_star_join event ≡ true → new ≡ changed (key_of port event) change records → StayBut port group but records → StayBut port group but new
stay_own port group but event change records new star is stay key in_group out =
    let apart = rpt_apart port event.group event.what key (not_rpt event.what (second_of event.joins (is_star event.what) star)) (rpt_of port group key in_group) in
    subst (λ (rs : List (Record (List ℕ))). Stays (machine_at key rs)) (sym is)
    (subst Stays (sym (at_other_changed (key_of port event) change key records (same_back (key_of port event) key apart))) (stay key in_group out))
  where
    not_rpt : (what : What (List ℕ)) → is_star what ≡ true → is_rpt what ≡ false
    not_rpt Star e = refl
    not_rpt (Source s) e = refl
    not_rpt (Rpt s) e = absurd (false≢true e)

-- ---- a Join(*,G) comes to some machines of its group

module _ (port : ℕ) (group : List ℕ) where
  abbrev joined_all : List (Record (List ℕ)) → List (Record (List ℕ))
  joined_all records = each_changed (on_rpts port group) records

  rpts_none : (key : Key (List ℕ)) → on_rpts port group key None ≡ None
  unfolding on_star_join
  rpts_none key = by (is_rpt_of port group key)
    where
      by : (b : Bool) → cond b (on_star_join None) None ≡ None
      by true = refl
      by false = refl

  at_joined : (records : List (Record (List ℕ))) → IsAscending records → (key : Key (List ℕ)) → machine_at key (joined_all records) ≡ on_rpts port group key (machine_at key records)
  at_joined records a key = at_each_changed (on_rpts port group) rpts_none key records a

  -- where each stays, nothing changes
  pub all_stay : (records : List (Record (List ℕ))) → IsAscending records → AllStay port group records → joined_all records ≡ records
  all_stay records a stay = one_list (joined_all records) records (IsAscending-each_changed (on_rpts port group) records a) a (λ key. at_joined records a key ∙ by key (is_rpt_of port group key) refl)
    where
      by : (key : Key (List ℕ)) (b : Bool) → is_rpt_of port group key ≡ b → cond b (on_star_join (machine_at key records)) (machine_at key records) ≡ machine_at key records
      by key true e = stay key e refl
      by key false e = refl

  own_rpt : (source : List ℕ) → is_rpt_of port group (rpt_key port group source) ≡ true
  own_rpt source = rw (eq-eqb port port refl, itself group) refl

  -- ---- to one of them

  module _ (source : List ℕ) (records : List (Record (List ℕ))) (ascending : IsAscending records) where
    abbrev joined_one : List (Record (List ℕ))
    joined_one = changed (rpt_key port group source) on_star_join records

    one_ascending : IsAscending joined_one
    one_ascending = IsAscending-changed (rpt_key port group source) on_star_join records ascending

    one_same : joined_all joined_one ≡ joined_all records
    one_same = one_list (joined_all joined_one) (joined_all records) (IsAscending-each_changed (on_rpts port group) joined_one one_ascending) (IsAscending-each_changed (on_rpts port group) records ascending) (λ key. at_joined joined_one one_ascending key ∙ by key (same_key (rpt_key port group source) key) refl ∙ sym (at_joined records ascending key))
      where
        own : on_rpts port group (rpt_key port group source) (machine_at (rpt_key port group source) joined_one) ≡ on_rpts port group (rpt_key port group source) (machine_at (rpt_key port group source) records)
        own =
            ap (on_rpts port group (rpt_key port group source)) (at_changed (rpt_key port group source) on_star_join records ascending)
            ∙ twice (is_rpt_of port group (rpt_key port group source)) (own_rpt source)
          where
            twice : (b : Bool) → b ≡ true → cond b (on_star_join (on_star_join (machine_at (rpt_key port group source) records))) (on_star_join (machine_at (rpt_key port group source) records)) ≡ cond b (on_star_join (machine_at (rpt_key port group source) records)) (machine_at (rpt_key port group source) records)
            twice true e = star_twice (machine_at (rpt_key port group source) records)
            twice false e = absurd (false≢true e)

        by : (key : Key (List ℕ)) (b : Bool) → same_key (rpt_key port group source) key ≡ b → on_rpts port group key (machine_at key joined_one) ≡ on_rpts port group key (machine_at key records)
        by key true e = subst (λ (k : Key (List ℕ)). on_rpts port group k (machine_at k joined_one) ≡ on_rpts port group k (machine_at k records)) (same_keys (rpt_key port group source) key e) own
        by key false e = ap (on_rpts port group key) (at_other_changed (rpt_key port group source) on_star_join key records (same_back (rpt_key port group source) key e))

    one_stays : (test : Key (List ℕ) → Bool) → StayBut port group (λ key. same_key (rpt_key port group source) key || test key) records → StayBut port group test joined_one
    one_stays test stay key is out = by (same_key (rpt_key port group source) key) refl
      where
        own : Stays (machine_at (rpt_key port group source) joined_one)
        own = subst Stays (sym (at_changed (rpt_key port group source) on_star_join records ascending)) (star_twice (machine_at (rpt_key port group source) records))

        by : (b : Bool) → same_key (rpt_key port group source) key ≡ b → Stays (machine_at key joined_one)
        by true e = subst (λ (k : Key (List ℕ)). Stays (machine_at k joined_one)) (same_keys (rpt_key port group source) key e) own
        by false e = subst Stays (sym (at_other_changed (rpt_key port group source) on_star_join key records (same_back (rpt_key port group source) key e))) (stay key is (none_of (same_key (rpt_key port group source) key) (test key) e out))

  -- ---- to those of a pruned list, one after the other

  -- what the entries that are left make stay is what all make stay
  pub record JoinsPruned (all : List (Entry (List ℕ))) (old : List (Record (List ℕ))) (left : List (Entry (List ℕ))) (now : List (Record (List ℕ))) : Type 0 where
    pub ascending : IsAscending now
    pub same : joined_all now ≡ joined_all old
    pub stay : (but : Key (List ℕ) → Bool) → StayBut port group (λ key. is_pruned_by port group all key || but key) old → StayBut port group (λ key. is_pruned_by port group left key || but key) now

  pub pruned_rpt : (all left rest : List (Entry (List ℕ))) (old now new : List (Record (List ℕ))) (source : List ℕ) → left ≡ entry.Rpt source ∷ rest → new ≡ changed (rpt_key port group source) on_star_join now → JoinsPruned all old left now → JoinsPruned all old rest new
  pruned_rpt all left rest old now new source split is to =
      subst (λ (rs : List (Record (List ℕ))). JoinsPruned all old rest rs) (sym is) (record {
        ascending = one_ascending source now to.ascending;
        same = one_same source now to.ascending ∙ to.same;
        stay = λ but stay. one_stays source now to.ascending (λ key. is_pruned_by port group rest key || but key) (λ key in_group out. subst (λ (es : List (Entry (List ℕ))). StayBut port group (λ k. is_pruned_by port group es k || but k) now) split (to.stay but stay) key in_group (turned (same_key (rpt_key port group source) key) (is_pruned_by port group rest key) (but key) out));
      })
    where
      turned : (a b c : Bool) → (a || (b || c)) ≡ false → ((a || b) || c) ≡ false
      turned true b c e = e
      turned false b c e = e

  pub pruned_other : (all left rest : List (Entry (List ℕ))) (old now : List (Record (List ℕ))) (this : Entry (List ℕ)) → left ≡ this ∷ rest → ((key : Key (List ℕ)) → is_prune_of port group key this ≡ false) → JoinsPruned all old left now → JoinsPruned all old rest now
  pruned_other all left rest old now this split none to = record {
    ascending = to.ascending;
    same = to.same;
    stay = λ but stay key in_group out. subst (λ (es : List (Entry (List ℕ))). StayBut port group (λ k. is_pruned_by port group es k || but k) now) split (to.stay but stay) key in_group (ap (λ b. (b || is_pruned_by port group rest key) || but key) (none key) ∙ out);
  }

  pub no_named_prune : {A : Type 0} (bytes_of : A → List ℕ) (what : What A) → (what ≡ Star) ⊎ ((s : A) × (what ≡ Source s)) → (key : Key (List ℕ)) → is_prune_of port group key (entry_of_what (what_seen bytes_of what)) ≡ false
  no_named_prune bytes_of what (inl star) key = ap (λ w. is_prune_of port group key (entry_of_what (what_seen bytes_of w))) star
  no_named_prune bytes_of what (inr source) key = ap (λ w. is_prune_of port group key (entry_of_what (what_seen bytes_of w))) source.1

  pub pruned_end : (all left : List (Entry (List ℕ))) (old now : List (Record (List ℕ))) → left ≡ [] → JoinsPruned all old left now → (but : Key (List ℕ) → Bool) → StayBut port group (λ key. is_pruned_by port group all key || but key) old → StayBut port group but now
  pruned_end all left old now none to but stay = subst (λ (es : List (Entry (List ℕ))). StayBut port group (λ k. is_pruned_by port group es k || but k) now) none (to.stay but stay)

  -- all others stayed
  pub named_end : (all left : List (Entry (List ℕ))) (old now : List (Record (List ℕ))) → left ≡ [] → JoinsPruned all old left now → StayBut port group (λ key. is_pruned_by port group all key) old → now ≡ joined_all old
  named_end all left old now none to stay =
      sym (all_stay now to.ascending (pruned_end all left old now none to (λ key. false) (λ key is out. stay key is (left_of (is_pruned_by port group all key) false out)))) ∙ to.same

-- to none, where the one that it would come to isn't held
pub joined_none : (key : Key (List ℕ)) (records : List (Record (List ℕ))) (i : ℕ) → WouldStandAt key records i → changed key on_star_join records ≡ records
unfolding on_star_join
joined_none key records i would = would.after on_star_join ∙ take-append-drop i records
