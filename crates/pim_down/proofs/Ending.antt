-- End of Message, group by group.
use Rattle.pim_down.proofs.Words.{◌≡◌, ℕ, zero, suc, ◌+◌, ◌<◌, ◌≤◌, Bool, true, false, cond, ◌&&◌, ◌||◌, not, List, [], ◌∷◌, ◌++◌, Option, Some, None, length, get_or, eqb, ltb, refl, sym, ap, subst, ◌∙◌, arith, Less, Equal, Greater, filter, remove, flat_map, list_any, AllByRecursion, pointwise, same_text, false≢true, or_right, ltb-true, ltb-false, Entry, GroupSet, Held, What, Star, Source, Rpt, Key, Machine, State, Join, PrunePending, Prune, PruneTmp, PrunePendingTmp, Record, key_cmp, Start, greater, on_join, on_prune, on_star_join, rpt_prune_in, on_rpt_prune, IsBelow, IsAscending, recorded, at_rank, changed, each_changed, Event, is_known, list_events, set_events, key_of, on_own, is_star_join, is_rpt_on, is_rpt_of, on_rpts, act, act_all, at_end, is_temporary, IsSettled, is_before_rpts, is_over, is_over_in, is_joined_in, AreOverIn, record_seen, records_seen}
use Rattle.pim_jp.specs.declared.entry.Entry.TheVariants as entry
use Rattle.pim_down.proofs.Order.{equal_keys}
use Rattle.pim_down.proofs.Each.{end_filter, seen_filter}
use Rattle.pim_down.proofs.Rpts.{itself, AreBehind, AreOthers}
use Rattle.pim_down.proofs.Searched.{second_part}
use Rattle.pim_down.proofs.Looking.{NoneBefore, none_more}

-- ---- lists

module _ {X : Type 0} where
  filter_remove : (p : X → Bool) (xs : List X) (i : ℕ) (x : X) → i < length xs → x ≡ get_or xs i x → p x ≡ false → filter p (remove xs i) ≡ filter p xs
  filter_remove p [] i x w here e = absurd (omega arith)
  filter_remove p (y ∷ xs) zero x w here e = let fails : p y ≡ false = ap p (sym here) ∙ e in rw fails refl
  filter_remove p (y ∷ xs) (suc i) x w here e =
      ap (λ (rest : List X). cond (p y) (y ∷ rest) rest) (filter_remove p xs i x (omega arith) here e)

  filter_whole : (p : X → Bool) (xs : List X) → ((k : ℕ) (d : X) → k < length xs → p (get_or xs k d) ≡ true) → filter p xs ≡ xs
  filter_whole p [] passes = refl
  filter_whole p (x ∷ xs) passes = let first : p x ≡ true = passes 0 x (omega arith) in rw first (ap (λ (rest : List X). x ∷ rest) (filter_whole p xs (λ k d w. passes (suc k) d (omega arith))))

  pub filter_twice : (p q : X → Bool) → ((x : X) → q x ≡ false → p x ≡ false) → (xs : List X) → filter p (filter q xs) ≡ filter p xs
  filter_twice p q less [] = refl
  filter_twice p q less (x ∷ xs) = by (filter_twice p q less xs) (q x) refl
    where
      by : filter p (filter q xs) ≡ filter p xs → (t : Bool) → q x ≡ t → filter p (cond t (x ∷ filter q xs) (filter q xs)) ≡ cond (p x) (x ∷ filter p xs) (filter p xs)
      by same true e = ap (λ (rest : List X). cond (p x) (x ∷ rest) rest) same
      by same false e = let fails : p x ≡ false = less x e in rw fails same

  pub removed_before : (xs : List X) (i k : ℕ) (d : X) → i < length xs → k < i → get_or (remove xs i) k d ≡ get_or xs k d
  removed_before [] i k d w lt = absurd (omega arith)
  removed_before (x ∷ xs) zero k d w lt = absurd (omega arith)
  removed_before (x ∷ xs) (suc i) zero d w lt = refl
  removed_before (x ∷ xs) (suc i) (suc k) d w lt = removed_before xs i k d (omega arith) (omega arith)

  pub removed_behind : (xs : List X) (i k : ℕ) (d : X) → i < length xs → i ≤ k → get_or (remove xs i) k d ≡ get_or xs (suc k) d
  removed_behind [] i k d w le = absurd (omega arith)
  removed_behind (x ∷ xs) zero k d w le = refl
  removed_behind (x ∷ xs) (suc i) zero d w le = absurd (omega arith)
  removed_behind (x ∷ xs) (suc i) (suc k) d w le = removed_behind xs i k d (omega arith) (omega arith)

  shorter : (xs : List X) (i : ℕ) → i < length xs → suc (length (remove xs i)) ≡ length xs
  shorter [] i w = absurd (omega arith)
  shorter (x ∷ xs) zero w = refl
  shorter (x ∷ xs) (suc i) w = ap suc (shorter xs i (omega arith))

-- ---- order

below_filter : (p : Record (List ℕ) → Bool) (key : Key (List ℕ)) (records : List (Record (List ℕ))) → IsBelow key records → IsBelow key (filter p records)
unfolding IsBelow
below_filter p key [] below = tt
below_filter p key (held ∷ records) below = by (below_filter p key records below.1) (p held)
  where
    by : IsBelow key (filter p records) → (t : Bool) → IsBelow key (cond t (held ∷ filter p records) (filter p records))
    by rest true = (below.0, rest)
    by rest false = rest

pub ascending_filter : (p : Record (List ℕ) → Bool) (records : List (Record (List ℕ))) → IsAscending records → IsAscending (filter p records)
unfolding IsAscending
ascending_filter p [] a = tt
ascending_filter p (held ∷ records) a = by (ascending_filter p records a.1) (p held)
  where
    by : IsAscending (filter p records) → (t : Bool) → IsAscending (cond t (held ∷ filter p records) (filter p records))
    by rest true = (below_filter p held.key records a.0, rest)
    by rest false = rest

module _ {A : Type 0} (bytes_of : A → List ℕ) where
  below_remove : (key : Key (List ℕ)) (items : List (Held A)) (i : ℕ) → i < length items → IsBelow key (records_seen bytes_of items) → IsBelow key (records_seen bytes_of (remove items i))
  unfolding IsBelow
  below_remove key [] i w below = absurd (omega arith)
  below_remove key (held ∷ items) zero w below = below.1
  below_remove key (held ∷ items) (suc i) w below = (below.0, below_remove key items i (omega arith) below.1)

  ascending_remove : (items : List (Held A)) (i : ℕ) → i < length items → IsAscending (records_seen bytes_of items) → IsAscending (records_seen bytes_of (remove items i))
  unfolding IsAscending
  ascending_remove [] i w a = absurd (omega arith)
  ascending_remove (held ∷ items) zero w a = a.1
  ascending_remove (held ∷ items) (suc i) w a = (below_remove (record_seen bytes_of held).key items i (omega arith) a.0, ascending_remove items i (omega arith) a.1)

-- ---- one group

module _ {A : Type 0} (bytes_of : A → List ℕ) (port : ℕ) (group : List ℕ) where
  abbrev pub over : Held A → Bool
  over held = is_over_in port group (record_seen bytes_of held)

  abbrev keep : Held A → Bool
  keep held = not (over held)

  -- End of Message came to the records before this index
  pub record EndsTo (old now : List (Held A)) (i : ℕ) : Type 0 where
    pub kept : filter keep now ≡ filter keep old
    pub ended : NoneBefore over now i
    pub ascending : IsAscending (records_seen bytes_of now)
    pub behind : AreBehind bytes_of port group now i

  not_one : (held : Held A) → is_rpt_of port group (record_seen bytes_of held).key ≡ false → over held ≡ false
  not_one held e = ap (λ b. b && is_temporary held.machine.state) e

  pub over_by : (held : Held A) (t : Bool) → is_rpt_of port group (record_seen bytes_of held).key ≡ true → is_temporary held.machine.state ≡ t → over held ≡ t
  over_by held t e f = ap (λ b. b && is_temporary held.machine.state) e ∙ f

  pub ends_none : (items : List (Held A)) (i : ℕ) → IsAscending (records_seen bytes_of items) → ((k : ℕ) (d : Held A) → k < i → k < length items → is_rpt_of port group (record_seen bytes_of (get_or items k d)).key ≡ false) → AreBehind bytes_of port group items i → EndsTo items items i
  ends_none items i a before behind = record {
    kept = refl;
    ended = λ k d lt w. not_one (get_or items k d) (before k d lt w);
    ascending = a;
    behind = behind;
  }

  -- a record that ends goes
  pub ends_gone : (old now new : List (Held A)) (i j : ℕ) (held : Held A) → i < length now → held ≡ get_or now i held → over held ≡ true → new ≡ remove now i → j ≡ i → EndsTo old now i → EndsTo old new j
  ends_gone old now new i j held w here is items at to = subst (EndsTo old new) (sym at) (subst (λ (xs : List (Held A)). EndsTo old xs i) (sym items) (record {
    kept = filter_remove keep now i held w here (ap not is) ∙ to.kept;
    ended = λ k d lt u. ap over (removed_before now i k d w lt) ∙ to.ended k d lt (omega arith);
    ascending = ascending_remove bytes_of now i w to.ascending;
    behind = λ k d le u. let s = shorter now i w in ap (λ (h : Held A). is_before_rpts port group (record_seen bytes_of h).key) (removed_behind now i k d w le) ∙ to.behind (suc k) d (omega arith) (omega (arith, u, s));
  }))

  -- another one stays
  pub ends_past : (old now : List (Held A)) (i j : ℕ) (held : Held A) → held ≡ get_or now i held → over held ≡ false → j ≡ i + 1 → EndsTo old now i → EndsTo old now j
  ends_past old now i j held here stays next to = record {
    kept = to.kept;
    ended = none_more over now i j held next here stays to.ended;
    ascending = to.ascending;
    behind = λ k d le u. to.behind k d (omega (arith, le, next)) u;
  }

  pub ends_all : (old now : List (Held A)) (i : ℕ) → AreOthers bytes_of port group now i → EndsTo old now i → records_seen bytes_of now ≡ filter (λ held. not (is_over_in port group held)) (records_seen bytes_of old)
  ends_all old now i others to =
      let all : filter keep now ≡ now = filter_whole keep now (λ k d w. ap not (by k d w (ltb k i) refl)) in
      ap (records_seen bytes_of) (sym all ∙ to.kept) ∙ seen_filter bytes_of (λ held. not (is_over_in port group held)) old
    where
      by : (k : ℕ) (d : Held A) → k < length now → (t : Bool) → ltb k i ≡ t → over (get_or now k d) ≡ false
      by k d w true e = to.ended k d (ltb-true k i e) w
      by k d w false e = not_one (get_or now k d) (others k d (ltb-false k i e) w)

-- ---- the groups of a message's Joins(*,G)

joined_append : (xs ys : List Event) (group : List ℕ) → is_joined_in (xs ++ ys) group ≡ (is_joined_in xs group || is_joined_in ys group)
unfolding is_joined_in
joined_append [] ys group = refl
joined_append (x ∷ xs) ys group = ap (λ b. (is_star_join x && pointwise eqb group x.group) || b) (joined_append xs ys group) ∙ by (is_star_join x && pointwise eqb group x.group)
  where
    by : (a : Bool) → (a || (is_joined_in xs group || is_joined_in ys group)) ≡ ((a || is_joined_in xs group) || is_joined_in ys group)
    by true = refl
    by false = refl

-- all others are of other groups
abbrev pub OthersIn : List Event → List Event → List ℕ → Type 0
OthersIn all rest group = (other : List ℕ) → is_joined_in all other ≡ true → (pointwise eqb other group || is_joined_in rest other) ≡ true

pub others_star : (event : Event) (all rest : List Event) → all ≡ event ∷ rest → is_star_join event ≡ true → OthersIn all rest event.group
unfolding is_joined_in
others_star event all rest split star other e = sym (ap (λ (es : List Event). is_joined_in es other) split ∙ ap (λ b. (b && pointwise eqb other event.group) || is_joined_in rest other) star) ∙ e

-- what has no Join(*,G) is passed over
abbrev pub StillIn : List Event → List Event → Type 0
StillIn all rest = (other : List ℕ) → is_joined_in all other ≡ true → is_joined_in rest other ≡ true

pub still_other : (event : Event) (all rest : List Event) → all ≡ event ∷ rest → is_star_join event ≡ false → StillIn all rest
unfolding is_joined_in
still_other event all rest split star other e = sym (ap (λ (es : List Event). is_joined_in es other) split ∙ ap (λ b. (b && pointwise eqb other event.group) || is_joined_in rest other) star) ∙ e

-- the events of an entry are of its group
module _ (known : List ℕ → Option (List ℕ)) (group : List ℕ) where
  abbrev events : Bool → List (Entry (List ℕ)) → List Event
  events joins entries = list_events known joins group entries

  -- a Join(*,G) of a list is of the group of the list, and is among its events
  list_joins : (joins : Bool) (other : List ℕ) (entries : List (Entry (List ℕ))) → is_joined_in (events joins entries) other ≡ true → (list_any is_star_join (events joins entries) && pointwise eqb other group) ≡ true
  unfolding is_joined_in
  list_joins joins other [] e = absurd (false≢true e)
  list_joins joins other (entry.Star rp ∷ entries) e = by (joins && not (is_known (known group) rp)) joins (list_joins joins other entries) e
    where
      by : (b star : Bool) → (is_joined_in (events joins entries) other ≡ true → (list_any is_star_join (events joins entries) && pointwise eqb other group) ≡ true)
          → is_joined_in (cond b [] (record { joins = star; group = group; what = Star } ∷ []) ++ events joins entries) other ≡ true
          → (list_any is_star_join (cond b [] (record { joins = star; group = group; what = Star } ∷ []) ++ events joins entries) && pointwise eqb other group) ≡ true
      by true star more e = more e
      by false true more e = either (pointwise eqb other group) (is_joined_in (events joins entries) other) (list_any is_star_join (events joins entries)) more e
        where
          either : (same rest any : Bool) → (rest ≡ true → (any && same) ≡ true) → (same || rest) ≡ true → same ≡ true
          either true rest any m f = refl
          either false true true m f = m refl
          either false true false m f = m refl
          either false false any m f = f
      by false false more e = more e
  list_joins joins other (entry.Source source ∷ entries) e = by joins (list_joins joins other entries) e
    where
      by : (star : Bool) → (is_joined_in (events joins entries) other ≡ true → (list_any is_star_join (events joins entries) && pointwise eqb other group) ≡ true)
          → (((star && false) && pointwise eqb other group) || is_joined_in (events joins entries) other) ≡ true
          → (((star && false) || list_any is_star_join (events joins entries)) && pointwise eqb other group) ≡ true
      by true more e = more e
      by false more e = more e
  list_joins joins other (entry.Rpt source ∷ entries) e = by joins (list_joins joins other entries) e
    where
      by : (star : Bool) → (is_joined_in (events joins entries) other ≡ true → (list_any is_star_join (events joins entries) && pointwise eqb other group) ≡ true)
          → (((star && false) && pointwise eqb other group) || is_joined_in (events joins entries) other) ≡ true
          → (((star && false) || list_any is_star_join (events joins entries)) && pointwise eqb other group) ≡ true
      by true more e = more e
      by false more e = more e

  no_pruned_star : (entries : List (Entry (List ℕ))) → list_any is_star_join (events false entries) ≡ false
  no_pruned_star [] = refl
  no_pruned_star (entry.Star rp ∷ entries) = no_pruned_star entries
  no_pruned_star (entry.Source source ∷ entries) = no_pruned_star entries
  no_pruned_star (entry.Rpt source ∷ entries) = no_pruned_star entries

module _ (known : List ℕ → Option (List ℕ)) (set : GroupSet) where
  abbrev joined : List Event
  joined = list_events known true set.group set.joined

  abbrev pruned : List Event
  pruned = list_events known false set.group set.pruned

  set_joins : (other : List ℕ) → is_joined_in (set_events known set) other ≡ true → (list_any is_star_join joined && pointwise eqb other set.group) ≡ true
  set_joins other e = by (is_joined_in joined other) refl (sym (joined_append joined pruned other) ∙ e)
    where
      none : is_joined_in pruned other ≡ true → ⊥
      none f = false≢true (ap (λ b. b && pointwise eqb other set.group) (sym (no_pruned_star known set.group set.pruned)) ∙ list_joins known set.group false other set.pruned f)

      by : (b : Bool) → is_joined_in joined other ≡ b → (b || is_joined_in pruned other) ≡ true → (list_any is_star_join joined && pointwise eqb other set.group) ≡ true
      by true f g = list_joins known set.group true other set.joined f
      by false f g = absurd (none g)

  split_set : (left rest : List GroupSet) (other : List ℕ) → left ≡ set ∷ rest → is_joined_in (flat_map (set_events known) left) other ≡ true → ((list_any is_star_join joined && pointwise eqb other set.group) || is_joined_in (flat_map (set_events known) rest) other) ≡ true
  split_set left rest other split e = by (is_joined_in (set_events known set) other) refl (sym (ap (λ (sets : List GroupSet). is_joined_in (flat_map (set_events known) sets) other) split ∙ joined_append (set_events known set) (flat_map (set_events known) rest) other) ∙ e)
    where
      by : (b : Bool) → is_joined_in (set_events known set) other ≡ b → (b || is_joined_in (flat_map (set_events known) rest) other) ≡ true → ((list_any is_star_join joined && pointwise eqb other set.group) || is_joined_in (flat_map (set_events known) rest) other) ≡ true
      by true f g = ap (λ c. c || is_joined_in (flat_map (set_events known) rest) other) (set_joins other f)
      by false f g = or_right (list_any is_star_join joined && pointwise eqb other set.group) (is_joined_in (flat_map (set_events known) rest) other) g

  pub others_set : (left rest : List GroupSet) → left ≡ set ∷ rest → list_any is_star_join joined ≡ true → OthersIn (flat_map (set_events known) left) (flat_map (set_events known) rest) set.group
  others_set left rest split star other e = ap (λ b. (b && pointwise eqb other set.group) || is_joined_in (flat_map (set_events known) rest) other) (sym star) ∙ split_set left rest other split e

  pub still_set : (left rest : List GroupSet) → left ≡ set ∷ rest → list_any is_star_join joined ≡ false → StillIn (flat_map (set_events known) left) (flat_map (set_events known) rest)
  still_set left rest split star other e = ap (λ b. (b && pointwise eqb other set.group) || is_joined_in (flat_map (set_events known) rest) other) (sym star) ∙ split_set left rest other split e

-- ---- all groups of a message

module _ (port : ℕ) where
  rest_of : (on same tmp others : Bool) → ((on && same) && tmp) ≡ false → ((on && tmp) ≡ true → (same || others) ≡ true) → (on && tmp) ≡ true → others ≡ true
  rest_of true true true others e f g = absurd (false≢true (sym e))
  rest_of true true false others e f g = absurd (false≢true g)
  rest_of true false true others e f g = f g
  rest_of true false false others e f g = absurd (false≢true g)
  rest_of false same tmp others e f g = absurd (false≢true g)

  within_all : (on same tmp : Bool) → not ((on && same) && tmp) ≡ false → not (on && tmp) ≡ false
  within_all true true true e = e
  within_all true true false e = e
  within_all true false tmp e = absurd (false≢true (sym e))
  within_all false same tmp e = absurd (false≢true (sym e))

  over_more : (group : List ℕ) (all rest : List Event) → OthersIn all rest group → (records : List (Record (List ℕ))) → AreOverIn port all records → AreOverIn port rest (filter (λ held. not (is_over_in port group held)) records)
  unfolding AreOverIn
  over_more group all rest others [] are = tt
  over_more group all rest others (held ∷ records) are = by (over_more group all rest others records are.1) (is_over_in port group held) refl
    where
      by : AreOverIn port rest (filter (λ h. not (is_over_in port group h)) records) → (t : Bool) → is_over_in port group held ≡ t → AreOverIn port rest (cond (not t) (held ∷ filter (λ h. not (is_over_in port group h)) records) (filter (λ h. not (is_over_in port group h)) records))
      by more true e = more
      by more false e = (rest_of (is_rpt_on port held.key) (pointwise eqb held.key.group group) (is_temporary held.machine.state) (is_joined_in rest held.key.group) e (λ o. others held.key.group (are.0 o)), more)

  over_rest : (all rest : List Event) → StillIn all rest → (records : List (Record (List ℕ))) → AreOverIn port all records → AreOverIn port rest records
  unfolding AreOverIn
  over_rest all rest still [] are = tt
  over_rest all rest still (held ∷ records) are = (λ o. still held.key.group (are.0 o), over_rest all rest still records are.1)

  same_end : (group : List ℕ) (records : List (Record (List ℕ))) → each_changed (at_end port) (filter (λ held. not (is_over_in port group held)) records) ≡ each_changed (at_end port) records
  same_end group records =
      end_filter port (filter (λ held. not (is_over_in port group held)) records)
      ∙ filter_twice (λ held. not (is_over port held)) (λ held. not (is_over_in port group held)) (λ held e. within_all (is_rpt_on port held.key) (pointwise eqb held.key.group group) (is_temporary held.machine.state) e) records
      ∙ sym (end_filter port records)

  none_over : (records : List (Record (List ℕ))) → AreOverIn port [] records → filter (λ held. not (is_over port held)) records ≡ records
  unfolding AreOverIn is_joined_in
  none_over [] are = refl
  none_over (held ∷ records) are = by (none_over records are.1) (is_over port held) are.0
    where
      by : filter (λ h. not (is_over port h)) records ≡ records → (t : Bool) → (t ≡ true → false ≡ true) → cond (not t) (held ∷ filter (λ h. not (is_over port h)) records) (filter (λ h. not (is_over port h)) records) ≡ held ∷ records
      by same true never = absurd (false≢true (never refl))
      by same false never = ap (λ (rest : List (Record (List ℕ))). held ∷ rest) same

  -- the groups of these events are left
  pub record EndsBy (old now : List (Record (List ℕ))) (events : List Event) : Type 0 where
    pub ascending : IsAscending now
    pub left : AreOverIn port events now
    pub same : each_changed (at_end port) now ≡ each_changed (at_end port) old

  pub ends_group : (old now new : List (Record (List ℕ))) (all rest : List Event) (group : List ℕ) → OthersIn all rest group → new ≡ filter (λ held. not (is_over_in port group held)) now → EndsBy old now all → EndsBy old new rest
  ends_group old now new all rest group others is to =
      subst (λ (rs : List (Record (List ℕ))). EndsBy old rs rest) (sym is) (record {
        ascending = ascending_filter (λ held. not (is_over_in port group held)) now to.ascending;
        left = over_more group all rest others now to.left;
        same = same_end group now ∙ to.same;
      })

  -- events without a Join(*,G) are passed over
  pub ends_skip : (old now : List (Record (List ℕ))) (all rest : List Event) → StillIn all rest → EndsBy old now all → EndsBy old now rest
  ends_skip old now all rest still to = record {
    ascending = to.ascending;
    left = over_rest all rest still now to.left;
    same = to.same;
  }

  pub ends_message : (old now : List (Record (List ℕ))) (events : List Event) → events ≡ [] → EndsBy old now events → now ≡ each_changed (at_end port) old
  ends_message old now events none to =
      sym (none_over now (subst (λ (s : List Event). AreOverIn port s now) none to.left)) ∙ sym (end_filter port now) ∙ to.same

  -- a group that ended has none left
  pub ended_group : (now new : List (Record (List ℕ))) (group : List ℕ) → new ≡ filter (λ held. not (is_over_in port group held)) now → new ≡ filter (λ held. not (is_over_in port group held)) new
  ended_group now new group is = sym (ap (filter (λ held. not (is_over_in port group held))) is ∙ filter_twice (λ held. not (is_over_in port group held)) (λ held. not (is_over_in port group held)) (λ held e. e) now ∙ sym is)

  -- ---- what a message leaves before its end

  module _ (all : List Event) where
    -- a machine of this key that ends with the message is of a group of the events
    OverIn : Key (List ℕ) → Option Machine → Type 0
    OverIn key None = Unit {0}
    OverIn key (Some machine) = is_over port (record { key = key; machine = machine }) ≡ true → is_joined_in all key.group ≡ true

    never_over : (on tmp : Bool) → tmp ≡ false → (on && tmp) ≡ true → false ≡ true
    never_over true tmp e f = sym e ∙ f
    never_over false tmp e f = f

    over_settled : (records : List (Record (List ℕ))) → IsSettled records → AreOverIn port all records
    unfolding AreOverIn IsSettled
    over_settled [] s = tt
    over_settled (held ∷ records) s = (λ e. absurd (false≢true (never_over (is_rpt_on port held.key) (is_temporary held.machine.state) s.0 e)), over_settled records s.1)

    over_recorded : (key : Key (List ℕ)) (machine : Option Machine) (records : List (Record (List ℕ))) → OverIn key machine → AreOverIn port all records → AreOverIn port all (recorded key machine ++ records)
    unfolding AreOverIn OverIn
    over_recorded key None records is are = are
    over_recorded key (Some machine) records is are = (is, are)

    over_changed : (key : Key (List ℕ)) (change : Option Machine → Option Machine) → ((held : Option Machine) → OverIn key (change held)) → (records : List (Record (List ℕ))) → AreOverIn port all records → AreOverIn port all (changed key change records)
    unfolding AreOverIn changed OverIn
    over_changed key change is [] are = by (change None) (is None)
      where
        by : (m : Option Machine) → OverIn key m → AreOverIn port all (recorded key m)
        by None i = tt
        by (Some machine) i = (i, tt)
    over_changed key change is (held ∷ records) are =
        elim (key_cmp key held.key) as (λ r. key_cmp key held.key ≡ r → AreOverIn port all (at_rank r (recorded key (change None) ++ held ∷ records) (recorded held.key (change (Some held.machine)) ++ records) (held ∷ changed key change records))) [
          | Less ↦ λ e. over_recorded key (change None) (held ∷ records) (is None) are
          | Equal ↦ λ e. over_recorded held.key (change (Some held.machine)) records (subst (λ (k : Key (List ℕ)). OverIn k (change (Some held.machine))) (equal_keys key held.key e) (is (Some held.machine))) are.1
          | Greater ↦ λ e. (are.0, over_changed key change is records are.1)
        ] refl

    group_is : (group : List ℕ) (key : Key (List ℕ)) → is_rpt_of port group key ≡ true → key.group ≡ group
    group_is group key e = same_text key.group group (sym (second_part (is_rpt_on port key) (pointwise eqb key.group group) e))

    of_group : (key : Key (List ℕ)) (held : Option Machine) → is_joined_in all key.group ≡ true → OverIn key held
    unfolding OverIn
    of_group key None is = tt
    of_group key (Some machine) is = λ e. is

    over_each : (group : List ℕ) → is_joined_in all group ≡ true → (records : List (Record (List ℕ))) → AreOverIn port all records → AreOverIn port all (each_changed (on_rpts port group) records)
    unfolding AreOverIn each_changed
    over_each group is [] are = tt
    over_each group is (held ∷ records) are = by (over_each group is records are.1) (is_rpt_of port group held.key) refl
      where
        by : AreOverIn port all (each_changed (on_rpts port group) records) → (t : Bool) → is_rpt_of port group held.key ≡ t → AreOverIn port all (recorded held.key (cond t (on_star_join (Some held.machine)) (Some held.machine)) ++ each_changed (on_rpts port group) records)
        by rest true e = over_recorded held.key (on_star_join (Some held.machine)) (each_changed (on_rpts port group) records) (of_group held.key (on_star_join (Some held.machine)) (subst (λ (g : List ℕ). is_joined_in all g ≡ true) (sym (group_is group held.key e)) is)) rest
        by rest false e = (are.0, rest)

    -- no event leaves its own machine in a state that ends with the message
    settled_in : (key : Key (List ℕ)) (machine : Machine) → is_temporary machine.state ≡ false → OverIn key (Some machine)
    unfolding OverIn
    settled_in key machine e = λ f. absurd (false≢true (never_over (is_rpt_on port key) (is_temporary machine.state) e f))

    beside : (key : Key (List ℕ)) (held : Option Machine) → is_rpt_on port key ≡ false → OverIn key held
    unfolding OverIn
    beside key None e = tt
    beside key (Some machine) e = λ f. absurd (false≢true (ap (λ b. b && is_temporary machine.state) (sym e) ∙ f))

    none_on : (b : Bool) → (b && false) ≡ false
    none_on true = refl
    none_on false = refl

    pruned_in : (key : Key (List ℕ)) (start : Start) (held : Option Machine) → OverIn key (on_rpt_prune start held)
    unfolding on_rpt_prune OverIn
    pruned_in key start None = settled_in key (record { state = PrunePending; expires_in = start.expires_in; pending = Some start.pending }) refl
    pruned_in key start (Some held) = by held.state refl
      where
        by : (state : State) → held.state ≡ state → OverIn key (rpt_prune_in state start held)
        by Join e = settled_in key held (ap is_temporary e)
        by PrunePending e = settled_in key held (ap is_temporary e)
        by Prune e = settled_in key (record { state = Prune; expires_in = greater held.expires_in start.expires_in; pending = held.pending }) refl
        by PruneTmp e = settled_in key (record { state = Prune; expires_in = greater held.expires_in start.expires_in; pending = held.pending }) refl
        by PrunePendingTmp e = settled_in key (record { state = PrunePending; expires_in = greater held.expires_in start.expires_in; pending = held.pending }) refl

    own_in : (joins : Bool) (group : List ℕ) (what : What (List ℕ)) (start : Start) (held : Option Machine) → OverIn (record { port = port; group = group; what = what }) (on_own joins what start held)
    unfolding OverIn
    own_in true group Star start held = beside (record { port = port; group = group; what = Star }) (on_join start held) (none_on (eqb port port))
    own_in true group (Source source) start held = beside (record { port = port; group = group; what = Source source }) (on_join start held) (none_on (eqb port port))
    own_in true group (Rpt source) start held = tt
    own_in false group Star start held = beside (record { port = port; group = group; what = Star }) (on_prune start held) (none_on (eqb port port))
    own_in false group (Source source) start held = beside (record { port = port; group = group; what = Source source }) (on_prune start held) (none_on (eqb port port))
    own_in false group (Rpt source) start held = pruned_in (record { port = port; group = group; what = Rpt source }) start held

    -- a Join(*,G) is of a group of the events
    abbrev IsIn : Event → Type 0
    IsIn event = is_star_join event ≡ true → is_joined_in all event.group ≡ true

    over_act : (start : Start) (event : Event) → IsIn event → (records : List (Record (List ℕ))) → AreOverIn port all records → AreOverIn port all (act port start event records)
    over_act start event is records are = by (is_star_join event) refl
      where
        own : List (Record (List ℕ))
        own = changed (key_of port event) (on_own event.joins event.what start) records

        after : AreOverIn port all own
        after = over_changed (key_of port event) (on_own event.joins event.what start) (own_in event.joins event.group event.what start) records are

        by : (s : Bool) → is_star_join event ≡ s → AreOverIn port all (cond s (each_changed (on_rpts port event.group) own) own)
        by true e = over_each event.group (is e) own after
        by false e = after

    over_act_all : (start : Start) (events : List Event) → AllByRecursion IsIn events → (records : List (Record (List ℕ))) → AreOverIn port all records → AreOverIn port all (act_all port start events records)
    unfolding act_all
    over_act_all start [] are_in records are = are
    over_act_all start (event ∷ events) are_in records are = over_act_all start events are_in.1 (act port start event records) (over_act start event are_in.0 records are)

  grown : (first : Event) (all part : List Event) → AllByRecursion (IsIn all) part → AllByRecursion (IsIn (first ∷ all)) part
  unfolding is_joined_in
  grown first all [] are = tt
  grown first all (event ∷ part) are = (λ star. or_right (is_star_join first && pointwise eqb event.group first.group) (is_joined_in all event.group) (are.0 star), grown first all part are.1)

  all_in : (events : List Event) → AllByRecursion (IsIn events) events
  unfolding is_joined_in
  all_in [] = tt
  all_in (event ∷ events) = (λ star. ap (λ b. (b && pointwise eqb event.group event.group) || is_joined_in events event.group) star ∙ ap (λ b. b || is_joined_in events event.group) (itself event.group), grown event events events (all_in events))

  pub over_heard : (start : Start) (events : List Event) (records : List (Record (List ℕ))) → IsSettled records → AreOverIn port events (act_all port start events records)
  over_heard start events records settled = over_act_all events start events (all_in events) records (over_settled events records settled)
