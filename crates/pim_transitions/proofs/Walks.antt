-- A walk over the machines of a group gives its records one after another, and its (S,G,rpt) machines are all among them.
use Rattle.pim_transitions.proofs.Words.{◌≡◌, ℕ, Bool, true, false, cond, ◌&&◌, ◌||◌, ◌==◌, List, [], ◌∷◌, ◌++◌, ◌<◌}
use Rattle.pim_transitions.proofs.Words.{length, filter, find, Some, None, is_some, eqb-true, eq-eqb, append_assoc}
use Rattle.pim_transitions.proofs.Words.{append-nil, refl, sym, ap, subst, ◌∙◌, arith, Ordering, Less, Equal, Greater}
use Rattle.pim_transitions.proofs.Words.{ordering_then, ordering_reverse, is_eq, is_lt, nat_cmp, nat_eq, pointwise}
use Rattle.pim_transitions.proofs.Words.{same_text, nat_cmp_total, nat_list_cmp_total, tied_itself, false≢true, What}
use Rattle.pim_transitions.proofs.Words.{Star, Source, Rpt, Key, Record, rank, source_of, address_cmp, what_cmp}
use Rattle.pim_transitions.proofs.Words.{key_cmp, same_key, IsBelow, IsAscending, machine_at, Event, key_of, is_rpt}
use Rattle.pim_transitions.proofs.Words.{is_rpt_on, is_rpt_of, rpt_mark, rpt_marks, is_marked, is_held_rpt, HaveRptsOf}
use Rattle.std.specs.List.{AllByRecursion, flat_map}
use Rattle.pim_down.specs.After.{is_machine_after, next_in_group, MachinesLeft, left_behind}
use Rattle.pim_transitions.proofs.Effects.{and_true, or_true}
use Rattle.pim_transitions.proofs.Keys.{key_total, same_keys, same_itself, same_address}
use Rattle.pim_transitions.proofs.Listing.{any_append}

-- the records that a walk has left
abbrev pub walk_left : MachinesLeft → List (Record (List ℕ))
walk_left left = filter (is_machine_after left.behind.port left.behind.group left.behind.what) left.records

module _ {X : Type 0} (test : X → Bool) where
  none_found : (xs : List X) → find test xs ≡ None → filter test xs ≡ []
  none_found [] e = refl
  none_found (x ∷ xs) e = by (none_found xs) (test x) e
    where
      by : (find test xs ≡ None → filter test xs ≡ []) → (b : Bool) → cond b (Some x) (find test xs) ≡ None → cond b (x ∷ filter test xs) (filter test xs) ≡ []
      by rest true e = absurd (false≢true (sym (ap is_some e)))
      by rest false e = rest e

pub walk_over : (left : MachinesLeft) → next_in_group left.behind.port left.behind.group left.behind.what left.records ≡ None → walk_left left ≡ []
walk_over left e = none_found (is_machine_after left.behind.port left.behind.group left.behind.what) left.records e

-- ---- after a machine of a group is: behind its key, and of its group

itself_eq : (n : ℕ) → (n == n) ≡ true
itself_eq n = eq-eqb n n refl

same_itself_address : (a : List ℕ) → is_eq (address_cmp a a) ≡ true
same_itself_address a = ap is_eq (tied_itself nat_list_cmp_total a)

eq_is : (r : Ordering) → is_eq r ≡ true → r ≡ Equal
eq_is Less e = absurd (false≢true e)
eq_is Equal e = refl
eq_is Greater e = absurd (false≢true e)

lt_is : (r : Ordering) → is_lt r ≡ true → r ≡ Less
lt_is Less e = refl
lt_is Equal e = absurd (false≢true e)
lt_is Greater e = absurd (false≢true e)

-- a record after a key of its group
pub record IsAfter (key : Key (List ℕ)) (held : Record (List ℕ)) : Type 0 where
  pub port : held.key.port ≡ key.port
  pub group : held.key.group ≡ key.group
  pub less : key_cmp key held.key ≡ Less

in_group : (key other : Key (List ℕ)) → other.port ≡ key.port → other.group ≡ key.group → key_cmp key other ≡ what_cmp key.what other.what
unfolding key_cmp
in_group key other port group =
    ap (λ p. ordering_then (ordering_then (nat_cmp key.port p) (address_cmp key.group other.group)) (what_cmp key.what other.what)) port
    ∙ ap (λ g. ordering_then (ordering_then (nat_cmp key.port key.port) (address_cmp key.group g)) (what_cmp key.what other.what)) group
    ∙ ap (λ r. ordering_then (ordering_then r (address_cmp key.group key.group)) (what_cmp key.what other.what)) (tied_itself nat_cmp_total key.port)
    ∙ ap (λ r. ordering_then r (what_cmp key.what other.what)) (tied_itself nat_list_cmp_total key.group)

after_is : (key : Key (List ℕ)) (held : Record (List ℕ)) → is_machine_after key.port key.group key.what held ≡ true → IsAfter key held
after_is key held e =
    let first = and_true (held.key.port == key.port) (is_eq (address_cmp held.key.group key.group) && is_lt (what_cmp key.what held.key.what)) e in
    let second = and_true (is_eq (address_cmp held.key.group key.group)) (is_lt (what_cmp key.what held.key.what)) first.1 in
    let port = eqb-true held.key.port key.port first.0 in
    let group = same_address held.key.group key.group (eq_is (address_cmp held.key.group key.group) second.0) in
    record { port = port; group = group; less = in_group key held.key port group ∙ lt_is (what_cmp key.what held.key.what) second.1 }

is_after : (key : Key (List ℕ)) (held : Record (List ℕ)) → IsAfter key held → is_machine_after key.port key.group key.what held ≡ true
is_after key held after =
    let port : (held.key.port == key.port) ≡ true = ap (λ p. p == key.port) after.port ∙ itself_eq key.port in
    let group : is_eq (address_cmp held.key.group key.group) ≡ true = ap (λ g. is_eq (address_cmp g key.group)) after.group ∙ same_itself_address key.group in
    let less : is_lt (what_cmp key.what held.key.what) ≡ true = ap is_lt (sym (in_group key held.key after.port after.group) ∙ after.less) in
    rw (port, group, less) refl

-- ---- the next record of a walk

not_lt_back : (a b : Key (List ℕ)) → key_cmp a b ≡ Less → key_cmp b a ≡ Less → ⊥
not_lt_back a b less back = false≢true (ap is_lt (sym (key_total.antisymm b a ∙ ap ordering_reverse less) ∙ back))

not_lt_itself : (a : Key (List ℕ)) → key_cmp a a ≡ Less → ⊥
not_lt_itself a less = not_lt_back a a less less

module _ (key : Key (List ℕ)) where
  abbrev after : Record (List ℕ) → Bool
  after = is_machine_after key.port key.group key.what

  abbrev after_record : Record (List ℕ) → Record (List ℕ) → Bool
  after_record held = is_machine_after held.key.port held.key.group held.key.what

  -- of the records above the first, the same ones are after it and after the key
  same_after : (held other : Record (List ℕ)) → IsAfter key held → key_cmp held.key other.key ≡ Less → after other ≡ after_record held other
  same_after held other is above = by (after other) refl (after_record held other) refl
    where
      on : IsAfter key other → IsAfter held.key other
      on it = record { port = it.port ∙ sym is.port; group = it.group ∙ sym is.group; less = above }

      back : IsAfter held.key other → IsAfter key other
      back it = record { port = it.port ∙ is.port; group = it.group ∙ is.group; less = key_total.trans key held.key other.key is.less above }

      by : (a : Bool) → after other ≡ a → (b : Bool) → after_record held other ≡ b → a ≡ b
      by true e true f = refl
      by true e false f = absurd (false≢true (sym f ∙ is_after held.key other (on (after_is key other e))))
      by false e true f = absurd (false≢true (sym e ∙ is_after key other (back (after_is held.key other f))))
      by false e false f = refl

  same_rest : (held : Record (List ℕ)) (records : List (Record (List ℕ))) → IsAfter key held → IsBelow held.key records → filter after records ≡ filter (after_record held) records
  unfolding IsBelow
  same_rest held [] is below = refl
  same_rest held (other ∷ records) is below =
      ap (λ b. cond b (other ∷ filter after records) (filter after records)) (same_after held other is below.0)
      ∙ ap (λ (rs : List (Record (List ℕ))). cond (after_record held other) (other ∷ rs) rs) (same_rest held records is below.1)

  found_above : (first found : Record (List ℕ)) (records : List (Record (List ℕ))) → IsBelow first.key records → find after records ≡ Some found → key_cmp first.key found.key ≡ Less
  unfolding IsBelow
  found_above first found [] below e = absurd (false≢true (ap is_some e))
  found_above first found (other ∷ records) below e = by (found_above first found records below.1) (after other) e
    where
      by : (find after records ≡ Some found → key_cmp first.key found.key ≡ Less) → (b : Bool) → cond b (Some other) (find after records) ≡ Some found → key_cmp first.key found.key ≡ Less
      by rest true e = let same : other ≡ found = cc in subst (λ (r : Record (List ℕ)). key_cmp first.key r.key ≡ Less) same below.0
      by rest false e = rest e

  not_after : (held found : Record (List ℕ)) → key_cmp held.key found.key ≡ Less → after_record found held ≡ false
  not_after held found less = by (after_record found held) refl
    where
      by : (b : Bool) → after_record found held ≡ b → b ≡ false
      by true e = absurd (not_lt_back held.key found.key less (after_is found.key held e).less)
      by false e = refl

  not_after_itself : (held : Record (List ℕ)) → after_record held held ≡ false
  not_after_itself held = by (after_record held held) refl
    where
      by : (b : Bool) → after_record held held ≡ b → b ≡ false
      by true e = absurd (not_lt_itself held.key (after_is held.key held e).less)
      by false e = refl

  found_first : (found : Record (List ℕ)) (records : List (Record (List ℕ))) → IsAscending records → find after records ≡ Some found → filter after records ≡ found ∷ filter (after_record found) records
  unfolding IsAscending
  found_first found [] up e = absurd (false≢true (ap is_some e))
  found_first found (held ∷ records) up e = by (found_first found records up.1) (after held) refl e
    where
      by : (find after records ≡ Some found → filter after records ≡ found ∷ filter (after_record found) records) → (b : Bool) → after held ≡ b → cond b (Some held) (find after records) ≡ Some found
          → cond b (held ∷ filter after records) (filter after records) ≡ found ∷ cond (after_record found held) (held ∷ filter (after_record found) records) (filter (after_record found) records)
      by rest true t e =
          let same : held ≡ found = cc in
          ap (λ (rs : List (Record (List ℕ))). held ∷ rs) (same_rest held records (after_is key held t) up.0)
          ∙ ap (λ b. held ∷ cond b (held ∷ filter (after_record held) records) (filter (after_record held) records)) (sym (not_after_itself held))
          ∙ ap (λ (r : Record (List ℕ)). r ∷ cond (after_record r held) (held ∷ filter (after_record r) records) (filter (after_record r) records)) same
      by rest false t e =
          rest e
          ∙ ap (λ b. found ∷ cond b (held ∷ filter (after_record found) records) (filter (after_record found) records)) (sym (not_after held found (found_above held found records up.0 e)))

pub walk_more : (left : MachinesLeft) (found : Record (List ℕ)) → IsAscending left.records → next_in_group left.behind.port left.behind.group left.behind.what left.records ≡ Some found
    → walk_left left ≡ found ∷ walk_left (left_behind left (Some found))
walk_more left found up e = found_first left.behind found left.records up e

-- ---- the marks of (S,G,rpt) machines

pub itself_group : (a : List ℕ) → pointwise nat_eq a a ≡ true
itself_group [] = refl
itself_group (x ∷ a) = rw (eq-eqb x x refl) (itself_group a)

pub same_group : (a b : List ℕ) → pointwise nat_eq a b ≡ true → a ≡ b
same_group a b e = same_text a b (sym e)

-- an (S,G,rpt) machine of the group is after each (S,G) one
rpt_after : (port : ℕ) (group source : List ℕ) (held : Record (List ℕ)) → is_rpt_of port group held.key ≡ true → is_machine_after port group (Source source) held ≡ true
unfolding what_cmp
rpt_after port group source held e =
    let first = and_true (is_rpt_on port held.key) (pointwise nat_eq held.key.group group) e in
    let second = and_true (held.key.port == port) (is_rpt held.key.what) first.0 in
    let same : held.key.group ≡ group = same_group held.key.group group first.1 in
    let groups : is_eq (address_cmp held.key.group group) ≡ true = ap (λ g. is_eq (address_cmp g group)) same ∙ same_itself_address group in
    rw (second.0, groups) (by held.key.what second.1)
  where
    by : (what : What (List ℕ)) → is_rpt what ≡ true → is_lt (ordering_then (nat_cmp (rank (Source source)) (rank what)) (address_cmp (source_of (Source source)) (source_of what))) ≡ true
    by Star e = absurd (false≢true e)
    by (Source other) e = absurd (false≢true e)
    by (Rpt other) e = refl

pub marked_append : (port : ℕ) (key : Key (List ℕ)) (xs ys : List Event) → is_marked port key (xs ++ ys) ≡ (is_marked port key xs || is_marked port key ys)
marked_append port key xs ys = any_append (λ (mark : Event). same_key (key_of port mark) key) xs ys

module _ (port : ℕ) (group source : List ℕ) where
  abbrev in_walk : Record (List ℕ) → Bool
  in_walk = is_machine_after port group (Source source)

  mark_there : (held : Record (List ℕ)) → is_rpt_of port group held.key ≡ true → is_marked port held.key (rpt_mark held) ≡ true
  mark_there held e =
      let first = and_true (is_rpt_on port held.key) (pointwise nat_eq held.key.group group) e in
      let second = and_true (held.key.port == port) (is_rpt held.key.what) first.0 in
      let on : port ≡ held.key.port = sym (eqb-true held.key.port port second.0) in
      let key : record { port = port; group = held.key.group; what = held.key.what } ≡ held.key = λ i. record { port = on i; group = held.key.group; what = held.key.what } in
      let same : same_key (record { port = port; group = held.key.group; what = held.key.what }) held.key ≡ true = ap (λ k. same_key k held.key) key ∙ same_itself held.key in
      rw (second.1, same) refl

  pub rpts_marked : (records : List (Record (List ℕ))) (key : Key (List ℕ)) → is_rpt_of port group key ≡ true → is_some (machine_at key records) ≡ true → is_marked port key (rpt_marks port group (Source source) records) ≡ true
  unfolding machine_at
  rpts_marked [] key rpt held = absurd (false≢true held)
  rpts_marked (first ∷ records) key rpt held = by (rpts_marked records key rpt) (same_key key first.key) refl (in_walk first) refl held
    where
      rest_of : List Event
      rest_of = flat_map rpt_mark (filter in_walk records)

      by : (is_some (machine_at key records) ≡ true → is_marked port key rest_of ≡ true) → (s : Bool) → same_key key first.key ≡ s → (w : Bool) → in_walk first ≡ w
          → is_some (cond s (Some first.machine) (machine_at key records)) ≡ true → is_marked port key (flat_map rpt_mark (cond w (first ∷ filter in_walk records) (filter in_walk records))) ≡ true
      by rest true s true w h =
          let key_is : key ≡ first.key = same_keys key first.key s in
          marked_append port key (rpt_mark first) rest_of
          ∙ ap (λ b. b || is_marked port key rest_of) (subst (λ k. is_marked port k (rpt_mark first) ≡ true) (sym key_is) (mark_there first (subst (λ k. is_rpt_of port group k ≡ true) key_is rpt)))
      by rest true s false w h = absurd (false≢true (sym w ∙ rpt_after port group source first (subst (λ k. is_rpt_of port group k ≡ true) (same_keys key first.key s) rpt)))
      by rest false s true w h = marked_append port key (rpt_mark first) rest_of ∙ ap (λ b. is_marked port key (rpt_mark first) || b) (rest h) ∙ or_true (is_marked port key (rpt_mark first))
      by rest false s false w h = rest h

pub have_rpts : (port : ℕ) (group source : List ℕ) (records : List (Record (List ℕ))) (old new : List Event) → new ≡ old ++ rpt_marks port group (Source source) records → HaveRptsOf port records new group
have_rpts port group source records old new is key e =
    let parts = and_true (is_rpt_of port group key) (is_some (machine_at key records)) e in
    ap (is_marked port key) is ∙ marked_append port key old (rpt_marks port group (Source source) records)
    ∙ ap (λ b. is_marked port key old || b) (rpts_marked port group source records key parts.0 parts.1) ∙ or_true (is_marked port key old)

-- ---- a step of the walk

pub rpts_more : (left next : MachinesLeft) (found : Record (List ℕ)) (old new all : List Event) → IsAscending left.records
    → next_in_group left.behind.port left.behind.group left.behind.what left.records ≡ Some found
    → next ≡ left_behind left (next_in_group left.behind.port left.behind.group left.behind.what left.records)
    → new ≡ old ++ rpt_mark found → old ++ flat_map rpt_mark (walk_left left) ≡ all → new ++ flat_map rpt_mark (walk_left next) ≡ all
rpts_more left next found old new all up first is pushed reported =
    let here : next ≡ left_behind left (Some found) = is ∙ ap (left_behind left) first in
    ap (λ (ms : List Event). ms ++ flat_map rpt_mark (walk_left next)) pushed
    ∙ append_assoc old (rpt_mark found) (flat_map rpt_mark (walk_left next))
    ∙ ap (λ (l : MachinesLeft). old ++ (rpt_mark found ++ flat_map rpt_mark (walk_left l))) here
    ∙ ap (λ (rs : List (Record (List ℕ))). old ++ flat_map rpt_mark rs) (sym (walk_more left found up first))
    ∙ reported

pub walk_smaller : (left next : MachinesLeft) (found : Record (List ℕ)) → IsAscending left.records
    → next_in_group left.behind.port left.behind.group left.behind.what left.records ≡ Some found
    → next ≡ left_behind left (next_in_group left.behind.port left.behind.group left.behind.what left.records)
    → length (walk_left next) < length (walk_left left)
walk_smaller left next found up first is =
    let here : next ≡ left_behind left (Some found) = is ∙ ap (left_behind left) first in
    omega (arith, ap (λ (l : MachinesLeft). length (walk_left l)) here, ap length (walk_more left found up first))

pub still_up : (left next : MachinesLeft) (found : Record (List ℕ)) → IsAscending left.records
    → next_in_group left.behind.port left.behind.group left.behind.what left.records ≡ Some found
    → next ≡ left_behind left (next_in_group left.behind.port left.behind.group left.behind.what left.records)
    → IsAscending next.records
still_up left next found up first is = subst (λ (l : MachinesLeft). IsAscending l.records) (sym (is ∙ ap (left_behind left) first)) up

pub rpts_over : (left : MachinesLeft) (old all : List Event) → next_in_group left.behind.port left.behind.group left.behind.what left.records ≡ None
    → old ++ flat_map rpt_mark (walk_left left) ≡ all → old ≡ all
rpts_over left old all none reported =
    sym (append-nil old) ∙ ap (λ (rs : List (Record (List ℕ))). old ++ flat_map rpt_mark rs) (sym (walk_over left none)) ∙ reported

-- ---- each mark of the walk is of a machine that a Join(*,G) reaches

module _ (records : List (Record (List ℕ))) where
  held_here : (held : Record (List ℕ)) (others : List (Record (List ℕ))) → is_some (machine_at held.key (held ∷ others)) ≡ true
  unfolding machine_at
  held_here held others = rw (same_itself held.key) refl

  held_later : (key : Key (List ℕ)) (held : Record (List ℕ)) (others : List (Record (List ℕ))) → is_some (machine_at key others) ≡ true → is_some (machine_at key (held ∷ others)) ≡ true
  unfolding machine_at
  held_later key held others e = by (same_key key held.key)
    where
      by : (b : Bool) → is_some (cond b (Some held.machine) (machine_at key others)) ≡ true
      by true = refl
      by false = e

all_later : (first : Record (List ℕ)) (others left : List (Record (List ℕ))) → AllByRecursion (λ held. is_some (machine_at held.key others) ≡ true) left → AllByRecursion (λ held. is_some (machine_at held.key (first ∷ others)) ≡ true) left
all_later first others [] all = tt
all_later first others (held ∷ left) all = (held_later others held.key first others all.0, all_later first others left all.1)

all_held : (records : List (Record (List ℕ))) → AllByRecursion (λ held. is_some (machine_at held.key records) ≡ true) records
all_held [] = tt
all_held (held ∷ records) = (held_here records held records, all_later held records records (all_held records))

module _ (port : ℕ) (group source : List ℕ) (records : List (Record (List ℕ))) (P : Event → Type 0)
    (each : (held : Record (List ℕ)) → is_held_rpt port records group held.key ≡ true → P (record { joins = false; group = held.key.group; what = held.key.what })) where
  rpt_held : (held : Record (List ℕ)) → is_machine_after port group (Source source) held ≡ true → is_rpt held.key.what ≡ true → is_some (machine_at held.key records) ≡ true → is_held_rpt port records group held.key ≡ true
  rpt_held held after rpt some =
      let first = and_true (held.key.port == port) (is_eq (address_cmp held.key.group group) && is_lt (what_cmp (Source source) held.key.what)) after in
      let second = and_true (is_eq (address_cmp held.key.group group)) (is_lt (what_cmp (Source source) held.key.what)) first.1 in
      let same : held.key.group ≡ group = same_address held.key.group group (eq_is (address_cmp held.key.group group) second.0) in
      let groups : pointwise nat_eq held.key.group group ≡ true = ap (λ g. pointwise nat_eq g group) same ∙ itself_group group in
      rw (first.0, rpt, groups, some) refl

  mark_each : (held : Record (List ℕ)) → is_machine_after port group (Source source) held ≡ true → is_some (machine_at held.key records) ≡ true → AllByRecursion P (rpt_mark held)
  mark_each held after some = by (is_rpt held.key.what) refl
    where
      by : (b : Bool) → is_rpt held.key.what ≡ b → AllByRecursion P (cond b (record { joins = false; group = held.key.group; what = held.key.what } ∷ []) [])
      by true e = (each held (rpt_held held after e some), tt)
      by false e = tt

  all_append : (xs ys : List Event) → AllByRecursion P xs → AllByRecursion P ys → AllByRecursion P (xs ++ ys)
  all_append [] ys a b = b
  all_append (x ∷ xs) ys a b = (a.0, all_append xs ys a.1 b)

  marks_each : (left : List (Record (List ℕ))) → AllByRecursion (λ held. is_some (machine_at held.key records) ≡ true) left → AllByRecursion P (flat_map rpt_mark (filter (is_machine_after port group (Source source)) left))
  marks_each [] all = tt
  marks_each (held ∷ left) all = by (marks_each left all.1) (is_machine_after port group (Source source) held) refl
    where
      by : AllByRecursion P (flat_map rpt_mark (filter (is_machine_after port group (Source source)) left)) → (b : Bool) → is_machine_after port group (Source source) held ≡ b
          → AllByRecursion P (flat_map rpt_mark (cond b (held ∷ filter (is_machine_after port group (Source source)) left) (filter (is_machine_after port group (Source source)) left)))
      by rest true e = all_append (rpt_mark held) (flat_map rpt_mark (filter (is_machine_after port group (Source source)) left)) (mark_each held e all.0) rest
      by rest false e = rest

  pub rpt_marks_each : (old : List Event) → AllByRecursion P old → AllByRecursion P (old ++ rpt_marks port group (Source source) records)
  rpt_marks_each old all = all_append old (rpt_marks port group (Source source) records) all (marks_each records (all_held records))
