-- Events in key order, those of one machine in the order in which they came, do what they did before, where no Join(*,G) stands behind
-- events of its group's (S,G,rpt) machines. In order by source, where a Join(*,G) and those events keep their order too, they do so always.
use Rattle.pim_down.proofs.Words.{◌≡◌, ℕ, ◌+◌, Bool, true, false, cond, not, ◌&&◌, ◌||◌, List, [], ◌∷◌, ◌++◌, map, Option, sum_by, nat_eq, ◌==◌, refl, sym, ap, subst, ◌∙◌, is_lt, pointwise, same_text, list_any, IsPermutation, ties, IsStableBy, false≢true, and_parts, and_from, or_parts, or_from, or_left, or_right, false_from_ne_true, list_any-append, Any-from_list_any, sum_by-cons, IsPermutation-map, sum_by-IsPermutation, list_any-IsPermutation, What, Star, Source, Rpt, Key, Machine, Record, key_cmp, same_key, Start, on_star_join, machine_at, Event, key_of, is_star, is_rpt, is_star_join, is_rpt_on, is_rpt_of, effect, effects, act_all, is_new, count_new, source_or_star, source_key_of, comes_before_by_source, is_of_rpts_of, ComeFirstBehind, StarsComeFirst, AreAlike, event_seen, filter}
use Rattle.pim_down.specs.declared.machines.event.Event.{Event as EventOf}
use Rattle.pim_down.proofs.Order.{key_itself, same_keys}
use Rattle.pim_down.proofs.OneList.{one_list}
use Rattle.pim_down.proofs.Act.{IsAscending-act_all, at_all}
use Rattle.pim_down.proofs.Stays.{star_twice}
use Rattle.pim_down.proofs.Ending.{filter_twice}

-- ---- what events do to one machine

-- Where each event that passes the test is a Join(*,G) that may not stand behind these, none does.
none_behind : (test : Event → Bool) (before events : List Event) → ((event : Event) → test event ≡ true → (is_star_join event ≡ true) × (list_any (is_of_rpts_of event.group) before ≡ true)) → ComeFirstBehind before events → list_any test events ≡ false
unfolding ComeFirstBehind
none_behind test before [] known first = refl
none_behind test before (event ∷ events) known first =
    or_from (test event) (list_any test events)
    (false_from_ne_true (test event) (λ e. let here = known event e in false≢true (sym (first.0 here.0) ∙ here.1)))
    (none_behind test (before ++ event ∷ []) events (λ other e. let there = known other e in (there.0, still other.group there.1)) first.1)
  where
    still : (group : List ℕ) → list_any (is_of_rpts_of group) before ≡ true → list_any (is_of_rpts_of group) (before ++ event ∷ []) ≡ true
    still group e = list_any-append (is_of_rpts_of group) before (event ∷ []) ∙ or_left (list_any (is_of_rpts_of group) before) (list_any (is_of_rpts_of group) (event ∷ [])) e

star_or_rpt : (what : What (List ℕ)) → is_star what ≡ true → is_rpt what ≡ true → ⊥
star_or_rpt Star star rpt = false≢true rpt
star_or_rpt (Source s) star rpt = false≢true rpt
star_or_rpt (Rpt s) star rpt = false≢true star

star_alone : (what : What (List ℕ)) → (is_star what || is_rpt what) ≡ true → source_or_star what ≡ Star
star_alone Star e = refl
star_alone (Source s) e = absurd (false≢true e)
star_alone (Rpt s) e = refl

both_tests : (a b : Bool) (x y : Option Machine) → cond a (cond b x y) y ≡ cond (a && b) x y
both_tests true b x y = refl
both_tests false b x y = refl

module _ (port : ℕ) (key : Key (List ℕ)) where
  -- whether the event names the machine
  abbrev is_own : Event → Bool
  is_own event = same_key (key_of port event) key

  -- whether it is a Join(*,G) that acts on the machine
  abbrev is_star_of : Event → Bool
  is_star_of event = is_star_join event && is_rpt_of port event.group key

  -- whether it may do something to the machine
  abbrev touches : Event → Bool
  touches event = is_own event || is_star_of event

  own_rpt : (event : Event) → is_own event ≡ true → is_rpt key.what ≡ true → is_rpt event.what ≡ true
  own_rpt event own rpt = subst (λ (k : Key (List ℕ)). is_rpt k.what ≡ true) (sym (same_keys (key_of port event) key own)) rpt

  names_star : (event : Event) → is_star_of event ≡ true → is_star event.what ≡ true
  names_star event star = (and_parts event.joins (is_star event.what) (and_parts (is_star_join event) (is_rpt_of port event.group key) star).0).1

  rpt_of : (event : Event) → is_star_of event ≡ true → is_rpt key.what ≡ true
  rpt_of event star = (and_parts (key.port == port) (is_rpt key.what) (and_parts (is_rpt_on port key) (pointwise nat_eq key.group event.group) (and_parts (is_star_join event) (is_rpt_of port event.group key) star).1).0).1

  group_of : (event : Event) → is_star_of event ≡ true → pointwise nat_eq key.group event.group ≡ true
  group_of event star = (and_parts (is_rpt_on port key) (pointwise nat_eq key.group event.group) (and_parts (is_star_join event) (is_rpt_of port event.group key) star).1).1

  own_no_star : (event : Event) → is_own event ≡ true → is_star_of event ≡ false
  own_no_star event own =
      false_from_ne_true (is_star_of event) (λ star. star_or_rpt event.what (names_star event star) (own_rpt event own (rpt_of event star)))

  own_of_rpts : (event other : Event) → is_own event ≡ true → is_star_of other ≡ true → is_of_rpts_of other.group event ≡ true
  own_of_rpts event other own star =
      and_from (pointwise nat_eq event.group other.group) (is_star_join event || is_rpt event.what)
      (subst (λ (k : Key (List ℕ)). pointwise nat_eq k.group other.group ≡ true) (sym (same_keys (key_of port event) key own)) (group_of other star))
      (or_right (is_star_join event) (is_rpt event.what) (own_rpt event own (rpt_of other star)))

  no_star_behind : (before : List Event) (event : Event) (events : List Event) → is_own event ≡ true → ComeFirstBehind (before ++ event ∷ []) events → list_any is_star_of events ≡ false
  no_star_behind before event events own first =
      none_behind is_star_of (before ++ event ∷ []) events (λ other star. ((and_parts (is_star_join other) (is_rpt_of port other.group key) star).0, last other star)) first
    where
      last : (other : Event) → is_star_of other ≡ true → list_any (is_of_rpts_of other.group) (before ++ event ∷ []) ≡ true
      last other star =
          list_any-append (is_of_rpts_of other.group) before (event ∷ [])
          ∙ or_right (list_any (is_of_rpts_of other.group) before) (list_any (is_of_rpts_of other.group) (event ∷ [])) (or_left (is_of_rpts_of other.group event) false (own_of_rpts event other own star))

  -- Those that name the machine have one key, and those that touch it have one key by source.
  own_key : (event : Event) → is_own event ≡ true → key_of 0 event ≡ record { port = 0; group = key.group; what = key.what }
  own_key event own = ap (λ (k : Key (List ℕ)). record { port = 0; group = k.group; what = k.what }) (same_keys (key_of port event) key own)

  touching_key : (event : Event) → touches event ≡ true → source_key_of event ≡ record { port = 0; group = key.group; what = source_or_star key.what }
  touching_key event = by (is_own event) refl
    where
      by : (b : Bool) → is_own event ≡ b → (b || is_star_of event) ≡ true → source_key_of event ≡ record { port = 0; group = key.group; what = source_or_star key.what }
      by true own e = ap (λ (k : Key (List ℕ)). record { port = 0; group = k.group; what = source_or_star k.what }) (same_keys (key_of port event) key own)
      by false other star =
          let groups = same_text key.group event.group (sym (group_of event star)) in
          let this = star_alone event.what (or_left (is_star event.what) (is_rpt event.what) (names_star event star)) in
          let that = star_alone key.what (or_right (is_star key.what) (is_rpt key.what) (rpt_of event star)) in
          λ i. record { port = 0; group = sym groups i; what = (this ∙ sym that) i }

  module _ (start : Start) where
    effect_of_other : (event : Event) (held : Option Machine) → is_own event ≡ false → effect port start event key held ≡ cond (is_star_of event) (on_star_join held) held
    effect_of_other event held other = rw other (both_tests (is_star_join event) (is_rpt_of port event.group key) (on_star_join held) held)

    -- An event that doesn't touch the machine does nothing to it.
    touching : (events : List Event) (held : Option Machine) → effects port start events key held ≡ effects port start (filter touches events) key held
    unfolding effects
    touching [] held = refl
    touching (event ∷ events) held = by (touching events) (touches event) refl
      where
        by : ((h : Option Machine) → effects port start events key h ≡ effects port start (filter touches events) key h) → (b : Bool) → touches event ≡ b →
            effects port start events key (effect port start event key held) ≡ effects port start (cond b (event ∷ filter touches events) (filter touches events)) key held
        by behind true e = behind (effect port start event key held)
        by behind false e =
            let parts = or_parts (is_own event) (is_star_of event) e in
            ap (effects port start events key) (effect_of_other event held parts.0 ∙ ap (λ b. cond b (on_star_join held) held) parts.1)
            ∙ behind held

    -- A Join(*,G) acts first, once, and then those that name the machine.
    parted : (before events : List Event) (held : Option Machine) → ComeFirstBehind before events → effects port start events key held ≡ effects port start (filter is_own events) key (cond (list_any is_star_of events) (on_star_join held) held)
    unfolding effects ComeFirstBehind
    parted before [] held first = refl
    parted before (event ∷ events) held first =
        let rest = filter is_own events in
        let later = list_any is_star_of events in
        let behind = λ (h : Option Machine). parted (before ++ event ∷ []) events h first.1 in
        elim (is_own event) as (λ b. is_own event ≡ b → effects port start events key (effect port start event key held) ≡ effects port start (filter is_own (event ∷ events)) key (cond (is_star_of event || later) (on_star_join held) held)) [
          | true ↦ λ own.
              let now : is_star_of event ≡ false = own_no_star event own in
              let none : later ≡ false = no_star_behind before event events own first.1 in
              behind (effect port start event key held)
              ∙ ap (λ b. effects port start rest key (cond b (on_star_join (effect port start event key held)) (effect port start event key held))) none
              ∙ sym (λ i. effects port start (cond (own i) (event ∷ rest) rest) key (cond (now i || none i) (on_star_join held) held))
          | false ↦ λ other.
              ap (effects port start events key) (effect_of_other event held other)
              ∙ by (is_star_of event) later behind
              ∙ sym (λ i. effects port start (cond (other i) (event ∷ rest) rest) key (cond (is_star_of event || later) (on_star_join held) held))
        ] refl
      where
        twice : (b : Bool) → cond b (on_star_join (on_star_join held)) (on_star_join held) ≡ on_star_join held
        twice true = star_twice held
        twice false = refl

        by : (b c : Bool) → ((h : Option Machine) → effects port start events key h ≡ effects port start (filter is_own events) key (cond c (on_star_join h) h)) → effects port start events key (cond b (on_star_join held) held) ≡ effects port start (filter is_own events) key (cond (b || c) (on_star_join held) held)
        by true c behind = behind (on_star_join held) ∙ ap (effects port start (filter is_own events) key) (twice c)
        by false c behind = behind held

-- ---- the events of one key in two orders

filter_map : {A : Type 0} (seen : A → Event) (test : Event → Bool) (xs : List A) → filter test (map seen xs) ≡ map seen (filter (λ x. test (seen x)) xs)
filter_map seen test [] = refl
filter_map seen test (x ∷ xs) = by (test (seen x)) (filter_map seen test xs)
  where
    by : (b : Bool) → filter test (map seen xs) ≡ map seen (filter (λ y. test (seen y)) xs) → cond b (seen x ∷ filter test (map seen xs)) (filter test (map seen xs)) ≡ map seen (cond b (x ∷ filter (λ y. test (seen y)) xs) (filter (λ y. test (seen y)) xs))
    by true same = ap (λ l. seen x ∷ l) same
    by false same = same

filter_none : {A : Type 0} (test : A → Bool) (xs : List A) → list_any test xs ≡ false → filter test xs ≡ []
filter_none test [] none = refl
filter_none test (x ∷ xs) none =
    let parts = or_parts (test x) (list_any test xs) none in
    ap (λ b. cond b (x ∷ filter test xs) (filter test xs)) parts.0 ∙ filter_none test xs parts.1

equal_tie : (a b : Key (List ℕ)) → a ≡ b → not (is_lt (key_cmp a b)) ≡ true
equal_tie a b same = ap (λ r. not (is_lt r)) (ap (key_cmp a) (sym same) ∙ key_itself a)

module _ {A : Type 0} (seen : A → Event) (sorts_by : Event → Key (List ℕ)) where
  abbrev is_less : A → A → Bool
  is_less x y = is_lt (key_cmp (sorts_by (seen x)) (sorts_by (seen y)))

  module _ (xs ys : List A) (moved : IsPermutation xs ys) (stable : IsStableBy is_less xs ys) where
    -- Events of one key stand as they stood.
    same_kept : (test : Event → Bool) (key : Key (List ℕ)) → ((event : Event) → test event ≡ true → sorts_by event ≡ key) → filter test (map seen ys) ≡ filter test (map seen xs)
    same_kept test key of_key =
        let here = λ (x : A). test (seen x) in
        let same : filter here ys ≡ filter here xs = elim (list_any here xs) as (λ b. list_any here xs ≡ b → filter here ys ≡ filter here xs) [
          | true ↦ λ e. let found = Any-from_list_any here xs e in by found.1 found.4
          | false ↦ λ e. filter_none here ys (sym (list_any-IsPermutation here xs ys moved) ∙ e) ∙ sym (filter_none here xs e)
        ] refl in
        filter_map seen test ys ∙ ap (map seen) same ∙ sym (filter_map seen test xs)
      where
        all_tie : (x y : A) → test (seen x) ≡ true → test (seen y) ≡ true → ties is_less x y ≡ true
        all_tie x y first second =
            let one = sorts_by (seen x) in
            let other = sorts_by (seen y) in
            let same : one ≡ other = of_key (seen x) first ∙ sym (of_key (seen y) second) in
            and_from (not (is_less x y)) (not (is_less y x)) (equal_tie one other same) (equal_tie other one (sym same))

        by : (x : A) → test (seen x) ≡ true → filter (λ y. test (seen y)) ys ≡ filter (λ y. test (seen y)) xs
        by x passes =
            let here = λ (y : A). test (seen y) in
            let fails : (y : A) → ties is_less x y ≡ false → here y ≡ false = λ y e. false_from_ne_true (here y) (λ t. false≢true (sym e ∙ all_tie x y passes t)) in
            sym (filter_twice here (ties is_less x) fails ys)
            ∙ ap (filter here) (stable x)
            ∙ filter_twice here (ties is_less x) fails xs

-- ---- all of them

new_sum : (port : ℕ) (records : List (Record (List ℕ))) (events : List Event) → count_new port records events ≡ sum_by (λ event. cond (is_new port records event) 1 0) events
unfolding count_new
new_sum port records [] = refl
new_sum port records (event ∷ events) = ap (λ n. cond (is_new port records event) 1 0 + n) (new_sum port records events) ∙ sym (sum_by-cons (λ e. cond (is_new port records e) 1 0) event events)

-- These events do what those do where they do it to each machine.
alike_by : (those these : List Event) → IsPermutation those these → ((port : ℕ) (start : Start) (key : Key (List ℕ)) (held : Option Machine) → effects port start these key held ≡ effects port start those key held) → AreAlike these those
alike_by those these moved same port records ascending = (
  λ start. one_list (act_all port start these records) (act_all port start those records)
      (IsAscending-act_all port start these records ascending)
      (IsAscending-act_all port start those records ascending)
      (λ key.
      at_all port start these records ascending key
      ∙ same port start key (machine_at key records)
      ∙ sym (at_all port start those records ascending key)),
  new_sum port records these
      ∙ sum_by-IsPermutation (λ event. cond (is_new port records event) 1 0) those these moved
      ∙ sym (new_sum port records those),
)

pub sorted_alike : {A : Type 0} (bytes_of : A → List ℕ) (xs ys : List (EventOf A)) → IsPermutation xs ys → IsStableBy (λ (x y : EventOf A). is_lt (key_cmp (key_of 0 (event_seen bytes_of x)) (key_of 0 (event_seen bytes_of y)))) xs ys →
    StarsComeFirst (map (event_seen bytes_of) xs) → StarsComeFirst (map (event_seen bytes_of) ys) → AreAlike (map (event_seen bytes_of) ys) (map (event_seen bytes_of) xs)
sorted_alike {A} bytes_of xs ys moved stable before after =
    let seen : EventOf A → Event = event_seen bytes_of in
    let those = map seen xs in
    let these = map seen ys in
    let moved_seen = IsPermutation-map seen xs ys moved in
    alike_by those these moved_seen (λ port start key held.
    let own = same_kept seen (key_of 0) xs ys moved stable (is_own port key) (record { port = 0; group = key.group; what = key.what }) (own_key port key) in
    let any = list_any-IsPermutation (is_star_of port key) those these moved_seen in
    parted port key start [] these held after
    ∙ (λ i. effects port start (own i) key (cond (sym any i) (on_star_join held) held))
    ∙ sym (parted port key start [] those held before))

pub sorted_by_source_alike : {A : Type 0} (bytes_of : A → List ℕ) (xs ys : List (EventOf A)) → IsPermutation xs ys → IsStableBy (λ (x y : EventOf A). comes_before_by_source (event_seen bytes_of x) (event_seen bytes_of y)) xs ys → AreAlike (map (event_seen bytes_of) ys) (map (event_seen bytes_of) xs)
sorted_by_source_alike {A} bytes_of xs ys moved stable =
    let seen : EventOf A → Event = event_seen bytes_of in
    let those = map seen xs in
    let these = map seen ys in
    alike_by those these (IsPermutation-map seen xs ys moved) (λ port start key held.
    let same = same_kept seen source_key_of xs ys moved stable (touches port key) (record { port = 0; group = key.group; what = source_or_star key.what }) (touching_key port key) in
    touching port key start these held
    ∙ ap (λ events. effects port start events key held) same
    ∙ sym (touching port key start those held))
