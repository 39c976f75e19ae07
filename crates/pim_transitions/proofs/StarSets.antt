-- The machines that a message reaches by a Join(*,G), set by set.
use Rattle.pim_transitions.proofs.Words.{◌≡◌, ℕ, Bool, true, false, cond, not, ◌&&◌, ◌||◌, ◌==◌, eqb-true, append_assoc, flat_map}
use Rattle.pim_transitions.proofs.Words.{List, [], ◌∷◌, ◌++◌, Option, refl, sym, ap, subst, ◌∙◌, nat_eq, pointwise}
use Rattle.pim_transitions.proofs.Words.{AllByRecursion, list_any, false≢true, Star, Source, Key, Record, same_key, Event, key_of}
use Rattle.pim_transitions.proofs.Words.{is_known, entry_events, list_events, set_events, is_star_join, is_rpt_on, is_rpt_of}
use Rattle.pim_transitions.proofs.Words.{is_reached, rpt_marks, is_marked, is_held_rpt, HaveRptsOf, is_star_join_of, IsStarMark}
use Rattle.pim_transitions.proofs.Words.{AddRptsOf, AddStarsOf, star_reaches, AreStarMarks}
use Rattle.pim_jp.specs.declared.entry.Entry.{Entry}
use Rattle.pim_jp.specs.declared.entry.Entry.TheVariants as entry
use Rattle.pim_jp.specs.Message.{GroupSet}
use Rattle.pim_transitions.proofs.Effects.{and_true, or_true, by_test}
use Rattle.pim_transitions.proofs.Listing.{any_append}
use Rattle.pim_transitions.proofs.Walks.{itself_group, same_group, have_rpts, marked_append, rpt_marks_each}

-- ---- the marks of a group

-- a Join(*,G) of these events reaches each held (S,G,rpt) machine of its group
star_reached : (port : ℕ) (records : List (Record (List ℕ))) (group : List ℕ) (key : Key (List ℕ)) (events : List Event) → list_any (is_star_join_of group) events ≡ true → is_held_rpt port records group key ≡ true → is_reached port events records key ≡ true
star_reached port records group key [] any held = absurd (false≢true any)
star_reached port records group key (event ∷ events) any held = by (λ a. star_reached port records group key events a held) (is_star_join event && pointwise nat_eq event.group group) refl any
  where
    here : is_star_join event && pointwise nat_eq event.group group ≡ true → (is_star_join event && is_held_rpt port records event.group key) ≡ true
    here e =
        let parts = and_true (is_star_join event) (pointwise nat_eq event.group group) e in
        rw parts.0 (ap (λ g. is_held_rpt port records g key) (same_group event.group group parts.1) ∙ held)

    by : (list_any (is_star_join_of group) events ≡ true → is_reached port events records key ≡ true) → (b : Bool) → is_star_join event && pointwise nat_eq event.group group ≡ b → (b || list_any (is_star_join_of group) events) ≡ true
        → ((same_key (key_of port event) key || (is_star_join event && is_held_rpt port records event.group key)) || is_reached port events records key) ≡ true
    by rest true e a =
        ap (λ b. (same_key (key_of port event) key || b) || is_reached port events records key) (here e)
        ∙ ap (λ b. b || is_reached port events records key) (or_true (same_key (key_of port event) key))
    by rest false e a =
        ap (λ b. (same_key (key_of port event) key || (is_star_join event && is_held_rpt port records event.group key)) || b) (rest a)
        ∙ or_true (same_key (key_of port event) key || (is_star_join event && is_held_rpt port records event.group key))

pub group_added : (port : ℕ) (group source : List ℕ) (records : List (Record (List ℕ))) (old new : List Event) → new ≡ old ++ rpt_marks port group (Source source) records → AddRptsOf port records group old new
group_added port group source records old new is = record {
  added = have_rpts port group source records old new is;
  kept = λ key marked. ap (is_marked port key) is ∙ marked_append port key old (rpt_marks port group (Source source) records) ∙ ap (λ b. b || is_marked port key (rpt_marks port group (Source source) records)) marked;
  each = λ events any all. subst (AllByRecursion (IsStarMark port events records)) (sym is) (rpt_marks_each port group source records (IsStarMark port events records) (makes events any) old all);
}
  where
    on : (key : Key (List ℕ)) → is_held_rpt port records group key ≡ true → port ≡ key.port
    on key e = sym (eqb-true key.port port (and_true (key.port == port) _ (and_true (is_rpt_on port key) _ (and_true (is_rpt_of port group key) _ e).0).0).0)

    makes : (events : List Event) → list_any (is_star_join_of group) events ≡ true → (held : Record (List ℕ)) → is_held_rpt port records group held.key ≡ true → IsStarMark port events records (record { joins = false; group = held.key.group; what = held.key.what })
    makes events any held e =
        let key : record { port = port; group = held.key.group; what = held.key.what } ≡ held.key = λ i. record { port = on held.key e i; group = held.key.group; what = held.key.what } in
        record { no_join = refl; reached = ap (is_reached port events records) key ∙ star_reached port records group held.key events any e }

-- a group whose machines are marked
pub group_there : (port : ℕ) (records : List (Record (List ℕ))) (group : List ℕ) (marks : List Event) (groups : List (List ℕ)) → AllByRecursion (HaveRptsOf port records marks) groups → list_any (λ other. pointwise nat_eq other group) groups ≡ true → AddRptsOf port records group marks marks
group_there port records group marks [] all any = absurd (false≢true any)
group_there port records group marks (other ∷ groups) all any =
    by_test (pointwise nat_eq other group)
    (λ s. record { added = subst (HaveRptsOf port records marks) (same_group other group s) all.0; kept = λ key marked. marked; each = λ events a each. each })
    (λ s. group_there port records group marks groups all.1 (ap (λ b. b || list_any (λ (it : List ℕ). pointwise nat_eq it group) groups) (sym s) ∙ any))

pub walked_more : (port : ℕ) (records : List (Record (List ℕ))) (group : List ℕ) (old new : List Event) (groups : List (List ℕ)) → AddRptsOf port records group old new → AllByRecursion (HaveRptsOf port records old) groups → AllByRecursion (HaveRptsOf port records new) (groups ++ group ∷ [])
walked_more port records group old new [] adds all = (adds.added, tt)
walked_more port records group old new (other ∷ groups) adds all = ((λ key held. adds.kept key (all.0 key held)), walked_more port records group old new groups adds all.1)

-- ---- the events of a set

module _ {X : Type 0} (P : X → Type 0) where
  all_append : (xs ys : List X) → AllByRecursion P xs → AllByRecursion P ys → AllByRecursion P (xs ++ ys)
  all_append [] ys a b = b
  all_append (x ∷ xs) ys a b = (a.0, all_append xs ys a.1 b)

module _ (known : List ℕ → Option (List ℕ)) (joins : Bool) (group : List ℕ) where
  abbrev IsIts : Event → Type 0
  IsIts event = (event.joins ≡ joins) × (event.group ≡ group)

  entry_its : (it : Entry (List ℕ)) → AllByRecursion IsIts (entry_events known joins group it)
  entry_its (entry.Star rp) = by (joins && not (is_known (known group) rp))
    where
      by : (b : Bool) → AllByRecursion IsIts (cond b [] (record { joins = joins; group = group; what = Star } ∷ []))
      by true = tt
      by false = ((refl, refl), tt)
  entry_its (entry.Source source) = ((refl, refl), tt)
  entry_its (entry.Rpt source) = ((refl, refl), tt)

  list_its : (entries : List (Entry (List ℕ))) → AllByRecursion IsIts (list_events known joins group entries)
  list_its [] = tt
  list_its (it ∷ entries) = all_append IsIts (entry_events known joins group it) (list_events known joins group entries) (entry_its it) (list_its entries)

module _ (port : ℕ) (records : List (Record (List ℕ))) (group : List ℕ) (key : Key (List ℕ)) where
  no_star_joins : (events : List Event) → AllByRecursion (λ event. (event.joins ≡ false) × (event.group ≡ group)) events → star_reaches port events records key ≡ false
  no_star_joins [] all = refl
  no_star_joins (event ∷ events) all = rw (all.0.0) (no_star_joins events all.1)

  star_of_group : (events : List Event) → AllByRecursion (λ event. (event.joins ≡ true) × (event.group ≡ group)) events → star_reaches port events records key ≡ true → (list_any is_star_join events ≡ true) × (is_held_rpt port records group key ≡ true)
  star_of_group [] all any = absurd (false≢true any)
  star_of_group (event ∷ events) all any =
      by_test (is_star_join event && is_held_rpt port records event.group key)
      (λ e.
      let parts = and_true (is_star_join event) (is_held_rpt port records event.group key) e in
      (ap (λ b. b || list_any is_star_join events) parts.0, ap (λ g. is_held_rpt port records g key) (sym all.0.1) ∙ parts.1))
      (λ e.
      let rest = star_of_group events all.1 (ap (λ b. b || star_reaches port events records key) (sym e) ∙ any) in
      (ap (λ b. is_star_join event || b) rest.0 ∙ or_true (is_star_join event), rest.1))

pub set_stars : (known : List ℕ → Option (List ℕ)) (port : ℕ) (records : List (Record (List ℕ))) (set : GroupSet) (key : Key (List ℕ)) → star_reaches port (set_events known set) records key ≡ true
    → (list_any is_star_join (list_events known true set.group set.joined) ≡ true) × (is_held_rpt port records set.group key ≡ true)
set_stars known port records set key any =
    let joined = list_events known true set.group set.joined in
    let pruned = list_events known false set.group set.pruned in
    let parts = any_append (λ (event : Event). is_star_join event && is_held_rpt port records event.group key) joined pruned in
    let none = no_star_joins port records set.group key pruned (list_its known false set.group set.pruned) in
    star_of_group port records set.group key joined (list_its known true set.group set.joined)
    (first (star_reaches port joined records key) (star_reaches port pruned records key) none (sym parts ∙ any))
  where
    first : (a b : Bool) → b ≡ false → (a || b) ≡ true → a ≡ true
    first true b e f = refl
    first false b e f = absurd (false≢true (sym e ∙ f))

star_join_of : (group : List ℕ) (events : List Event) → AllByRecursion (λ event. (event.joins ≡ true) × (event.group ≡ group)) events → list_any is_star_join events ≡ true → list_any (is_star_join_of group) events ≡ true
star_join_of group [] all any = absurd (false≢true any)
star_join_of group (event ∷ events) all any =
    by_test (is_star_join event)
    (λ e. ap (λ b. (b && pointwise nat_eq event.group group) || list_any (is_star_join_of group) events) e ∙ ap (λ g. pointwise nat_eq g group || list_any (is_star_join_of group) events) all.0.1 ∙ ap (λ b. b || list_any (is_star_join_of group) events) (itself_group group))
    (λ e. ap (λ b. (is_star_join event && pointwise nat_eq event.group group) || b) (star_join_of group events all.1 (ap (λ b. b || list_any is_star_join events) (sym e) ∙ any)) ∙ or_true (is_star_join event && pointwise nat_eq event.group group))

pub set_star_join : (known : List ℕ → Option (List ℕ)) (set : GroupSet) → list_any is_star_join (list_events known true set.group set.joined) ≡ true → list_any (is_star_join_of set.group) (set_events known set) ≡ true
set_star_join known set any =
    let joined = list_events known true set.group set.joined in
    let pruned = list_events known false set.group set.pruned in
    any_append (is_star_join_of set.group) joined pruned
    ∙ ap (λ b. b || list_any (is_star_join_of set.group) pruned) (star_join_of set.group joined (list_its known true set.group set.joined) any)

-- ---- the marks of a set

pub set_without : (known : List ℕ → Option (List ℕ)) (port : ℕ) (records : List (Record (List ℕ))) (set : GroupSet) (marks : List Event) → list_any is_star_join (list_events known true set.group set.joined) ≡ false → AddStarsOf port records (set_events known set) marks marks
set_without known port records set marks none = record {
  added = λ key any. absurd (false≢true (sym none ∙ (set_stars known port records set key any).0));
  kept = λ key marked. marked;
  each = λ all within each. each;
}

pub set_with : (known : List ℕ → Option (List ℕ)) (port : ℕ) (records : List (Record (List ℕ))) (set : GroupSet) (old new : List Event) → list_any is_star_join (list_events known true set.group set.joined) ≡ true → AddRptsOf port records set.group old new → AddStarsOf port records (set_events known set) old new
set_with known port records set old new any adds = record {
  added = λ key reached. adds.added key (set_stars known port records set key reached).1;
  kept = adds.kept;
  each = λ all within each. adds.each all (within (is_star_join_of set.group) (set_star_join known set any)) each;
}

-- ---- the marks of all sets

-- the marks have what the events so far reach by a Join(*,G), where these events are left; and the machines of these groups
pub record AreMarkedTo (port : ℕ) (records : List (Record (List ℕ))) (all left marks : List Event) (walked : List (List ℕ)) : Type 0 where
  pub within : (test : Event → Bool) → list_any test left ≡ true → list_any test all ≡ true
  pub each : AllByRecursion (IsStarMark port all records) marks
  pub stars : (key : Key (List ℕ)) → star_reaches port all records key ≡ true → (is_marked port key marks || star_reaches port left records key) ≡ true
  pub groups : AllByRecursion (HaveRptsOf port records marks) walked

pub marked_more : (port : ℕ) (records : List (Record (List ℕ))) (all events left old new : List Event) (walked after : List (List ℕ)) → AreMarkedTo port records all (events ++ left) old walked
    → AddStarsOf port records events old new → AllByRecursion (HaveRptsOf port records new) after → AreMarkedTo port records all left new after
marked_more port records all events left old new walked after are adds groups = record {
  within = λ test any. are.within test (any_append test events left ∙ ap (λ b. list_any test events || b) any ∙ or_true (list_any test events));
  each = adds.each all (λ test any. are.within test (any_append test events left ∙ ap (λ b. b || list_any test left) any)) are.each;
  stars = λ key any. by key (is_marked port key old) refl (star_reaches port events records key) refl
      (ap (λ b. is_marked port key old || b) (sym (any_append (λ (event : Event). is_star_join event && is_held_rpt port records event.group key) events left)) ∙ are.stars key any);
  groups = groups;
}
  where
    by : (key : Key (List ℕ)) (m : Bool) → is_marked port key old ≡ m → (s : Bool) → star_reaches port events records key ≡ s → (m || (s || star_reaches port left records key)) ≡ true → (is_marked port key new || star_reaches port left records key) ≡ true
    by key true marked s e f = ap (λ b. b || star_reaches port left records key) (adds.kept key marked)
    by key false marked true e f = ap (λ b. b || star_reaches port left records key) (adds.added key e)
    by key false marked false e f = ap (λ b. is_marked port key new || b) f ∙ or_true (is_marked port key new)

pub all_marked : (port : ℕ) (records : List (Record (List ℕ))) (all left marks : List Event) (walked : List (List ℕ)) → left ≡ [] → AreMarkedTo port records all left marks walked → AreStarMarks port all records marks
all_marked port records all left marks walked none are = record {
  each = are.each;
  all = λ key any. last (is_marked port key marks) (ap (λ (es : List Event). is_marked port key marks || star_reaches port es records key) (sym none) ∙ are.stars key any);
}
  where
    last : (a : Bool) → (a || false) ≡ true → a ≡ true
    last true e = refl
    last false e = e

-- ---- the events of all sets

pub set_more : (known : List ℕ → Option (List ℕ)) (set : GroupSet) (left rest : List GroupSet) (old joined pruned all : List Event)
    → left ≡ set ∷ rest → joined ≡ old ++ list_events known true set.group set.joined → pruned ≡ joined ++ list_events known false set.group set.pruned
    → old ++ flat_map (set_events known) left ≡ all → pruned ++ flat_map (set_events known) rest ≡ all
set_more known set left rest old joined pruned all split j p whole =
    let js = list_events known true set.group set.joined in
    let ps = list_events known false set.group set.pruned in
    let others = flat_map (set_events known) rest in
    ap (λ (es : List Event). es ++ others) (p ∙ ap (λ (es : List Event). es ++ ps) j)
    ∙ append_assoc (old ++ js) ps others
    ∙ append_assoc old js (ps ++ others)
    ∙ ap (λ (es : List Event). old ++ es) (sym (append_assoc js ps others))
    ∙ ap (λ (sets : List GroupSet). old ++ flat_map (set_events known) sets) (sym split)
    ∙ whole
