-- The candidates of marks in key order are those that a message may change.
use Rattle.pim_transitions.proofs.Words.{◌≡◌, ℕ, Bool, true, false, cond, ◌&&◌, ◌||◌, List, [], ◌∷◌, ◌++◌, map, filter, refl, sym}
use Rattle.pim_transitions.proofs.Words.{ap, subst, ◌∙◌, AllByRecursion, list_any, IsStrictlySortedBy, false≢true, Key, Record}
use Rattle.pim_transitions.proofs.Words.{key_cmp, same_key, Event, key_of, is_star_join, joins_after, is_reached, is_affected}
use Rattle.pim_transitions.proofs.Words.{keys_affected, IsCandidate, IsAffected, Rise, same_mark, KeepTheirOrder, lasts}
use Rattle.pim_transitions.proofs.Words.{candidate_of, is_marked, is_held_rpt, IsStarMark, star_reaches, AreStarMarks}
use Rattle.pim_transitions.proofs.Effects.{or_true, by_test}
use Rattle.pim_transitions.proofs.Keys.{same_keys, same_itself, same_back, same_on_port}
use Rattle.pim_transitions.proofs.Lasts.{lasts_all, lasts_ascend, IsLastOf, lasts_are_last, lasts_marked}

-- ---- what a test keeps

module _ {X : Type 0} (test : X → Bool) where
  pub any_append : (xs ys : List X) → list_any test (xs ++ ys) ≡ (list_any test xs || list_any test ys)
  any_append [] ys = refl
  any_append (x ∷ xs) ys = by (any_append xs ys) (test x)
    where
      by : list_any test (xs ++ ys) ≡ (list_any test xs || list_any test ys) → (b : Bool) → (b || list_any test (xs ++ ys)) ≡ ((b || list_any test xs) || list_any test ys)
      by rest true = refl
      by rest false = rest

  any_kept : (xs : List X) → list_any test (filter test xs) ≡ list_any test xs
  any_kept [] = refl
  any_kept (x ∷ xs) = by (any_kept xs) (test x) refl
    where
      by : list_any test (filter test xs) ≡ list_any test xs → (b : Bool) → test x ≡ b → list_any test (cond b (x ∷ filter test xs) (filter test xs)) ≡ (b || list_any test xs)
      by rest true e = rw e refl
      by rest false e = rest

module _ (port : ℕ) (mark : Event) where
  abbrev its_key : Key (List ℕ)
  its_key = key_of port mark

  same_test : (other : Event) → same_key (key_of port other) its_key ≡ same_mark mark other
  same_test other = same_back (key_of port other) its_key ∙ same_on_port port mark other

  joins_kept : (joins : Bool) (marks : List Event) → joins_after port its_key joins marks ≡ joins_after port its_key joins (filter (same_mark mark) marks)
  unfolding joins_after
  joins_kept joins [] = refl
  joins_kept joins (other ∷ marks) =
      ap (λ b. joins_after port its_key (cond b other.joins joins) marks) (same_test other) ∙ by (λ j. joins_kept j marks) (same_mark mark other) refl
    where
      by : ((j : Bool) → joins_after port its_key j marks ≡ joins_after port its_key j (filter (same_mark mark) marks)) → (b : Bool) → same_mark mark other ≡ b → joins_after port its_key (cond b other.joins joins) marks ≡ joins_after port its_key joins (cond b (other ∷ filter (same_mark mark) marks) (filter (same_mark mark) marks))
      by rest true e = rest other.joins ∙ ap (λ b. joins_after port its_key (cond b other.joins joins) (filter (same_mark mark) marks)) (sym (same_test other ∙ e))
      by rest false e = rest joins

  marked_is : (marks : List Event) → is_marked port its_key marks ≡ list_any (same_mark mark) marks
  marked_is [] = refl
  marked_is (other ∷ marks) = ap (λ b. b || is_marked port its_key marks) (same_test other) ∙ ap (λ b. same_mark mark other || b) (marked_is marks)

  module _ (these those : List Event) (keep : KeepTheirOrder these those) where
    pub joins_stay : (joins : Bool) → joins_after port its_key joins those ≡ joins_after port its_key joins these
    joins_stay joins = joins_kept joins those ∙ ap (joins_after port its_key joins) (keep mark) ∙ sym (joins_kept joins these)

    pub marked_stays : is_marked port its_key those ≡ is_marked port its_key these
    marked_stays =
        marked_is those ∙ sym (any_kept (same_mark mark) those) ∙ ap (list_any (same_mark mark)) (keep mark) ∙ any_kept (same_mark mark) these ∙ sym (marked_is these)

-- a mark of the machine at a key
abbrev mark_at : Key (List ℕ) → Event
mark_at key = record { joins = false; group = key.group; what = key.what }

-- a marked machine is of the port
marked_port : (port : ℕ) (key : Key (List ℕ)) (marks : List Event) → is_marked port key marks ≡ true → port ≡ key.port
marked_port port key [] marked = absurd (false≢true marked)
marked_port port key (mark ∷ marks) marked =
    by_test (same_key (key_of port mark) key)
    (λ s. ap (λ (k : Key (List ℕ)). k.port) (same_keys (key_of port mark) key s))
    (λ s. marked_port port key marks (ap (λ b. b || is_marked port key marks) (sym s) ∙ marked))

marked_moved : (port : ℕ) (key : Key (List ℕ)) (these those : List Event) → KeepTheirOrder these those → is_marked port key these ≡ true → is_marked port key those ≡ true
marked_moved port key these those keep marked =
    let at : key_of port (mark_at key) ≡ key = λ i. record { port = marked_port port key these marked i; group = key.group; what = key.what } in
    subst (λ k. is_marked port k those ≡ true) at (marked_stays port (mark_at key) these those keep ∙ ap (λ k. is_marked port k these) at ∙ marked)

marked_back : (port : ℕ) (mark : Event) (these those : List Event) → KeepTheirOrder these those → is_marked port (key_of port mark) those ≡ true → is_marked port (key_of port mark) these ≡ true
marked_back port mark these those keep marked = sym (marked_stays port mark these those keep) ∙ marked

-- each mark of a list is marked
each_marked : (port : ℕ) (all marks : List Event) → ((key : Key (List ℕ)) → is_marked port key marks ≡ true → is_marked port key all ≡ true) → AllByRecursion (λ mark. is_marked port (key_of port mark) all ≡ true) marks
each_marked port all [] within = tt
each_marked port all (mark ∷ marks) within = (
  within (key_of port mark) (ap (λ b. b || is_marked port (key_of port mark) marks) (same_itself (key_of port mark))),
  each_marked port all marks (λ key marked. within key (ap (λ b. same_key (key_of port mark) key || b) marked ∙ or_true (same_key (key_of port mark) key))),
)

-- ---- the marks in front, and the events behind them

joins_append : (port : ℕ) (key : Key (List ℕ)) (joins : Bool) (xs ys : List Event) → joins_after port key joins (xs ++ ys) ≡ joins_after port key (joins_after port key joins xs) ys
unfolding joins_after
joins_append port key joins [] ys = refl
joins_append port key joins (x ∷ xs) ys = joins_append port key (cond (same_key (key_of port x) key) x.joins joins) xs ys

module _ (port : ℕ) (events : List Event) (records : List (Record (List ℕ))) where
  no_joins : (key : Key (List ℕ)) (marks : List Event) → AllByRecursion (IsStarMark port events records) marks → joins_after port key false marks ≡ false
  unfolding joins_after
  no_joins key [] all = refl
  no_joins key (mark ∷ marks) all = ap (λ b. joins_after port key b marks) (by (same_key (key_of port mark) key)) ∙ no_joins key marks all.1
    where
      by : (b : Bool) → cond b mark.joins false ≡ false
      by true = all.0.no_join
      by false = refl

  star_marked : (key : Key (List ℕ)) (marks : List Event) → AllByRecursion (IsStarMark port events records) marks → is_marked port key marks ≡ true → is_reached port events records key ≡ true
  star_marked key [] all marked = absurd (false≢true marked)
  star_marked key (mark ∷ marks) all marked =
      by_test (same_key (key_of port mark) key)
      (λ s. subst (λ k. is_reached port events records k ≡ true) (same_keys (key_of port mark) key s) all.0.reached)
      (λ s. star_marked key marks all.1 (ap (λ b. b || is_marked port key marks) (sym s) ∙ marked))

named_reached : (port : ℕ) (records : List (Record (List ℕ))) (key : Key (List ℕ)) (events : List Event) → is_marked port key events ≡ true → is_reached port events records key ≡ true
named_reached port records key [] marked = absurd (false≢true marked)
named_reached port records key (event ∷ events) marked = by (named_reached port records key events) (same_key (key_of port event) key) marked
  where
    by : (is_marked port key events ≡ true → is_reached port events records key ≡ true) → (s : Bool) → (s || is_marked port key events) ≡ true → ((s || (is_star_join event && is_held_rpt port records event.group key)) || is_reached port events records key) ≡ true
    by rest true m = refl
    by rest false m = ap (λ b. (is_star_join event && is_held_rpt port records event.group key) || b) (rest m) ∙ or_true (is_star_join event && is_held_rpt port records event.group key)

-- what is reached is named, or reached by a Join(*,G)
reached_how : (port : ℕ) (records : List (Record (List ℕ))) (key : Key (List ℕ)) (events : List Event) → is_reached port events records key ≡ true → (is_marked port key events || star_reaches port events records key) ≡ true
reached_how port records key [] reached = absurd (false≢true reached)
reached_how port records key (event ∷ events) reached =
    by (reached_how port records key events) (same_key (key_of port event) key) (is_star_join event && is_held_rpt port records event.group key) reached
  where
    more : (a b s : Bool) → (a || b) ≡ true → (a || (s || b)) ≡ true
    more true b s e = refl
    more false b s e = ap (λ c. s || c) e ∙ or_true s

    by : (is_reached port events records key ≡ true → (is_marked port key events || star_reaches port events records key) ≡ true) → (s r : Bool) → ((s || r) || is_reached port events records key) ≡ true
        → ((s || is_marked port key events) || (r || star_reaches port events records key)) ≡ true
    by rest true r e = refl
    by rest false true e = or_true (is_marked port key events)
    by rest false false e = rest e

-- ---- the candidates

candidate_keys : (port : ℕ) (records : List (Record (List ℕ))) (marks : List Event) → keys_affected (map (candidate_of port records) marks) ≡ map (key_of port) marks
candidate_keys port records [] = refl
candidate_keys port records (mark ∷ marks) = ap (λ (ks : List (Key (List ℕ))). key_of port mark ∷ ks) (candidate_keys port records marks)

candidate_named : (port : ℕ) (records : List (Record (List ℕ))) (key : Key (List ℕ)) (marks : List Event) → is_affected key (map (candidate_of port records) marks) ≡ is_marked port key marks
candidate_named port records key [] = refl
candidate_named port records key (mark ∷ marks) = ap (λ b. same_key (key_of port mark) key || b) (candidate_named port records key marks)

pub marks_named : (port : ℕ) (events : List Event) (records : List (Record (List ℕ))) (front marks sorted : List Event) → AreStarMarks port events records front → marks ≡ front ++ events → KeepTheirOrder marks sorted → Rise sorted
    → IsAffected port events records (map (candidate_of port records) (lasts sorted))
marks_named port events records front marks sorted stars is keep up = record {
  ascending = subst (IsStrictlySortedBy key_cmp) (sym (candidate_keys port records (lasts sorted))) (lasts_ascend port sorted up);
  each = each (lasts sorted) (lasts_are_last port sorted up) (lasts_all (λ mark. is_marked port (key_of port mark) sorted ≡ true) sorted (each_marked port sorted sorted (λ key marked. marked)));
  all = λ key reached. candidate_named port records key (lasts sorted) ∙ lasts_marked port key sorted (marked_moved port key marks sorted keep (subst (λ ms. is_marked port key ms ≡ true) (sym is) (in_marks key reached)));
}
  where
    in_marks : (key : Key (List ℕ)) → is_reached port events records key ≡ true → is_marked port key (front ++ events) ≡ true
    in_marks key reached = any_append (λ (mark : Event). same_key (key_of port mark) key) front events ∙ by (is_marked port key events) refl (reached_how port records key events reached)
      where
        by : (b : Bool) → is_marked port key events ≡ b → (b || star_reaches port events records key) ≡ true → (is_marked port key front || is_marked port key events) ≡ true
        by true e r = ap (λ c. is_marked port key front || c) e ∙ or_true (is_marked port key front)
        by false e r = ap (λ c. c || is_marked port key events) (stars.all key r)

    how : (mark : Event) → is_marked port (key_of port mark) sorted ≡ true → is_reached port events records (key_of port mark) ≡ true
    how mark marked = by (is_marked port key front) refl (sym (any_append (λ (other : Event). same_key (key_of port other) key) front events) ∙ subst (λ ms. is_marked port key ms ≡ true) is (marked_back port mark marks sorted keep marked))
      where
        key : Key (List ℕ)
        key = key_of port mark

        by : (b : Bool) → is_marked port key front ≡ b → (b || is_marked port key events) ≡ true → is_reached port events records key ≡ true
        by true e r = star_marked port events records key front stars.each e
        by false e r = named_reached port records key events r

    last : (mark : Event) → IsLastOf port sorted mark → mark.joins ≡ joins_after port (key_of port mark) false events
    last mark is_last =
        sym (is_last false) ∙ joins_stay port mark marks sorted keep false ∙ ap (joins_after port (key_of port mark) false) is
        ∙ joins_append port (key_of port mark) false front events
        ∙ ap (λ b. joins_after port (key_of port mark) b events) (no_joins port events records (key_of port mark) front stars.each)

    each : (left : List Event) → AllByRecursion (IsLastOf port sorted) left → AllByRecursion (λ mark. is_marked port (key_of port mark) sorted ≡ true) left → AllByRecursion (IsCandidate port events records) (map (candidate_of port records) left)
    each [] lasts marked = tt
    each (mark ∷ left) lasts marked = (
      record { was = refl; last = last mark lasts.0; reached = how mark marked.0 },
      each left lasts.1 marked.1,
    )
