-- Joins in order: where a join stands among them, or would stand.
use Rattle.pim_local.proofs.Words.{◌≡◌, ◌∙◌, ℕ, zero, suc, ◌<◌, ◌≤◌, ◌⊎◌, inl, inr, Bool, true, false, ◌||◌, List, [], ◌∷◌, length, map, get_or, refl, sym, ap, subst, arith, add-one}
use Rattle.pim_local.proofs.Words.{Result, Ok, Err, insert, IsSortedBy, IsNonDecreasingBy, IsBinarySearchResult, IsSearchInRange}
use Rattle.pim_local.proofs.Words.{IsStrictlySortedBy, searchable_from_sorted, cases_lt, length-map, get_or_of_map}
use Rattle.pim_local.proofs.Words.{Ordering, Less, Equal, Greater, is_eq, is_lt, match_ordering, ordering_index}
use Rattle.pim_local.proofs.Words.{Join, join_cmp, same_join, is_listed, with_join, AreInOrder, IsJoinPlace}
use Rattle.pim_local.proofs.Words.{Option, None, Some, option_map, option_cmp, ordering_then, slice_cmp, nat_cmp, join_seen}
use Rattle.pim_local.specs.declared.join.LocalJoin.{LocalJoin}
use Rattle.pim_local.proofs.Orders.{join_total, back, ties}

or_right : (p q : Bool) → q ≡ true → (p || q) ≡ true
or_right true q h = refl
or_right false q h = h

some_at : (join : Join) (joins : List Join) (i : ℕ) (d : Join) → i < length joins → join_cmp join (get_or joins i d) ≡ Equal → is_listed join joins ≡ true
some_at join [] i d l h = absurd (omega arith)
some_at join (first ∷ joins) zero d l h = rw (ties join first ∙ ap is_eq h) refl
some_at join (first ∷ joins) (suc i) d l h = or_right (same_join join first) (is_listed join joins) (some_at join joins i d (omega arith) h)

none_at : (join : Join) (joins : List Join) (d : Join) → ((k : ℕ) → k < length joins → same_join join (get_or joins k d) ≡ false) → is_listed join joins ≡ false
none_at join [] d h = refl
none_at join (first ∷ joins) d h = rw (h 0 (omega arith)) (none_at join joins d (λ k l. h (suc k) (omega arith)))

insert_step : (join first : Join) (others : List Join) (r : Ordering) → join_cmp join first ≡ r → with_join join (first ∷ others) ≡ match_ordering r (join ∷ first ∷ others) (first ∷ others) (first ∷ with_join join others)
insert_step join first others r e = ap (λ o. match_ordering o (join ∷ first ∷ others) (first ∷ others) (first ∷ with_join join others)) e

inserted : (join d : Join) (joins : List Join) (i : ℕ) → i ≤ length joins → ((k : ℕ) → k < i → join_cmp join (get_or joins k d) ≡ Greater) → (i < length joins → join_cmp join (get_or joins i d) ≡ Less)
    → insert joins i join ≡ with_join join joins
inserted join d [] zero l above below = refl
inserted join d [] (suc i) l above below = absurd (omega arith)
inserted join d (first ∷ joins) zero l above below = sym (insert_step join first joins Less (below (omega arith)))
inserted join d (first ∷ joins) (suc i) l above below =
    ap (λ (js : List Join). first ∷ js) (inserted join d joins i (omega arith) (λ k m. above (suc k) (omega arith)) (λ m. below (omega arith)))
    ∙ sym (insert_step join first joins Greater (above 0 (omega arith)))

-- ---- what a search by halves says

module _ {R : Type 0} (seen : R → Join) where
  steps : (xs : List R) → AreInOrder (map seen xs) → (k : ℕ) (d : R) → suc k < length xs → is_lt (join_cmp (seen (get_or xs (suc k) d)) (seen (get_or xs k d))) ≡ false
  unfolding IsStrictlySortedBy
  steps [] up k d below = absurd (omega arith)
  steps (x ∷ []) up k d below = absurd (omega arith)
  steps (x ∷ y ∷ xs) up zero d below = ap is_lt (back (seen x) (seen y) Less up.0.0)
  steps (x ∷ y ∷ xs) up (suc k) d below = steps (y ∷ xs) up.1 k d (omega arith)

  is_sorted : (xs : List R) → AreInOrder (map seen xs) → IsSortedBy (λ a b. is_lt (join_cmp (seen a) (seen b))) xs
  is_sorted xs up = λ k d low high. rw (add-one k) (steps xs up k d (omega arith))

  module _ (joins : List R) (join : Join) (ascending : AreInOrder (map seen joins)) where
    seen_at : (k : ℕ) (d : R) → k < length joins → get_or (map seen joins) k (seen d) ≡ seen (get_or joins k d)
    seen_at k d l = get_or_of_map seen joins k d (seen d) l

    searchable : IsNonDecreasingBy (λ held. ordering_index (join_cmp (seen held) join)) joins
    searchable = searchable_from_sorted join_total seen joins join (is_sorted joins ascending)

    place : (d : R) (result : Result ℕ ℕ) → IsSearchInRange result (length joins) → IsBinarySearchResult (λ held. join_cmp (seen held) join) joins result → IsJoinPlace join (map seen joins) result
    place d (Ok i) within is =
        some_at join (map seen joins) i (seen d) (omega (arith, length-map joins seen))
        (ap (join_cmp join) (seen_at i d within) ∙ back (seen (get_or joins i d)) join Equal (is d))
    place d (Err i) within is =
        let part = is searchable in
        let above : (k : ℕ) → k < i → join_cmp join (get_or (map seen joins) k (seen d)) ≡ Greater =
        λ k l. ap (join_cmp join) (seen_at k d (omega arith)) ∙ back (seen (get_or joins k d)) join Less (part.0 k d (omega arith) l) in
        let below : (k : ℕ) → i ≤ k → k < length joins → join_cmp join (get_or (map seen joins) k (seen d)) ≡ Less =
        λ k l m. ap (join_cmp join) (seen_at k d m) ∙ back (seen (get_or joins k d)) join Greater (part.1 k d l m) in
        record {
          within = omega (arith, length-map joins seen);
          absent = none_at join (map seen joins) (seen d) (λ k l. by k (omega (arith, length-map joins seen)) above below (cases_lt k i));
          after = inserted join (seen d) (map seen joins) i (omega (arith, length-map joins seen)) above (λ l. below i (omega arith) (omega (arith, length-map joins seen)));
        }
      where
        by : (k : ℕ) → k < length joins → ((k : ℕ) → k < i → join_cmp join (get_or (map seen joins) k (seen d)) ≡ Greater) → ((k : ℕ) → i ≤ k → k < length joins → join_cmp join (get_or (map seen joins) k (seen d)) ≡ Less) →
            (k < i) ⊎ (i ≤ k) → same_join join (get_or (map seen joins) k (seen d)) ≡ false
        by k m above below (inl l) = ties join (get_or (map seen joins) k (seen d)) ∙ ap is_eq (above k l)
        by k m above below (inr l) = ties join (get_or (map seen joins) k (seen d)) ∙ ap is_eq (below k l m)

-- the same of a comparison that answers alike
pub place_by : {R : Type 0} (seen : R → Join) (joins : List R) (join : Join) → AreInOrder (map seen joins) → (d : R) (result : Result ℕ ℕ) → IsSearchInRange result (length joins) →
    (ord : R → Ordering) → ((held : R) → ord held ≡ join_cmp (seen held) join) → IsBinarySearchResult ord joins result → IsJoinPlace join (map seen joins) result
place_by seen joins join ascending d result within ord alike is =
    place seen joins join ascending d result within (subst (λ o. IsBinarySearchResult o joins result) (λ i held. alike held i) is)

-- ---- the order of the code

module _ {A : Type 0} (bytes_of : A → List ℕ) (cmp : A → A → Ordering) (order : (a b : A) → cmp a b ≡ slice_cmp nat_cmp (bytes_of a) (bytes_of b)) where
  source_order : (p q : Option A) → option_cmp cmp p q ≡ option_cmp (slice_cmp nat_cmp) (option_map bytes_of p) (option_map bytes_of q)
  source_order None None = refl
  source_order None (Some y) = refl
  source_order (Some x) None = refl
  source_order (Some x) (Some y) = order x y

  pub same_order : (p q : LocalJoin A) → ordering_then (cmp p.group q.group) (option_cmp cmp p.source q.source) ≡ join_cmp (join_seen bytes_of p) (join_seen bytes_of q)
  unfolding join_cmp
  same_order p q = λ i. ordering_then (order p.group q.group i) (source_order p.source q.source i)
