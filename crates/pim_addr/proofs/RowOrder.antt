-- Rows in order: where a prefix stands among them, or would stand.
use Rattle.std.proofs.Common.{◌≡◌, ℕ, zero, suc, ◌+◌, ◌<◌, ◌≤◌, ◌⊎◌, inl, inr, Bool, true, false, cond, List, [], ◌∷◌, length, map, get_or, Some, Result, Ok, Err, refl, sym, ap, subst, ◌∙◌, arith}
use Rattle.pim_addr.proofs.Words.{insert, IsNonDecreasingBy, IsBinarySearchResult, IsSearchInRange, keys_of, lookup}
use Rattle.pim_addr.proofs.Words.{is_at, is_some, is_eq, is_lt, ordering_index, ordering_reverse, match_ordering}
use Rattle.pim_addr.proofs.Words.{IsTotalOrder, Ordering, Less, Equal, Greater, cases_lt, nat_cmp_total}
use Rattle.pim_addr.proofs.Words.{nat_list_cmp_total, on_total, then_total, back_total, length-map}
use Rattle.pim_addr.proofs.Words.{searchable_from_sorted, Prefix, Row, prefix_cmp, AreInOrder, with_row, IsRowPlace}
use Rattle.std.proofs.lemmas.List.{get_or-map as get_or_of_map}
use Rattle.std.proofs.lemmas.Map.Keys.{Less-from_sorted}

pub prefix_total : IsTotalOrder prefix_cmp
unfolding prefix_cmp
prefix_total = then_total (on_total (λ (p : Prefix). p.bits) (back_total nat_cmp_total)) (on_total (λ (p : Prefix). p.address) nat_list_cmp_total)

pub back : (p q : Prefix) (r : Ordering) → prefix_cmp p q ≡ r → prefix_cmp q p ≡ ordering_reverse r
back p q r e = prefix_total.antisymm q p ∙ ap ordering_reverse e

-- ---- by places

some_at : (test : Prefix → Bool) (rows : List Row) (i : ℕ) (d : Row) → i < length rows → test (get_or rows i d).0 ≡ true → is_some (lookup test rows) ≡ true
some_at test [] i d l h = absurd (omega arith)
some_at test (row ∷ rows) zero d l h = rw h refl
some_at test (row ∷ rows) (suc i) d l h = by (test row.0) (some_at test rows i d (omega arith) h)
  where
    by : (b : Bool) → is_some (lookup test rows) ≡ true → is_some (cond b (Some row.1) (lookup test rows)) ≡ true
    by true later = refl
    by false later = later

none_at : (test : Prefix → Bool) (rows : List Row) (d : Row) → ((k : ℕ) → k < length rows → test (get_or rows k d).0 ≡ false) → is_some (lookup test rows) ≡ false
none_at test [] d h = refl
none_at test (row ∷ rows) d h = rw (h 0 (omega arith)) (none_at test rows d (λ k l. h (suc k) (omega arith)))

insert_step : (p : Prefix) (to : List ℕ) (row : Row) (rows : List Row) (r : Ordering) → prefix_cmp p row.0 ≡ r → with_row p to (row ∷ rows) ≡ match_ordering r ((p, to) ∷ row ∷ rows) ((row.0, to) ∷ rows) (row ∷ with_row p to rows)
insert_step p to row rows r e = ap (λ o. match_ordering o ((p, to) ∷ row ∷ rows) ((row.0, to) ∷ rows) (row ∷ with_row p to rows)) e

inserted : (p : Prefix) (to : List ℕ) (d : Row) (rows : List Row) (i : ℕ) → i ≤ length rows → ((k : ℕ) → k < i → prefix_cmp p (get_or rows k d).0 ≡ Greater) → (i < length rows → prefix_cmp p (get_or rows i d).0 ≡ Less) → insert rows i (p, to) ≡ with_row p to rows
inserted p to d [] zero l above below = refl
inserted p to d [] (suc i) l above below = absurd (omega arith)
inserted p to d (row ∷ rows) zero l above below = sym (insert_step p to row rows Less (below (omega arith)))
inserted p to d (row ∷ rows) (suc i) l above below =
    ap (λ (rs : List Row). row ∷ rs) (inserted p to d rows i (omega arith) (λ k m. above (suc k) (omega arith)) (λ m. below (omega arith)))
    ∙ sym (insert_step p to row rows Greater (above 0 (omega arith)))

-- ---- what a search by halves says

module _ {R : Type 0} (seen : R → Row) (rows : List R) (prefix : Prefix) (ascending : AreInOrder (map seen rows)) where
  key_at : (k : ℕ) (d : R) → k < length rows → get_or (keys_of (map seen rows)) k (seen d).0 ≡ (seen (get_or rows k d)).0
  key_at k d l = get_or_of_map (λ (row : Row). row.0) (map seen rows) k (seen d) (seen d).0 (omega (arith, length-map rows seen)) ∙ ap (λ (row : Row). row.0) (get_or_of_map seen rows k d (seen d) l)

  row_seen_at : (k : ℕ) (d : R) → k < length rows → get_or (map seen rows) k (seen d) ≡ seen (get_or rows k d)
  row_seen_at k d l = get_or_of_map seen rows k d (seen d) l

  searchable : IsNonDecreasingBy (λ held. ordering_index (prefix_cmp (seen held).0 prefix)) rows
  searchable = searchable_from_sorted prefix_total (λ (held : R). (seen held).0) rows prefix
      (λ k d low high.
      let less : prefix_cmp (get_or (keys_of (map seen rows)) k (seen d).0) (get_or (keys_of (map seen rows)) (k + 1) (seen d).0) ≡ Less =
      Less-from_sorted prefix_cmp (keys_of (map seen rows)) k (k + 1) (seen d).0 ascending (omega arith) (omega (arith, length-map rows seen, length-map (map seen rows) (λ (row : Row). row.0))) in
      let less' : prefix_cmp (seen (get_or rows k d)).0 (seen (get_or rows (k + 1) d)).0 ≡ Less =
      sym (ap (λ (p : Prefix). prefix_cmp p (seen (get_or rows (k + 1) d)).0) (key_at k d (omega arith))) ∙ sym (ap (λ (p : Prefix). prefix_cmp (get_or (keys_of (map seen rows)) k (seen d).0) p) (key_at (k + 1) d (omega arith))) ∙ less in
      ap is_lt (back (seen (get_or rows k d)).0 (seen (get_or rows (k + 1) d)).0 Less less'))

  pub place : (d : R) (result : Result ℕ ℕ) → IsSearchInRange result (length rows) → IsBinarySearchResult (λ held. prefix_cmp (seen held).0 prefix) rows result → IsRowPlace prefix (map seen rows) result
  place d (Ok i) within is =
      some_at (is_at (prefix_cmp prefix)) (map seen rows) i (seen d) (omega (arith, length-map rows seen))
      (ap (λ (row : Row). is_eq (prefix_cmp prefix row.0)) (row_seen_at i d within) ∙ ap is_eq (back (seen (get_or rows i d)).0 prefix Equal (is d)))
  place d (Err i) within is =
      let part = is searchable in
      let above : (k : ℕ) → k < i → prefix_cmp prefix (get_or (map seen rows) k (seen d)).0 ≡ Greater =
      λ k l. ap (λ (row : Row). prefix_cmp prefix row.0) (row_seen_at k d (omega arith)) ∙ back (seen (get_or rows k d)).0 prefix Less (part.0 k d (omega arith) l) in
      let below : (k : ℕ) → i ≤ k → k < length rows → prefix_cmp prefix (get_or (map seen rows) k (seen d)).0 ≡ Less =
      λ k l m. ap (λ (row : Row). prefix_cmp prefix row.0) (row_seen_at k d m) ∙ back (seen (get_or rows k d)).0 prefix Greater (part.1 k d l m) in
      record {
        within = omega (arith, length-map rows seen);
        absent = none_at (is_at (prefix_cmp prefix)) (map seen rows) (seen d) (λ k l. by k (omega (arith, length-map rows seen)) above below (cases_lt k i));
        after = λ to. inserted prefix to (seen d) (map seen rows) i (omega (arith, length-map rows seen)) above (λ l. below i (omega arith) (omega (arith, length-map rows seen)));
      }
    where
      by : (k : ℕ) → k < length rows → ((k : ℕ) → k < i → prefix_cmp prefix (get_or (map seen rows) k (seen d)).0 ≡ Greater) → ((k : ℕ) → i ≤ k → k < length rows → prefix_cmp prefix (get_or (map seen rows) k (seen d)).0 ≡ Less) →
          (k < i) ⊎ (i ≤ k) → is_eq (prefix_cmp prefix (get_or (map seen rows) k (seen d)).0) ≡ false
      by k m above below (inl l) = ap is_eq (above k l)
      by k m above below (inr l) = ap is_eq (below k l m)

-- the same of a comparison that answers alike
pub place_by : {R : Type 0} (seen : R → Row) (rows : List R) (prefix : Prefix) → AreInOrder (map seen rows) → (d : R) (result : Result ℕ ℕ) → IsSearchInRange result (length rows) →
    (ord : R → Ordering) → ((held : R) → ord held ≡ prefix_cmp (seen held).0 prefix) → IsBinarySearchResult ord rows result → IsRowPlace prefix (map seen rows) result
place_by seen rows prefix ascending d result within ord alike is =
    place seen rows prefix ascending d result within (subst (λ o. IsBinarySearchResult o rows result) (λ i held. alike held i) is)
