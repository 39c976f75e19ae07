-- Rows added in any order: one map.
use Rattle.pim_addr.proofs.Words.{◌≡◌, Bool, true, false, cond, T, ◌&&◌, List, [], ◌∷◌, Some, refl, sym, ap, subst, ◌∙◌}
use Rattle.pim_addr.proofs.Words.{AllByRecursion, IsStrictlySortedBy, nat_cmp, is_eq, is_lt, ordering_then, ordering_reverse}
use Rattle.pim_addr.proofs.Words.{slice_cmp, Ordering, Less, Equal, Greater, is_at, keys_of, false≢true, cond-true, cond-false}
use Rattle.pim_addr.proofs.Words.{false_from_ne_true, tied_itself, Prefix, Row, prefix_cmp, AreInOrder, row_at, led_to}
use Rattle.pim_addr.proofs.Words.{RowIsAddedAtItsPrefix, RouteMapHasOneList, with_rows, OrderOfAddingIsFree}
use Rattle.std.specs.FinMap.{slice_cmp-IsAntisymmetric, nat_cmp-IsAntisymmetric}
use Rattle.std.specs.FinMap.Entries.{find, below_all, is_sorted, same_entries}
use Rattle.pim_addr.proofs.RowOrder.{prefix_total}
use Rattle.pim_addr.proofs.Inserted.{lookup_insert, sorted_insert}

-- ---- the order tells no two prefixes alike

both_equal : (r s : Ordering) → ordering_then r s ≡ Equal → (r ≡ Equal) × (s ≡ Equal)
both_equal Less s e = absurd (false≢true (ap is_eq e))
both_equal Equal s e = (refl, e)
both_equal Greater s e = absurd (false≢true (ap is_eq e))

same_prefix : (p q : Prefix) → prefix_cmp p q ≡ Equal → p ≡ q
unfolding prefix_cmp
same_prefix p q e =
    let parts = both_equal (nat_cmp q.bits p.bits) (slice_cmp nat_cmp p.address q.address) e in
    let bits = sym (nat_cmp-IsAntisymmetric q.bits p.bits parts.0) in
    let address = slice_cmp-IsAntisymmetric nat_cmp-IsAntisymmetric p.address q.address parts.1 in
    λ i. record { bits = bits i; address = address i }

is_equal : (r : Ordering) → is_eq r ≡ true → r ≡ Equal
is_equal Less e = absurd (false≢true e)
is_equal Equal e = refl
is_equal Greater e = absurd (false≢true e)

-- ---- one list

both : (a b : Bool) → T a → T b → T (a && b)
both true b p q = q
both false b p q = absurd p

below_test : (p : Prefix) (rows : List Row) → AllByRecursion (λ q. prefix_cmp p q ≡ Less) (keys_of rows) → T (below_all prefix_cmp p rows)
below_test p [] h = tt
below_test p (row ∷ rows) h = both (is_lt (prefix_cmp p row.0)) (below_all prefix_cmp p rows) (subst (λ o. T (is_lt o)) (sym h.0) tt) (below_test p rows h.1)

sorted_test : (rows : List Row) → AreInOrder rows → T (is_sorted prefix_cmp rows)
unfolding IsStrictlySortedBy
sorted_test [] h = tt
sorted_test (row ∷ rows) h = both (below_all prefix_cmp row.0 rows) (is_sorted prefix_cmp rows) (below_test row.0 rows h.0) (sorted_test rows h.1)

find_is : (p : Prefix) (rows : List Row) → find prefix_cmp p rows ≡ row_at p rows
find_is p [] = refl
find_is p (row ∷ rows) = ap (cond (is_at (prefix_cmp p) row.0) (Some row.1)) (find_is p rows)

pub route_map_has_one_list : RouteMapHasOneList
route_map_has_one_list one other ascending ascending' agree =
    same_entries prefix_cmp prefix_total same_prefix one other (sorted_test one ascending) (sorted_test other ascending')
    (λ p. find_is p one ∙ agree p ∙ sym (find_is p other))

-- ---- one more row

pub row_is_added_at_its_prefix : RowIsAddedAtItsPrefix
row_is_added_at_its_prefix p to rows ascending = (
  lookup_insert prefix_cmp prefix_total p to p rows ∙ cond-true (is_at (prefix_cmp p) p) (Some to) (row_at p rows) (ap is_eq (tied_itself prefix_total p)),
  λ other apart. lookup_insert prefix_cmp prefix_total p to other rows
      ∙ cond-false (is_at (prefix_cmp p) other) (Some to) (row_at other rows) (false_from_ne_true (is_at (prefix_cmp p) other) (λ e. apart (same_prefix p other (is_equal (prefix_cmp p other) e)))),
  sorted_insert prefix_cmp prefix_total p to rows ascending,
)

-- ---- many rows

rows_in_order : (rows : List Row) → AreInOrder (with_rows rows)
unfolding IsStrictlySortedBy
rows_in_order [] = tt
rows_in_order (row ∷ rows) = sorted_insert prefix_cmp prefix_total row.0 row.1 (with_rows rows) (rows_in_order rows)

swapped : (p q : Prefix) → is_at (prefix_cmp p) q ≡ is_at (prefix_cmp q) p
swapped p q = ap is_eq (prefix_total.antisymm p q) ∙ reversed (prefix_cmp q p)
  where
    reversed : (r : Ordering) → is_eq (ordering_reverse r) ≡ is_eq r
    reversed Less = refl
    reversed Equal = refl
    reversed Greater = refl

each_row : (p : Prefix) (rows : List Row) → row_at p (with_rows rows) ≡ row_at p rows
each_row p [] = refl
each_row p (row ∷ rows) = lookup_insert prefix_cmp prefix_total row.0 row.1 p (with_rows rows)
    ∙ ap (λ b. cond b (Some row.1) (row_at p (with_rows rows))) (swapped row.0 p) ∙ ap (cond (is_at (prefix_cmp p) row.0) (Some row.1)) (each_row p rows)

pub order_of_adding_is_free : OrderOfAddingIsFree
order_of_adding_is_free one other agree =
    let same : with_rows one ≡ with_rows other = route_map_has_one_list (with_rows one) (with_rows other) (rows_in_order one) (rows_in_order other) (λ p. each_row p one ∙ agree p ∙ sym (each_row p other)) in
    (same, λ family address. ap (led_to family address) same)
