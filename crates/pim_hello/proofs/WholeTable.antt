-- Laws on whole tables: expiry twice, and tables that agree at every address.
use Rattle.std.proofs.Common.{◌≡◌, ℕ, ◌+◌, ◌-◌, Bool, true, false, cond, T, List, [], ◌∷◌, Option, Some, None, refl, sym, ap, subst, ◌∙◌, arith, max}
use Rattle.pim_hello.proofs.Words.{not, ◌&&◌, map, filter, option_map, AllByRecursion, IsStrictlySortedBy, nat_cmp}
use Rattle.pim_hello.proofs.Words.{is_lt, slice_cmp, nat_list_cmp_total, is_at, lookup, keys_of, Ordering, Less, eq-eqb}
use Rattle.pim_hello.proofs.Words.{eqb-true, exact_bytes, Parameters, Neighbour, Table, waited, is_over}
use Rattle.pim_hello.proofs.Words.{ExpiringTwiceIsExpiringOnce, TablesThatAgreeAreOne}
use Rattle.std.specs.FinMap.Entries.{find, below_all, is_sorted, same_entries}

-- ---- expiry

abbrev Entries : Type 0
Entries = List (List ℕ × Neighbour)

abbrev neighbour : Parameters → Option ℕ → Neighbour
neighbour parameters left = record { parameters = parameters; left = left }

abbrev table_of : ℕ → Entries → Table
table_of moment entries = record { moment = moment; entries = entries }

abbrev wait : ℕ → List ℕ × Neighbour → List ℕ × Neighbour
wait passed entry = (entry.0, waited passed entry.1)

abbrev stays : List ℕ × Neighbour → Bool
stays entry = not (is_over entry.1.left)

less_both : (left : Option ℕ) (m n : ℕ) → option_map (λ left. left - n) (option_map (λ left. left - m) left) ≡ option_map (λ left. left - (m + n)) left
less_both None m n = refl
less_both (Some left) m n = let e : (left - m) - n ≡ left - (m + n) = omega arith in ap (λ (k : ℕ). Some k) e

wait_both : (m n : ℕ) (entry : List ℕ × Neighbour) → wait n (wait m entry) ≡ wait (m + n) entry
wait_both m n entry = ap (λ (left : Option ℕ). (entry.0, neighbour entry.1.parameters left)) (less_both entry.1.left m n)

over_stays : (left : Option ℕ) (m n : ℕ) → is_over (option_map (λ left. left - m) left) ≡ true → is_over (option_map (λ left. left - (m + n)) left) ≡ true
over_stays None m n h = h
over_stays (Some left) m n h = eq-eqb (left - (m + n)) 0 (omega (arith, eqb-true (left - m) 0 h))

expire_step : (over : Bool) (m n : ℕ) (entry : List ℕ × Neighbour) (es : Entries) → is_over (waited m entry.1).left ≡ over
    → filter stays (map (wait n) (filter stays (map (wait m) es))) ≡ filter stays (map (wait (m + n)) es)
    → filter stays (map (wait n) (cond (not over) (wait m entry ∷ filter stays (map (wait m) es)) (filter stays (map (wait m) es)))) ≡ filter stays (map (wait (m + n)) (entry ∷ es))
expire_step true m n entry es o rest =
    rest ∙ sym (ap (λ over. cond (not over) (wait (m + n) entry ∷ filter stays (map (wait (m + n)) es)) (filter stays (map (wait (m + n)) es))) (over_stays entry.1.left m n o))
expire_step false m n entry es o rest =
    ap (λ (tail : Entries). cond (stays (wait n (wait m entry))) (wait n (wait m entry) ∷ tail) tail) rest
    ∙ ap (λ (e : List ℕ × Neighbour). cond (stays e) (e ∷ filter stays (map (wait (m + n)) es)) (filter stays (map (wait (m + n)) es))) (wait_both m n entry)

expire_entries : (m n : ℕ) (es : Entries) → filter stays (map (wait n) (filter stays (map (wait m) es))) ≡ filter stays (map (wait (m + n)) es)
expire_entries m n [] = refl
expire_entries m n (entry ∷ es) = expire_step (is_over (waited m entry.1).left) m n entry es refl (expire_entries m n es)

pub expiring_twice_is_expiring_once : ExpiringTwiceIsExpiringOnce
expiring_twice_is_expiring_once table first second =
    let m : ℕ = first - table.moment in
    let n : ℕ = second - (table.moment + m) in
    let e : m + n ≡ max first second - table.moment = omega arith in
    let then : table.moment + m + n ≡ table.moment + (max first second - table.moment) = omega arith in
    ap (λ (es : Entries). table_of (table.moment + m + n) (es)) (expire_entries m n table.entries)
    ∙ ap (λ (k : ℕ). table_of (k) (filter stays (map (wait (m + n)) table.entries))) then
    ∙ ap (λ (k : ℕ). table_of (table.moment + (max first second - table.moment)) (filter stays (map (wait k) table.entries))) e

-- ---- agreement

both : (a b : Bool) → T a → T b → T (a && b)
both true b p q = q
both false b p q = absurd p

module _ {K X : Type 0} (cmp : K → K → Ordering) where
  below_test : (k : K) (es : List (K × X)) → AllByRecursion (λ y. cmp k y ≡ Less) (keys_of es) → T (below_all cmp k es)
  below_test k [] h = tt
  below_test k (e ∷ es) h = both (is_lt (cmp k e.0)) (below_all cmp k es) (subst (λ o. T (is_lt o)) (sym h.0) tt) (below_test k es h.1)

  sorted_test : (es : List (K × X)) → IsStrictlySortedBy cmp (keys_of es) → T (is_sorted cmp es)
  unfolding IsStrictlySortedBy
  sorted_test [] h = tt
  sorted_test (e ∷ es) h = both (below_all cmp e.0 es) (is_sorted cmp es) (below_test e.0 es h.0) (sorted_test es h.1)

  find_is : (q : K) (es : List (K × X)) → find cmp q es ≡ lookup (is_at (cmp q)) es
  find_is q [] = refl
  find_is q (e ∷ es) = ap (cond (is_at (cmp q) e.0) (Some e.1)) (find_is q es)

pub tables_that_agree_are_one : TablesThatAgreeAreOne
tables_that_agree_are_one one other ascending ascending' moment agree =
    let by = slice_cmp nat_cmp in
    let same : one.entries ≡ other.entries =
    same_entries by nat_list_cmp_total exact_bytes one.entries other.entries (sorted_test by one.entries ascending) (sorted_test by other.entries ascending')
    (λ address. find_is by address one.entries ∙ agree address ∙ sym (find_is by address other.entries)) in
    ap (λ (k : ℕ). table_of (k) (one.entries)) moment ∙ ap (λ (es : Entries). table_of (other.moment) (es)) same
