-- How rows and ranges stand together: with no rows, and with one more.
use Rattle.pim_addr.proofs.Words.{◌≡◌, ℕ, zero, suc, ◌+◌, ◌*◌, ◌/◌, ◌%◌, ◌-◌, ◌^◌, ◌<◌, ◌≤◌, ◌⊎◌, inl, inr, Bool, true, false}
use Rattle.pim_addr.proofs.Words.{cond, List, [], ◌∷◌, length, map, filter, refl, sym, ap, subst, ◌∙◌, arith, Option, Some, None}
use Rattle.pim_addr.proofs.Words.{AllByRecursion, insert, IsStrictlySortedBy, is_some, OnOk, OnErr, Result, Ok, Err, is_eq}
use Rattle.pim_addr.proofs.Words.{match_ordering, nat_cmp, ordering_then, MatchOrdering, ranks, nat_cmp_is, slice_cmp, Ordering}
use Rattle.pim_addr.proofs.Words.{Less, Equal, Greater, false≢true, lt-ltb, le-ltb, cases_lt, eqb-true, div-add-mod'}
use Rattle.pim_addr.proofs.Words.{length-insert, AddressFamily, Route, mask_length, number_of, last_number, Prefix, Row}
use Rattle.pim_addr.proofs.Words.{prefix_cmp, row_at, with_row, IsRealRow, matches, longer_of, longest, rows_seen, answers_seen}
use Rattle.pim_addr.proofs.Words.{before, answer_of, AreRanges, answer_with, AnswersBetween, longest_match, Stand, IsGap}
use Rattle.pim_addr.proofs.Numbers.{numbers_are_in_order, between}
use Rattle.pim_addr.proofs.RowOrder.{prefix_total}
use Rattle.pim_addr.proofs.Inserted.{sorted_insert}

nothing_stands : (family : AddressFamily) → Stand family [] [] []
unfolding before IsStrictlySortedBy
nothing_stands family = record {
  is_map = record { limit = omega arith; ascending = tt; real = tt };
  ranges = record { rises = tt; paired = refl };
  few = omega arith;
  leads = λ address h. refl;
}

pub no_rows : {A N : Type 0} (family : AddressFamily) (bytes_of : A → List ℕ) (value_of : N → ℕ) (rows : List (Route A)) (ends : List N) (answers : List (Option (Route A))) →
    rows ≡ [] → ends ≡ [] → answers ≡ [] → Stand family (rows_seen bytes_of rows) (map value_of ends) (answers_seen bytes_of answers)
no_rows family bytes_of value_of rows ends answers e f h = rw (e, f, h) (nothing_stands family)

-- ---- of the rows that match, those of one length are one

one_of_a_length : (family : AddressFamily) (address : List ℕ) (one other : Row) → IsRealRow family one → IsRealRow family other → one.0.bits ≡ other.0.bits →
    matches family address one ≡ true → matches family address other ≡ true → slice_cmp nat_cmp one.0.address other.0.address ≡ Equal
one_of_a_length family address one other real real' same is is' =
    let d : ℕ = 2 ^ (mask_length family - one.0.bits) in
    let power : 2 ^ (mask_length family - other.0.bits) ≡ d = ap (λ b. 2 ^ (mask_length family - b)) (sym same) in
    let mine : number_of one.0.address / d ≡ number_of address / d = eqb-true _ _ is in
    let its : number_of other.0.address / d ≡ number_of address / d =
    subst (λ e. number_of other.0.address / e ≡ number_of address / e) power (eqb-true _ _ is') in
    let none : number_of one.0.address % d ≡ 0 = eqb-true _ _ real.within in
    let none' : number_of other.0.address % d ≡ 0 = ap (λ e. number_of other.0.address % e) (sym power) ∙ eqb-true _ _ real'.within in
    let equal : number_of one.0.address ≡ number_of other.0.address =
    sym (div-add-mod' (number_of one.0.address) d) ∙ (λ i. (mine ∙ sym its) i * d + (none ∙ sym none') i) ∙ div-add-mod' (number_of other.0.address) d in
    numbers_are_in_order family one.0.address other.0.address real.prefix real'.prefix ∙ sym (nat_cmp_is _ _ Equal equal)

-- a row behind another that both match is shorter
shorter_behind : (family : AddressFamily) (address : List ℕ) (row front : Row) → IsRealRow family row → IsRealRow family front → prefix_cmp row.0 front.0 ≡ Greater →
    matches family address row ≡ true → matches family address front ≡ true → row.0.bits < front.0.bits
unfolding prefix_cmp
shorter_behind family address row front real real' e is is' = by (nat_cmp front.0.bits row.0.bits) (ranks front.0.bits row.0.bits) e
  where
    by : (r : Ordering) → MatchOrdering r (front.0.bits < row.0.bits) (front.0.bits ≡ row.0.bits) (row.0.bits < front.0.bits) →
        ordering_then r (slice_cmp nat_cmp row.0.address front.0.address) ≡ Greater → row.0.bits < front.0.bits
    by Less l e = absurd (cc)
    by Equal l e = let same = one_of_a_length family address row front real real' (sym l) is is' in absurd (cc)
    by Greater l e = l

-- ---- the longest that matches, with one more row

longer_last : (row front : Row) (answer : Option Row) → row.0.bits < front.0.bits → longer_of front (Some (longer_of row answer)) ≡ longer_of row (Some (longer_of front answer))
longer_last row front None l = rw (le-ltb front.0.bits row.0.bits (omega arith), lt-ltb row.0.bits front.0.bits l) refl
longer_last row front (Some other) l = by (cases_lt row.0.bits other.0.bits) (cases_lt front.0.bits other.0.bits)
  where
    by : (row.0.bits < other.0.bits) ⊎ (other.0.bits ≤ row.0.bits) → (front.0.bits < other.0.bits) ⊎ (other.0.bits ≤ front.0.bits) →
        longer_of front (Some (longer_of row (Some other))) ≡ longer_of row (Some (longer_of front (Some other)))
    by (inl m) (inl n) = rw (lt-ltb row.0.bits other.0.bits m, lt-ltb front.0.bits other.0.bits n, lt-ltb row.0.bits other.0.bits m) refl
    by (inl m) (inr n) = rw (lt-ltb row.0.bits other.0.bits m, le-ltb front.0.bits other.0.bits n, lt-ltb row.0.bits front.0.bits l) refl
    by (inr m) n = rw (le-ltb row.0.bits other.0.bits m, le-ltb front.0.bits row.0.bits (omega arith), le-ltb front.0.bits other.0.bits (omega arith), lt-ltb row.0.bits front.0.bits l) refl

-- a row that matches answers where no longer one does
abbrev answered : Row → Bool → Option Row → Option Row
answered row is answer = cond is (Some (longer_of row answer)) answer

first_of : (row : Row) (rows : List Row) (is : Bool) → longest (cond is (row ∷ rows) rows) ≡ answered row is (longest rows)
first_of row rows true = refl
first_of row rows false = refl

module _ (family : AddressFamily) (address : List ℕ) (row : Row) (real : IsRealRow family row) where
  behind : (front : Row) (rows more : List Row) (t u : Bool) → (t ≡ true → u ≡ true → row.0.bits < front.0.bits) → longest more ≡ answered row t (longest rows) →
      longest (cond u (front ∷ more) more) ≡ answered row t (longest (cond u (front ∷ rows) rows))
  behind front rows more t false shorter later = later
  behind front rows more false true shorter later = ap (λ answer. Some (longer_of front answer)) later
  behind front rows more true true shorter later = ap (λ answer. Some (longer_of front answer)) later ∙ ap Some (longer_last row front (longest rows) (shorter refl refl))

  step : (front : Row) (rows : List Row) → IsRealRow family front → (r : Ordering) → prefix_cmp row.0 front.0 ≡ r → is_eq r ≡ false →
      longest (filter (matches family address) (with_row row.0 row.1 rows)) ≡ answered row (matches family address row) (longest (filter (matches family address) rows)) →
      longest (filter (matches family address) (match_ordering r (row ∷ front ∷ rows) ((front.0, row.1) ∷ rows) (front ∷ with_row row.0 row.1 rows)))
      ≡ answered row (matches family address row) (longest (filter (matches family address) (front ∷ rows)))
  step front rows real' Less e differs later = first_of row (filter (matches family address) (front ∷ rows)) (matches family address row)
  step front rows real' Equal e differs later = absurd (false≢true (sym differs))
  step front rows real' Greater e differs later =
      behind front (filter (matches family address) rows) (filter (matches family address) (with_row row.0 row.1 rows)) (matches family address row) (matches family address front)
      (λ is is'. shorter_behind family address row front real real' e is is') later

  pub longest_with : (rows : List Row) → AllByRecursion (IsRealRow family) rows → is_some (row_at row.0 rows) ≡ false →
      longest_match family address (with_row row.0 row.1 rows) ≡ answered row (matches family address row) (longest_match family address rows)
  longest_with [] all absent = first_of row [] (matches family address row)
  longest_with (front ∷ rows) all absent =
      let apart = not_here (is_eq (prefix_cmp row.0 front.0)) front.1 (row_at row.0 rows) absent in
      step front rows all.0 (prefix_cmp row.0 front.0) refl apart.0 (longest_with rows all.1 apart.1)
    where
      not_here : (b : Bool) (x : List ℕ) (o : Option (List ℕ)) → is_some (cond b (Some x) o) ≡ false → (b ≡ false) × (is_some o ≡ false)
      not_here true x o h = absurd (false≢true (sym h))
      not_here false x o h = (refl, h)

-- ---- one more row

all_insert : {X : Type 0} (P : X → Type 0) (xs : List X) (i : ℕ) (x : X) → AllByRecursion P xs → P x → AllByRecursion P (insert xs i x)
all_insert P [] zero x h p = (p, tt)
all_insert P [] (suc i) x h p = (p, tt)
all_insert P (y ∷ ys) zero x h p = (p, h)
all_insert P (y ∷ ys) (suc i) x h p = (h.0, all_insert P ys i x h.1 p)

pub one_more_stands : (family : AddressFamily) (rows : List Row) (ends : List ℕ) (answers : List (Option Row)) (ends' : List ℕ) (answers' : List (Option Row)) (row : Row) (place : ℕ) →
    Stand family rows ends answers → IsGap row.0 rows place → IsRealRow family row → length rows < 4096 → AreRanges ends' answers' → length ends' ≤ length ends + 2 →
    AnswersBetween (number_of row.0.address) (last_number family row.0.bits row.0.address) row (answer_of ends answers) (answer_of ends' answers') →
    Stand family (with_row row.0 row.1 rows) ends' answers'
one_more_stands family rows ends answers ends' answers' row place stand gap real few ranges more between_them =
    let put : insert rows place row ≡ with_row row.0 row.1 rows = gap.after row.1 in
    let longer : length (with_row row.0 row.1 rows) ≡ length rows + 1 = sym (ap length put) ∙ length-insert rows place row gap.within in
    record {
      is_map = record {
        limit = omega (arith, longer);
        ascending = sorted_insert prefix_cmp prefix_total row.0 row.1 rows stand.is_map.ascending;
        real = subst (AllByRecursion (IsRealRow family)) put (all_insert (IsRealRow family) rows place row stand.is_map.real real);
      };
      ranges = ranges;
      few = omega (arith, stand.few, more, longer);
      leads = λ address h.
          between_them (number_of address) ∙ ap (λ answer. answer_with (number_of row.0.address) (last_number family row.0.bits row.0.address) row (number_of address) answer) (stand.leads address h)
          ∙ ap (λ is. answered row is (longest_match family address rows)) (sym (between family row.0.bits row.0.address address real.within))
          ∙ sym (longest_with family address row real rows stand.is_map.real gap.absent);
    }

all_with_row : (P : Prefix → Type 0) (p : Prefix) (to : List ℕ) (rows : List Row) → P p → AllByRecursion (λ row. P row.0) rows → AllByRecursion (λ row. P row.0) (with_row p to rows)
all_with_row P p to [] here h = (here, tt)
all_with_row P p to (row ∷ rows) here h = by (prefix_cmp p row.0) (all_with_row P p to rows here h.1)
  where
    by : (r : Ordering) → AllByRecursion (λ row. P row.0) (with_row p to rows) → AllByRecursion (λ row. P row.0) (match_ordering r ((p, to) ∷ row ∷ rows) ((row.0, to) ∷ rows) (row ∷ with_row p to rows))
    by Less later = (here, h)
    by Equal later = h
    by Greater later = (h.0, later)

-- what holds of each prefix holds after a row was added, or wasn't
pub all_added : {E : Type 0} (P : Prefix → Type 0) (p : Prefix) (to : List ℕ) (old new : List Row) (result : Result (Unit {0}) E) → OnOk result (new ≡ with_row p to old) → OnErr result (new ≡ old) →
    P p → AllByRecursion (λ row. P row.0) old → AllByRecursion (λ row. P row.0) new
all_added P p to old new (Ok done) ok err here h = subst (AllByRecursion (λ (row : Row). P row.0)) (sym ok) (all_with_row P p to old here h)
all_added P p to old new (Err e) ok err here h = subst (AllByRecursion (λ (row : Row). P row.0)) (sym err) h
