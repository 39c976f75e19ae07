-- Sources that are sorted, and looked for.
use Rattle.pim_jp.proofs.Words.{◌≡◌, ◌∙◌, sym, ap, ℕ, zero, suc, ◌+◌, ◌-◌, ◌*◌, ◌≤◌, ◌<◌, ◌↔◌, Bool, true, false, ◌&&◌, ◌||◌}
use Rattle.pim_jp.proofs.Words.{IsTrue, List, [], ◌∷◌, Ordering, length, get_or, nat_eq, refl, subst, take, drop, length-drop}
use Rattle.pim_jp.proofs.Words.{take-append-drop, length-take-le, ⊎_elim, ◌⊎◌, inl, inr, arith, cases_lt, ne_eqb, eq-eqb}
use Rattle.pim_jp.proofs.Words.{eqb-true, from_bool, IsSorted, IsSortedBy, IsPartitionPoint, nat_cmp, is_lt, is_eq}
use Rattle.pim_jp.proofs.Words.{ordering_index, MatchOrdering, get_or_default, drop-drop, list_any_none, list_any_at}
use Rattle.pim_jp.proofs.Words.{searchable_from_sorted, AddressFamily, AreBytes, IsAddress, address_length, number_of}
use Rattle.pim_jp.proofs.Words.{NumbersAreInOrder, source_length, source_value, Entry, Star, Source, Rpt, entry_of, entries_of}
use Rattle.pim_jp.proofs.Words.{source_of, is_star, same_source, is_in, entry_at, AreSame, is_among, is_listed}
use Rattle.std.specs.Cmp.{ranks}
use Rattle.std.specs.declared.cmp.Ordering.TheVariants.{Less, Equal, Greater}
use Rattle.std.specs.Cmp.Lexicographic.{pointwise, texts_ties}
use Rattle.std.proofs.lemmas.Cmp.{nat_cmp_total}
use Rattle.pim_addr.specs.declared.family.AddressFamily.TheVariants.{Ipv4, Ipv6}
use Rattle.pim_jp.proofs.Counts.{AreBytes-drop, AreBytes-first}
use Rattle.pim_jp.proofs.EntryLoop.{any_more}

-- ---- addresses and their numbers

equal_is : (a b : ℕ) (o : Ordering) → MatchOrdering o (a < b) (a ≡ b) (b < a) → is_eq o ≡ nat_eq a b
equal_is a b Less h = sym (ne_eqb a b (λ e. omega arith))
equal_is a b Equal h = sym (eq-eqb a b h)
equal_is a b Greater h = sym (ne_eqb a b (λ e. omega arith))

-- addresses are equal exactly if their numbers are
pub same_number : NumbersAreInOrder → (family : AddressFamily) (this that : List ℕ) → IsAddress family this → IsAddress family that
    → pointwise nat_eq this that ≡ nat_eq (number_of this) (number_of that)
same_number law family this that a b =
    texts_ties this that ∙ ap is_eq (law family this that a b) ∙ equal_is (number_of this) (number_of that) (nat_cmp (number_of this) (number_of that)) (ranks (number_of this) (number_of that))

address_of_entry : (address : List ℕ) (wildcard rpt : Bool)
    → (source_of (entry_of (record { address = address; wildcard = wildcard; rpt = rpt }))).address ≡ address
address_of_entry address true true = refl
address_of_entry address false true = refl
address_of_entry address true false = refl
address_of_entry address false false = refl

cut_address : (size place : ℕ) (bytes : List ℕ) → AreBytes bytes → place + size ≤ length bytes
    → (length (take size (drop place bytes)) ≡ size) × AreBytes (take size (drop place bytes))
cut_address size place bytes are long = (
  length-take-le size (drop place bytes) (omega (arith, length-drop place bytes)),
  AreBytes-first (take size (drop place bytes)) (drop size (drop place bytes))
      (subst AreBytes (sym (take-append-drop size (drop place bytes))) (AreBytes-drop place bytes are)),
)

entry_within : (family : AddressFamily) (place count size : ℕ) → place < count → count * source_length family ≤ size
    → place * source_length family + 4 + address_length family ≤ size
entry_within Ipv4 place count size below long = omega arith
entry_within Ipv6 place count size below long = omega arith

-- the source of an entry that is there is an address
pub entry_has_address : (family : AddressFamily) (place count : ℕ) (bytes : List ℕ) → AreBytes bytes → place < count
    → count * source_length family ≤ length bytes → IsAddress family (source_of (entry_at family place bytes)).address
entry_has_address family place count bytes are below long =
    let entry = drop (place * source_length family) bytes in
    let value = source_value family entry in
    subst (IsAddress family) (sym (address_of_entry value.address value.wildcard value.rpt))
    (subst (IsAddress family) (ap (take (address_length family)) (sym (drop-drop 4 (place * source_length family) bytes)))
    (cut_address (address_length family) (place * source_length family + 4) bytes are (entry_within family place count (length bytes) below long)))

-- ---- a search among numbers in order

less_is : (a b : ℕ) (o : Ordering) → MatchOrdering o (a < b) (a ≡ b) (b < a) → is_lt o ≡ true → a < b
less_is a b Less m h = m
less_is a b Equal m h = absurd cc
less_is a b Greater m h = absurd cc

not_less_is : (a b : ℕ) (o : Ordering) → MatchOrdering o (a < b) (a ≡ b) (b < a) → is_lt o ≡ false → b ≤ a
not_less_is a b Less m h = absurd cc
not_less_is a b Equal m h = omega arith
not_less_is a b Greater m h = omega arith

stays_above : (a b c : ℕ) (o p : Ordering) → MatchOrdering o (a < b) (a ≡ b) (b < a) → MatchOrdering p (c < b) (c ≡ b) (b < c) → b < a
    → ordering_index o ≤ ordering_index p → b < c
stays_above a b c Less p m n above rises = absurd (omega arith)
stays_above a b c Equal p m n above rises = absurd (omega arith)
stays_above a b c Greater Less m n above rises = absurd (omega arith)
stays_above a b c Greater Equal m n above rises = absurd (omega arith)
stays_above a b c Greater Greater m n above rises = n

stays_below : (a b c : ℕ) (o p : Ordering) → MatchOrdering o (a < b) (a ≡ b) (b < a) → MatchOrdering p (c < b) (c ≡ b) (b < c) → a < b
    → ordering_index p ≤ ordering_index o → c < b
stays_below a b c Less Less m n below rises = n
stays_below a b c Less Equal m n below rises = absurd (omega arith)
stays_below a b c Less Greater m n below rises = absurd (omega arith)
stays_below a b c Equal p m n below rises = absurd (omega arith)
stays_below a b c Greater p m n below rises = absurd (omega arith)

module _ {N : Type 0} (value_of : N → ℕ) (cmp : N → N → Ordering) (order : (a b : N) → cmp a b ≡ nat_cmp (value_of a) (value_of b)) where
  less_number : (a b : N) → is_lt (cmp a b) ≡ true → value_of a < value_of b
  less_number a b h = less_is (value_of a) (value_of b) (nat_cmp (value_of a) (value_of b)) (ranks (value_of a) (value_of b)) (sym (ap is_lt (order a b)) ∙ h)

  not_less_number : (a b : N) → is_lt (cmp a b) ≡ false → value_of b ≤ value_of a
  not_less_number a b h = not_less_is (value_of a) (value_of b) (nat_cmp (value_of a) (value_of b)) (ranks (value_of a) (value_of b)) (sym (ap is_lt (order a b)) ∙ h)

  -- what is above one of a list in order is so of those behind it
  above_later : (xs : List N) (n : ℕ) (i k : ℕ) (d : N) → IsSorted cmp xs → i ≤ k → k < length xs → n < value_of (get_or xs i d) → n < value_of (get_or xs k d)
  above_later xs n i k d sorted later within above =
      let sorted' : IsSortedBy (λ a b. is_lt (nat_cmp (value_of a) (value_of b))) xs = λ j e low high. ap is_lt (sym (order (get_or xs (j + 1) e) (get_or xs j e))) ∙ sorted j e low high in
      let rises = searchable_from_sorted nat_cmp_total value_of xs n sorted' in
      stays_above (value_of (get_or xs i d)) n (value_of (get_or xs k d)) (nat_cmp (value_of (get_or xs i d)) n) (nat_cmp (value_of (get_or xs k d)) n)
      (ranks (value_of (get_or xs i d)) n) (ranks (value_of (get_or xs k d)) n) above (rises i k d later within)

  -- what is below one of a list in order is so of those before it
  below_sooner : (xs : List N) (n : ℕ) (i k : ℕ) (d : N) → IsSorted cmp xs → k ≤ i → i < length xs → value_of (get_or xs i d) < n → value_of (get_or xs k d) < n
  below_sooner xs n i k d sorted sooner within below =
      let sorted' : IsSortedBy (λ a b. is_lt (nat_cmp (value_of a) (value_of b))) xs = λ j e low high. ap is_lt (sym (order (get_or xs (j + 1) e) (get_or xs j e))) ∙ sorted j e low high in
      let rises = searchable_from_sorted nat_cmp_total value_of xs n sorted' in
      stays_below (value_of (get_or xs i d)) n (value_of (get_or xs k d)) (nat_cmp (value_of (get_or xs i d)) n) (nat_cmp (value_of (get_or xs k d)) n)
      (ranks (value_of (get_or xs i d)) n) (ranks (value_of (get_or xs k d)) n) below (rises k i d sooner within)

  -- a number that is above what stands at a place and below what stands behind it is none of a list in order
  missed_between : (xs : List N) (item x : N) (guess : ℕ) (is_above : Bool) → IsSorted cmp xs → guess < length xs → x ≡ get_or xs guess x
      → is_above ≡ is_lt (cmp x item)
      → ((d : N) → guess + from_bool is_above < length xs → value_of item < value_of (get_or xs (guess + from_bool is_above) d))
      → (is_above ≡ false → guess ≡ 0)
      → is_among value_of xs (value_of item) ≡ false
  missed_between xs item x guess true sorted within at is behind first =
      list_any_none (λ other. nat_eq (value_of item) (value_of other)) xs (λ k d inside.
      ⊎_elim
      (λ (sooner : k < guess + 1).
      let here : x ≡ get_or xs guess d = at ∙ get_or_default xs guess x d within in
      let less : value_of (get_or xs guess d) < value_of item = subst (λ y. value_of y < value_of item) here (less_number x item (sym is)) in
      ne_eqb _ _ (λ e. omega (arith, e, below_sooner xs (value_of item) guess k d sorted (omega arith) within less)))
      (λ (later : guess + 1 ≤ k).
      ne_eqb _ _ (λ e. omega (arith, e, above_later xs (value_of item) (guess + 1) k d sorted later inside (behind d (omega arith)))))
      (cases_lt k (guess + 1)))
  missed_between xs item x guess false sorted within at is behind first =
      let none : guess ≡ 0 = first refl in
      list_any_none (λ other. nat_eq (value_of item) (value_of other)) xs (λ k d inside.
      ne_eqb _ _ (λ e. omega (arith, e, above_later xs (value_of item) (guess + 0) k d sorted (omega arith) inside (behind d (omega arith)))))

  module _ (xs : List N) (item x : N) (guess step : ℕ) where
    pub missed_at_end : (is_above : Bool) → IsSorted cmp xs → guess < length xs → x ≡ get_or xs guess x → is_above ≡ is_lt (cmp x item)
        → step ≡ from_bool is_above → guess + step ≡ length xs → is_among value_of xs (value_of item) ≡ false
    missed_at_end true sorted within at is one end =
        missed_between xs item x guess true sorted within at is (λ d inside. absurd (omega (arith, inside, end, one))) (λ h. absurd cc)
    missed_at_end false sorted within at is one end = absurd (omega (arith, within, end, one))

    pub missed_inside : (is_above : Bool) → IsSorted cmp xs → guess < length xs → x ≡ get_or xs guess x → is_above ≡ is_lt (cmp x item)
        → step ≡ from_bool is_above → (y : N) (is_below : Bool) → y ≡ get_or xs (guess + step) y → is_below ≡ is_lt (cmp item y)
        → (is_below && (is_above || nat_eq guess 0)) ≡ true → is_among value_of xs (value_of item) ≡ false
    missed_inside is_above sorted within at is one y false behind test both = absurd cc
    missed_inside true sorted within at is one y true behind test both =
        missed_between xs item x guess true sorted within at is
        (λ d inside. subst (λ z. value_of item < value_of z) (behind ∙ get_or_default xs (guess + step) y d (omega (arith, inside, one)) ∙ ap (λ n. get_or xs (guess + n) d) one)
        (less_number item y (sym test)))
        (λ h. absurd cc)
    missed_inside false sorted within at is one y true behind test both =
        missed_between xs item x guess false sorted within at is
        (λ d inside. subst (λ z. value_of item < value_of z) (behind ∙ get_or_default xs (guess + step) y d (omega (arith, inside, one)) ∙ ap (λ n. get_or xs (guess + n) d) one)
        (less_number item y (sym test)))
        (λ h. eqb-true guess 0 both)

  missed : (xs : List N) (item x : N) (below : ℕ) → IsSorted cmp xs
      → IsPartitionPoint (λ other. is_lt (cmp other item) ≡ true) (λ other. is_lt (cmp other item) ≡ false) xs below
      → (below < length xs → x ≡ get_or xs below x) → (value_of x ≡ value_of item → ⊥)
      → is_among value_of xs (value_of item) ≡ false
  missed xs item x below sorted point at apart =
      list_any_none (λ other. nat_eq (value_of item) (value_of other)) xs (λ k d within.
      ⊎_elim
      (λ (before : k < below). ne_eqb _ _ (λ e. omega (arith, e, less_number (get_or xs k d) item (point.0 k d (omega arith) before))))
      (λ (behind : below ≤ k).
      let first : x ≡ get_or xs below d = at (omega arith) ∙ get_or_default xs below x d (omega arith) in
      let above : value_of item < value_of (get_or xs below d) =
      ⊎_elim
      (λ (less : value_of item < value_of (get_or xs below d)). less)
      (λ (most : value_of (get_or xs below d) ≤ value_of item).
      absurd (apart (ap value_of first ∙ omega (arith, most, not_less_number (get_or xs below d) item (point.1 below d (omega arith) (omega arith))))))
      (cases_lt (value_of item) (value_of (get_or xs below d))) in
      ne_eqb _ _ (λ e. omega (arith, e, above_later xs (value_of item) below k d sorted behind within above)))
      (cases_lt k below))

  pub found_or_missed : (eq : N → N → Bool) (xs : List N) (item x : N) (below next : ℕ)
      → ((a b : N) → IsTrue (eq a b) ↔ (value_of a ≡ value_of b))
      → IsSorted cmp xs → next < length xs → (below < length xs → next ≡ below)
      → IsPartitionPoint (λ other. is_lt (cmp other item) ≡ true) (λ other. is_lt (cmp other item) ≡ false) xs below
      → x ≡ get_or xs next x → (answer : Bool) → answer ≡ eq x item
      → answer ≡ is_among value_of xs (value_of item)
  found_or_missed eq xs item x below next equality sorted within first point at true is =
      let same : value_of x ≡ value_of item = (equality x item).0 (sym is) in
      sym (list_any_at (λ other. nat_eq (value_of item) (value_of other)) xs next x within
      (eq-eqb _ _ (sym same ∙ ap value_of at)))
  found_or_missed eq xs item x below next equality sorted within first point at false is =
      sym (missed xs item x below sorted point (λ inside. rw (← first inside) at)
      (λ same. let yes' = (equality x item).1 same in absurd cc))

-- the place that is tested: the next behind those below, or the last
pub next_place : (below count step : ℕ) → step ≡ from_bool (nat_eq below count) → below ≤ count → 0 < count
    → (below - step < count) × (below < count → below - step ≡ below)
next_place below count step is bound some =
    ⊎_elim
    (λ (less : below < count).
    let none : step ≡ 0 = is ∙ ap from_bool (ne_eqb below count (λ e. omega arith)) in
    (omega arith, λ h. omega arith))
    (λ (all : count ≤ below).
    let one : step ≡ 1 = is ∙ ap from_bool (eq-eqb below count (omega arith)) in
    (omega arith, λ h. absurd (omega arith)))
    (cases_lt below count)

-- ---- sources that are listed

pub listed_permuted : {N : Type 0} (value_of : N → ℕ) (xs ys sorted_xs sorted_ys : List N) (this : Entry (List ℕ)) → AreSame sorted_xs xs
    → AreSame sorted_ys ys → is_listed value_of xs ys this ≡ is_listed value_of sorted_xs sorted_ys this
listed_permuted value_of xs ys sorted_xs sorted_ys (Star rp) h k = refl
listed_permuted value_of xs ys sorted_xs sorted_ys (Source source) h k = sym (h (λ other. nat_eq (number_of source) (value_of other)))
listed_permuted value_of xs ys sorted_xs sorted_ys (Rpt source) h k = sym (k (λ other. nat_eq (number_of source) (value_of other)))

-- ---- entries that are looked for in their order

pub place_more : (P : ℕ → Type 0) (count : ℕ) → ((place : ℕ) → place < count → P place) → P count → (place : ℕ) → place < count + 1 → P place
place_more P count before at place below =
    ⊎_elim
    (λ (early : place < count). before place early)
    (λ (late : count ≤ place). let same : place ≡ count = omega arith in rw same at)
    (cases_lt place count)

-- ---- numbers that are looked for two at a time

module _ {N : Type 0} (value_of : N → ℕ) where
  is_first : (number : ℕ) (x : N) (rest : Bool) (test : Bool) → nat_eq number (value_of x) ≡ test → (test || rest) ≡ true → (rest ≡ true) ⊎ (number ≡ value_of x)
  is_first number x rest true is found = inr (eqb-true number (value_of x) is)
  is_first number x rest false is found = inl found

  -- a number that is one of some which aren't among others isn't among them either
  none_among : (sorted numbers : List N) (number : ℕ) → ((k : ℕ) (d : N) → k < length numbers → is_among value_of sorted (value_of (get_or numbers k d)) ≡ false)
      → is_among value_of numbers number ≡ true → is_among value_of sorted number ≡ false
  none_among sorted [] number missing found = absurd cc
  none_among sorted (x ∷ numbers) number missing found =
      ⊎_elim
      (λ (later : is_among value_of numbers number ≡ true). none_among sorted numbers number (λ k d below. missing (suc k) d (omega arith)) later)
      (λ (here : number ≡ value_of x). ap (is_among value_of sorted) here ∙ missing 0 x (omega arith))
      (is_first number x (is_among value_of numbers number) (nat_eq number (value_of x)) refl found)

  pub listed_elsewhere : (sources rpts these_sources these_rpts : List N)
      → ((k : ℕ) (d : N) → k < length these_sources → is_among value_of sources (value_of (get_or these_sources k d)) ≡ false)
      → ((k : ℕ) (d : N) → k < length these_rpts → is_among value_of rpts (value_of (get_or these_rpts k d)) ≡ false)
      → (this : Entry (List ℕ)) → is_listed value_of these_sources these_rpts this ≡ true → is_listed value_of sources rpts this ≡ false
  listed_elsewhere sources rpts these_sources these_rpts no_source no_rpt (Star rp) found = refl
  listed_elsewhere sources rpts these_sources these_rpts no_source no_rpt (Source source) found = none_among sources these_sources (number_of source) no_source found
  listed_elsewhere sources rpts these_sources these_rpts no_source no_rpt (Rpt source) found = none_among rpts these_rpts (number_of source) no_rpt found

  pub none_listed : (sources rpts these_sources these_rpts : List N) (others : List (Entry (List ℕ))) (this : Entry (List ℕ))
      → (is_listed value_of these_sources these_rpts this ≡ true → is_listed value_of sources rpts this ≡ false)
      → (is_star this ≡ false → is_in others this ≡ true) → is_in others this ≡ is_listed value_of these_sources these_rpts this
      → is_listed value_of sources rpts this ≡ false
  none_listed sources rpts these_sources these_rpts others (Star rp) apart is_there same = refl
  none_listed sources rpts these_sources these_rpts others (Source source) apart is_there same = apart (sym same ∙ is_there refl)
  none_listed sources rpts these_sources these_rpts others (Rpt source) apart is_there same = apart (sym same ∙ is_there refl)

pub and_left : (a b : Bool) → (a && b) ≡ true → a ≡ true
and_left true b both = refl
and_left false b both = both

pub and_right : (a b : Bool) → (a && b) ≡ true → b ≡ true
and_right true b both = both
and_right false b both = absurd cc

pub listed_alone : (all listed left : Bool) → all ≡ (listed || left) → left ≡ false → all ≡ listed
listed_alone all true left is none = is
listed_alone all false left is none = is ∙ none

or_true : (a b : Bool) → b ≡ true → (a || b) ≡ true
or_true true b is = refl
or_true false b is = is

same_bytes : (xs : List ℕ) → pointwise nat_eq xs xs ≡ true
same_bytes [] = refl
same_bytes (x ∷ xs) = rw (eq-eqb x x refl) (same_bytes xs)

same_as_itself : (this : Entry (List ℕ)) → is_star this ≡ false → same_source this this ≡ true
same_as_itself (Star rp) other = absurd cc
same_as_itself (Source source) other = same_bytes source
same_as_itself (Rpt source) other = same_bytes source

-- each of so many entries is one of them
pub entry_is_there : (family : AddressFamily) (count place : ℕ) (bytes : List ℕ) → place < count → is_star (entry_at family place bytes) ≡ false
    → is_in (entries_of family count bytes) (entry_at family place bytes) ≡ true
entry_is_there family zero place bytes below other = absurd (omega arith)
entry_is_there family (suc count) place bytes below other =
    let this = entry_at family place bytes in
    let one : suc count ≡ count + 1 = omega arith in
    let more : is_in (entries_of family (suc count) bytes) this ≡ (is_in (entries_of family count bytes) this || same_source this (entry_at family count bytes)) =
    ap (λ n. is_in (entries_of family n bytes) this) one ∙ any_more family (same_source this) count bytes in
    ⊎_elim
    (λ (sooner : place < count). more ∙ ap (λ b. b || same_source this (entry_at family count bytes)) (entry_is_there family count place bytes sooner other))
    (λ (last : count ≤ place).
    let same : count ≡ place = omega arith in
    let it : same_source this (entry_at family count bytes) ≡ true = ap (λ n. same_source this (entry_at family n bytes)) same ∙ same_as_itself this other in
    more ∙ or_true (is_in (entries_of family count bytes) this) (same_source this (entry_at family count bytes)) it)
    (cases_lt place count)

-- some entries were passed, and these are left
module _ (is : Entry (List ℕ) → Bool) (family : AddressFamily) (done : ℕ) (rest bytes : List ℕ) (left : rest ≡ drop (done * source_length family) bytes) where
  rest_more : (place : ℕ) → drop (place * source_length family) rest ≡ drop ((done + place) * source_length family) bytes
  rest_more place = ap (drop (place * source_length family)) left ∙ drop-drop (place * source_length family) (done * source_length family) bytes ∙ ap (λ n. drop n bytes) (omega arith)

  behind : (place : ℕ) → is (entry_at family place rest) ≡ is (entry_at family (done + place) bytes)
  behind place = ap (λ b. is (entry_of (source_value family b))) (rest_more place)

  pub left_more : (place : ℕ) (after : List ℕ) → after ≡ drop (place * source_length family) rest → after ≡ drop ((done + place) * source_length family) bytes
  left_more place after is = is ∙ rest_more place

  pub found_later : (place : ℕ) → is (entry_at family place rest) ≡ true → is (entry_at family (done + place) bytes) ≡ true
  found_later place found = sym (behind place) ∙ found

  pub passed_more : (count : ℕ) → ((place : ℕ) → place < done → is (entry_at family place bytes) ≡ false)
      → ((place : ℕ) → place < count → is (entry_at family place rest) ≡ false)
      → (place : ℕ) → place < done + count → is (entry_at family place bytes) ≡ false
  passed_more count before passed place below =
      ⊎_elim
      (λ (early : place < done). before place early)
      (λ (late : done ≤ place).
      let same : place ≡ done + (place - done) = omega arith in
      ap (λ n. is (entry_at family n bytes)) same ∙ sym (behind (place - done)) ∙ passed (place - done) (omega arith))
      (cases_lt place done)

-- what is left when one more block was looked through
module _ {N : Type 0} (value_of : N → ℕ) (sources rpts sorted_sources sorted_rpts : List N) (was left joined : Bool) (this : Entry (List ℕ))
    (moved_sources : AreSame sorted_sources sources) (moved_rpts : AreSame sorted_rpts rpts) (first : joined ≡ was)
    (split : was ≡ (is_listed value_of sources rpts this || left)) where
  pub in_left : is_listed value_of sorted_sources sorted_rpts this ≡ false → joined ≡ left
  in_left none = first ∙ split ∙ rw (listed_permuted value_of sources rpts sorted_sources sorted_rpts this moved_sources moved_rpts, none) refl

  pub in_block : is_listed value_of sorted_sources sorted_rpts this ≡ true → joined ≡ true
  in_block some = first ∙ split ∙ rw (listed_permuted value_of sources rpts sorted_sources sorted_rpts this moved_sources moved_rpts, some) refl

pub in_none : (other : List (Entry (List ℕ))) (this : Entry (List ℕ)) → length other ≤ 0 → is_in other this ≡ false
in_none [] this none = refl
in_none (that ∷ other) this none = absurd (omega arith)

-- the first place is found sooner, or stays what it was
pub still_clash : (at : ℕ → Bool) (now before count : ℕ) → now ≤ before → (before < count → at before ≡ true) → (now < before → at now ≡ true) → now < count → at now ≡ true
still_clash at now before count bound was sooner below =
    ⊎_elim
    (λ (less : now < before). sooner less)
    (λ (same : before ≤ now). let e : now ≡ before = omega arith in rw e (was (omega arith)))
    (cases_lt now before)
