-- A search that halves what is left of a list in order.
use Rattle.std.proofs.Common.{◌≡◌, ◌∙◌, sym, ap, ℕ, zero, suc, ◌+◌, ◌-◌, ◌*◌, ◌/◌, ◌%◌, ◌^◌, ◌≤◌, ◌<◌, Bool, true, false, List, Ordering, length, get_or, min, refl, arith, ⊎_elim}
use Rattle.pim_addr.proofs.Words.{Less, Equal, Greater, is_lt, ordering_index, IsTotalOrder, IsSorted, IsPartitionPoint}
use Rattle.pim_addr.proofs.Words.{cases_lt, one-mul, mul-one, zero-mul, mul-zero, mod-eq_of_lt, two-pow-succ}
use Rattle.pim_addr.proofs.Words.{get_or_default, searchable_from_sorted}
use Rattle.std.specs.Int.{from_bool}
use Rattle.std.proofs.Math.Pow.{pow-lt}

-- of the items from `base` on, so many are still to be told apart: those before them are less, those behind aren't
pub record Halved {T : Type 0} (cmp : T → T → Ordering) (xs : List T) (item : T) (base size : ℕ) : Type 0 where
  pub within : base + size ≤ length xs
  pub some : 0 < length xs → 0 < size
  pub below : (k : ℕ) (d : T) → k < base → is_lt (cmp (get_or xs k d) item) ≡ true
  pub behind : (k : ℕ) (d : T) → base + size ≤ k → k < length xs → is_lt (cmp (get_or xs k d) item) ≡ false

less_is : (o : Ordering) → is_lt o ≡ true → ordering_index o ≡ 0
less_is Less h = refl
less_is Equal h = absurd cc
less_is Greater h = absurd cc

is_less : (o : Ordering) → ordering_index o ≡ 0 → is_lt o ≡ true
is_less Less h = refl
is_less Equal h = absurd (omega arith)
is_less Greater h = absurd (omega arith)

not_less : (o : Ordering) → (is_lt o ≡ false → 0 < ordering_index o) × (0 < ordering_index o → is_lt o ≡ false)
not_less Less = (λ h. absurd cc, λ h. absurd (omega arith))
not_less Equal = (λ h. omega arith, λ h. refl)
not_less Greater = (λ h. omega arith, λ h. refl)

-- a default doesn't count at a place that is there
tested_at : {T : Type 0} (cmp : T → T → Ordering) (xs : List T) (item : T) (i : ℕ) (less : Bool) (x : T) → i < length xs → x ≡ get_or xs i x → less ≡ is_lt (cmp x item)
    → (d : T) → less ≡ is_lt (cmp (get_or xs i d) item)
tested_at cmp xs item i less x within at test d = test ∙ ap (λ y. is_lt (cmp y item)) (at ∙ get_or_default xs i x d within)

-- a test of one item tells of all before it, or of all behind it
pub halved_more : {T : Type 0} (cmp : T → T → Ordering) → IsTotalOrder cmp → (xs : List T) (item : T) (base size half : ℕ) (less : Bool) (x : T)
    → IsSorted cmp xs → Halved cmp xs item base size → 1 < size → half ≡ size / 2
    → x ≡ get_or xs (base + half) x → less ≡ is_lt (cmp x item)
    → Halved cmp xs item (base + half * from_bool less) (size - half)
halved_more {T} cmp total xs item base size half true x sorted halved many is at test =
    let rises = searchable_from_sorted total (λ x. x) xs item sorted in
    let tested : (d : T) → true ≡ is_lt (cmp (get_or xs (base + half) d) item) = tested_at cmp xs item (base + half) true x (omega (arith, halved.within)) at test in
    record {
      within = omega (arith, halved.within);
      some = λ h. omega arith;
      below = λ k d low. is_less _ (omega (arith, rises k (base + half) d (omega arith) (omega (arith, halved.within)), less_is _ (sym (tested d))));
      behind = λ k d high low. halved.behind k d (omega arith) low;
    }
halved_more {T} cmp total xs item base size half false x sorted halved many is at test =
    let rises = searchable_from_sorted total (λ x. x) xs item sorted in
    let tested : (d : T) → false ≡ is_lt (cmp (get_or xs (base + half) d) item) = tested_at cmp xs item (base + half) false x (omega (arith, halved.within)) at test in
    record {
      within = omega (arith, halved.within);
      some = λ h. omega arith;
      below = λ k d low. halved.below k d (omega arith);
      behind = λ k d high low. (not_less _).1 (omega (arith, rises (base + half) k d (omega arith) low, (not_less _).0 (sym (tested d))));
    }

-- ---- as long as a power of two

some_power : (shift : ℕ) → 0 < 2 ^ shift
some_power zero = omega arith
some_power (suc shift) = omega (arith, two-pow-succ shift, some_power shift)

fits : (shift : ℕ) → shift < 64 → 2 ^ shift % 2 ^ 64 ≡ 2 ^ shift
fits shift few = mod-eq_of_lt (pow-lt few)

pub one_shifted : (shift : ℕ) → shift < 64 → 1 * 2 ^ shift % 2 ^ 64 ≡ 2 ^ shift
one_shifted shift few = ap (λ n. n % 2 ^ 64) (one-mul (2 ^ shift)) ∙ fits shift few

pub test_shifted : (less : Bool) (shift : ℕ) → shift < 64 → from_bool less * 2 ^ shift % 2 ^ 64 ≡ 2 ^ shift * from_bool less
test_shifted true shift few = one_shifted shift few ∙ sym (mul-one (2 ^ shift))
test_shifted false shift few = ap (λ n. n % 2 ^ 64) (zero-mul (2 ^ shift)) ∙ sym (mul-zero (2 ^ shift))

-- of a list the last so many, or the first, as the item before the last ones tells
pub halved_first : {T : Type 0} (cmp : T → T → Ordering) → IsTotalOrder cmp → (xs : List T) (item : T) (shift over : ℕ) (less : Bool) (x : T)
    → IsSorted cmp xs → 2 ^ shift ≤ length xs → length xs < 2 * 2 ^ shift → over ≡ length xs - 2 ^ shift
    → x ≡ get_or xs over x → less ≡ is_lt (cmp x item)
    → Halved cmp xs item (over * from_bool less) (2 ^ shift)
halved_first {T} cmp total xs item shift over true x sorted least most is at test =
    let rises = searchable_from_sorted total (λ x. x) xs item sorted in
    let some : 0 < 2 ^ shift = some_power shift in
    let tested : (d : T) → true ≡ is_lt (cmp (get_or xs over d) item) = tested_at cmp xs item over true x (omega arith) at test in
    record {
      within = omega arith;
      some = λ h. some;
      below = λ k d low. is_less _ (omega (arith, rises k over d (omega arith) (omega arith), less_is _ (sym (tested d))));
      behind = λ k d high low. absurd (omega arith);
    }
halved_first {T} cmp total xs item shift over false x sorted least most is at test =
    let rises = searchable_from_sorted total (λ x. x) xs item sorted in
    let some : 0 < 2 ^ shift = some_power shift in
    let tested : (d : T) → false ≡ is_lt (cmp (get_or xs over d) item) = tested_at cmp xs item over false x (omega arith) at test in
    record {
      within = omega arith;
      some = λ h. some;
      below = λ k d low. absurd (omega arith);
      behind = λ k d high low. (not_less _).1 (omega (arith, rises over k d (omega arith) low, (not_less _).0 (sym (tested d))));
    }

-- what is left is halved by a test of its middle
pub halved_shift : {T : Type 0} (cmp : T → T → Ordering) → IsTotalOrder cmp → (xs : List T) (item : T) (base shift next : ℕ) (less : Bool) (x : T)
    → IsSorted cmp xs → Halved cmp xs item base (2 ^ shift) → shift ≡ suc next → next < 64
    → x ≡ get_or xs (base + 1 * 2 ^ next % 2 ^ 64) x → less ≡ is_lt (cmp x item)
    → Halved cmp xs item (base + from_bool less * 2 ^ next % 2 ^ 64) (2 ^ next)
halved_shift cmp total xs item base shift next less x sorted halved is few at test =
    let some : 0 < 2 ^ next = some_power next in
    let twice : 2 ^ shift ≡ 2 ^ next + 2 ^ next = ap (λ n. 2 ^ n) is ∙ two-pow-succ next in
    let half : 2 ^ next ≡ 2 ^ shift / 2 = omega (arith, twice) in
    let left : 2 ^ shift - 2 ^ next ≡ 2 ^ next = omega (arith, twice) in
    let more = halved_more cmp total xs item base (2 ^ shift) (2 ^ next) less x sorted halved (omega (arith, twice, some)) half (rw (one_shifted next few) at at) test in
    rw (← test_shifted less next few, left) at more

-- ---- the last levels, from the twelfth to the first

module _ {T : Type 0} (cmp : T → T → Ordering) (xs : List T) (item : T) (base shift done : ℕ) (halved : Halved cmp xs item base (2 ^ min shift (12 - done))) (some : done < 12) where
  -- a level that isn't below the length was passed over
  pub halved_passed : shift ≤ 11 - done → Halved cmp xs item base (2 ^ min shift (12 - (done + 1)))
  halved_passed past = let same : min shift (12 - (done + 1)) ≡ min shift (12 - done) = omega arith in rw same halved

  module _ (within : 11 - done < shift) where
    level_left : min shift (12 - done) ≡ suc (11 - done)
    level_left = omega arith

    pub level_is_there : base + 1 * 2 ^ (11 - done) % 2 ^ 64 < length xs
    level_is_there =
        let left : 2 ^ min shift (12 - done) ≡ 2 ^ (11 - done) + 2 ^ (11 - done) = ap (λ n. 2 ^ n) level_left ∙ two-pow-succ (11 - done) in
        omega (arith, one_shifted (11 - done) (omega arith), some_power (11 - done), left, halved.within)

    pub level_is_within : (less : Bool) → base + from_bool less * 2 ^ (11 - done) % 2 ^ 64 ≤ length xs
    level_is_within true = omega (arith, level_is_there)
    level_is_within false =
        let none : from_bool false * 2 ^ (11 - done) % 2 ^ 64 ≡ 0 = ap (λ n. n % 2 ^ 64) (zero-mul (2 ^ (11 - done))) in
        omega (arith, none, halved.within)

    pub halved_level : IsTotalOrder cmp → (less : Bool) (x : T) → IsSorted cmp xs → x ≡ get_or xs (base + 1 * 2 ^ (11 - done) % 2 ^ 64) x → less ≡ is_lt (cmp x item)
        → Halved cmp xs item (base + from_bool less * 2 ^ (11 - done) % 2 ^ 64) (2 ^ min shift (12 - (done + 1)))
    halved_level total less x sorted at test =
        let next : min shift (12 - (done + 1)) ≡ 11 - done = omega arith in
        rw next (halved_shift cmp total xs item base (min shift (12 - done)) (11 - done) less x sorted halved level_left (omega arith) at test)

pub halved_one : {T : Type 0} (cmp : T → T → Ordering) (xs : List T) (item : T) (base size : ℕ) (less : Bool) (x : T)
    → Halved cmp xs item base size → size ≡ 1 → x ≡ get_or xs base x → less ≡ is_lt (cmp x item)
    → IsPartitionPoint (λ other. is_lt (cmp other item) ≡ true) (λ other. is_lt (cmp other item) ≡ false) xs (base + from_bool less)
halved_one {T} cmp xs item base size true x halved one at test =
    let tested : (d : T) → true ≡ is_lt (cmp (get_or xs base d) item) = tested_at cmp xs item base true x (omega (arith, halved.within)) at test in (
      λ k d low high. ⊎_elim
          (λ (before : k < base). halved.below k d before)
          (λ (at : base ≤ k). let same : k ≡ base = omega arith in rw same (sym (tested d)))
          (cases_lt k base),
      λ k d low high. halved.behind k d (omega arith) high,
    )
halved_one {T} cmp xs item base size false x halved one at test =
    let tested : (d : T) → false ≡ is_lt (cmp (get_or xs base d) item) = tested_at cmp xs item base false x (omega (arith, halved.within)) at test in (
      λ k d low high. halved.below k d (omega arith),
      λ k d low high. ⊎_elim
          (λ (at : k < base + 1). let same : k ≡ base = omega arith in rw same (sym (tested d)))
          (λ (behind : base + 1 ≤ k). halved.behind k d (omega arith) high)
          (cases_lt k (base + 1)),
    )
