-- Joins in order, with one more.
use Rattle.pim_local.proofs.Words.{◌≡◌, ◌∙◌, ℕ, Bool, true, false, ◌||◌, List, [], ◌∷◌, refl, sym, ap, subst}
use Rattle.pim_local.proofs.Words.{AllByRecursion, IsStrictlySortedBy, Less, Equal, Greater, is_eq, match_ordering}
use Rattle.pim_local.proofs.Words.{false≢true, Join, join_cmp, same_join, is_listed, with_join, AreInOrder}
use Rattle.pim_local.proofs.Words.{zero, suc, ◌<◌, ◌≤◌, map, length, length-map, insert, arith, lit≤, nat_le, lt-leb}
use Rattle.pim_local.proofs.Words.{AreJoins, AddressFamily, IsGap, IsValidJoin, is_valid, join_faults}
use Rattle.pim_local.proofs.Orders.{join_total, back, ties, alike}

abbrev pub IsBelowAll : Join → List Join → Type 0
IsBelowAll join joins = AllByRecursion (λ other. join_cmp join other ≡ Less) joins

below_below : (p q : Join) (joins : List Join) → join_cmp p q ≡ Less → IsBelowAll q joins → IsBelowAll p joins
below_below p q [] l h = tt
below_below p q (first ∷ joins) l h = (join_total.trans p q first l h.0, below_below p q joins l h.1)

unlisted_below : (join : Join) (joins : List Join) → IsBelowAll join joins → is_listed join joins ≡ false
unlisted_below join [] below = refl
unlisted_below join (first ∷ joins) below = rw (ties join first ∙ ap is_eq below.0) (unlisted_below join joins below.1)

-- ---- a join that is there

listed_behind : (join first : Join) (others : List Join) → same_join join first ≡ false → is_listed join (first ∷ others) ≡ true → is_listed join others ≡ true
listed_behind join first others apart there = sym (ap (λ b. b || is_listed join others) apart) ∙ there

pub stays : (join : Join) (joins : List Join) → AreInOrder joins → is_listed join joins ≡ true → with_join join joins ≡ joins
unfolding IsStrictlySortedBy
stays join [] up there = absurd (false≢true there)
stays join (first ∷ others) up there =
    elim (join_cmp join first) as (λ r. join_cmp join first ≡ r → match_ordering r (join ∷ first ∷ others) (first ∷ others) (first ∷ with_join join others) ≡ first ∷ others) [
      | Less ↦ λ e. absurd (false≢true (sym (unlisted_below join (first ∷ others) (e, below_below join first others e up.0)) ∙ there))
      | Equal ↦ λ e. refl
      | Greater ↦ λ e. ap (λ (js : List Join). first ∷ js) (stays join others up.1 (listed_behind join first others (ties join first ∙ ap is_eq e) there))
    ] refl

-- ---- what is listed

twice : (s s' l : Bool) → s' ≡ s → (s || l) ≡ (s' || (s || l))
twice true s' l e = rw e refl
twice false s' l e = rw e refl

turned : (s t l : Bool) → (s || (t || l)) ≡ (t || (s || l))
turned true true l = refl
turned true false l = refl
turned false true l = refl
turned false false l = refl

pub listed : (join : Join) (joins : List Join) (other : Join) → is_listed other (with_join join joins) ≡ (same_join other join || is_listed other joins)
listed join [] other = refl
listed join (first ∷ others) other =
    elim (join_cmp join first) as (λ r. join_cmp join first ≡ r → is_listed other (match_ordering r (join ∷ first ∷ others) (first ∷ others) (first ∷ with_join join others))
    ≡ (same_join other join || (same_join other first || is_listed other others))) [
      | Less ↦ λ e. refl
      | Equal ↦ λ e. twice (same_join other first) (same_join other join) (is_listed other others) (alike other join first e)
      | Greater ↦ λ e. ap (λ b. same_join other first || b) (listed join others other) ∙ turned (same_join other first) (same_join other join) (is_listed other others)
    ] refl

-- the same, where the join is there
pub listed_still : (join : Join) (joins : List Join) → AreInOrder joins → is_listed join joins ≡ true → (other : Join) → is_listed other joins ≡ (same_join other join || is_listed other joins)
listed_still join joins up there other = ap (is_listed other) (sym (stays join joins up there)) ∙ listed join joins other

-- ---- the joins stay in order, and valid

below_with : (p join : Join) (joins : List Join) → join_cmp p join ≡ Less → IsBelowAll p joins → IsBelowAll p (with_join join joins)
below_with p join [] l h = (l, tt)
below_with p join (first ∷ others) l h =
    elim (join_cmp join first) as (λ r. join_cmp join first ≡ r → IsBelowAll p (match_ordering r (join ∷ first ∷ others) (first ∷ others) (first ∷ with_join join others))) [
      | Less ↦ λ e. (l, h)
      | Equal ↦ λ e. h
      | Greater ↦ λ e. (h.0, below_with p join others l h.1)
    ] refl

pub ascends : (join : Join) (joins : List Join) → AreInOrder joins → AreInOrder (with_join join joins)
unfolding IsStrictlySortedBy
ascends join [] up = (tt, tt)
ascends join (first ∷ others) up =
    elim (join_cmp join first) as (λ r. join_cmp join first ≡ r → AreInOrder (match_ordering r (join ∷ first ∷ others) (first ∷ others) (first ∷ with_join join others))) [
      | Less ↦ λ e. ((e, below_below join first others e up.0), up)
      | Equal ↦ λ e. up
      | Greater ↦ λ e. (below_with first join others (back join first Greater e) up.0, ascends join others up.1)
    ] refl

pub all_with : (P : Join → Type 0) (join : Join) (joins : List Join) → P join → AllByRecursion P joins → AllByRecursion P (with_join join joins)
all_with P join [] p all = (p, tt)
all_with P join (first ∷ others) p all =
    elim (join_cmp join first) as (λ r. AllByRecursion P (match_ordering r (join ∷ first ∷ others) (first ∷ others) (first ∷ with_join join others))) [
      | Less ↦ (p, all)
      | Equal ↦ all
      | Greater ↦ (all.0, all_with P join others p all.1)
    ]

-- ---- what holds of every list

pub no_joins : {R : Type 0} (family : AddressFamily) (seen : R → Join) (joins : List R) → joins ≡ [] → AreJoins family (map seen joins)
unfolding IsStrictlySortedBy
no_joins {R = R} family seen joins none =
    subst (λ (js : List R). AreJoins family (map seen js)) (sym none) (record { limit = lit≤ tt; ascending = tt; valid = tt })

map_insert : {X Y : Type 0} (f : X → Y) (xs : List X) (i : ℕ) (x : X) → map f (insert xs i x) ≡ insert (map f xs) i (f x)
map_insert f [] zero x = refl
map_insert f [] (suc i) x = refl
map_insert f (y ∷ xs) zero x = refl
map_insert f (y ∷ xs) (suc i) x = ap (λ l. f y ∷ l) (map_insert f xs i x)

-- ---- the list of the code: `slice` and `items` are its joins, `old` what contracts see

module _ {R : Type 0} (seen : R → Join) (old : List Join) (items slice : List R) (view : map seen items ≡ old) (same : slice ≡ items) where
  whole : map seen slice ≡ old
  whole = ap (map seen) same ∙ view

  pub is_there : (join : Join) → is_listed join (map seen slice) ≡ true → is_listed join old ≡ true
  is_there join there = subst (λ js. is_listed join js ≡ true) whole there

  pub one_more : (items' : List R) (item : R) (place : ℕ) → IsGap (seen item) (map seen slice) place → items' ≡ insert items place item → map seen items' ≡ with_join (seen item) old
  one_more items' item place gap grown =
      ap (map seen) grown ∙ map_insert seen items place item ∙ ap (λ xs. insert (map seen xs) place (seen item)) (sym same) ∙ gap.after ∙ ap (with_join (seen item)) whole

  pub sound_still : (family : AddressFamily) (items' : List R) (item : R) (place : ℕ) → IsGap (seen item) (map seen slice) place → items' ≡ insert items place item → AreJoins family (map seen items)
      → length items' ≤ 4096 → IsValidJoin family (seen item) → AreJoins family (map seen items')
  sound_still family items' item place gap grown sound' small valid =
      let sound = subst (AreJoins family) view sound' in
      let more : map seen items' ≡ with_join (seen item) old = one_more items' item place gap grown in
      record {
        limit = omega (arith, small, length-map items' seen);
        ascending = subst AreInOrder (sym more) (ascends (seen item) old sound.ascending);
        valid = subst (AllByRecursion (IsValidJoin family)) (sym more) (all_with (IsValidJoin family) (seen item) old valid sound.valid);
      }

  pub fits : (family : AddressFamily) (join : Join) (place : ℕ) → is_valid family join ≡ true → IsGap join (map seen slice) place → length items < 4096 → join_faults family join old ≡ []
  fits family join place valid gap few =
      let room : nat_le 4096 (length old) ≡ false = lt-leb 4096 (length old) (omega (arith, few, length-map items seen, ap length view)) in
      rw (valid, room, subst (λ js. is_listed join js ≡ false) whole gap.absent) refl

pub is_there_already : (family : AddressFamily) (join : Join) (joins : List Join) → is_valid family join ≡ true → is_listed join joins ≡ true → join_faults family join joins ≡ []
is_there_already family join joins valid there = rw (valid, there) refl
