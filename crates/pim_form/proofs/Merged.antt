-- Two lists in order of addresses, made one.
use Rattle.pim_form.proofs.Words.{◌≡◌, ◌∙◌, ℕ, ◌≤◌, Bool, true, false, ◌||◌, ◌&&◌, not, cond, List, [], ◌∷◌, Option, None, Some}
use Rattle.pim_form.proofs.Words.{map, length, refl, sym, ap, subst, arith, Less, Equal, Greater, AllByRecursion, list_any}
use Rattle.pim_form.proofs.Words.{filter, IsStrictlySortedBy, nat_cmp, slice_cmp, AddressFamily, Tree, GroupForm, AreAscending}
use Rattle.pim_form.proofs.Words.{AreExceptions, IsNormal, IsNormalGroup, same_address, is_listed, is_empty, is_excepted}
use Rattle.pim_form.proofs.Words.{group_wants, form_wants, by_order, merged_into, merged_by, itself, first_of, united, common}
use Rattle.pim_form.proofs.Words.{both_stars, both_groups, group_of, merged}
use Rattle.pim_form.specs.declared.tree.Tree.TheVariants.{Shared, Source}
use Rattle.pim_form.proofs.Addresses.{same_is, equal_is, greater_less, less_apart_back, IsBelowAll-trans, unlisted_below, same_itself}
use Rattle.pim_form.proofs.Lists.{all_map, all_mapped}

-- ---- truth values

or_left : (p q r : Bool) → (p || (q || r)) ≡ ((p || q) || r)
or_left true q r = refl
or_left false q r = refl

or_both : (p q r s : Bool) → ((p || q) || (r || s)) ≡ ((p || r) || (q || s))
or_both true q r s = refl
or_both false true true s = refl
or_both false true false s = refl
or_both false false true s = refl
or_both false false false s = refl

or_right : (p q r : Bool) → (p || (q || r)) ≡ (q || (p || r))
or_right true true r = refl
or_right true false r = refl
or_right false q r = refl

-- ---- in general

module _ {A : Type 0} (address_of : A → List ℕ) (both : A → A → A) where
  all_into : (P : A → Type 0) → ((a b : A) → address_of a ≡ address_of b → P a → P b → P (both a b)) → (a : A) (others : List A → List A) → P a → ((ys : List A) → AllByRecursion P ys → AllByRecursion P (others ys))
      → (ys : List A) → AllByRecursion P ys → AllByRecursion P (merged_into address_of both a others ys)
  unfolding merged_into
  all_into P join a others here step [] all = (here, step [] tt)
  all_into P join a others here step (b ∷ ys) all =
      elim (slice_cmp nat_cmp (address_of a) (address_of b)) as (λ r. slice_cmp nat_cmp (address_of a) (address_of b) ≡ r
      → AllByRecursion P (by_order r (a ∷ others (b ∷ ys)) (both a b ∷ others ys) (b ∷ merged_into address_of both a others ys))) [
        | Less ↦ λ e. (here, step (b ∷ ys) all)
        | Equal ↦ λ e. (join a b (equal_is (address_of a) (address_of b) e) here all.0, step ys all.1)
        | Greater ↦ λ e. (all.0, all_into P join a others here step ys all.1)
      ] refl

  pub all_merged : (P : A → Type 0) → ((a b : A) → address_of a ≡ address_of b → P a → P b → P (both a b)) → (xs ys : List A) → AllByRecursion P xs → AllByRecursion P ys → AllByRecursion P (merged_by address_of both xs ys)
  unfolding merged_by
  all_merged P join [] ys all_x all_y = all_y
  all_merged P join (x ∷ xs) ys all_x all_y = all_into P join x (merged_by address_of both xs) all_x.0 (λ zs all. all_merged P join xs zs all_x.1 all) ys all_y

  any_into : (test : A → Bool) → ((a b : A) → address_of a ≡ address_of b → test (both a b) ≡ (test a || test b)) → (a : A) (others : List A → List A) (q : Bool) → ((ys : List A) → list_any test (others ys) ≡ (q || list_any test ys))
      → (ys : List A) → list_any test (merged_into address_of both a others ys) ≡ ((test a || q) || list_any test ys)
  unfolding merged_into
  any_into test join a others q step [] = ap (λ t. test a || t) (step []) ∙ or_left (test a) q false
  any_into test join a others q step (b ∷ ys) =
      elim (slice_cmp nat_cmp (address_of a) (address_of b)) as (λ r. slice_cmp nat_cmp (address_of a) (address_of b) ≡ r
      → list_any test (by_order r (a ∷ others (b ∷ ys)) (both a b ∷ others ys) (b ∷ merged_into address_of both a others ys)) ≡ ((test a || q) || (test b || list_any test ys))) [
        | Less ↦ λ e. ap (λ t. test a || t) (step (b ∷ ys)) ∙ or_left (test a) q (test b || list_any test ys)
        | Equal ↦ λ e. ap (λ t. t || list_any test (others ys)) (join a b (equal_is (address_of a) (address_of b) e)) ∙ ap (λ t. (test a || test b) || t) (step ys) ∙ or_both (test a) (test b) q (list_any test ys)
        | Greater ↦ λ e. ap (λ t. test b || t) (any_into test join a others q step ys) ∙ or_right (test b) (test a || q) (list_any test ys)
      ] refl

  pub any_merged : (test : A → Bool) → ((a b : A) → address_of a ≡ address_of b → test (both a b) ≡ (test a || test b)) → (xs ys : List A) → list_any test (merged_by address_of both xs ys) ≡ (list_any test xs || list_any test ys)
  unfolding merged_by
  any_merged test join [] ys = refl
  any_merged test join (x ∷ xs) ys = any_into test join x (merged_by address_of both xs) (list_any test xs) (any_merged test join xs) ys

  -- ---- order

  abbrev IsBefore : List ℕ → A → Type 0
  IsBefore address b = slice_cmp nat_cmp address (address_of b) ≡ Less

  abbrev Are : List A → Type 0
  Are xs = AreAscending (map address_of xs)

  below : (address : List ℕ) (xs : List A) → AllByRecursion (IsBefore address) xs → AllByRecursion (λ y. slice_cmp nat_cmp address y ≡ Less) (map address_of xs)
  below address = all_map (IsBefore address) (λ y. slice_cmp nat_cmp address y ≡ Less) address_of (λ x p. p)

  below_back : (address : List ℕ) (xs : List A) → AllByRecursion (λ y. slice_cmp nat_cmp address y ≡ Less) (map address_of xs) → AllByRecursion (IsBefore address) xs
  below_back address = all_mapped (IsBefore address) (λ y. slice_cmp nat_cmp address y ≡ Less) address_of (λ x p. p)

  module _ (keeps : (a b : A) → address_of (both a b) ≡ address_of a) where
    before_both : (address : List ℕ) (a b : A) → address_of a ≡ address_of b → IsBefore address a → IsBefore address b → IsBefore address (both a b)
    before_both address a b same before_a before_b = subst (λ c. slice_cmp nat_cmp address c ≡ Less) (sym (keeps a b)) before_a

    before_merged : (address : List ℕ) (xs ys : List A) → AllByRecursion (IsBefore address) xs → AllByRecursion (IsBefore address) ys → AllByRecursion (λ y. slice_cmp nat_cmp address y ≡ Less) (map address_of (merged_by address_of both xs ys))
    before_merged address xs ys all_x all_y = below address (merged_by address_of both xs ys) (all_merged (IsBefore address) (before_both address) xs ys all_x all_y)

    are_into : (x : A) (xs : List A) → Are (x ∷ xs) → ((ys : List A) → Are ys → Are (merged_by address_of both xs ys)) → (ys : List A) → Are ys → Are (merged_into address_of both x (merged_by address_of both xs) ys)
    unfolding merged_into merged_by IsStrictlySortedBy
    are_into x xs are step [] up = (before_merged (address_of x) xs [] (below_back (address_of x) xs are.0) tt, step [] tt)
    are_into x xs are step (y ∷ ys) up =
        elim (slice_cmp nat_cmp (address_of x) (address_of y)) as (λ r. slice_cmp nat_cmp (address_of x) (address_of y) ≡ r
        → Are (by_order r (x ∷ merged_by address_of both xs (y ∷ ys)) (both x y ∷ merged_by address_of both xs ys) (y ∷ merged_into address_of both x (merged_by address_of both xs) ys))) [
          | Less ↦ λ e.
              let behind = IsBelowAll-trans (address_of x) (address_of y) (map address_of ys) e up.0 in
              (before_merged (address_of x) xs (y ∷ ys) (below_back (address_of x) xs are.0) (e, below_back (address_of x) ys behind), step (y ∷ ys) up)
          | Equal ↦ λ e.
              let same = equal_is (address_of x) (address_of y) e in
              let behind : AllByRecursion (λ z. slice_cmp nat_cmp (address_of x) z ≡ Less) (map address_of ys) = subst (λ a. AllByRecursion (λ z. slice_cmp nat_cmp a z ≡ Less) (map address_of ys)) (sym same) up.0 in
              let all = before_merged (address_of x) xs ys (below_back (address_of x) xs are.0) (below_back (address_of x) ys behind) in
              (subst (λ a. AllByRecursion (λ z. slice_cmp nat_cmp a z ≡ Less) (map address_of (merged_by address_of both xs ys))) (sym (keeps x y)) all, step ys up.1)
          | Greater ↦ λ e.
              let less = greater_less (address_of x) (address_of y) e in
              let behind = below_back (address_of y) xs (IsBelowAll-trans (address_of y) (address_of x) (map address_of xs) less are.0) in
              let all = all_into (IsBefore (address_of y)) (before_both (address_of y)) x (merged_by address_of both xs) less (λ zs before. all_merged (IsBefore (address_of y)) (before_both (address_of y)) xs zs behind before) ys (below_back (address_of y) ys up.0) in
              (below (address_of y) (merged_into address_of both x (merged_by address_of both xs) ys) all, are_into x xs are step ys up.1)
        ] refl

    pub ascending_merged : (xs ys : List A) → Are xs → Are ys → Are (merged_by address_of both xs ys)
    unfolding merged_by IsStrictlySortedBy
    ascending_merged [] ys up_x up_y = up_y
    ascending_merged (x ∷ xs) ys up_x up_y = are_into x xs up_x (λ zs up. ascending_merged xs zs up_x.1 up) ys up_y

  pub merged_none : (xs : List A) → merged_by address_of both xs [] ≡ xs
  unfolding merged_by merged_into
  merged_none [] = refl
  merged_none (x ∷ xs) = ap (λ (zs : List A). x ∷ zs) (merged_none xs)

-- ---- sources

map_itself : (xs : List (List ℕ)) → map itself xs ≡ xs
map_itself [] = refl
map_itself (x ∷ xs) = ap (λ (ys : List (List ℕ)). x ∷ ys) (map_itself xs)

pub united_ascending : (xs ys : List (List ℕ)) → AreAscending xs → AreAscending ys → AreAscending (united xs ys)
united_ascending xs ys up_x up_y =
    subst AreAscending (map_itself (united xs ys))
    (ascending_merged itself first_of (λ a b. refl) xs ys (subst AreAscending (sym (map_itself xs)) up_x) (subst AreAscending (sym (map_itself ys)) up_y))

pub united_all : (P : List ℕ → Type 0) (xs ys : List (List ℕ)) → AllByRecursion P xs → AllByRecursion P ys → AllByRecursion P (united xs ys)
united_all P = all_merged itself first_of P (λ a b same here there. here)

pub united_listed : (s : List ℕ) (xs ys : List (List ℕ)) → is_listed s (united xs ys) ≡ (is_listed s xs || is_listed s ys)
united_listed s = any_merged itself first_of (same_address s) (λ a b same. subst (λ c. same_address s a ≡ (same_address s a || same_address s c)) same (twice (same_address s a)))
  where
    twice : (p : Bool) → p ≡ (p || p)
    twice true = refl
    twice false = refl

-- ---- exceptions

filter_all : (test : List ℕ → Bool) (P : List ℕ → Type 0) (xs : List (List ℕ)) → AllByRecursion P xs → AllByRecursion P (filter test xs)
filter_all test P [] all = tt
filter_all test P (x ∷ xs) all =
    elim (test x) as (λ b. AllByRecursion P (cond b (x ∷ filter test xs) (filter test xs))) [
      | true ↦ (all.0, filter_all test P xs all.1)
      | false ↦ filter_all test P xs all.1
    ]

filter_ascending : (test : List ℕ → Bool) (xs : List (List ℕ)) → AreAscending xs → AreAscending (filter test xs)
unfolding IsStrictlySortedBy
filter_ascending test [] up = tt
filter_ascending test (x ∷ xs) up =
    elim (test x) as (λ b. AreAscending (cond b (x ∷ filter test xs) (filter test xs))) [
      | true ↦ (filter_all test (λ y. slice_cmp nat_cmp x y ≡ Less) xs up.0, filter_ascending test xs up.1)
      | false ↦ filter_ascending test xs up.1
    ]

filter_short : (test : List ℕ → Bool) (xs : List (List ℕ)) → length (filter test xs) ≤ length xs
filter_short test [] = omega arith
filter_short test (x ∷ xs) =
    let others = filter_short test xs in
    elim (test x) as (λ b. length (cond b (x ∷ filter test xs) (filter test xs)) ≤ length (x ∷ xs)) [
      | true ↦ omega arith
      | false ↦ omega arith
    ]

common_first : (s x : List ℕ) (p : Bool) (xs ys : List (List ℕ)) → is_listed x ys ≡ p → is_listed s (common xs ys) ≡ (is_listed s xs && is_listed s ys) → is_listed s (cond p (x ∷ common xs ys) (common xs ys)) ≡ ((same_address s x || is_listed s xs) && is_listed s ys)
common_first s x p xs ys here others = by (same_address s x) refl
  where
    listed : same_address s x ≡ true → is_listed s ys ≡ p
    listed same = subst (λ a. is_listed a ys ≡ p) (sym (same_is s x same)) here

    when_same : (p q r : Bool) → q ≡ p → r ≡ p → (cond p (true || q) r) ≡ q
    when_same true q r e f = sym e
    when_same false q r e f = f ∙ sym e

    also : (p q : Bool) → q ≡ p → (r t : Bool) → t ≡ (r && q) → cond p true t ≡ q
    also true q e r t f = sym e
    also false q e r t f = f ∙ ap (λ b. r && b) e ∙ nothing r ∙ sym e
      where
        nothing : (b : Bool) → (b && false) ≡ false
        nothing true = refl
        nothing false = refl

    any_cond : (p b : Bool) → same_address s x ≡ b → is_listed s (cond p (x ∷ common xs ys) (common xs ys)) ≡ cond p (b || is_listed s (common xs ys)) (is_listed s (common xs ys))
    any_cond true b e = ap (λ t. t || is_listed s (common xs ys)) e
    any_cond false b e = refl

    same_both : (p t : Bool) → cond p t t ≡ t
    same_both true t = refl
    same_both false t = refl

    by : (b : Bool) → same_address s x ≡ b → is_listed s (cond p (x ∷ common xs ys) (common xs ys)) ≡ ((same_address s x || is_listed s xs) && is_listed s ys)
    by true e = any_cond p true e ∙ also p (is_listed s ys) (listed e) (is_listed s xs) (is_listed s (common xs ys)) others ∙ sym (ap (λ t. (t || is_listed s xs) && is_listed s ys) e)
    by false e = any_cond p false e ∙ same_both p (is_listed s (common xs ys)) ∙ others ∙ sym (ap (λ t. (t || is_listed s xs) && is_listed s ys) e)

pub common_listed : (s : List ℕ) (xs ys : List (List ℕ)) → is_listed s (common xs ys) ≡ (is_listed s xs && is_listed s ys)
common_listed s [] ys = refl
common_listed s (x ∷ xs) ys = common_first s x (is_listed x ys) xs ys refl (common_listed s xs ys)

-- the steps of a walk over both lists

pub common_none : (xs : List (List ℕ)) → common xs [] ≡ []
common_none [] = refl
common_none (x ∷ xs) = common_none xs

pub common_below : (x y : List ℕ) (xs ys : List (List ℕ)) → slice_cmp nat_cmp x y ≡ Less → AreAscending (y ∷ ys) → common (x ∷ xs) (y ∷ ys) ≡ common xs (y ∷ ys)
unfolding IsStrictlySortedBy
common_below x y xs ys less up =
    let none : is_listed x (y ∷ ys) ≡ false = unlisted_below x (y ∷ ys) (less, IsBelowAll-trans x y ys less up.0) in
    ap (λ b. cond b (x ∷ common xs (y ∷ ys)) (common xs (y ∷ ys))) none

common_past : (y : List ℕ) (xs ys : List (List ℕ)) → AllByRecursion (λ x. slice_cmp nat_cmp y x ≡ Less) xs → common xs (y ∷ ys) ≡ common xs ys
common_past y [] ys above = refl
common_past y (x ∷ xs) ys above =
    let apart : same_address x y ≡ false = less_apart_back y x above.0 in
    ap (λ b. cond (b || is_listed x ys) (x ∷ common xs (y ∷ ys)) (common xs (y ∷ ys))) apart
    ∙ ap (λ (zs : List (List ℕ)). cond (is_listed x ys) (x ∷ zs) zs) (common_past y xs ys above.1)

pub common_above : (x y : List ℕ) (xs ys : List (List ℕ)) → slice_cmp nat_cmp x y ≡ Greater → AreAscending (x ∷ xs) → common (x ∷ xs) (y ∷ ys) ≡ common (x ∷ xs) ys
unfolding IsStrictlySortedBy
common_above x y xs ys greater up =
    let less = greater_less x y greater in
    common_past y (x ∷ xs) ys (less, IsBelowAll-trans y x xs less up.0)

pub common_both : (x y : List ℕ) (xs ys : List (List ℕ)) → slice_cmp nat_cmp x y ≡ Equal → AreAscending (x ∷ xs) → common (x ∷ xs) (y ∷ ys) ≡ x ∷ common xs ys
unfolding IsStrictlySortedBy
common_both x y xs ys equal up =
    let same : x ≡ y = equal_is x y equal in
    let here : same_address x y ≡ true = subst (λ z. same_address x z ≡ true) same (same_itself x) in
    let above : AllByRecursion (λ z. slice_cmp nat_cmp y z ≡ Less) xs = subst (λ z. AllByRecursion (λ w. slice_cmp nat_cmp z w ≡ Less) xs) same up.0 in
    ap (λ b. cond (b || is_listed x ys) (x ∷ common xs (y ∷ ys)) (common xs (y ∷ ys))) here
    ∙ ap (λ (zs : List (List ℕ)). x ∷ zs) (common_past y xs ys above)

-- ---- groups

stars_normal : (family : AddressFamily) (a b : Option (List (List ℕ))) → AreExceptions family a → AreExceptions family b → AreExceptions family (both_stars a b)
stars_normal family None b are_a are_b = are_b
stars_normal family (Some xs) None are_a are_b = are_a
stars_normal family (Some xs) (Some ys) are_a are_b =
    let short = filter_short (λ address. is_listed address ys) xs in
    let few = are_a.2 in
    (filter_ascending (λ address. is_listed address ys) xs are_a.0, filter_all (λ address. is_listed address ys) _ xs are_a.1, omega arith)

stars_some : (a b : Option (List (List ℕ))) (xs ys : List (List ℕ)) → is_empty a xs ≡ false → is_empty (both_stars a b) (united xs ys) ≡ false
unfolding merged_by merged_into
stars_some None None [] ys some = absurd cc
stars_some None None (x ∷ xs) [] some = refl
stars_some None None (x ∷ xs) (y ∷ ys) some =
    elim (slice_cmp nat_cmp x y) as (λ r. is_empty None (by_order r (x ∷ united xs (y ∷ ys)) (x ∷ united xs ys) (y ∷ merged_into itself first_of x (united xs) ys)) ≡ false) [
      | Less ↦ refl
      | Equal ↦ refl
      | Greater ↦ refl
    ]
stars_some None (Some e) xs ys some = refl
stars_some (Some e) None xs ys some = refl
stars_some (Some e) (Some f) xs ys some = refl

groups_normal : (family : AddressFamily) (a b : GroupForm) → IsNormalGroup family a → IsNormalGroup family b → IsNormalGroup family (both_groups a b)
groups_normal family a b is_a is_b = record {
  group = is_a.group;
  exceptions = stars_normal family a.star b.star is_a.exceptions is_b.exceptions;
  ascending = united_ascending a.sources b.sources is_a.ascending is_b.ascending;
  sources = united_all _ a.sources b.sources is_a.sources is_b.sources;
  some = stars_some a.star b.star a.sources b.sources is_a.some;
}

pub merged_normal : (family : AddressFamily) (one other : List GroupForm) → IsNormal family one → IsNormal family other → IsNormal family (merged one other)
merged_normal family one other is_one is_other = record {
  ascending = ascending_merged group_of both_groups (λ a b. refl) one other is_one.ascending is_other.ascending;
  groups = all_merged group_of both_groups (IsNormalGroup family) (λ a b same. groups_normal family a b) one other is_one.groups is_other.groups;
}

-- ---- what is wanted

not_both : (p q : Bool) → not (p && q) ≡ (not p || not q)
not_both true q = refl
not_both false q = refl

stars_want : (s : List ℕ) (a b : Option (List (List ℕ))) → not (is_excepted s (both_stars a b)) ≡ (not (is_excepted s a) || not (is_excepted s b))
stars_want s None b = refl
stars_want s (Some xs) None = or_nothing (not (is_listed s xs))
  where
    or_nothing : (p : Bool) → p ≡ (p || false)
    or_nothing true = refl
    or_nothing false = refl
stars_want s (Some xs) (Some ys) = ap not (common_listed s xs ys) ∙ not_both (is_listed s xs) (is_listed s ys)

groups_want : (s : List ℕ) (tree : Tree) (a b : GroupForm) → group_wants (both_groups a b) s tree ≡ (group_wants a s tree || group_wants b s tree)
groups_want s Shared a b = stars_want s a.star b.star
groups_want s Source a b = united_listed s a.sources b.sources

and_or : (p q r : Bool) → (p && (q || r)) ≡ ((p && q) || (p && r))
and_or true q r = refl
and_or false q r = refl

pub merged_wants : (one other : List GroupForm) (s group : List ℕ) (tree : Tree) → form_wants (merged one other) s group tree ≡ (form_wants one s group tree || form_wants other s group tree)
merged_wants one other s group tree =
    any_merged group_of both_groups (λ this. same_address group this.group && group_wants this s tree)
    (λ a b same. ap (λ w. same_address group a.group && w) (groups_want s tree a b) ∙ and_or (same_address group a.group) (group_wants a s tree) (group_wants b s tree)
    ∙ ap (λ g. (same_address group a.group && group_wants a s tree) || (same_address group g && group_wants b s tree)) same) one other
