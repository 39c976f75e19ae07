-- Normal forms with the same units are one, and how many groups their units have.
use Rattle.pim_form.proofs.Words.{◌≡◌, ◌∙◌, ℕ, ◌+◌, true, false, List, [], ◌∷◌, ◌++◌, Option, None, Some, map, length, refl, sym}
use Rattle.pim_form.proofs.Words.{ap, subst, arith, AllByRecursion, IsStrictlySortedBy, nat_cmp, Less, slice_cmp, false≢true}
use Rattle.pim_form.proofs.Words.{GroupForm, AreAscending, same_address, is_empty, groups_of, WantUnit, star_unit, source_unit}
use Rattle.pim_form.proofs.Words.{unit_group, star_units, group_units, units_of, is_of_group, groups_behind, run_groups}
use Rattle.pim_form.proofs.Addresses.{same_itself, less_apart}

abbrev pub IsSome : GroupForm → Type 0
IsSome this = is_empty this.star this.sources ≡ false

-- ---- where the units of a group end

-- these units don't begin with one of the group
abbrev Leaves : List ℕ → List WantUnit → Type 0
Leaves group [] = Unit {0}
Leaves group (this ∷ units) = same_address group (unit_group this) ≡ false

left_group : (group : List ℕ) (this : WantUnit) (units left : List WantUnit) → left ≡ this ∷ units → unit_group this ≡ group → Leaves group left → ⊥
left_group group this units left e same leaves =
    let apart : same_address group (unit_group this) ≡ false = subst (Leaves group) e leaves in
    false≢true (sym apart ∙ subst (λ g. same_address group g ≡ true) (sym same) (same_itself group))

record SameCut (xs ys : List (List ℕ)) (s t : List WantUnit) : Type 0 where
  lists : xs ≡ ys
  left : s ≡ t

sources_cut : (group : List ℕ) (xs ys : List (List ℕ)) (s t : List WantUnit) → map (source_unit group) xs ++ s ≡ map (source_unit group) ys ++ t → Leaves group s → Leaves group t → SameCut xs ys s t
sources_cut group [] [] s t h leaves_s leaves_t = record { lists = refl; left = h }
sources_cut group [] (y ∷ ys) s t h leaves_s leaves_t = absurd (left_group group (source_unit group y) (map (source_unit group) ys ++ t) s h refl leaves_s)
sources_cut group (x ∷ xs) [] s t h leaves_s leaves_t = absurd (left_group group (source_unit group x) (map (source_unit group) xs ++ s) t (sym h) refl leaves_t)
sources_cut group (x ∷ xs) (y ∷ ys) s t h leaves_s leaves_t =
    let head : x ≡ y = cc in
    let behind : map (source_unit group) xs ++ s ≡ map (source_unit group) ys ++ t = cc in
    let others = sources_cut group xs ys s t behind leaves_s leaves_t in
    let tail = others.lists in
    record { lists = λ i. head i ∷ tail i; left = others.left }

record SameGroup (a b : Option (List (List ℕ))) (xs ys : List (List ℕ)) (s t : List WantUnit) : Type 0 where
  stars : a ≡ b
  lists : xs ≡ ys
  left : s ≡ t

group_cut : (group : List ℕ) (a b : Option (List (List ℕ))) (xs ys : List (List ℕ)) (s t : List WantUnit)
    → (star_units group a ++ map (source_unit group) xs) ++ s ≡ (star_units group b ++ map (source_unit group) ys) ++ t → Leaves group s → Leaves group t → SameGroup a b xs ys s t
group_cut group None None xs ys s t h leaves_s leaves_t =
    let same = sources_cut group xs ys s t h leaves_s leaves_t in
    record { stars = refl; lists = same.lists; left = same.left }
group_cut group None (Some e) [] ys s t h leaves_s leaves_t = absurd (left_group group (star_unit group e) (map (source_unit group) ys ++ t) s h refl leaves_s)
group_cut group None (Some e) (x ∷ xs) ys s t h leaves_s leaves_t = absurd cc
group_cut group (Some e) None xs [] s t h leaves_s leaves_t = absurd (left_group group (star_unit group e) (map (source_unit group) xs ++ s) t (sym h) refl leaves_t)
group_cut group (Some e) None xs (y ∷ ys) s t h leaves_s leaves_t = absurd cc
group_cut group (Some e) (Some f) xs ys s t h leaves_s leaves_t =
    let exceptions : e ≡ f = cc in
    let behind : map (source_unit group) xs ++ s ≡ map (source_unit group) ys ++ t = cc in
    let same = sources_cut group xs ys s t behind leaves_s leaves_t in
    record { stars = ap Some exceptions; lists = same.lists; left = same.left }

-- ---- the first unit of a group

pub record FirstUnit (group : List ℕ) (units : List WantUnit) : Type 0 where
  pub this : WantUnit
  pub others : List WantUnit
  pub begins : units ≡ this ∷ others
  pub of_group : unit_group this ≡ group

first_of : (group : List ℕ) (star : Option (List (List ℕ))) (sources : List (List ℕ)) → is_empty star sources ≡ false → FirstUnit group (star_units group star ++ map (source_unit group) sources)
first_of group None [] some = absurd (false≢true (sym some))
first_of group None (s ∷ sources) some = record { this = source_unit group s; others = map (source_unit group) sources; begins = refl; of_group = refl }
first_of group (Some e) sources some = record { this = star_unit group e; others = map (source_unit group) sources; begins = refl; of_group = refl }

pub first_unit : (a : GroupForm) (units : List WantUnit) → IsSome a → FirstUnit a.group (group_units a ++ units)
first_unit a units some =
    let first = first_of a.group a.star a.sources some in
    record { this = first.this; others = first.others ++ units; begins = ap (λ (us : List WantUnit). us ++ units) first.begins; of_group = first.of_group }

leaves_first : (group : List ℕ) (units : List WantUnit) (next : List ℕ) → FirstUnit next units → same_address group next ≡ false → Leaves group units
leaves_first group units next first apart =
    let here : Leaves group (first.this ∷ first.others) = subst (λ g. same_address group g ≡ false) (sym first.of_group) apart in
    subst (Leaves group) (sym first.begins) here

leaves : (a : GroupForm) (form : List GroupForm) → AllByRecursion (λ g. slice_cmp nat_cmp a.group g ≡ Less) (groups_of form) → AllByRecursion IsSome form → Leaves a.group (units_of form)
leaves a [] below some = tt
leaves a (b ∷ form) below some = leaves_first a.group (units_of (b ∷ form)) b.group (first_unit b (units_of form) some.0) (less_apart a.group b.group below.0)

same_first : (x y : List ℕ) (us vs : List WantUnit) → FirstUnit x us → FirstUnit y vs → us ≡ vs → x ≡ y
same_first x y us vs first second e =
    let both : first.this ∷ first.others ≡ second.this ∷ second.others = sym first.begins ∙ e ∙ second.begins in
    let heads : first.this ≡ second.this = cc in
    sym first.of_group ∙ ap unit_group heads ∙ second.of_group

empty_units : (a : GroupForm) (form : List GroupForm) → IsSome a → [] ≡ units_of (a ∷ form) → ⊥
empty_units a form some h =
    let first = first_unit a (units_of form) some in
    let clash : [] ≡ first.this ∷ first.others = h ∙ first.begins in
    cc

pub one_of_units : (one other : List GroupForm) → AreAscending (groups_of one) → AreAscending (groups_of other) → AllByRecursion IsSome one → AllByRecursion IsSome other
    → units_of one ≡ units_of other → one ≡ other
unfolding IsStrictlySortedBy
one_of_units [] [] up_a up_b some_a some_b h = refl
one_of_units [] (b ∷ other) up_a up_b some_a some_b h = absurd (empty_units b other some_b.0 h)
one_of_units (a ∷ one) [] up_a up_b some_a some_b h = absurd (empty_units a one some_a.0 (sym h))
one_of_units (a ∷ one) (b ∷ other) up_a up_b some_a some_b h =
    let groups = same_first a.group b.group (units_of (a ∷ one)) (units_of (b ∷ other)) (first_unit a (units_of one) some_a.0) (first_unit b (units_of other) some_b.0) h in
    let h' = subst (λ g. (star_units a.group a.star ++ map (source_unit a.group) a.sources) ++ units_of one ≡ (star_units g b.star ++ map (source_unit g) b.sources) ++ units_of other) (sym groups) h in
    let leaves_b = subst (λ g. Leaves g (units_of other)) (sym groups) (leaves b other up_b.0 some_b.1) in
    let same = group_cut a.group a.star b.star a.sources b.sources (units_of one) (units_of other) h' (leaves a one up_a.0 some_a.1) leaves_b in
    let stars = same.stars in
    let lists = same.lists in
    let tail = one_of_units one other up_a.1 up_b.1 some_a.1 some_b.1 same.left in
    λ i. record { group = groups i; star = stars i; sources = lists i } ∷ tail i

-- ---- the number of groups

sources_groups : (group : List ℕ) (xs : List (List ℕ)) (left : List WantUnit) → groups_behind (Some group) (map (source_unit group) xs ++ left) ≡ groups_behind (Some group) left
unfolding groups_behind
sources_groups group [] left = refl
sources_groups group (x ∷ xs) left = rw (same_itself group) (omega (arith, sources_groups group xs left))

group_begins : (before : Option (List ℕ)) (group : List ℕ) (star : Option (List (List ℕ))) (sources : List (List ℕ)) (left : List WantUnit) → is_of_group before group ≡ false → is_empty star sources ≡ false
    → groups_behind before ((star_units group star ++ map (source_unit group) sources) ++ left) ≡ 1 + groups_behind (Some group) left
unfolding groups_behind
group_begins before group None [] left new some = absurd (false≢true (sym some))
group_begins before group None (s ∷ sources) left new some = rw (new, sources_groups group sources left) refl
group_begins before group (Some e) sources left new some = rw (new, sources_groups group sources left) refl

abbrev IsNew : Option (List ℕ) → List GroupForm → Type 0
IsNew before [] = Unit {0}
IsNew before (a ∷ form) = is_of_group before a.group ≡ false

new_behind : (a : GroupForm) (form : List GroupForm) → AllByRecursion (λ g. slice_cmp nat_cmp a.group g ≡ Less) (groups_of form) → IsNew (Some a.group) form
new_behind a [] below = tt
new_behind a (b ∷ form) below = less_apart a.group b.group below.0

count_behind : (before : Option (List ℕ)) (form : List GroupForm) → IsNew before form → AreAscending (groups_of form) → AllByRecursion IsSome form → groups_behind before (units_of form) ≡ length form
unfolding groups_behind IsStrictlySortedBy
count_behind before [] new up some = refl
count_behind before (a ∷ form) new up some =
    let others = count_behind (Some a.group) form (new_behind a form up.0) up.1 some.1 in
    let here = group_begins before a.group a.star a.sources (units_of form) new some.0 in
    here ∙ omega (arith, others)

pub count_groups : (form : List GroupForm) → AreAscending (groups_of form) → AllByRecursion IsSome form → run_groups (units_of form) ≡ length form
count_groups form up some = count_behind None form (by form) up some
  where
    by : (form : List GroupForm) → IsNew None form
    by [] = tt
    by (a ∷ form) = refl
