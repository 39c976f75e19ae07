-- The units of a form stand in an order in which no two name one machine; so do those of its parts.
use Rattle.pim_mirror.proofs.Words.{◌≡◌, ◌∙◌, ℕ, true, false, List, [], ◌∷◌, ◌++◌, Option, None, Some, map, refl, sym}
use Rattle.pim_mirror.proofs.Words.{subst, Less, AllByRecursion, IsStrictlySortedBy, nat_cmp, slice_cmp, false≢true}
use Rattle.pim_mirror.proofs.Words.{GroupForm, AreAscending, same_address, groups_of, WantUnit, star_unit, source_unit}
use Rattle.pim_mirror.proofs.Words.{unit_group, star_units, group_units, units_of}
use Rattle.pim_mirror.proofs.ListParts.{all_append, all_front, all_known, all_map, all_mapped}
use Rattle.pim_mirror.proofs.SameAddresses.{same_itself, less_apart}

-- two stars are of different groups, and two sources of one group are in order
unfoldable pub Comes : WantUnit → WantUnit → Type 0
Comes (star_unit g e) (star_unit h f) = same_address g h ≡ false
Comes (star_unit g e) (source_unit h t) = Unit {0}
Comes (source_unit g s) (star_unit h f) = Unit {0}
Comes (source_unit g s) (source_unit h t) = same_address g h ≡ true → slice_cmp nat_cmp s t ≡ Less

unfoldable pub AreOrdered : List WantUnit → Type 0
AreOrdered [] = Unit {0}
AreOrdered (this ∷ units) = AllByRecursion (Comes this) units × AreOrdered units

-- ---- parts of a list

pub ordered_append : (xs ys : List WantUnit) → AreOrdered xs → AreOrdered ys → AllByRecursion (λ x. AllByRecursion (Comes x) ys) xs → AreOrdered (xs ++ ys)
unfolding AreOrdered
ordered_append [] ys in_x in_y between = in_y
ordered_append (x ∷ xs) ys in_x in_y between = (all_append (Comes x) xs ys in_x.0 between.0, ordered_append xs ys in_x.1 in_y between.1)

pub ordered_front : (xs ys : List WantUnit) → AreOrdered (xs ++ ys) → AreOrdered xs
unfolding AreOrdered
ordered_front [] ys ordered = tt
ordered_front (x ∷ xs) ys ordered = (all_front (Comes x) xs ys ordered.0, ordered_front xs ys ordered.1)

pub ordered_behind : (xs ys : List WantUnit) → AreOrdered (xs ++ ys) → AreOrdered ys
unfolding AreOrdered
ordered_behind [] ys ordered = ordered
ordered_behind (x ∷ xs) ys ordered = ordered_behind xs ys ordered.1

-- ---- the units of a group

source_comes : (group x y : List ℕ) → slice_cmp nat_cmp x y ≡ Less → Comes (source_unit group x) (source_unit group y)
unfolding Comes
source_comes group x y less = λ same. less

comes_back : (group x y : List ℕ) → Comes (source_unit group x) (source_unit group y) → slice_cmp nat_cmp x y ≡ Less
unfolding Comes
comes_back group x y comes = comes (same_itself group)

sources_ordered : (group : List ℕ) (xs : List (List ℕ)) → AreAscending xs → AreOrdered (map (source_unit group) xs)
unfolding AreOrdered IsStrictlySortedBy
sources_ordered group [] up = tt
sources_ordered group (x ∷ xs) up =
    (all_map (λ y. slice_cmp nat_cmp x y ≡ Less) (Comes (source_unit group x)) (source_unit group) (source_comes group x) xs up.0, sources_ordered group xs up.1)

-- and back
pub sources_ascend : (group : List ℕ) (xs : List (List ℕ)) → AreOrdered (map (source_unit group) xs) → AreAscending xs
unfolding AreOrdered IsStrictlySortedBy
sources_ascend group [] ordered = tt
sources_ascend group (x ∷ xs) ordered =
    (all_mapped (λ y. slice_cmp nat_cmp x y ≡ Less) (Comes (source_unit group x)) (source_unit group) (comes_back group x) xs ordered.0, sources_ascend group xs ordered.1)

star_comes : (group : List ℕ) (exceptions xs : List (List ℕ)) → AllByRecursion (Comes (star_unit group exceptions)) (map (source_unit group) xs)
unfolding Comes
star_comes group exceptions [] = tt
star_comes group exceptions (x ∷ xs) = (tt, star_comes group exceptions xs)

group_ordered : (group : List ℕ) (star : Option (List (List ℕ))) (xs : List (List ℕ)) → AreAscending xs → AreOrdered (star_units group star ++ map (source_unit group) xs)
unfolding AreOrdered
group_ordered group None xs up = sources_ordered group xs up
group_ordered group (Some exceptions) xs up = (star_comes group exceptions xs, sources_ordered group xs up)

-- ---- the units of groups

abbrev IsOf : List ℕ → WantUnit → Type 0
IsOf group this = unit_group this ≡ group

sources_of : (group : List ℕ) (xs : List (List ℕ)) → AllByRecursion (IsOf group) (map (source_unit group) xs)
sources_of group [] = tt
sources_of group (x ∷ xs) = (refl, sources_of group xs)

all_of : (group : List ℕ) (star : Option (List (List ℕ))) (xs : List (List ℕ)) → AllByRecursion (IsOf group) (star_units group star ++ map (source_unit group) xs)
all_of group None xs = sources_of group xs
all_of group (Some exceptions) xs = (refl, sources_of group xs)

abbrev IsApart : List ℕ → WantUnit → Type 0
IsApart group this = same_address group (unit_group this) ≡ false

apart_units : (group : List ℕ) (form : List GroupForm) → AllByRecursion (λ other. slice_cmp nat_cmp group other ≡ Less) (groups_of form) → AllByRecursion (IsApart group) (units_of form)
apart_units group [] below = tt
apart_units group (this ∷ form) below =
    all_append (IsApart group) (group_units this) (units_of form)
    (all_known (IsOf this.group) (IsApart group) (λ u of. subst (λ (g : List ℕ). same_address group g ≡ false) (sym of) (less_apart group this.group below.0)) (group_units this) (all_of this.group this.star this.sources))
    (apart_units group form below.1)

apart_comes : (one other : WantUnit) → same_address (unit_group one) (unit_group other) ≡ false → Comes one other
unfolding Comes
apart_comes (star_unit g e) (star_unit h f) apart = apart
apart_comes (star_unit g e) (source_unit h t) apart = tt
apart_comes (source_unit g s) (star_unit h f) apart = tt
apart_comes (source_unit g s) (source_unit h t) apart = λ same. absurd (false≢true (sym apart ∙ same))

comes_before : (group : List ℕ) (units : List WantUnit) → AllByRecursion (IsApart group) units → (one : WantUnit) → IsOf group one → AllByRecursion (Comes one) units
comes_before group units apart one of =
    all_known (IsApart group) (Comes one) (λ other is. apart_comes one other (subst (λ (g : List ℕ). same_address g (unit_group other) ≡ false) (sym of) is)) units apart

pub form_ordered : (form : List GroupForm) → AreAscending (groups_of form) → AllByRecursion (λ (this : GroupForm). AreAscending this.sources) form → AreOrdered (units_of form)
unfolding IsStrictlySortedBy AreOrdered
form_ordered [] up sources = tt
form_ordered (this ∷ form) up sources =
    ordered_append (group_units this) (units_of form) (group_ordered this.group this.star this.sources sources.0) (form_ordered form up.1 sources.1)
    (all_known (IsOf this.group) (λ one. AllByRecursion (Comes one) (units_of form)) (comes_before this.group (units_of form) (apart_units this.group form up.0)) (group_units this) (all_of this.group this.star this.sources))
