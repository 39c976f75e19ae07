-- The change between two forms, group by group.
use Rattle.pim_change.proofs.Words.{◌≡◌, ◌∙◌, ℕ, List, [], ◌∷◌, ◌++◌, refl, sym, ap, subst, Less, Equal, Greater}
use Rattle.pim_change.proofs.Words.{AllByRecursion, flat_map, IsStrictlySortedBy, nat_cmp, slice_cmp}
use Rattle.pim_change.proofs.Words.{nat_list_cmp_total, tied_itself, GroupForm, AreAscending, groups_of, unwanted}
use Rattle.pim_change.proofs.Words.{group_in, ChangeUnit, about, group_change, inserted, in_order, change_at, change}
use Rattle.pim_change.proofs.Addresses.{same_itself, equal_is, less_apart, greater_less, less_greater, less_apart_back}
use Rattle.pim_change.proofs.Addresses.{all_behind}
use Rattle.pim_change.proofs.Sorted.{either_all}

-- ---- the addresses of two lists in order

abbrev Below : List ℕ → List (List ℕ) → Type 0
Below x xs = AllByRecursion (λ y. slice_cmp nat_cmp x y ≡ Less) xs

inserted_first : (x : List ℕ) (xs : List (List ℕ)) → Below x xs → inserted x xs ≡ x ∷ xs
unfolding inserted
inserted_first x [] below = refl
inserted_first x (y ∷ ys) below = rw below.0 refl

inserted_behind : (x z : List ℕ) (zs : List (List ℕ)) → slice_cmp nat_cmp z x ≡ Less
    → inserted x (z ∷ zs) ≡ z ∷ inserted x zs
unfolding inserted
inserted_behind x z zs less = rw (less_greater z x less) refl

inserted_there : (x z : List ℕ) (zs : List (List ℕ)) → x ≡ z → inserted x (z ∷ zs) ≡ z ∷ zs
unfolding inserted
inserted_there x z zs same =
    let tied : slice_cmp nat_cmp x z ≡ Equal = subst (λ a. slice_cmp nat_cmp x a ≡ Equal) same
    (tied_itself nat_list_cmp_total x) in
    rw tied refl

-- an address below the others of both lists is the first of them, wherever it stands
first_of_one : (x : List ℕ) (xs ys : List (List ℕ)) → Below x xs → Below x ys
    → in_order ((x ∷ xs) ++ ys) ≡ x ∷ in_order (xs ++ ys)
unfolding in_order
first_of_one x xs ys below_x below_y =
    inserted_first x (in_order (xs ++ ys)) (either_all (λ y. slice_cmp nat_cmp x y ≡ Less) xs ys below_x below_y)

first_of_other : (y : List ℕ) (xs ys : List (List ℕ)) → Below y xs → Below y ys
    → in_order (xs ++ y ∷ ys) ≡ y ∷ in_order (xs ++ ys)
unfolding in_order
first_of_other y [] ys below_x below_y = first_of_one y [] ys tt below_y
first_of_other y (x ∷ xs) ys below_x below_y =
    ap (inserted x) (first_of_other y xs ys below_x.1 below_y)
    ∙ inserted_behind x y (in_order (xs ++ ys)) below_x.0

first_of_both : (x y : List ℕ) (xs ys : List (List ℕ)) → x ≡ y → Below y xs → Below y ys
    → in_order ((x ∷ xs) ++ y ∷ ys) ≡ x ∷ in_order (xs ++ ys)
unfolding in_order
first_of_both x y xs ys same below_x below_y =
    ap (inserted x) (first_of_other y xs ys below_x below_y) ∙ inserted_there x y (in_order (xs ++ ys)) same
    ∙ ap (λ (a : List ℕ). a ∷ in_order (xs ++ ys)) (sym same)

-- ---- what a form has of a group

in_first : (this : GroupForm) (form : List GroupForm) → group_in this.group (this ∷ form) ≡ this
unfolding group_in
in_first this form = rw (same_itself this.group) refl

pub in_same : (this : GroupForm) (form : List GroupForm) (group : List ℕ) → group ≡ this.group
    → group_in group (this ∷ form) ≡ this
in_same this form group is = subst (λ g. group_in g (this ∷ form) ≡ this) (sym is) (in_first this form)

pub in_behind : (this : GroupForm) (form : List GroupForm) (group : List ℕ) → slice_cmp nat_cmp this.group group ≡ Less
    → group_in group (this ∷ form) ≡ group_in group form
unfolding group_in
in_behind this form group less = rw (less_apart_back this.group group less) refl

pub in_none : (form : List GroupForm) (group : List ℕ)
    → AllByRecursion (λ g. slice_cmp nat_cmp group g ≡ Less) (groups_of form) → group_in group form ≡ unwanted group
unfolding group_in
in_none [] group below = refl
in_none (this ∷ form) group below = rw (less_apart group this.group below.0) (in_none form group below.1)

-- ---- the first group of the two, and the others

alike : (f g : List ℕ → List ChangeUnit) (groups : List (List ℕ)) → AllByRecursion (λ a. f a ≡ g a) groups
    → flat_map f groups ≡ flat_map g groups
alike f g [] all = refl
alike f g (a ∷ groups) all = λ i. all.0 i ++ alike f g groups all.1 i

each : (P Q : List ℕ → Type 0) → ((a : List ℕ) → P a → Q a) → (groups : List (List ℕ)) → AllByRecursion P groups
    → AllByRecursion Q groups
each P Q step [] all = tt
each P Q step (a ∷ groups) all = (step a all.0, each P Q step groups all.1)

-- groups above the first of the told ones
past_old : (old : GroupForm) (olds news : List GroupForm) (groups : List (List ℕ))
    → AllByRecursion (λ g. slice_cmp nat_cmp old.group g ≡ Less) groups
    → flat_map (change_at (old ∷ olds) news) groups ≡ flat_map (change_at olds news) groups
past_old old olds news groups above =
    alike (change_at (old ∷ olds) news) (change_at olds news) groups
    (each (λ g. slice_cmp nat_cmp old.group g ≡ Less) (λ g. change_at (old ∷ olds) news g ≡ change_at olds news g)
    (λ g less. ap (λ (this : GroupForm). about g (group_change this (group_in g news))) (in_behind old olds g less))
    groups above)

past_new : (new : GroupForm) (olds news : List GroupForm) (groups : List (List ℕ))
    → AllByRecursion (λ g. slice_cmp nat_cmp new.group g ≡ Less) groups
    → flat_map (change_at olds (new ∷ news)) groups ≡ flat_map (change_at olds news) groups
past_new new olds news groups above =
    alike (change_at olds (new ∷ news)) (change_at olds news) groups
    (each (λ g. slice_cmp nat_cmp new.group g ≡ Less) (λ g. change_at olds (new ∷ news) g ≡ change_at olds news g)
    (λ g less. ap (λ (this : GroupForm). about g (group_change (group_in g olds) this)) (in_behind new news g less))
    groups above)

old_first : (old : GroupForm) (olds news : List GroupForm) → AreAscending (groups_of (old ∷ olds))
    → AllByRecursion (λ g. slice_cmp nat_cmp old.group g ≡ Less) (groups_of news)
    → flat_map (change_at (old ∷ olds) news) (old.group ∷ in_order (groups_of olds ++ groups_of news)) ≡ about old.group
    (group_change old (unwanted old.group)) ++ change olds news
unfolding change IsStrictlySortedBy
old_first old olds news up above =
    let here : change_at (old ∷ olds) news old.group ≡ about old.group (group_change old (unwanted old.group)) =
    λ i. about old.group (group_change (in_first old olds i) (in_none news old.group above i)) in
    let behind = past_old old olds news (in_order (groups_of olds ++ groups_of news))
    (either_all (λ g. slice_cmp nat_cmp old.group g ≡ Less) (groups_of olds) (groups_of news) up.0 above) in
    λ i. here i ++ behind i

new_first : (new : GroupForm) (olds news : List GroupForm) → AreAscending (groups_of (new ∷ news))
    → AllByRecursion (λ g. slice_cmp nat_cmp new.group g ≡ Less) (groups_of olds)
    → flat_map (change_at olds (new ∷ news)) (new.group ∷ in_order (groups_of olds ++ groups_of news)) ≡ about new.group
    (group_change (unwanted new.group) new) ++ change olds news
unfolding change IsStrictlySortedBy
new_first new olds news up above =
    let here : change_at olds (new ∷ news) new.group ≡ about new.group (group_change (unwanted new.group) new) =
    λ i. about new.group (group_change (in_none olds new.group above i) (in_first new news i)) in
    let behind = past_new new olds news (in_order (groups_of olds ++ groups_of news))
    (either_all (λ g. slice_cmp nat_cmp new.group g ≡ Less) (groups_of olds) (groups_of news) above up.0) in
    λ i. here i ++ behind i

module _ (old new : GroupForm) (olds news : List GroupForm) (up_old : AreAscending (groups_of (old ∷ olds)))
    (up_new : AreAscending (groups_of (new ∷ news))) where
  pub change_less : slice_cmp nat_cmp old.group new.group ≡ Less
      → change (old ∷ olds) (new ∷ news) ≡ about old.group (group_change old (unwanted old.group))
      ++ change olds (new ∷ news)
  unfolding change IsStrictlySortedBy
  change_less less =
      let above : Below old.group (groups_of (new ∷ news)) =
      (less, all_behind old.group new.group (groups_of news) less up_new.0) in
      ap (flat_map (change_at (old ∷ olds) (new ∷ news)))
      (first_of_one old.group (groups_of olds) (groups_of (new ∷ news)) up_old.0 above)
      ∙ old_first old olds (new ∷ news) up_old above

  pub change_greater : slice_cmp nat_cmp old.group new.group ≡ Greater
      → change (old ∷ olds) (new ∷ news) ≡ about new.group (group_change (unwanted new.group) new)
      ++ change (old ∷ olds) news
  unfolding change IsStrictlySortedBy
  change_greater greater =
      let less = greater_less old.group new.group greater in
      let above : Below new.group (groups_of (old ∷ olds)) =
      (less, all_behind new.group old.group (groups_of olds) less up_old.0) in
      ap (flat_map (change_at (old ∷ olds) (new ∷ news)))
      (first_of_other new.group (groups_of (old ∷ olds)) (groups_of news) above up_new.0)
      ∙ new_first new (old ∷ olds) news up_new above

  pub change_equal : slice_cmp nat_cmp old.group new.group ≡ Equal
      → change (old ∷ olds) (new ∷ news) ≡ about new.group (group_change old new) ++ change olds news
  unfolding change IsStrictlySortedBy
  change_equal equal =
      let same : old.group ≡ new.group = equal_is old.group new.group equal in
      let here : change_at (old ∷ olds) (new ∷ news) old.group ≡ about new.group (group_change old new) =
      λ i. about (same i) (group_change (in_first old olds i) (in_same new news old.group same i)) in
      let above : AllByRecursion (λ g. slice_cmp nat_cmp old.group g ≡ Less)
      (in_order (groups_of olds ++ groups_of news)) =
      either_all (λ g. slice_cmp nat_cmp old.group g ≡ Less) (groups_of olds) (groups_of news) up_old.0
      (subst (λ a. AllByRecursion (λ g. slice_cmp nat_cmp a g ≡ Less) (groups_of news)) (sym same) up_new.0) in
      let above' : AllByRecursion (λ g. slice_cmp nat_cmp new.group g ≡ Less)
      (in_order (groups_of olds ++ groups_of news)) =
      subst (λ a. AllByRecursion (λ g. slice_cmp nat_cmp a g ≡ Less) (in_order (groups_of olds ++ groups_of news)))
      same above in
      let behind = past_old old olds (new ∷ news) (in_order (groups_of olds ++ groups_of news)) above
      ∙ past_new new olds news (in_order (groups_of olds ++ groups_of news)) above' in
      ap (flat_map (change_at (old ∷ olds) (new ∷ news)))
      (first_of_both old.group new.group (groups_of olds) (groups_of news) same
      (subst (λ a. Below a (groups_of olds)) same up_old.0) up_new.0)
      ∙ (λ i. here i ++ behind i)

pub change_gone : (old : GroupForm) (olds : List GroupForm) → AreAscending (groups_of (old ∷ olds))
    → change (old ∷ olds) [] ≡ about old.group (group_change old (unwanted old.group)) ++ change olds []
unfolding change IsStrictlySortedBy
change_gone old olds up =
    ap (flat_map (change_at (old ∷ olds) [])) (first_of_one old.group (groups_of olds) [] up.0 tt)
    ∙ old_first old olds [] up tt

pub change_came : (new : GroupForm) (news : List GroupForm) → AreAscending (groups_of (new ∷ news))
    → change [] (new ∷ news) ≡ about new.group (group_change (unwanted new.group) new) ++ change [] news
unfolding change IsStrictlySortedBy
change_came new news up =
    ap (flat_map (change_at [] (new ∷ news))) (first_of_other new.group [] (groups_of news) tt up.0)
    ∙ new_first new [] news up tt

pub no_change : change [] [] ≡ []
unfolding change in_order
no_change = refl
