-- A form that is told again changes nothing.
use Rattle.pim_change.proofs.Words.{◌≡◌, ℕ, Bool, true, false, ◌||◌, List, [], ◌∷◌, ◌++◌, Option, None, Some, map, refl}
use Rattle.pim_change.proofs.Words.{ap, AllByRecursion, flat_map, GroupForm, same_address, is_listed, groups_of}
use Rattle.pim_change.proofs.Words.{group_in, JoinRpt, PruneRpt, JoinSource, PruneSource, of_source, ChangeUnit, about}
use Rattle.pim_change.proofs.Words.{lacking, star_change, group_change, in_order, change_at, change}
use Rattle.pim_change.proofs.Addresses.{same_itself}

none_of : (xs ys : List (List ℕ)) → AllByRecursion (λ x. is_listed x ys ≡ true) xs → lacking xs ys ≡ []
none_of [] ys all = refl
none_of (x ∷ xs) ys all = rw all.0 (none_of xs ys all.1)

or_right : (p q : Bool) → q ≡ true → (p || q) ≡ true
or_right true q h = refl
or_right false q h = h

more_listed : (y : List ℕ) (xs ys : List (List ℕ)) → AllByRecursion (λ x. is_listed x ys ≡ true) xs
    → AllByRecursion (λ x. is_listed x (y ∷ ys) ≡ true) xs
more_listed y [] ys all = tt
more_listed y (x ∷ xs) ys all = (or_right (same_address x y) (is_listed x ys) all.0, more_listed y xs ys all.1)

all_listed : (xs : List (List ℕ)) → AllByRecursion (λ x. is_listed x xs ≡ true) xs
all_listed [] = tt
all_listed (x ∷ xs) = (ap (λ b. b || is_listed x xs) (same_itself x), more_listed x xs xs (all_listed xs))

nothing_lacks : (xs : List (List ℕ)) → lacking xs xs ≡ []
nothing_lacks xs = none_of xs xs (all_listed xs)

same_star : (star : Option (List (List ℕ))) → star_change star star ≡ []
same_star None = refl
same_star (Some exceptions) =
    λ i. map (of_source JoinRpt) (nothing_lacks exceptions i) ++ map (of_source PruneRpt) (nothing_lacks exceptions i)

same_group : (this : GroupForm) → group_change this this ≡ []
same_group this = λ i. same_star this.star i
    ++ (map (of_source JoinSource) (nothing_lacks this.sources i) ++ map (of_source PruneSource) (nothing_lacks this.sources i))

no_units : (f : List ℕ → List ChangeUnit) → ((g : List ℕ) → f g ≡ []) → (groups : List (List ℕ))
    → flat_map f groups ≡ []
no_units f none [] = refl
no_units f none (g ∷ groups) = λ i. none g i ++ no_units f none groups i

pub unchanged : (form : List GroupForm) → change form form ≡ []
unfolding change
unchanged form = no_units (change_at form form) (λ g. ap (about g) (same_group (group_in g form)))
    (in_order (groups_of form ++ groups_of form))
