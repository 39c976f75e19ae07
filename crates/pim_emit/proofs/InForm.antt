-- What is true of what a normal form has of a group.
use Rattle.pim_emit.proofs.Words.{◌≡◌, ℕ, List, [], ◌∷◌, Option, None, Some, refl, sym, AllByRecursion, IsStrictlySortedBy}
use Rattle.pim_emit.proofs.Words.{AddressFamily, GroupForm, AreAscending, AreExceptions, IsNormalGroup, IsNormal, same_address}
use Rattle.pim_emit.proofs.Words.{exceptions_of, group_in, exceptions_in, sources_in}
use Rattle.pim_emit.proofs.Above.{by_test}
use Rattle.pim_emit.proofs.Addresses.{same_is}

-- what is true of the group that is unwanted, and of each group of the form
pub group_holds : (P : GroupForm → Type 0) (group : List ℕ) (form : List GroupForm) → P (record { group = group; star = None; sources = [] }) → AllByRecursion P form → P (group_in group form)
unfolding group_in
group_holds P group [] unwanted all = unwanted
group_holds P group (this ∷ form) unwanted all =
    by_test (same_address group this.group)
    (λ e. rw e all.0)
    (λ e. rw e (group_holds P group form unwanted all.1))

-- what a form has of a group is of that group
pub group_named : (group : List ℕ) (form : List GroupForm) → (group_in group form).group ≡ group
unfolding group_in
group_named group [] = refl
group_named group (this ∷ form) =
    by_test (same_address group this.group)
    (λ e. rw e (sym (same_is group this.group e)))
    (λ e. rw e (group_named group form))

map_all : {A : Type 0} (P Q : A → Type 0) (xs : List A) → ((x : A) → P x → Q x) → AllByRecursion P xs → AllByRecursion Q xs
map_all P Q [] each all = tt
map_all P Q (x ∷ xs) each all = (each x all.0, map_all P Q xs each all.1)

module _ (family : AddressFamily) (group : List ℕ) (form : List GroupForm) (normal : IsNormal family form) where
  pub sources_ascend : AreAscending (sources_in group form)
  unfolding IsStrictlySortedBy
  sources_ascend = group_holds (λ this. AreAscending this.sources) group form tt (map_all (IsNormalGroup family) (λ this. AreAscending this.sources) form (λ this is. is.ascending) normal.groups)

  excepted : (star : Option (List (List ℕ))) → AreExceptions family star → AreAscending (exceptions_of star)
  unfolding IsStrictlySortedBy
  excepted None are = tt
  excepted (Some xs) are = are.0

  pub exceptions_ascend : AreAscending (exceptions_in group form)
  unfolding IsStrictlySortedBy
  exceptions_ascend = group_holds (λ this. AreAscending (exceptions_of this.star)) group form tt (map_all (IsNormalGroup family) (λ this. AreAscending (exceptions_of this.star)) form (λ this is. excepted this.star is.exceptions) normal.groups)
