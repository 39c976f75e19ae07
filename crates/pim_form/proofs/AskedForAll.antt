-- The neighbour that is asked for all that a form wants.
use Rattle.pim_form.proofs.Words.{◌≡◌, ◌∙◌, ◌↔◌, ℕ, Bool, true, false, ◌&&◌, ◌||◌, not, List, [], ◌∷◌, Option, None, Some, refl}
use Rattle.pim_form.proofs.Words.{sym, ap, subst, false≢true, both_true, AllByRecursion, list_all, AddressFamily, IsSourceAddress}
use Rattle.pim_form.proofs.Words.{Tree, Demand, GroupForm, same_address, is_listed, AreExceptions, is_excepted, IsNormalGroup}
use Rattle.pim_form.proofs.Words.{IsNormal, group_wants, form_wants, IsFormOf, star_rpf_neighbour, rpf_neighbour, is_neighbour}
use Rattle.pim_form.proofs.Words.{toward, is_star_toward, is_group_toward, is_toward, GetsAll}
use Rattle.pim_form.specs.declared.tree.Tree.TheVariants.{Shared, Source}
use Rattle.pim_form.proofs.Addresses.{same_is, listed_first}
use Rattle.pim_form.proofs.Counting.{outside}
use Rattle.pim_form.proofs.OneForm.{of_first}

pub first_true : (a b : Bool) → (a && b) ≡ true → a ≡ true
first_true true b h = refl
first_true false b h = h

pub second_true : (a b : Bool) → (a && b) ≡ true → b ≡ true
second_true true b h = h
second_true false b h = absurd (false≢true h)

pub or_second : (a b : Bool) → b ≡ true → (a || b) ≡ true
or_second true b h = refl
or_second false b h = h

-- ---- a list of addresses

listed_passes : (test : List ℕ → Bool) (s : List ℕ) (xs : List (List ℕ)) → list_all test xs ≡ true → is_listed s xs ≡ true → test s ≡ true
listed_passes test s [] all listed = absurd (false≢true listed)
listed_passes test s (x ∷ xs) all listed =
    let others = listed_passes test s xs (second_true (test x) (list_all test xs) all) in
    elim (same_address s x) as (λ a. same_address s x ≡ a → (a || is_listed s xs) ≡ true → test s ≡ true) [
      | true ↦ λ same found. ap test (same_is s x same) ∙ first_true (test x) (list_all test xs) all
      | false ↦ λ apart found. others found
    ] refl listed

all_pass : (Kind : List ℕ → Type 0) (test : List ℕ → Bool) (xs : List (List ℕ)) → AllByRecursion Kind xs
    → ((s : List ℕ) → Kind s → is_listed s xs ≡ true → test s ≡ true) → list_all test xs ≡ true
all_pass Kind test [] are each = refl
all_pass Kind test (x ∷ xs) are each =
    both_true (each x are.0 (listed_first x xs))
    (all_pass Kind test xs are.1 (λ s is listed. each s is (or_second (same_address s x) (is_listed s xs) listed)))

module _ (rps via : List ℕ → Option (List ℕ)) (neighbour : List ℕ) where
  -- ---- from the test to what is wanted

  star_asked : (group : List ℕ) (star : Option (List (List ℕ))) (s : List ℕ) → is_star_toward rps via neighbour group star ≡ true → not (is_excepted s star) ≡ true
      → is_neighbour neighbour (star_rpf_neighbour via (rps group)) ≡ true
  star_asked group None s test wanted = absurd (false≢true wanted)
  star_asked group (Some xs) s test wanted = test

  group_asked : (this : GroupForm) (s : List ℕ) (tree : Tree) → is_group_toward rps via neighbour this ≡ true → group_wants this s tree ≡ true
      → is_neighbour neighbour (rpf_neighbour rps via s this.group tree) ≡ true
  group_asked this s Shared test wanted =
      star_asked this.group this.star s (first_true (is_star_toward rps via neighbour this.group this.star) (list_all (λ source. is_neighbour neighbour (via source)) this.sources) test) wanted
  group_asked this s Source test wanted =
      listed_passes (λ source. is_neighbour neighbour (via source)) s this.sources
      (second_true (is_star_toward rps via neighbour this.group this.star) (list_all (λ source. is_neighbour neighbour (via source)) this.sources) test) wanted

  form_asked : (form : List GroupForm) (s group : List ℕ) (tree : Tree) → is_toward rps via neighbour form ≡ true → form_wants form s group tree ≡ true
      → is_neighbour neighbour (rpf_neighbour rps via s group tree) ≡ true
  form_asked [] s group tree test wanted = absurd (false≢true wanted)
  form_asked (this ∷ form) s group tree test wanted =
      let here = first_true (is_group_toward rps via neighbour this) (is_toward rps via neighbour form) test in
      let others = form_asked form s group tree (second_true (is_group_toward rps via neighbour this) (is_toward rps via neighbour form) test) in
      elim (same_address group this.group) as (λ a. same_address group this.group ≡ a → ((a && group_wants this s tree) || form_wants form s group tree) ≡ true
      → is_neighbour neighbour (rpf_neighbour rps via s group tree) ≡ true) [
        | true ↦ λ same some.
            elim (group_wants this s tree) as (λ w. group_wants this s tree ≡ w → (w || form_wants form s group tree) ≡ true → is_neighbour neighbour (rpf_neighbour rps via s group tree) ≡ true) [
              | true ↦ λ is found. subst (λ g. is_neighbour neighbour (rpf_neighbour rps via s g tree) ≡ true) (sym (same_is group this.group same)) (group_asked this s tree here is)
              | false ↦ λ is found. others found
            ] refl some
        | false ↦ λ apart some. others some
      ] refl wanted

  -- ---- from what is wanted to the test

  star_tested : (family : AddressFamily) (group : List ℕ) (star : Option (List (List ℕ))) → AreExceptions family star
      → ((s : List ℕ) → IsSourceAddress family s → not (is_excepted s star) ≡ true → is_neighbour neighbour (star_rpf_neighbour via (rps group)) ≡ true)
      → is_star_toward rps via neighbour group star ≡ true
  star_tested family group None are each = refl
  star_tested family group (Some xs) are each =
      let free = outside family xs are.2 in
      each free.source free.valid (ap not free.apart)

  group_tested : (family : AddressFamily) (this : GroupForm) → IsNormalGroup family this
      → ((s : List ℕ) (tree : Tree) → IsSourceAddress family s → group_wants this s tree ≡ true → is_neighbour neighbour (rpf_neighbour rps via s this.group tree) ≡ true)
      → is_group_toward rps via neighbour this ≡ true
  group_tested family this is each = both_true
      (star_tested family this.group this.star is.exceptions (λ s valid wanted. each s Shared valid wanted))
      (all_pass (IsSourceAddress family) (λ source. is_neighbour neighbour (via source)) this.sources is.sources (λ s valid wanted. each s Source valid wanted))

  form_tested : (family : AddressFamily) (form : List GroupForm) → AllByRecursion (IsNormalGroup family) form → GetsAll family rps via neighbour (form_wants form)
      → is_toward rps via neighbour form ≡ true
  form_tested family [] are only = refl
  form_tested family (this ∷ form) are only = both_true
      (group_tested family this are.0 (λ s tree valid wanted. only s this.group tree valid are.0.group (of_first this form s tree wanted)))
      (form_tested family form are.1 (λ s group tree valid is_group wanted.
      only s group tree valid is_group (or_second (same_address group this.group && group_wants this s tree) (form_wants form s group tree) wanted)))

  pub test_tells : (family : AddressFamily) (form : List GroupForm) → IsNormal family form → (is_toward rps via neighbour form ≡ true) ↔ GetsAll family rps via neighbour (form_wants form)
  test_tells family form is =
      (λ test s group tree valid is_group wanted. form_asked form s group tree test wanted, λ only. form_tested family form is.groups only)

  -- a form of what is asked of the neighbour passes the test
  pub asked_is_toward : (family : AddressFamily) (demand : Demand) (form : List GroupForm) → IsFormOf family (toward rps via neighbour demand) form → is_toward rps via neighbour form ≡ true
  asked_is_toward family demand form is =
      form_tested family form is.normal.groups (λ s group tree valid is_group wanted.
      second_true (demand s group tree) (is_neighbour neighbour (rpf_neighbour rps via s group tree)) (is.wants s group tree valid is_group ∙ wanted))
