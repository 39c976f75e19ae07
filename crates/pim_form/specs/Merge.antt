-- The merge of two forms into one that wants what either wants, as the code merges. Public
-- definitions cite it in `demanded_form` alone, and the law `form_of_demand_toward` says that this
-- is the normal form of what is requested.
use Rattle.std.specs.Prelude.{ℕ, zero, suc, ◌+◌, Bool, false, ◌||◌, List, [], ◌∷◌, Option, None, Some}
use Rattle.std.specs.List.{filter}
use Rattle.std.specs.declared.cmp.Ordering.{Ordering}
use Rattle.std.specs.declared.cmp.Ordering.TheVariants.{Less, Equal, Greater}
use Rattle.std.specs.Ordering.{nat_cmp}
use Rattle.std.specs.Cmp.Lexicographic.{slice_cmp}
use Rattle.pim_form.specs.NormalForm.{GroupForm, is_listed}

-- One of three values, chosen by an ordering.
abbrev pub by_order : {A : Type 0} → Ordering → A → A → A → A
by_order Less below same above = below
by_order Equal below same above = same
by_order Greater below same above = above

-- ---- two ascending lists, where elements of the same address are combined

module _ {A : Type 0} (address_of : A → List ℕ) (both : A → A → A) where
  -- Merges `a` and the elements after it, which `others` merges, with another list.
  unfoldable pub merged_into : A → (List A → List A) → List A → List A
  merged_into a others [] = a ∷ others []
  merged_into a others (b ∷ other) =
      by_order (slice_cmp nat_cmp (address_of a) (address_of b))
      (a ∷ others (b ∷ other))
      (both a b ∷ others other)
      (b ∷ merged_into a others other)

  -- Merges two ascending lists. `both` combines two elements of the same address.
  unfoldable pub merged_by : List A → List A → List A
  merged_by [] other = other
  merged_by (a ∷ one) other = merged_into a (merged_by one) other

-- ---- groups

-- The address of an address.
abbrev pub itself : List ℕ → List ℕ
itself address = address

-- The first of two equal addresses.
abbrev pub first_of : List ℕ → List ℕ → List ℕ
first_of one other = one

-- The addresses of either ascending list, in order.
abbrev pub united : List (List ℕ) → List (List ℕ) → List (List ℕ)
united = merged_by itself first_of

-- The addresses that are in both lists, in the order of the first list.
abbrev pub common : List (List ℕ) → List (List ℕ) → List (List ℕ)
common one other = filter (λ address. is_listed address other) one

-- The star of a merged group. Where both groups have a star, only the exceptions of both remain.
abbrev pub both_stars : Option (List (List ℕ)) → Option (List (List ℕ)) → Option (List (List ℕ))
both_stars None other = other
both_stars (Some one) None = Some one
both_stars (Some one) (Some other) = Some (common one other)

-- The merge of two forms of the same group.
abbrev pub both_groups : GroupForm → GroupForm → GroupForm
both_groups one other = record {
  group = one.group;
  star = both_stars one.star other.star;
  sources = united one.sources other.sources;
}

-- The address of a group.
abbrev pub group_of : GroupForm → List ℕ
group_of form = form.group

-- The merge of two forms.
abbrev pub merged : List GroupForm → List GroupForm → List GroupForm
merged = merged_by group_of both_groups

-- ---- several ports

-- Some number passes the test among the `count` numbers from `first` on.
unfoldable pub some_from : ℕ → ℕ → (ℕ → Bool) → Bool
some_from first zero test = false
some_from first (suc count) test = test (first + count) || some_from first count test
