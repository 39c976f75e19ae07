-- Normal forms that want the same are one.
use Rattle.pim_form.proofs.Words.{◌≡◌, ◌∙◌, ℕ, Bool, true, false, ◌||◌, not, List, [], ◌∷◌, Option, None, Some, refl}
use Rattle.pim_form.proofs.Words.{sym, ap, subst, Less, Equal, Greater, AllByRecursion, IsStrictlySortedBy, nat_cmp}
use Rattle.pim_form.proofs.Words.{slice_cmp, false≢true, AddressFamily, Tree, IsSourceAddress, GroupForm, AreAscending}
use Rattle.pim_form.proofs.Words.{same_address, is_listed, AreExceptions, is_empty, IsNormalGroup, groups_of, IsNormal}
use Rattle.pim_form.proofs.Words.{is_excepted, group_wants, form_wants, WantTheSame}
use Rattle.pim_form.specs.declared.tree.Tree.TheVariants.{Shared, Source}
use Rattle.pim_form.proofs.Addresses.{same_itself, same_is, equal_is, less_apart, greater_less, IsBelowAll-trans, listed_first, same_lists}
use Rattle.pim_form.proofs.Counting.{outside}

-- ---- one group

abbrev ListsWantTheSame : AddressFamily → GroupForm → GroupForm → Type 0
ListsWantTheSame family one other = (source : List ℕ) (tree : Tree) → IsSourceAddress family source → group_wants one source tree ≡ group_wants other source tree

not_back : (a b : Bool) → not a ≡ not b → a ≡ b
not_back true true e = refl
not_back true false e = absurd (false≢true e)
not_back false true e = absurd (false≢true (sym e))
not_back false false e = refl

one_star : (family : AddressFamily) (a b : Option (List (List ℕ))) → AreExceptions family a → AreExceptions family b
    → ((s : List ℕ) → IsSourceAddress family s → not (is_excepted s a) ≡ not (is_excepted s b)) → a ≡ b
one_star family None None are_a are_b same = refl
one_star family None (Some ys) are_a are_b same =
    let free = outside family ys are_b.2 in
    absurd (false≢true (same free.source free.valid ∙ ap not free.apart))
one_star family (Some xs) None are_a are_b same =
    let free = outside family xs are_a.2 in
    absurd (false≢true (sym (same free.source free.valid) ∙ ap not free.apart))
one_star family (Some xs) (Some ys) are_a are_b same =
    ap Some (same_lists (IsSourceAddress family) xs ys are_a.0 are_b.0 are_a.1 are_b.1 (λ s is. not_back (is_listed s xs) (is_listed s ys) (same s is)))

one_group : (family : AddressFamily) (a b : GroupForm) → IsNormalGroup family a → IsNormalGroup family b → a.group ≡ b.group → ListsWantTheSame family a b → a ≡ b
one_group family a b is_a is_b groups same =
    let stars = one_star family a.star b.star is_a.exceptions is_b.exceptions (λ s is. same s Shared is) in
    let sources = same_lists (IsSourceAddress family) a.sources b.sources is_a.ascending is_b.ascending is_a.sources is_b.sources (λ s is. same s Source is) in
    λ i. record { group = groups i; star = stars i; sources = sources i }

-- something is wanted of a group that isn't empty
record WantsSome (family : AddressFamily) (form : GroupForm) : Type 0 where
  source : List ℕ
  tree : Tree
  valid : IsSourceAddress family source
  wanted : group_wants form source tree ≡ true

by_star : (family : AddressFamily) (group : List ℕ) (star : Option (List (List ℕ))) (sources : List (List ℕ)) → AreExceptions family star → AllByRecursion (IsSourceAddress family) sources → is_empty star sources ≡ false
    → WantsSome family (record { group = group; star = star; sources = sources })
by_star family group None [] exceptions are some = absurd (false≢true (sym some))
by_star family group None (s ∷ sources) exceptions are some = record { source = s; tree = Source; valid = are.0; wanted = listed_first s sources }
by_star family group (Some xs) sources exceptions are some =
    let free = outside family xs exceptions.2 in
    record { source = free.source; tree = Shared; valid = free.valid; wanted = ap not free.apart }

wants_some : (family : AddressFamily) (form : GroupForm) → IsNormalGroup family form → WantsSome family form
wants_some family form is = by_star family form.group form.star form.sources is.exceptions is.sources is.some

-- ---- forms

pub of_first : (a : GroupForm) (form : List GroupForm) (s : List ℕ) (tree : Tree) → group_wants a s tree ≡ true → form_wants (a ∷ form) s a.group tree ≡ true
of_first a form s tree wanted = rw (same_itself a.group, wanted) refl

none_below : (form : List GroupForm) (s group : List ℕ) (tree : Tree) → AllByRecursion (λ other. slice_cmp nat_cmp group other ≡ Less) (groups_of form) → form_wants form s group tree ≡ false
none_below [] s group tree below = refl
none_below (a ∷ form) s group tree below = rw (less_apart group a.group below.0) (none_below form s group tree below.1)

none_before : (a : GroupForm) (form : List GroupForm) (s group : List ℕ) (tree : Tree) → slice_cmp nat_cmp group a.group ≡ Less → AllByRecursion (λ other. slice_cmp nat_cmp a.group other ≡ Less) (groups_of form)
    → form_wants (a ∷ form) s group tree ≡ false
none_before a form s group tree less below = none_below (a ∷ form) s group tree (less, IsBelowAll-trans group a.group (groups_of form) less below)

pub of_others : (a : GroupForm) (form : List GroupForm) (s group : List ℕ) (tree : Tree) → same_address group a.group ≡ false → form_wants (a ∷ form) s group tree ≡ form_wants form s group tree
of_others a form s group tree apart = rw apart refl

or_false : (b : Bool) → (b || false) ≡ b
or_false true = refl
or_false false = refl

-- at the first group the others say nothing
pub at_first : (a : GroupForm) (form : List GroupForm) (s : List ℕ) (tree : Tree) → AllByRecursion (λ other. slice_cmp nat_cmp a.group other ≡ Less) (groups_of form) → form_wants (a ∷ form) s a.group tree ≡ group_wants a s tree
at_first a form s tree below = rw (same_itself a.group, none_below form s a.group tree below) (or_false (group_wants a s tree))

same_others : (a b : GroupForm) (one other : List GroupForm) → a.group ≡ b.group
    → AllByRecursion (λ g. slice_cmp nat_cmp a.group g ≡ Less) (groups_of one) → AllByRecursion (λ g. slice_cmp nat_cmp b.group g ≡ Less) (groups_of other)
    → (s group : List ℕ) (tree : Tree) → form_wants (a ∷ one) s group tree ≡ form_wants (b ∷ other) s group tree → form_wants one s group tree ≡ form_wants other s group tree
same_others a b one other e below_a below_b s group tree same =
    elim (same_address group a.group) as (λ t. same_address group a.group ≡ t → form_wants one s group tree ≡ form_wants other s group tree) [
      | true ↦ λ h.
          let here : group ≡ a.group = same_is group a.group h in
          let in_one : form_wants one s group tree ≡ false = subst (λ g. form_wants one s g tree ≡ false) (sym here) (none_below one s a.group tree below_a) in
          let in_other : form_wants other s group tree ≡ false = subst (λ g. form_wants other s g tree ≡ false) (sym e ∙ sym here) (none_below other s b.group tree below_b) in
          in_one ∙ sym in_other
      | false ↦ λ h. sym (of_others a one s group tree h) ∙ same ∙ of_others b other s group tree (subst (λ g. same_address group g ≡ false) e h)
    ] refl

forms : (family : AddressFamily) (one other : List GroupForm) → AreAscending (groups_of one) → AreAscending (groups_of other)
    → AllByRecursion (IsNormalGroup family) one → AllByRecursion (IsNormalGroup family) other → WantTheSame family one other → one ≡ other
unfolding IsStrictlySortedBy
forms family [] [] up_a up_b are_a are_b same = refl
forms family [] (b ∷ other) up_a up_b are_a are_b same =
    let some = wants_some family b are_b.0 in
    absurd (false≢true (same some.source b.group some.tree some.valid are_b.0.group ∙ of_first b other some.source some.tree some.wanted))
forms family (a ∷ one) [] up_a up_b are_a are_b same =
    let some = wants_some family a are_a.0 in
    absurd (false≢true (sym (same some.source a.group some.tree some.valid are_a.0.group) ∙ of_first a one some.source some.tree some.wanted))
forms family (a ∷ one) (b ∷ other) up_a up_b are_a are_b same =
    elim (slice_cmp nat_cmp a.group b.group) as (λ r. slice_cmp nat_cmp a.group b.group ≡ r → a ∷ one ≡ b ∷ other) [
      | Less ↦ λ e.
          let some = wants_some family a are_a.0 in
          absurd (false≢true (sym (none_before b other some.source a.group some.tree e up_b.0) ∙ sym (same some.source a.group some.tree some.valid are_a.0.group) ∙ of_first a one some.source some.tree some.wanted))
      | Equal ↦ λ e.
          let groups = equal_is a.group b.group e in
          let head = one_group family a b are_a.0 are_b.0 groups (λ s tree is.
          sym (at_first a one s tree up_a.0) ∙ same s a.group tree is are_a.0.group
          ∙ subst (λ g. form_wants (b ∷ other) s g tree ≡ group_wants b s tree) (sym groups) (at_first b other s tree up_b.0)) in
          let tail = forms family one other up_a.1 up_b.1 are_a.1 are_b.1 (λ s group tree is is_group. same_others a b one other groups up_a.0 up_b.0 s group tree (same s group tree is is_group)) in
          λ i. head i ∷ tail i
      | Greater ↦ λ e.
          let some = wants_some family b are_b.0 in
          absurd (false≢true (sym (none_before a one some.source b.group some.tree (greater_less a.group b.group e) up_a.0) ∙ same some.source b.group some.tree some.valid are_b.0.group ∙ of_first b other some.source some.tree some.wanted))
    ] refl

pub one_form : (family : AddressFamily) (one other : List GroupForm) → IsNormal family one → IsNormal family other → WantTheSame family one other → one ≡ other
one_form family one other is_one is_other same = forms family one other is_one.ascending is_other.ascending is_one.groups is_other.groups same
