-- What several ports want, and the forms of it.
use Rattle.pim_form.proofs.Words.{◌≡◌, ◌∙◌, ℕ, zero, suc, ◌+◌, Bool, true, false, ◌||◌, List, [], length, refl, sym, ap}
use Rattle.pim_form.proofs.Words.{subst, arith, IsStrictlySortedBy, nil_from_length, AddressFamily, Downstream}
use Rattle.pim_form.proofs.Words.{GroupForm, Demand, IsFormOf, Tree, some_below, wants_on, wants, some_from, merged_by}
use Rattle.pim_form.proofs.Words.{group_of, both_groups, merged, wants_at, wants_from}
use Rattle.pim_form.proofs.Merged.{merged_none, merged_normal, merged_wants}

-- ---- so many ports

or_assoc : (p q r : Bool) → (p || (q || r)) ≡ (q || (p || r))
or_assoc true true r = refl
or_assoc true false r = refl
or_assoc false q r = refl

or_nothing : (p : Bool) → p ≡ (p || false)
or_nothing true = refl
or_nothing false = refl

some_split : (test : ℕ → Bool) (first a b : ℕ) → some_from first (a + b) test ≡ (some_from first a test || some_from (first + a) b test)
unfolding some_from
some_split test first a zero = ap (λ n. some_from first n test) (same a) ∙ or_nothing (some_from first a test)
  where
    same : (n : ℕ) → n + 0 ≡ n
    same n = omega arith
some_split test first a (suc b) =
    ap (λ n. some_from first n test) (next a b)
    ∙ ap (λ p. test (first + (a + b)) || p) (some_split test first a b)
    ∙ or_assoc (test (first + (a + b))) (some_from first a test) (some_from (first + a) b test)
    ∙ ap (λ n. some_from first a test || (test n || some_from (first + a) b test)) (assoc first a b)
  where
    next : (a b : ℕ) → a + suc b ≡ suc (a + b)
    next a b = omega arith

    assoc : (first a b : ℕ) → first + (a + b) ≡ (first + a) + b
    assoc first a b = omega arith

some_all : (test : ℕ → Bool) (count : ℕ) → some_from 0 count test ≡ some_below count test
unfolding some_from some_below
some_all test zero = refl
some_all test (suc count) = (λ i. test (same count i) || some_all test count i)
  where
    same : (n : ℕ) → 0 + n ≡ n
    same n = omega arith

-- ---- their forms

other_demand : (family : AddressFamily) (one other : Demand) (form : List GroupForm) → ((source group : List ℕ) (tree : Tree) → one source group tree ≡ other source group tree) → IsFormOf family one form → IsFormOf family other form
other_demand family one other form same is = record { normal = is.normal; wants = λ source group tree valid is_group. sym (same source group tree) ∙ is.wants source group tree valid is_group }

pub no_ports : (family : AddressFamily) (first count : ℕ) (state : Downstream) (form : List GroupForm) → count ≡ 0 → form ≡ [] → IsFormOf family (wants_from first count state) form
unfolding some_from IsStrictlySortedBy
no_ports family first count state form none empty =
    subst (λ f. IsFormOf family (wants_from first count state) f) (sym empty)
    (subst (λ n. IsFormOf family (wants_from first n state) []) (sym none) (record { normal = record { ascending = tt; groups = tt }; wants = λ source group tree valid is_group. refl }))

pub one_port : (family : AddressFamily) (first count : ℕ) (state : Downstream) (form : List GroupForm) → count ≡ 1 → IsFormOf family (wants_at first state) form → IsFormOf family (wants_from first count state) form
unfolding some_from
one_port family first count state form one is =
    subst (λ n. IsFormOf family (wants_from first n state) form) (sym one)
    (other_demand family (wants_at first state) (wants_from first 1 state) form (λ source group tree. or_nothing (wants_on state.records source group tree first) ∙ ap (λ n. wants_on state.records source group tree n || false) (same first)) is)
  where
    same : (n : ℕ) → n ≡ n + 0
    same n = omega arith

pub two_parts : (family : AddressFamily) (first a b count : ℕ) (state : Downstream) (one other form : List GroupForm) → a + b ≡ count → IsFormOf family (wants_from first a state) one → IsFormOf family (wants_from (first + a) b state) other
    → form ≡ merged one other → IsFormOf family (wants_from first count state) form
two_parts family first a b count state one other form whole is_one is_other is =
    subst (λ f. IsFormOf family (wants_from first count state) f) (sym is)
    (subst (λ n. IsFormOf family (wants_from first n state) (merged one other)) whole
    (record {
      normal = merged_normal family one other is_one.normal is_other.normal;
      wants = λ source group tree valid is_group.
          some_split (wants_on state.records source group tree) first a b
          ∙ (λ i. is_one.wants source group tree valid is_group i || is_other.wants source group tree valid is_group i)
          ∙ sym (merged_wants one other source group tree);
    }))

pub all_ports : (family : AddressFamily) (state : Downstream) (form : List GroupForm) → IsFormOf family (wants_from 0 state.ports state) form → IsFormOf family (wants state) form
all_ports family state form is = other_demand family (wants_from 0 state.ports state) (wants state) form (λ source group tree. some_all (wants_on state.records source group tree) state.ports) is

-- ---- where one wants nothing

pub merged_first_none : (one other : List GroupForm) → length one ≡ 0 → other ≡ merged one other
unfolding merged_by
merged_first_none one other none = ap (λ (o : List GroupForm). merged o other) (sym (nil_from_length one none))

pub merged_second_none : (one other : List GroupForm) → length other ≡ 0 → one ≡ merged one other
merged_second_none one other none = sym (merged_none group_of both_groups one) ∙ ap (merged one) (sym (nil_from_length other none))
