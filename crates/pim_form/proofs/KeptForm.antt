-- What is left of a normal form where only one neighbour is asked: it is normal, it wants what is wanted of the
-- neighbour, and nothing else.
use Rattle.pim_form.proofs.Words.{◌≡◌, ◌∙◌, ℕ, Bool, true, false, ◌&&◌, ◌||◌, not, List, [], ◌∷◌, Option, None, Some, refl, sym}
use Rattle.pim_form.proofs.Words.{ap, subst, if◌then◌else◌, Less, AllByRecursion, filter, list_all, IsStrictlySortedBy, nat_cmp}
use Rattle.pim_form.proofs.Words.{slice_cmp, AddressFamily, IsSourceAddress, Tree, GroupForm, AreAscending, same_address}
use Rattle.pim_form.proofs.Words.{is_listed, AreExceptions, is_empty, IsNormalGroup, groups_of, IsNormal, is_excepted}
use Rattle.pim_form.proofs.Words.{group_wants, form_wants, IsFormOf, star_rpf_neighbour, rpf_neighbour, is_neighbour, toward}
use Rattle.pim_form.proofs.Words.{is_star_toward, is_group_toward, is_toward, is_reached, group_toward, form_toward}
use Rattle.std.proofs.lemmas.List.Kept.{IsStrictlySortedBy-filter}
use Rattle.pim_form.specs.declared.tree.Tree.TheVariants.{Shared, Source}
use Rattle.pim_form.proofs.Addresses.{same_is}

-- ---- lists

pub all_filter : {A : Type 0} (P : A → Type 0) (test : A → Bool) (xs : List A) → AllByRecursion P xs → AllByRecursion P (filter test xs)
all_filter P test [] all = tt
all_filter P test (x ∷ xs) all =
    let others = all_filter P test xs all.1 in
    elim (test x) as (λ b. test x ≡ b → AllByRecursion P (filter test (x ∷ xs))) [
      | true ↦ λ e. rw e (all.0, others)
      | false ↦ λ e. rw e others
    ] refl

filter_passes : {A : Type 0} (test : A → Bool) (xs : List A) → list_all test (filter test xs) ≡ true
filter_passes test [] = refl
filter_passes test (x ∷ xs) =
    let others = filter_passes test xs in
    elim (test x) as (λ b. test x ≡ b → list_all test (filter test (x ∷ xs)) ≡ true) [
      | true ↦ λ e. rw e (rw e others)
      | false ↦ λ e. rw e others
    ] refl

and_true : (b : Bool) → (b && true) ≡ b
and_true true = refl
and_true false = refl

and_false : (b : Bool) → (b && false) ≡ false
and_false true = refl
and_false false = refl

listed_filter : (test : List ℕ → Bool) (s : List ℕ) (xs : List (List ℕ)) → is_listed s (filter test xs) ≡ (is_listed s xs && test s)
listed_filter test s [] = refl
listed_filter test s (x ∷ xs) =
    let others = listed_filter test s xs in
    elim (same_address s x) as (λ a. same_address s x ≡ a → is_listed s (filter test (x ∷ xs)) ≡ (is_listed s (x ∷ xs) && test s)) [
      | true ↦ λ same.
          let here : test s ≡ test x = ap test (same_is s x same) in
          elim (test x) as (λ b. test x ≡ b → is_listed s (filter test (x ∷ xs)) ≡ (is_listed s (x ∷ xs) && test s)) [
            | true ↦ λ e. rw (e, same) (sym (here ∙ e))
            | false ↦ λ e. rw (e, same) (others ∙ ap (λ b. is_listed s xs && b) (here ∙ e) ∙ and_false (is_listed s xs) ∙ sym (here ∙ e))
          ] refl
      | false ↦ λ apart.
          elim (test x) as (λ b. test x ≡ b → is_listed s (filter test (x ∷ xs)) ≡ (is_listed s (x ∷ xs) && test s)) [
            | true ↦ λ e. rw (e, apart) others
            | false ↦ λ e. rw (e, apart) others
          ] refl
    ] refl

module _ (rps via : List ℕ → Option (List ℕ)) (neighbour : List ℕ) where
  -- ---- it is normal

  exceptions_left : (family : AddressFamily) (b : Bool) (star : Option (List (List ℕ))) → AreExceptions family star → AreExceptions family (if b then star else None)
  exceptions_left family true star are = are
  exceptions_left family false star are = tt

  group_left : (family : AddressFamily) (this : GroupForm) → IsNormalGroup family this
      → is_empty (group_toward rps via neighbour this).star (group_toward rps via neighbour this).sources ≡ false
      → IsNormalGroup family (group_toward rps via neighbour this)
  group_left family this is some = record {
    group = is.group;
    exceptions = exceptions_left family (is_neighbour neighbour (star_rpf_neighbour via (rps this.group))) this.star is.exceptions;
    ascending = IsStrictlySortedBy-filter (slice_cmp nat_cmp) (is_reached rps via neighbour) this.sources is.ascending;
    sources = all_filter (IsSourceAddress family) (is_reached rps via neighbour) this.sources is.sources;
    some = some;
  }

  abbrev has_none : GroupForm → Bool
  has_none this = is_empty (group_toward rps via neighbour this).star (group_toward rps via neighbour this).sources

  pub form_dropped : (this : GroupForm) (form : List GroupForm) → has_none this ≡ true → form_toward rps via neighbour (this ∷ form) ≡ form_toward rps via neighbour form
  unfolding form_toward
  form_dropped this form none = rw none refl

  pub form_kept : (this : GroupForm) (form : List GroupForm) → has_none this ≡ false
      → form_toward rps via neighbour (this ∷ form) ≡ group_toward rps via neighbour this ∷ form_toward rps via neighbour form
  unfolding form_toward
  form_kept this form some = rw some refl

  -- what holds of an empty form, and with a group that is left if it holds of those behind, holds of what is left
  by_groups : (P : List GroupForm → List GroupForm → Type 0) → P [] []
      → ((this : GroupForm) (form : List GroupForm) → has_none this ≡ true → P form (form_toward rps via neighbour form) → P (this ∷ form) (form_toward rps via neighbour form))
      → ((this : GroupForm) (form : List GroupForm) → has_none this ≡ false → P form (form_toward rps via neighbour form) → P (this ∷ form) (group_toward rps via neighbour this ∷ form_toward rps via neighbour form))
      → (form : List GroupForm) → P form (form_toward rps via neighbour form)
  unfolding form_toward
  by_groups P none dropped kept [] = none
  by_groups P none dropped kept (this ∷ form) =
      let others = by_groups P none dropped kept form in
      elim (has_none this) as (λ b. has_none this ≡ b → P (this ∷ form) (form_toward rps via neighbour (this ∷ form))) [
        | true ↦ λ e. subst (P (this ∷ form)) (sym (form_dropped this form e)) (dropped this form e others)
        | false ↦ λ e. subst (P (this ∷ form)) (sym (form_kept this form e)) (kept this form e others)
      ] refl

  groups_left : (family : AddressFamily) (form : List GroupForm) → AllByRecursion (IsNormalGroup family) form → AllByRecursion (IsNormalGroup family) (form_toward rps via neighbour form)
  groups_left family = by_groups
      (λ form left. AllByRecursion (IsNormalGroup family) form → AllByRecursion (IsNormalGroup family) left)
      (λ are. tt) (λ this form e others are. others are.1) (λ this form e others are. (group_left family this are.0 e, others are.1))

  all_left_behind : (Q : List ℕ → Type 0) (form : List GroupForm) → AllByRecursion Q (groups_of form) → AllByRecursion Q (groups_of (form_toward rps via neighbour form))
  all_left_behind Q = by_groups
      (λ form left. AllByRecursion Q (groups_of form) → AllByRecursion Q (groups_of left))
      (λ are. tt) (λ this form e others are. others are.1) (λ this form e others are. (are.0, others are.1))

  ascending_left : (form : List GroupForm) → AreAscending (groups_of form) → AreAscending (groups_of (form_toward rps via neighbour form))
  unfolding IsStrictlySortedBy
  ascending_left = by_groups
      (λ form left. AreAscending (groups_of form) → AreAscending (groups_of left))
      (λ up. tt) (λ this form e others up. others up.1)
      (λ this form e others up. (all_left_behind (λ other. slice_cmp nat_cmp this.group other ≡ Less) form up.0, others up.1))

  pub normal_left : (family : AddressFamily) (form : List GroupForm) → IsNormal family form → IsNormal family (form_toward rps via neighbour form)
  normal_left family form is = record { ascending = ascending_left form is.ascending; groups = groups_left family form is.groups }

  -- ---- it wants what is wanted of the neighbour

  star_wants : (s : List ℕ) (star : Option (List (List ℕ))) (b : Bool) → not (is_excepted s (if b then star else None)) ≡ (not (is_excepted s star) && b)
  star_wants s star true = sym (and_true (not (is_excepted s star)))
  star_wants s star false = sym (and_false (not (is_excepted s star)))

  group_wants_left : (this : GroupForm) (s : List ℕ) (tree : Tree)
      → group_wants (group_toward rps via neighbour this) s tree ≡ (group_wants this s tree && is_neighbour neighbour (rpf_neighbour rps via s this.group tree))
  group_wants_left this s Shared = star_wants s this.star (is_neighbour neighbour (star_rpf_neighbour via (rps this.group)))
  group_wants_left this s Source = listed_filter (is_reached rps via neighbour) s this.sources

  empty_wants : (group : List ℕ) (star : Option (List (List ℕ))) (sources : List (List ℕ)) (s : List ℕ) (tree : Tree) → is_empty star sources ≡ true → group_wants (record { group = group; star = star; sources = sources }) s tree ≡ false
  empty_wants group None [] s Shared none = refl
  empty_wants group None [] s Source none = refl
  empty_wants group None (x ∷ xs) s tree none = absurd cc
  empty_wants group (Some xs) sources s tree none = absurd cc

  spread : (a w rest n : Bool) → ((a && (w && n)) || (rest && n)) ≡ (((a && w) || rest) && n)
  spread true true rest true = refl
  spread true false rest true = refl
  spread false w rest true = refl
  spread true true rest false = and_false rest
  spread true false rest false = refl
  spread false w rest false = refl

  abbrev Wants : List ℕ → List ℕ → Tree → List GroupForm → List GroupForm → Type 0
  Wants s group tree form left = form_wants left s group tree ≡ toward rps via neighbour (form_wants form) s group tree

  -- with one group more that wants what is left of it
  one_more : (s group : List ℕ) (tree : Tree) (this : GroupForm) (form left : List GroupForm) → Wants s group tree form left
      → ((same_address group this.group && group_wants (group_toward rps via neighbour this) s tree) || form_wants left s group tree)
      ≡ toward rps via neighbour (form_wants (this ∷ form)) s group tree
  one_more s group tree this form left others =
      let demanded = is_neighbour neighbour (rpf_neighbour rps via s group tree) in
      elim (same_address group this.group) as (λ a. same_address group this.group ≡ a
      → ((a && group_wants (group_toward rps via neighbour this) s tree) || form_wants left s group tree)
      ≡ (((a && group_wants this s tree) || form_wants form s group tree) && demanded)) [
        | true ↦ λ same.
            let here : group_wants (group_toward rps via neighbour this) s tree ≡ (group_wants this s tree && demanded) =
            group_wants_left this s tree ∙ ap (λ g. group_wants this s tree && is_neighbour neighbour (rpf_neighbour rps via s g tree)) (sym (same_is group this.group same)) in
            rw (here, others) (spread true (group_wants this s tree) (form_wants form s group tree) demanded)
        | false ↦ λ apart. others
      ] refl

  pub wants_left : (s group : List ℕ) (tree : Tree) (form : List GroupForm) → Wants s group tree form (form_toward rps via neighbour form)
  wants_left s group tree = by_groups (Wants s group tree) refl
      (λ this form e others.
      let nothing = empty_wants this.group (group_toward rps via neighbour this).star (group_toward rps via neighbour this).sources s tree e in
      let step = one_more s group tree this form (form_toward rps via neighbour form) others in
      sym (ap (λ w. (same_address group this.group && w) || form_wants (form_toward rps via neighbour form) s group tree) nothing
      ∙ ap (λ w. w || form_wants (form_toward rps via neighbour form) s group tree) (and_false (same_address group this.group))) ∙ step)
      (λ this form e others. one_more s group tree this form (form_toward rps via neighbour form) others)

  -- ---- and nothing else

  star_is_toward : (group : List ℕ) (star : Option (List (List ℕ))) (b : Bool) → is_neighbour neighbour (star_rpf_neighbour via (rps group)) ≡ b
      → is_star_toward rps via neighbour group (if b then star else None) ≡ true
  star_is_toward group None true e = refl
  star_is_toward group (Some xs) true e = e
  star_is_toward group star false e = refl

  group_is_toward : (this : GroupForm) → is_group_toward rps via neighbour (group_toward rps via neighbour this) ≡ true
  group_is_toward this =
      rw (star_is_toward this.group this.star (is_neighbour neighbour (star_rpf_neighbour via (rps this.group))) refl) (filter_passes (is_reached rps via neighbour) this.sources)

  pub left_is_toward : (form : List GroupForm) → is_toward rps via neighbour (form_toward rps via neighbour form) ≡ true
  left_is_toward = by_groups (λ form left. is_toward rps via neighbour left ≡ true) refl
      (λ this form e others. others) (λ this form e others. rw (group_is_toward this) others)

  pub form_left : (family : AddressFamily) (form : List GroupForm) → IsNormal family form → IsFormOf family (toward rps via neighbour (form_wants form)) (form_toward rps via neighbour form)
  form_left family form is = record {
    normal = normal_left family form is;
    wants = λ s group tree is_source is_group. sym (wants_left s group tree form);
  }
