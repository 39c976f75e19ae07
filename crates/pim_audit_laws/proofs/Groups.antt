-- What a form means of a group is what its entry for the group means.
use Rattle.pim_audit_laws.proofs.Words.{◌≡◌, ◌∙◌, ℕ, Bool, true, false, cond, ◌&&◌, ◌||◌, List, [], ◌∷◌, refl, sym, ap, subst}
use Rattle.pim_audit_laws.proofs.Words.{AllByRecursion, list_any, IsStrictlySortedBy, Less, nat_cmp, is_eq, slice_cmp}
use Rattle.pim_audit_laws.proofs.Words.{same_text, texts_ties, false≢true, GroupForm, same_address, is_listed}
use Rattle.pim_audit_laws.proofs.Words.{AreAscending, groups_of, group_wants, form_wants, unwanted, group_in}
use Rattle.pim_form.specs.declared.tree.Tree.{Tree}
use Rattle.pim_form.specs.declared.tree.Tree.TheVariants as tree

none_behind : (group : List ℕ) (test : GroupForm → Bool) (form : List GroupForm)
    → AllByRecursion (λ g. slice_cmp nat_cmp group g ≡ Less) (groups_of form)
    → list_any (λ this. same_address group this.group && test this) form ≡ false
none_behind group test [] below = refl
none_behind group test (this ∷ form) below =
    ap (λ b. (b && test this) || list_any (λ other. same_address group other.group && test other) form)
    (texts_ties group this.group ∙ ap is_eq below.0)
    ∙ none_behind group test form below.1

or_none : (a b : Bool) → b ≡ false → (a || b) ≡ a
or_none true b e = refl
or_none false b e = e

nothing_wanted : (group source : List ℕ) (of : Tree) → false ≡ group_wants (group_in group []) source of
unfolding group_in
nothing_wanted group source tree.Shared = refl
nothing_wanted group source tree.Source = refl

pub means_its_group : (form : List GroupForm) (source group : List ℕ) (of : Tree) → AreAscending (groups_of form)
    → form_wants form source group of ≡ group_wants (group_in group form) source of
unfolding group_in IsStrictlySortedBy
means_its_group [] source group of up = nothing_wanted group source of
means_its_group (this ∷ form) source group of up =
    elim (same_address group this.group) as (λ b. same_address group this.group ≡ b
    → ((b && group_wants this source of) || form_wants form source group of)
    ≡ group_wants (cond b this (group_in group form)) source of) [
      | true ↦ λ s.
          let same : group ≡ this.group = same_text group this.group (sym s) in
          or_none (group_wants this source of) (form_wants form source group of)
          (none_behind group (λ other. group_wants other source of) form
          (subst (λ (g : List ℕ). AllByRecursion (λ h. slice_cmp nat_cmp g h ≡ Less) (groups_of form)) (sym same) up.0))
      | false ↦ λ s. means_its_group form source group of up.1
    ] refl

-- a group that a form doesn't have is unwanted
pub absent : (group : List ℕ) (form : List GroupForm) → is_listed group (groups_of form) ≡ false
    → group_in group form ≡ unwanted group
unfolding group_in
absent group [] unlisted = refl
absent group (this ∷ form) unlisted =
    elim (same_address group this.group) as (λ b. (b || is_listed group (groups_of form)) ≡ false
    → cond b this (group_in group form) ≡ unwanted group) [
      | true ↦ λ h. absurd (false≢true (sym h))
      | false ↦ λ h. absent group form h
    ] unlisted
