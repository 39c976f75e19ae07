-- A port that is settled at a form wants what the form means.
use Rattle.pim_settling.proofs.Words.{◌≡◌, ℕ, Bool, true, false, cond, not, ◌&&◌, ◌||◌, List, [], ◌∷◌, Option, None}
use Rattle.pim_settling.proofs.Words.{Some, refl, sym, ap, subst, ◌∙◌, AllByRecursion, list_any, is_some, Less, nat_cmp}
use Rattle.pim_settling.proofs.Words.{is_eq, slice_cmp, same_text, texts_ties, false≢true, Star, Source, Rpt, State}
use Rattle.pim_settling.proofs.Words.{Join, PrunePending, Prune, PruneTmp, PrunePendingTmp, Record, GroupForm}
use Rattle.pim_settling.proofs.Words.{same_address, is_listed, AreAscending, groups_of, is_excepted, group_wants}
use Rattle.pim_settling.proofs.Words.{form_wants, group_in, joins_if, prunes_if, rpt_settles, IsSettledAt, SettledWants}
use Rattle.std.specs.List.Sorted.{IsStrictlySortedBy}
use Rattle.pim_form.specs.declared.tree.Tree.{Tree}
use Rattle.pim_form.specs.declared.tree.Tree.TheVariants as tree
use Rattle.pim_form.specs.Wants.{is_joined, is_pruned, state_on, wants_on, some_below}

-- ---- what machines that are settled want

joined_is : (asked : Bool) (state : Option State) → joins_if asked state ≡ true → is_joined state ≡ asked
joined_is true None e = absurd (false≢true e)
joined_is true (Some Join) e = refl
joined_is true (Some PrunePending) e = absurd (false≢true e)
joined_is true (Some Prune) e = absurd (false≢true e)
joined_is true (Some PruneTmp) e = absurd (false≢true e)
joined_is true (Some PrunePendingTmp) e = absurd (false≢true e)
joined_is false None e = refl
joined_is false (Some state) e = absurd (false≢true e)

pruned_is : (excepted : Bool) (state : Option State) → prunes_if excepted state ≡ true → is_pruned state ≡ excepted
pruned_is true state e = e
pruned_is false None e = refl
pruned_is false (Some state) e = absurd (false≢true e)

shared_is : (star : Option (List (List ℕ))) (source : List ℕ) (state rpt : Option State) → joins_if (is_some star) state ≡ true → rpt_settles star source rpt ≡ true
    → (is_joined state && not (is_pruned rpt)) ≡ not (is_excepted source star)
shared_is None source state rpt j p = ap (λ b. b && not (is_pruned rpt)) (joined_is false state j)
shared_is (Some exceptions) source state rpt j p =
    ap (λ b. b && not (is_pruned rpt)) (joined_is true state j) ∙ ap not (pruned_is (is_listed source exceptions) rpt p)

module _ (form : List GroupForm) (records : List (Record (List ℕ))) (port : ℕ) (settled : IsSettledAt port form records) (source group : List ℕ) where
  wants_its_group : (of : Tree) → wants_on records source group of port ≡ group_wants (group_in group form) source of
  wants_its_group tree.Shared = shared_is (group_in group form).star source (state_on records port group Star) (state_on records port group (Rpt source)) (settled group Star) (settled group (Rpt source))
  wants_its_group tree.Source = joined_is (is_listed source (group_in group form).sources) (state_on records port group (Source source)) (settled group (Source source))

-- ---- what the form means of a group

none_behind : (group : List ℕ) (test : GroupForm → Bool) (form : List GroupForm) → AllByRecursion (λ g. slice_cmp nat_cmp group g ≡ Less) (groups_of form) → list_any (λ this. same_address group this.group && test this) form ≡ false
none_behind group test [] below = refl
none_behind group test (this ∷ form) below =
    ap (λ b. (b && test this) || list_any (λ other. same_address group other.group && test other) form) (texts_ties group this.group ∙ ap is_eq below.0)
    ∙ none_behind group test form below.1

or_none : (a b : Bool) → b ≡ false → (a || b) ≡ a
or_none true b e = refl
or_none false b e = e

nothing_wanted : (group source : List ℕ) (of : Tree) → false ≡ group_wants (group_in group []) source of
unfolding group_in
nothing_wanted group source tree.Shared = refl
nothing_wanted group source tree.Source = refl

means_its_group : (form : List GroupForm) (source group : List ℕ) (of : Tree) → AreAscending (groups_of form) → form_wants form source group of ≡ group_wants (group_in group form) source of
unfolding group_in IsStrictlySortedBy
means_its_group [] source group of up = nothing_wanted group source of
means_its_group (this ∷ form) source group of up =
    elim (same_address group this.group) as (λ b. same_address group this.group ≡ b → ((b && group_wants this source of) || form_wants form source group of) ≡ group_wants (cond b this (group_in group form)) source of) [
      | true ↦ λ s.
          let same : group ≡ this.group = same_text group this.group (sym s) in
          or_none (group_wants this source of) (form_wants form source group of)
          (none_behind group (λ other. group_wants other source of) form (subst (λ (g : List ℕ). AllByRecursion (λ h. slice_cmp nat_cmp g h ≡ Less) (groups_of form)) (sym same) up.0))
      | false ↦ λ s. means_its_group form source group of up.1
    ] refl

or_false : (a : Bool) → (a || false) ≡ a
or_false true = refl
or_false false = refl

pub settled_wants : SettledWants
unfolding some_below
settled_wants family form state normal one settled = record {
  normal = normal;
  wants = λ source group of valid is.
      ap (λ n. some_below n (wants_on state.records source group of)) one
      ∙ or_false (wants_on state.records source group of 0)
      ∙ wants_its_group form state.records 0 settled source group of
      ∙ sym (means_its_group form source group of normal.ascending);
}
