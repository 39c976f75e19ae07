-- The stars that a change tells are those of the new form.
use Rattle.std.proofs.Common.{◌≡◌, ℕ, Bool, true, false, cond, if◌then◌else◌, List, [], ◌∷◌, ◌++◌, map, Option, None, Some, refl, sym, ap, subst}
use Rattle.std.specs.List.{flat_map}
use Rattle.std.specs.Cmp.Lexicographic.{same_text}
use Rattle.pim_addr.specs.declared.family.AddressFamily.{AddressFamily}
use Rattle.pim_form.specs.NormalForm.{GroupForm, same_address, groups_of}
use Rattle.pim_form.specs.Settled.{group_in}
use Rattle.pim_form.specs.TooBig.{star_fits, too_big}
use Rattle.pim_change.specs.declared.unit.ActionKind.{ActionKind}
use Rattle.pim_change.specs.declared.unit.ActionKind.TheVariants.{JoinRpt, PruneRpt, JoinSource, PruneSource}
use Rattle.pim_change.specs.Change.{Action, of_source, ChangeUnit, about, lacking, star_change, sources_change, in_order, change_at, change}
use Rattle.pim_change.specs.TooBig as changed
use Rattle.pim_moving.specs.Laws.{ChangeFits}

module _ (family : AddressFamily) (budget : ℕ) where
  -- the star of each group of a form that fits
  some_isnt_none : (group : List ℕ) → ◌≡◌ {A = Option (List ℕ)} (Some group) None → ⊥
  some_isnt_none group e = cc

  first_fits : (this : GroupForm) (form : List GroupForm) → too_big family budget (this ∷ form) ≡ None → (star_fits family budget this.group this.star ≡ true) × (too_big family budget form ≡ None)
  first_fits this form e = by (star_fits family budget this.group this.star) e
    where
      by : (b : Bool) → (if b then too_big family budget form else Some this.group) ≡ None → (b ≡ true) × (too_big family budget form ≡ None)
      by true f = (refl, f)
      by false f = absurd (some_isnt_none this.group f)

  group_fits : (form : List GroupForm) (group : List ℕ) → too_big family budget form ≡ None → star_fits family budget group (group_in group form).star ≡ true
  unfolding group_in
  group_fits [] group e = refl
  group_fits (this ∷ form) group e =
      elim (same_address group this.group) as (λ b. same_address group this.group ≡ b → star_fits family budget group (cond b this (group_in group form)).star ≡ true) [
        | true ↦ λ s. subst (λ (g : List ℕ). star_fits family budget g this.star ≡ true) (sym (same_text group this.group (sym s))) (first_fits this form e).0
        | false ↦ λ s. group_fits form group (first_fits this form e).1
      ] refl

  -- ---- what is told

  AllFit : List ChangeUnit → Type 0
  AllFit units = changed.too_big family budget units ≡ None

  both : (one other : List ChangeUnit) → AllFit one → AllFit other → AllFit (one ++ other)
  unfolding AllFit changed.too_big
  both [] other p q = q
  both (this ∷ one) other p q = by (changed.action_fits family budget this.group this.action) p (both one other)
    where
      by : (b : Bool) → (if b then changed.too_big family budget one else Some this.group) ≡ None → (AllFit one → AllFit other → AllFit (one ++ other))
          → (if b then changed.too_big family budget (one ++ other) else Some this.group) ≡ None
      by true f further = further f q
      by false f further = absurd (some_isnt_none this.group f)

  told_fit : (group : List ℕ) (kind : ActionKind) (sources : List (List ℕ)) → AllFit (about group (map (of_source kind) sources))
  unfolding AllFit changed.too_big
  told_fit group kind [] = refl
  told_fit group kind (source ∷ sources) = told_fit group kind sources

  about_both : (group : List ℕ) (one other : List Action) → AllFit (about group one) → AllFit (about group other) → AllFit (about group (one ++ other))
  unfolding AllFit changed.too_big
  about_both group [] other p q = q
  about_both group (this ∷ one) other p q = by (changed.action_fits family budget group this) p (about_both group one other)
    where
      by : (b : Bool) → (if b then changed.too_big family budget (about group one) else Some group) ≡ None → (AllFit (about group one) → AllFit (about group other) → AllFit (about group (one ++ other)))
          → (if b then changed.too_big family budget (about group (one ++ other)) else Some group) ≡ None
      by true f further = further f q
      by false f further = absurd (some_isnt_none group f)

  star_fits_too : (group : List ℕ) (old new : Option (List (List ℕ))) → star_fits family budget group new ≡ true → AllFit (about group (star_change old new))
  unfolding AllFit changed.too_big
  star_fits_too group None None e = refl
  star_fits_too group None (Some exceptions) e = ap (λ b. if b then None else Some group) e
  star_fits_too group (Some excepted) None e = refl
  star_fits_too group (Some excepted) (Some exceptions) e =
      about_both group (map (of_source JoinRpt) (lacking excepted exceptions)) (map (of_source PruneRpt) (lacking exceptions excepted))
      (told_fit group JoinRpt (lacking excepted exceptions)) (told_fit group PruneRpt (lacking exceptions excepted))

  sources_fit : (group : List ℕ) (old new : List (List ℕ)) → AllFit (about group (sources_change old new))
  sources_fit group old new =
      about_both group (map (of_source JoinSource) (lacking new old)) (map (of_source PruneSource) (lacking old new)) (told_fit group JoinSource (lacking new old)) (told_fit group PruneSource (lacking old new))

  module _ (old new : List GroupForm) (fitting : too_big family budget new ≡ None) where
    at_fits : (group : List ℕ) → AllFit (change_at old new group)
    at_fits group =
        about_both group (star_change (group_in group old).star (group_in group new).star) (sources_change (group_in group old).sources (group_in group new).sources)
        (star_fits_too group (group_in group old).star (group_in group new).star (group_fits new group fitting)) (sources_fit group (group_in group old).sources (group_in group new).sources)

    all_fit : (groups : List (List ℕ)) → AllFit (flat_map (change_at old new) groups)
    unfolding AllFit changed.too_big
    all_fit [] = refl
    all_fit (group ∷ groups) = both (change_at old new group) (flat_map (change_at old new) groups) (at_fits group) (all_fit groups)

pub fits_too : ChangeFits
unfolding change AllFit
fits_too family budget old new fitting = all_fit family budget old new fitting (in_order (groups_of old ++ groups_of new))
