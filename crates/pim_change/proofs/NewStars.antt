-- Of a change, only new stars can be too big.
use Rattle.pim_change.proofs.Words.{◌≡◌, ◌∙◌, ℕ, Bool, true, false, ◌||◌, cond, not, List, [], ◌∷◌, None, Some}
use Rattle.pim_change.proofs.Words.{Ordering, refl, sym, ap, subst, is_some, Less, Equal, Greater, AllByRecursion}
use Rattle.pim_change.proofs.Words.{filter, IsStrictlySortedBy, nat_cmp, slice_cmp, AddressFamily, GroupForm}
use Rattle.pim_change.proofs.Words.{AreAscending, groups_of, group_in, change, too_big, NewStarsAloneAreTooBig}
use Rattle.pim_form.specs.TooBig as form
use Rattle.pim_change.proofs.Addresses.{equal_is, greater_less, all_behind}
use Rattle.pim_change.proofs.Changing.{in_same, in_behind, in_none, no_change}
use Rattle.pim_change.proofs.StarsFit.{behind, IsFitting, fits_less, at_equal, at_greater, at_came, all_gone}

-- the groups of which the old form has no star
abbrev new_of : List GroupForm → List GroupForm → List GroupForm
new_of old new = filter (λ this. not (is_some (group_in this.group old).star)) new

-- groups above the first of the old ones
past : (old : GroupForm) (olds news : List GroupForm) → AllByRecursion (λ g. slice_cmp nat_cmp old.group g ≡ Less) (groups_of news) → new_of (old ∷ olds) news ≡ new_of olds news
past old olds [] above = refl
past old olds (new ∷ news) above =
    let here : (group_in new.group (old ∷ olds)).star ≡ (group_in new.group olds).star = ap (λ (this : GroupForm). this.star) (in_behind old olds new.group above.0) in
    λ i. cond (not (is_some (here i))) (new ∷ past old olds news above.1 i) (past old olds news above.1 i)

module _ (family : AddressFamily) (budget : ℕ) where
  abbrev IsSame : List GroupForm → List GroupForm → Type 0
  IsSame old new = too_big family budget (change old new) ≡ form.too_big family budget (new_of old new)

  -- one group of the new form, and those after it
  first_of_all : (was : Bool) (new : GroupForm) (news : List GroupForm)
      → behind family budget (cond (was || form.star_fits family budget new.group new.star) None (Some new.group)) (form.too_big family budget news)
      ≡ form.too_big family budget (cond (not was) (new ∷ news) news)
  unfolding behind
  first_of_all true new news = refl
  first_of_all false new news = elim (form.star_fits family budget new.group new.star) as
      (λ b. behind family budget (cond b None (Some new.group)) (form.too_big family budget news) ≡ cond b (form.too_big family budget news) (Some new.group)) [
        | true ↦ refl
        | false ↦ refl
      ]

  both_ascend : (olds news : List GroupForm) → AreAscending (groups_of olds) → AreAscending (groups_of news) → IsFitting family budget olds news (too_big family budget (change olds news))
  both_ascend olds news up_olds up_news = record { first = up_olds; second = up_news; so_far = refl }

  came : (news : List GroupForm) → AreAscending (groups_of news) → IsSame [] news
  unfolding too_big IsStrictlySortedBy group_in
  came [] up = ap (too_big family budget) no_change
  came (new ∷ news) up =
      sym (at_came family budget (new ∷ news) news new (too_big family budget (change [] (new ∷ news))) refl (both_ascend [] (new ∷ news) tt up))
      ∙ ap (behind family budget (cond (form.star_fits family budget new.group new.star) None (Some new.group))) (came news up.1)
      ∙ first_of_all false new (new_of [] news)

  module _ (old : GroupForm) (olds : List GroupForm) (up_olds : AreAscending (groups_of (old ∷ olds))) (further : (news : List GroupForm) → AreAscending (groups_of news) → IsSame olds news) where
    both : (new : GroupForm) (news : List GroupForm) → AreAscending (groups_of (new ∷ news)) → IsFitting family budget (old ∷ olds) (new ∷ news) (too_big family budget (change (old ∷ olds) (new ∷ news)))
    both new news up = both_ascend (old ∷ olds) (new ∷ news) up_olds up

    less : (new : GroupForm) (news : List GroupForm) → AreAscending (groups_of (new ∷ news)) → slice_cmp nat_cmp old.group new.group ≡ Less → IsSame (old ∷ olds) (new ∷ news)
    unfolding IsStrictlySortedBy
    less new news up lower =
        sym (fits_less family budget (old ∷ olds) olds (new ∷ news) news old new (too_big family budget (change (old ∷ olds) (new ∷ news))) refl refl (both new news up) lower).so_far
        ∙ further (new ∷ news) up
        ∙ ap (form.too_big family budget) (sym (past old olds (new ∷ news) (lower, all_behind old.group new.group (groups_of news) lower up.0)))

    equal : (new : GroupForm) (news : List GroupForm) → AreAscending (groups_of (new ∷ news)) → slice_cmp nat_cmp old.group new.group ≡ Equal → IsSame (old ∷ olds) (new ∷ news)
    unfolding IsStrictlySortedBy
    equal new news up same =
        let is : old.group ≡ new.group = equal_is old.group new.group same in
        let star : (group_in new.group (old ∷ olds)).star ≡ old.star = ap (λ (this : GroupForm). this.star) (in_same old olds new.group (sym is)) in
        let others : new_of (old ∷ olds) news ≡ new_of olds news = past old olds news (subst (λ a. AllByRecursion (λ g. slice_cmp nat_cmp a g ≡ Less) (groups_of news)) (sym is) up.0) in
        sym (at_equal family budget (old ∷ olds) olds (new ∷ news) news old new (too_big family budget (change (old ∷ olds) (new ∷ news))) refl refl (both new news up) same)
        ∙ ap (behind family budget (cond (is_some old.star || form.star_fits family budget new.group new.star) None (Some new.group))) (further news up.1)
        ∙ first_of_all (is_some old.star) new (new_of olds news)
        ∙ (λ i. form.too_big family budget (cond (not (is_some (sym star i))) (new ∷ sym others i) (sym others i)))

    greater : (new : GroupForm) (news : List GroupForm) → AreAscending (groups_of (new ∷ news)) → slice_cmp nat_cmp old.group new.group ≡ Greater → IsSame (old ∷ olds) news → IsSame (old ∷ olds) (new ∷ news)
    unfolding IsStrictlySortedBy
    greater new news up higher rest =
        let lower = greater_less old.group new.group higher in
        let star : (group_in new.group (old ∷ olds)).star ≡ None = ap (λ (this : GroupForm). this.star) (in_none (old ∷ olds) new.group (lower, all_behind new.group old.group (groups_of olds) lower up_olds.0)) in
        sym (at_greater family budget (old ∷ olds) olds (new ∷ news) news old new (too_big family budget (change (old ∷ olds) (new ∷ news))) refl refl (both new news up) higher)
        ∙ ap (behind family budget (cond (form.star_fits family budget new.group new.star) None (Some new.group))) rest
        ∙ first_of_all false new (new_of (old ∷ olds) news)
        ∙ (λ i. form.too_big family budget (cond (not (is_some (sym star i))) (new ∷ new_of (old ∷ olds) news) (new_of (old ∷ olds) news)))

    each : (news : List GroupForm) → AreAscending (groups_of news) → IsSame (old ∷ olds) news
    unfolding IsStrictlySortedBy
    each [] up = all_gone family budget (old ∷ olds) up_olds
    each (new ∷ news) up = by (slice_cmp nat_cmp old.group new.group) refl (each news up.1)
      where
        by : (o : Ordering) → slice_cmp nat_cmp old.group new.group ≡ o → IsSame (old ∷ olds) news → IsSame (old ∷ olds) (new ∷ news)
        by Less e rest = less new news up e
        by Equal e rest = equal new news up e
        by Greater e rest = greater new news up e rest

  pub all : (olds news : List GroupForm) → AreAscending (groups_of olds) → AreAscending (groups_of news) → IsSame olds news
  unfolding IsStrictlySortedBy
  all [] news up_olds up_news = came news up_news
  all (old ∷ olds) news up_olds up_news = each old olds up_olds (λ others up. all olds others up_olds.1 up) news up_news

pub new_stars_alone : NewStarsAloneAreTooBig
new_stars_alone family budget old new normal_old normal_new = all family budget old new normal_old.ascending normal_new.ascending
