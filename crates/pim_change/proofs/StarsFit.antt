-- Which of the units of a change don't fit a message.
use Rattle.pim_change.proofs.Words.{◌≡◌, ◌∙◌, ℕ, Bool, true, false, ◌||◌, cond, List, [], ◌∷◌, ◌++◌, Option, None, Some, map}
use Rattle.pim_change.proofs.Words.{refl, sym, ap, subst, append_assoc, is_some, Less, Equal, Greater, IsStrictlySortedBy}
use Rattle.pim_change.proofs.Words.{nat_cmp, slice_cmp, AddressFamily, GroupForm, AreAscending, groups_of, unwanted, ActionKind}
use Rattle.pim_change.proofs.Words.{JoinRpt, PruneRpt, JoinSource, PruneSource, Action, of_source, ChangeUnit, about, lacking}
use Rattle.pim_change.proofs.Words.{star_change, sources_change, group_change, change, action_fits, too_big, star_change_fits}
use Rattle.pim_form.specs.TooBig.{star_fits}
use Rattle.pim_change.proofs.Changing.{change_less, change_equal, change_greater, change_gone, change_came, no_change}

module _ (family : AddressFamily) (budget : ℕ) where
  -- the first of these that doesn't fit, if there is one, else the first of those behind them
  unfoldable pub behind : Option (List ℕ) → Option (List ℕ) → Option (List ℕ)
  behind None other = other
  behind (Some group) other = Some group

  too_big_append : (xs ys : List ChangeUnit)
      → too_big family budget (xs ++ ys) ≡ behind (too_big family budget xs) (too_big family budget ys)
  unfolding too_big behind
  too_big_append [] ys = refl
  too_big_append (x ∷ xs) ys = by (too_big_append xs ys) (action_fits family budget x.group x.action)
    where
      by : too_big family budget (xs ++ ys) ≡ behind (too_big family budget xs) (too_big family budget ys)
          → (b : Bool) → cond b (too_big family budget (xs ++ ys)) (Some x.group) ≡ behind
          (cond b (too_big family budget xs) (Some x.group)) (too_big family budget ys)
      by others true = others
      by others false = refl

  kind_fits : (group : List ℕ) (kind : ActionKind) (sources : List (List ℕ)) (others : List Action)
      → too_big family budget (about group (map (of_source kind) sources ++ others)) ≡ too_big family budget
      (about group others)
  unfolding too_big
  kind_fits group kind [] others = refl
  kind_fits group kind (s ∷ sources) others = kind_fits group kind sources others

  kind_last : (group : List ℕ) (kind : ActionKind) (sources : List (List ℕ))
      → too_big family budget (about group (map (of_source kind) sources)) ≡ None
  unfolding too_big
  kind_last group kind [] = refl
  kind_last group kind (s ∷ sources) = kind_last group kind sources

  sources_fit : (group : List ℕ) (old new : List (List ℕ))
      → too_big family budget (about group (sources_change old new)) ≡ None
  sources_fit group old new =
      kind_fits group JoinSource (lacking new old) (map (of_source PruneSource) (lacking old new))
      ∙ kind_last group PruneSource (lacking old new)

  star_part : (group : List ℕ) (a b : Option (List (List ℕ))) (others : List Action)
      → too_big family budget (about group others) ≡ None
      → too_big family budget (about group (star_change a b ++ others)) ≡ cond
      (is_some a || star_fits family budget group b) None (Some group)
  unfolding too_big
  star_part group None None others none = none
  star_part group None (Some exceptions) others none =
      elim (star_fits family budget group (Some exceptions)) as
      (λ t. cond t (too_big family budget (about group others)) (Some group) ≡ cond t None (Some group)) [
        | true ↦ none
        | false ↦ refl
      ]
  star_part group (Some excepted) None others none = none
  star_part group (Some excepted) (Some exceptions) others none =
      ap (λ (l : List Action). too_big family budget (about group l))
      (append_assoc (map (of_source JoinRpt) (lacking excepted exceptions))
      (map (of_source PruneRpt) (lacking exceptions excepted)) others)
      ∙ kind_fits group JoinRpt (lacking excepted exceptions)
      (map (of_source PruneRpt) (lacking exceptions excepted) ++ others)
      ∙ kind_fits group PruneRpt (lacking exceptions excepted) others ∙ none

  -- a group's change doesn't fit exactly if its new star doesn't
  group_fits : (old new : GroupForm)
      → too_big family budget (about new.group (group_change old new)) ≡ cond (star_change_fits family budget old new)
      None (Some new.group)
  group_fits old new = star_part new.group old.star new.star (sources_change old.sources new.sources)
      (sources_fit new.group old.sources new.sources)

  or_true : (b : Bool) → (b || true) ≡ true
  or_true true = refl
  or_true false = refl

  gone_fits : (old : GroupForm) → too_big family budget (about old.group (group_change old (unwanted old.group))) ≡ None
  gone_fits old = group_fits old (unwanted old.group)
      ∙ ap (λ b. cond b None (Some old.group)) (or_true (is_some old.star))

  -- ---- forms

  pub record IsFitting (olds news : List GroupForm) (all : Option (List ℕ)) : Type 0 where
    pub first : AreAscending (groups_of olds)
    pub second : AreAscending (groups_of news)
    pub so_far : too_big family budget (change olds news) ≡ all

  module _ (olds olds' news news' : List GroupForm) (old new : GroupForm) (all : Option (List ℕ))
      (is_olds : olds ≡ old ∷ olds') (is_news : news ≡ new ∷ news') (fitting : IsFitting olds news all) where
    up_olds : AreAscending (groups_of (old ∷ olds'))
    up_olds = subst (λ o. AreAscending (groups_of o)) is_olds fitting.first

    up_news : AreAscending (groups_of (new ∷ news'))
    up_news = subst (λ o. AreAscending (groups_of o)) is_news fitting.second

    opened : too_big family budget (change (old ∷ olds') (new ∷ news')) ≡ all
    opened = subst (λ o. too_big family budget (change (old ∷ olds') o) ≡ all) is_news
        (subst (λ o. too_big family budget (change o news) ≡ all) is_olds fitting.so_far)

    pub fits_less : slice_cmp nat_cmp old.group new.group ≡ Less → IsFitting olds' news all
    unfolding IsStrictlySortedBy behind
    fits_less less = record {
      first = up_olds.1;
      second = fitting.second;
      so_far = subst (λ o. too_big family budget (change olds' o) ≡ all) (sym is_news)
          (sym (ap (too_big family budget) (change_less old new olds' news' up_olds up_news less)
          ∙ too_big_append (about old.group (group_change old (unwanted old.group))) (change olds' (new ∷ news'))
          ∙ ap (λ t. behind t (too_big family budget (change olds' (new ∷ news')))) (gone_fits old)) ∙ opened);
    }

    pub at_equal : slice_cmp nat_cmp old.group new.group ≡ Equal
        → behind (cond (star_change_fits family budget old new) None (Some new.group))
        (too_big family budget (change olds' news')) ≡ all
    at_equal equal =
        sym (ap (too_big family budget) (change_equal old new olds' news' up_olds up_news equal)
        ∙ too_big_append (about new.group (group_change old new)) (change olds' news')
        ∙ ap (λ t. behind t (too_big family budget (change olds' news'))) (group_fits old new)) ∙ opened

    pub fits_equal : slice_cmp nat_cmp old.group new.group ≡ Equal → star_change_fits family budget old new ≡ true
        → IsFitting olds' news' all
    unfolding IsStrictlySortedBy behind
    fits_equal equal fits = record {
      first = up_olds.1;
      second = up_news.1;
      so_far = subst (λ b. behind (cond b None (Some new.group)) (too_big family budget (change olds' news')) ≡ all)
          fits (at_equal equal);
    }

    pub big_equal : slice_cmp nat_cmp old.group new.group ≡ Equal → star_change_fits family budget old new ≡ false
        → Some new.group ≡ all
    unfolding behind
    big_equal equal big = subst (λ b. behind (cond b None (Some new.group))
        (too_big family budget (change olds' news')) ≡ all) big (at_equal equal)

    pub at_greater : slice_cmp nat_cmp old.group new.group ≡ Greater
        → behind (cond (star_fits family budget new.group new.star) None (Some new.group))
        (too_big family budget (change (old ∷ olds') news')) ≡ all
    at_greater greater =
        sym (ap (too_big family budget) (change_greater old new olds' news' up_olds up_news greater)
        ∙ too_big_append (about new.group (group_change (unwanted new.group) new)) (change (old ∷ olds') news')
        ∙ ap (λ t. behind t (too_big family budget (change (old ∷ olds') news')))
        (group_fits (unwanted new.group) new)) ∙ opened

    pub fits_greater : slice_cmp nat_cmp old.group new.group ≡ Greater
        → star_fits family budget new.group new.star ≡ true → IsFitting olds news' all
    unfolding IsStrictlySortedBy behind
    fits_greater greater fits = record {
      first = fitting.first;
      second = up_news.1;
      so_far = subst (λ o. too_big family budget (change o news') ≡ all) (sym is_olds)
          (subst (λ b. behind (cond b None (Some new.group)) (too_big family budget (change (old ∷ olds') news')) ≡
          all) fits (at_greater greater));
    }

    pub big_greater : slice_cmp nat_cmp old.group new.group ≡ Greater
        → star_fits family budget new.group new.star ≡ false → Some new.group ≡ all
    unfolding behind
    big_greater greater big = subst
        (λ b. behind (cond b None (Some new.group)) (too_big family budget (change (old ∷ olds') news')) ≡ all) big
        (at_greater greater)

  -- where nothing that was told is left
  module _ (news news' : List GroupForm) (new : GroupForm) (all : Option (List ℕ)) (is_news : news ≡ new ∷ news')
      (fitting : IsFitting [] news all) where
    up_left : AreAscending (groups_of (new ∷ news'))
    up_left = subst (λ o. AreAscending (groups_of o)) is_news fitting.second

    pub at_came : behind (cond (star_fits family budget new.group new.star) None (Some new.group))
        (too_big family budget (change [] news')) ≡ all
    at_came =
        sym (ap (too_big family budget) (change_came new news' up_left)
        ∙ too_big_append (about new.group (group_change (unwanted new.group) new)) (change [] news')
        ∙ ap (λ t. behind t (too_big family budget (change [] news'))) (group_fits (unwanted new.group) new))
        ∙ subst (λ o. too_big family budget (change [] o) ≡ all) is_news fitting.so_far

    pub fits_came : star_fits family budget new.group new.star ≡ true → IsFitting [] news' all
    unfolding IsStrictlySortedBy behind
    fits_came fits = record {
      first = fitting.first;
      second = up_left.1;
      so_far = subst (λ b. behind (cond b None (Some new.group)) (too_big family budget (change [] news')) ≡ all) fits
          at_came;
    }

    pub big_came : star_fits family budget new.group new.star ≡ false → Some new.group ≡ all
    unfolding behind
    big_came big = subst (λ b. behind (cond b None (Some new.group)) (too_big family budget (change [] news')) ≡ all)
        big at_came

  pub came_fitting : (groups : List GroupForm) → AreAscending (groups_of groups)
      → IsFitting [] groups (too_big family budget (change [] groups))
  unfolding IsStrictlySortedBy
  came_fitting groups up = record { first = tt; second = up; so_far = refl }

  pub none_came : (groups : List GroupForm) (all : Option (List ℕ)) → groups ≡ [] → IsFitting [] groups all → None ≡ all
  unfolding too_big
  none_came groups all none fitting =
      sym (ap (too_big family budget) no_change)
      ∙ subst (λ o. too_big family budget (change [] o) ≡ all) none fitting.so_far

  -- where nothing that is wanted is left
  pub all_gone : (olds : List GroupForm) → AreAscending (groups_of olds) → too_big family budget (change olds []) ≡ None
  unfolding too_big IsStrictlySortedBy behind
  all_gone [] up = ap (too_big family budget) no_change
  all_gone (old ∷ olds) up =
      ap (too_big family budget) (change_gone old olds up)
      ∙ too_big_append (about old.group (group_change old (unwanted old.group))) (change olds [])
      ∙ ap (λ t. behind t (too_big family budget (change olds []))) (gone_fits old) ∙ all_gone olds up.1

  pub fits_gone : (olds news : List GroupForm) (all : Option (List ℕ)) → news ≡ [] → IsFitting olds news all
      → None ≡ all
  fits_gone olds news all none fitting =
      sym (all_gone olds fitting.first) ∙ subst (λ o. too_big family budget (change olds o) ≡ all) none fitting.so_far
