-- Units that are told, one after the other.
use Rattle.pim_change.proofs.Words.{◌≡◌, ◌∙◌, ℕ, true, List, [], ◌∷◌, ◌++◌, Option, None, Some, length, map, refl, sym, ap, subst}
use Rattle.pim_change.proofs.Words.{append_assoc, is_some, Less, Equal, Greater, IsStrictlySortedBy, nat_cmp, slice_cmp}
use Rattle.pim_change.proofs.Words.{false≢true, GroupForm, AreAscending, groups_of, exceptions_of, unwanted, ActionKind, JoinRpt}
use Rattle.pim_change.proofs.Words.{PruneRpt, JoinSource, PruneSource, Unit, Of, Action, of_source, ChangeUnit, unit_of, about}
use Rattle.pim_change.proofs.Words.{lacking, star_change, sources_change, group_change, change, unit_seen, units_seen}
use Rattle.std.proofs.lemmas.List.{append-nil, nil_from_length}
use Rattle.pim_change.proofs.Lacking.{lacking_all, lacking_less, lacking_equal, lacking_greater}
use Rattle.pim_change.proofs.Changing.{change_less, change_equal, change_greater, change_gone, change_came, no_change}

about_more : (group : List ℕ) (xs ys : List Action) → about group (xs ++ ys) ≡ about group xs ++ about group ys
about_more group [] ys = refl
about_more group (x ∷ xs) ys = ap (λ (l : List ChangeUnit). unit_of group x ∷ l) (about_more group xs ys)

-- two parts that are told one after the other
pub told_both : (group : List ℕ) (start middle all : List ChangeUnit) (xs ys : List Action)
    → middle ≡ start ++ about group xs → all ≡ middle ++ about group ys → all ≡ start ++ about group (xs ++ ys)
told_both group start middle all xs ys first second =
    second ∙ ap (λ (l : List ChangeUnit). l ++ about group ys) first
    ∙ append_assoc start (about group xs) (about group ys)
    ∙ ap (λ (l : List ChangeUnit). start ++ l) (sym (about_more group xs ys))

module _ {A : Type 0} (bytes_of : A → List ℕ) where
  -- what is told, and what is left to tell, are all
  abbrev pub Tells : List (Unit A) → List ChangeUnit → List ChangeUnit → Type 0
  Tells units left all = units_seen bytes_of units ++ left ≡ all

  seen_more : (units : List (Unit A)) (this : Unit A)
      → units_seen bytes_of (units ++ this ∷ []) ≡ units_seen bytes_of units ++ unit_seen bytes_of this ∷ []
  seen_more [] this = refl
  seen_more (first ∷ units) this = ap (λ (l : List ChangeUnit). unit_seen bytes_of first ∷ l) (seen_more units this)

  pub one_told : (units units' : List (Unit A)) (this : Unit A) → units' ≡ units ++ this ∷ []
      → units_seen bytes_of units' ≡ units_seen bytes_of units ++ unit_seen bytes_of this ∷ []
  one_told units units' this is = ap (units_seen bytes_of) is ∙ seen_more units this

  pub none_told : (units units' : List (Unit A)) → units' ≡ units
      → units_seen bytes_of units' ≡ units_seen bytes_of units ++ []
  none_told units units' is = ap (units_seen bytes_of) is ∙ sym (append-nil (units_seen bytes_of units))

  pub one_more : (units units' : List (Unit A)) (this : Unit A) (left all : List ChangeUnit)
      → units' ≡ units ++ this ∷ [] → Tells units (unit_seen bytes_of this ∷ left) all → Tells units' left all
  one_more units units' this left all is carries =
      ap (λ (l : List ChangeUnit). l ++ left) (one_told units units' this is)
      ∙ append_assoc (units_seen bytes_of units) (unit_seen bytes_of this ∷ []) left ∙ carries

  pub some_more : (units units' : List (Unit A)) (these left all : List ChangeUnit)
      → units_seen bytes_of units' ≡ units_seen bytes_of units ++ these → Tells units (these ++ left) all
      → Tells units' left all
  some_more units units' these left all is carries =
      ap (λ (l : List ChangeUnit). l ++ left) is ∙ append_assoc (units_seen bytes_of units) these left ∙ carries

  pub all_told : (units : List (Unit A)) (all : List ChangeUnit) → Tells units [] all → units_seen bytes_of units ≡ all
  all_told units all carries = sym (append-nil (units_seen bytes_of units)) ∙ carries

  -- ---- what one list lacks of another

  abbrev pub kind_told : ActionKind → A → List A → List ChangeUnit
  kind_told kind group sources = about (bytes_of group) (map (of_source kind) (map bytes_of sources))

  abbrev pub lacking_told : ActionKind → A → List A → List A → List ChangeUnit
  lacking_told kind group one other =
      about (bytes_of group) (map (of_source kind) (lacking (map bytes_of one) (map bytes_of other)))

  pub record IsLacking (kind : ActionKind) (group : A) (units : List (Unit A)) (one other : List A) (all : List ChangeUnit)
      : Type 0 where
    pub first : AreAscending (map bytes_of one)
    pub second : AreAscending (map bytes_of other)
    pub so_far : Tells units (lacking_told kind group one other) all

  module _ (kind : ActionKind) (group : A) (units units' : List (Unit A)) (one one' other other' : List A) (x y : A)
      (all : List ChangeUnit) (is_one : one ≡ x ∷ one') (is_other : other ≡ y ∷ other')
      (lacks : IsLacking kind group units one other all) where
    up_one : AreAscending (map bytes_of (x ∷ one'))
    up_one = subst (λ o. AreAscending (map bytes_of o)) is_one lacks.first

    up_other : AreAscending (map bytes_of (y ∷ other'))
    up_other = subst (λ o. AreAscending (map bytes_of o)) is_other lacks.second

    opened : Tells units (lacking_told kind group (x ∷ one') (y ∷ other')) all
    opened = subst (λ o. Tells units (lacking_told kind group (x ∷ one') o) all) is_other
        (subst (λ o. Tells units (lacking_told kind group o other) all) is_one lacks.so_far)

    by_lists : (l l' : List (List ℕ)) → l ≡ l' → Tells units (about (bytes_of group) (map (of_source kind) l)) all
        → Tells units (about (bytes_of group) (map (of_source kind) l')) all
    by_lists l l' same carries = subst
        (λ (m : List (List ℕ)). Tells units (about (bytes_of group) (map (of_source kind) m)) all) same carries

    pub lack_less : slice_cmp nat_cmp (bytes_of x) (bytes_of y) ≡ Less
        → units' ≡ units ++ (record { group = group; action = Of kind x }) ∷ []
        → IsLacking kind group units' one' other all
    unfolding IsStrictlySortedBy
    lack_less less is =
        let here = by_lists (lacking (map bytes_of (x ∷ one')) (map bytes_of (y ∷ other')))
        (bytes_of x ∷ lacking (map bytes_of one') (map bytes_of (y ∷ other')))
        (lacking_less (bytes_of x) (bytes_of y) (map bytes_of one') (map bytes_of other') less up_other) opened in
        record {
          first = up_one.1;
          second = lacks.second;
          so_far = subst (λ o. Tells units' (lacking_told kind group one' o) all) (sym is_other)
              (one_more units units' (record { group = group; action = Of kind x })
              (lacking_told kind group one' (y ∷ other')) all is here);
        }

    pub lack_equal : slice_cmp nat_cmp (bytes_of x) (bytes_of y) ≡ Equal → IsLacking kind group units one' other' all
    unfolding IsStrictlySortedBy
    lack_equal equal = record {
      first = up_one.1;
      second = up_other.1;
      so_far = by_lists (lacking (map bytes_of (x ∷ one')) (map bytes_of (y ∷ other')))
          (lacking (map bytes_of one') (map bytes_of other'))
          (lacking_equal (bytes_of x) (bytes_of y) (map bytes_of one') (map bytes_of other') equal up_one) opened;
    }

    pub lack_greater : slice_cmp nat_cmp (bytes_of x) (bytes_of y) ≡ Greater → IsLacking kind group units one other' all
    unfolding IsStrictlySortedBy
    lack_greater greater = record {
      first = lacks.first;
      second = up_other.1;
      so_far = subst (λ o. Tells units (lacking_told kind group o other') all) (sym is_one)
          (by_lists (lacking (map bytes_of (x ∷ one')) (map bytes_of (y ∷ other')))
          (lacking (map bytes_of (x ∷ one')) (map bytes_of other'))
          (lacking_greater (bytes_of x) (bytes_of y) (map bytes_of one') (map bytes_of other') greater up_one)
          opened);
    }

  module _ (kind : ActionKind) (group : A) (units units' : List (Unit A)) (one other : List A) (all : List ChangeUnit)
      (is : units_seen bytes_of units' ≡ units_seen bytes_of units ++ kind_told kind group one)
      (lacks : IsLacking kind group units one other all) where
    pub lack_first : length one ≡ 0 → units_seen bytes_of units' ≡ all
    lack_first none =
        let empty = nil_from_length one none in
        is ∙ subst (λ (o : List A). units_seen bytes_of units ++ kind_told kind group o ≡ all) (sym empty)
        (subst (λ (o : List A). Tells units (lacking_told kind group o other) all) empty lacks.so_far)

    pub lack_second : length other ≡ 0 → units_seen bytes_of units' ≡ all
    lack_second none =
        let empty = nil_from_length other none in
        let here : Tells units (lacking_told kind group one []) all =
        subst (λ (o : List A). Tells units (lacking_told kind group one o) all) empty lacks.so_far in
        is ∙ subst (λ (l : List (List ℕ)). units_seen bytes_of units ++ about (bytes_of group) (map (of_source kind) l) ≡
        all) (lacking_all (map bytes_of one)) here

  -- ---- forms

  pub record IsChanging (units : List (Unit A)) (olds news : List GroupForm) (all : List ChangeUnit) : Type 0 where
    pub first : AreAscending (groups_of olds)
    pub second : AreAscending (groups_of news)
    pub so_far : Tells units (change olds news) all

  module _ (units units' : List (Unit A)) (olds olds' news news' : List GroupForm) (old new : GroupForm)
      (all : List ChangeUnit) (is_olds : olds ≡ old ∷ olds') (is_news : news ≡ new ∷ news')
      (changing : IsChanging units olds news all) where
    up_olds : AreAscending (groups_of (old ∷ olds'))
    up_olds = subst (λ o. AreAscending (groups_of o)) is_olds changing.first

    up_news : AreAscending (groups_of (new ∷ news'))
    up_news = subst (λ o. AreAscending (groups_of o)) is_news changing.second

    opened_both : Tells units (change (old ∷ olds') (new ∷ news')) all
    opened_both = subst (λ o. Tells units (change (old ∷ olds') o) all) is_news
        (subst (λ o. Tells units (change o news) all) is_olds changing.so_far)

    by_change : (l l' : List ChangeUnit) → l ≡ l' → Tells units l all → Tells units l' all
    by_change l l' same carries = subst (λ (m : List ChangeUnit). Tells units m all) same carries

    pub changing_less : slice_cmp nat_cmp old.group new.group ≡ Less
        → units_seen bytes_of units' ≡ units_seen bytes_of units
        ++ about old.group (group_change old (unwanted old.group)) → IsChanging units' olds' news all
    unfolding IsStrictlySortedBy
    changing_less less is = record {
      first = up_olds.1;
      second = changing.second;
      so_far = subst (λ o. Tells units' (change olds' o) all) (sym is_news)
          (some_more units units' (about old.group (group_change old (unwanted old.group)))
          (change olds' (new ∷ news')) all is
          (by_change (change (old ∷ olds') (new ∷ news'))
          (about old.group (group_change old (unwanted old.group)) ++ change olds' (new ∷ news'))
          (change_less old new olds' news' up_olds up_news less) opened_both));
    }

    pub changing_equal : slice_cmp nat_cmp old.group new.group ≡ Equal
        → units_seen bytes_of units' ≡ units_seen bytes_of units ++ about new.group (group_change old new)
        → IsChanging units' olds' news' all
    unfolding IsStrictlySortedBy
    changing_equal equal is = record {
      first = up_olds.1;
      second = up_news.1;
      so_far = some_more units units' (about new.group (group_change old new)) (change olds' news') all is
          (by_change (change (old ∷ olds') (new ∷ news'))
          (about new.group (group_change old new) ++ change olds' news')
          (change_equal old new olds' news' up_olds up_news equal) opened_both);
    }

    pub changing_greater : slice_cmp nat_cmp old.group new.group ≡ Greater
        → units_seen bytes_of units' ≡ units_seen bytes_of units
        ++ about new.group (group_change (unwanted new.group) new) → IsChanging units' olds news' all
    unfolding IsStrictlySortedBy
    changing_greater greater is = record {
      first = changing.first;
      second = up_news.1;
      so_far = subst (λ o. Tells units' (change o news') all) (sym is_olds)
          (some_more units units' (about new.group (group_change (unwanted new.group) new))
          (change (old ∷ olds') news') all is
          (by_change (change (old ∷ olds') (new ∷ news'))
          (about new.group (group_change (unwanted new.group) new) ++ change (old ∷ olds') news')
          (change_greater old new olds' news' up_olds up_news greater) opened_both));
    }

  -- one more group that has gone, or that has come
  pub gone_more : (units units' : List (Unit A)) (old : GroupForm) (olds olds' : List GroupForm)
      (all : List ChangeUnit) → olds ≡ old ∷ olds'
      → units_seen bytes_of units' ≡ units_seen bytes_of units
      ++ about old.group (group_change old (unwanted old.group))
      → IsChanging units olds [] all → IsChanging units' olds' [] all
  unfolding IsStrictlySortedBy
  gone_more units units' old olds olds' all is_olds is changing =
      let up : AreAscending (groups_of (old ∷ olds')) =
      subst (λ o. AreAscending (groups_of o)) is_olds changing.first in
      let here : Tells units (change (old ∷ olds') []) all =
      subst (λ o. Tells units (change o []) all) is_olds changing.so_far in
      record {
        first = up.1;
        second = changing.second;
        so_far = some_more units units' (about old.group (group_change old (unwanted old.group))) (change olds' [])
            all is
            (subst (λ (m : List ChangeUnit). Tells units m all) (change_gone old olds' up) here);
      }

  pub came_more : (units units' : List (Unit A)) (new : GroupForm) (news news' : List GroupForm)
      (all : List ChangeUnit) → news ≡ new ∷ news'
      → units_seen bytes_of units' ≡ units_seen bytes_of units
      ++ about new.group (group_change (unwanted new.group) new)
      → IsChanging units [] news all → IsChanging units' [] news' all
  unfolding IsStrictlySortedBy
  came_more units units' new news news' all is_news is changing =
      let up : AreAscending (groups_of (new ∷ news')) =
      subst (λ o. AreAscending (groups_of o)) is_news changing.second in
      let here : Tells units (change [] (new ∷ news')) all =
      subst (λ o. Tells units (change [] o) all) is_news changing.so_far in
      record {
        first = changing.first;
        second = up.1;
        so_far = some_more units units' (about new.group (group_change (unwanted new.group) new)) (change [] news')
            all is
            (subst (λ (m : List ChangeUnit). Tells units m all) (change_came new news' up) here);
      }

  pub changing_ends : (units : List (Unit A)) (olds news : List GroupForm) (all : List ChangeUnit) → olds ≡ []
      → news ≡ [] → IsChanging units olds news all → units_seen bytes_of units ≡ all
  changing_ends units olds news all no_old no_new changing =
      let here : Tells units (change [] []) all =
      subst (λ o. Tells units (change [] o) all) no_new
      (subst (λ o. Tells units (change o news) all) no_old changing.so_far) in
      all_told units all (subst (λ (m : List ChangeUnit). Tells units m all) no_change here)

-- ---- a group that was not told, or isn't wanted

pub all_came : (new : GroupForm)
    → group_change (unwanted new.group) new ≡ star_change None new.star ++ map (of_source JoinSource) new.sources
all_came new =
    ap (λ (l : List Action). star_change None new.star ++ l)
    (append-nil (map (of_source JoinSource) (lacking new.sources [])) ∙ ap (map (of_source JoinSource)) (lacking_all new.sources))

pub all_gone : (old : GroupForm)
    → group_change old (unwanted old.group) ≡ star_change old.star None ++ map (of_source PruneSource) old.sources
all_gone old = ap (λ (l : List (List ℕ)). star_change old.star None ++ map (of_source PruneSource) l)
    (lacking_all old.sources)

both_stay : (old new : Option (List (List ℕ))) → is_some old ≡ true → is_some new ≡ true
    → star_change old new ≡ map (of_source JoinRpt) (lacking (exceptions_of old) (exceptions_of new))
    ++ map (of_source PruneRpt) (lacking (exceptions_of new) (exceptions_of old))
both_stay None new is_old is_new = absurd (false≢true is_old)
both_stay (Some old) None is_old is_new = absurd (false≢true is_new)
both_stay (Some old) (Some new) is_old is_new = refl

module _ {A : Type 0} (bytes_of : A → List ℕ) (group : A) (start : List ChangeUnit) where
  pub exceptions_told : (address : List ℕ) (before after : List A) (old new : Option (List (List ℕ)))
      (middle all : List ChangeUnit) → bytes_of group ≡ address → map bytes_of before ≡ exceptions_of old
      → map bytes_of after ≡ exceptions_of new
      → is_some old ≡ true → is_some new ≡ true → middle ≡ start ++ lacking_told bytes_of JoinRpt group before after
      → all ≡ middle ++ lacking_told bytes_of PruneRpt group after before
      → all ≡ start ++ about address (star_change old new)
  exceptions_told address before after old new middle all is e f is_old is_new first second =
      told_both (bytes_of group) start middle all
      (map (of_source JoinRpt) (lacking (map bytes_of before) (map bytes_of after)))
      (map (of_source PruneRpt) (lacking (map bytes_of after) (map bytes_of before))) first second
      ∙ (λ i. start ++ about (is i)
      (map (of_source JoinRpt) (lacking (e i) (f i)) ++ map (of_source PruneRpt) (lacking (f i) (e i))))
      ∙ ap (λ (l : List Action). start ++ about address l) (sym (both_stay old new is_old is_new))

  pub new_told : (new : GroupForm) (sources : List A) (middle all : List ChangeUnit) → bytes_of group ≡ new.group
      → map bytes_of sources ≡ new.sources → middle ≡ start ++ about new.group (star_change None new.star)
      → all ≡ middle ++ kind_told bytes_of JoinSource group sources
      → all ≡ start ++ about new.group (group_change (unwanted new.group) new)
  new_told new sources middle all is e first second =
      told_both new.group start middle all (star_change None new.star) (map (of_source JoinSource) new.sources) first
      (second ∙ (λ i. middle ++ about (is i) (map (of_source JoinSource) (e i))))
      ∙ ap (λ (l : List Action). start ++ about new.group l) (sym (all_came new))

  pub old_told : (old : GroupForm) (sources : List A) (middle all : List ChangeUnit) → bytes_of group ≡ old.group
      → map bytes_of sources ≡ old.sources → middle ≡ start ++ about old.group (star_change old.star None)
      → all ≡ middle ++ kind_told bytes_of PruneSource group sources
      → all ≡ start ++ about old.group (group_change old (unwanted old.group))
  old_told old sources middle all is e first second =
      told_both old.group start middle all (star_change old.star None) (map (of_source PruneSource) old.sources) first
      (second ∙ (λ i. middle ++ about (is i) (map (of_source PruneSource) (e i))))
      ∙ ap (λ (l : List Action). start ++ about old.group l) (sym (all_gone old))

  pub group_told : (old new : GroupForm) (before after : List A) (first second all : List ChangeUnit)
      → bytes_of group ≡ new.group → map bytes_of before ≡ old.sources → map bytes_of after ≡ new.sources
      → first ≡ start ++ about new.group (star_change old.star new.star)
      → second ≡ first ++ lacking_told bytes_of JoinSource group after before
      → all ≡ second ++ lacking_told bytes_of PruneSource group before after
      → all ≡ start ++ about new.group (group_change old new)
  group_told old new before after first second all is e f stars joins prunes =
      let joins' : second ≡ first ++ about new.group (map (of_source JoinSource) (lacking new.sources old.sources)) =
      joins ∙ (λ i. first ++ about (is i) (map (of_source JoinSource) (lacking (f i) (e i)))) in
      let prunes' : all ≡ second ++ about new.group (map (of_source PruneSource) (lacking old.sources new.sources)) =
      prunes ∙ (λ i. second ++ about (is i) (map (of_source PruneSource) (lacking (e i) (f i)))) in
      told_both new.group start first all (star_change old.star new.star) (sources_change old.sources new.sources) stars
      (told_both new.group first second all (map (of_source JoinSource) (lacking new.sources old.sources))
      (map (of_source PruneSource) (lacking old.sources new.sources)) joins' prunes')

module _ {A : Type 0} (bytes_of : A → List ℕ) (units : List (Unit A)) where
  pub gone_starts : (groups : List GroupForm) → AreAscending (groups_of groups)
      → IsChanging bytes_of units groups [] (units_seen bytes_of units ++ change groups [])
  unfolding IsStrictlySortedBy
  gone_starts groups up = record { first = up; second = tt; so_far = refl }

  pub came_starts : (groups : List GroupForm) → AreAscending (groups_of groups)
      → IsChanging bytes_of units [] groups (units_seen bytes_of units ++ change [] groups)
  unfolding IsStrictlySortedBy
  came_starts groups up = record { first = tt; second = up; so_far = refl }

  -- where the groups of one form have ended, those of the other follow
  pub changed_gone : (units' units'' : List (Unit A)) (olds news : List GroupForm) (all : List ChangeUnit) → news ≡ []
      → units_seen bytes_of units' ≡ units_seen bytes_of units ++ change olds []
      → units_seen bytes_of units'' ≡ units_seen bytes_of units' ++ change [] news
      → IsChanging bytes_of units olds news all → units_seen bytes_of units'' ≡ all
  changed_gone units' units'' olds news all none is is' changing =
      let last : change [] news ≡ [] = ap (change []) none ∙ no_change in
      is' ∙ ap (λ (l : List ChangeUnit). units_seen bytes_of units' ++ l) last
      ∙ append-nil (units_seen bytes_of units') ∙ is
      ∙ subst (λ o. units_seen bytes_of units ++ change olds o ≡ all) none changing.so_far

  pub changed_came : (units' units'' : List (Unit A)) (olds news : List GroupForm) (all : List ChangeUnit) → olds ≡ []
      → units_seen bytes_of units' ≡ units_seen bytes_of units ++ change olds []
      → units_seen bytes_of units'' ≡ units_seen bytes_of units' ++ change [] news
      → IsChanging bytes_of units olds news all → units_seen bytes_of units'' ≡ all
  changed_came units' units'' olds news all none is is' changing =
      let first : change olds [] ≡ [] = ap (λ (o : List GroupForm). change o []) none ∙ no_change in
      is' ∙ ap (λ (l : List ChangeUnit). l ++ change [] news)
      (is ∙ ap (λ (l : List ChangeUnit). units_seen bytes_of units ++ l) first ∙ append-nil
      (units_seen bytes_of units))
      ∙ subst (λ o. units_seen bytes_of units ++ change o news ≡ all) none changing.so_far
