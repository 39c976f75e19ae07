-- Stars of a form that another form lacks, and the least of them that is too big.
use Rattle.pim_emit.proofs.Words.{◌≡◌, ◌∙◌, ℕ, zero, suc, ◌≤◌, ◌<◌, Bool, true, false, cond, not, List, [], ◌∷◌, Option, None}
use Rattle.pim_emit.proofs.Words.{Some, length, refl, sym, ap, subst, arith, Less, Equal, Greater, AllByRecursion, filter}
use Rattle.pim_emit.proofs.Words.{IsStrictlySortedBy, is_some, is_lt, ordering_reverse, false≢true, AddressFamily, is_above}
use Rattle.pim_emit.proofs.Words.{address_cmp, GroupForm, AreAscending, groups_of, same_address, group_in, star_fits, too_big}
use Rattle.pim_emit.proofs.Words.{HaveSameStars, next_above, star_of, groups_above}
use Rattle.pim_emit.proofs.Above.{by_test, IsNextGroup, next_group, no_next_group}
use Rattle.pim_emit.proofs.Addresses.{above_less, lt_less, less_trans, less_apart, back, itself, same_is, same_itself, equal_is, not_above_greater}
use Rattle.pim_emit.proofs.TooBigSteps.{fewer_groups}

some_isnt_none : (group : List ℕ) → ◌≡◌ {A = Option (List ℕ)} None (Some group) → ⊥
some_isnt_none group e = cc

-- the groups of which the last form has no star
abbrev pub new_of : List GroupForm → List GroupForm → List GroupForm
new_of last groups = filter (λ this. not (is_some (star_of this.group last))) groups

module _ (family : AddressFamily) (budget : ℕ) (last : List GroupForm) where
  abbrev is_new : GroupForm → Bool
  is_new this = not (is_some (star_of this.group last))

  abbrev big : List GroupForm → Option (List ℕ)
  big groups = too_big family budget groups

  pub none_new : (groups : List GroupForm) → big groups ≡ None → big (new_of last groups) ≡ None
  none_new [] none = refl
  none_new (this ∷ groups) none = by (star_fits family budget this.group this.star) refl none (none_new groups)
    where
      by : (b : Bool) → star_fits family budget this.group this.star ≡ b → cond b (big groups) (Some this.group) ≡ None → (big groups ≡ None → big (new_of last groups) ≡ None) → big (new_of last (this ∷ groups)) ≡ None
      by true fits later rest =
          by_test (is_new this)
          (λ e. rw e (ap (λ c. cond c (big (new_of last groups)) (Some this.group)) fits ∙ rest later))
          (λ e. rw e (rest later))
      by false fits clash rest = absurd (some_isnt_none this.group (sym clash))

  module _ (form : List GroupForm) (ascending : AreAscending (groups_of form)) where
    -- the first group above a bound that is too big, and the groups above it
    pub record IsNextBig (bound : Option (List ℕ)) (group : List ℕ) : Type 0 where
      pub fewer : length (groups_above (Some group) form) < length (groups_above bound form)
      pub over : is_above bound group ≡ true
      pub further : (other : List ℕ) → is_above (Some group) other ≡ true → is_above bound other ≡ true
      pub was : is_some (star_of group last) ≡ true → big (new_of last (groups_above bound form)) ≡ big (new_of last (groups_above (Some group) form))
      pub comes : is_some (star_of group last) ≡ false → big (new_of last (groups_above bound form)) ≡ Some group

    module _ (bound : Option (List ℕ)) (first : List ℕ) (found : next_above bound (groups_of form) ≡ Some first) where
      abbrev it : GroupForm
      it = group_in first form

      abbrev those : List GroupForm
      those = groups_above (Some first) form

      next : IsNextGroup bound form first
      next = next_group bound form first ascending found

      passes : (other : List ℕ) → is_above (Some first) other ≡ true → is_above bound other ≡ true
      passes other above = above_less bound first other next.over (lt_less (address_cmp first other) above)

      skipped : star_fits family budget it.group it.star ≡ true → big (new_of last (groups_above bound form)) ≡ big (new_of last those)
      skipped fits = ap (λ l. big (new_of last l)) next.first ∙ by_test (is_new it)
          (λ e. rw e (ap (λ c. cond c (big (new_of last those)) (Some it.group)) fits))
          (λ e. rw e refl)

      later : star_fits family budget it.group it.star ≡ true → (group : List ℕ) → IsNextBig (Some first) group → IsNextBig bound group
      later fits group rest = record {
        fewer = omega (arith, rest.fewer, fewer_groups bound form ascending first found);
        over = passes group rest.over;
        further = λ other above. passes other (rest.further other above);
        was = λ e. skipped fits ∙ rest.was e;
        comes = λ e. skipped fits ∙ rest.comes e;
      }

      old_or_new : (b : Bool) → is_some (star_of first last) ≡ b → is_new it ≡ not b
      old_or_new b e = ap (λ (g : List ℕ). not (is_some (star_of g last))) next.named ∙ ap not e

      here : star_fits family budget it.group it.star ≡ false → IsNextBig bound first
      here large = record {
        fewer = fewer_groups bound form ascending first found;
        over = next.over;
        further = passes;
        was = λ e. ap (λ l. big (new_of last l)) next.first ∙ ap (λ b. big (cond b (it ∷ new_of last those) (new_of last those))) (old_or_new true e);
        comes = λ e. ap (λ l. big (new_of last l)) next.first ∙ ap (λ b. big (cond b (it ∷ new_of last those) (new_of last those))) (old_or_new false e)
            ∙ ap (λ c. cond c (big (new_of last those)) (Some it.group)) large ∙ ap Some next.named;
      }

      at_first : (group : List ℕ) → big (groups_above bound form) ≡ Some group → (big those ≡ Some group → IsNextBig (Some first) group) → IsNextBig bound group
      at_first group is rest = by (star_fits family budget it.group it.star) refl (sym (ap big next.first) ∙ is)
        where
          by : (b : Bool) → star_fits family budget it.group it.star ≡ b → cond b (big those) (Some it.group) ≡ Some group → IsNextBig bound group
          by true fits reported = later fits group (rest reported)
          by false large reported =
              let same : first ≡ group = (let e : it.group ≡ group = cc in sym next.named ∙ e) in
              subst (λ (g : List ℕ). IsNextBig bound g) same (here large)

    none_there : (bound : Option (List ℕ)) (group : List ℕ) → next_above bound (groups_of form) ≡ None → big (groups_above bound form) ≡ Some group → ⊥
    none_there bound group none is = some_isnt_none group (sym (ap big (no_next_group bound form none)) ∙ is)

    search_on : (most : ℕ) (bound : Option (List ℕ)) (group : List ℕ) → length (groups_above bound form) ≤ most → big (groups_above bound form) ≡ Some group → IsNextBig bound group
    search_on zero bound group within is = absurd (by (groups_above bound form) within is)
      where
        by : (groups : List GroupForm) → length groups ≤ 0 → big groups ≡ Some group → ⊥
        by [] short clash = some_isnt_none group clash
        by (first ∷ groups) short clash = omega (arith, short)
    search_on (suc most) bound group within is =
        on (next_above bound (groups_of form)) refl (λ first found reported. search_on most (Some first) group (omega (arith, within, fewer_groups bound form ascending first found)) reported)
      where
        on : (next : Option (List ℕ)) → next_above bound (groups_of form) ≡ next
            → ((first : List ℕ) → next_above bound (groups_of form) ≡ Some first → big (groups_above (Some first) form) ≡ Some group → IsNextBig (Some first) group)
            → IsNextBig bound group
        on None none rest = absurd (none_there bound group none is)
        on (Some first) found rest = at_first bound first found group is (rest first found)

    pub next_big : (bound : Option (List ℕ)) (group : List ℕ) → big (groups_above bound form) ≡ Some group → IsNextBig bound group
    next_big bound group is = search_on (length (groups_above bound form)) bound group (omega arith) is

-- ---- the groups of a form that are left

-- the stars of the groups from this one on
abbrev pub HaveSameStarsFrom : List ℕ → List GroupForm → List GroupForm → Type 0
HaveSameStarsFrom group one other = (this : List ℕ) → is_lt (address_cmp this group) ≡ false → star_of this one ≡ star_of this other

module _ (group : List ℕ) (this : GroupForm) (behind form : List GroupForm) where
  -- a group below is not one of those from the group on
  pub passed : address_cmp this.group group ≡ Less → HaveSameStarsFrom group (this ∷ behind) form → HaveSameStarsFrom group behind form
  unfolding group_in
  passed less same other from =
      let e : group_in other (this ∷ behind) ≡ group_in other behind = rw (apart other from) refl in
      sym (ap (λ (g : GroupForm). g.star) e) ∙ same other from
    where
      apart : (other : List ℕ) → is_lt (address_cmp other group) ≡ false → same_address other this.group ≡ false
      apart other from = by_test (same_address other this.group)
          (λ e. absurd (false≢true (sym from ∙ ap is_lt (subst (λ (a : List ℕ). address_cmp a group ≡ Less) (sym (same_is other this.group e)) less))))
          (λ e. e)

pub not_below_itself : (group : List ℕ) → is_lt (address_cmp group group) ≡ false
not_below_itself group = ap is_lt (itself group)

-- the first group is this one
pub star_here : (group : List ℕ) (this : GroupForm) (behind form : List GroupForm) → address_cmp this.group group ≡ Equal → HaveSameStarsFrom group (this ∷ behind) form
    → is_some this.star ≡ is_some (star_of group form)
unfolding group_in
star_here group this behind form equal same =
    let is : same_address group this.group ≡ true = subst (λ (a : List ℕ). same_address group a ≡ true) (sym (equal_is this.group group equal)) (same_itself group) in
    let e : group_in group (this ∷ behind) ≡ this = rw is refl in
    ap is_some (sym (ap (λ (g : GroupForm). g.star) e) ∙ same group (not_below_itself group))

-- all groups are above this one
none_of : (group : List ℕ) (form : List GroupForm) → AllByRecursion (λ other. address_cmp group other ≡ Less) (groups_of form) → star_of group form ≡ None
unfolding group_in
none_of group [] all = refl
none_of group (this ∷ form) all =
    let e : group_in group (this ∷ form) ≡ group_in group form = rw (less_apart group this.group all.0) refl in
    ap (λ (g : GroupForm). g.star) e ∙ none_of group form all.1

pub no_star : (group : List ℕ) (form : List GroupForm) → HaveSameStarsFrom group [] form → false ≡ is_some (star_of group form)
unfolding group_in
no_star group form same = ap is_some (same group (not_below_itself group))

behind_too : (group first : List ℕ) (groups : List (List ℕ)) → address_cmp group first ≡ Less → AllByRecursion (λ other. address_cmp first other ≡ Less) groups
    → AllByRecursion (λ other. address_cmp group other ≡ Less) groups
behind_too group first [] less all = tt
behind_too group first (x ∷ groups) less all = (less_trans group first x less all.0, behind_too group first groups less all.1)

pub no_star_before : (group : List ℕ) (this : GroupForm) (behind form : List GroupForm) → AreAscending (groups_of (this ∷ behind)) → address_cmp this.group group ≡ Greater
    → HaveSameStarsFrom group (this ∷ behind) form → false ≡ is_some (star_of group form)
unfolding IsStrictlySortedBy
no_star_before group this behind form up greater same =
    let less : address_cmp group this.group ≡ Less = back this.group group ∙ ap ordering_reverse greater in
    ap is_some (sym (none_of group (this ∷ behind) (less, behind_too group this.group (groups_of behind) less up.0)) ∙ same group (not_below_itself group))

-- what is above a group is not below it
pub stars_above : (group : List ℕ) (left form : List GroupForm) → HaveSameStarsFrom group left form → HaveSameStars (Some group) left form
stars_above group left form same other above = same other (not_above_greater group other (lt_less (address_cmp group other) above))
