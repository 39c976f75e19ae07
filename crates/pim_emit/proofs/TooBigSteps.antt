-- Whether a star fits a message alone, and the least group whose star doesn't.
use Rattle.pim_emit.proofs.Words.{◌≡◌, ◌∙◌, ◌↔◌, ℕ, zero, suc, ◌+◌, ◌*◌, ◌≤◌, ◌<◌, true, false, List, [], ◌∷◌, Option, None, Some}
use Rattle.pim_emit.proofs.Words.{length, refl, ap, subst, arith, IsStrictlySortedBy, is_some, IsGroupAddress, AddressFamily}
use Rattle.pim_emit.proofs.Words.{Ipv4, Ipv6, GroupsAreCounted, GroupForm, AreAscending, IsNormal, IsNormalGroup, groups_of}
use Rattle.pim_emit.proofs.Words.{exceptions_of, group_in, star_fits, too_big, units_of, run_entries, empty_set_size, entry_size}
use Rattle.pim_emit.proofs.Words.{body_start, message_size, next_above, star_of, exceptions_in, groups_above}
use Rattle.pim_emit.proofs.Above.{by_test, next_group, next_group_holds, no_next_group}
use Rattle.pim_emit.proofs.DraftSizes.{HasRoom, fits_by, fits_not}

-- how many entries there is room for in a message with one set
abbrev pub IsRoomAlone : AddressFamily → ℕ → ℕ → Type 0
IsRoomAlone family budget room = (count : ℕ) → 1 ≤ count → (count ≤ room) ↔ ((0 < 255) × (body_start family + empty_set_size family + count * entry_size family ≤ budget))

one_set : (family : AddressFamily) (entries : ℕ) → message_size family 1 entries ≡ body_start family + empty_set_size family + entries * entry_size family
one_set Ipv4 entries = omega arith
one_set Ipv6 entries = omega arith

module _ (counted : GroupsAreCounted) (family : AddressFamily) (budget room : ℕ) (is_room : IsRoomAlone family budget room) (group : List ℕ) (exceptions : List (List ℕ)) where
  alone : GroupForm
  alone = record { group = group; star = Some exceptions; sources = [] }

  entries : run_entries (units_of (alone ∷ [])) ≡ 1 + length exceptions
  unfolding run_entries alone
  entries = omega arith

  pub fits_alone : length exceptions < room → star_fits family budget group (Some exceptions) ≡ true
  unfolding IsStrictlySortedBy alone
  fits_alone few =
      let size = (is_room (1 + length exceptions) (omega arith)).0 (omega (arith, few)) in
      let whole : HasRoom family budget 1 (run_entries (units_of (alone ∷ []))) = (omega (arith, one_set family (run_entries (units_of (alone ∷ []))), ap (λ n. n * entry_size family) entries, size.1), omega arith) in
      fits_by counted family budget (alone ∷ []) (tt, tt) (refl, tt) whole

  pub too_big_alone : room ≤ length exceptions → star_fits family budget group (Some exceptions) ≡ false
  unfolding IsStrictlySortedBy alone
  too_big_alone many =
      fits_not counted family budget (alone ∷ []) (tt, tt) (refl, tt) (λ whole.
      let size : body_start family + empty_set_size family + (1 + length exceptions) * entry_size family ≤ budget =
      omega (arith, one_set family (run_entries (units_of (alone ∷ []))), ap (λ n. n * entry_size family) entries, whole.0) in
      let fitting : 1 + length exceptions ≤ room = (is_room (1 + length exceptions) (omega arith)).1 (omega arith, size) in
      omega (arith, many, fitting))

-- ---- group by group

module _ (family : AddressFamily) (budget : ℕ) (bound : Option (List ℕ)) (form : List GroupForm) (normal : IsNormal family form) where
  pub none_too_big : next_above bound (groups_of form) ≡ None → too_big family budget (groups_above bound form) ≡ None
  none_too_big none = ap (too_big family budget) (no_next_group bound form none)

  module _ (group : List ℕ) (found : next_above bound (groups_of form) ≡ Some group) where
    passed : star_fits family budget (group_in group form).group (group_in group form).star ≡ true → too_big family budget (groups_above bound form) ≡ too_big family budget (groups_above (Some group) form)
    passed fitting =
        let next = next_group bound form group normal.ascending found in
        ap (too_big family budget) next.first ∙ rw fitting refl

    reached : star_fits family budget (group_in group form).group (group_in group form).star ≡ false → too_big family budget (groups_above bound form) ≡ Some group
    reached big =
        let next = next_group bound form group normal.ascending found in
        ap (too_big family budget) next.first ∙ rw big (ap Some next.named)

    module _ (counted : GroupsAreCounted) (room : ℕ) (is_room : IsRoomAlone family budget room) where
      pub goes_on_bare : is_some (star_of group form) ≡ false → too_big family budget (groups_above bound form) ≡ too_big family budget (groups_above (Some group) form)
      goes_on_bare bare = passed (by (star_of group form) bare)
        where
          by : (star : Option (List (List ℕ))) → is_some star ≡ false → star_fits family budget (group_in group form).group star ≡ true
          by None e = refl
          by (Some exceptions) e = absurd cc

      pub goes_on : is_some (star_of group form) ≡ true → length (exceptions_in group form) < room → too_big family budget (groups_above bound form) ≡ too_big family budget (groups_above (Some group) form)
      goes_on starred few = passed (by (star_of group form) starred few)
        where
          by : (star : Option (List (List ℕ))) → is_some star ≡ true → length (exceptions_of star) < room → star_fits family budget (group_in group form).group star ≡ true
          by None e h = absurd cc
          by (Some exceptions) e h = fits_alone counted family budget room is_room (group_in group form).group exceptions h

      pub ends_here : is_some (star_of group form) ≡ true → room ≤ length (exceptions_in group form) → too_big family budget (groups_above bound form) ≡ Some group
      ends_here starred many = reached (by (star_of group form) starred many)
        where
          by : (star : Option (List (List ℕ))) → is_some star ≡ true → room ≤ length (exceptions_of star) → star_fits family budget (group_in group form).group star ≡ false
          by None e h = absurd cc
          by (Some exceptions) e h = too_big_alone counted family budget room is_room (group_in group form).group exceptions h

pub room_alone : (family : AddressFamily) (budget room groups end : ℕ) → groups ≡ 0 → end ≡ body_start family
    → ((count : ℕ) → 1 ≤ count → (count ≤ room) ↔ ((groups < 255) × (end + empty_set_size family + count * entry_size family ≤ budget))) → IsRoomAlone family budget room
room_alone family budget room groups end none begins is =
    subst (λ n. (count : ℕ) → 1 ≤ count → (count ≤ room) ↔ ((n < 255) × (body_start family + empty_set_size family + count * entry_size family ≤ budget))) none
    (subst (λ n. (count : ℕ) → 1 ≤ count → (count ≤ room) ↔ ((groups < 255) × (n + empty_set_size family + count * entry_size family ≤ budget))) begins is)

pub fewer_groups : (bound : Option (List ℕ)) (form : List GroupForm) (normal : AreAscending (groups_of form)) (group : List ℕ) → next_above bound (groups_of form) ≡ Some group
    → length (groups_above (Some group) form) < length (groups_above bound form)
fewer_groups bound form up group found = omega (arith, ap length (next_group bound form group up found).first)

-- ---- where no star has so many exceptions

module _ (family : AddressFamily) (budget : ℕ) (form : List GroupForm) (normal : IsNormal family form) (counted : GroupsAreCounted) (room : ℕ) (is_room : IsRoomAlone family budget room)
    (few : (group : List ℕ) → IsGroupAddress family group → length (exceptions_in group form) < room) where
  step : (bound : Option (List ℕ)) (group : List ℕ) → next_above bound (groups_of form) ≡ Some group → too_big family budget (groups_above bound form) ≡ too_big family budget (groups_above (Some group) form)
  step bound group found =
      let is_group : IsGroupAddress family group = subst (IsGroupAddress family) (next_group bound form group normal.ascending found).named
      (next_group_holds (IsNormalGroup family) bound form group normal.ascending normal.groups found).group in
      by_test (is_some (star_of group form))
      (λ starred. goes_on family budget bound form normal group found counted room is_room starred (few group is_group))
      (λ bare. goes_on_bare family budget bound form normal group found counted room is_room bare)

  empty : (groups : List GroupForm) → length groups ≤ 0 → too_big family budget groups ≡ None
  empty [] none = refl
  empty (this ∷ groups) none = absurd (omega (arith, none))

  from : (most : ℕ) (bound : Option (List ℕ)) → length (groups_above bound form) ≤ most → too_big family budget (groups_above bound form) ≡ None
  from zero bound within = empty (groups_above bound form) within
  from (suc most) bound within = on (next_above bound (groups_of form)) refl (λ group found. from most (Some group) (omega (arith, within, fewer_groups bound form normal.ascending group found)))
    where
      on : (next : Option (List ℕ)) → next_above bound (groups_of form) ≡ next
          → ((group : List ℕ) → next_above bound (groups_of form) ≡ Some group → too_big family budget (groups_above (Some group) form) ≡ None)
          → too_big family budget (groups_above bound form) ≡ None
      on None none rest = none_too_big family budget bound form normal none
      on (Some group) found rest = step bound group found ∙ rest group found

  pub none_above : (bound : Option (List ℕ)) → too_big family budget (groups_above bound form) ≡ None
  none_above bound = from (length (groups_above bound form)) bound (omega arith)
