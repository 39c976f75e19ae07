-- All that is told of a change is named by the message of some run.
use Rattle.pim_settling.proofs.Words.{◌≡◌, ℕ, suc, ◌<◌, Bool, true, false, cond, not, ◌&&◌, ◌||◌, List, [], ◌∷◌, ◌++◌, map}
use Rattle.pim_settling.proofs.Words.{length, Option, None, Some, refl, sym, ap, subst, ◌∙◌, arith, flat_map, list_any, is_some}
use Rattle.pim_settling.proofs.Words.{Less, Equal, Greater, nat_cmp, slice_cmp, same_text, false≢true, list_any-append, What}
use Rattle.pim_settling.proofs.Words.{Star, Source, Rpt, Key, same_key, Event, is_known, event, list_events, key_of}
use Rattle.pim_settling.proofs.Words.{KeysAreDistinct, GroupForm, same_address, is_listed, groups_of, group_in, unwanted}
use Rattle.pim_settling.proofs.Words.{has_unit_of, JoinRpt, PruneRpt, JoinSource, PruneSource, Action, star_joined, star_pruned}
use Rattle.pim_settling.proofs.Words.{of_source, lacking, star_change, sources_change, group_change, ChangeUnit, unit_of}
use Rattle.pim_settling.proofs.Words.{inserted, in_order, change_at, change, rp_entry, GroupActions, set_in_front, in_front}
use Rattle.pim_settling.proofs.Words.{grouped, run_events, run_at, KnowRps, carried_if, rpt_carried, carried_of}
use Rattle.std.specs.declared.cmp.Ordering.{Ordering}
use Rattle.std.specs.FinMap.{slice_cmp-IsAntisymmetric, nat_cmp-IsAntisymmetric}
use Rattle.pim_form.specs.Merge.{by_order}
use Rattle.pim_change.specs.declared.unit.ActionKind.{ActionKind}
use Rattle.pim_settling.proofs.Units.{itself, told_here}
use Rattle.pim_settling.proofs.Only.{or_left, or_second, joined_of, pruned_of, all_joined, all_pruned, first_joined, first_pruned, excepted_named, events_of_sets}

-- ---- lists

-- addresses that compare as equal are one
equal_is : (a b : List ℕ) → slice_cmp nat_cmp a b ≡ Equal → a ≡ b
equal_is a b e = slice_cmp-IsAntisymmetric nat_cmp-IsAntisymmetric a b e

any_flat : {A B : Type 0} (p : B → Bool) (f : A → List B) (q : A → Bool) (xs : List A) → ((x : A) → q x ≡ true → list_any p (f x) ≡ true) → list_any q xs ≡ true → list_any p (flat_map f xs) ≡ true
any_flat p f q [] each l = absurd (false≢true l)
any_flat p f q (x ∷ xs) each l =
    list_any-append p (f x) (flat_map f xs)
    ∙ elim (q x) as (λ b. q x ≡ b → (b || list_any q xs) ≡ true → (list_any p (f x) || list_any p (flat_map f xs)) ≡ true) [
      | true ↦ λ s m. or_left (list_any p (f x)) (list_any p (flat_map f xs)) (each x s)
      | false ↦ λ s m. or_second (list_any p (f x)) (list_any p (flat_map f xs)) (any_flat p f q xs each m)
    ] refl l

any_map : {A B : Type 0} (p : B → Bool) (f : A → B) (xs : List A) → list_any (λ x. p (f x)) xs ≡ true → list_any p (map f xs) ≡ true
any_map p f [] l = l
any_map p f (x ∷ xs) l =
    elim (p (f x)) as (λ b. (b || list_any (λ y. p (f y)) xs) ≡ true → (b || list_any p (map f xs)) ≡ true) [
      | true ↦ λ m. refl
      | false ↦ λ m. any_map p f xs m
    ] l

any_weaker : {A : Type 0} (p q : A → Bool) (xs : List A) → ((x : A) → q x ≡ true → p x ≡ true) → list_any q xs ≡ true → list_any p xs ≡ true
any_weaker p q [] each l = absurd (false≢true l)
any_weaker p q (x ∷ xs) each l =
    elim (q x) as (λ b. q x ≡ b → (b || list_any q xs) ≡ true → (p x || list_any p xs) ≡ true) [
      | true ↦ λ s m. or_left (p x) (list_any p xs) (each x s)
      | false ↦ λ s m. or_second (p x) (list_any p xs) (any_weaker p q xs each m)
    ] refl l

any_left : {A : Type 0} (p : A → Bool) (xs ys : List A) → list_any p xs ≡ true → list_any p (xs ++ ys) ≡ true
any_left p xs ys l = list_any-append p xs ys ∙ or_left (list_any p xs) (list_any p ys) l

any_right : {A : Type 0} (p : A → Bool) (xs ys : List A) → list_any p ys ≡ true → list_any p (xs ++ ys) ≡ true
any_right p xs ys l = list_any-append p xs ys ∙ or_second (list_any p xs) (list_any p ys) l

-- one that is listed and isn't in the other list is lacking there
is_lacking : (source : List ℕ) (one other : List (List ℕ)) → is_listed source one ≡ true → is_listed source other ≡ false → is_listed source (lacking one other) ≡ true
is_lacking source [] other l n = absurd (false≢true l)
is_lacking source (x ∷ xs) other l n =
    elim (same_address source x) as (λ b. same_address source x ≡ b → (b || is_listed source xs) ≡ true → is_listed source (cond (not (is_listed x other)) (x ∷ lacking xs other) (lacking xs other)) ≡ true) [
      | true ↦ λ s m.
          let same : source ≡ x = same_text source x (sym s) in
          let kept : is_listed x other ≡ false = ap (λ a. is_listed a other) (sym same) ∙ n in
          ap (λ b. is_listed source (cond (not b) (x ∷ lacking xs other) (lacking xs other))) kept ∙ or_left (same_address source x) (is_listed source (lacking xs other)) s
      | false ↦ λ s m.
          let rest = is_lacking source xs other m n in
          elim (is_listed x other) as (λ b. is_listed source (cond (not b) (x ∷ lacking xs other) (lacking xs other)) ≡ true) [
            | true ↦ rest
            | false ↦ or_second (same_address source x) (is_listed source (lacking xs other)) rest
          ]
    ] refl l

-- ---- the groups of either form

unlisted : (group : List ℕ) (form : List GroupForm) → is_listed group (groups_of form) ≡ false → group_in group form ≡ unwanted group
unfolding group_in
unlisted group [] l = refl
unlisted group (this ∷ form) l =
    elim (same_address group this.group) as (λ b. (b || is_listed group (groups_of form)) ≡ false → cond b this (group_in group form) ≡ unwanted group) [
      | true ↦ λ m. absurd (false≢true (sym m))
      | false ↦ λ m. unlisted group form m
    ] l

module _ (group : List ℕ) where
  abbrev Listed : List (List ℕ) → Type 0
  Listed groups = is_listed group groups ≡ true

  inserted_own : (x : List ℕ) (xs : List (List ℕ)) → same_address group x ≡ true → Listed (inserted x xs)
  unfolding inserted
  inserted_own x [] s = or_left (same_address group x) false s
  inserted_own x (y ∷ ys) s = by (slice_cmp nat_cmp x y) refl (inserted_own x ys s)
    where
      by : (o : Ordering) → slice_cmp nat_cmp x y ≡ o → Listed (inserted x ys) → Listed (by_order o (x ∷ y ∷ ys) (y ∷ ys) (y ∷ inserted x ys))
      by Less o further = or_left (same_address group x) (is_listed group (y ∷ ys)) s
      by Equal o further = or_left (same_address group y) (is_listed group ys) (subst (λ (z : List ℕ). same_address group z ≡ true) (equal_is x y o) s)
      by Greater o further = or_second (same_address group y) (is_listed group (inserted x ys)) further

  inserted_others : (x : List ℕ) (xs : List (List ℕ)) → Listed xs → Listed (inserted x xs)
  unfolding inserted
  inserted_others x [] l = absurd (false≢true l)
  inserted_others x (y ∷ ys) l =
      elim (slice_cmp nat_cmp x y) as (λ o. Listed (by_order o (x ∷ y ∷ ys) (y ∷ ys) (y ∷ inserted x ys))) [
        | Less ↦ or_second (same_address group x) (is_listed group (y ∷ ys)) l
        | Equal ↦ l
        | Greater ↦ elim (same_address group y) as (λ b. (b || is_listed group ys) ≡ true → (b || is_listed group (inserted x ys)) ≡ true) [
          | true ↦ λ m. refl
          | false ↦ λ m. inserted_others x ys m
        ] l
      ]

  in_order_listed : (xs : List (List ℕ)) → Listed xs → Listed (in_order xs)
  unfolding in_order
  in_order_listed [] l = l
  in_order_listed (x ∷ xs) l =
      elim (same_address group x) as (λ b. same_address group x ≡ b → (b || is_listed group xs) ≡ true → Listed (inserted x (in_order xs))) [
        | true ↦ λ s m. inserted_own x (in_order xs) s
        | false ↦ λ s m. inserted_others x (in_order xs) (in_order_listed xs m)
      ] refl l

  either_listed : (old new : List GroupForm) (what : What (List ℕ)) (joins : Bool) → told_here old new group what ≡ Some joins → Listed (in_order (groups_of old ++ groups_of new))
  either_listed old new what joins t = by (is_listed group (groups_of old)) (is_listed group (groups_of new)) refl refl
    where
      nothing : (what : What (List ℕ)) → carried_of (unwanted group) (unwanted group) what ≡ None
      nothing Star = refl
      nothing (Source source) = refl
      nothing (Rpt source) = refl

      by : (a b : Bool) → is_listed group (groups_of old) ≡ a → is_listed group (groups_of new) ≡ b → Listed (in_order (groups_of old ++ groups_of new))
      by true b e f = in_order_listed (groups_of old ++ groups_of new) (any_left (same_address group) (groups_of old) (groups_of new) e)
      by false true e f = in_order_listed (groups_of old ++ groups_of new) (any_right (same_address group) (groups_of old) (groups_of new) f)
      by false false e f =
          let none : told_here old new group what ≡ None = ap (λ o. carried_of o (group_in group new) what) (unlisted group old e) ∙ ap (λ n. carried_of (unwanted group) n what) (unlisted group new f) ∙ nothing what in
          let crossed : Some joins ≡ None = sym t ∙ none in
          absurd cc

-- ---- what is told is named

module _ (keys : KeysAreDistinct) (rps : List ℕ → Option (List ℕ)) (old new : List GroupForm) (port : ℕ) (stars_old : KnowRps rps old) (stars_new : KnowRps rps new) (group : List ℕ) where
  abbrev key_for : What (List ℕ) → Key (List ℕ)
  key_for what = record { port = port; group = group; what = what }

  abbrev joined_here : List ℕ → Action → List Event
  joined_here g this = joined_of keys rps old new port g this

  abbrev pruned_here : List ℕ → Action → List Event
  pruned_here g this = pruned_of keys rps old new port g this

  abbrev names_unit : Key (List ℕ) → ChangeUnit → Bool
  names_unit key this = has_unit_of port key (joined_here this.group this.action) || has_unit_of port key (pruned_here this.group this.action)

  abbrev names_telling : What (List ℕ) → Action → Bool
  names_telling what this = names_unit (key_for what) (unit_of group this)

  own_key : (what : What (List ℕ)) → same_key (key_for what) (key_for what) ≡ true
  own_key what = (keys (key_for what) (key_for what)).1.1 refl

  joins_named : (known : Option (List ℕ)) → rps group ≡ known → is_some known ≡ true → has_unit_of port (key_for Star) (list_events rps true group (rp_entry known)) ≡ true
  joins_named None k s = absurd (false≢true s)
  joins_named (Some rp) k s =
      let same : is_known (rps group) rp ≡ true = ap (λ o. is_known o rp) k ∙ itself rp in
      ap (λ b. has_unit_of port (key_for Star) (cond (true && not b) [] (event true group Star) ++ [])) same ∙ or_left (same_key (key_for Star) (key_for Star)) false (own_key Star)

  prunes_named : (known : Option (List ℕ)) → is_some known ≡ true → has_unit_of port (key_for Star) (list_events rps false group (rp_entry known)) ≡ true
  prunes_named None s = absurd (false≢true s)
  prunes_named (Some rp) s = or_left (same_key (key_for Star) (key_for Star)) false (own_key Star)

  star_named : (o n : Option (List (List ℕ))) → (group_in group old).star ≡ o → (group_in group new).star ≡ n → (joins : Bool) → carried_if (is_some o) (is_some n) ≡ Some joins → list_any (names_telling Star) (star_change o n) ≡ true
  star_named None None a b joins t = absurd cc
  star_named None (Some exceptions) a b joins t =
      or_left (names_telling Star (star_joined exceptions)) false
      (or_left (has_unit_of port (key_for Star) (joined_here group (star_joined exceptions))) (has_unit_of port (key_for Star) (pruned_here group (star_joined exceptions)))
      (joins_named (rps group) refl (stars_new group (ap is_some b))))
  star_named (Some excepted) None a b joins t =
      or_left (names_telling Star star_pruned) false
      (or_second (has_unit_of port (key_for Star) (joined_here group star_pruned)) (has_unit_of port (key_for Star) (pruned_here group star_pruned)) (prunes_named (rps group) (stars_old group (ap is_some a))))
  star_named (Some excepted) (Some exceptions) a b joins t = absurd cc

  -- each of a list is told so
  kind_named : (kind : ActionKind) (what : List ℕ → What (List ℕ)) (source : List ℕ) (xs : List (List ℕ)) → (names_telling (what source) (of_source kind source) ≡ true) → is_listed source xs ≡ true → list_any (names_telling (what source)) (map (of_source kind) xs) ≡ true
  kind_named kind what source xs own l =
      any_map (names_telling (what source)) (of_source kind) xs
      (any_weaker (λ x. names_telling (what source) (of_source kind x)) (same_address source) xs (λ x s. subst (λ (y : List ℕ). names_telling (what source) (of_source kind y) ≡ true) (same_text source x (sym s)) own) l)

  join_source : (source : List ℕ) → names_telling (Source source) (of_source JoinSource source) ≡ true
  join_source source = or_left (same_key (key_for (Source source)) (key_for (Source source)) || false) false (or_left (same_key (key_for (Source source)) (key_for (Source source))) false (own_key (Source source)))

  prune_source : (source : List ℕ) → names_telling (Source source) (of_source PruneSource source) ≡ true
  prune_source source = or_left (same_key (key_for (Source source)) (key_for (Source source))) false (own_key (Source source))

  join_rpt : (source : List ℕ) → names_telling (Rpt source) (of_source JoinRpt source) ≡ true
  join_rpt source = or_left (same_key (key_for (Rpt source)) (key_for (Rpt source)) || false) false (or_left (same_key (key_for (Rpt source)) (key_for (Rpt source))) false (own_key (Rpt source)))

  prune_rpt : (source : List ℕ) → names_telling (Rpt source) (of_source PruneRpt source) ≡ true
  prune_rpt source = or_left (same_key (key_for (Rpt source)) (key_for (Rpt source))) false (own_key (Rpt source))

  source_named : (source : List ℕ) (was is : List (List ℕ)) (joins : Bool) → carried_if (is_listed source was) (is_listed source is) ≡ Some joins → list_any (names_telling (Source source)) (sources_change was is) ≡ true
  source_named source was is joins t = by (is_listed source was) (is_listed source is) refl refl t
    where
      by : (a b : Bool) → is_listed source was ≡ a → is_listed source is ≡ b → carried_if a b ≡ Some joins → list_any (names_telling (Source source)) (sources_change was is) ≡ true
      by false false e f u = absurd cc
      by true true e f u = absurd cc
      by false true e f u =
          any_left (names_telling (Source source)) (map (of_source JoinSource) (lacking is was)) (map (of_source PruneSource) (lacking was is))
          (kind_named JoinSource Source source (lacking is was) (join_source source) (is_lacking source is was f e))
      by true false e f u =
          any_right (names_telling (Source source)) (map (of_source JoinSource) (lacking is was)) (map (of_source PruneSource) (lacking was is))
          (kind_named PruneSource Source source (lacking was is) (prune_source source) (is_lacking source was is e f))

  rpt_named : (source : List ℕ) (o n : Option (List (List ℕ))) (joins : Bool) → rpt_carried o n source ≡ Some joins → list_any (names_telling (Rpt source)) (star_change o n) ≡ true
  rpt_named source None None joins t = absurd cc
  rpt_named source (Some excepted) None joins t = absurd cc
  rpt_named source None (Some exceptions) joins t = by (is_listed source exceptions) refl t
    where
      by : (b : Bool) → is_listed source exceptions ≡ b → cond b (Some false) None ≡ Some joins → list_any (names_telling (Rpt source)) (star_change None (Some exceptions)) ≡ true
      by false l u = absurd cc
      by true l u =
          or_left (names_telling (Rpt source) (star_joined exceptions)) false
          (or_second (has_unit_of port (key_for (Rpt source)) (joined_here group (star_joined exceptions))) (has_unit_of port (key_for (Rpt source)) (pruned_here group (star_joined exceptions)))
          (excepted_named keys rps old new port group source exceptions l))
  rpt_named source (Some excepted) (Some exceptions) joins t = by (is_listed source exceptions) (is_listed source excepted) refl refl t
    where
      by : (a b : Bool) → is_listed source exceptions ≡ a → is_listed source excepted ≡ b → carried_if a b ≡ Some joins → list_any (names_telling (Rpt source)) (star_change (Some excepted) (Some exceptions)) ≡ true
      by false false e f u = absurd cc
      by true true e f u = absurd cc
      by false true e f u =
          any_left (names_telling (Rpt source)) (map (of_source JoinRpt) (lacking excepted exceptions)) (map (of_source PruneRpt) (lacking exceptions excepted))
          (kind_named JoinRpt Rpt source (lacking excepted exceptions) (join_rpt source) (is_lacking source excepted exceptions f e))
      by true false e f u =
          any_right (names_telling (Rpt source)) (map (of_source JoinRpt) (lacking excepted exceptions)) (map (of_source PruneRpt) (lacking exceptions excepted))
          (kind_named PruneRpt Rpt source (lacking exceptions excepted) (prune_rpt source) (is_lacking source exceptions excepted e f))

  group_named : (what : What (List ℕ)) (joins : Bool) → told_here old new group what ≡ Some joins → list_any (names_telling what) (group_change (group_in group old) (group_in group new)) ≡ true
  group_named Star joins t =
      any_left (names_telling Star) (star_change (group_in group old).star (group_in group new).star) (sources_change (group_in group old).sources (group_in group new).sources)
      (star_named (group_in group old).star (group_in group new).star refl refl joins t)
  group_named (Source source) joins t =
      any_right (names_telling (Source source)) (star_change (group_in group old).star (group_in group new).star) (sources_change (group_in group old).sources (group_in group new).sources)
      (source_named source (group_in group old).sources (group_in group new).sources joins t)
  group_named (Rpt source) joins t =
      any_left (names_telling (Rpt source)) (star_change (group_in group old).star (group_in group new).star) (sources_change (group_in group old).sources (group_in group new).sources)
      (rpt_named source (group_in group old).star (group_in group new).star joins t)

  change_names : (what : What (List ℕ)) (joins : Bool) → told_here old new group what ≡ Some joins → list_any (names_unit (key_for what)) (change old new) ≡ true
  unfolding change
  change_names what joins t =
      any_flat (names_unit (key_for what)) (change_at old new) (same_address group) (in_order (groups_of old ++ groups_of new))
      (λ g s.
      subst (λ (h : List ℕ). list_any (names_unit (key_for what)) (change_at old new h) ≡ true) (same_text group g (sym s))
      (any_map (names_unit (key_for what)) (unit_of group) (group_change (group_in group old) (group_in group new)) (group_named what joins t)))
      (either_listed group old new what joins t)

  -- ---- the message of a run

  abbrev set_events_here : List ℕ → List Action → List Event
  set_events_here g actions = all_joined keys rps old new port g actions ++ all_pruned keys rps old new port g actions

  abbrev events_here : List GroupActions → List Event
  events_here sets = events_of_sets keys rps old new port sets

  module _ (key : Key (List ℕ)) where
    abbrev names : Event → Bool
    names this = same_key (key_of port this) key

    set_own : (g : List ℕ) (this : Action) (actions : List Action) → names_unit key (unit_of g this) ≡ true → has_unit_of port key (set_events_here g (this ∷ actions)) ≡ true
    set_own g this actions n =
        elim (has_unit_of port key (joined_here g this)) as (λ b. has_unit_of port key (joined_here g this) ≡ b → (b || has_unit_of port key (pruned_here g this)) ≡ true → has_unit_of port key (set_events_here g (this ∷ actions)) ≡ true) [
          | true ↦ λ s m.
              any_left names (all_joined keys rps old new port g (this ∷ actions)) (all_pruned keys rps old new port g (this ∷ actions))
              (ap (has_unit_of port key) (first_joined keys rps old new port g this actions) ∙ any_left names (joined_here g this) (all_joined keys rps old new port g actions) s)
          | false ↦ λ s m.
              any_right names (all_joined keys rps old new port g (this ∷ actions)) (all_pruned keys rps old new port g (this ∷ actions))
              (ap (has_unit_of port key) (first_pruned keys rps old new port g this actions) ∙ any_left names (pruned_here g this) (all_pruned keys rps old new port g actions) m)
        ] refl n

    set_more : (g : List ℕ) (this : Action) (actions : List Action) → has_unit_of port key (set_events_here g actions) ≡ true → has_unit_of port key (set_events_here g (this ∷ actions)) ≡ true
    set_more g this actions n =
        elim (has_unit_of port key (all_joined keys rps old new port g actions)) as (λ b. has_unit_of port key (all_joined keys rps old new port g actions) ≡ b → (b || has_unit_of port key (all_pruned keys rps old new port g actions)) ≡ true → has_unit_of port key (set_events_here g (this ∷ actions)) ≡ true) [
          | true ↦ λ s m.
              any_left names (all_joined keys rps old new port g (this ∷ actions)) (all_pruned keys rps old new port g (this ∷ actions))
              (ap (has_unit_of port key) (first_joined keys rps old new port g this actions) ∙ any_right names (joined_here g this) (all_joined keys rps old new port g actions) s)
          | false ↦ λ s m.
              any_right names (all_joined keys rps old new port g (this ∷ actions)) (all_pruned keys rps old new port g (this ∷ actions))
              (ap (has_unit_of port key) (first_pruned keys rps old new port g this actions) ∙ any_right names (pruned_here g this) (all_pruned keys rps old new port g actions) m)
        ] refl (sym (list_any-append names (all_joined keys rps old new port g actions) (all_pruned keys rps old new port g actions)) ∙ n)

    front_own : (this : ChangeUnit) (sets : List GroupActions) → names_unit key this ≡ true → has_unit_of port key (events_here (in_front this sets)) ≡ true
    front_own this [] n = any_left names (set_events_here this.group (this.action ∷ [])) [] (set_own this.group this.action [] n)
    front_own this (first ∷ sets) n =
        elim (same_address this.group first.group) as (λ b. has_unit_of port key (events_here (set_in_front b this first sets)) ≡ true) [
          | true ↦ any_left names (set_events_here this.group (this.action ∷ first.actions)) (events_here sets) (set_own this.group this.action first.actions n)
          | false ↦ any_left names (set_events_here this.group (this.action ∷ [])) (events_here (first ∷ sets)) (set_own this.group this.action [] n)
        ]

    front_more : (this : ChangeUnit) (sets : List GroupActions) → has_unit_of port key (events_here sets) ≡ true → has_unit_of port key (events_here (in_front this sets)) ≡ true
    front_more this [] n = absurd (false≢true n)
    front_more this (first ∷ sets) n =
        elim (same_address this.group first.group) as (λ b. same_address this.group first.group ≡ b → has_unit_of port key (events_here (set_in_front b this first sets)) ≡ true) [
          | true ↦ λ s.
              let same : this.group ≡ first.group = same_text this.group first.group (sym s) in
              elim (has_unit_of port key (set_events_here first.group first.actions)) as (λ c. has_unit_of port key (set_events_here first.group first.actions) ≡ c → (c || has_unit_of port key (events_here sets)) ≡ true
              → has_unit_of port key (set_events_here this.group (this.action ∷ first.actions) ++ events_here sets) ≡ true) [
                | true ↦ λ t m.
                    any_left names (set_events_here this.group (this.action ∷ first.actions)) (events_here sets)
                    (set_more this.group this.action first.actions (ap (λ g. has_unit_of port key (set_events_here g first.actions)) same ∙ t))
                | false ↦ λ t m. any_right names (set_events_here this.group (this.action ∷ first.actions)) (events_here sets) m
              ] refl (sym (list_any-append names (set_events_here first.group first.actions) (events_here sets)) ∙ n)
          | false ↦ λ s. any_right names (set_events_here this.group (this.action ∷ [])) (events_here (first ∷ sets)) n
        ] refl

    run_names : (run : List ChangeUnit) → list_any (names_unit key) run ≡ true → has_unit_of port key (run_events rps run) ≡ true
    unfolding grouped
    run_names [] n = absurd (false≢true n)
    run_names (this ∷ run) n =
        elim (names_unit key this) as (λ b. names_unit key this ≡ b → (b || list_any (names_unit key) run) ≡ true → has_unit_of port key (events_here (in_front this (grouped run))) ≡ true) [
          | true ↦ λ s m. front_own this (grouped run) s
          | false ↦ λ s m. front_more this (grouped run) (run_names run m)
        ] refl n

    -- the run that names it
    pub record IsIn (runs : List (List ChangeUnit)) : Type 0 where
      pub number : ℕ
      pub less : number < length runs
      pub has_unit : has_unit_of port key (run_events rps (run_at number runs)) ≡ true

    find : (runs : List (List ChangeUnit)) → list_any (names_unit key) (flat_map (λ run. run) runs) ≡ true → IsIn runs
    unfolding run_at
    find [] n = absurd (false≢true n)
    find (run ∷ runs) n =
        elim (list_any (names_unit key) run) as (λ b. list_any (names_unit key) run ≡ b → (b || list_any (names_unit key) (flat_map (λ r. r) runs)) ≡ true → IsIn (run ∷ runs)) [
          | true ↦ λ s m. record { number = 0; less = omega arith; has_unit = run_names run s }
          | false ↦ λ s m. let there = find runs m in record { number = suc there.number; less = omega (arith, there.less); has_unit = there.has_unit }
        ] refl (sym (list_any-append (names_unit key) run (flat_map (λ r. r) runs)) ∙ n)

  pub every : (runs : List (List ChangeUnit)) → flat_map (λ run. run) runs ≡ change old new → (what : What (List ℕ)) (joins : Bool) → told_here old new group what ≡ Some joins → IsIn (key_for what) runs
  every runs whole what joins t = find (key_for what) runs (ap (list_any (names_unit (key_for what))) whole ∙ change_names what joins t)
