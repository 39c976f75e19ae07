-- The message of a run tells nothing but the change, and behind a Join(*,G) each exception of the new star.
use Rattle.pim_settling.proofs.Words.{◌≡◌, ℕ, Bool, true, false, cond, not, ◌&&◌, ◌||◌, List, [], ◌∷◌, ◌++◌, map, Option, None}
use Rattle.pim_settling.proofs.Words.{Some, refl, sym, ap, subst, ◌∙◌, AllByRecursion, flat_map, is_some, same_text, false≢true}
use Rattle.pim_settling.proofs.Words.{list_any-append, append_assoc, Star, Rpt, Key, same_key, Event, is_known, event}
use Rattle.pim_settling.proofs.Words.{entry_events, list_events, set_events, key_of, is_star_join, KeysAreDistinct, GroupForm}
use Rattle.pim_settling.proofs.Words.{same_address, is_listed, exceptions_of, group_in, has_unit_of, JoinRpt, PruneRpt}
use Rattle.pim_settling.proofs.Words.{JoinSource, PruneSource, Action, star_joined, star_pruned, of_source, ChangeUnit, rp_entry}
use Rattle.pim_settling.proofs.Words.{excepted_entries, joined_entries, pruned_entries, GroupActions, set_in_front, in_front}
use Rattle.pim_settling.proofs.Words.{grouped, written_set, run_events, carried_if, rpt_carried, IsCarried, rpt_at}
use Rattle.pim_settling.proofs.Words.{ExceptionsFollow, CarriesOnly}
use Rattle.std.proofs.lemmas.Grind.{flat_map-append}
use Rattle.pim_settling.proofs.Units.{all_append, itself, or_true, told_here, Says, UnitSays}

pub or_left : (a b : Bool) → a ≡ true → (a || b) ≡ true
or_left true b e = refl
or_left false b e = absurd (false≢true e)

pub or_second : (a b : Bool) → b ≡ true → (a || b) ≡ true
or_second a b e = ap (λ c. a || c) e ∙ or_true a

module _ (keys : KeysAreDistinct) (rps : List ℕ → Option (List ℕ)) (old new : List GroupForm) (port : ℕ) where
  -- ---- the events of a telling

  abbrev pub joined_of : List ℕ → Action → List Event
  joined_of group this = list_events rps true group (joined_entries (rps group) this)

  abbrev pub pruned_of : List ℕ → Action → List Event
  pruned_of group this = list_events rps false group (pruned_entries (rps group) this)

  abbrev pub all_joined : List ℕ → List Action → List Event
  all_joined group actions = list_events rps true group (flat_map (joined_entries (rps group)) actions)

  abbrev pub all_pruned : List ℕ → List Action → List Event
  all_pruned group actions = list_events rps false group (flat_map (pruned_entries (rps group)) actions)

  pub first_joined : (group : List ℕ) (this : Action) (actions : List Action) → all_joined group (this ∷ actions) ≡ joined_of group this ++ all_joined group actions
  first_joined group this actions = flat_map-append (entry_events rps true group) (joined_entries (rps group) this) (flat_map (joined_entries (rps group)) actions)

  pub first_pruned : (group : List ℕ) (this : Action) (actions : List Action) → all_pruned group (this ∷ actions) ≡ pruned_of group this ++ all_pruned group actions
  first_pruned group this actions = flat_map-append (entry_events rps false group) (pruned_entries (rps group) this) (flat_map (pruned_entries (rps group)) actions)

  -- ---- each is told

  abbrev AllTold : List Event → Type 0
  AllTold events = AllByRecursion (IsCarried old new) events

  new_star_told : (group : List ℕ) (exceptions : List (List ℕ)) → Says old new group (star_joined exceptions) → told_here old new group Star ≡ Some true
  new_star_told group exceptions says = by (group_in group old).star (group_in group new).star says.0 says.1
    where
      by : (o n : Option (List (List ℕ))) → o ≡ None → n ≡ Some exceptions → carried_if (is_some o) (is_some n) ≡ Some true
      by None (Some others) a b = refl
      by None None a b = absurd cc
      by (Some excepted) n a b = absurd cc

  -- the entry of a star is the event of its Join
  joins_star : (group : List ℕ) (known : Option (List ℕ)) → rps group ≡ known → told_here old new group Star ≡ Some true → AllTold (list_events rps true group (rp_entry known))
  joins_star group None k t = tt
  joins_star group (Some rp) k t =
      let same : is_known (rps group) rp ≡ true = ap (λ o. is_known o rp) k ∙ itself rp in
      subst (λ (b : Bool). AllTold (cond (true && not b) [] (event true group Star) ++ [])) (sym same) (t, tt)

  prunes_star : (group : List ℕ) (known : Option (List ℕ)) → told_here old new group Star ≡ Some false → AllTold (list_events rps false group (rp_entry known))
  prunes_star group None t = tt
  prunes_star group (Some rp) t = (t, tt)

  exception_told : (group source : List ℕ) (exceptions : List (List ℕ)) → Says old new group (star_joined exceptions) → is_listed source exceptions ≡ true → told_here old new group (Rpt source) ≡ Some false
  exception_told group source exceptions says listed =
      ap (λ o. rpt_carried o (group_in group new).star source) says.0 ∙ ap (λ o. rpt_carried None o source) says.1 ∙ ap (λ b. cond b (Some false) None) listed

  exceptions_told : (group : List ℕ) (exceptions xs : List (List ℕ)) → Says old new group (star_joined exceptions) → ((s : List ℕ) → is_listed s xs ≡ true → is_listed s exceptions ≡ true)
      → AllTold (list_events rps false group (excepted_entries xs))
  exceptions_told group exceptions [] says are = tt
  exceptions_told group exceptions (x ∷ xs) says are =
      (exception_told group x exceptions says (are x (or_left (same_address x x) (is_listed x xs) (itself x))), exceptions_told group exceptions xs says (λ s l. are s (or_second (same_address s x) (is_listed s xs) l)))

  joined_told : (group : List ℕ) (this : Action) → Says old new group this → AllTold (joined_of group this)
  joined_told group (star_joined exceptions) says = joins_star group (rps group) refl (new_star_told group exceptions says)
  joined_told group star_pruned says = tt
  joined_told group (of_source JoinRpt source) says = (says, tt)
  joined_told group (of_source PruneRpt source) says = tt
  joined_told group (of_source JoinSource source) says = (says, tt)
  joined_told group (of_source PruneSource source) says = tt

  pruned_told : (group : List ℕ) (this : Action) → Says old new group this → AllTold (pruned_of group this)
  pruned_told group (star_joined exceptions) says = exceptions_told group exceptions exceptions says (λ s l. l)
  pruned_told group star_pruned says = prunes_star group (rps group) says
  pruned_told group (of_source JoinRpt source) says = tt
  pruned_told group (of_source PruneRpt source) says = (says, tt)
  pruned_told group (of_source JoinSource source) says = tt
  pruned_told group (of_source PruneSource source) says = (says, tt)

  all_joined_told : (group : List ℕ) (actions : List Action) → AllByRecursion (Says old new group) actions → AllTold (all_joined group actions)
  all_joined_told group [] says = tt
  all_joined_told group (this ∷ actions) says =
      subst AllTold (sym (first_joined group this actions)) (all_append (IsCarried old new) (joined_of group this) (all_joined group actions) (joined_told group this says.0) (all_joined_told group actions says.1))

  all_pruned_told : (group : List ℕ) (actions : List Action) → AllByRecursion (Says old new group) actions → AllTold (all_pruned group actions)
  all_pruned_told group [] says = tt
  all_pruned_told group (this ∷ actions) says =
      subst AllTold (sym (first_pruned group this actions)) (all_append (IsCarried old new) (pruned_of group this) (all_pruned group actions) (pruned_told group this says.0) (all_pruned_told group actions says.1))

  -- ---- exceptions follow their star

  abbrev pub length_in : List ℕ → List ℕ → List Event → Bool
  length_in group source events = has_unit_of port (rpt_at port group source) events

  pub excepted_named : (group source : List ℕ) (exceptions : List (List ℕ)) → is_listed source exceptions ≡ true → length_in group source (list_events rps false group (excepted_entries exceptions)) ≡ true
  excepted_named group source [] l = absurd (false≢true l)
  excepted_named group source (x ∷ xs) l =
      elim (same_address source x) as (λ b. same_address source x ≡ b → (b || is_listed source xs) ≡ true → (same_key (rpt_at port group x) (rpt_at port group source) || length_in group source (list_events rps false group (excepted_entries xs))) ≡ true) [
        | true ↦ λ s f.
            let same : source ≡ x = same_text source x (sym s) in
            or_left (same_key (rpt_at port group x) (rpt_at port group source)) (length_in group source (list_events rps false group (excepted_entries xs)))
            ((keys (rpt_at port group x) (rpt_at port group source)).1.1 (ap (rpt_at port group) (sym same)))
        | false ↦ λ s f. or_second (same_key (rpt_at port group x) (rpt_at port group source)) (length_in group source (list_events rps false group (excepted_entries xs))) (excepted_named group source xs f)
      ] refl l

  -- what a new star excepts is named by these events
  abbrev Covers : List ℕ → List Event → Action → Type 0
  Covers group events (star_joined exceptions) = (source : List ℕ) → is_listed source exceptions ≡ true → length_in group source events ≡ true
  Covers group events star_pruned = Unit {0}
  Covers group events (of_source kind source) = Unit {0}

  named_left : (key : Key (List ℕ)) (one other : List Event) → has_unit_of port key one ≡ true → has_unit_of port key (one ++ other) ≡ true
  named_left key one other n = list_any-append (λ e. same_key (key_of port e) key) one other ∙ or_left (has_unit_of port key one) (has_unit_of port key other) n

  named_right : (key : Key (List ℕ)) (one other : List Event) → has_unit_of port key other ≡ true → has_unit_of port key (one ++ other) ≡ true
  named_right key one other n = list_any-append (λ e. same_key (key_of port e) key) one other ∙ or_second (has_unit_of port key one) (has_unit_of port key other) n

  covers_own : (group : List ℕ) (this : Action) (others : List Event) → Covers group (pruned_of group this ++ others) this
  covers_own group (star_joined exceptions) others = λ source l. named_left (rpt_at port group source) (pruned_of group (star_joined exceptions)) others (excepted_named group source exceptions l)
  covers_own group star_pruned others = tt
  covers_own group (of_source kind source) others = tt

  covers_more : (group : List ℕ) (front events : List Event) (actions : List Action) → AllByRecursion (Covers group events) actions → AllByRecursion (Covers group (front ++ events)) actions
  covers_more group front events [] all = tt
  covers_more group front events (this ∷ actions) all = (one this all.0, covers_more group front events actions all.1)
    where
      one : (this : Action) → Covers group events this → Covers group (front ++ events) this
      one (star_joined exceptions) c = λ source l. named_right (rpt_at port group source) front events (c source l)
      one star_pruned c = tt
      one (of_source kind source) c = tt

  covered : (group : List ℕ) (actions : List Action) → AllByRecursion (Covers group (all_pruned group actions)) actions
  covered group [] = tt
  covered group (this ∷ actions) =
      subst (λ (events : List Event). AllByRecursion (Covers group events) (this ∷ actions)) (sym (first_pruned group this actions))
      (covers_own group this (all_pruned group actions), covers_more group (pruned_of group this) (all_pruned group actions) actions (covered group actions))

  Follow : List Event → Type 0
  Follow [] = Unit {0}
  Follow (this ∷ events) = ExceptionsFollow port new this events × Follow events

  -- an event that is no Join(*,G) leads nothing
  abbrev LeadsNothing : Event → Type 0
  LeadsNothing this = is_star_join this ≡ false

  follow_quiet : (front events : List Event) → AllByRecursion LeadsNothing front → Follow events → Follow (front ++ events)
  unfolding Follow
  follow_quiet [] events quiet f = f
  follow_quiet (this ∷ front) events quiet f = (λ source s l. absurd (false≢true (sym quiet.0 ∙ s)), follow_quiet front events quiet.1 f)

  excepted_quiet : (group : List ℕ) (exceptions : List (List ℕ)) → AllByRecursion LeadsNothing (list_events rps false group (excepted_entries exceptions))
  excepted_quiet group [] = tt
  excepted_quiet group (x ∷ xs) = (refl, excepted_quiet group xs)

  pruned_quiet : (group : List ℕ) (this : Action) → AllByRecursion LeadsNothing (pruned_of group this)
  pruned_quiet group (star_joined exceptions) = excepted_quiet group exceptions
  pruned_quiet group star_pruned = by (rps group)
    where
      by : (known : Option (List ℕ)) → AllByRecursion LeadsNothing (list_events rps false group (rp_entry known))
      by None = tt
      by (Some rp) = (refl, tt)
  pruned_quiet group (of_source JoinRpt source) = tt
  pruned_quiet group (of_source PruneRpt source) = (refl, tt)
  pruned_quiet group (of_source JoinSource source) = tt
  pruned_quiet group (of_source PruneSource source) = (refl, tt)

  all_pruned_quiet : (group : List ℕ) (actions : List Action) → AllByRecursion LeadsNothing (all_pruned group actions)
  all_pruned_quiet group [] = tt
  all_pruned_quiet group (this ∷ actions) =
      subst (AllByRecursion LeadsNothing) (sym (first_pruned group this actions)) (all_append LeadsNothing (pruned_of group this) (all_pruned group actions) (pruned_quiet group this) (all_pruned_quiet group actions))

  -- a telling's joined entries in front of events that name what its star excepts
  follow_star : (group : List ℕ) (exceptions : List (List ℕ)) (known : Option (List ℕ)) (events : List Event) → Says old new group (star_joined exceptions)
      → ((source : List ℕ) → is_listed source exceptions ≡ true → length_in group source events ≡ true) → Follow events → Follow (list_events rps true group (rp_entry known) ++ events)
  unfolding Follow
  follow_star group exceptions None events says has_unit f = f
  follow_star group exceptions (Some rp) events says has_unit f =
      elim (is_known (rps group) rp) as (λ b. Follow ((cond (true && not b) [] (event true group Star) ++ []) ++ events)) [
        | true ↦ (λ source s l. has_unit source (ap (λ o. is_listed source (exceptions_of o)) (sym says.1) ∙ l), f)
        | false ↦ f
      ]

  follow_joined : (group : List ℕ) (this : Action) (events : List Event) → Says old new group this → Covers group events this → Follow events → Follow (joined_of group this ++ events)
  unfolding Follow
  follow_joined group (star_joined exceptions) events says covers f = follow_star group exceptions (rps group) events says covers f
  follow_joined group star_pruned events says covers f = f
  follow_joined group (of_source JoinRpt source) events says covers f = (λ other s l. absurd (false≢true s), f)
  follow_joined group (of_source PruneRpt source) events says covers f = f
  follow_joined group (of_source JoinSource source) events says covers f = (λ other s l. absurd (false≢true s), f)
  follow_joined group (of_source PruneSource source) events says covers f = f

  covers_behind : (group : List ℕ) (front events : List Event) (this : Action) → Covers group events this → Covers group (front ++ events) this
  covers_behind group front events (star_joined exceptions) c = λ source l. named_right (rpt_at port group source) front events (c source l)
  covers_behind group front events star_pruned c = tt
  covers_behind group front events (of_source kind source) c = tt

  follow_all_joined : (group : List ℕ) (actions : List Action) (events : List Event) → AllByRecursion (Says old new group) actions → AllByRecursion (Covers group events) actions → Follow events → Follow (all_joined group actions ++ events)
  follow_all_joined group [] events says covers f = f
  follow_all_joined group (this ∷ actions) events says covers f =
      subst Follow (sym (ap (λ l. l ++ events) (first_joined group this actions) ∙ append_assoc (joined_of group this) (all_joined group actions) events))
      (follow_joined group this (all_joined group actions ++ events) says.0 (covers_behind group (all_joined group actions) events this covers.0) (follow_all_joined group actions events says.1 covers.1 f))

  covers_front : (group : List ℕ) (events others : List Event) (actions : List Action) → AllByRecursion (Covers group events) actions → AllByRecursion (Covers group (events ++ others)) actions
  covers_front group events others [] all = tt
  covers_front group events others (this ∷ actions) all = (one this all.0, covers_front group events others actions all.1)
    where
      one : (this : Action) → Covers group events this → Covers group (events ++ others) this
      one (star_joined exceptions) c = λ source l. named_left (rpt_at port group source) events others (c source l)
      one star_pruned c = tt
      one (of_source kind source) c = tt

  -- ---- sets

  abbrev SetSays : GroupActions → Type 0
  SetSays this = AllByRecursion (Says old new this.group) this.actions

  abbrev pub events_of_sets : List GroupActions → List Event
  events_of_sets sets = flat_map (set_events rps) (map (written_set rps) sets)

  sets_told : (sets : List GroupActions) → AllByRecursion SetSays sets → AllTold (events_of_sets sets)
  sets_told [] says = tt
  sets_told (this ∷ sets) says =
      all_append (IsCarried old new) (all_joined this.group this.actions ++ all_pruned this.group this.actions) (events_of_sets sets)
      (all_append (IsCarried old new) (all_joined this.group this.actions) (all_pruned this.group this.actions) (all_joined_told this.group this.actions says.0) (all_pruned_told this.group this.actions says.0))
      (sets_told sets says.1)

  sets_follow : (sets : List GroupActions) → AllByRecursion SetSays sets → Follow (events_of_sets sets)
  unfolding Follow
  sets_follow [] says = tt
  sets_follow (this ∷ sets) says =
      let rest = follow_quiet (all_pruned this.group this.actions) (events_of_sets sets) (all_pruned_quiet this.group this.actions) (sets_follow sets says.1) in
      subst Follow (sym (append_assoc (all_joined this.group this.actions) (all_pruned this.group this.actions) (events_of_sets sets)))
      (follow_all_joined this.group this.actions (all_pruned this.group this.actions ++ events_of_sets sets) says.0
      (covers_front this.group (all_pruned this.group this.actions) (events_of_sets sets) this.actions (covered this.group this.actions)) rest)

  front_says : (this : ChangeUnit) (sets : List GroupActions) → UnitSays old new this → AllByRecursion SetSays sets → AllByRecursion SetSays (in_front this sets)
  front_says this [] says others = ((says, tt), tt)
  front_says this (first ∷ sets) says others =
      elim (same_address this.group first.group) as (λ b. same_address this.group first.group ≡ b → AllByRecursion SetSays (set_in_front b this first sets)) [
        | true ↦ λ s. ((says, subst (λ (g : List ℕ). AllByRecursion (Says old new g) first.actions) (sym (same_text this.group first.group (sym s))) others.0), others.1)
        | false ↦ λ s. ((says, tt), others)
      ] refl

  grouped_say : (run : List ChangeUnit) → AllByRecursion (UnitSays old new) run → AllByRecursion SetSays (grouped run)
  unfolding grouped
  grouped_say [] says = tt
  grouped_say (this ∷ run) says = front_says this (grouped run) says.0 (grouped_say run says.1)

  both : (events : List Event) → AllTold events → Follow events → CarriesOnly port old new events
  unfolding Follow CarriesOnly
  both [] all f = tt
  both (this ∷ events) all f = (all.0, f.0, both events all.1 f.1)

  pub run_tells_only : (run : List ChangeUnit) → AllByRecursion (UnitSays old new) run → CarriesOnly port old new (run_events rps run)
  run_tells_only run says = let sets = grouped_say run says in both (run_events rps run) (sets_told (grouped run) sets) (sets_follow (grouped run) sets)
