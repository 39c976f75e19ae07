-- The message of a run can be spelled: its groups are groups, its sources and RPs valid sources, its lists short, and no set
-- has two stars or a source both joined and pruned.
use Rattle.pim_change.proofs.Words.{◌≡◌, ℕ, Bool, true, false, cond, not, ◌||◌, List, [], ◌∷◌, ◌++◌, map, Option, None, Some}
use Rattle.pim_change.proofs.Words.{refl, sym, ap, subst, ◌∙◌, arith, AllByRecursion, filter, flat_map, list_any, false≢true}
use Rattle.pim_change.proofs.Words.{AddressFamily, Entry, Star, Source, Rpt, same_source, IsMessageEntry, IsMessageSet, IsMessage}
use Rattle.pim_change.proofs.Words.{GroupForm, same_address, is_listed, AreExceptions, IsNormalGroup, IsNormal, groups_of}
use Rattle.pim_change.proofs.Words.{exceptions_of, Writing, IsWriting, IsRp, IsRpOf, HaveRps, fits, group_in, JoinRpt, PruneRpt}
use Rattle.pim_change.proofs.Words.{JoinSource, PruneSource, Action, star_joined, star_pruned, of_source, lacking, star_change}
use Rattle.pim_change.proofs.Words.{sources_change, group_change, ChangeUnit, unit_of, in_order, change_at, change, weights}
use Rattle.pim_change.proofs.Words.{rp_entry, excepted_entries, joined_entries, pruned_entries, GroupActions, set_in_front}
use Rattle.pim_change.proofs.Words.{in_front, grouped, written_set, written_message, IsShort}
use Rattle.pim_addr.specs.Address.{IsGroupAddress, IsSourceAddress}
use Rattle.pim_change.proofs.Addresses.{same_itself, same_is}
use Rattle.pim_change.proofs.Sorted.{either_all}
use Rattle.pim_change.proofs.OneStar.{HasOneStar, HasFewStars, one_star_a_set}
use Rattle.pim_change.proofs.RunSizes.{sets_short, few_sets}

-- ---- lists

all_append : {A : Type 0} (P : A → Type 0) (xs ys : List A) → AllByRecursion P xs → AllByRecursion P ys → AllByRecursion P (xs ++ ys)
all_append P [] ys one other = other
all_append P (x ∷ xs) ys one other = (one.0, all_append P xs ys one.1 other)

pub all_split : {A : Type 0} (P : A → Type 0) (xs ys : List A) → AllByRecursion P (xs ++ ys) → AllByRecursion P xs × AllByRecursion P ys
all_split P [] ys all = (tt, all)
all_split P (x ∷ xs) ys all = let rest = all_split P xs ys all.1 in ((all.0, rest.0), rest.1)

all_map : {A B : Type 0} (P : B → Type 0) (f : A → B) (xs : List A) → AllByRecursion (λ x. P (f x)) xs → AllByRecursion P (map f xs)
all_map P f [] all = tt
all_map P f (x ∷ xs) all = (all.0, all_map P f xs all.1)

all_flat : {A B : Type 0} (P : B → Type 0) (Q : A → Type 0) (f : A → List B) (xs : List A) → ((x : A) → Q x → AllByRecursion P (f x)) → AllByRecursion Q xs → AllByRecursion P (flat_map f xs)
all_flat P Q f [] each all = tt
all_flat P Q f (x ∷ xs) each all = all_append P (f x) (flat_map f xs) (each x all.0) (all_flat P Q f xs each all.1)

or_right : (a b : Bool) → b ≡ true → (a || b) ≡ true
or_right true b e = refl
or_right false b e = e

-- what is lacking is listed in the one and not in the other
lacking_of : (P : List ℕ → Type 0) (one other xs : List (List ℕ)) → AllByRecursion P xs → ((s : List ℕ) → is_listed s xs ≡ true → is_listed s one ≡ true)
    → AllByRecursion (λ s. P s × (is_listed s one ≡ true) × (is_listed s other ≡ false)) (filter (λ address. not (is_listed address other)) xs)
lacking_of P one other [] all are = tt
lacking_of P one other (x ∷ xs) all are =
    let rest = lacking_of P one other xs all.1 (λ s l. are s (or_right (same_address s x) (is_listed s xs) l)) in
    let here : is_listed x one ≡ true = are x (ap (λ b. b || is_listed x xs) (same_itself x)) in
    elim (is_listed x other) as (λ b. is_listed x other ≡ b → AllByRecursion (λ s. P s × (is_listed s one ≡ true) × (is_listed s other ≡ false)) (cond (not b) (x ∷ filter (λ address. not (is_listed address other)) xs) (filter (λ address. not (is_listed address other)) xs))) [
      | true ↦ λ l. rest
      | false ↦ λ l. ((all.0, here, l), rest)
    ] refl

weaker : {A : Type 0} (P Q : A → Type 0) (xs : List A) → ((x : A) → P x → Q x) → AllByRecursion P xs → AllByRecursion Q xs
weaker P Q [] each all = tt
weaker P Q (x ∷ xs) each all = (each x all.0, weaker P Q xs each all.1)

module _ (family : AddressFamily) (rps : List ℕ → Option (List ℕ)) where
  abbrev Valid : List ℕ → Type 0
  Valid source = IsSourceAddress family source

  -- ---- a group of a form

  record IsFine (rp : Option (List ℕ)) (form : GroupForm) : Type 0 where
    exceptions : AllByRecursion Valid (exceptions_of form.star)
    sources : AllByRecursion Valid form.sources
    star : IsRpOf family rp form.star

  excepted_fine : (star : Option (List (List ℕ))) → AreExceptions family star → AllByRecursion Valid (exceptions_of star)
  excepted_fine None are = tt
  excepted_fine (Some exceptions) are = are.1

  group_fine : (group : List ℕ) (form : List GroupForm) → AllByRecursion (IsNormalGroup family) form → HaveRps family rps form → IsFine (rps group) (group_in group form)
  unfolding group_in
  group_fine group [] normal have = record { exceptions = tt; sources = tt; star = tt }
  group_fine group (this ∷ form) normal have =
      elim (same_address group this.group) as (λ b. same_address group this.group ≡ b → IsFine (rps group) (cond b this (group_in group form))) [
        | true ↦ λ s.
            record {
              exceptions = excepted_fine this.star normal.0.exceptions;
              sources = normal.0.sources;
              star = subst (λ (g : List ℕ). IsRpOf family (rps g) this.star) (sym (same_is group this.group s)) have.0;
            }
        | false ↦ λ s. group_fine group form normal.1 have.1
      ] refl

  groups_fine : (form : List GroupForm) → AllByRecursion (IsNormalGroup family) form → AllByRecursion (IsGroupAddress family) (groups_of form)
  groups_fine [] normal = tt
  groups_fine (this ∷ form) normal = (normal.0.group, groups_fine form normal.1)

  -- ---- a telling, under the form that is wanted

  abbrev IsFair : Option (List ℕ) → GroupForm → Action → Type 0
  IsFair rp wanted (star_joined exceptions) = IsRp family rp × AllByRecursion Valid exceptions × (wanted.star ≡ Some exceptions)
  IsFair rp wanted star_pruned = IsRp family rp
  IsFair rp wanted (of_source JoinRpt source) = Valid source × (is_listed source (exceptions_of wanted.star) ≡ false)
  IsFair rp wanted (of_source PruneRpt source) = Valid source × (is_listed source (exceptions_of wanted.star) ≡ true)
  IsFair rp wanted (of_source JoinSource source) = Valid source × (is_listed source wanted.sources ≡ true)
  IsFair rp wanted (of_source PruneSource source) = Valid source × (is_listed source wanted.sources ≡ false)

  star_fair : (rp : Option (List ℕ)) (wanted : GroupForm) (before now : Option (List (List ℕ))) → IsRpOf family rp before → IsRpOf family rp now → AllByRecursion Valid (exceptions_of before) → AllByRecursion Valid (exceptions_of now)
      → wanted.star ≡ now → AllByRecursion (IsFair rp wanted) (star_change before now)
  star_fair rp wanted None None b n bs ns w = tt
  star_fair rp wanted None (Some exceptions) b n bs ns w = ((n, ns, w), tt)
  star_fair rp wanted (Some excepted) None b n bs ns w = (b, tt)
  star_fair rp wanted (Some excepted) (Some exceptions) b n bs ns w =
      all_append (IsFair rp wanted) (map (of_source JoinRpt) (lacking excepted exceptions)) (map (of_source PruneRpt) (lacking exceptions excepted))
      (all_map (IsFair rp wanted) (of_source JoinRpt) (lacking excepted exceptions)
      (weaker (λ s. Valid s × (is_listed s excepted ≡ true) × (is_listed s exceptions ≡ false)) (λ s. IsFair rp wanted (of_source JoinRpt s)) (lacking excepted exceptions)
      (λ s is. (is.0, ap (λ o. is_listed s (exceptions_of o)) w ∙ is.2)) (lacking_of Valid excepted exceptions excepted bs (λ s l. l))))
      (all_map (IsFair rp wanted) (of_source PruneRpt) (lacking exceptions excepted)
      (weaker (λ s. Valid s × (is_listed s exceptions ≡ true) × (is_listed s excepted ≡ false)) (λ s. IsFair rp wanted (of_source PruneRpt s)) (lacking exceptions excepted)
      (λ s is. (is.0, ap (λ o. is_listed s (exceptions_of o)) w ∙ is.1)) (lacking_of Valid exceptions excepted exceptions ns (λ s l. l))))

  sources_fair : (rp : Option (List ℕ)) (wanted : GroupForm) (before : List (List ℕ)) → AllByRecursion Valid before → AllByRecursion Valid wanted.sources → AllByRecursion (IsFair rp wanted) (sources_change before wanted.sources)
  sources_fair rp wanted before bs ns =
      all_append (IsFair rp wanted) (map (of_source JoinSource) (lacking wanted.sources before)) (map (of_source PruneSource) (lacking before wanted.sources))
      (all_map (IsFair rp wanted) (of_source JoinSource) (lacking wanted.sources before)
      (weaker (λ s. Valid s × (is_listed s wanted.sources ≡ true) × (is_listed s before ≡ false)) (λ s. IsFair rp wanted (of_source JoinSource s)) (lacking wanted.sources before)
      (λ s is. (is.0, is.1)) (lacking_of Valid wanted.sources before wanted.sources ns (λ s l. l))))
      (all_map (IsFair rp wanted) (of_source PruneSource) (lacking before wanted.sources)
      (weaker (λ s. Valid s × (is_listed s before ≡ true) × (is_listed s wanted.sources ≡ false)) (λ s. IsFair rp wanted (of_source PruneSource s)) (lacking before wanted.sources)
      (λ s is. (is.0, is.2)) (lacking_of Valid before wanted.sources before bs (λ s l. l))))

  -- ---- a change

  module _ (old new : List GroupForm) where
    abbrev IsFairIn : List ℕ → Action → Type 0
    IsFairIn group this = IsFair (rps group) (group_in group new) this

    abbrev pub IsFairUnit : ChangeUnit → Type 0
    IsFairUnit this = IsGroupAddress family this.group × IsFairIn this.group this.action

    at_fair : (group : List ℕ) → IsGroupAddress family group → IsFine (rps group) (group_in group old) → IsFine (rps group) (group_in group new) → AllByRecursion IsFairUnit (change_at old new group)
    at_fair group is before wanted =
        all_map IsFairUnit (unit_of group) (group_change (group_in group old) (group_in group new))
        (weaker (IsFairIn group) (λ t. IsGroupAddress family group × IsFairIn group t) (group_change (group_in group old) (group_in group new)) (λ t f. (is, f))
        (all_append (IsFairIn group) (star_change (group_in group old).star (group_in group new).star) (sources_change (group_in group old).sources (group_in group new).sources)
        (star_fair (rps group) (group_in group new) (group_in group old).star (group_in group new).star before.star wanted.star before.exceptions wanted.exceptions refl)
        (sources_fair (rps group) (group_in group new) (group_in group old).sources before.sources wanted.sources)))

    pub change_fair : IsNormal family old → IsNormal family new → HaveRps family rps old → HaveRps family rps new → AllByRecursion IsFairUnit (change old new)
    unfolding change
    change_fair normal_old normal_new have_old have_new =
        all_flat IsFairUnit (IsGroupAddress family) (change_at old new) (in_order (groups_of old ++ groups_of new))
        (λ group is. at_fair group is (group_fine group old normal_old.groups have_old) (group_fine group new normal_new.groups have_new))
        (either_all (IsGroupAddress family) (groups_of old) (groups_of new) (groups_fine old normal_old.groups) (groups_fine new normal_new.groups))

    -- ---- the sets of a run

    record IsFairSet (set : GroupActions) : Type 0 where
      group : IsGroupAddress family set.group
      actions : AllByRecursion (IsFairIn set.group) set.actions

    front_fair : (this : ChangeUnit) (sets : List GroupActions) → IsFairUnit this → AllByRecursion IsFairSet sets → AllByRecursion IsFairSet (in_front this sets)
    front_fair this [] fair all = (record { group = fair.0; actions = (fair.1, tt) }, tt)
    front_fair this (first ∷ sets) fair all =
        elim (same_address this.group first.group) as (λ b. same_address this.group first.group ≡ b → AllByRecursion IsFairSet (set_in_front b this first sets)) [
          | true ↦ λ s.
              (record { group = fair.0; actions = (fair.1, subst (λ (g : List ℕ). AllByRecursion (IsFairIn g) first.actions) (sym (same_is this.group first.group s)) all.0.actions) }, all.1)
          | false ↦ λ s. (record { group = fair.0; actions = (fair.1, tt) }, all)
        ] refl

    grouped_fair : (run : List ChangeUnit) → AllByRecursion IsFairUnit run → AllByRecursion IsFairSet (grouped run)
    unfolding grouped
    grouped_fair [] fair = tt
    grouped_fair (this ∷ run) fair = front_fair this (grouped run) fair.0 (grouped_fair run fair.1)

  -- ---- the entries of a set

  rp_valid : (rp : Option (List ℕ)) → IsRp family rp → AllByRecursion (IsMessageEntry family) (rp_entry rp)
  rp_valid None is = tt
  rp_valid (Some address) is = (is, tt)

  rpts_valid : (xs : List (List ℕ)) → AllByRecursion Valid xs → AllByRecursion (IsMessageEntry family) (excepted_entries xs)
  rpts_valid [] all = tt
  rpts_valid (x ∷ xs) all = (all.0, rpts_valid xs all.1)

  joined_valid : (rp : Option (List ℕ)) (wanted : GroupForm) (this : Action) → IsFair rp wanted this → AllByRecursion (IsMessageEntry family) (joined_entries rp this)
  joined_valid rp wanted (star_joined exceptions) fair = rp_valid rp fair.0
  joined_valid rp wanted star_pruned fair = tt
  joined_valid rp wanted (of_source JoinRpt source) fair = (fair.0, tt)
  joined_valid rp wanted (of_source PruneRpt source) fair = tt
  joined_valid rp wanted (of_source JoinSource source) fair = (fair.0, tt)
  joined_valid rp wanted (of_source PruneSource source) fair = tt

  pruned_valid : (rp : Option (List ℕ)) (wanted : GroupForm) (this : Action) → IsFair rp wanted this → AllByRecursion (IsMessageEntry family) (pruned_entries rp this)
  pruned_valid rp wanted (star_joined exceptions) fair = rpts_valid exceptions fair.1
  pruned_valid rp wanted star_pruned fair = rp_valid rp fair
  pruned_valid rp wanted (of_source JoinRpt source) fair = tt
  pruned_valid rp wanted (of_source PruneRpt source) fair = (fair.0, tt)
  pruned_valid rp wanted (of_source JoinSource source) fair = tt
  pruned_valid rp wanted (of_source PruneSource source) fair = (fair.0, tt)

  -- a joined entry is wanted, a pruned one isn't
  abbrev IsJoined : GroupForm → Entry (List ℕ) → Type 0
  IsJoined wanted (Star rp) = Unit {0}
  IsJoined wanted (Source source) = is_listed source wanted.sources ≡ true
  IsJoined wanted (Rpt source) = is_listed source (exceptions_of wanted.star) ≡ false

  abbrev IsPruned : GroupForm → Entry (List ℕ) → Type 0
  IsPruned wanted (Star rp) = Unit {0}
  IsPruned wanted (Source source) = is_listed source wanted.sources ≡ false
  IsPruned wanted (Rpt source) = is_listed source (exceptions_of wanted.star) ≡ true

  rp_joined : (wanted : GroupForm) (rp : Option (List ℕ)) → AllByRecursion (IsJoined wanted) (rp_entry rp)
  rp_joined wanted None = tt
  rp_joined wanted (Some address) = (tt, tt)

  rp_pruned : (wanted : GroupForm) (rp : Option (List ℕ)) → AllByRecursion (IsPruned wanted) (rp_entry rp)
  rp_pruned wanted None = tt
  rp_pruned wanted (Some address) = (tt, tt)

  rpts_pruned : (wanted : GroupForm) (exceptions xs : List (List ℕ)) → wanted.star ≡ Some exceptions → ((s : List ℕ) → is_listed s xs ≡ true → is_listed s exceptions ≡ true) → AllByRecursion (IsPruned wanted) (excepted_entries xs)
  rpts_pruned wanted exceptions [] w are = tt
  rpts_pruned wanted exceptions (x ∷ xs) w are = (
    ap (λ o. is_listed x (exceptions_of o)) w ∙ are x (ap (λ b. b || is_listed x xs) (same_itself x)),
    rpts_pruned wanted exceptions xs w (λ s l. are s (or_right (same_address s x) (is_listed s xs) l)),
  )

  joined_wanted : (rp : Option (List ℕ)) (wanted : GroupForm) (this : Action) → IsFair rp wanted this → AllByRecursion (IsJoined wanted) (joined_entries rp this)
  joined_wanted rp wanted (star_joined exceptions) fair = rp_joined wanted rp
  joined_wanted rp wanted star_pruned fair = tt
  joined_wanted rp wanted (of_source JoinRpt source) fair = (fair.1, tt)
  joined_wanted rp wanted (of_source PruneRpt source) fair = tt
  joined_wanted rp wanted (of_source JoinSource source) fair = (fair.1, tt)
  joined_wanted rp wanted (of_source PruneSource source) fair = tt

  pruned_wanted : (rp : Option (List ℕ)) (wanted : GroupForm) (this : Action) → IsFair rp wanted this → AllByRecursion (IsPruned wanted) (pruned_entries rp this)
  pruned_wanted rp wanted (star_joined exceptions) fair = rpts_pruned wanted exceptions exceptions fair.2 (λ s l. l)
  pruned_wanted rp wanted star_pruned fair = rp_pruned wanted rp
  pruned_wanted rp wanted (of_source JoinRpt source) fair = tt
  pruned_wanted rp wanted (of_source PruneRpt source) fair = (fair.1, tt)
  pruned_wanted rp wanted (of_source JoinSource source) fair = tt
  pruned_wanted rp wanted (of_source PruneSource source) fair = (fair.1, tt)

  apart_one : (wanted : GroupForm) (pruned joined : Entry (List ℕ)) → IsPruned wanted pruned → IsJoined wanted joined → same_source pruned joined ≡ false
  apart_one wanted (Star rp) joined p j = refl
  apart_one wanted (Source s) (Star rp) p j = refl
  apart_one wanted (Source s) (Rpt t) p j = refl
  apart_one wanted (Source s) (Source t) p j = by (same_address s t) refl
    where
      by : (b : Bool) → same_address s t ≡ b → b ≡ false
      by false e = refl
      by true e = absurd (false≢true (sym p ∙ ap (λ a. is_listed a wanted.sources) (same_is s t e) ∙ j))
  apart_one wanted (Rpt s) (Star rp) p j = refl
  apart_one wanted (Rpt s) (Source t) p j = refl
  apart_one wanted (Rpt s) (Rpt t) p j = by (same_address s t) refl
    where
      by : (b : Bool) → same_address s t ≡ b → b ≡ false
      by false e = refl
      by true e = absurd (false≢true (sym j ∙ ap (λ a. is_listed a (exceptions_of wanted.star)) (sym (same_is s t e)) ∙ p))

  apart_all : (wanted : GroupForm) (pruned : Entry (List ℕ)) (joined : List (Entry (List ℕ))) → IsPruned wanted pruned → AllByRecursion (IsJoined wanted) joined → list_any (same_source pruned) joined ≡ false
  apart_all wanted pruned [] p all = refl
  apart_all wanted pruned (j ∷ joined) p all = ap (λ b. b || list_any (same_source pruned) joined) (apart_one wanted pruned j p all.0) ∙ apart_all wanted pruned joined p all.1

  apart_lists : (wanted : GroupForm) (pruned joined : List (Entry (List ℕ))) → AllByRecursion (IsPruned wanted) pruned → AllByRecursion (IsJoined wanted) joined → list_any (λ entry. list_any (same_source entry) joined) pruned ≡ false
  apart_lists wanted [] joined ps js = refl
  apart_lists wanted (p ∷ pruned) joined ps js = ap (λ b. b || list_any (λ entry. list_any (same_source entry) joined) pruned) (apart_all wanted p joined ps.0 js) ∙ apart_lists wanted pruned joined ps.1 js

  -- ---- a message

  module _ (old new : List GroupForm) where
    set_spelled : (set : GroupActions) → IsFairSet old new set → HasFewStars rps set → IsShort (written_set rps set) → IsMessageSet family (written_set rps set)
    set_spelled set fair few short =
        let rp = rps set.group in
        let wanted = group_in set.group new in (
          fair.group.0,
          fair.group.1,
          (
            few,
            apart_lists wanted (written_set rps set).pruned (written_set rps set).joined (all_flat (IsPruned wanted) (IsFair rp wanted) (pruned_entries rp) set.actions (pruned_wanted rp wanted) fair.actions)
                (all_flat (IsJoined wanted) (IsFair rp wanted) (joined_entries rp) set.actions (joined_wanted rp wanted) fair.actions),
          ),
          short.0,
          all_flat (IsMessageEntry family) (IsFair rp wanted) (joined_entries rp) set.actions (joined_valid rp wanted) fair.actions,
          short.1,
          all_flat (IsMessageEntry family) (IsFair rp wanted) (pruned_entries rp) set.actions (pruned_valid rp wanted) fair.actions,
        )

    sets_spelled : (sets : List GroupActions) → AllByRecursion (IsFairSet old new) sets → AllByRecursion (HasFewStars rps) sets → AllByRecursion IsShort (map (written_set rps) sets) → AllByRecursion (IsMessageSet family) (map (written_set rps) sets)
    sets_spelled [] fair few short = tt
    sets_spelled (set ∷ sets) fair few short = (set_spelled set fair.0 few.0 short.0, sets_spelled sets fair.1 few.1 short.1)

    pub run_spelled : (writing : Writing) (run : List ChangeUnit) → IsWriting family writing → AllByRecursion (IsFairUnit old new) run → HasOneStar run → fits family writing.budget (weights run) ≡ true
        → IsMessage family (written_message writing rps run)
    run_spelled writing run is fair one fitting =
        let most = few_sets family writing.budget rps run is.most fitting in (
          is.upstream.0,
          is.short,
          omega (arith, most),
          sets_spelled (grouped run) (grouped_fair old new run fair) (one_star_a_set rps run one) (sets_short family writing.budget rps run is.most fitting),
        )
