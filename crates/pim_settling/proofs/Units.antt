-- What the units of a change say is told.
use Rattle.pim_settling.proofs.Words.{◌≡◌, ℕ, zero, suc, Bool, true, false, cond, not, ◌||◌, List, [], ◌∷◌, ◌++◌, map, Option}
use Rattle.pim_settling.proofs.Words.{None, Some, refl, sym, ap, subst, ◌∙◌, AllByRecursion, filter, flat_map, is_some}
use Rattle.pim_settling.proofs.Words.{lists_equiv, nat_eq_equiv, What, Star, Source, Rpt, GroupForm, same_address, is_listed}
use Rattle.pim_settling.proofs.Words.{groups_of, group_in, JoinRpt, PruneRpt, JoinSource, PruneSource, Action, star_joined}
use Rattle.pim_settling.proofs.Words.{star_pruned, of_source, lacking, star_change, sources_change, group_change, ChangeUnit}
use Rattle.pim_settling.proofs.Words.{unit_of, in_order, change_at, change, run_at, carried_if, rpt_carried, carried_of}

-- ---- lists

pub all_append : {A : Type 0} (P : A → Type 0) (xs ys : List A) → AllByRecursion P xs → AllByRecursion P ys → AllByRecursion P (xs ++ ys)
all_append P [] ys one other = other
all_append P (x ∷ xs) ys one other = (one.0, all_append P xs ys one.1 other)

all_split : {A : Type 0} (P : A → Type 0) (xs ys : List A) → AllByRecursion P (xs ++ ys) → AllByRecursion P xs × AllByRecursion P ys
all_split P [] ys all = (tt, all)
all_split P (x ∷ xs) ys all = let rest = all_split P xs ys all.1 in ((all.0, rest.0), rest.1)

pub all_map : {A B : Type 0} (P : B → Type 0) (f : A → B) (xs : List A) → AllByRecursion (λ x. P (f x)) xs → AllByRecursion P (map f xs)
all_map P f [] all = tt
all_map P f (x ∷ xs) all = (all.0, all_map P f xs all.1)

pub all_flat : {A B : Type 0} (P : B → Type 0) (f : A → List B) (xs : List A) → ((x : A) → AllByRecursion P (f x)) → AllByRecursion P (flat_map f xs)
all_flat P f [] each = tt
all_flat P f (x ∷ xs) each = all_append P (f x) (flat_map f xs) (each x) (all_flat P f xs each)

pub itself : (address : List ℕ) → same_address address address ≡ true
itself address = (lists_equiv nat_eq_equiv).refl address

pub or_true : (b : Bool) → (b || true) ≡ true
or_true true = refl
or_true false = refl

-- ---- what is lacking

lacking_of : (P : List ℕ → Type 0) (one other xs : List (List ℕ)) → ((s : List ℕ) → is_listed s xs ≡ true → is_listed s one ≡ true)
    → ((s : List ℕ) → is_listed s one ≡ true → is_listed s other ≡ false → P s) → AllByRecursion P (filter (λ address. not (is_listed address other)) xs)
lacking_of P one other [] are each = tt
lacking_of P one other (x ∷ xs) are each =
    let rest = lacking_of P one other xs (λ s l. are s (ap (λ b. same_address s x || b) l ∙ or_true (same_address s x))) each in
    let here : is_listed x one ≡ true = are x (ap (λ b. b || is_listed x xs) (itself x)) in
    elim (is_listed x other) as (λ b. is_listed x other ≡ b → AllByRecursion P (cond (not b) (x ∷ filter (λ address. not (is_listed address other)) xs) (filter (λ address. not (is_listed address other)) xs))) [
      | true ↦ λ l. rest
      | false ↦ λ l. (each x here l, rest)
    ] refl

pub lacking_all : (P : List ℕ → Type 0) (one other : List (List ℕ)) → ((s : List ℕ) → is_listed s one ≡ true → is_listed s other ≡ false → P s) → AllByRecursion P (lacking one other)
lacking_all P one other each = lacking_of P one other one (λ s l. l) each

-- ---- a group

module _ (old new : List GroupForm) where
  abbrev pub told_here : List ℕ → What (List ℕ) → Option Bool
  told_here group what = carried_of (group_in group old) (group_in group new) what

  -- what the telling says is told, of the machine that it is about
  abbrev pub Says : List ℕ → Action → Type 0
  Says group (star_joined exceptions) = ((group_in group old).star ≡ None) × ((group_in group new).star ≡ Some exceptions)
  Says group star_pruned = told_here group Star ≡ Some false
  Says group (of_source JoinRpt source) = told_here group (Rpt source) ≡ Some true
  Says group (of_source PruneRpt source) = told_here group (Rpt source) ≡ Some false
  Says group (of_source JoinSource source) = told_here group (Source source) ≡ Some true
  Says group (of_source PruneSource source) = told_here group (Source source) ≡ Some false

  went : (source : List ℕ) (group : List ℕ) (excepted exceptions : List (List ℕ)) → (group_in group old).star ≡ Some excepted → (group_in group new).star ≡ Some exceptions → told_here group (Rpt source) ≡ carried_if (is_listed source exceptions) (is_listed source excepted)
  went source group excepted exceptions o n = ap (λ s. rpt_carried s (group_in group new).star source) o ∙ ap (λ s. rpt_carried (Some excepted) s source) n

  star_says : (group : List ℕ) (before wanted : Option (List (List ℕ))) → (group_in group old).star ≡ before → (group_in group new).star ≡ wanted → AllByRecursion (Says group) (star_change before wanted)
  star_says group None None o n = tt
  star_says group None (Some exceptions) o n = ((o, n), tt)
  star_says group (Some excepted) None o n = (ap (λ s. carried_if (is_some s) (is_some (group_in group new).star)) o ∙ ap (λ s. carried_if true (is_some s)) n, tt)
  star_says group (Some excepted) (Some exceptions) o n =
      all_append (Says group) (map (of_source JoinRpt) (lacking excepted exceptions)) (map (of_source PruneRpt) (lacking exceptions excepted))
      (all_map (Says group) (of_source JoinRpt) (lacking excepted exceptions)
      (lacking_all (λ s. Says group (of_source JoinRpt s)) excepted exceptions (λ s l m. went s group excepted exceptions o n ∙ ap (λ b. carried_if b (is_listed s excepted)) m ∙ ap (carried_if false) l)))
      (all_map (Says group) (of_source PruneRpt) (lacking exceptions excepted)
      (lacking_all (λ s. Says group (of_source PruneRpt s)) exceptions excepted (λ s l m. went s group excepted exceptions o n ∙ ap (λ b. carried_if b (is_listed s excepted)) l ∙ ap (carried_if true) m)))

  sources_say : (group : List ℕ) → AllByRecursion (Says group) (sources_change (group_in group old).sources (group_in group new).sources)
  sources_say group =
      let before = (group_in group old).sources in
      let wanted = (group_in group new).sources in
      all_append (Says group) (map (of_source JoinSource) (lacking wanted before)) (map (of_source PruneSource) (lacking before wanted))
      (all_map (Says group) (of_source JoinSource) (lacking wanted before)
      (lacking_all (λ s. Says group (of_source JoinSource s)) wanted before (λ s l m. ap (λ b. carried_if b (is_listed s wanted)) m ∙ ap (carried_if false) l)))
      (all_map (Says group) (of_source PruneSource) (lacking before wanted)
      (lacking_all (λ s. Says group (of_source PruneSource s)) before wanted (λ s l m. ap (λ b. carried_if b (is_listed s wanted)) l ∙ ap (carried_if true) m)))

  abbrev pub UnitSays : ChangeUnit → Type 0
  UnitSays this = Says this.group this.action

  group_says : (group : List ℕ) → AllByRecursion UnitSays (change_at old new group)
  group_says group =
      all_map UnitSays (unit_of group) (group_change (group_in group old) (group_in group new))
      (all_append (Says group) (star_change (group_in group old).star (group_in group new).star) (sources_change (group_in group old).sources (group_in group new).sources)
      (star_says group (group_in group old).star (group_in group new).star refl refl) (sources_say group))

  change_says : AllByRecursion UnitSays (change old new)
  unfolding change
  change_says = all_flat UnitSays (change_at old new) (in_order (groups_of old ++ groups_of new)) group_says

  run_says : (number : ℕ) (runs : List (List ChangeUnit)) → AllByRecursion UnitSays (flat_map (λ run. run) runs) → AllByRecursion UnitSays (run_at number runs)
  unfolding run_at
  run_says number [] all = tt
  run_says zero (run ∷ runs) all = (all_split UnitSays run (flat_map (λ r. r) runs) all).0
  run_says (suc number) (run ∷ runs) all = run_says number runs (all_split UnitSays run (flat_map (λ r. r) runs) all).1

  pub runs_say : (number : ℕ) (runs : List (List ChangeUnit)) → flat_map (λ run. run) runs ≡ change old new → AllByRecursion UnitSays (run_at number runs)
  runs_say number runs whole = run_says number runs (subst (AllByRecursion UnitSays) (sym whole) change_says)
