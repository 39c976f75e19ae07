-- A change tells at most one star of each group, and so does each set of its messages.
use Rattle.pim_change.proofs.Words.{◌≡◌, ℕ, ◌+◌, ◌≤◌, Bool, true, false, cond, ◌&&◌, List, [], ◌∷◌, ◌++◌, map, Option}
use Rattle.pim_change.proofs.Words.{None, Some, refl, sym, ap, subst, ◌∙◌, arith, AllByRecursion, flat_map, Entry}
use Rattle.pim_change.proofs.Words.{star_count, GroupForm, same_address, groups_of, group_in, ActionKind, JoinRpt}
use Rattle.pim_change.proofs.Words.{PruneRpt, JoinSource, PruneSource, Action, star_joined, star_pruned, of_source}
use Rattle.pim_change.proofs.Words.{lacking, star_change, sources_change, group_change, ChangeUnit, unit_of, in_order}
use Rattle.pim_change.proofs.Words.{change_at, change, rp_entry, excepted_entries, joined_entries, pruned_entries}
use Rattle.pim_change.proofs.Words.{GroupActions, actions_of, set_in_front, in_front, grouped, written_set}
use Rattle.pim_change.proofs.Addresses.{same_itself, same_is}
use Rattle.pim_change.proofs.Sorted.{in_order_sorted, one_if, count, count_append, count_flat, count_once}

unfoldable pub is_star : Action → Bool
is_star (star_joined exceptions) = true
is_star star_pruned = true
is_star (of_source kind source) = false

abbrev of_star : List ℕ → ChangeUnit → Bool
of_star group this = is_star this.action && same_address group this.group

-- ---- a change

no_stars : (kind : ActionKind) (sources : List (List ℕ)) → count is_star (map (of_source kind) sources) ≡ 0
unfolding count is_star
no_stars kind [] = refl
no_stars kind (x ∷ xs) = let rest = no_stars kind xs in omega (arith, rest)

star_once : (before wanted : Option (List (List ℕ))) → count is_star (star_change before wanted) ≤ 1
unfolding count is_star
star_once None None = omega arith
star_once None (Some exceptions) = omega arith
star_once (Some excepted) None = omega arith
star_once (Some excepted) (Some exceptions) =
    let both = count_append is_star (map (of_source JoinRpt) (lacking excepted exceptions)) (map (of_source PruneRpt) (lacking exceptions excepted)) in
    let one = no_stars JoinRpt (lacking excepted exceptions) in
    let other = no_stars PruneRpt (lacking exceptions excepted) in
    omega (arith, both, one, other)

group_once : (old new : GroupForm) → count is_star (group_change old new) ≤ 1
group_once old new =
    let both = count_append is_star (star_change old.star new.star) (sources_change old.sources new.sources) in
    let sources = count_append is_star (map (of_source JoinSource) (lacking new.sources old.sources)) (map (of_source PruneSource) (lacking old.sources new.sources)) in
    let one = no_stars JoinSource (lacking new.sources old.sources) in
    let other = no_stars PruneSource (lacking old.sources new.sources) in
    let star = star_once old.star new.star in
    omega (arith, both, sources, one, other, star)

and_false : (a : Bool) → (a && false) ≡ false
and_false true = refl
and_false false = refl

and_true : (a : Bool) → (a && true) ≡ a
and_true true = refl
and_true false = refl

of_group : (g h : List ℕ) (b : Bool) (actions : List Action) → same_address g h ≡ b → count (of_star g) (map (unit_of h) actions) ≡ cond b (count is_star actions) 0
unfolding count
of_group g h true [] s = refl
of_group g h false [] s = refl
of_group g h true (t ∷ actions) s =
    let here = ap (λ b. one_if (is_star t && b)) s ∙ ap one_if (and_true (is_star t)) in
    let rest = of_group g h true actions s in
    omega (arith, here, rest)
of_group g h false (t ∷ actions) s =
    let here = ap (λ b. one_if (is_star t && b)) s ∙ ap one_if (and_false (is_star t)) in
    let rest = of_group g h false actions s in
    omega (arith, here, rest)

at_once : (old new : List GroupForm) (g h : List ℕ) → count (of_star g) (change_at old new h) ≤ cond (same_address g h) 1 0
at_once old new g h = by (same_address g h) refl
  where
    by : (b : Bool) → same_address g h ≡ b → count (of_star g) (change_at old new h) ≤ cond b 1 0
    by true s =
        let is = of_group g h true (group_change (group_in h old) (group_in h new)) s in
        let once = group_once (group_in h old) (group_in h new) in
        omega (arith, is, once)
    by false s = let is = of_group g h false (group_change (group_in h old) (group_in h new)) s in omega (arith, is)

change_once : (old new : List GroupForm) (g : List ℕ) → count (of_star g) (change old new) ≤ 1
unfolding change
change_once old new g =
    let groups : List (List ℕ) = in_order (groups_of old ++ groups_of new) in
    let each = count_flat (of_star g) (change_at old new) (same_address g) groups (λ h. at_once old new g h) in
    let once = count_once g groups (in_order_sorted (groups_of old ++ groups_of new)) in
    omega (arith, each, once)

-- ---- a run

abbrev pub HasOneStar : List ChangeUnit → Type 0
HasOneStar run = (g : List ℕ) → count (of_star g) run ≤ 1

runs_once : (runs : List (List ChangeUnit)) → ((g : List ℕ) → count (of_star g) (flat_map (λ run. run) runs) ≤ 1) → AllByRecursion HasOneStar runs
runs_once [] each = tt
runs_once (run ∷ runs) each = (
  λ g. let both = count_append (of_star g) run (flat_map (λ r. r) runs) in let all = each g in omega (arith, both, all),
  runs_once runs (λ g. let both = count_append (of_star g) run (flat_map (λ r. r) runs) in let all = each g in omega (arith, both, all)),
)

pub runs_have_one_star : (old new : List GroupForm) (runs : List (List ChangeUnit)) → flat_map (λ run. run) runs ≡ change old new → AllByRecursion HasOneStar runs
runs_have_one_star old new runs whole =
    runs_once runs (λ g. let n = ap (count (of_star g)) whole in let once = change_once old new g in omega (arith, n, once))

-- ---- its sets

abbrev Few : List ChangeUnit → GroupActions → Type 0
Few run set = count is_star set.actions ≤ count (of_star set.group) run

few_more : (this : ChangeUnit) (run : List ChangeUnit) (sets : List GroupActions) → AllByRecursion (Few run) sets → AllByRecursion (Few (this ∷ run)) sets
unfolding count
few_more this run [] few = tt
few_more this run (set ∷ sets) few = (omega (arith, few.0), few_more this run sets few.1)

own_few : (this : ChangeUnit) (run : List ChangeUnit) (actions : List Action) → count is_star actions ≤ count (of_star this.group) run → Few (this ∷ run) (actions_of this.group (this.action ∷ actions))
unfolding count
own_few this run actions few =
    let own : (is_star this.action && same_address this.group this.group) ≡ is_star this.action = ap (λ b. is_star this.action && b) (same_itself this.group) ∙ and_true (is_star this.action) in
    let here = ap one_if own in
    omega (arith, here, few)

front_few : (this : ChangeUnit) (run : List ChangeUnit) (sets : List GroupActions) → AllByRecursion (Few run) sets → AllByRecursion (Few (this ∷ run)) (in_front this sets)
unfolding count
front_few this run [] few = (own_few this run [] (omega arith), tt)
front_few this run (first ∷ sets) few =
    elim (same_address this.group first.group) as (λ b. same_address this.group first.group ≡ b → AllByRecursion (Few (this ∷ run)) (set_in_front b this first sets)) [
      | true ↦ λ s. (own_few this run first.actions (subst (λ (g : List ℕ). count is_star first.actions ≤ count (of_star g) run) (sym (same_is this.group first.group s)) few.0), few_more this run sets few.1)
      | false ↦ λ s. (own_few this run [] (omega arith), few_more this run (first ∷ sets) few)
    ] refl

grouped_few : (run : List ChangeUnit) → AllByRecursion (Few run) (grouped run)
unfolding grouped
grouped_few [] = tt
grouped_few (this ∷ run) = front_few this run (grouped run) (grouped_few run)

-- ---- entries

stars_append : (one other : List (Entry (List ℕ))) → star_count (one ++ other) ≡ star_count one + star_count other
unfolding star_count
stars_append [] other = omega arith
stars_append (x ∷ one) other = let rest = stars_append one other in omega (arith, rest)

no_rpts : (sources : List (List ℕ)) → star_count (excepted_entries sources) ≡ 0
unfolding star_count
no_rpts [] = refl
no_rpts (x ∷ xs) = let rest = no_rpts xs in omega (arith, rest)

rp_few : (rp : Option (List ℕ)) → star_count (rp_entry rp) ≤ 1
unfolding star_count
rp_few None = omega arith
rp_few (Some address) = omega arith

telling_few : (rp : Option (List ℕ)) (action : Action) → star_count (joined_entries rp action) + star_count (pruned_entries rp action) ≤ cond (is_star action) 1 0
unfolding star_count is_star
telling_few rp (star_joined exceptions) = let none = no_rpts exceptions in let one = rp_few rp in omega (arith, none, one)
telling_few rp star_pruned = let one = rp_few rp in omega (arith, one)
telling_few rp (of_source JoinRpt source) = omega arith
telling_few rp (of_source PruneRpt source) = omega arith
telling_few rp (of_source JoinSource source) = omega arith
telling_few rp (of_source PruneSource source) = omega arith

actions_few : (rp : Option (List ℕ)) (actions : List Action) → star_count (flat_map (joined_entries rp) actions) + star_count (flat_map (pruned_entries rp) actions) ≤ count is_star actions
unfolding count star_count
actions_few rp [] = omega arith
actions_few rp (t ∷ actions) =
    let joined = stars_append (joined_entries rp t) (flat_map (joined_entries rp) actions) in
    let pruned = stars_append (pruned_entries rp t) (flat_map (pruned_entries rp) actions) in
    let first = telling_few rp t in
    let rest = actions_few rp actions in
    omega (arith, joined, pruned, first, rest)

abbrev pub HasFewStars : (List ℕ → Option (List ℕ)) → GroupActions → Type 0
HasFewStars rps set = star_count ((written_set rps set).joined ++ (written_set rps set).pruned) ≤ 1

sets_few : (rps : List ℕ → Option (List ℕ)) (run : List ChangeUnit) (sets : List GroupActions) → HasOneStar run → AllByRecursion (Few run) sets → AllByRecursion (HasFewStars rps) sets
sets_few rps run [] one few = tt
sets_few rps run (set ∷ sets) one few =
    let both = stars_append (written_set rps set).joined (written_set rps set).pruned in
    let most = actions_few (rps set.group) set.actions in
    let once = one set.group in
    (omega (arith, both, most, few.0, once), sets_few rps run sets one few.1)

pub one_star_a_set : (rps : List ℕ → Option (List ℕ)) (run : List ChangeUnit) → HasOneStar run → AllByRecursion (HasFewStars rps) (grouped run)
one_star_a_set rps run one = sets_few rps run (grouped run) one (grouped_few run)
