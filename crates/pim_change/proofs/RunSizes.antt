-- What room the sets of a run take: as much as its units weigh, or less where a group has no RP.
use Rattle.pim_change.proofs.Words.{◌≡◌, ◌∙◌, ℕ, suc, ◌+◌, ◌*◌, ◌≤◌, ◌<◌, ◌^◌, Bool, true, false, List, [], ◌∷◌, Option, None}
use Rattle.pim_change.proofs.Words.{Some, length, map, nat_le, refl, sym, ap, subst, arith, length-append, if◌then◌else◌}
use Rattle.pim_change.proofs.Words.{AllByRecursion, flat_map, leb-true, and_parts, length-map, AddressFamily, Ipv4, Ipv6, Rpt}
use Rattle.pim_change.proofs.Words.{GroupSet, canonical_head_length, canonical_sets_length, same_address, unit_group}
use Rattle.pim_change.proofs.Words.{unit_entries, run_entries, groups_behind, run_groups, run_size, empty_set_size, entry_size}
use Rattle.pim_change.proofs.Words.{fits, most_groups, JoinRpt, PruneRpt, JoinSource, PruneSource, Action, star_joined}
use Rattle.pim_change.proofs.Words.{star_pruned, of_source, ChangeUnit, weight_of, weights, rp_entry, joined_entries}
use Rattle.pim_change.proofs.Words.{pruned_entries, GroupActions, actions_of, set_in_front, in_front, grouped, written_set}
use Rattle.pim_change.proofs.Words.{written_sets, IsShort}
use Rattle.pim_change.proofs.Addresses.{same_is}
use Rattle.pim_change.proofs.Grouping.{StartsWith, starts}

-- ---- entries

telling_entries : Option (List ℕ) → Action → ℕ
telling_entries rp action = length (joined_entries rp action) + length (pruned_entries rp action)

one_rp : (rp : Option (List ℕ)) → length (rp_entry rp) ≤ 1
one_rp None = omega arith
one_rp (Some address) = omega arith

-- a telling has at most as many entries as it weighs
few : (group : List ℕ) (rp : Option (List ℕ)) (action : Action)
    → telling_entries rp action ≤ unit_entries (weight_of group action)
unfolding telling_entries
few group rp (star_joined exceptions) = omega (arith, one_rp rp, length-map exceptions (λ source. Rpt source))
few group rp star_pruned = omega (arith, one_rp rp)
few group rp (of_source JoinRpt source) = omega arith
few group rp (of_source PruneRpt source) = omega arith
few group rp (of_source JoinSource source) = omega arith
few group rp (of_source PruneSource source) = omega arith

total : List GroupSet → ℕ
total [] = 0
total (set ∷ sets) = (length set.joined + length set.pruned) + total sets

total_same : (rps : List ℕ → Option (List ℕ)) (this : ChangeUnit) (first : GroupActions) (others : List GroupActions)
    → this.group ≡ first.group
    → total (map (written_set rps) (actions_of this.group (this.action ∷ first.actions) ∷ others))
    ≡ telling_entries (rps this.group) this.action + total (map (written_set rps) (first ∷ others))
unfolding total telling_entries
total_same rps this first others is =
    let rp = rps this.group in
    let joined = length-append (joined_entries rp this.action) (flat_map (joined_entries rp) first.actions) in
    let pruned = length-append (pruned_entries rp this.action) (flat_map (pruned_entries rp) first.actions) in
    let same : length (flat_map (joined_entries rp) first.actions) + length
    (flat_map (pruned_entries rp) first.actions) ≡ length (written_set rps first).joined
    + length (written_set rps first).pruned =
    ap (λ (group : List ℕ). length (flat_map (joined_entries (rps group)) first.actions) + length
    (flat_map (pruned_entries (rps group)) first.actions)) is in
    omega (arith, joined, pruned, same)

total_own : (rps : List ℕ → Option (List ℕ)) (this : ChangeUnit) (parts : List GroupActions)
    → total (map (written_set rps) (actions_of this.group (this.action ∷ []) ∷ parts))
    ≡ telling_entries (rps this.group) this.action + total (map (written_set rps) parts)
unfolding total telling_entries
total_own rps this parts =
    let rp = rps this.group in
    let joined = length-append (joined_entries rp this.action) [] in
    let pruned = length-append (pruned_entries rp this.action) [] in
    omega (arith, joined, pruned)

total_set : (rps : List ℕ → Option (List ℕ)) (this : ChangeUnit) (first : GroupActions) (others : List GroupActions) (b : Bool)
    → same_address this.group first.group ≡ b → total (map (written_set rps) (set_in_front b this first others))
    ≡ telling_entries (rps this.group) this.action + total (map (written_set rps) (first ∷ others))
total_set rps this first others true is = total_same rps this first others (same_is this.group first.group is)
total_set rps this first others false is = total_own rps this (first ∷ others)

total_front : (rps : List ℕ → Option (List ℕ)) (this : ChangeUnit) (parts : List GroupActions)
    → total (map (written_set rps) (in_front this parts))
    ≡ telling_entries (rps this.group) this.action + total (map (written_set rps) parts)
total_front rps this [] = total_own rps this []
total_front rps this (first ∷ others) =
    total_set rps this first others (same_address this.group first.group) refl

entries_most : (rps : List ℕ → Option (List ℕ)) (run : List ChangeUnit) → total (written_sets rps run) ≤ run_entries (weights run)
unfolding total run_entries grouped
entries_most rps [] = omega arith
entries_most rps (this ∷ run) =
    omega (
      arith,
      total_front rps this (grouped run),
      few this.group (rps this.group) this.action,
      entries_most rps run,
    )

-- ---- groups

pub weight_group : (group : List ℕ) (action : Action) → unit_group (weight_of group action) ≡ group
weight_group group (star_joined exceptions) = refl
weight_group group star_pruned = refl
weight_group group (of_source kind source) = refl

set_count : (this : ChangeUnit) (group : List ℕ) (parts : List GroupActions) → StartsWith group parts
    → length (in_front this parts) ≡ (if same_address this.group group then 0 else 1) + length parts
set_count this group parts start =
    let counts : (b : Bool) → length (set_in_front b this start.first start.others)
    ≡ (if b then 0 else 1) + suc (length start.others) = by in
    let own : length (in_front this (start.first ∷ start.others))
    ≡ (if same_address this.group start.first.group then 0 else 1) + suc (length start.others) =
    counts (same_address this.group start.first.group) in
    let of_group : length (in_front this (start.first ∷ start.others))
    ≡ (if same_address this.group group then 0 else 1) + suc (length start.others) =
    subst (λ (g : List ℕ). length (in_front this (start.first ∷ start.others))
    ≡ (if same_address this.group g then 0 else 1) + suc (length start.others)) start.of_group own in
    subst (λ (l : List GroupActions). length (in_front this l)
    ≡ (if same_address this.group group then 0 else 1) + length l) (sym start.is) of_group
  where
    by : (b : Bool) → length (set_in_front b this start.first start.others)
        ≡ (if b then 0 else 1) + suc (length start.others)
    by true = omega arith
    by false = omega arith

groups_from : (this : ChangeUnit) (run : List ChangeUnit)
    → length (grouped (this ∷ run)) ≡ 1 + groups_behind (Some this.group) (weights run)
unfolding grouped groups_behind
groups_from this [] = refl
groups_from this (next ∷ run) =
    let counted = set_count this next.group (grouped (next ∷ run)) (starts next (grouped run)) in
    let others = groups_from next run in
    rw (weight_group next.group next.action) (omega (arith, counted, others))

pub groups_are : (run : List ChangeUnit) → length (grouped run) ≡ run_groups (weights run)
unfolding grouped groups_behind
groups_are [] = refl
groups_are (this ∷ run) =
    rw (weight_group this.group this.action) (groups_from this run)

-- ---- and bytes

sets_length : (family : AddressFamily) (sets : List GroupSet) → canonical_sets_length family sets
    ≡ length sets * empty_set_size family + total sets * entry_size family
unfolding total canonical_sets_length
sets_length Ipv4 [] = refl
sets_length Ipv6 [] = refl
sets_length Ipv4 (set ∷ sets) = omega (arith, sets_length Ipv4 sets)
sets_length Ipv6 (set ∷ sets) = omega (arith, sets_length Ipv6 sets)

pub small_head : (family : AddressFamily) → canonical_head_length family ≤ 30
small_head Ipv4 = omega arith
small_head Ipv6 = omega arith

all_short : (sets : List GroupSet) → total sets < 2 ^ 16 → AllByRecursion IsShort sets
unfolding total
all_short [] below = tt
all_short (set ∷ sets) below = ((omega (arith, below), omega (arith, below)), all_short sets (omega (arith, below)))

pub fits_parts : (family : AddressFamily) (budget : ℕ) (run : List ChangeUnit)
    → fits family budget (weights run) ≡ true
    → (run_size family (weights run) ≤ budget) × (run_groups (weights run) ≤ most_groups)
fits_parts family budget run h =
    let both = and_parts (nat_le (run_size family (weights run)) budget) (nat_le (run_groups (weights run)) most_groups)
    h in
    (leb-true (run_size family (weights run)) budget both.0, leb-true (run_groups (weights run)) most_groups both.1)

pub few_entries : (family : AddressFamily) (budget : ℕ) (run : List ChangeUnit) → budget ≤ 65000
    → fits family budget (weights run) ≡ true → run_entries (weights run) ≤ 65000
few_entries Ipv4 budget run most h = omega (arith, (fits_parts Ipv4 budget run h).0, most)
few_entries Ipv6 budget run most h = omega (arith, (fits_parts Ipv6 budget run h).0, most)

module _ (family : AddressFamily) (budget : ℕ) (rps : List ℕ → Option (List ℕ)) (run : List ChangeUnit) (most : budget ≤ 65000)
    (fitting : fits family budget (weights run) ≡ true) where
  pub sets_short : AllByRecursion IsShort (written_sets rps run)
  sets_short = all_short (written_sets rps run)
      (omega (arith, entries_most rps run, few_entries family budget run most fitting))

  pub sets_counted : length (written_sets rps run) ≡ run_groups (weights run)
  sets_counted = length-map (grouped run) (written_set rps) ∙ groups_are run

  pub few_sets : length (written_sets rps run) ≤ 255
  few_sets = omega (arith, sets_counted, (fits_parts family budget run fitting).1)

pub small_sets : (family : AddressFamily) (budget : ℕ) (rps : List ℕ → Option (List ℕ)) (run : List ChangeUnit) → budget ≤ 65000
    → fits family budget (weights run) ≡ true → canonical_sets_length family (written_sets rps run) ≤ 65000
small_sets Ipv4 budget rps run most fitting =
    omega (
      arith,
      sets_length Ipv4 (written_sets rps run),
      sets_counted Ipv4 budget rps run most fitting,
      entries_most rps run,
      (fits_parts Ipv4 budget run fitting).0,
      most,
    )
small_sets Ipv6 budget rps run most fitting =
    omega (
      arith,
      sets_length Ipv6 (written_sets rps run),
      sets_counted Ipv6 budget rps run most fitting,
      entries_most rps run,
      (fits_parts Ipv6 budget run fitting).0,
      most,
    )

-- the whole message is within the budget
pub within_budget : (family : AddressFamily) (budget : ℕ) (rps : List ℕ → Option (List ℕ)) (run : List ChangeUnit) → budget ≤ 65000
    → fits family budget (weights run) ≡ true
    → 4 + (canonical_head_length family + canonical_sets_length family (written_sets rps run)) ≤ budget
within_budget Ipv4 budget rps run most fitting =
    omega (
      arith,
      sets_length Ipv4 (written_sets rps run),
      sets_counted Ipv4 budget rps run most fitting,
      entries_most rps run,
      (fits_parts Ipv4 budget run fitting).0,
    )
within_budget Ipv6 budget rps run most fitting =
    omega (
      arith,
      sets_length Ipv6 (written_sets rps run),
      sets_counted Ipv6 budget rps run most fitting,
      entries_most rps run,
      (fits_parts Ipv6 budget run fitting).0,
    )
