-- The message of a part that fits can be spelled.
use Rattle.pim_mirror.proofs.Words.{◌≡◌, ◌∙◌, ℕ, ◌+◌, ◌^◌, ◌≤◌, ◌<◌, true, false, List, [], ◌∷◌, ◌++◌, Option, None, Some, map}
use Rattle.pim_mirror.proofs.Words.{length, nat_le, refl, sym, arith, length-append, Less, AllByRecursion, list_any}
use Rattle.pim_mirror.proofs.Words.{IsStrictlySortedBy, nat_cmp, slice_cmp, false≢true, leb-true, length-map, AddressFamily}
use Rattle.pim_mirror.proofs.Words.{IsSourceAddress, Entry, GroupForm, AreAscending, AreExceptions, is_empty, IsNormalGroup}
use Rattle.pim_mirror.proofs.Words.{groups_of, IsNormal, WantUnit, source_unit, star_units, group_units, units_of, is_of_group}
use Rattle.pim_mirror.proofs.Words.{groups_behind, run_groups, run_entries, run_size, fits, most_groups, Writing, IsWriting}
use Rattle.pim_mirror.proofs.Words.{IsRpOf, HaveRps, star_entries, excepted_entries, written_set, written_message}
use Rattle.pim_addr.specs.declared.family.AddressFamily.TheVariants.{Ipv4, Ipv6}
use Rattle.pim_jp.specs.declared.entry.Entry.TheVariants.{Source, Rpt}
use Rattle.pim_jp.specs.Spelling.{same_source, star_count, IsLegalSet}
use Rattle.pim_jp.specs.Canonical.{IsMessageEntry, IsMessageSet, IsMessage}
use Rattle.pim_mirror.proofs.ListParts.{all_append, all_map}
use Rattle.pim_mirror.proofs.SameAddresses.{same_itself, less_apart, first_true, second_true}

-- ---- a legal set

no_star_in_sources : (xs : List (List ℕ)) (others : List (Entry (List ℕ))) → star_count (map (λ source. Source source) xs ++ others) ≡ star_count others
unfolding star_count
no_star_in_sources [] others = refl
no_star_in_sources (x ∷ xs) others = omega (arith, no_star_in_sources xs others)

no_star_in_rpts : (xs : List (List ℕ)) → star_count (map (λ source. Rpt source) xs) ≡ 0
unfolding star_count
no_star_in_rpts [] = refl
no_star_in_rpts (x ∷ xs) = omega (arith, no_star_in_rpts xs)

no_star_in_pruned : (star : Option (List (List ℕ))) → star_count (excepted_entries star) ≡ 0
unfolding star_count
no_star_in_pruned None = refl
no_star_in_pruned (Some xs) = no_star_in_rpts xs

one_star : (rp : Option (List ℕ)) (star : Option (List (List ℕ))) (sources : List (List ℕ)) → star_count ((star_entries rp star ++ map (λ source. Source source) sources) ++ excepted_entries star) ≤ 1
unfolding star_count
one_star rp None sources = omega (arith, no_star_in_sources sources (excepted_entries None), no_star_in_pruned None)
one_star None (Some xs) sources = omega (arith, no_star_in_sources sources (excepted_entries (Some xs)), no_star_in_pruned (Some xs))
one_star (Some rp) (Some xs) sources = omega (arith, no_star_in_sources sources (excepted_entries (Some xs)), no_star_in_pruned (Some xs))

no_rpt_in_sources : (x : List ℕ) (sources : List (List ℕ)) → list_any (same_source (Rpt x)) (map (λ source. Source source) sources) ≡ false
no_rpt_in_sources x [] = refl
no_rpt_in_sources x (s ∷ sources) = no_rpt_in_sources x sources

no_rpt_in_joined : (x : List ℕ) (rp : Option (List ℕ)) (star : Option (List (List ℕ))) (sources : List (List ℕ)) → list_any (same_source (Rpt x)) (star_entries rp star ++ map (λ source. Source source) sources) ≡ false
no_rpt_in_joined x rp None sources = no_rpt_in_sources x sources
no_rpt_in_joined x None (Some xs) sources = no_rpt_in_sources x sources
no_rpt_in_joined x (Some rp) (Some xs) sources = no_rpt_in_sources x sources

none_in_both : (xs : List (List ℕ)) (joined : List (Entry (List ℕ))) → ((x : List ℕ) → list_any (same_source (Rpt x)) joined ≡ false) → list_any (λ entry. list_any (same_source entry) joined) (map (λ source. Rpt source) xs) ≡ false
none_in_both [] joined none = refl
none_in_both (x ∷ xs) joined none = rw (none x) (none_in_both xs joined none)

apart : (rp : Option (List ℕ)) (star : Option (List (List ℕ))) (sources : List (List ℕ))
    → list_any (λ entry. list_any (same_source entry) (star_entries rp star ++ map (λ source. Source source) sources)) (excepted_entries star) ≡ false
apart rp None sources = refl
apart rp (Some xs) sources = none_in_both xs (star_entries rp (Some xs) ++ map (λ source. Source source) sources) (λ x. no_rpt_in_joined x rp (Some xs) sources)

legal : (rps : List ℕ → Option (List ℕ)) (this : GroupForm) → IsLegalSet (written_set rps this)
legal rps this = (one_star (rps this.group) this.star this.sources, apart (rps this.group) this.star this.sources)

-- ---- how many entries

entries_append : (xs ys : List WantUnit) → run_entries (xs ++ ys) ≡ run_entries xs + run_entries ys
unfolding run_entries
entries_append [] ys = omega arith
entries_append (x ∷ xs) ys = omega (arith, entries_append xs ys)

source_entries : (group : List ℕ) (xs : List (List ℕ)) → run_entries (map (source_unit group) xs) ≡ length xs
unfolding run_entries
source_entries group [] = refl
source_entries group (x ∷ xs) = omega (arith, source_entries group xs)

star_entry_count : (group : List ℕ) (rp : Option (List ℕ)) (star : Option (List (List ℕ))) → length (star_entries rp star) + length (excepted_entries star) ≤ run_entries (star_units group star)
unfolding run_entries
star_entry_count group rp None = omega arith
star_entry_count group None (Some xs) = omega (arith, length-map xs (λ source. Rpt source))
star_entry_count group (Some rp) (Some xs) = omega (arith, length-map xs (λ source. Rpt source))

group_entries : (rps : List ℕ → Option (List ℕ)) (this : GroupForm) → length (written_set rps this).joined + length (written_set rps this).pruned ≤ run_entries (group_units this)
group_entries rps this =
    omega (
      arith,
      entries_append (star_units this.group this.star) (map (source_unit this.group) this.sources),
      star_entry_count this.group (rps this.group) this.star,
      source_entries this.group this.sources,
      length-append (star_entries (rps this.group) this.star) (map (λ source. Source source) this.sources),
      length-map this.sources (λ source. Source source),
    )

entries_few : (family : AddressFamily) (run : List WantUnit) → run_size family run ≤ 65000 → run_entries run < 2 ^ 16
entries_few Ipv4 run h = omega arith
entries_few Ipv6 run h = omega arith

-- ---- how many groups

more_sources : (group : List ℕ) (xs : List (List ℕ)) (left : List WantUnit) → groups_behind (Some group) (map (source_unit group) xs ++ left) ≡ groups_behind (Some group) left
unfolding groups_behind
more_sources group [] left = refl
more_sources group (x ∷ xs) left = rw (same_itself group) (omega (arith, more_sources group xs left))

one_more_group : (before : Option (List ℕ)) (group : List ℕ) (star : Option (List (List ℕ))) (sources : List (List ℕ)) (left : List WantUnit) → is_of_group before group ≡ false → is_empty star sources ≡ false
    → groups_behind before ((star_units group star ++ map (source_unit group) sources) ++ left) ≡ 1 + groups_behind (Some group) left
unfolding groups_behind
one_more_group before group None [] left new some = absurd (false≢true (sym some))
one_more_group before group None (s ∷ sources) left new some = rw (new, more_sources group sources left) refl
one_more_group before group (Some xs) sources left new some = rw (new, more_sources group sources left) refl

abbrev IsNew : Option (List ℕ) → List GroupForm → Type 0
IsNew before [] = Unit {0}
IsNew before (this ∷ form) = is_of_group before this.group ≡ false

new_behind : (group : List ℕ) (form : List GroupForm) → AllByRecursion (λ other. slice_cmp nat_cmp group other ≡ Less) (groups_of form) → IsNew (Some group) form
new_behind group [] below = tt
new_behind group (this ∷ form) below = less_apart group this.group below.0

count_behind : (family : AddressFamily) (before : Option (List ℕ)) (form : List GroupForm) → IsNew before form → AreAscending (groups_of form) → AllByRecursion (IsNormalGroup family) form → groups_behind before (units_of form) ≡ length form
unfolding groups_behind IsStrictlySortedBy
count_behind family before [] new up are = refl
count_behind family before (this ∷ form) new up are =
    let others = count_behind family (Some this.group) form (new_behind this.group form up.0) up.1 are.1 in
    one_more_group before this.group this.star this.sources (units_of form) new are.0.some ∙ omega (arith, others)

group_count : (family : AddressFamily) (form : List GroupForm) → IsNormal family form → run_groups (units_of form) ≡ length form
group_count family form is = count_behind family None form (by form) is.ascending is.groups
  where
    by : (form : List GroupForm) → IsNew None form
    by [] = tt
    by (this ∷ form) = refl

-- ---- the message

joined_star : (family : AddressFamily) (rp : Option (List ℕ)) (star : Option (List (List ℕ))) → IsRpOf family rp star → AllByRecursion (IsMessageEntry family) (star_entries rp star)
joined_star family rp None is = tt
joined_star family None (Some xs) is = tt
joined_star family (Some rp) (Some xs) is = (is, tt)

pruned_valid : (family : AddressFamily) (star : Option (List (List ℕ))) → AreExceptions family star → AllByRecursion (IsMessageEntry family) (excepted_entries star)
pruned_valid family None are = tt
pruned_valid family (Some xs) are = all_map (IsSourceAddress family) (IsMessageEntry family) (λ source. Rpt source) (λ s is. is) xs are.1

joined_valid : (family : AddressFamily) (rps : List ℕ → Option (List ℕ)) (this : GroupForm) → IsNormalGroup family this → IsRpOf family (rps this.group) this.star → AllByRecursion (IsMessageEntry family) (written_set rps this).joined
joined_valid family rps this is rp =
    all_append (IsMessageEntry family) (star_entries (rps this.group) this.star) (map (λ source. Source source) this.sources)
    (joined_star family (rps this.group) this.star rp)
    (all_map (IsSourceAddress family) (IsMessageEntry family) (λ source. Source source) (λ s is_s. is_s) this.sources is.sources)

sets_are : (family : AddressFamily) (rps : List ℕ → Option (List ℕ)) (part : List GroupForm) → AllByRecursion (IsNormalGroup family) part → HaveRps family rps part → run_entries (units_of part) < 2 ^ 16 → AllByRecursion (IsMessageSet family) (map (written_set rps) part)
sets_are family rps [] are have few = tt
sets_are family rps (this ∷ part) are have few =
    let here = group_entries rps this in
    let whole = entries_append (group_units this) (units_of part) in
    let joined : length (written_set rps this).joined < 2 ^ 16 = omega (arith, few, here, whole) in
    let pruned : length (written_set rps this).pruned < 2 ^ 16 = omega (arith, few, here, whole) in
    let left : run_entries (units_of part) < 2 ^ 16 = omega (arith, few, whole) in (
      (are.0.group.0, are.0.group.1, legal rps this, joined, joined_valid family rps this are.0 have.0, pruned, pruned_valid family this.star are.0.exceptions),
      sets_are family rps part are.1 have.1 left,
    )

pub is_message : (family : AddressFamily) (writing : Writing) (rps : List ℕ → Option (List ℕ)) (part : List GroupForm) → IsWriting family writing → IsNormal family part → HaveRps family rps part
    → fits family writing.budget (units_of part) ≡ true → IsMessage family (written_message writing rps part)
is_message family writing rps part is normal have fitting =
    let small = leb-true (run_size family (units_of part)) writing.budget (first_true (nat_le (run_size family (units_of part)) writing.budget) (nat_le (run_groups (units_of part)) most_groups) fitting) in
    let few = leb-true (run_groups (units_of part)) most_groups (second_true (nat_le (run_size family (units_of part)) writing.budget) (nat_le (run_groups (units_of part)) most_groups) fitting) in
    let size : run_size family (units_of part) ≤ 65000 = omega (arith, small, is.most) in
    let groups : length (map (written_set rps) part) < 2 ^ 8 = omega (arith, few, group_count family part normal, length-map part (written_set rps)) in
    (is.upstream.0, is.short, groups, sets_are family rps part normal.groups have (entries_few family (units_of part) size))
