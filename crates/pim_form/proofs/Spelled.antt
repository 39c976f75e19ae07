-- What is written of a part of a form: it can be spelled, and how long it is.
use Rattle.pim_form.proofs.Words.{◌≡◌, ◌∙◌, ℕ, ◌+◌, ◌*◌, ◌^◌, ◌≤◌, ◌<◌, true, false, List, [], ◌∷◌, ◌++◌, Option, None, Some, map}
use Rattle.pim_form.proofs.Words.{length, refl, sym, ap, arith, length-append, w16, to_be_bytes, AllByRecursion, list_any}
use Rattle.pim_form.proofs.Words.{length-map, AddressFamily, Ipv4, Ipv6, Entry, IsMessageEntry, IsMessageSet, IsMessage}
use Rattle.pim_form.proofs.Words.{canonical, canonical_head_length, canonical_sets_length, framed, JoinPrune, IsGroupAddress}
use Rattle.pim_form.proofs.Words.{IsSourceAddress, GroupForm, AreAscending, AreExceptions, is_empty, IsNormalGroup, groups_of}
use Rattle.pim_form.proofs.Words.{WantUnit, star_unit, source_unit, star_units, group_units, units_of, run_entries, run_size}
use Rattle.pim_form.proofs.Words.{empty_message_size, empty_set_size, entry_size, fits, Writing, IsWriting, IsRp, IsRpOf, HaveRps}
use Rattle.pim_form.proofs.Words.{star_entries, excepted_entries, written_set, written_message}
use Rattle.pim_jp.specs.declared.entry.Entry.TheVariants.{Source, Rpt}
use Rattle.pim_jp.specs.Spelling.{same_source, star_count, IsLegalSet}
use Rattle.pim_form.proofs.Lists.{all_append, all_front, all_behind, all_map, all_mapped}
use Rattle.pim_form.proofs.Units.{IsSome, count_groups}
use Rattle.pim_form.proofs.OnePacking.{entries_append, fits_parts}

-- ---- units of valid addresses, whose stars have an RP

module _ (family : AddressFamily) (rps : List ℕ → Option (List ℕ)) where
  pub IsValidUnit : WantUnit → Type 0
  IsValidUnit (star_unit group exceptions) = IsGroupAddress family group × AllByRecursion (IsSourceAddress family) exceptions × IsRp family (rps group)
  IsValidUnit (source_unit group source) = IsGroupAddress family group × IsSourceAddress family source

  -- what is known of a group of a part
  pub record IsValid (this : GroupForm) : Type 0 where
    pub group : IsGroupAddress family this.group
    pub star : AllByRecursion IsValidUnit (star_units this.group this.star)
    pub sources : AllByRecursion (IsSourceAddress family) this.sources

  star_valid : (group : List ℕ) (star : Option (List (List ℕ))) → IsGroupAddress family group → AreExceptions family star → IsRpOf family (rps group) star → AllByRecursion IsValidUnit (star_units group star)
  unfolding IsValidUnit
  star_valid group None is exceptions rp = tt
  star_valid group (Some xs) is exceptions rp = ((is, exceptions.1, rp), tt)

  source_valid : (group : List ℕ) → IsGroupAddress family group → (s : List ℕ) → IsSourceAddress family s → IsValidUnit (source_unit group s)
  unfolding IsValidUnit
  source_valid group is s source = (is, source)

  group_valid : (this : GroupForm) → IsNormalGroup family this → IsRpOf family (rps this.group) this.star → AllByRecursion IsValidUnit (group_units this)
  group_valid this is rp =
      all_append IsValidUnit (star_units this.group this.star) (map (source_unit this.group) this.sources)
      (star_valid this.group this.star is.group is.exceptions rp)
      (all_map (IsSourceAddress family) IsValidUnit (source_unit this.group) (source_valid this.group is.group) this.sources is.sources)

  pub units_valid : (form : List GroupForm) → AllByRecursion (IsNormalGroup family) form → HaveRps family rps form → AllByRecursion IsValidUnit (units_of form)
  units_valid [] are have = tt
  units_valid (this ∷ form) are have = all_append IsValidUnit (group_units this) (units_of form) (group_valid this are.0 have.0) (units_valid form are.1 have.1)

  -- ---- and back to the groups of a part

  unit_source : (group s : List ℕ) → IsValidUnit (source_unit group s) → IsSourceAddress family s
  unfolding IsValidUnit
  unit_source group s is = is.1

  unit_group_valid : (group : List ℕ) (star : Option (List (List ℕ))) (sources : List (List ℕ)) → is_empty star sources ≡ false → AllByRecursion IsValidUnit (star_units group star ++ map (source_unit group) sources) → IsGroupAddress family group
  unfolding IsValidUnit
  unit_group_valid group None [] some all = absurd cc
  unit_group_valid group None (s ∷ sources) some all = all.0.0
  unit_group_valid group (Some xs) sources some all = all.0.0

  valid_back : (this : GroupForm) → IsSome this → AllByRecursion IsValidUnit (group_units this) → IsValid this
  valid_back this some all = record {
    group = unit_group_valid this.group this.star this.sources some all;
    star = all_front IsValidUnit (star_units this.group this.star) (map (source_unit this.group) this.sources) all;
    sources = all_mapped (IsSourceAddress family) IsValidUnit (source_unit this.group) (unit_source this.group) this.sources
        (all_behind IsValidUnit (star_units this.group this.star) (map (source_unit this.group) this.sources) all);
  }

  pub parts_valid : (part : List GroupForm) → AllByRecursion IsSome part → AllByRecursion IsValidUnit (units_of part) → AllByRecursion IsValid part
  parts_valid [] some all = tt
  parts_valid (this ∷ part) some all =
      (valid_back this some.0 (all_front IsValidUnit (group_units this) (units_of part) all), parts_valid part some.1 (all_behind IsValidUnit (group_units this) (units_of part) all))

  rp_of_star : (group : List ℕ) (star : Option (List (List ℕ))) → AllByRecursion IsValidUnit (star_units group star) → IsRpOf family (rps group) star
  unfolding IsValidUnit
  rp_of_star group None all = tt
  rp_of_star group (Some xs) all = all.0.2

  pub rp_here : (this : GroupForm) → IsValid this → IsRpOf family (rps this.group) this.star
  rp_here this is = rp_of_star this.group this.star is.star

  -- ---- entries

  joined_valid : (group : List ℕ) (rp : Option (List ℕ)) (star : Option (List (List ℕ))) → IsRpOf family rp star → AllByRecursion (IsMessageEntry family) (star_entries rp star)
  joined_valid group rp None is = tt
  joined_valid group None (Some xs) is = tt
  joined_valid group (Some rp) (Some xs) is = (is, tt)

  pruned_valid : (group : List ℕ) (star : Option (List (List ℕ))) → AllByRecursion IsValidUnit (star_units group star) → AllByRecursion (IsMessageEntry family) (excepted_entries star)
  unfolding IsValidUnit
  pruned_valid group None all = tt
  pruned_valid group (Some xs) all = all_map (IsSourceAddress family) (IsMessageEntry family) (λ source. Rpt source) (λ s is. is) xs all.0.1

  entries_valid : (this : GroupForm) → IsValid this → AllByRecursion (IsMessageEntry family) (written_set rps this).joined × AllByRecursion (IsMessageEntry family) (written_set rps this).pruned
  entries_valid this is = (
    all_append (IsMessageEntry family) (star_entries (rps this.group) this.star) (map (λ source. Source source) this.sources)
        (joined_valid this.group (rps this.group) this.star (rp_here this is))
        (all_map (IsSourceAddress family) (IsMessageEntry family) (λ source. Source source) (λ s s_is. s_is) this.sources is.sources),
    pruned_valid this.group this.star is.star,
  )

-- ---- a legal set: one star, and no source on both sides as the same kind

no_star_in_sources : (xs : List (List ℕ)) (others : List (Entry (List ℕ))) → star_count (map (λ source. Source source) xs ++ others) ≡ star_count others
unfolding star_count
no_star_in_sources [] others = refl
no_star_in_sources (x ∷ xs) others = omega (arith, no_star_in_sources xs others)

no_star_in_pruned : (star : Option (List (List ℕ))) → star_count (excepted_entries star) ≡ 0
unfolding star_count
no_star_in_pruned None = refl
no_star_in_pruned (Some xs) = by xs
  where
    by : (xs : List (List ℕ)) → star_count (map (λ source. Rpt source) xs) ≡ 0
    by [] = refl
    by (x ∷ xs) = omega (arith, by xs)

one_star : (rp : Option (List ℕ)) (star : Option (List (List ℕ))) (sources : List (List ℕ)) → star_count ((star_entries rp star ++ map (λ source. Source source) sources) ++ excepted_entries star) ≤ 1
unfolding star_count
one_star rp None sources = omega (arith, no_star_in_sources sources (excepted_entries None), no_star_in_pruned None)
one_star None (Some xs) sources = omega (arith, no_star_in_sources sources (excepted_entries (Some xs)), no_star_in_pruned (Some xs))
one_star (Some rp) (Some xs) sources = omega (arith, no_star_in_sources sources (excepted_entries (Some xs)), no_star_in_pruned (Some xs))

not_in_sources : (x : List ℕ) (sources : List (List ℕ)) → list_any (same_source (Rpt x)) (map (λ source. Source source) sources) ≡ false
not_in_sources x [] = refl
not_in_sources x (s ∷ sources) = not_in_sources x sources

not_in_joined : (x : List ℕ) (rp : Option (List ℕ)) (star : Option (List (List ℕ))) (sources : List (List ℕ)) → list_any (same_source (Rpt x)) (star_entries rp star ++ map (λ source. Source source) sources) ≡ false
not_in_joined x rp None sources = not_in_sources x sources
not_in_joined x None (Some xs) sources = not_in_sources x sources
not_in_joined x (Some rp) (Some xs) sources = not_in_sources x sources

none_in_both : (xs : List (List ℕ)) (joined : List (Entry (List ℕ))) → ((x : List ℕ) → list_any (same_source (Rpt x)) joined ≡ false) → list_any (λ entry. list_any (same_source entry) joined) (map (λ source. Rpt source) xs) ≡ false
none_in_both [] joined none = refl
none_in_both (x ∷ xs) joined none = rw (none x) (none_in_both xs joined none)

apart : (rp : Option (List ℕ)) (star : Option (List (List ℕ))) (sources : List (List ℕ))
    → list_any (λ entry. list_any (same_source entry) (star_entries rp star ++ map (λ source. Source source) sources)) (excepted_entries star) ≡ false
apart rp None sources = refl
apart rp (Some xs) sources = none_in_both xs (star_entries rp (Some xs) ++ map (λ source. Source source) sources) (λ x. not_in_joined x rp (Some xs) sources)

legal : (rps : List ℕ → Option (List ℕ)) (this : GroupForm) → IsLegalSet (written_set rps this)
legal rps this = (one_star (rps this.group) this.star this.sources, apart (rps this.group) this.star this.sources)

-- ---- how many entries

pub sources_entries : (group : List ℕ) (xs : List (List ℕ)) → run_entries (map (source_unit group) xs) ≡ length xs
unfolding run_entries
sources_entries group [] = refl
sources_entries group (x ∷ xs) = omega (arith, sources_entries group xs)

stars_entries : (family : AddressFamily) (group : List ℕ) (rp : Option (List ℕ)) (star : Option (List (List ℕ))) → IsRpOf family rp star → run_entries (star_units group star) ≡ length (star_entries rp star) + length (excepted_entries star)
unfolding run_entries
stars_entries family group rp None is = refl
stars_entries family group None (Some xs) is = absurd is
stars_entries family group (Some rp) (Some xs) is = omega (arith, length-map xs (λ source. Rpt source))

pub group_entries : (family : AddressFamily) (rps : List ℕ → Option (List ℕ)) (this : GroupForm) → IsRpOf family (rps this.group) this.star
    → run_entries (group_units this) ≡ length (written_set rps this).joined + length (written_set rps this).pruned
group_entries family rps this is =
    omega (
      arith,
      entries_append (star_units this.group this.star) (map (source_unit this.group) this.sources),
      stars_entries family this.group (rps this.group) this.star is,
      sources_entries this.group this.sources,
      length-append (star_entries (rps this.group) this.star) (map (λ source. Source source) this.sources),
      length-map this.sources (λ source. Source source),
    )

-- ---- the message of a part

sets_are : (family : AddressFamily) (rps : List ℕ → Option (List ℕ)) (part : List GroupForm) → AllByRecursion (IsValid family rps) part → run_entries (units_of part) < 2 ^ 16 → AllByRecursion (IsMessageSet family) (map (written_set rps) part)
sets_are family rps [] all few = tt
sets_are family rps (this ∷ part) all few =
    let here = group_entries family rps this (rp_here family rps this all.0) in
    let both = entries_append (group_units this) (units_of part) in
    let entries = entries_valid family rps this all.0 in
    let joined : length (written_set rps this).joined < 2 ^ 16 = omega arith in
    let pruned : length (written_set rps this).pruned < 2 ^ 16 = omega arith in
    let left : run_entries (units_of part) < 2 ^ 16 = omega arith in
    ((all.0.group.0, all.0.group.1, legal rps this, joined, entries.0, pruned, entries.1), sets_are family rps part all.1 left)

pub entries_few : (family : AddressFamily) (run : List WantUnit) → run_size family run ≤ 65000 → run_entries run < 2 ^ 16
entries_few Ipv4 run h = omega arith
entries_few Ipv6 run h = omega arith

-- a part whose units fit
pub record IsPart (family : AddressFamily) (writing : Writing) (rps : List ℕ → Option (List ℕ)) (part : List GroupForm) : Type 0 where
  pub ascending : AreAscending (groups_of part)
  pub some : AllByRecursion IsSome part
  pub valid : AllByRecursion (IsValidUnit family rps) (units_of part)
  pub fitting : fits family writing.budget (units_of part) ≡ true

pub is_message : (family : AddressFamily) (writing : Writing) (rps : List ℕ → Option (List ℕ)) (part : List GroupForm) → IsWriting family writing → IsPart family writing rps part → IsMessage family (written_message writing rps part)
is_message family writing rps part is whole =
    let bounds = fits_parts family writing.budget (units_of part) whole.fitting in
    let size : run_size family (units_of part) ≤ 65000 = omega (arith, bounds.0, is.most) in
    let groups : length (map (written_set rps) part) < 2 ^ 8 = omega (arith, bounds.1, count_groups part whole.ascending whole.some, length-map part (written_set rps)) in
    let sets = sets_are family rps part (parts_valid family rps part whole.some whole.valid) (entries_few family (units_of part) size) in
    (is.upstream.0, is.short, groups, sets)

-- ---- its length

pub sets_size : (family : AddressFamily) (rps : List ℕ → Option (List ℕ)) (part : List GroupForm) → AllByRecursion (IsValid family rps) part
    → canonical_sets_length family (map (written_set rps) part) ≡ length part * empty_set_size family + run_entries (units_of part) * entry_size family
unfolding canonical_sets_length run_entries
sets_size Ipv4 rps [] all = refl
sets_size Ipv6 rps [] all = refl
sets_size Ipv4 rps (this ∷ part) all =
    omega (arith, group_entries Ipv4 rps this (rp_here Ipv4 rps this all.0), entries_append (group_units this) (units_of part), sets_size Ipv4 rps part all.1)
sets_size Ipv6 rps (this ∷ part) all =
    omega (arith, group_entries Ipv6 rps this (rp_here Ipv6 rps this all.0), entries_append (group_units this) (units_of part), sets_size Ipv6 rps part all.1)

framed_length : (sum : ℕ) (body : List ℕ) → length (framed JoinPrune sum body) ≡ 4 + length body
framed_length sum body = omega (arith, length-append (to_be_bytes w16 sum) body)

pub head_and_sets : (family : AddressFamily) (groups entries sets : ℕ) → sets ≡ groups * empty_set_size family + entries * entry_size family
    → 4 + (canonical_head_length family + sets) ≡ empty_message_size family + groups * empty_set_size family + entries * entry_size family
head_and_sets Ipv4 groups entries sets h = omega arith
head_and_sets Ipv6 groups entries sets h = omega arith

pub part_size : (family : AddressFamily) (writing : Writing) (rps : List ℕ → Option (List ℕ)) (part : List GroupForm) (sum : ℕ) (bytes : List ℕ) → IsPart family writing rps part
    → length (canonical family (written_message writing rps part)) ≡ canonical_head_length family + canonical_sets_length family (map (written_set rps) part)
    → bytes ≡ framed JoinPrune sum (canonical family (written_message writing rps part)) → length bytes ≡ run_size family (units_of part)
part_size family writing rps part sum bytes whole body is =
    let groups = count_groups part whole.ascending whole.some in
    let sets = sets_size family rps part (parts_valid family rps part whole.some whole.valid) in
    ap length is ∙ framed_length sum (canonical family (written_message writing rps part)) ∙ ap (λ n. 4 + n) body
    ∙ head_and_sets family (length part) (run_entries (units_of part)) (canonical_sets_length family (map (written_set rps) part)) sets
    ∙ ap (λ n. empty_message_size family + n * empty_set_size family + run_entries (units_of part) * entry_size family) (sym groups)
