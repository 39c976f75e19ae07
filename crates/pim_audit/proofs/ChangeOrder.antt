-- The entries of a change are in order.
use Rattle.pim_audit.proofs.Words.{◌≡◌, ◌∙◌, ℕ, ◌+◌, ◌<◌, ◌≤◌, ◌==◌, Bool, true, false, cond, List, [], ◌∷◌, ◌++◌, Option, None}
use Rattle.pim_audit.proofs.Words.{Some, map, refl, sym, ap, subst, arith, AllByRecursion, flat_map, IsStrictlySortedBy, nat_cmp}
use Rattle.pim_audit.proofs.Words.{ordering_then, Less, Equal, Greater, lt-ltb, nat_list_cmp_total, tied_itself, append-nil}
use Rattle.pim_audit.proofs.Words.{map-append, AddressFamily, Event, address_cmp, what_cmp, JoinRpt, PruneRpt, JoinSource}
use Rattle.pim_audit.proofs.Words.{PruneSource, entry_rank, entry_cmp, EntriesAscend, entry, source_entry, announced_entries, due_entries}
use Rattle.std.specs.Cmp.Lexicographic.{slice_cmp}
use Rattle.std.proofs.lemmas.Grind.{flat_map-append}
use Rattle.std.proofs.lemmas.List.Kept.{IsStrictlySortedBy-filter}
use Rattle.pim_down.specs.declared.machines.key.What.TheVariants.{Star}
use Rattle.pim_form.specs.NormalForm.{GroupForm, IsNormal, IsNormalGroup, AreAscending, AreExceptions, same_address, groups_of}
use Rattle.pim_form.specs.Settled.{group_in}
use Rattle.pim_change.specs.declared.unit.ActionKind.{ActionKind}
use Rattle.pim_change.specs.Change.{Action, of_source, lacking, star_change, sources_change, group_change, ChangeUnit, unit_of, about, change_at, change, in_order}

-- ---- lists in order

pub all_append : {A : Type 0} (P : A → Type 0) (xs ys : List A) → AllByRecursion P xs → AllByRecursion P ys → AllByRecursion P (xs ++ ys)
all_append P [] ys all others = others
all_append P (x ∷ xs) ys all others = (all.0, all_append P xs ys all.1 others)

pub all_by : {A : Type 0} (P Q : A → Type 0) → ((x : A) → P x → Q x) → (xs : List A) → AllByRecursion P xs → AllByRecursion Q xs
all_by P Q more [] all = tt
all_by P Q more (x ∷ xs) all = (more x all.0, all_by P Q more xs all.1)

-- two lists one after the other, if each of the first comes before each of the second
append_up : (xs ys : List Event) → EntriesAscend xs → EntriesAscend ys
    → AllByRecursion (λ x. AllByRecursion (λ y. entry_cmp x y ≡ Less) ys) xs → EntriesAscend (xs ++ ys)
unfolding IsStrictlySortedBy
append_up [] ys up up' before = up'
append_up (x ∷ xs) ys up up' before =
    (all_append (λ y. entry_cmp x y ≡ Less) xs ys up.0 before.0, append_up xs ys up.1 up' before.1)

-- ---- entries of one group, by rank

-- an entry of this group whose rank is from `low` on and below `high`
record Within (group : List ℕ) (low high : ℕ) (this : Event) : Type 0 where
  same : this.group ≡ group
  from : low ≤ entry_rank this
  below : entry_rank this < high

wider : (group : List ℕ) (low low' high high' : ℕ) → low' ≤ low → high ≤ high' → (this : Event) → Within group low high this
    → Within group low' high' this
wider group low low' high high' down up this is =
    record { same = is.same; from = omega (arith, is.from); below = omega (arith, is.below) }

nat_less : (x y : ℕ) → x < y → nat_cmp x y ≡ Less
nat_less x y less = ap (λ b. cond b Less (cond (x == y) Equal Greater)) (lt-ltb x y less)

before : (group : List ℕ) (low middle high : ℕ) (a b : Event) → Within group low middle a → Within group middle high b
    → entry_cmp a b ≡ Less
unfolding entry_cmp
before group low middle high a b of_a of_b =
    ap (λ o. ordering_then (ordering_then o (nat_cmp (entry_rank a) (entry_rank b))) (what_cmp a.what b.what))
    (ap (λ g. address_cmp g b.group) of_a.same ∙ ap (λ g. address_cmp group g) of_b.same ∙ tied_itself nat_list_cmp_total group)
    ∙ ap (λ o. ordering_then o (what_cmp a.what b.what)) (nat_less (entry_rank a) (entry_rank b) (omega (arith, of_a.below, of_b.from)))

all_before : (group : List ℕ) (low middle high : ℕ) (xs ys : List Event) → AllByRecursion (Within group low middle) xs
    → AllByRecursion (Within group middle high) ys → AllByRecursion (λ x. AllByRecursion (λ y. entry_cmp x y ≡ Less) ys) xs
all_before group low middle high xs ys of_xs of_ys =
    all_by (Within group low middle) (λ x. AllByRecursion (λ y. entry_cmp x y ≡ Less) ys)
    (λ x of_x. all_by (Within group middle high) (λ y. entry_cmp x y ≡ Less) (λ y of_y. before group low middle high x y of_x of_y) ys of_ys)
    xs of_xs

-- in order, and of one group within these ranks
record Part (group : List ℕ) (low high : ℕ) (entries : List Event) : Type 0 where
  up : EntriesAscend entries
  within : AllByRecursion (Within group low high) entries

both_parts : (group : List ℕ) (low middle high : ℕ) → low ≤ middle → middle ≤ high → (xs ys : List Event) → Part group low middle xs
    → Part group middle high ys → Part group low high (xs ++ ys)
both_parts group low middle high first second xs ys of_xs of_ys = record {
  up = append_up xs ys of_xs.up of_ys.up (all_before group low middle high xs ys of_xs.within of_ys.within);
  within = all_append (Within group low high) xs ys
      (all_by (Within group low middle) (Within group low high) (wider group low low middle high (omega arith) second) xs of_xs.within)
      (all_by (Within group middle high) (Within group low high) (wider group middle low high high first (omega arith)) ys of_ys.within);
}

no_part : (group : List ℕ) (low high : ℕ) → Part group low high []
unfolding IsStrictlySortedBy
no_part group low high = record { up = tt; within = tt }

-- ---- entries of sources

abbrev pub rank_of : ActionKind → ℕ
rank_of JoinRpt = 2
rank_of PruneRpt = 3
rank_of JoinSource = 4
rank_of PruneSource = 5

source_within : (group : List ℕ) (kind : ActionKind) (source : List ℕ)
    → Within group (rank_of kind) (rank_of kind + 1) (source_entry group kind source)
source_within group JoinRpt source = record { same = refl; from = omega arith; below = omega arith }
source_within group PruneRpt source = record { same = refl; from = omega arith; below = omega arith }
source_within group JoinSource source = record { same = refl; from = omega arith; below = omega arith }
source_within group PruneSource source = record { same = refl; from = omega arith; below = omega arith }

-- two entries of one kind compare by their sources
by_source : (group : List ℕ) (kind : ActionKind) (s t : List ℕ)
    → entry_cmp (source_entry group kind s) (source_entry group kind t) ≡ slice_cmp nat_cmp s t
unfolding entry_cmp what_cmp
by_source group JoinRpt s t = ap (λ o. ordering_then (ordering_then o Equal) (address_cmp s t)) (tied_itself nat_list_cmp_total group)
by_source group PruneRpt s t = ap (λ o. ordering_then (ordering_then o Equal) (address_cmp s t)) (tied_itself nat_list_cmp_total group)
by_source group JoinSource s t = ap (λ o. ordering_then (ordering_then o Equal) (address_cmp s t)) (tied_itself nat_list_cmp_total group)
by_source group PruneSource s t = ap (λ o. ordering_then (ordering_then o Equal) (address_cmp s t)) (tied_itself nat_list_cmp_total group)

all_sources_after : (group : List ℕ) (kind : ActionKind) (s : List ℕ) (sources : List (List ℕ))
    → AllByRecursion (λ t. slice_cmp nat_cmp s t ≡ Less) sources
    → AllByRecursion (λ e. entry_cmp (source_entry group kind s) e ≡ Less) (map (source_entry group kind) sources)
all_sources_after group kind s [] after = tt
all_sources_after group kind s (t ∷ sources) after =
    (by_source group kind s t ∙ after.0, all_sources_after group kind s sources after.1)

sources_part : (group : List ℕ) (kind : ActionKind) (sources : List (List ℕ)) → AreAscending sources
    → Part group (rank_of kind) (rank_of kind + 1) (map (source_entry group kind) sources)
unfolding IsStrictlySortedBy
sources_part group kind [] up = no_part group (rank_of kind) (rank_of kind + 1)
sources_part group kind (s ∷ sources) up =
    let others = sources_part group kind sources up.1 in
    record {
      up = (all_sources_after group kind s sources up.0, others.up);
      within = (source_within group kind s, others.within);
    }

-- ---- the entries of one group

-- the entries of what is said of a group
abbrev pub group_entries : List ℕ → List Action → List Event
group_entries group actions = flat_map announced_entries (about group actions)

pub entries_both : (group : List ℕ) (xs ys : List Action) → group_entries group (xs ++ ys) ≡ group_entries group xs ++ group_entries group ys
entries_both group xs ys =
    ap (flat_map announced_entries) (map-append (unit_of group) xs ys) ∙ flat_map-append announced_entries (about group xs) (about group ys)

pub entries_of_sources : (group : List ℕ) (kind : ActionKind) (sources : List (List ℕ))
    → group_entries group (map (of_source kind) sources) ≡ map (source_entry group kind) sources
entries_of_sources group kind [] = refl
entries_of_sources group kind (s ∷ sources) =
    ap (λ (l : List Event). source_entry group kind s ∷ l) (entries_of_sources group kind sources)

some_part : (group : List ℕ) (kind : ActionKind) (sources : List (List ℕ)) → AreAscending sources
    → Part group (rank_of kind) (rank_of kind + 1) (group_entries group (map (of_source kind) sources))
some_part group kind sources up =
    subst (Part group (rank_of kind) (rank_of kind + 1)) (sym (entries_of_sources group kind sources)) (sources_part group kind sources up)

-- the exceptions of a star ascend
abbrev IsUp : Option (List (List ℕ)) → Type 0
IsUp None = Unit {0}
IsUp (Some exceptions) = AreAscending exceptions

lacking_up : (one other : List (List ℕ)) → AreAscending one → AreAscending (lacking one other)
lacking_up one other up = IsStrictlySortedBy-filter (slice_cmp nat_cmp) _ one up

star_within : (group : List ℕ) (joins : Bool) → Within group 0 2 (entry joins group Star)
star_within group true = record { same = refl; from = omega arith; below = omega arith }
star_within group false = record { same = refl; from = omega arith; below = omega arith }

one_part : (group : List ℕ) (joins : Bool) → Part group 0 2 (entry joins group Star ∷ [])
unfolding IsStrictlySortedBy
one_part group joins = record { up = (tt, tt); within = (star_within group joins, tt) }

star_part : (group : List ℕ) (old new : Option (List (List ℕ))) → IsUp old → IsUp new
    → Part group 0 4 (group_entries group (star_change old new))
star_part group None None up up' = no_part group 0 4
star_part group None (Some exceptions) up up' =
    subst (Part group 0 4) (sym (append-nil (entry true group Star ∷ map (source_entry group PruneRpt) exceptions)))
    (both_parts group 0 2 4 (omega arith) (omega arith) (entry true group Star ∷ []) (map (source_entry group PruneRpt) exceptions)
    (one_part group true) (lower (sources_part group PruneRpt exceptions up')))
  where
    lower : {entries : List Event} → Part group 3 4 entries → Part group 2 4 entries
    lower {entries} part = record {
      up = part.up;
      within = all_by (Within group 3 4) (Within group 2 4) (wider group 3 2 4 4 (omega arith) (omega arith)) entries part.within;
    }
star_part group (Some excepted) None up up' = record {
  up = (one_part group false).up;
  within = all_by (Within group 0 2) (Within group 0 4) (wider group 0 0 2 4 (omega arith) (omega arith)) (entry false group Star ∷ []) (one_part group false).within;
}
star_part group (Some excepted) (Some exceptions) up up' =
    subst (Part group 0 4) (sym (entries_both group (map (of_source JoinRpt) (lacking excepted exceptions)) (map (of_source PruneRpt) (lacking exceptions excepted))))
    (lower (both_parts group 2 3 4 (omega arith) (omega arith)
    (group_entries group (map (of_source JoinRpt) (lacking excepted exceptions))) (group_entries group (map (of_source PruneRpt) (lacking exceptions excepted)))
    (some_part group JoinRpt (lacking excepted exceptions) (lacking_up excepted exceptions up))
    (some_part group PruneRpt (lacking exceptions excepted) (lacking_up exceptions excepted up'))))
  where
    lower : {entries : List Event} → Part group 2 4 entries → Part group 0 4 entries
    lower {entries} part = record {
      up = part.up;
      within = all_by (Within group 2 4) (Within group 0 4) (wider group 2 0 4 4 (omega arith) (omega arith)) entries part.within;
    }

sources_change_part : (group : List ℕ) (old new : List (List ℕ)) → AreAscending old → AreAscending new
    → Part group 4 6 (group_entries group (sources_change old new))
sources_change_part group old new up up' =
    subst (Part group 4 6) (sym (entries_both group (map (of_source JoinSource) (lacking new old)) (map (of_source PruneSource) (lacking old new))))
    (both_parts group 4 5 6 (omega arith) (omega arith)
    (group_entries group (map (of_source JoinSource) (lacking new old))) (group_entries group (map (of_source PruneSource) (lacking old new)))
    (some_part group JoinSource (lacking new old) (lacking_up new old up'))
    (some_part group PruneSource (lacking old new) (lacking_up old new up)))

-- a group of a form whose lists ascend
record IsGroupUp (this : GroupForm) : Type 0 where
  star : IsUp this.star
  sources : AreAscending this.sources

group_part : (group : List ℕ) (old new : GroupForm) → IsGroupUp old → IsGroupUp new
    → Part group 0 6 (group_entries group (group_change old new))
group_part group old new up up' =
    subst (Part group 0 6) (sym (entries_both group (star_change old.star new.star) (sources_change old.sources new.sources)))
    (both_parts group 0 4 6 (omega arith) (omega arith)
    (group_entries group (star_change old.star new.star)) (group_entries group (sources_change old.sources new.sources))
    (star_part group old.star new.star up.star up'.star) (sources_change_part group old.sources new.sources up.sources up'.sources))

-- ---- all groups

star_up : (family : AddressFamily) (star : Option (List (List ℕ))) → AreExceptions family star → IsUp star
star_up family None are = tt
star_up family (Some exceptions) are = are.0

group_in_up : (family : AddressFamily) (group : List ℕ) (form : List GroupForm) → AllByRecursion (IsNormalGroup family) form
    → IsGroupUp (group_in group form)
unfolding group_in IsStrictlySortedBy
group_in_up family group [] normal = record { star = star_up family None tt; sources = tt }
group_in_up family group (this ∷ form) normal =
    elim (same_address group this.group) as (λ b. IsGroupUp (cond b this (group_in group form))) [
      | true ↦ record { star = star_up family this.star normal.0.exceptions; sources = normal.0.ascending }
      | false ↦ group_in_up family group form normal.1
    ]

module _ (E : List ℕ → List Event) (part : (group : List ℕ) → Part group 0 6 (E group)) where
  all_after : (group : List ℕ) (groups : List (List ℕ)) → AllByRecursion (λ h. slice_cmp nat_cmp group h ≡ Less) groups
      → AllByRecursion (λ (e : Event). slice_cmp nat_cmp group e.group ≡ Less) (flat_map E groups)
  all_after group [] after = tt
  all_after group (h ∷ groups) after = all_append (λ (e : Event). slice_cmp nat_cmp group e.group ≡ Less) (E h) (flat_map E groups)
      (all_by (Within h 0 6) (λ (e : Event). slice_cmp nat_cmp group e.group ≡ Less)
      (λ e is. ap (λ g. slice_cmp nat_cmp group g) is.same ∙ after.0) (E h) (part h).within)
      (all_after group groups after.1)

  first_before : (group : List ℕ) (a b : Event) → Within group 0 6 a → slice_cmp nat_cmp group b.group ≡ Less → entry_cmp a b ≡ Less
  unfolding entry_cmp
  first_before group a b of_a after =
      ap (λ o. ordering_then (ordering_then o (nat_cmp (entry_rank a) (entry_rank b))) (what_cmp a.what b.what))
      (ap (λ g. address_cmp g b.group) of_a.same ∙ after)

  groups_up : (groups : List (List ℕ)) → AreAscending groups → EntriesAscend (flat_map E groups)
  unfolding IsStrictlySortedBy
  groups_up [] up = tt
  groups_up (group ∷ groups) up = append_up (E group) (flat_map E groups) (part group).up (groups_up groups up.1)
      (all_by (Within group 0 6) (λ x. AllByRecursion (λ y. entry_cmp x y ≡ Less) (flat_map E groups))
      (λ x of_x. all_by (λ (e : Event). slice_cmp nat_cmp group e.group ≡ Less) (λ y. entry_cmp x y ≡ Less)
      (λ y after. first_before group x y of_x after) (flat_map E groups) (all_after group groups up.0))
      (E group) (part group).within)

pub flat_twice : (units : List ℕ → List ChangeUnit) (groups : List (List ℕ))
    → flat_map announced_entries (flat_map units groups) ≡ flat_map (λ group. flat_map announced_entries (units group)) groups
flat_twice units [] = refl
flat_twice units (group ∷ groups) =
    flat_map-append announced_entries (units group) (flat_map units groups)
    ∙ ap (λ (l : List Event). flat_map announced_entries (units group) ++ l) (flat_twice units groups)

pub due_up : (family : AddressFamily) (asked wanted : List GroupForm)
    → ((addresses : List (List ℕ)) → AreAscending (in_order addresses))
    → IsNormal family asked → IsNormal family wanted → EntriesAscend (due_entries asked wanted)
unfolding change
due_up family asked wanted ascend of_asked of_wanted =
    let groups : List (List ℕ) = in_order (groups_of asked ++ groups_of wanted) in
    subst EntriesAscend (sym (flat_twice (change_at asked wanted) groups))
    (groups_up (λ group. flat_map announced_entries (change_at asked wanted group))
    (λ group. group_part group (group_in group asked) (group_in group wanted)
    (group_in_up family group asked of_asked.groups) (group_in_up family group wanted of_wanted.groups))
    groups (ascend (groups_of asked ++ groups_of wanted)))
