-- How many entries the units of a part have, and whether the part fits a message.
use Rattle.pim_emit.proofs.Words.{◌≡◌, ◌∙◌, ℕ, ◌+◌, ◌*◌, ◌≤◌, true, false, List, [], ◌∷◌, ◌++◌, Option, None, Some, length, map}
use Rattle.pim_emit.proofs.Words.{nat_le, refl, sym, ap, subst, arith, append_assoc, length-append, AllByRecursion}
use Rattle.pim_emit.proofs.Words.{IsStrictlySortedBy, Less, false≢true, and_from, and_parts, le-leb, leb-true, false_from_ne_true}
use Rattle.pim_emit.proofs.Words.{flat_map-append, append-nil, map-append, AddressFamily, Ipv4, Ipv6, address_cmp}
use Rattle.pim_emit.proofs.Words.{GroupsAreCounted, GroupForm, AreAscending, groups_of, is_empty, exceptions_of, WantUnit}
use Rattle.pim_emit.proofs.Words.{star_unit, source_unit, star_units, group_units, units_of, run_entries, run_groups, run_size}
use Rattle.pim_emit.proofs.Words.{empty_set_size, entry_size, fits, most_groups, StopsBefore, message_size}

-- ---- entries

entries_append : (xs ys : List WantUnit) → run_entries (xs ++ ys) ≡ run_entries xs + run_entries ys
unfolding run_entries
entries_append [] ys = omega arith
entries_append (x ∷ xs) ys = omega (arith, entries_append xs ys)

abbrev pub entries_of_star : Option (List (List ℕ)) → ℕ
entries_of_star None = 0
entries_of_star (Some exceptions) = 1 + length exceptions

entries_of_sources : (group : List ℕ) (sources : List (List ℕ)) → run_entries (map (source_unit group) sources) ≡ length sources
unfolding run_entries
entries_of_sources group [] = refl
entries_of_sources group (x ∷ sources) = omega (arith, entries_of_sources group sources)

entries_of_units : (group : List ℕ) (star : Option (List (List ℕ))) → run_entries (star_units group star) ≡ entries_of_star star
unfolding run_entries
entries_of_units group None = refl
entries_of_units group (Some exceptions) = omega arith

group_entries : (this : GroupForm) → run_entries (group_units this) ≡ entries_of_star this.star + length this.sources
group_entries this =
    let whole = entries_append (star_units this.group this.star) (map (source_unit this.group) this.sources) in
    let star = entries_of_units this.group this.star in
    let sources = entries_of_sources this.group this.sources in
    omega arith

-- ---- a part with one more group

pub units_append : (one other : List GroupForm) → units_of (one ++ other) ≡ units_of one ++ units_of other
units_append one other = flat_map-append group_units one other

pub units_more : (part : List GroupForm) (this : GroupForm) → units_of (part ++ this ∷ []) ≡ units_of part ++ group_units this
units_more part this = units_append part (this ∷ []) ∙ ap (λ (units : List WantUnit). units_of part ++ units) (append-nil (group_units this))

pub entries_more : (part : List GroupForm) (this : GroupForm) → run_entries (units_of (part ++ this ∷ [])) ≡ run_entries (units_of part) + (entries_of_star this.star + length this.sources)
entries_more part this =
    let units = ap run_entries (units_more part this) in
    let front = entries_append (units_of part) (group_units this) in
    let count = group_entries this in
    omega arith

pub groups_more : (part : List GroupForm) (this : GroupForm) → length (part ++ this ∷ []) ≡ length part + 1
groups_more part this = length-append part (this ∷ [])

pub all_append : {A : Type 0} (P : A → Type 0) (xs ys : List A) → AllByRecursion P xs → AllByRecursion P ys → AllByRecursion P (xs ++ ys)
all_append P [] ys all_x all_y = all_y
all_append P (x ∷ xs) ys all_x all_y = (all_x.0, all_append P xs ys all_x.1 all_y)

abbrev pub AreBefore : List ℕ → List GroupForm → Type 0
AreBefore group part = AllByRecursion (λ this. address_cmp this.group group ≡ Less) part

below_more : (a : List ℕ) (part : List GroupForm) (this : GroupForm) → AllByRecursion (λ b. address_cmp a b ≡ Less) (groups_of part) → address_cmp a this.group ≡ Less
    → AllByRecursion (λ b. address_cmp a b ≡ Less) (groups_of (part ++ this ∷ []))
below_more a [] this below less = (less, tt)
below_more a (x ∷ part) this below less = (below.0, below_more a part this below.1 less)

pub ascending_more : (part : List GroupForm) (this : GroupForm) → AreAscending (groups_of part) → AreBefore this.group part → AreAscending (groups_of (part ++ this ∷ []))
unfolding IsStrictlySortedBy
ascending_more [] this up before = (tt, tt)
ascending_more (x ∷ part) this up before = (below_more x.group part this up.0 before.0, ascending_more part this up.1 before.1)

-- ---- sizes

pub size_more : (family : AddressFamily) (groups entries count : ℕ) → message_size family (groups + 1) (entries + count) ≡ message_size family groups entries + empty_set_size family + count * entry_size family
size_more Ipv4 groups entries count = omega arith
size_more Ipv6 groups entries count = omega arith

abbrev pub IsSome : GroupForm → Type 0
IsSome this = is_empty this.star this.sources ≡ false

-- a message with so many groups and entries is within the budget of bytes and groups
abbrev pub HasRoom : AddressFamily → ℕ → ℕ → ℕ → Type 0
HasRoom family budget groups entries = (message_size family groups entries ≤ budget) × (groups ≤ 255)

fits_parts : (family : AddressFamily) (budget : ℕ) (run : List WantUnit) → fits family budget run ≡ true → (run_size family run ≤ budget) × (run_groups run ≤ 255)
fits_parts family budget run h =
    let both = and_parts (nat_le (run_size family run) budget) (nat_le (run_groups run) most_groups) h in
    (leb-true (run_size family run) budget both.0, leb-true (run_groups run) most_groups both.1)

module _ (counted : GroupsAreCounted) (family : AddressFamily) (budget : ℕ) (part : List GroupForm) (up : AreAscending (groups_of part)) (some : AllByRecursion IsSome part) where
  pub fits_by : HasRoom family budget (length part) (run_entries (units_of part)) → fits family budget (units_of part) ≡ true
  fits_by room =
      let size : HasRoom family budget (run_groups (units_of part)) (run_entries (units_of part)) =
      subst (λ n. HasRoom family budget n (run_entries (units_of part))) (sym (counted part up some)) room in
      and_from (nat_le (run_size family (units_of part)) budget) (nat_le (run_groups (units_of part)) most_groups)
      (le-leb (run_size family (units_of part)) budget size.0) (le-leb (run_groups (units_of part)) most_groups size.1)

  pub fits_not : (HasRoom family budget (length part) (run_entries (units_of part)) → ⊥) → fits family budget (units_of part) ≡ false
  fits_not full = false_from_ne_true (fits family budget (units_of part)) (λ h.
      full (subst (λ n. HasRoom family budget n (run_entries (units_of part))) (counted part up some) (fits_parts family budget (units_of part) h)))

-- ---- where the next unit has no room

module _ (counted : GroupsAreCounted) (family : AddressFamily) (budget : ℕ) (part : List GroupForm) (up : AreAscending (groups_of part)) (some : AllByRecursion IsSome part) where
  -- a run that is the units of the part with this group, for which there is no room
  no_room_for : (this : GroupForm) (run : List WantUnit) → AreBefore this.group part → IsSome this → units_of (part ++ this ∷ []) ≡ run
      → (HasRoom family budget (length part + 1) (run_entries (units_of part) + (entries_of_star this.star + length this.sources)) → ⊥) → fits family budget run ≡ false
  no_room_for this run before is_some is full =
      subst (λ (r : List WantUnit). fits family budget r ≡ false) is
      (fits_not counted family budget (part ++ this ∷ []) (ascending_more part this up before) (all_append IsSome part (this ∷ []) some (is_some, tt))
      (λ room.
      let groups = groups_more part this in
      let entries = entries_more part this in
      full (subst (λ n. HasRoom family budget n (run_entries (units_of part) + (entries_of_star this.star + length this.sources))) groups
      (subst (λ n. HasRoom family budget (length (part ++ this ∷ [])) n) entries room))))

  -- the first unit of a new group: its star with the exceptions, or a source
  pub stops_before_group : (this : GroupForm) (left : List WantUnit) → AreBefore this.group part → IsSome this
      → (HasRoom family budget (length part + 1) (run_entries (units_of part) + (1 + length (exceptions_of this.star))) → ⊥) → StopsBefore family budget (units_of part) (group_units this ++ left)
  stops_before_group this left before is_some full = by this.star this.sources is_some full
    where
      by : (star : Option (List (List ℕ))) (sources : List (List ℕ)) → is_empty star sources ≡ false
          → (HasRoom family budget (length part + 1) (run_entries (units_of part) + (1 + length (exceptions_of star))) → ⊥)
          → StopsBefore family budget (units_of part) ((star_units this.group star ++ map (source_unit this.group) sources) ++ left)
      by None [] none no_room = absurd (false≢true (sym none))
      by None (s ∷ sources) none no_room =
          let one : GroupForm = record { group = this.group; star = None; sources = s ∷ [] } in
          no_room_for one (units_of part ++ source_unit this.group s ∷ []) before refl (units_more part one) no_room
      by (Some e) sources none no_room =
          let one : GroupForm = record { group = this.group; star = Some e; sources = [] } in
          no_room_for one (units_of part ++ star_unit this.group e ∷ []) before refl (units_more part one)
          (λ room. no_room (subst (λ n. HasRoom family budget (length part + 1) (run_entries (units_of part) + n)) (omega arith) room))

  -- one more source of the group that is told last
  pub stops_before_source : (this : GroupForm) (s : List ℕ) (left : List WantUnit) → AreBefore this.group part → IsSome this
      → (HasRoom family budget (length part + 1) (run_entries (units_of part) + (entries_of_star this.star + (length this.sources + 1))) → ⊥)
      → StopsBefore family budget (units_of (part ++ this ∷ [])) (source_unit this.group s ∷ left)
  stops_before_source this s left before is_some full =
      let grown : GroupForm = record { group = this.group; star = this.star; sources = this.sources ++ s ∷ [] } in
      let last : map (source_unit this.group) (this.sources ++ s ∷ []) ≡ map (source_unit this.group) this.sources ++ source_unit this.group s ∷ [] = map-append (source_unit this.group) this.sources (s ∷ []) in
      let front = star_units this.group this.star in
      let units : units_of (part ++ grown ∷ []) ≡ units_of (part ++ this ∷ []) ++ source_unit this.group s ∷ [] =
      units_more part grown ∙ ap (λ (us : List WantUnit). units_of part ++ (front ++ us)) last
      ∙ ap (λ (us : List WantUnit). units_of part ++ us) (sym (append_assoc front (map (source_unit this.group) this.sources) (source_unit this.group s ∷ [])))
      ∙ sym (append_assoc (units_of part) (group_units this) (source_unit this.group s ∷ []))
      ∙ ap (λ (us : List WantUnit). us ++ source_unit this.group s ∷ []) (sym (units_more part this)) in
      no_room_for grown (units_of (part ++ this ∷ []) ++ source_unit this.group s ∷ []) before (some_more this.star this.sources s) units
      (λ room. full (subst (λ n. HasRoom family budget (length part + 1) (run_entries (units_of part) + (entries_of_star this.star + n))) (length-append this.sources (s ∷ [])) room))
    where
      some_more : (star : Option (List (List ℕ))) (sources : List (List ℕ)) (s : List ℕ) → is_empty star (sources ++ s ∷ []) ≡ false
      some_more None [] s = refl
      some_more None (x ∷ sources) s = refl
      some_more (Some e) sources s = refl
