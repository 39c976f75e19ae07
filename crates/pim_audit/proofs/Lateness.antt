-- Which entries become late, one after the other, and in order.
use Rattle.pim_audit.proofs.Words.{◌≡◌, ◌∙◌, ℕ, ◌+◌, ◌<◌, Bool, true, false, ◌&&◌, ◌||◌, not, cond, List, [], ◌∷◌, ◌++◌, None, Some}
use Rattle.std.proofs.Common.{◌⊎◌, inl, inr, nat_lt}
use Rattle.pim_audit.proofs.Words.{length, map, arith, refl, sym, ap, ap₂, subst}
use Rattle.pim_audit.proofs.Words.{false≢true, AllByRecursion, filter, find, Less, Greater}
use Rattle.pim_audit.proofs.Words.{IsStrictlySortedBy, on_total, map-append, Event}
use Rattle.pim_audit.proofs.Words.{Due, DueEntry, held_entries, becomes_late, marked}
use Rattle.pim_audit.proofs.Words.{EntriesAscend, entry_cmp, same_entry, due_seen, dues_seen, event_seen}
use Rattle.pim_audit.proofs.EntryOrder.{entry_total}
use Rattle.pim_audit.proofs.Keys.{reported_none, same_turned}
use Rattle.pim_audit.proofs.OrderedEntries.{cmp_by, held_seen, in_order}
use Rattle.pim_audit.proofs.SameEntry.{all_if_listed, listed_has}
use Rattle.std.proofs.lemmas.List.Elements.{recursion_from_All, All-from_recursion}
use Rattle.std.proofs.lemmas.List.Kept.{IsStrictlySortedBy-filter}
use Rattle.std.proofs.lemmas.List.Sorted.{All-permutation, IsPermutation-cons}
use Rattle.std.proofs.lemmas.List.Sorted.{IsPermutation-map, IsPermutation-middle, IsPermutation-pop_more}
use Rattle.std.proofs.lemmas.List.Sorted.{IsPermutation-refl, IsPermutation-sym, IsPermutation-trans, length_permutation}
use Rattle.std.proofs.lemmas.Map.Keys.{IsDistinct-from_sorted, IsDistinct-IsPermutation}
use Rattle.std.specs.Cmp.{IsTotalOrder}
unfoldable use Rattle.std.specs.List.{IsDistinct}
use Rattle.std.specs.List.Sorted.{IsPermutation, IsSorted}
use Rattle.std.specs.Ordering.{ordering_reverse}
use Rattle.std.specs.declared.cmp.Ordering.{Ordering}
use Rattle.pim_audit.specs.Dued.{reported_if, with_reported}
use Rattle.pim_audit.specs.Gathering.{is_entry_of}

-- ---- two lists in strict order of the same elements are one

module _ {K : Type 0} (R : K → K → Ordering) (total : IsTotalOrder R) where
  never_below_itself : (x : K) → R x x ≡ Less → ⊥
  never_below_itself x less = turned less (sym less ∙ total.antisymm x x ∙ ap ordering_reverse less)
    where
      turned : R x x ≡ Less → Less ≡ Greater → ⊥
      turned h e = cc

  all_right : {P Q : K → Type 0} → ((z : K) → P z → Q z) → (zs : List K) → AllByRecursion P zs → AllByRecursion Q zs
  all_right f [] all = tt
  all_right f (z ∷ zs) all = (f z all.0, all_right f zs all.1)

  all_both : {P Q S : K → Type 0} → ((z : K) → P z → Q z → S z) → (zs : List K) → AllByRecursion P zs → AllByRecursion Q zs
      → AllByRecursion S zs
  all_both f [] ps qs = tt
  all_both f (z ∷ zs) ps qs = (f z ps.0 qs.0, all_both f zs ps.1 qs.1)

  -- what is true of all of these is true of all of those
  abbrev pub Covers : List K → List K → Type 1
  Covers xs ys = (P : K → Type 0) → AllByRecursion P xs → AllByRecursion P ys

  first_is : (x y : K) → (y ≡ x) ⊎ (R x y ≡ Less) → (x ≡ y) ⊎ (R y x ≡ Less) → y ≡ x
  first_is x y (inl is) other = is
  first_is x y (inr less) (inl is) = sym is
  first_is x y (inr less) (inr greater) = absurd (never_below_itself x (total.trans x y x less greater))

  others_cover : (x : K) (xs ys : List K) → AllByRecursion (λ y. R x y ≡ Less) ys → Covers (x ∷ xs) (x ∷ ys) → Covers xs ys
  others_cover x xs ys after covers P all =
      all_both (λ z less (one : (z ≡ x) ⊎ P z). but z less one) ys after
      (covers (λ z. (z ≡ x) ⊎ P z) (inl refl, all_right (λ z p. inr p) xs all)).1
    where
      but : (z : K) → R x z ≡ Less → (z ≡ x) ⊎ P z → P z
      but z less (inl is) = absurd (never_below_itself x (ap (R x) (sym is) ∙ less))
      but z less (inr p) = p

  pub one_sorted : (xs ys : List K) → IsStrictlySortedBy R xs → IsStrictlySortedBy R ys → Covers xs ys → Covers ys xs → xs ≡ ys
  unfolding IsStrictlySortedBy
  one_sorted [] [] up up' to back = refl
  one_sorted [] (y ∷ ys) up up' to back = absurd (to (λ z. ⊥) tt).0
  one_sorted (x ∷ xs) [] up up' to back = absurd (back (λ z. ⊥) tt).0
  one_sorted (x ∷ xs) (y ∷ ys) up up' to back =
      let one : y ≡ x = first_is x y (to (λ z. (z ≡ x) ⊎ (R x z ≡ Less)) (inl refl, all_right (λ z less. inr less) xs up.0)).0
      (back (λ z. (z ≡ y) ⊎ (R y z ≡ Less)) (inl refl, all_right (λ z less. inr less) ys up'.0)).0 in
      let after : AllByRecursion (λ z. R x z ≡ Less) ys = subst (λ (w : K). AllByRecursion (λ z. R w z ≡ Less) ys) one up'.0 in
      ap₂ (λ (z : K) (zs : List K). z ∷ zs) (sym one)
      (one_sorted xs ys up.1 up'.1
      (others_cover x xs ys after (subst (λ (w : K). Covers (x ∷ xs) (w ∷ ys)) one to))
      (others_cover x ys xs up.0 (subst (λ (w : K). Covers (w ∷ ys) (x ∷ xs)) one back)))

-- two lists of entries in order that list the same are one
pub one_of_entries : (xs ys : List Event) → EntriesAscend xs → EntriesAscend ys
    → ((this : Event) → is_entry_of xs this ≡ is_entry_of ys this) → xs ≡ ys
one_of_entries xs ys up up' same = one_sorted entry_cmp entry_total xs ys up up'
    (λ P all. all_if_listed P ys (λ this listed. listed_has P xs all this (same this ∙ listed)))
    (λ P all. all_if_listed P xs (λ this listed. listed_has P ys all this (sym (same this) ∙ listed)))

-- ---- due entries in order

abbrev pub due_cmp : DueEntry → DueEntry → Ordering
due_cmp a b = entry_cmp a.entry b.entry

pub due_total : IsTotalOrder due_cmp
due_total = on_total (λ (h : DueEntry). h.entry) entry_total

after_by : (x : DueEntry) (held : List DueEntry) → AllByRecursion (λ (e : Event). entry_cmp x.entry e ≡ Less) (held_entries held)
    → AllByRecursion (λ (h : DueEntry). due_cmp x h ≡ Less) held
after_by x [] after = tt
after_by x (h ∷ held) after = (after.0, after_by x held after.1)

pub by_entry : (held : List DueEntry) → EntriesAscend (held_entries held) → IsStrictlySortedBy due_cmp held
unfolding IsStrictlySortedBy
by_entry [] up = tt
by_entry (x ∷ held) up = (after_by x held up.0, by_entry held up.1)

after_of : (x : DueEntry) (held : List DueEntry) → AllByRecursion (λ (h : DueEntry). due_cmp x h ≡ Less) held
    → AllByRecursion (λ (e : Event). entry_cmp x.entry e ≡ Less) (held_entries held)
after_of x [] after = tt
after_of x (h ∷ held) after = (after.0, after_of x held after.1)

pub of_entry : (held : List DueEntry) → IsStrictlySortedBy due_cmp held → EntriesAscend (held_entries held)
unfolding IsStrictlySortedBy
of_entry [] up = tt
of_entry (x ∷ held) up = (after_of x held up.0, of_entry held up.1)

pub filter_up : (p : DueEntry → Bool) (held : List DueEntry) → EntriesAscend (held_entries held)
    → EntriesAscend (held_entries (filter p held))
filter_up p held up = of_entry (filter p held) (IsStrictlySortedBy-filter due_cmp p held (by_entry held up))

-- ---- a sorted list of what became late

module _ {A : Type 0} (bytes_of : A → List ℕ) where
  abbrev pub entry_of : Due A → Event
  entry_of d = event_seen bytes_of d.entry

  -- the entries that became late, sorted, are those of what is held
  pub sorted_late : (late : List (Due A)) (all : List DueEntry) → IsPermutation all (dues_seen bytes_of late)
      → IsSorted (cmp_by entry_of) late
      → EntriesAscend (held_entries all) → dues_seen bytes_of late ≡ all
  sorted_late late all moved sorted up =
      let distinct : IsDistinct same_entry (map entry_of late) =
      subst (IsDistinct same_entry) (held_seen bytes_of late)
      (IsDistinct-IsPermutation same_entry same_turned (held_entries all) (held_entries (dues_seen bytes_of late))
      (IsPermutation-map (λ (h : DueEntry). h.entry) all (dues_seen bytes_of late) moved)
      (IsDistinct-from_sorted entry_cmp (held_entries all) up)) in
      let up' : EntriesAscend (held_entries (dues_seen bytes_of late)) =
      subst EntriesAscend (sym (held_seen bytes_of late))
      (in_order entry_of late late distinct (IsPermutation-refl late) sorted) in
      one_sorted due_cmp due_total (dues_seen bytes_of late) all (by_entry (dues_seen bytes_of late) up') (by_entry all up)
      (λ P each. recursion_from_All P all (All-permutation P (dues_seen bytes_of late) all
      (IsPermutation-sym all (dues_seen bytes_of late) moved)
      (All-from_recursion P (dues_seen bytes_of late) each)))
      (λ P each. recursion_from_All P (dues_seen bytes_of late) (All-permutation P all (dues_seen bytes_of late) moved
      (All-from_recursion P all each)))

-- ---- one entry that becomes late

pub held_marked : (moment grace : ℕ) (held : List DueEntry) → held_entries (map (marked moment grace) held) ≡ held_entries held
held_marked moment grace [] = refl
held_marked moment grace (h ∷ held) = ap (λ (l : List Event). h.entry ∷ l) (held_marked moment grace held)

-- where none becomes late, marking changes nothing
pub marked_none : (moment grace : ℕ) (held : List DueEntry) → filter (becomes_late moment grace) held ≡ []
    → map (marked moment grace) held ≡ held
marked_none moment grace [] none = refl
marked_none moment grace (h ∷ held) none =
    elim (becomes_late moment grace h) as (λ b. cond b (h ∷ filter (becomes_late moment grace) held)
    (filter (becomes_late moment grace) held) ≡ []
    → record { entry = h.entry; since = h.since; is_reported = h.is_reported || b } ∷ map (marked moment grace) held ≡ h ∷ held) [
      | true ↦ λ some. absurd (not_none some)
      | false ↦ λ none'. ap₂ (λ (r : Bool) (l : List DueEntry). record { entry = h.entry; since = h.since; is_reported = r } ∷ l)
          (or_false h.is_reported) (marked_none moment grace held none')
    ] none
  where
    not_none : {x : DueEntry} {xs : List DueEntry} → x ∷ xs ≡ [] → ⊥
    not_none e = cc

    or_false : (b : Bool) → (b || false) ≡ b
    or_false true = refl
    or_false false = refl

one_found : (d h : DueEntry) → Some d ≡ Some h → d ≡ h
one_found d h is = cc

none_is_some : (h : DueEntry) → None ≡ Some h → ⊥
none_is_some h e = cc

module _ (moment grace : ℕ) (h : DueEntry) (late : becomes_late moment grace h ≡ true) where
  reported_now : DueEntry
  reported_now = record { entry = h.entry; since = h.since; is_reported = true }

  marked_alike : (x : DueEntry) → (same_entry h.entry x.entry ≡ true → x ≡ h)
      → marked moment grace (reported_if h.entry x) ≡ marked moment grace x
  marked_alike x one =
      elim (same_entry h.entry x.entry) as (λ b. same_entry h.entry x.entry ≡ b
      → marked moment grace (record { entry = x.entry; since = x.since; is_reported = cond b true x.is_reported })
      ≡ marked moment grace x) [
        | true ↦ λ same. ap (λ (b : Bool). record { entry = x.entry; since = x.since; is_reported = b })
            (sym (or_true x.is_reported (becomes_late moment grace x) (ap (becomes_late moment grace) (one same) ∙ late)))
        | false ↦ λ apart. refl
      ] refl
    where
      or_true : (a b : Bool) → b ≡ true → (a || b) ≡ true
      or_true true b is = refl
      or_true false b is = is

  -- marking what is held with this one reported is marking what is held
  pub marked_reported : (held : List DueEntry) → EntriesAscend (held_entries held)
      → find (λ other. same_entry other.entry h.entry) held ≡ Some h
      → map (marked moment grace) (with_reported h.entry held) ≡ map (marked moment grace) held
  unfolding IsStrictlySortedBy
  marked_reported [] up found = refl
  marked_reported (x ∷ held) up found =
      elim (same_entry x.entry h.entry) as (λ b. same_entry x.entry h.entry ≡ b
      → cond b (Some x) (find (λ other. same_entry other.entry h.entry) held) ≡ Some h
      → map (marked moment grace) (with_reported h.entry (x ∷ held)) ≡ map (marked moment grace) (x ∷ held)) [
        | true ↦ λ same is.
            let one : x ≡ h = one_found x h is in
            ap₂ (λ (d : DueEntry) (ds : List DueEntry). d ∷ ds) (marked_alike x (λ _. one))
            (ap (map (marked moment grace)) (reported_none h.entry held
            (subst (λ (d : DueEntry). AllByRecursion (λ (e : Event). entry_cmp d.entry e ≡ Less) (held_entries held)) one up.0)))
        | false ↦ λ apart is.
            ap₂ (λ (d : DueEntry) (ds : List DueEntry). d ∷ ds)
            (marked_alike x (λ same. absurd (false≢true (sym apart ∙ same_turned x.entry h.entry ∙ same))))
            (marked_reported held up.1 is)
      ] refl found

  abbrev lates : List DueEntry → List DueEntry
  lates held = filter (becomes_late moment grace) held

  -- it is one of those that become late, and the others stay
  pub late_moved : (held : List DueEntry) → EntriesAscend (held_entries held)
      → find (λ other. same_entry other.entry h.entry) held ≡ Some h
      → IsPermutation (filter (becomes_late moment grace) held) (h ∷ filter (becomes_late moment grace) (with_reported h.entry held))
  unfolding IsStrictlySortedBy
  late_moved [] up found = absurd (none_is_some h found)
  late_moved (x ∷ held) up found =
      elim (same_entry x.entry h.entry) as (λ b. same_entry x.entry h.entry ≡ b
      → cond b (Some x) (find (λ other. same_entry other.entry h.entry) held) ≡ Some h
      → IsPermutation (lates (x ∷ held)) (h ∷ lates (with_reported h.entry (x ∷ held)))) [
        | true ↦ λ same is.
            let one : x ≡ h = one_found x h is in
            let rest : lates (with_reported h.entry (x ∷ held)) ≡ lates held =
            as_reported x (lates (with_reported h.entry held)) true (same_turned h.entry x.entry ∙ same)
            ∙ ap lates (reported_none h.entry held
            (subst (λ (d : DueEntry). AllByRecursion (λ (e : Event). entry_cmp d.entry e ≡ Less) (held_entries held)) one up.0)) in
            subst (λ (l : List DueEntry). IsPermutation (lates (x ∷ held)) l)
            (ap (λ b. cond b (x ∷ lates held) (lates held)) (ap (becomes_late moment grace) one ∙ late)
            ∙ ap₂ (λ (d : DueEntry) (l : List DueEntry). d ∷ l) one (sym rest))
            (IsPermutation-refl (lates (x ∷ held)))
        | false ↦ λ apart is.
            subst (λ (l : List DueEntry). IsPermutation (lates (x ∷ held)) (h ∷ l))
            (sym (as_reported x (lates (with_reported h.entry held)) false (same_turned h.entry x.entry ∙ apart)))
            (in_front x (lates held) (lates (with_reported h.entry held)) (late_moved held up.1 is) (becomes_late moment grace x))
      ] refl found
    where
      as_reported : (x : DueEntry) (w : List DueEntry) (b : Bool) → same_entry h.entry x.entry ≡ b
          → cond (becomes_late moment grace (reported_if h.entry x)) (reported_if h.entry x ∷ w) w
          ≡ cond (not (cond b true x.is_reported) && nat_lt (x.since + grace) moment)
          (record { entry = x.entry; since = x.since; is_reported = cond b true x.is_reported } ∷ w) w
      as_reported x w b is = ap (λ c. cond (not (cond c true x.is_reported) && nat_lt (x.since + grace) moment)
          (record { entry = x.entry; since = x.since; is_reported = cond c true x.is_reported } ∷ w) w) is

      in_front : (x : DueEntry) (l w : List DueEntry) → IsPermutation l (h ∷ w) → (b : Bool)
          → IsPermutation (cond b (x ∷ l) l) (h ∷ cond b (x ∷ w) w)
      in_front x l w moved true = IsPermutation-trans (x ∷ l) (x ∷ h ∷ w) (h ∷ x ∷ w) (IsPermutation-cons x l (h ∷ w) moved)
          (IsPermutation-middle (x ∷ []) h w)
      in_front x l w moved false = moved

-- ---- a walk that takes late entries

module _ {A : Type 0} (bytes_of : A → List ℕ) (moment grace : ℕ) (held : Due A) (before after : List DueEntry)
    (late : becomes_late moment grace (due_seen bytes_of held) ≡ true) (up : EntriesAscend (held_entries before))
    (found : find (λ other. same_entry other.entry (event_seen bytes_of held.entry)) before ≡ Some (due_seen bytes_of held))
    (reports : after ≡ with_reported (event_seen bytes_of held.entry) before) where
  abbrev late_in : List DueEntry → List DueEntry
  late_in dues = filter (becomes_late moment grace) dues

  moved : IsPermutation (late_in before) (due_seen bytes_of held ∷ late_in after)
  moved = subst (λ (l : List DueEntry). IsPermutation (late_in before) (due_seen bytes_of held ∷ late_in l)) (sym reports)
      (late_moved moment grace (due_seen bytes_of held) late before up found)

  pub marked_on : (first : List DueEntry) → map (marked moment grace) before ≡ map (marked moment grace) first
      → map (marked moment grace) after ≡ map (marked moment grace) first
  marked_on first is = ap (map (marked moment grace)) reports
      ∙ marked_reported moment grace (due_seen bytes_of held) late before up found ∙ is

  pub taken_on : (first : List DueEntry) (done done' : List (Due A)) → done' ≡ done ++ held ∷ []
      → IsPermutation (late_in first) (dues_seen bytes_of done ++ late_in before)
      → IsPermutation (late_in first) (dues_seen bytes_of done' ++ late_in after)
  taken_on first done done' more is =
      subst (λ (l : List DueEntry). IsPermutation (late_in first) (l ++ late_in after))
      (sym (ap (dues_seen bytes_of) more ∙ map-append (due_seen bytes_of) done (held ∷ [])))
      (IsPermutation-pop_more (late_in first) (dues_seen bytes_of done) (late_in before) (late_in after) (due_seen bytes_of held) is moved)

  pub fewer_late : length (late_in after) < length (late_in before)
  fewer_late = omega (arith, length_permutation (late_in before) (due_seen bytes_of held ∷ late_in after) moved)
