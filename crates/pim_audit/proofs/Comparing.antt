-- What a comparison of both entries of each machine finds: what is new and what is gone.
use Rattle.pim_audit.proofs.Words.{◌≡◌, ◌∙◌, ℕ, Bool, true, false, cond, ◌&&◌, ◌||◌, not, List, [], ◌∷◌, ◌++◌, Option, None, Some}
use Rattle.pim_audit.proofs.Words.{inl, inr, refl, sym, ap, ap₂, subst, AllByRecursion, filter, flat_map, is_some, is_eq, IsStrictlySortedBy}
use Rattle.pim_audit.proofs.Words.{Less, false≢true, map-append, append-nil, append_assoc, AddressFamily, Event, entry}
use Rattle.pim_audit.proofs.Words.{entry_cmp, same_entry, EntriesAscend, DueEntry, held_entries}
use Rattle.pim_audit.proofs.Gather.{or_cases, or_first, or_second, same_test}
use Rattle.pim_audit.proofs.Machines.{machine_cmp, is_machine, machine_is, machine_itself, none_later}
use Rattle.pim_audit.proofs.SameEntry.{same_is, same_itself, one_list_by}
use Rattle.pim_audit.proofs.GatherWords.{option_eq}
use Rattle.pim_audit.proofs.Keys.{same_turned}
use Rattle.pim_audit.specs.Dues.{is_one}
use mathlib.Core.Bool.{beq}
use Rattle.std.proofs.lemmas.List.Elements.{All-from_recursion, recursion_from_All}
use Rattle.std.proofs.lemmas.List.Folds.{list_any-append}
use Rattle.std.proofs.lemmas.List.Sorted.{All-permutation, IsPermutation-map, list_any-IsPermutation}
unfoldable use Rattle.std.specs.List.{IsDistinct}
use Rattle.std.specs.List.Sorted.{IsPermutation}
use Rattle.pim_down.specs.declared.machines.key.What.{What}
use Rattle.pim_audit.specs.declared.machine.GroupMachine.{GroupMachine}
use Rattle.pim_audit.specs.Changes.{AreNew, is_gone}
use Rattle.pim_audit.specs.Compared.{AreApart, entries_at, entries_of, gone_at, gone_if, held_at, new_at, new_if}
use Rattle.pim_audit.specs.Gathering.{is_entry_of}
use Rattle.pim_audit.specs.Holding.{is_due_if}
use Rattle.pim_audit.specs.Sides.{SidesState}
use Rattle.pim_audit.specs.Touched.{is_one_of}

-- ---- both entries of each machine

-- an entry is one of the two of its machine, and of no other
own_listed : (joins : Bool) (group : List ℕ) (what : What (List ℕ))
    → is_entry_of (entries_at (record { group = group; what = what })) (entry joins group what) ≡ true
own_listed true group what =
    or_first (same_entry (entry true group what) (entry true group what)) _ (same_itself (entry true group what))
own_listed false group what =
    or_second (same_entry (entry false group what) (entry true group what)) _
    (or_first (same_entry (entry false group what) (entry false group what)) false (same_itself (entry false group what)))

of_machine : (this : Event) (machine : GroupMachine (List ℕ)) → is_entry_of (entries_at machine) this ≡ is_machine this.group this.what machine
of_machine this machine =
    same_test (is_entry_of (entries_at machine) this) (is_machine this.group this.what machine)
    (λ listed. elim (or_cases (same_entry this (entry true machine.group machine.what)) (same_entry this (entry false machine.group machine.what) || false) listed)
    as (λ _. is_machine this.group this.what machine ≡ true) [
      | inl same ↦ one true (same_is this (entry true machine.group machine.what) same)
      | inr other ↦ elim (or_cases (same_entry this (entry false machine.group machine.what)) false other)
          as (λ _. is_machine this.group this.what machine ≡ true) [
            | inl same ↦ one false (same_is this (entry false machine.group machine.what) same)
            | inr none ↦ absurd (false≢true none)
          ]
    ])
    (λ same. subst (λ (m : GroupMachine (List ℕ)). is_entry_of (entries_at m) this ≡ true) (machine_is this.group this.what machine same)
    (own_listed this.joins this.group this.what))
  where
    one : (joins : Bool) → this ≡ entry joins machine.group machine.what → is_machine this.group this.what machine ≡ true
    one joins e = ap (λ (f : Event). is_machine f.group f.what machine) e ∙ machine_itself machine

pub entries_listed : (this : Event) (machines : List (GroupMachine (List ℕ)))
    → is_entry_of (entries_of machines) this ≡ is_one_of this.group this.what machines
entries_listed this [] = refl
entries_listed this (machine ∷ machines) =
    list_any-append (same_entry this) (entries_at machine) (entries_of machines)
    ∙ ap₂ ◌||◌ (of_machine this machine) (entries_listed this machines)

-- ---- none is there twice

apart_from : (this : Event) (entries : List Event) → is_entry_of entries this ≡ false → AllByRecursion (λ e. same_entry this e ≡ false) entries
apart_from this [] none = tt
apart_from this (e ∷ es) none = by (same_entry this e) refl (apart_from this es)
  where
    by : (b : Bool) → same_entry this e ≡ b → (is_entry_of es this ≡ false → AllByRecursion (λ f. same_entry this f ≡ false) es)
        → (same_entry this e ≡ false) × AllByRecursion (λ f. same_entry this f ≡ false) es
    by true same later = absurd (false≢true (sym none ∙ or_first (same_entry this e) (is_entry_of es this) same))
    by false apart later = (apart, later (sym (ap (λ b. b || is_entry_of es this) apart) ∙ none))

join_apart : (group : List ℕ) (what : What (List ℕ)) → same_entry (entry true group what) (entry false group what) ≡ false
join_apart group what = by (same_entry (entry true group what) (entry false group what)) refl
  where
    by : (b : Bool) → same_entry (entry true group what) (entry false group what) ≡ b → b ≡ false
    by true same = absurd (false≢true (sym (ap (λ (e : Event). e.joins) (same_is (entry true group what) (entry false group what) same))))
    by false apart = refl

pub entries_apart : (machines : List (GroupMachine (List ℕ))) → IsStrictlySortedBy machine_cmp machines → AreApart (entries_of machines)
unfolding IsStrictlySortedBy IsDistinct
entries_apart [] up = tt
entries_apart (machine ∷ machines) up =
    let none : (joins : Bool) → is_entry_of (entries_of machines) (entry joins machine.group machine.what) ≡ false =
    λ joins. entries_listed (entry joins machine.group machine.what) machines ∙ none_later machine machines up.0 in (
      (join_apart machine.group machine.what, apart_from (entry true machine.group machine.what) (entries_of machines) (none true)),
      (apart_from (entry false machine.group machine.what) (entries_of machines) (none false), entries_apart machines up.1),
    )

-- ---- filters

-- an entry is one of those that pass if it is one and passes
pub filtered : (P : Event → Bool) (this : Event) (es : List Event) → is_entry_of (filter P es) this ≡ (P this && is_entry_of es this)
filtered P this [] = none (P this)
  where
    none : (b : Bool) → false ≡ (b && false)
    none true = refl
    none false = refl
filtered P this (e ∷ es) =
    let others = filtered P this es in
    elim (same_entry this e) as (λ s. same_entry this e ≡ s
    → is_entry_of (cond (P e) (e ∷ filter P es) (filter P es)) this ≡ (P this && (s || is_entry_of es this))) [
      | true ↦ λ same. by_same (P e) (P this) same (ap (λ (x : Event). P x) (sym (same_is this e same))) others
      | false ↦ λ apart. by_apart (P e) apart others
    ] refl
  where
    by_same : (b t : Bool) → same_entry this e ≡ true → b ≡ t → is_entry_of (filter P es) this ≡ (t && is_entry_of es this)
        → is_entry_of (cond b (e ∷ filter P es) (filter P es)) this ≡ (t && (true || is_entry_of es this))
    by_same true true same is others = ap (λ s. s || is_entry_of (filter P es) this) same
    by_same true false same is others = absurd (false≢true (sym is))
    by_same false true same is others = absurd (false≢true is)
    by_same false false same is others = others

    by_apart : (b : Bool) → same_entry this e ≡ false → is_entry_of (filter P es) this ≡ (P this && is_entry_of es this)
        → is_entry_of (cond b (e ∷ filter P es) (filter P es)) this ≡ (P this && is_entry_of es this)
    by_apart true apart others = ap (λ s. s || is_entry_of (filter P es) this) apart ∙ others
    by_apart false apart others = others

all_filter : {A : Type 0} (Q : A → Type 0) (P : A → Bool) (xs : List A) → AllByRecursion Q xs → AllByRecursion Q (filter P xs)
all_filter Q P [] all = tt
all_filter Q P (x ∷ xs) all = by (P x) (all_filter Q P xs all.1)
  where
    by : (b : Bool) → AllByRecursion Q (filter P xs) → AllByRecursion Q (cond b (x ∷ filter P xs) (filter P xs))
    by true later = (all.0, later)
    by false later = later

apart_filter : (P : Event → Bool) (es : List Event) → AreApart es → AreApart (filter P es)
unfolding IsDistinct
apart_filter P [] apart = tt
apart_filter P (e ∷ es) apart = by (P e) (apart_filter P es apart.1)
  where
    by : (b : Bool) → AreApart (filter P es) → AreApart (cond b (e ∷ filter P es) (filter P es))
    by true later = (all_filter (λ f. same_entry e f ≡ false) P es apart.0, later)
    by false later = later

-- ---- what was due of an entry

held_is : (due : List DueEntry) (this : Event) → is_some (held_at due this) ≡ is_entry_of (held_entries due) this
held_is [] this = refl
held_is (held ∷ due) this = by (same_entry held.entry this) (same_turned held.entry this) (held_is due this)
  where
    by : (b : Bool) → b ≡ same_entry this held.entry → is_some (held_at due this) ≡ is_entry_of (held_entries due) this
        → is_some (cond b (Some held) (held_at due this)) ≡ (same_entry this held.entry || is_entry_of (held_entries due) this)
    by true e later = ap (λ b. b || is_entry_of (held_entries due) this) e
    by false e later = later ∙ ap (λ b. b || is_entry_of (held_entries due) this) e

held_same : (due : List DueEntry) (this : Event) (held : DueEntry) → held_at due this ≡ Some held → held.entry ≡ this
held_same [] this held e = absurd cc
held_same (first ∷ due) this held e = by (same_entry first.entry this) refl e (held_same due this held)
  where
    by : (b : Bool) → same_entry first.entry this ≡ b → cond b (Some first) (held_at due this) ≡ Some held
        → (held_at due this ≡ Some held → held.entry ≡ this) → held.entry ≡ this
    by true same found later = let is : first ≡ held = cc in ap (λ (h : DueEntry). h.entry) (sym is) ∙ same_is first.entry this same
    by false apart found later = later found

-- in a list in order, each is what was due of its entry
found_later : (first : DueEntry) (due later : List DueEntry) → AllByRecursion (λ e. entry_cmp first.entry e ≡ Less) (held_entries later)
    → AllByRecursion (λ (held : DueEntry). held_at due held.entry ≡ Some held) later
    → AllByRecursion (λ (held : DueEntry). held_at (first ∷ due) held.entry ≡ Some held) later
found_later first due [] after found = tt
found_later first due (held ∷ later) after found =
    (ap (λ b. cond b (Some first) (held_at due held.entry)) (ap is_eq after.0) ∙ found.0, found_later first due later after.1 found.1)

found_each : (due : List DueEntry) → EntriesAscend (held_entries due) → AllByRecursion (λ (held : DueEntry). held_at due held.entry ≡ Some held) due
unfolding IsStrictlySortedBy
found_each [] up = tt
found_each (held ∷ due) up =
    (ap (λ b. cond b (Some held) (held_at due held.entry)) (same_itself held.entry), found_later held due due up.0 (found_each due up.1))

held_filter : (Q : Event → Type 0) (P : DueEntry → Bool) (due : List DueEntry) → AllByRecursion Q (held_entries due)
    → AllByRecursion Q (held_entries (filter P due))
held_filter Q P [] all = tt
held_filter Q P (held ∷ due) all = by (P held) (held_filter Q P due all.1)
  where
    by : (b : Bool) → AllByRecursion Q (held_entries (filter P due)) → AllByRecursion Q (held_entries (cond b (held ∷ filter P due) (filter P due)))
    by true later = (all.0, later)
    by false later = later

ascend_filter : (P : DueEntry → Bool) (due : List DueEntry) → EntriesAscend (held_entries due) → EntriesAscend (held_entries (filter P due))
unfolding IsStrictlySortedBy
ascend_filter P [] up = tt
ascend_filter P (held ∷ due) up = by (P held) (ascend_filter P due up.1)
  where
    by : (b : Bool) → EntriesAscend (held_entries (filter P due)) → EntriesAscend (held_entries (cond b (held ∷ filter P due) (filter P due)))
    by true later = (held_filter (λ e. entry_cmp held.entry e ≡ Less) P due up.0, later)
    by false later = later

-- a test of entries, on what was due
pub filter_held : (P : Event → Bool) (due : List DueEntry) → held_entries (filter (λ held. P held.entry) due) ≡ filter P (held_entries due)
filter_held P [] = refl
filter_held P (held ∷ due) = by (P held.entry) (filter_held P due)
  where
    by : (b : Bool) → held_entries (filter (λ h. P h.entry) due) ≡ filter P (held_entries due)
        → held_entries (cond b (held ∷ filter (λ h. P h.entry) due) (filter (λ h. P h.entry) due))
        ≡ cond b (held.entry ∷ filter P (held_entries due)) (filter P (held_entries due))
    by true later = ap (λ (l : List Event). held.entry ∷ l) later
    by false later = later

-- lists of what was due are equal if they have the same entries
one_due_list : (due xs ys : List DueEntry) → AllByRecursion (λ (held : DueEntry). held_at due held.entry ≡ Some held) xs
    → AllByRecursion (λ (held : DueEntry). held_at due held.entry ≡ Some held) ys → held_entries xs ≡ held_entries ys → xs ≡ ys
one_due_list due [] [] all all' same = refl
one_due_list due [] (y ∷ ys) all all' same = absurd cc
one_due_list due (x ∷ xs) [] all all' same = absurd cc
one_due_list due (x ∷ xs) (y ∷ ys) all all' same =
    let entries : x.entry ≡ y.entry = cc in
    let rests : held_entries xs ≡ held_entries ys = cc in
    let one : Some x ≡ Some y = sym all.0 ∙ ap (held_at due) entries ∙ all'.0 in
    ap₂ (λ (h : DueEntry) (l : List DueEntry). h ∷ l) (let is : x ≡ y = cc in is) (one_due_list due xs ys all.1 all'.1 rests)

-- ---- what the code adds of a machine

-- a test for a Join or a Prune
pub tests_one : (due : Option Bool) (joins : Bool) → option_eq beq due (Some joins) ≡ is_one due joins
tests_one None joins = refl
tests_one (Some true) true = refl
tests_one (Some true) false = refl
tests_one (Some false) true = refl
tests_one (Some false) false = refl

pub added_both : {X : Type 0} (before between after one two : List X) → between ≡ before ++ one → after ≡ between ++ two
    → after ≡ before ++ (one ++ (two ++ []))
added_both before between after one two e f =
    f ∙ ap (λ (l : List _). l ++ two) e ∙ append_assoc before one two
    ∙ ap (λ (l : List _). before ++ (one ++ l)) (sym (append-nil two))

-- ---- what a loop over the machines adds

module _ {X : Type 0} (f : Event → List X) where
  pub added_next : (machine : GroupMachine (List ℕ)) (left others : List (GroupMachine (List ℕ))) (before after all : List X)
      → left ≡ machine ∷ others → after ≡ before ++ flat_map f (entries_at machine) → before ++ flat_map f (entries_of left) ≡ all
      → after ++ flat_map f (entries_of others) ≡ all
  added_next machine left others before after all e added so_far =
      let rest : List X = flat_map f (entries_of others) in
      let one : List X = f (entry true machine.group machine.what) in
      let two : List X = f (entry false machine.group machine.what) in
      ap (λ (l : List X). l ++ rest) added ∙ append_assoc before (one ++ (two ++ [])) rest
      ∙ ap (λ (l : List X). before ++ l) (append_assoc one (two ++ []) rest ∙ ap (λ (l : List X). one ++ l) (append_assoc two [] rest))
      ∙ sym (ap (λ (l : List (GroupMachine (List ℕ))). before ++ flat_map f (entries_of l)) e) ∙ so_far

  pub added_all : (left : List (GroupMachine (List ℕ))) (after all : List X) → left ≡ [] → after ++ flat_map f (entries_of left) ≡ all
      → after ≡ all
  added_all left after all e so_far =
      sym (append-nil after) ∙ sym (ap (λ (l : List (GroupMachine (List ℕ))). after ++ flat_map f (entries_of l)) e) ∙ so_far

-- ---- what is new and what is gone

module _ (known : Bool) (family : AddressFamily) (sides : SidesState) (due : List DueEntry) where
  is_new : Event → Bool
  is_new this = is_due_if known family sides this && not (is_entry_of (held_entries due) this)

  is_left : Event → Bool
  is_left this = not (is_due_if known family sides this) && is_entry_of (held_entries due) this

  new_are : (es : List Event) → flat_map (new_at known family sides due) es ≡ filter is_new es
  unfolding is_new
  new_are [] = refl
  new_are (e ∷ es) =
      step (is_due_if known family sides e) (held_at due e) (filter is_new es) (is_entry_of (held_entries due) e) (held_is due e)
      (new_are es)
    where
      step : (d : Bool) (h : Option DueEntry) (others : List Event) (b : Bool) → is_some h ≡ b → flat_map (new_at known family sides due) es ≡ others
          → new_if d e h ++ flat_map (new_at known family sides due) es ≡ cond (d && not b) (e ∷ others) others
      step true None others b is later = rw (← is) (ap (λ (l : List Event). e ∷ l) later)
      step true (Some held) others b is later = rw (← is) later
      step false h others b is later = later

  gone_are : (es : List Event) → held_entries (flat_map (gone_at known family sides due) es) ≡ filter is_left es
  unfolding is_left
  gone_are [] = refl
  gone_are (e ∷ es) =
      map-append (λ (held : DueEntry). held.entry) (gone_at known family sides due e) (flat_map (gone_at known family sides due) es)
      ∙ step (is_due_if known family sides e) (held_at due e) (is_entry_of (held_entries due) e) (held_is due e) (held_same due e) (gone_are es)
    where
      step : (d : Bool) (h : Option DueEntry) (b : Bool) → is_some h ≡ b → ((held : DueEntry) → h ≡ Some held → held.entry ≡ e)
          → held_entries (flat_map (gone_at known family sides due) es) ≡ filter is_left es
          → held_entries (gone_if d h) ++ held_entries (flat_map (gone_at known family sides due) es)
          ≡ cond (not d && b) (e ∷ filter is_left es) (filter is_left es)
      step true h b is own later = later
      step false None b is own later = rw (← is) later
      step false (Some held) b is own later = rw (← is) (ap₂ (λ (x : Event) (l : List Event). x ∷ l) (own held refl) later)

  gone_found : (es : List Event) → AllByRecursion (λ (held : DueEntry). held_at due held.entry ≡ Some held) (flat_map (gone_at known family sides due) es)
  gone_found [] = tt
  gone_found (e ∷ es) = step (is_due_if known family sides e) (held_at due e) refl (gone_found es)
    where
      step : (d : Bool) (h : Option DueEntry) → held_at due e ≡ h
          → AllByRecursion (λ (held : DueEntry). held_at due held.entry ≡ Some held) (flat_map (gone_at known family sides due) es)
          → AllByRecursion (λ (held : DueEntry). held_at due held.entry ≡ Some held) (gone_if d h ++ flat_map (gone_at known family sides due) es)
      step true h is later = later
      step false None is later = later
      step false (Some held) is later = (ap (held_at due) (held_same due e held is) ∙ is, later)

  module _ (machines : List (GroupMachine (List ℕ))) (apart : AreApart (entries_of machines)) where
    pub new_apart : (new : List Event) → new ≡ flat_map (new_at known family sides due) (entries_of machines) → AreApart new
    new_apart new is = subst AreApart (sym (is ∙ new_are (entries_of machines))) (apart_filter is_new (entries_of machines) apart)

    pub gone_apart : (gone : List DueEntry) → gone ≡ flat_map (gone_at known family sides due) (entries_of machines) → AreApart (held_entries gone)
    gone_apart gone is =
        subst AreApart (sym (ap held_entries is ∙ gone_are (entries_of machines))) (apart_filter is_left (entries_of machines) apart)

    pub all_new : (found new : List Event) → found ≡ flat_map (new_at known family sides due) (entries_of machines) → IsPermutation found new
        → AreNew known family sides machines due new
    unfolding is_new
    all_new found new is moved this =
        sym (list_any-IsPermutation (same_entry this) found new moved)
        ∙ ap (λ (l : List Event). is_entry_of l this) (is ∙ new_are (entries_of machines))
        ∙ filtered is_new this (entries_of machines) ∙ ap (λ b. is_new this && b) (entries_listed this machines)
        ∙ swap (is_new this) (is_one_of this.group this.what machines)
      where
        swap : (a b : Bool) → (a && b) ≡ (b && a)
        swap true true = refl
        swap true false = refl
        swap false true = refl
        swap false false = refl

    pub all_gone : (found gone : List DueEntry) → EntriesAscend (held_entries due)
        → found ≡ flat_map (gone_at known family sides due) (entries_of machines) → EntriesAscend (held_entries gone) → IsPermutation found gone
        → gone ≡ filter (is_gone known family sides machines) due
    unfolding is_left
    all_gone found gone up is gone_up moved =
        one_due_list due gone (filter (is_gone known family sides machines) due)
        (recursion_from_All Found gone (All-permutation Found found gone moved
        (All-from_recursion Found found (subst (AllByRecursion Found) (sym is) (gone_found (entries_of machines))))))
        (all_filter Found (is_gone known family sides machines) due (found_each due up))
        (one_list_by (λ _. Unit {0}) (held_entries gone) (held_entries (filter (is_gone known family sides machines) due)) gone_up
        (ascend_filter (is_gone known family sides machines) due up) (anything (held_entries gone))
        (anything (held_entries (filter (is_gone known family sides machines) due)))
        (λ this _.
        sym (list_any-IsPermutation (same_entry this) (held_entries found) (held_entries gone)
        (IsPermutation-map (λ (held : DueEntry). held.entry) found gone moved))
        ∙ ap (λ (l : List Event). is_entry_of l this) (ap held_entries is ∙ gone_are (entries_of machines))
        ∙ filtered is_left this (entries_of machines) ∙ ap (λ b. is_left this && b) (entries_listed this machines)
        ∙ turn (is_due_if known family sides this) (is_entry_of (held_entries due) this) (is_one_of this.group this.what machines)
        ∙ sym (ap (λ (l : List Event). is_entry_of l this) (filter_held gone_entry due) ∙ filtered gone_entry this (held_entries due))))
      where
        Found : DueEntry → Type 0
        Found held = held_at due held.entry ≡ Some held

        gone_entry : Event → Bool
        gone_entry this = is_one_of this.group this.what machines && not (is_due_if known family sides this)

        anything : (es : List Event) → AllByRecursion (λ _. Unit {0}) es
        anything [] = tt
        anything (e ∷ es) = (tt, anything es)

        turn : (d h m : Bool) → ((not d && h) && m) ≡ ((m && not d) && h)
        turn true true true = refl
        turn true true false = refl
        turn true false true = refl
        turn true false false = refl
        turn false true true = refl
        turn false true false = refl
        turn false false true = refl
        turn false false false = refl
