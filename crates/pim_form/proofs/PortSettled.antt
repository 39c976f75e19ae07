-- A port is settled at a form exactly if its records are as the form asks, and what the form asks for is there.
use Rattle.pim_form.proofs.Words.{◌≡◌, ◌∙◌, ◌⊎◌, inl, inr, ◌↔◌, ℕ, ◌<◌, Bool, true, false, ◌||◌, ◌&&◌, cond, List, []}
use Rattle.pim_form.proofs.Words.{◌∷◌, Option, None, Some, eqb, length, map, get_or, refl, sym, ap, subst, arith}
use Rattle.pim_form.proofs.Words.{AllByRecursion, list_all, filter, IsStrictlySortedBy, nat_cmp, is_eq, slice_cmp, Less}
use Rattle.pim_form.proofs.Words.{false≢true, eqb-true, nat_tests, What, Star, Source, Rpt, Key, Record, same_key}
use Rattle.pim_form.proofs.Words.{IsBelow, IsAscending, machine_at, is_on, KeysAreDistinct, GroupForm, AreAscending}
use Rattle.pim_form.proofs.Words.{AreExceptions, same_address, is_listed, groups_of, exceptions_of, is_pruned, state_on}
use Rattle.pim_form.proofs.Words.{unwanted, group_in, is_in_join, joins_if, prunes_if, rpt_settles, machine_settles}
use Rattle.pim_form.proofs.Words.{IsSettledAt, record_settles, is_joined_at, is_pruned_at, group_settles, AddressFamily}
use Rattle.pim_form.proofs.Words.{GroupPlace, place_group, place_seen, form_seen, IsKept}
use Rattle.std.specs.Option.{is_some}
use Rattle.pim_down.specs.declared.machines.machine.Machine.{Machine}
use Rattle.pim_form.proofs.Kept.{all_at, seen_at, groups_seen, places_count}
use Rattle.pim_form.proofs.Addresses.{same_is, same_itself, less_apart_back}

both_are : (p q : Bool) → (p && q) ≡ true → (p ≡ true) × (q ≡ true)
both_are true true e = (refl, refl)
both_are true false e = absurd (false≢true e)
both_are false q e = absurd (false≢true e)

and_both : (p q : Bool) → p ≡ true → q ≡ true → (p && q) ≡ true
and_both p q e f = rw (e, f) refl

either_is : (p q : Bool) → (p || q) ≡ true → (p ≡ true) ⊎ (q ≡ true)
either_is true q e = inl refl
either_is false q e = inr e

-- ---- tests of all

all_listed : (test : List ℕ → Bool) (xs : List (List ℕ)) (s : List ℕ) → list_all test xs ≡ true → is_listed s xs ≡ true → test s ≡ true
all_listed test [] s all listed = absurd (false≢true listed)
all_listed test (x ∷ xs) s all listed =
    let parts = both_are (test x) (list_all test xs) all in
    by parts.0 (λ behind. all_listed test xs s parts.1 behind) (either_is (same_address s x) (is_listed s xs) listed)
  where
    by : test x ≡ true → (is_listed s xs ≡ true → test s ≡ true) → (same_address s x ≡ true) ⊎ (is_listed s xs ≡ true) → test s ≡ true
    by here others (inl same) = subst (λ a. test a ≡ true) (sym (same_is s x same)) here
    by here others (inr behind) = others behind

all_from_listed : (test : List ℕ → Bool) (xs : List (List ℕ)) → ((s : List ℕ) → is_listed s xs ≡ true → test s ≡ true) → list_all test xs ≡ true
all_from_listed test [] each = refl
all_from_listed test (x ∷ xs) each =
    and_both (test x) (list_all test xs) (each x (rw (same_itself x) refl))
    (all_from_listed test xs (λ s listed. each s (behind (same_address s x) (is_listed s xs) listed)))
  where
    behind : (p q : Bool) → q ≡ true → (p || q) ≡ true
    behind true q e = refl
    behind false q e = e

-- ---- records and keys

module _ (apart : KeysAreDistinct) where
  itself : (key : Key (List ℕ)) → same_key key key ≡ true
  itself key = (apart key key).1.1 refl

  module _ (test : Record (List ℕ) → Bool) (port : ℕ) where
    -- each machine that is held passes where all records of the port do
    at_key : (records : List (Record (List ℕ))) (key : Key (List ℕ)) (machine : Machine) → key.port ≡ port → machine_at key records ≡ Some machine
        → list_all test (filter (is_on port) records) ≡ true → test (record { key = key; machine = machine }) ≡ true
    unfolding machine_at
    at_key [] key machine on is all = absurd cc
    at_key (held ∷ records) key machine on is all = by (λ is'. at_key records key machine on is' others) (same_key key held.key) refl is
      where
        others_of : (b : Bool) → list_all test (cond b (held ∷ filter (is_on port) records) (filter (is_on port) records)) ≡ true → list_all test (filter (is_on port) records) ≡ true
        others_of true e = (both_are (test held) (list_all test (filter (is_on port) records)) e).1
        others_of false e = e

        first_of : (b : Bool) → b ≡ true → list_all test (cond b (held ∷ filter (is_on port) records) (filter (is_on port) records)) ≡ true → test held ≡ true
        first_of true on e = (both_are (test held) (list_all test (filter (is_on port) records)) e).0
        first_of false on e = absurd (false≢true on)

        others : list_all test (filter (is_on port) records) ≡ true
        others = others_of (is_on port held) all

        by : (machine_at key records ≡ Some machine → test (record { key = key; machine = machine }) ≡ true)
            → (b : Bool) → same_key key held.key ≡ b → cond b (Some held.machine) (machine_at key records) ≡ Some machine → test (record { key = key; machine = machine }) ≡ true
        by further true e is =
            let same : key ≡ held.key = (apart key held.key).1.0 e in
            let machines : held.machine ≡ machine = cc in
            let here : is_on port held ≡ true = subst (λ (n : ℕ). eqb n port ≡ true) (sym on ∙ ap (λ (k : Key (List ℕ)). k.port) same) (itself_on port) in
            let first : test held ≡ true = first_of (is_on port held) here all in
            subst (λ (r : Record (List ℕ)). test r ≡ true) (λ i. record { key = sym same i; machine = machines i }) first
          where
            itself_on : (n : ℕ) → eqb n n ≡ true
            itself_on n = elim (eqb n n) as (λ b. eqb n n ≡ b → eqb n n ≡ true) [
              | true ↦ λ e. e
              | false ↦ λ e. absurd (grind (arith, nat_tests))
            ] refl
        by further false e is = further is

    none_below : (key : Key (List ℕ)) (records : List (Record (List ℕ))) → IsBelow key records → machine_at key records ≡ None
    unfolding IsBelow machine_at
    none_below key [] below = refl
    none_below key (held ∷ records) below = rw (ap is_eq below.0) (none_below key records below.1)

    -- all records of the port pass where each machine that is held does
    all_records : (records : List (Record (List ℕ))) → IsAscending records
        → ((key : Key (List ℕ)) (machine : Machine) → key.port ≡ port → machine_at key records ≡ Some machine → test (record { key = key; machine = machine }) ≡ true)
        → list_all test (filter (is_on port) records) ≡ true
    unfolding machine_at IsAscending
    all_records [] up each = refl
    all_records (held ∷ records) up each =
        by (all_records records up.1 (λ key machine on is. each key machine on (later key machine is (same_key key held.key) refl))) (is_on port held) refl
      where
        later : (key : Key (List ℕ)) (machine : Machine) → machine_at key records ≡ Some machine → (b : Bool) → same_key key held.key ≡ b → cond b (Some held.machine) (machine_at key records) ≡ Some machine
        later key machine is true e =
            let same : key ≡ held.key = (apart key held.key).1.0 e in
            let none : machine_at key records ≡ None = subst (λ k. machine_at k records ≡ None) (sym same) (none_below held.key records up.0) in
            absurd cc
        later key machine is false e = is

        by : list_all test (filter (is_on port) records) ≡ true → (b : Bool) → is_on port held ≡ b → list_all test (cond b (held ∷ filter (is_on port) records) (filter (is_on port) records)) ≡ true
        by others true e =
            and_both (test held) (list_all test (filter (is_on port) records))
            (each held.key held.machine (eqb-true held.key.port port e) (rw (itself held.key) refl)) others
        by others false e = others

-- ---- the groups of a form

-- a group of the form passes, or it has nothing of that group
by_group : (test : GroupForm → Bool) (form : List GroupForm) (group : List ℕ) → list_all test form ≡ true
    → (group_in group form ≡ unwanted group) ⊎ (((group_in group form).group ≡ group) × (test (group_in group form) ≡ true))
unfolding group_in
by_group test [] group all = inl refl
by_group test (this ∷ form) group all = by (by_group test form group parts.1) (same_address group this.group) refl
  where
    parts : (test this ≡ true) × (list_all test form ≡ true)
    parts = both_are (test this) (list_all test form) all

    by : (group_in group form ≡ unwanted group) ⊎ (((group_in group form).group ≡ group) × (test (group_in group form) ≡ true))
        → (b : Bool) → same_address group this.group ≡ b → (cond b this (group_in group form) ≡ unwanted group) ⊎ (((cond b this (group_in group form)).group ≡ group) × (test (cond b this (group_in group form)) ≡ true))
    by others true e = inr (sym (same_is group this.group e), parts.0)
    by others false e = others

-- each group of a form in order is what the form has of it
all_in : (form : List GroupForm) → AreAscending (groups_of form) → AllByRecursion (λ this. group_in this.group form ≡ this) form
unfolding group_in IsStrictlySortedBy
all_in [] up = tt
all_in (this ∷ form) up = (rw (same_itself this.group) refl, behind form up.0 (all_in form up.1))
  where
    behind : (left : List GroupForm) → AllByRecursion (λ g. slice_cmp nat_cmp this.group g ≡ Less) (groups_of left)
        → AllByRecursion (λ other. group_in other.group form ≡ other) left → AllByRecursion (λ other. group_in other.group (this ∷ form) ≡ other) left
    behind [] below all = tt
    behind (other ∷ left) below all = (rw (less_apart_back this.group other.group below.0) all.0, behind left below.1 all.1)

all_tested : (test : GroupForm → Bool) (P : GroupForm → Type 0) → ((this : GroupForm) → P this → test this ≡ true) → (form : List GroupForm) → AllByRecursion P form → list_all test form ≡ true
all_tested test P each [] all = refl
all_tested test P each (this ∷ form) all = and_both (test this) (list_all test form) (each this all.0) (all_tested test P each form all.1)

-- ---- both together

module _ (records : List (Record (List ℕ))) (port : ℕ) where
  -- a machine that isn't held is asked for by no form whose groups are there
  none_unasked : (this : GroupForm) (what : What (List ℕ)) → group_settles records port this ≡ true → state_on records port this.group what ≡ None → machine_settles this what None ≡ true
  none_unasked this what all none = by what none
    where
      stars : (joins_if (is_some this.star) (state_on records port this.group Star) ≡ true) × ((list_all (is_joined_at records port this.group) this.sources && list_all (is_pruned_at records port this.group) (exceptions_of this.star)) ≡ true)
      stars = both_are (joins_if (is_some this.star) (state_on records port this.group Star)) (list_all (is_joined_at records port this.group) this.sources && list_all (is_pruned_at records port this.group) (exceptions_of this.star)) all

      lists : (list_all (is_joined_at records port this.group) this.sources ≡ true) × (list_all (is_pruned_at records port this.group) (exceptions_of this.star) ≡ true)
      lists = both_are (list_all (is_joined_at records port this.group) this.sources) (list_all (is_pruned_at records port this.group) (exceptions_of this.star)) stars.1

      no_source : (source : List ℕ) → state_on records port this.group (Source source) ≡ None → (b : Bool) → is_listed source this.sources ≡ b → joins_if b None ≡ true
      no_source source none true e =
          let joined : is_in_join (state_on records port this.group (Source source)) ≡ true = all_listed (is_joined_at records port this.group) this.sources source lists.0 e in
          absurd (false≢true (sym (ap is_in_join none) ∙ joined))
      no_source source none false e = refl

      no_rpt : (source : List ℕ) → state_on records port this.group (Rpt source) ≡ None → (star : Option (List (List ℕ))) → list_all (is_pruned_at records port this.group) (exceptions_of star) ≡ true → rpt_settles star source None ≡ true
      no_rpt source none None pruned = refl
      no_rpt source none (Some exceptions) pruned = excepted (is_listed source exceptions) refl
        where
          excepted : (b : Bool) → is_listed source exceptions ≡ b → prunes_if b None ≡ true
          excepted true e =
              let is : is_pruned (state_on records port this.group (Rpt source)) ≡ true = all_listed (is_pruned_at records port this.group) exceptions source pruned e in
              absurd (false≢true (sym (ap is_pruned none) ∙ is))
          excepted false e = refl

      by : (what : What (List ℕ)) → state_on records port this.group what ≡ None → machine_settles this what None ≡ true
      by Star none = subst (λ state. joins_if (is_some this.star) state ≡ true) none stars.0
      by (Source source) none = no_source source none (is_listed source this.sources) refl
      by (Rpt source) none = no_rpt source none this.star lists.1

  -- a group whose machines are as it asks
  group_asks : (this : GroupForm) → ((what : What (List ℕ)) → machine_settles this what (state_on records port this.group what) ≡ true) → group_settles records port this ≡ true
  group_asks this each =
      and_both (joins_if (is_some this.star) (state_on records port this.group Star)) (list_all (is_joined_at records port this.group) this.sources && list_all (is_pruned_at records port this.group) (exceptions_of this.star))
      (each Star)
      (and_both (list_all (is_joined_at records port this.group) this.sources) (list_all (is_pruned_at records port this.group) (exceptions_of this.star))
      (all_from_listed (is_joined_at records port this.group) this.sources (λ s listed. subst (λ b. joins_if b (state_on records port this.group (Source s)) ≡ true) listed (each (Source s))))
      (pruned this.star (λ s. each (Rpt s))))
    where
      pruned : (star : Option (List (List ℕ))) → ((s : List ℕ) → rpt_settles star s (state_on records port this.group (Rpt s)) ≡ true) → list_all (is_pruned_at records port this.group) (exceptions_of star) ≡ true
      pruned None each = refl
      pruned (Some exceptions) each =
          all_from_listed (is_pruned_at records port this.group) exceptions (λ s listed. subst (λ b. prunes_if b (state_on records port this.group (Rpt s)) ≡ true) listed (each s))

  module _ (apart : KeysAreDistinct) (form : List GroupForm) where
    settled_if : (list_all (record_settles form) (filter (is_on port) records) && list_all (group_settles records port) form) ≡ true → IsSettledAt port form records
    settled_if all group what = by (machine_at (record { port = port; group = group; what = what }) records) refl
      where
        parts : (list_all (record_settles form) (filter (is_on port) records) ≡ true) × (list_all (group_settles records port) form ≡ true)
        parts = both_are (list_all (record_settles form) (filter (is_on port) records)) (list_all (group_settles records port) form) all

        absent : state_on records port group what ≡ None → machine_settles (group_in group form) what None ≡ true
        absent none = found (by_group (group_settles records port) form group parts.1)
          where
            unasked : (what : What (List ℕ)) → machine_settles (unwanted group) what None ≡ true
            unasked Star = refl
            unasked (Source source) = refl
            unasked (Rpt source) = refl

            found : (group_in group form ≡ unwanted group) ⊎ (((group_in group form).group ≡ group) × (group_settles records port (group_in group form) ≡ true)) → machine_settles (group_in group form) what None ≡ true
            found (inl nothing) = subst (λ (this : GroupForm). machine_settles this what None ≡ true) (sym nothing) (unasked what)
            found (inr both) = none_unasked (group_in group form) what both.1 (subst (λ g. state_on records port g what ≡ None) (sym both.0) none)

        by : (held : Option Machine) → machine_at (record { port = port; group = group; what = what }) records ≡ held → machine_settles (group_in group form) what (state_on records port group what) ≡ true
        by None e = rw e (absent (rw e refl))
        by (Some machine) e = rw e (at_key apart (record_settles form) port records (record { port = port; group = group; what = what }) machine refl e parts.0)

    only_if : IsAscending records → AreAscending (groups_of form) → IsSettledAt port form records → (list_all (record_settles form) (filter (is_on port) records) && list_all (group_settles records port) form) ≡ true
    only_if up groups settled =
        and_both (list_all (record_settles form) (filter (is_on port) records)) (list_all (group_settles records port) form)
        (all_records apart (record_settles form) port records up held)
        (all_tested (group_settles records port) (λ this. group_in this.group form ≡ this) demanded form (all_in form groups))
      where
        held : (key : Key (List ℕ)) (machine : Machine) → key.port ≡ port → machine_at key records ≡ Some machine → record_settles form (record { key = key; machine = machine }) ≡ true
        held key machine on is =
            let there : machine_at (record { port = port; group = key.group; what = key.what }) records ≡ Some machine = subst (λ (n : ℕ). machine_at (record { port = n; group = key.group; what = key.what }) records ≡ Some machine) on is in
            rw there at (settled key.group key.what)

        demanded : (this : GroupForm) → group_in this.group form ≡ this → group_settles records port this ≡ true
        demanded this is = group_asks this (λ what. subst (λ (one : GroupForm). machine_settles one what (state_on records port this.group what) ≡ true) is (settled this.group what))

    pub settles_exactly : IsAscending records → AreAscending (groups_of form)
        → ((list_all (record_settles form) (filter (is_on port) records) && list_all (group_settles records port) form) ≡ true) ↔ IsSettledAt port form records
    settles_exactly up groups = (settled_if, only_if up groups)

-- ---- two tests, one after the other

pub by_second : (P : Type 0) (held demanded one other : Bool) → held ≡ one → held ≡ true → demanded ≡ other → ((one && other) ≡ true) ↔ P → (demanded ≡ true) ↔ P
by_second P held demanded one other is holds is' exact =
    (λ e. exact.0 (and_both one other (sym is ∙ holds) (sym is' ∙ e)), λ p. is' ∙ (both_are one other (exact.1 p)).1)

pub by_first : (P : Type 0) (held one other : Bool) → held ≡ one → held ≡ false → ((one && other) ≡ true) ↔ P → (held ≡ true) ↔ P
by_first P held one other is none exact =
    (λ e. absurd (false≢true (sym none ∙ e)), λ p. is ∙ (both_are one other (exact.1 p)).0)

-- ---- the exceptions of a group

pub excepted_up : (family : AddressFamily) (star : Option (List (List ℕ))) → AreExceptions family star → AreAscending (exceptions_of star)
unfolding IsStrictlySortedBy
excepted_up family None are = tt
excepted_up family (Some exceptions) are = are.0

-- ---- the group at a place

none_in : (form : List GroupForm) (group : List ℕ) → is_listed group (groups_of form) ≡ false → group_in group form ≡ unwanted group
unfolding group_in
none_in [] group none = refl
none_in (this ∷ form) group none =
    let parts = neither (same_address group this.group) (is_listed group (groups_of form)) none in
    rw parts.0 (none_in form group parts.1)
  where
    neither : (p q : Bool) → (p || q) ≡ false → (p ≡ false) × (q ≡ false)
    neither true q h = absurd cc
    neither false q h = (refl, h)

module _ {A : Type 0} (bytes_of : A → List ℕ) (row : List A) (family : AddressFamily) (places : List (GroupPlace A)) (kept : IsKept bytes_of family row places) where
  pub group_found : (i : ℕ) (d : GroupPlace A) (group : List ℕ) → i < length places → place_group bytes_of (get_or places i d) ≡ group
      → group_in group (form_seen bytes_of row places) ≡ place_seen bytes_of row (get_or places i d)
  group_found i d group below is =
      let at = all_at (λ (this : GroupForm). group_in this.group (form_seen bytes_of row places) ≡ this) (form_seen bytes_of row places) (all_in (form_seen bytes_of row places) kept.normal.ascending) i (place_seen bytes_of row d) (rw (places_count bytes_of row places) below) in
      let same = seen_at bytes_of row places i d below in
      subst (λ g. group_in g (form_seen bytes_of row places) ≡ place_seen bytes_of row (get_or places i d)) is
      (subst (λ (this : GroupForm). group_in this.group (form_seen bytes_of row places) ≡ this) same at)

  pub group_missed : (group : List ℕ) → is_listed group (map (place_group bytes_of) places) ≡ false → group_in group (form_seen bytes_of row places) ≡ unwanted group
  group_missed group none = none_in (form_seen bytes_of row places) group (rw (groups_seen bytes_of row places) none)
