-- Sets of machines: which machines they have after one was inserted, and that none is there twice.
use Rattle.pim_audit.proofs.GatherWords.{◌≡◌, ◌∙◌, ◌||◌, ◌&&◌, ℕ, Bool, true, false, List, [], ◌∷◌, refl, sym, ap, subst}
use Rattle.std.proofs.Common.{ap₂}
use Rattle.pim_audit.proofs.GatherWords.{is_eq, Ordering, Less, Equal, Greater, nat_cmp, ordering_then}
use Rattle.pim_audit.proofs.GatherWords.{slice_cmp, texts_ties, address_cmp, what_cmp, What, Star, Source, Rpt}
use Rattle.pim_audit.proofs.GatherWords.{same_address, AllByRecursion, IsStrictlySortedBy, both_tied}
use Rattle.pim_audit.proofs.Gather.{or_first, or_second}
use Rattle.pim_audit.proofs.HeldMachines.{is_equal, both_equal, one_address, one_what, what_itself, address_equal}
use Rattle.std.specs.BTreeSet.{insert_key}
use Rattle.std.specs.Ordering.{match_ordering}
use Rattle.pim_down.specs.Seen.{what_seen}
use Rattle.pim_audit.specs.declared.machine.GroupMachine.{GroupMachine}
use Rattle.pim_audit.specs.Touched.{is_one_of, machine_seen, machines_seen}
use Rattle.pim_audit.specs.Watched.{MachinesGrow}

-- ---- one machine

-- the order of machines: by group, then as a port has them
abbrev pub machine_cmp : GroupMachine (List ℕ) → GroupMachine (List ℕ) → Ordering
machine_cmp a b = ordering_then (address_cmp a.group b.group) (what_cmp a.what b.what)

-- it is this machine of the group
abbrev pub is_machine : List ℕ → What (List ℕ) → GroupMachine (List ℕ) → Bool
is_machine group what machine = same_address group machine.group && is_eq (what_cmp what machine.what)

pub machine_ties : (a b : GroupMachine (List ℕ)) → is_machine a.group a.what b ≡ is_eq (machine_cmp a b)
machine_ties a b = both_tied (same_address a.group b.group) (is_eq (what_cmp a.what b.what)) (address_cmp a.group b.group)
    (what_cmp a.what b.what) (texts_ties a.group b.group) refl

pub one_machine : (a b : GroupMachine (List ℕ)) → machine_cmp a b ≡ Equal → a ≡ b
one_machine a b e =
    let both = both_equal (address_cmp a.group b.group) (what_cmp a.what b.what) e in
    let groups = one_address a.group b.group both.0 in
    let whats = one_what a.what b.what both.1 in
    λ i. record { group = groups i; what = whats i }

pub machine_is : (group : List ℕ) (what : What (List ℕ)) (machine : GroupMachine (List ℕ)) → is_machine group what machine ≡ true
    → record { group = group; what = what } ≡ machine
machine_is group what machine e =
    one_machine (record { group = group; what = what }) machine
    (is_equal (machine_cmp (record { group = group; what = what }) machine)
    (sym (machine_ties (record { group = group; what = what }) machine) ∙ e))

pub machine_itself : (machine : GroupMachine (List ℕ)) → is_machine machine.group machine.what machine ≡ true
machine_itself machine =
    ap₂ ◌&&◌ (texts_ties machine.group machine.group ∙ ap is_eq (address_equal machine.group)) (ap is_eq (what_itself machine.what))

-- ---- sets

or_twice : (p q : Bool) → (p || (p || q)) ≡ (p || q)
or_twice true q = refl
or_twice false q = refl

or_swap : (p q r : Bool) → (p || (q || r)) ≡ (q || (p || r))
or_swap true true r = refl
or_swap true false r = refl
or_swap false true r = refl
or_swap false false r = refl

-- the derived order of the code's machines, case by case
pub ordered : {A : Type 0} (bytes_of : A → List ℕ) (base : A → A → Ordering)
    → ((a b : A) → base a b ≡ slice_cmp nat_cmp (bytes_of a) (bytes_of b)) → (cmp : GroupMachine A → GroupMachine A → Ordering)
    → ((g h : A) → cmp (record { group = g; what = Star }) (record { group = h; what = Star }) ≡ ordering_then (base g h) Equal)
    → ((g h t : A) → cmp (record { group = g; what = Star }) (record { group = h; what = Source t }) ≡ ordering_then (base g h) Less)
    → ((g h t : A) → cmp (record { group = g; what = Star }) (record { group = h; what = Rpt t }) ≡ ordering_then (base g h) Less)
    → ((g h s : A) → cmp (record { group = g; what = Source s }) (record { group = h; what = Star }) ≡ ordering_then (base g h) Greater)
    → ((g h s t : A) → cmp (record { group = g; what = Source s }) (record { group = h; what = Source t }) ≡ ordering_then (base g h) (base s t))
    → ((g h s t : A) → cmp (record { group = g; what = Source s }) (record { group = h; what = Rpt t }) ≡ ordering_then (base g h) Less)
    → ((g h s : A) → cmp (record { group = g; what = Rpt s }) (record { group = h; what = Star }) ≡ ordering_then (base g h) Greater)
    → ((g h s t : A) → cmp (record { group = g; what = Rpt s }) (record { group = h; what = Source t }) ≡ ordering_then (base g h) Greater)
    → ((g h s t : A) → cmp (record { group = g; what = Rpt s }) (record { group = h; what = Rpt t }) ≡ ordering_then (base g h) (base s t))
    → (a b : GroupMachine A) → cmp a b ≡ machine_cmp (machine_seen bytes_of a) (machine_seen bytes_of b)
unfolding what_cmp
ordered {A = A} bytes_of base of cmp e00 e01 e02 e10 e11 e12 e20 e21 e22 a b = by a.what b.what
  where
    by : (s t : What A) → cmp (record { group = a.group; what = s }) (record { group = b.group; what = t })
        ≡ ordering_then (slice_cmp nat_cmp (bytes_of a.group) (bytes_of b.group)) (what_cmp (what_seen bytes_of s) (what_seen bytes_of t))
    by Star Star = e00 a.group b.group ∙ ap (λ r. ordering_then r Equal) (of a.group b.group)
    by Star (Source t) = e01 a.group b.group t ∙ ap (λ r. ordering_then r Less) (of a.group b.group)
    by Star (Rpt t) = e02 a.group b.group t ∙ ap (λ r. ordering_then r Less) (of a.group b.group)
    by (Source s) Star = e10 a.group b.group s ∙ ap (λ r. ordering_then r Greater) (of a.group b.group)
    by (Source s) (Source t) = e11 a.group b.group s t ∙ ap₂ ordering_then (of a.group b.group) (of s t)
    by (Source s) (Rpt t) = e12 a.group b.group s t ∙ ap (λ r. ordering_then r Less) (of a.group b.group)
    by (Rpt s) Star = e20 a.group b.group s ∙ ap (λ r. ordering_then r Greater) (of a.group b.group)
    by (Rpt s) (Source t) = e21 a.group b.group s t ∙ ap (λ r. ordering_then r Greater) (of a.group b.group)
    by (Rpt s) (Rpt t) = e22 a.group b.group s t ∙ ap₂ ordering_then (of a.group b.group) (of s t)

module _ {A : Type 0} (bytes_of : A → List ℕ) (cmp : GroupMachine A → GroupMachine A → Ordering)
    (order : (a b : GroupMachine A) → cmp a b ≡ machine_cmp (machine_seen bytes_of a) (machine_seen bytes_of b)) where
  inserted_by : (group : List ℕ) (what : What (List ℕ)) (keys others : List (GroupMachine A)) (a key : GroupMachine A) (r : Ordering)
      → cmp a key ≡ r
      → is_one_of group what (machines_seen bytes_of others)
      ≡ (is_machine group what (machine_seen bytes_of a) || is_one_of group what (machines_seen bytes_of keys))
      → is_one_of group what (machines_seen bytes_of (match_ordering r (a ∷ key ∷ keys) (key ∷ keys) (key ∷ others)))
      ≡ (is_machine group what (machine_seen bytes_of a) || is_one_of group what (machines_seen bytes_of (key ∷ keys)))
  inserted_by group what keys others a key Less e later = refl
  inserted_by group what keys others a key Equal e later =
      let all = is_one_of group what (machines_seen bytes_of (key ∷ keys)) in
      let same = one_machine (machine_seen bytes_of a) (machine_seen bytes_of key) (sym (order a key) ∙ e) in
      sym (subst (λ (m : GroupMachine (List ℕ)). (is_machine group what m || all) ≡ all) (sym same)
      (or_twice (is_machine group what (machine_seen bytes_of key)) (is_one_of group what (machines_seen bytes_of keys))))
  inserted_by group what keys others a key Greater e later =
      ap (λ b. is_machine group what (machine_seen bytes_of key) || b) later
      ∙ or_swap (is_machine group what (machine_seen bytes_of key)) (is_machine group what (machine_seen bytes_of a))
      (is_one_of group what (machines_seen bytes_of keys))

  listed_inserted : (group : List ℕ) (what : What (List ℕ)) (keys : List (GroupMachine A)) (a : GroupMachine A)
      → is_one_of group what (machines_seen bytes_of (insert_key cmp keys a))
      ≡ (is_machine group what (machine_seen bytes_of a) || is_one_of group what (machines_seen bytes_of keys))
  listed_inserted group what [] a = refl
  listed_inserted group what (key ∷ keys) a =
      inserted_by group what keys (insert_key cmp keys a) a key (cmp a key) refl (listed_inserted group what keys a)

  module _ (keys after : List (GroupMachine A)) (a : GroupMachine A) (e : after ≡ insert_key cmp keys a) where
    pub has_inserted : is_one_of (bytes_of a.group) (what_seen bytes_of a.what) (machines_seen bytes_of after) ≡ true
    has_inserted =
        ap (λ k. is_one_of (bytes_of a.group) (what_seen bytes_of a.what) (machines_seen bytes_of k)) e
        ∙ listed_inserted (bytes_of a.group) (what_seen bytes_of a.what) keys a
        ∙ or_first (is_machine (bytes_of a.group) (what_seen bytes_of a.what) (machine_seen bytes_of a))
        (is_one_of (bytes_of a.group) (what_seen bytes_of a.what) (machines_seen bytes_of keys))
        (machine_itself (machine_seen bytes_of a))

    pub grows_inserted : MachinesGrow (machines_seen bytes_of keys) (machines_seen bytes_of after)
    grows_inserted group what listed =
        ap (λ k. is_one_of group what (machines_seen bytes_of k)) e ∙ listed_inserted group what keys a
        ∙ or_second (is_machine group what (machine_seen bytes_of a)) (is_one_of group what (machines_seen bytes_of keys)) listed

  -- ---- sets in order

  all_less : (key : GroupMachine A) (keys : List (GroupMachine A)) → AllByRecursion (λ other. cmp key other ≡ Less) keys
      → AllByRecursion (λ other. machine_cmp (machine_seen bytes_of key) other ≡ Less) (machines_seen bytes_of keys)
  all_less key [] all = tt
  all_less key (other ∷ others) all = (sym (order key other) ∙ all.0, all_less key others all.1)

  pub machines_ascend : (keys : List (GroupMachine A)) → IsStrictlySortedBy cmp keys
      → IsStrictlySortedBy machine_cmp (machines_seen bytes_of keys)
  unfolding IsStrictlySortedBy
  machines_ascend [] up = tt
  machines_ascend (key ∷ keys) up = (all_less key keys up.0, machines_ascend keys up.1)

-- the machine isn't one of those that come after it
pub none_later : (machine : GroupMachine (List ℕ)) (machines : List (GroupMachine (List ℕ)))
    → AllByRecursion (λ other. machine_cmp machine other ≡ Less) machines → is_one_of machine.group machine.what machines ≡ false
none_later machine [] after = refl
none_later machine (other ∷ others) after =
    ap₂ ◌||◌ (machine_ties machine other ∙ ap is_eq after.0) (none_later machine others after.1)

-- a set after a machine was inserted
pub inserted : {A : Type 0} (bytes_of : A → List ℕ) (cmp : GroupMachine A → GroupMachine A → Ordering) (keys after : List (GroupMachine A))
    (a : GroupMachine A) → after ≡ insert_key cmp keys a
    → ((a b : GroupMachine A) → cmp a b ≡ machine_cmp (machine_seen bytes_of a) (machine_seen bytes_of b))
    → (is_one_of (bytes_of a.group) (what_seen bytes_of a.what) (machines_seen bytes_of after) ≡ true)
    × MachinesGrow (machines_seen bytes_of keys) (machines_seen bytes_of after)
inserted bytes_of cmp keys after a e order =
    (has_inserted bytes_of cmp order keys after a e, grows_inserted bytes_of cmp order keys after a e)

-- the machines of a set ascend
pub ascending : {A : Type 0} (bytes_of : A → List ℕ) (cmp : GroupMachine A → GroupMachine A → Ordering) (keys : List (GroupMachine A))
    → IsStrictlySortedBy cmp keys → ((a b : GroupMachine A) → cmp a b ≡ machine_cmp (machine_seen bytes_of a) (machine_seen bytes_of b))
    → IsStrictlySortedBy machine_cmp (machines_seen bytes_of keys)
ascending bytes_of cmp keys up order = machines_ascend bytes_of cmp order keys up
