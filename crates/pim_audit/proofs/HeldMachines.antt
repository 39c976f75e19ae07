-- A walk over the machines that a port holds of a group.
use Rattle.pim_audit.proofs.GatherWords.{◌≡◌, ◌∙◌, ℕ, ◌<◌, ◌≤◌, ◌⊎◌, inl, inr, Bool, true, false, ◌&&◌, cond, List, [], ◌∷◌}
use Rattle.pim_audit.proofs.GatherWords.{length, filter, Option, None, Some, refl, sym, ap, subst, arith, false≢true, eq-eqb, eqb-true}
use Rattle.pim_audit.proofs.GatherWords.{find, is_some, is_eq, is_lt, Ordering, Less, Equal, Greater, nat_cmp, ordering_then}
use Rattle.pim_audit.proofs.GatherWords.{IsTotalOrder, nat_cmp_total, nat_list_cmp_total, on_total, then_total, tied_itself, address_cmp}
use Rattle.pim_audit.proofs.GatherWords.{rank, source_of, what_cmp, key_cmp, same_key, IsAscending, IsBelow}
use Rattle.pim_audit.proofs.GatherWords.{machine_at, state_of_machine, Key, What, Star, Source, Rpt, Machine, Record, state_on, ◌==◌}
use Rattle.pim_audit.proofs.Gather.{and_both, and_true}
use Rattle.std.specs.FinMap.{slice_cmp-IsAntisymmetric, nat_cmp-IsAntisymmetric}
use Rattle.pim_down.specs.After.{MachinesLeft, next_machine, next_in_group, left_behind, is_machine_after}

-- either way of a test
pub by_test : {P : Type 0} (b : Bool) → (b ≡ true → P) → (b ≡ false → P) → P
by_test true here later = here refl
by_test false here later = later refl

-- ---- the order of machines and keys

what_total : IsTotalOrder what_cmp
unfolding what_cmp
what_total = then_total (on_total rank nat_cmp_total) (on_total source_of nat_list_cmp_total)

pub what_itself : (what : What (List ℕ)) → what_cmp what what ≡ Equal
what_itself what = tied_itself what_total what

pub is_equal : (r : Ordering) → is_eq r ≡ true → r ≡ Equal
is_equal Less e = absurd (false≢true e)
is_equal Equal e = refl
is_equal Greater e = absurd (false≢true e)

is_less : (r : Ordering) → is_lt r ≡ true → r ≡ Less
is_less Less e = refl
is_less Equal e = absurd (false≢true e)
is_less Greater e = absurd (false≢true e)

pub both_equal : (r s : Ordering) → ordering_then r s ≡ Equal → (r ≡ Equal) × (s ≡ Equal)
both_equal Less s e = absurd (false≢true (ap is_eq e))
both_equal Equal s e = (refl, e)
both_equal Greater s e = absurd (false≢true (ap is_eq e))

pub one_address : (a b : List ℕ) → address_cmp a b ≡ Equal → a ≡ b
one_address a b e = slice_cmp-IsAntisymmetric nat_cmp-IsAntisymmetric a b e

pub one_what : (a b : What (List ℕ)) → what_cmp a b ≡ Equal → a ≡ b
unfolding what_cmp
one_what Star Star e = refl
one_what Star (Source t) e = absurd (false≢true (ap is_eq e))
one_what Star (Rpt t) e = absurd (false≢true (ap is_eq e))
one_what (Source s) Star e = absurd (false≢true (ap is_eq e))
one_what (Source s) (Source t) e = ap (λ a. Source a) (one_address s t (both_equal (nat_cmp 1 1) (address_cmp s t) e).1)
one_what (Source s) (Rpt t) e = absurd (false≢true (ap is_eq e))
one_what (Rpt s) Star e = absurd (false≢true (ap is_eq e))
one_what (Rpt s) (Source t) e = absurd (false≢true (ap is_eq e))
one_what (Rpt s) (Rpt t) e = ap (λ a. Rpt a) (one_address s t (both_equal (nat_cmp 2 2) (address_cmp s t) e).1)

pub one_key : (a b : Key (List ℕ)) → same_key a b ≡ true → a ≡ b
unfolding key_cmp
one_key a b e =
    let whole = both_equal (ordering_then (nat_cmp a.port b.port) (address_cmp a.group b.group)) (what_cmp a.what b.what) (is_equal (key_cmp a b) e) in
    let front = both_equal (nat_cmp a.port b.port) (address_cmp a.group b.group) whole.0 in
    let ports = nat_cmp-IsAntisymmetric a.port b.port front.0 in
    let groups = one_address a.group b.group front.1 in
    let whats = one_what a.what b.what whole.1 in
    λ i. record { port = ports i; group = groups i; what = whats i }

pub address_equal : (address : List ℕ) → address_cmp address address ≡ Equal
address_equal address = tied_itself nat_list_cmp_total address

-- ---- the first of a list that passes

module _ {A : Type 0} (test : A → Bool) (x : A) (xs : List A) where
  found_here : (a : A) → test x ≡ true → find test (x ∷ xs) ≡ Some a → x ≡ a
  found_here a e found =
      let same : Some x ≡ Some a = subst (λ b. cond b (Some x) (find test xs) ≡ Some a) e found in
      cc

  found_later : (r : Option A) → test x ≡ false → find test (x ∷ xs) ≡ r → find test xs ≡ r
  found_later r e found = subst (λ b. cond b (Some x) (find test xs) ≡ r) e found

  some_found : test x ≡ true → find test (x ∷ xs) ≡ None → ⊥
  some_found e none =
      let clash : Some x ≡ None = subst (λ b. cond b (Some x) (find test xs) ≡ None) e none in
      cc

-- a test that passes less passes fewer
fewer : {A : Type 0} (more less : A → Bool) → ((x : A) → less x ≡ true → more x ≡ true) → (xs : List A)
    → length (filter less xs) ≤ length (filter more xs)
fewer more less all [] = omega arith
fewer more less all (x ∷ xs) =
    by_test (less x)
    (λ e. rw (e, all x e) (let rest = fewer more less all xs in omega (arith, rest)))
    (λ e. rw e (by_test (more x)
    (λ f. rw f (let rest = fewer more less all xs in omega (arith, rest)))
    (λ f. rw f (fewer more less all xs))))

one_fewer : {A : Type 0} (more less : A → Bool) (a : A) → ((x : A) → less x ≡ true → more x ≡ true) → less a ≡ false → (xs : List A)
    → find more xs ≡ Some a → length (filter less xs) < length (filter more xs)
one_fewer more less a all not [] found = absurd cc
one_fewer more less a all not (x ∷ xs) found =
    by_test (more x)
    (λ e.
    let gone : less x ≡ false = subst (λ y. less y ≡ false) (sym (found_here more x xs a e found)) not in
    rw (e, gone) (let rest = fewer more less all xs in omega (arith, rest)))
    (λ e.
    let gone : less x ≡ false = by_test (less x) (λ f. absurd (false≢true (sym e ∙ all x f))) (λ f. f) in
    rw (e, gone) (one_fewer more less a all not xs (found_later more x xs (Some a) e found)))

-- ---- the machines of one group on one port

module _ (port : ℕ) (group : List ℕ) where
  abbrev pub key_of : What (List ℕ) → Key (List ℕ)
  key_of what = record { port = port; group = group; what = what }

  by_what : (what this : What (List ℕ)) → key_cmp (key_of what) (key_of this) ≡ what_cmp what this
  unfolding key_cmp
  by_what what this = rw (tied_itself nat_cmp_total port, address_equal group) refl

  after_of : (behind what : What (List ℕ)) (machine : Machine)
      → is_machine_after port group behind (record { key = key_of what; machine = machine }) ≡ is_lt (what_cmp behind what)
  after_of behind what machine = rw (eq-eqb port port refl, address_equal group) refl

  -- what comes after a machine is of this port and group
  after_key : (behind : What (List ℕ)) (held : Record (List ℕ)) → is_machine_after port group behind held ≡ true → held.key ≡ key_of held.key.what
  after_key behind held passes =
      let parts = and_both (held.key.port == port) (is_eq (address_cmp held.key.group group) && is_lt (what_cmp behind held.key.what)) passes in
      let others = and_both (is_eq (address_cmp held.key.group group)) (is_lt (what_cmp behind held.key.what)) parts.1 in
      let ports = eqb-true held.key.port port parts.0 in
      let groups = one_address held.key.group group (is_equal (address_cmp held.key.group group) others.0) in
      λ i. record { port = ports i; group = groups i; what = held.key.what }

  after_less : (behind : What (List ℕ)) (held : Record (List ℕ)) → is_machine_after port group behind held ≡ true → what_cmp behind held.key.what ≡ Less
  after_less behind held passes =
      let parts = and_both (held.key.port == port) (is_eq (address_cmp held.key.group group) && is_lt (what_cmp behind held.key.what)) passes in
      is_less (what_cmp behind held.key.what) (and_both (is_eq (address_cmp held.key.group group)) (is_lt (what_cmp behind held.key.what)) parts.1).1

  -- what comes after the later of two machines comes after both
  after_more : (behind : What (List ℕ)) (found held : Record (List ℕ)) → is_machine_after port group behind found ≡ true
      → is_machine_after port group found.key.what held ≡ true → is_machine_after port group behind held ≡ true
  after_more behind found held first passes =
      let parts = and_both (held.key.port == port) (is_eq (address_cmp held.key.group group) && is_lt (what_cmp found.key.what held.key.what)) passes in
      let others = and_both (is_eq (address_cmp held.key.group group)) (is_lt (what_cmp found.key.what held.key.what)) parts.1 in
      let less = what_total.trans behind found.key.what held.key.what (after_less behind found first) (after_less found.key.what held passes) in
      and_true (held.key.port == port) (is_eq (address_cmp held.key.group group) && is_lt (what_cmp behind held.key.what)) parts.0
      (and_true (is_eq (address_cmp held.key.group group)) (is_lt (what_cmp behind held.key.what)) others.0 (ap is_lt less))

  not_after_itself : (held : Record (List ℕ)) → is_machine_after port group held.key.what held ≡ false
  not_after_itself held = by (held.key.port == port) (is_eq (address_cmp held.key.group group)) (is_lt (what_cmp held.key.what held.key.what)) (ap is_lt (what_itself held.key.what))
    where
      by : (a b c : Bool) → c ≡ false → (a && (b && c)) ≡ false
      by true true c e = e
      by true false c e = refl
      by false b c e = refl

  -- a machine that is held, here or later
  pub held_later : (what : What (List ℕ)) (first : Record (List ℕ)) (records : List (Record (List ℕ))) → same_key (key_of what) first.key ≡ false
      → is_some (state_on (first ∷ records) port group what) ≡ true → is_some (state_on records port group what) ≡ true
  unfolding machine_at
  held_later what first records apart held =
      subst (λ b. is_some (state_of_machine (cond b (Some first.machine) (machine_at (key_of what) records))) ≡ true) apart held

  pub none_held : (what : What (List ℕ)) → is_some (state_on [] port group what) ≡ true → ⊥
  unfolding machine_at
  none_held what held = false≢true held

  -- no machine is left after one: each comes up to it
  none_after : (behind what : What (List ℕ)) (records : List (Record (List ℕ))) → next_in_group port group behind records ≡ None
      → is_some (state_on records port group what) ≡ true → is_lt (what_cmp behind what) ≡ false
  none_after behind what [] none held = absurd (none_held what held)
  none_after behind what (first ∷ records) none held =
      by_test (is_machine_after port group behind first)
      (λ t. absurd (some_found (is_machine_after port group behind) first records t none))
      (λ f. by_test (same_key (key_of what) first.key)
      (λ e. sym (after_of behind what first.machine)
      ∙ subst (λ (k : Key (List ℕ)). is_machine_after port group behind (record { key = k; machine = first.machine }) ≡ false) (sym (one_key (key_of what) first.key e)) f)
      (λ e. none_after behind what records (found_later (is_machine_after port group behind) first records None f none) (held_later what first records e held)))

  below_held : (low : Key (List ℕ)) (what : What (List ℕ)) (records : List (Record (List ℕ))) → IsBelow low records
      → is_some (state_on records port group what) ≡ true → key_cmp low (key_of what) ≡ Less
  unfolding IsBelow
  below_held low what [] below held = absurd (none_held what held)
  below_held low what (first ∷ records) below held =
      by_test (same_key (key_of what) first.key)
      (λ e. subst (λ (k : Key (List ℕ)). key_cmp low k ≡ Less) (sym (one_key (key_of what) first.key e)) below.0)
      (λ e. below_held low what records below.1 (held_later what first records e held))

  -- the first machine after one is the only one up to itself
  only_one : (behind what : What (List ℕ)) (records : List (Record (List ℕ))) (found : Record (List ℕ)) → IsAscending records
      → next_in_group port group behind records ≡ Some found → is_some (state_on records port group what) ≡ true
      → is_lt (what_cmp behind what) ≡ true → is_lt (what_cmp found.key.what what) ≡ false → what ≡ found.key.what
  unfolding IsAscending
  only_one behind what [] found up is held over upto = absurd (none_held what held)
  only_one behind what (first ∷ records) found up is held over upto =
      by_test (is_machine_after port group behind first)
      (λ t.
      let same = found_here (is_machine_after port group behind) first records found t is in
      by_test (same_key (key_of what) first.key)
      (λ e. ap (λ (k : Key (List ℕ)). k.what) (one_key (key_of what) first.key e) ∙ ap (λ (r : Record (List ℕ)). r.key.what) same)
      (λ e.
      let less = below_held first.key what records up.0 (held_later what first records e held) in
      let whats : what_cmp first.key.what what ≡ Less =
      sym (by_what first.key.what what) ∙ ap (λ (k : Key (List ℕ)). key_cmp k (key_of what)) (sym (after_key behind first t)) ∙ less in
      absurd (false≢true (sym upto ∙ ap (λ (r : Record (List ℕ)). is_lt (what_cmp r.key.what what)) (sym same) ∙ ap is_lt whats))))
      (λ f. by_test (same_key (key_of what) first.key)
      (λ e. absurd (false≢true (sym f
      ∙ ap (λ (k : Key (List ℕ)). is_machine_after port group behind (record { key = k; machine = first.machine })) (sym (one_key (key_of what) first.key e))
      ∙ after_of behind what first.machine ∙ over)))
      (λ e. only_one behind what records found up.1 (found_later (is_machine_after port group behind) first records (Some found) f is)
      (held_later what first records e held) over upto))

  found_after : (behind : What (List ℕ)) (records : List (Record (List ℕ))) (found : Record (List ℕ))
      → next_in_group port group behind records ≡ Some found → is_machine_after port group behind found ≡ true
  found_after behind [] found is = absurd cc
  found_after behind (first ∷ records) found is =
      by_test (is_machine_after port group behind first)
      (λ t. subst (λ (r : Record (List ℕ)). is_machine_after port group behind r ≡ true) (found_here (is_machine_after port group behind) first records found t is) t)
      (λ f. found_after behind records found (found_later (is_machine_after port group behind) first records (Some found) f is))

  -- ---- the walk

  -- the machines of the group on the port after this one
  abbrev pub walk : List (Record (List ℕ)) → What (List ℕ) → MachinesLeft
  walk records behind = record { records = records; behind = key_of behind }

  -- how many they are
  abbrev pub left_count : List (Record (List ℕ)) → What (List ℕ) → ℕ
  left_count records behind = length (filter (is_machine_after port group behind) records)

  -- the machine is held and doesn't come after this one
  abbrev pub IsPassed : List (Record (List ℕ)) → What (List ℕ) → What (List ℕ) → Type 0
  IsPassed records behind what = (is_some (state_on records port group what) ≡ true) × (is_lt (what_cmp behind what) ≡ false)

  -- a step of the walk
  pub record Steps (records : List (Record (List ℕ))) (left next : MachinesLeft) (given : What (List ℕ)) : Type 0 where
    pub walks : next ≡ walk records next.behind.what
    pub what : next.behind.what ≡ given
    pub passes : (what : What (List ℕ)) → IsPassed records given what → IsPassed records left.behind.what what ⊎ (what ≡ given)
    pub fewer : left_count records given < left_count records left.behind.what

  pub steps : (records : List (Record (List ℕ))) (left next : MachinesLeft) (given : Record (List ℕ)) → IsAscending records
      → left ≡ walk records left.behind.what → Some given ≡ next_machine left → next ≡ left_behind left (next_machine left)
      → Steps records left next given.key.what
  steps records left next given up walks gives goes = record {
    walks = to ∙ (λ i. record { records = ap (λ (m : MachinesLeft). m.records) walks i; behind = key i }) ∙ ap (walk records) (sym what_is);
    what = what_is;
    passes = λ what passed.
        by_test (is_lt (what_cmp left.behind.what what))
        (λ over. inr (only_one left.behind.what what records given up found passed.0 over passed.1))
        (λ upto. inl (passed.0, upto));
    fewer = one_fewer (is_machine_after port group left.behind.what) (is_machine_after port group given.key.what) given
        (λ held later. after_more left.behind.what given held first later) (not_after_itself given) records found;
  }
    where
      found : next_in_group port group left.behind.what records ≡ Some given
      found = ap next_machine (sym walks) ∙ sym gives

      first : is_machine_after port group left.behind.what given ≡ true
      first = found_after left.behind.what records given found

      to : next ≡ record { records = left.records; behind = given.key }
      to = goes ∙ ap (left_behind left) (sym gives)

      key : given.key ≡ key_of given.key.what
      key = after_key left.behind.what given first

      what_is : next.behind.what ≡ given.key.what
      what_is = ap (λ (m : MachinesLeft). m.behind.what) to

  -- all are passed at the end
  pub all_passed : (records : List (Record (List ℕ))) (left : MachinesLeft) → left ≡ walk records left.behind.what → next_machine left ≡ None
      → (what : What (List ℕ)) → is_some (state_on records port group what) ≡ true → IsPassed records left.behind.what what
  all_passed records left walks none what held =
      (held, none_after left.behind.what what records (ap next_machine (sym walks) ∙ none) held)
