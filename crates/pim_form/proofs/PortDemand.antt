-- What one port wants, asked of its records alone, each by itself.
use Rattle.pim_form.proofs.Words.{◌≡◌, ◌∙◌, ℕ, ◌+◌, Bool, true, false, ◌||◌, ◌&&◌, not, cond, List, [], ◌∷◌, Option}
use Rattle.pim_form.proofs.Words.{None, Some, length, eqb, refl, sym, ap, subst, arith, AllByRecursion, list_any}
use Rattle.pim_form.proofs.Words.{filter, is_eq, false≢true, eqb-true, nat_tests, AddressFamily, What, Star, Source}
use Rattle.pim_form.proofs.Words.{Rpt, Key, State, Record, same_key, IsBelow, IsAscending, machine_at, state_of_machine}
use Rattle.pim_form.proofs.Words.{state_of, is_on, count_on, KeysAreDistinct, IsReal, IsSound, Downstream, Tree}
use Rattle.pim_form.proofs.Words.{same_address, is_joined, is_pruned, state_on, wants_on, AreOfPort, of_port}
use Rattle.pim_form.specs.declared.tree.Tree.TheVariants.{Shared, Source as SourceTree}
use Rattle.pim_form.proofs.Addresses.{same_is, same_itself}

-- ---- asked of each record by itself

abbrev pub same_what : What (List ℕ) → What (List ℕ) → Bool
same_what Star Star = true
same_what (Source s) (Source t) = same_address s t
same_what (Rpt s) (Rpt t) = same_address s t
same_what _ _ = false

-- the record is of this machine, and its state passes the test
abbrev pub carries : (Option State → Bool) → List ℕ → What (List ℕ) → Record (List ℕ) → Bool
carries good group what held = same_address group held.key.group && (same_what what held.key.what && good (Some held.machine.state))

abbrev pub some_tell : (Option State → Bool) → List ℕ → What (List ℕ) → List (Record (List ℕ)) → Bool
some_tell good group what records = list_any (carries good group what) records

abbrev pub told_wants : List (Record (List ℕ)) → List ℕ → List ℕ → Tree → Bool
told_wants records source group Shared = some_tell is_joined group Star records && not (some_tell is_pruned group (Rpt source) records)
told_wants records source group SourceTree = some_tell is_joined group (Source source) records

-- ---- keys

both_ways : (a b : Bool) → (a ≡ true → b ≡ true) → (b ≡ true → a ≡ true) → a ≡ b
both_ways true true f g = refl
both_ways true false f g = sym (f refl)
both_ways false true f g = g refl
both_ways false false f g = refl

and_first : (p q : Bool) → (p && q) ≡ true → p ≡ true
and_first true q e = refl
and_first false q e = e

and_second : (p q : Bool) → (p && q) ≡ true → q ≡ true
and_second true q e = e
and_second false q e = absurd (false≢true e)

what_is : (a b : What (List ℕ)) → same_what a b ≡ true → a ≡ b
what_is Star Star e = refl
what_is Star (Source t) e = absurd (false≢true e)
what_is Star (Rpt t) e = absurd (false≢true e)
what_is (Source s) Star e = absurd (false≢true e)
what_is (Source s) (Source t) e = ap Source (same_is s t e)
what_is (Source s) (Rpt t) e = absurd (false≢true e)
what_is (Rpt s) Star e = absurd (false≢true e)
what_is (Rpt s) (Source t) e = absurd (false≢true e)
what_is (Rpt s) (Rpt t) e = ap Rpt (same_is s t e)

what_itself : (a : What (List ℕ)) → same_what a a ≡ true
what_itself Star = refl
what_itself (Source s) = same_itself s
what_itself (Rpt s) = same_itself s

module _ (apart : KeysAreDistinct) where
  key_tells : (port : ℕ) (group : List ℕ) (what : What (List ℕ)) (key : Key (List ℕ)) → key.port ≡ port → same_key (record { port = port; group = group; what = what }) key ≡ (same_address group key.group && same_what what key.what)
  key_tells port group what key on =
      let sought : Key (List ℕ) = record { port = port; group = group; what = what } in
      both_ways (same_key sought key) (same_address group key.group && same_what what key.what)
      (λ e. let same : sought ≡ key = (apart sought key).1.0 e in
      subst (λ (k : Key (List ℕ)). (same_address group k.group && same_what what k.what) ≡ true) same (rw (same_itself group, what_itself what) refl))
      (λ e. let groups : group ≡ key.group = same_is group key.group (and_first (same_address group key.group) (same_what what key.what) e) in
      let whats : what ≡ key.what = what_is what key.what (and_second (same_address group key.group) (same_what what key.what) e) in
      let same : sought ≡ key = λ i. record { port = sym on i; group = groups i; what = whats i } in
      (apart sought key).1.1 same)

  -- ---- the machine of a key

  module _ (good : Option State → Bool) (none : good None ≡ false) where
    has : Key (List ℕ) → Record (List ℕ) → Bool
    has key held = same_key key held.key && good (Some held.machine.state)

    none_below : (key : Key (List ℕ)) (records : List (Record (List ℕ))) → IsBelow key records → list_any (has key) records ≡ false
    unfolding IsBelow has
    none_below key [] below = refl
    none_below key (held ∷ records) below = ap (λ r. (is_eq r && good (Some held.machine.state)) || list_any (has key) records) below.0 ∙ none_below key records below.1

    or_nothing : (p q : Bool) → q ≡ false → p ≡ (p || q)
    or_nothing true q e = refl
    or_nothing false q e = sym e

    state_is_any : (key : Key (List ℕ)) (records : List (Record (List ℕ))) → IsAscending records → good (state_of key records) ≡ list_any (has key) records
    unfolding machine_at IsAscending has
    state_is_any key [] up = none
    state_is_any key (held ∷ records) up = by (state_is_any key records up.1) (same_key key held.key) refl
      where
        by : good (state_of key records) ≡ list_any (has key) records → (b : Bool) → same_key key held.key ≡ b → good (state_of_machine (cond (same_key key held.key) (Some held.machine) (machine_at key records))) ≡ ((same_key key held.key && good (Some held.machine.state)) || list_any (has key) records)
        by others true e =
            let same : key ≡ held.key = (apart key held.key).1.0 e in
            rw e (or_nothing (good (Some held.machine.state)) (list_any (has key) records) (subst (λ k. list_any (has k) records ≡ false) (sym same) (none_below held.key records up.0)))
        by others false e = rw e others

    -- those of the port suffice
    any_on : (port : ℕ) (group : List ℕ) (what : What (List ℕ)) (records : List (Record (List ℕ))) → list_any (has (record { port = port; group = group; what = what })) records ≡ some_tell good group what (filter (is_on port) records)
    unfolding has
    any_on port group what [] = refl
    any_on port group what (held ∷ records) = by (any_on port group what records) (is_on port held) refl
      where
        key : Key (List ℕ)
        key = record { port = port; group = group; what = what }

        assoc_and : (p q r : Bool) → ((p && q) && r) ≡ (p && (q && r))
        assoc_and true q r = refl
        assoc_and false q r = refl

        not_same : eqb held.key.port port ≡ false → (b : Bool) → same_key key held.key ≡ b → same_key key held.key ≡ false
        not_same off true e =
            let same : port ≡ held.key.port = ap (λ (k : Key (List ℕ)). k.port) ((apart key held.key).1.0 e) in
            absurd (grind (arith, nat_tests))
        not_same off false e = e

        by : list_any (has key) records ≡ some_tell good group what (filter (is_on port) records) → (b : Bool) → eqb held.key.port port ≡ b → list_any (has key) (held ∷ records) ≡ some_tell good group what (cond (eqb held.key.port port) (held ∷ filter (is_on port) records) (filter (is_on port) records))
        by others true e =
            let on : held.key.port ≡ port = eqb-true held.key.port port e in
            rw e ((λ i. (key_tells port group what held.key on i && good (Some held.machine.state)) || others i)
            ∙ ap (λ b. b || some_tell good group what (filter (is_on port) records)) (assoc_and (same_address group held.key.group) (same_what what held.key.what) (good (Some held.machine.state))))
        by others false e = rw (e, not_same e (same_key key held.key) refl) others

    pub state_tells : (port : ℕ) (group : List ℕ) (what : What (List ℕ)) (records : List (Record (List ℕ))) → IsAscending records → good (state_on records port group what) ≡ some_tell good group what (filter (is_on port) records)
    state_tells port group what records up = state_is_any (record { port = port; group = group; what = what }) records up ∙ any_on port group what records

  pub port_wants : (records : List (Record (List ℕ))) (port : ℕ) → IsAscending records → (source group : List ℕ) (tree : Tree) → wants_on records source group tree port ≡ told_wants (filter (is_on port) records) source group tree
  port_wants records port up source group Shared =
      let star = state_tells is_joined refl port group Star records up in
      let rpt = state_tells is_pruned refl port group (Rpt source) records up in
      λ i. star i && not (rpt i)
  port_wants records port up source group SourceTree = state_tells is_joined refl port group (Source source) records up

-- ---- the records of one port

filter_below : (key : Key (List ℕ)) (port : ℕ) (records : List (Record (List ℕ))) → IsBelow key records → IsBelow key (filter (is_on port) records)
unfolding IsBelow
filter_below key port [] below = tt
filter_below key port (held ∷ records) below =
    elim (is_on port held) as (λ b. IsBelow key (cond b (held ∷ filter (is_on port) records) (filter (is_on port) records))) [
      | true ↦ (below.0, filter_below key port records below.1)
      | false ↦ filter_below key port records below.1
    ]

filter_up : (port : ℕ) (records : List (Record (List ℕ))) → IsAscending records → IsAscending (filter (is_on port) records)
unfolding IsAscending
filter_up port [] up = tt
filter_up port (held ∷ records) up =
    elim (is_on port held) as (λ b. IsAscending (cond b (held ∷ filter (is_on port) records) (filter (is_on port) records))) [
      | true ↦ (filter_below held.key port records up.0, filter_up port records up.1)
      | false ↦ filter_up port records up.1
    ]

filter_each : (P : Record (List ℕ) → Type 0) (port : ℕ) (records : List (Record (List ℕ))) → AllByRecursion P records → AllByRecursion P (filter (is_on port) records)
filter_each P port [] all = tt
filter_each P port (held ∷ records) all =
    elim (is_on port held) as (λ b. AllByRecursion P (cond b (held ∷ filter (is_on port) records) (filter (is_on port) records))) [
      | true ↦ (all.0, filter_each P port records all.1)
      | false ↦ filter_each P port records all.1
    ]

filter_on : (port : ℕ) (records : List (Record (List ℕ))) → AllByRecursion (λ held. held.key.port ≡ port) (filter (is_on port) records)
filter_on port [] = tt
filter_on port (held ∷ records) = by (filter_on port records) (is_on port held) refl
  where
    by : AllByRecursion (λ (r : Record (List ℕ)). r.key.port ≡ port) (filter (is_on port) records) → (b : Bool) → eqb held.key.port port ≡ b → AllByRecursion (λ (r : Record (List ℕ)). r.key.port ≡ port) (cond b (held ∷ filter (is_on port) records) (filter (is_on port) records))
    by others true e = (eqb-true held.key.port port e, others)
    by others false e = others

count_is : (port : ℕ) (records : List (Record (List ℕ))) → count_on port records ≡ length (filter (is_on port) records)
unfolding count_on
count_is port [] = refl
count_is port (held ∷ records) =
    let others = count_is port records in
    elim (is_on port held) as (λ b. cond b 1 0 + count_on port records ≡ length (cond b (held ∷ filter (is_on port) records) (filter (is_on port) records))) [
      | true ↦ omega arith
      | false ↦ omega arith
    ]

pub are_of_port : (family : AddressFamily) (state : Downstream) (port : ℕ) → IsSound family state → AreOfPort family port state.ports (of_port port state)
are_of_port family state port sound =
    let count = count_is port state.records in
    let within = sound.within port in
    let most = sound.limit in
    record {
      ascending = filter_up port state.records sound.ascending;
      real = filter_each (IsReal family state.ports) port state.records sound.real;
      here = filter_on port state.records;
      few = omega arith;
    }
