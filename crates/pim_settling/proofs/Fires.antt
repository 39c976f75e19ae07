-- What is left of the records where a timer fires, or a millisecond passes.
use Rattle.pim_settling.proofs.Words.{◌≡◌, ℕ, Bool, true, false, cond, List, [], ◌∷◌, ◌++◌, map, Option, None, Some}
use Rattle.pim_settling.proofs.Words.{option_map, refl, sym, ap, subst, ◌∙◌, is_eq, Key, Machine, Record, key_cmp}
use Rattle.pim_settling.proofs.Words.{same_key, IsBelow, IsAscending, machine_at, recorded, first_due, with_first}
use Rattle.pim_settling.proofs.Words.{machine_after, record_after, KeysAreDistinct}

abbrev pub Records : Type 0
Records = List (Record (List ℕ))

-- ---- keys

-- a key that is below all records has none
below_none : (key : Key (List ℕ)) (records : Records) → IsBelow key records → machine_at key records ≡ None
unfolding IsBelow machine_at
below_none key [] below = refl
below_none key (held ∷ records) below =
    ap (λ o. cond (is_eq o) (Some held.machine) (machine_at key records)) below.0 ∙ below_none key records below.1

-- ---- a millisecond passes

below_ticked : (key : Key (List ℕ)) (records : Records) → IsBelow key records → IsBelow key (map (record_after 1) records)
unfolding IsBelow
below_ticked key [] below = tt
below_ticked key (held ∷ records) below = (below.0, below_ticked key records below.1)

pub ticked_order : (records : Records) → IsAscending records → IsAscending (map (record_after 1) records)
unfolding IsAscending
ticked_order [] ascending = tt
ticked_order (held ∷ records) ascending = (below_ticked held.key records ascending.0, ticked_order records ascending.1)

pub ticked_at : (key : Key (List ℕ)) (records : Records) → machine_at key (map (record_after 1) records) ≡ option_map (machine_after 1) (machine_at key records)
unfolding machine_at
ticked_at key [] = refl
ticked_at key (held ∷ records) =
    elim (same_key key held.key) as (λ b. cond b (Some (machine_after 1 held.machine)) (machine_at key (map (record_after 1) records)) ≡ option_map (machine_after 1) (cond b (Some held.machine) (machine_at key records))) [
      | true ↦ refl
      | false ↦ ticked_at key records
    ]

module _ (keys : KeysAreDistinct) where
  same_keys : (a b : Key (List ℕ)) → same_key a b ≡ true → a ≡ b
  same_keys a b e = (keys a b).1.0 e

  itself : (a : Key (List ℕ)) → same_key a a ≡ true
  itself a = (keys a a).1.1 refl

  -- a record that is held behind a key is another one
  behind : (key : Key (List ℕ)) (this : Key (List ℕ)) (machine : Machine) (records : Records) → IsBelow this records → machine_at key records ≡ Some machine → same_key key this ≡ false
  behind key this machine records below m = by (same_key key this) refl
    where
      by : (b : Bool) → same_key key this ≡ b → b ≡ false
      by false s = refl
      by true s =
          let none : machine_at key records ≡ None = ap (λ k. machine_at k records) (same_keys key this s) ∙ below_none this records below in
          let crossed : Some machine ≡ None = sym m ∙ none in
          absurd cc

  -- ---- the first record that is due

  module _ (due : Record (List ℕ) → Bool) where
    pub first_held : (records : Records) (held : Record (List ℕ)) → IsAscending records → first_due due records ≡ Some held → (machine_at held.key records ≡ Some held.machine) × (due held ≡ true)
    unfolding first_due machine_at IsAscending
    first_held [] held ascending e = absurd cc
    first_held (this ∷ records) held ascending e = by (due this) refl e (λ f. first_held records held ascending.1 f)
      where
        by : (b : Bool) → due this ≡ b → cond b (Some this) (first_due due records) ≡ Some held
            → (first_due due records ≡ Some held → (machine_at held.key records ≡ Some held.machine) × (due held ≡ true)) → (machine_at held.key (this ∷ records) ≡ Some held.machine) × (due held ≡ true)
        by true d f more =
            let same : this ≡ held = cc in
            subst (λ (h : Record (List ℕ)). (machine_at h.key (this ∷ records) ≡ Some h.machine) × (due h ≡ true)) same
            (ap (λ b. cond b (Some this.machine) (machine_at this.key records)) (itself this.key), d)
        by false d f more =
            let rest = more f in
            (ap (λ b. cond b (Some this.machine) (machine_at held.key records)) (behind held.key this.key held.machine records ascending.0 rest.0) ∙ rest.0, rest.1)

    pub none_due : (records : Records) → first_due due records ≡ None → (key : Key (List ℕ)) (machine : Machine) → machine_at key records ≡ Some machine → due (record { key = key; machine = machine }) ≡ false
    unfolding first_due machine_at
    none_due [] e key machine m = absurd cc
    none_due (this ∷ records) e key machine m = by (due this) refl e (λ f n. none_due records f key machine n)
      where
        here : (b : Bool) → same_key key this.key ≡ b → due this ≡ false → first_due due records ≡ None → cond b (Some this.machine) (machine_at key records) ≡ Some machine → (first_due due records ≡ None → machine_at key records ≡ Some machine → due (record { key = key; machine = machine }) ≡ false) → due (record { key = key; machine = machine }) ≡ false
        here true s d f n more =
            let same : this.machine ≡ machine = cc in
            let own : record { key = key; machine = machine } ≡ this = λ i. record { key = same_keys key this.key s i; machine = sym same i } in
            ap due own ∙ d
        here false s d f n more = more f n

        by : (b : Bool) → due this ≡ b → cond b (Some this) (first_due due records) ≡ None → (first_due due records ≡ None → machine_at key records ≡ Some machine → due (record { key = key; machine = machine }) ≡ false) → due (record { key = key; machine = machine }) ≡ false
        by true d f more = absurd cc
        by false d f more = here (same_key key this.key) refl d f m more

    -- ---- it is replaced

    module _ (change : Record (List ℕ) → Option Machine) where
      abbrev pub after : Record (List ℕ) → Records
      after held = recorded held.key (change held)

      below_put : (key : Key (List ℕ)) (held : Record (List ℕ)) (machine : Option Machine) (records : Records) → key_cmp key held.key ≡ key_cmp key held.key → IsBelow key (held ∷ records) → IsBelow key (recorded held.key machine ++ records)
      unfolding IsBelow
      below_put key held None records same below = below.1
      below_put key held (Some machine) records same below = below

      below_replaced : (key : Key (List ℕ)) (records : Records) → IsBelow key records → IsBelow key (with_first due after records)
      unfolding IsBelow with_first
      below_replaced key [] below = tt
      below_replaced key (this ∷ records) below =
          elim (due this) as (λ b. IsBelow key (cond b (after this ++ records) (this ∷ with_first due after records))) [
            | true ↦ below_put key this (change this) records refl below
            | false ↦ (below.0, below_replaced key records below.1)
          ]

      put_order : (held : Record (List ℕ)) (machine : Option Machine) (records : Records) → IsAscending (held ∷ records) → IsAscending (recorded held.key machine ++ records)
      unfolding IsAscending
      put_order held None records ascending = ascending.1
      put_order held (Some machine) records ascending = ascending

      pub replaced_order : (records : Records) → IsAscending records → IsAscending (with_first due after records)
      unfolding IsAscending with_first
      replaced_order [] ascending = tt
      replaced_order (this ∷ records) ascending =
          elim (due this) as (λ b. IsAscending (cond b (after this ++ records) (this ∷ with_first due after records))) [
            | true ↦ put_order this (change this) records ascending
            | false ↦ (below_replaced this.key records ascending.0, replaced_order records ascending.1)
          ]

      put_at : (held : Record (List ℕ)) (machine : Option Machine) (records : Records) → IsBelow held.key records → machine_at held.key (recorded held.key machine ++ records) ≡ machine
      unfolding machine_at
      put_at held None records below = below_none held.key records below
      put_at held (Some machine) records below = ap (λ b. cond b (Some machine) (machine_at held.key records)) (itself held.key)

      pub replaced_own : (records : Records) (held : Record (List ℕ)) → IsAscending records → first_due due records ≡ Some held → machine_at held.key (with_first due after records) ≡ change held
      unfolding first_due machine_at IsAscending with_first
      replaced_own [] held ascending e = absurd cc
      replaced_own (this ∷ records) held ascending e = by (due this) refl e (λ f. replaced_own records held ascending.1 f)
        where
          by : (b : Bool) → due this ≡ b → cond b (Some this) (first_due due records) ≡ Some held → (first_due due records ≡ Some held → machine_at held.key (with_first due after records) ≡ change held)
              → machine_at held.key (cond b (after this ++ records) (this ∷ with_first due after records)) ≡ change held
          by true d f more =
              let same : this ≡ held = cc in
              subst (λ (h : Record (List ℕ)). machine_at h.key (after this ++ records) ≡ change h) same (put_at this (change this) records ascending.0)
          by false d f more =
              let rest = first_held records held ascending.1 f in
              ap (λ b. cond b (Some this.machine) (machine_at held.key (with_first due after records))) (behind held.key this.key held.machine records ascending.0 rest.0)
              ∙ more f

      put_other : (key : Key (List ℕ)) (held : Record (List ℕ)) (machine : Option Machine) (records : Records) → same_key key held.key ≡ false → machine_at key (recorded held.key machine ++ records) ≡ machine_at key (held ∷ records)
      unfolding machine_at
      put_other key held None records s = sym (ap (λ b. cond b (Some held.machine) (machine_at key records)) s)
      put_other key held (Some machine) records s =
          ap (λ b. cond b (Some machine) (machine_at key records)) s ∙ sym (ap (λ b. cond b (Some held.machine) (machine_at key records)) s)

      pub replaced_other : (records : Records) (held : Record (List ℕ)) (key : Key (List ℕ)) → first_due due records ≡ Some held → same_key key held.key ≡ false → machine_at key (with_first due after records) ≡ machine_at key records
      unfolding first_due machine_at with_first
      replaced_other [] held key e s = absurd cc
      replaced_other (this ∷ records) held key e s = by (due this) refl e (λ f. replaced_other records held key f s)
        where
          by : (b : Bool) → due this ≡ b → cond b (Some this) (first_due due records) ≡ Some held → (first_due due records ≡ Some held → machine_at key (with_first due after records) ≡ machine_at key records)
              → machine_at key (cond b (after this ++ records) (this ∷ with_first due after records)) ≡ machine_at key (this ∷ records)
          by true d f more =
              let same : this ≡ held = cc in
              put_other key this (change this) records (ap (λ (h : Record (List ℕ)). same_key key h.key) same ∙ s)
          by false d f more = ap (λ m. cond (same_key key this.key) (Some this.machine) m) (more f)
