-- The changes of records in ascending order: what each leaves at every key, and that the order stays.
use Rattle.pim_down.proofs.Words.{◌≡◌, ℕ, true, false, cond, List, [], ◌∷◌, ◌++◌, Option, Some, None, refl, sym, ap, subst, ◌∙◌, Less, Equal, Greater, is_eq, Key, Machine, Record, key_cmp, same_key, IsBelow, IsAscending, machine_at, recorded, at_rank, changed, each_changed}
use Rattle.pim_down.proofs.Order.{key_total, equal_keys, same_keys, same_itself, less_differs, greater_differs, greater_back}

-- ---- below

pub IsBelow-trans : (a b : Key (List ℕ)) (records : List (Record (List ℕ))) → key_cmp a b ≡ Less → IsBelow b records → IsBelow a records
unfolding IsBelow
IsBelow-trans a b [] less below = tt
IsBelow-trans a b (held ∷ records) less below = (key_total.trans a b held.key less below.0, IsBelow-trans a b records less below.1)

pub none_below : (key : Key (List ℕ)) (records : List (Record (List ℕ))) → IsBelow key records → machine_at key records ≡ None
unfolding IsBelow machine_at
none_below key [] below = refl
none_below key (held ∷ records) below = rw (less_differs key held.key below.0) (none_below key records below.1)

pub IsBelow-recorded : (a key : Key (List ℕ)) (machine : Option Machine) (records : List (Record (List ℕ))) → key_cmp a key ≡ Less → IsBelow a records → IsBelow a (recorded key machine ++ records)
unfolding IsBelow
IsBelow-recorded a key None records less below = below
IsBelow-recorded a key (Some machine) records less below = (less, below)

pub IsAscending-recorded : (key : Key (List ℕ)) (machine : Option Machine) (records : List (Record (List ℕ))) → IsBelow key records → IsAscending records → IsAscending (recorded key machine ++ records)
unfolding IsAscending
IsAscending-recorded key None records below ascending = ascending
IsAscending-recorded key (Some machine) records below ascending = (below, ascending)

-- the machine of a key of which the records behind have none
pub at_recorded : (key : Key (List ℕ)) (machine : Option Machine) (records : List (Record (List ℕ))) → IsBelow key records → machine_at key (recorded key machine ++ records) ≡ machine
unfolding machine_at
at_recorded key None records below = none_below key records below
at_recorded key (Some machine) records below = rw (same_itself key) refl

pub at_other_recorded : (k key : Key (List ℕ)) (machine : Option Machine) (records : List (Record (List ℕ))) → same_key k key ≡ false → machine_at k (recorded key machine ++ records) ≡ machine_at k records
unfolding machine_at
at_other_recorded k key None records differs = refl
at_other_recorded k key (Some machine) records differs = rw differs refl

-- ---- the change of one machine

module _ (key : Key (List ℕ)) (change : Option Machine → Option Machine) where
  pub IsBelow-changed : (a : Key (List ℕ)) (records : List (Record (List ℕ))) → key_cmp a key ≡ Less → IsBelow a records → IsBelow a (changed key change records)
  unfolding IsBelow changed
  IsBelow-changed a [] less below = by (change None)
    where
      by : (m : Option Machine) → IsBelow a (recorded key m)
      by None = tt
      by (Some machine) = (less, tt)
  IsBelow-changed a (held ∷ records) less below =
      elim (key_cmp key held.key) as (λ r. IsBelow a (at_rank r (recorded key (change None) ++ held ∷ records) (recorded held.key (change (Some held.machine)) ++ records) (held ∷ changed key change records))) [
        | Less ↦ IsBelow-recorded a key (change None) (held ∷ records) less below
        | Equal ↦ IsBelow-recorded a held.key (change (Some held.machine)) records below.0 below.1
        | Greater ↦ (below.0, IsBelow-changed a records less below.1)
      ]

  pub IsAscending-changed : (records : List (Record (List ℕ))) → IsAscending records → IsAscending (changed key change records)
  unfolding IsBelow IsAscending changed
  IsAscending-changed [] ascending = by (change None)
    where
      by : (m : Option Machine) → IsAscending (recorded key m)
      by None = tt
      by (Some machine) = (tt, tt)
  IsAscending-changed (held ∷ records) ascending =
      elim (key_cmp key held.key) as (λ r. key_cmp key held.key ≡ r → IsAscending (at_rank r (recorded key (change None) ++ held ∷ records) (recorded held.key (change (Some held.machine)) ++ records) (held ∷ changed key change records))) [
        | Less ↦ λ e. IsAscending-recorded key (change None) (held ∷ records) (e, IsBelow-trans key held.key records e ascending.0) ascending
        | Equal ↦ λ e. IsAscending-recorded held.key (change (Some held.machine)) records ascending.0 ascending.1
        | Greater ↦ λ e. (IsBelow-changed held.key records (greater_back key held.key e) ascending.0, IsAscending-changed records ascending.1)
      ] refl

  pub at_changed : (records : List (Record (List ℕ))) → IsAscending records → machine_at key (changed key change records) ≡ change (machine_at key records)
  unfolding IsBelow IsAscending machine_at changed
  at_changed [] ascending = by (change None)
    where
      by : (m : Option Machine) → machine_at key (recorded key m) ≡ m
      by None = refl
      by (Some machine) = rw (same_itself key) refl
  at_changed (held ∷ records) ascending =
      elim (key_cmp key held.key) as (λ r. key_cmp key held.key ≡ r → machine_at key (at_rank r (recorded key (change None) ++ held ∷ records) (recorded held.key (change (Some held.machine)) ++ records) (held ∷ changed key change records)) ≡ change (cond (is_eq r) (Some held.machine) (machine_at key records))) [
        | Less ↦ λ e. let below : IsBelow key (held ∷ records) = (e, IsBelow-trans key held.key records e ascending.0) in at_recorded key (change None) (held ∷ records) below ∙ ap change (sym (none_below key records below.1))
        | Equal ↦ λ e. let same = equal_keys key held.key e in subst (λ (k : Key (List ℕ)). machine_at k (recorded held.key (change (Some held.machine)) ++ records) ≡ change (Some held.machine)) (sym same) (at_recorded held.key (change (Some held.machine)) records ascending.0)
        | Greater ↦ λ e. rw (greater_differs key held.key e) (at_changed records ascending.1)
      ] refl

  pub at_other_changed : (k : Key (List ℕ)) (records : List (Record (List ℕ))) → same_key k key ≡ false → machine_at k (changed key change records) ≡ machine_at k records
  unfolding machine_at changed
  at_other_changed k [] differs = by (change None)
    where
      by : (m : Option Machine) → machine_at k (recorded key m) ≡ None
      by None = refl
      by (Some machine) = rw differs refl
  at_other_changed k (held ∷ records) differs =
      elim (key_cmp key held.key) as (λ r. key_cmp key held.key ≡ r → machine_at k (at_rank r (recorded key (change None) ++ held ∷ records) (recorded held.key (change (Some held.machine)) ++ records) (held ∷ changed key change records)) ≡ machine_at k (held ∷ records)) [
        | Less ↦ λ e. at_other_recorded k key (change None) (held ∷ records) differs
        | Equal ↦ λ e. let apart : same_key k held.key ≡ false = subst (λ (a : Key (List ℕ)). same_key k a ≡ false) (equal_keys key held.key e) differs in at_other_recorded k held.key (change (Some held.machine)) records apart ∙ rw apart refl
        | Greater ↦ λ e. ap (cond (same_key k held.key) (Some held.machine)) (at_other_changed k records differs)
      ] refl

-- ---- a change of every machine that is held

module _ (change : Key (List ℕ) → Option Machine → Option Machine) where
  pub IsBelow-each_changed : (a : Key (List ℕ)) (records : List (Record (List ℕ))) → IsBelow a records → IsBelow a (each_changed change records)
  unfolding IsBelow each_changed
  IsBelow-each_changed a [] below = tt
  IsBelow-each_changed a (held ∷ records) below =
      IsBelow-recorded a held.key (change held.key (Some held.machine)) (each_changed change records) below.0 (IsBelow-each_changed a records below.1)

  pub IsAscending-each_changed : (records : List (Record (List ℕ))) → IsAscending records → IsAscending (each_changed change records)
  unfolding IsAscending each_changed
  IsAscending-each_changed [] ascending = tt
  IsAscending-each_changed (held ∷ records) ascending =
      IsAscending-recorded held.key (change held.key (Some held.machine)) (each_changed change records) (IsBelow-each_changed held.key records ascending.0) (IsAscending-each_changed records ascending.1)

  pub at_each_changed : ((k : Key (List ℕ)) → change k None ≡ None) → (k : Key (List ℕ)) (records : List (Record (List ℕ))) → IsAscending records → machine_at k (each_changed change records) ≡ change k (machine_at k records)
  unfolding IsAscending machine_at each_changed
  at_each_changed none k [] ascending = sym (none k)
  at_each_changed none k (held ∷ records) ascending =
      elim (same_key k held.key) as (λ b. same_key k held.key ≡ b → machine_at k (recorded held.key (change held.key (Some held.machine)) ++ each_changed change records) ≡ change k (cond b (Some held.machine) (machine_at k records))) [
        | true ↦ λ e. let same = same_keys k held.key e in subst (λ (a : Key (List ℕ)). machine_at a (recorded held.key (change held.key (Some held.machine)) ++ each_changed change records) ≡ change a (Some held.machine)) (sym same) (at_recorded held.key (change held.key (Some held.machine)) (each_changed change records) (IsBelow-each_changed held.key records ascending.0))
        | false ↦ λ e. at_other_recorded k held.key (change held.key (Some held.machine)) (each_changed change records) e ∙ at_each_changed none k records ascending.1
      ] refl
