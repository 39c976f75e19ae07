-- The machines of a group on a port, one after another.
use Rattle.pim_down.proofs.Words.{◌≡◌, ℕ, ◌+◌, ◌<◌, ◌≤◌, Bool, true, false, List, length, get_or, ltb, refl, sym, ap, ◌∙◌, arith, is_le, IsPartitionPoint, ltb-true, ltb-false, Held, key_cmp, is_up_to, IsAscending, key_seen, records_seen}
use Rattle.pim_down.proofs.Order.{key_itself, less_back}
use Rattle.pim_down.proofs.Rpts.{same_default}
use Rattle.pim_down.proofs.Searched.{rise_at}

module _ {A : Type 0} (bytes_of : A → List ℕ) (records : List (Held A)) (up : IsAscending (records_seen bytes_of records)) (i : ℕ) (held : Held A) (within : i < length records) (here : held ≡ get_or records i held) where
  abbrev up_to_it : Held A → Bool
  up_to_it other = is_up_to (key_seen bytes_of held.key) (key_seen bytes_of other.key)

  at_place : (d : Held A) → get_or records i d ≡ held
  at_place d = same_default records i d held within ∙ sym here

  itself : is_up_to (key_seen bytes_of held.key) (key_seen bytes_of held.key) ≡ true
  itself = ap is_le (key_itself (key_seen bytes_of held.key))

  -- behind a record stands all that comes after it
  pub behind_it : IsPartitionPoint (λ other. up_to_it other ≡ true) (λ other. up_to_it other ≡ false) records (i + 1)
  behind_it = (before, after)
    where
      before : (k : ℕ) (d : Held A) → 0 ≤ k → k < i + 1 → up_to_it (get_or records k d) ≡ true
      before k d ge lt = by (ltb k i) refl
        where
          by : (t : Bool) → ltb k i ≡ t → up_to_it (get_or records k d) ≡ true
          by true t =
              ap is_le (ap (λ (h : Held A). key_cmp (key_seen bytes_of (get_or records k d).key) (key_seen bytes_of h.key)) (sym (at_place d)) ∙ rise_at bytes_of records up k i d (ltb-true k i t) within)
          by false t =
              let same : k ≡ i = omega (arith, lt, ltb-false k i t) in
              ap up_to_it (ap (λ n. get_or records n d) same ∙ at_place d) ∙ itself

      after : (k : ℕ) (d : Held A) → i + 1 ≤ k → k < length records → up_to_it (get_or records k d) ≡ false
      after k d ge w =
          ap is_le (less_back (key_seen bytes_of held.key) (key_seen bytes_of (get_or records k d).key)
          (ap (λ (h : Held A). key_cmp (key_seen bytes_of h.key) (key_seen bytes_of (get_or records k d).key)) (sym (at_place d)) ∙ rise_at bytes_of records up i k d (omega arith) w))
