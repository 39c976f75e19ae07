-- The index of the moments at which the times of neighbours end: pairs of an end and an address, in
-- ascending order.
use Rattle.std.specs.Prelude.{◌≡◌, ℕ, Bool, false, not, ◌&&◌, ◌||◌, ◌==◌, nat_le, List, [], ◌∷◌, Option, Some, None}
use Rattle.std.specs.List.{list_any}
use Rattle.std.specs.Ordering.{nat_cmp, ordering_then}
use Rattle.std.specs.declared.cmp.Ordering.{Ordering}
use Rattle.std.specs.BTreeMap.{is_at}
use Rattle.std.specs.Map.{lookup}
use Rattle.pim_hello.specs.Neighbours.{sooner}
use Rattle.pim_hello.specs.declared.parameters.Kept.{Kept}

-- The time ends at this moment.
abbrev pub ends_at : ℕ → Option ℕ → Bool
ends_at moment None = false
ends_at moment (Some end) = end == moment

-- The time has ended by this moment.
abbrev pub ended_by : ℕ → Option ℕ → Bool
ended_by moment None = false
ended_by moment (Some end) = nat_le end moment

-- The end of the time of a neighbour, or None if it never ends or nothing is kept.
abbrev pub end_kept : Option Kept → Option ℕ
end_kept None = None
end_kept (Some kept) = kept.end

-- The time of a neighbour ends at this moment.
abbrev pub kept_ends_at : ℕ → Option Kept → Bool
kept_ends_at moment kept = ends_at moment (end_kept kept)

-- The least end of these neighbours' times; `None` if all are kept forever.
unfoldable pub least_end : {A : Type 0} → List (A × Kept) → Option ℕ
least_end [] = None
least_end (entry ∷ entries) = sooner entry.1.end (least_end entries)

module _ {A : Type 0} (cmp : A → A → Ordering) where
  -- The order of the index: by the end, then by the address.
  abbrev pub by_end : ℕ × A → ℕ × A → Ordering
  by_end x y = ordering_then (nat_cmp x.0 y.0) (cmp x.1 y.1)

  -- The index has this end for this address.
  abbrev pub has_end : List (ℕ × A) → ℕ → A → Bool
  has_end ends end address = list_any (is_at (by_end (end, address))) ends

  -- The index has exactly the ends of the neighbours' times.
  abbrev pub IndexesEnds : List (ℕ × A) → List (A × Kept) → Type 0
  IndexesEnds ends neighbours =
      (end : ℕ) (address : A) → has_end ends end address ≡ kept_ends_at end (lookup (is_at (cmp address)) neighbours)

  -- The index gets this end for this address, if there is an end, and changes in nothing else.
  abbrev pub AddsEnd : Option ℕ → A → List (ℕ × A) → List (ℕ × A) → Type 0
  AddsEnd added owner old new = (end : ℕ) (address : A) → has_end new end address ≡
      ((ends_at end added && is_at (cmp owner) address) || has_end old end address)

  -- The index loses this end of this address, if there is an end, and changes in nothing else.
  abbrev pub RemovesEnd : Option ℕ → A → List (ℕ × A) → List (ℕ × A) → Type 0
  RemovesEnd removed owner old new = (end : ℕ) (address : A) → has_end new end address ≡
      (not (ends_at end removed && is_at (cmp owner) address) && has_end old end address)

  -- No neighbour's time has ended by this moment.
  abbrev pub NoneEnded : ℕ → List (A × Kept) → Type 0
  NoneEnded moment neighbours =
      (address : A) → ended_by moment (end_kept (lookup (is_at (cmp address)) neighbours)) ≡ false
