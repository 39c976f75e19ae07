-- Rows that are added to what is gathered.
use Rattle.pim_session.proofs.Words.{◌≡◌, ℕ, true, List, [], ◌∷◌, codes, refl, ap, inl, inr, AddressFamily, RouteFault}
use Rattle.pim_session.proofs.Words.{RouteTable, is_in, RouteRow, ok_line, fault_line, family_with, with_routes}
use Rattle.pim_session.proofs.Words.{route_words, AddsRow, Gathered}

-- ---- rows of the table

module _ (family : AddressFamily) (row : RouteRow) (gathered : Gathered) (faults : AddressFamily → List RouteFault) (table : RouteTable) (same : family_with gathered row.prefix ≡ family) where
  pub row_added : is_in family row.prefix ≡ true → is_in family row.to ≡ true → faults family ≡ [] → AddsRow row faults table gathered ok_line (with_routes family table gathered)
  row_added within also none = rw (same, within, also, none) (inl (refl, refl))

  pub row_refused : (first : RouteFault) (others : List RouteFault) (words : List ℕ) → is_in family row.prefix ≡ true → is_in family row.to ≡ true → faults family ≡ first ∷ others → words ≡ route_words first
      → AddsRow row faults table gathered (fault_line words) gathered
  row_refused first others words within also some is = rw (same, within, also, some) (ap fault_line is, refl)

  pub row_unheld : (words : List ℕ) → is_in family row.prefix ≡ true → is_in family row.to ≡ true → faults family ≡ [] → words ≡ codes "memory" → AddsRow row faults table gathered (fault_line words) gathered
  row_unheld words within also none is = rw (same, within, also, none) (inr (ap fault_line is, refl))
