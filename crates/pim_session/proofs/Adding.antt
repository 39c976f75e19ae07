-- Rows that are added: the first one, which fixes the family, and more.
use Rattle.pim_session.proofs.Words.{◌≡◌, ℕ, Bool, true, false, List, [], ◌∷◌, map, None, Some, Result, Ok, Err, refl, ap, subst}
use Rattle.pim_session.proofs.Words.{inl, inr, AddressFamily, RouteFault, RouteTable, no_routes, rp_faults, via_faults, with_rp}
use Rattle.pim_session.proofs.Words.{with_via, address_bytes, PortRow, RouteRow, AnswerFault, RefusedIf, RefusedBy, OrMemory}
use Rattle.pim_session.proofs.Words.{Done, differ_from, family_words, fault_words, done_text, ok_line, fault_line, AnyRow, Free}
use Rattle.pim_session.proofs.Words.{family_of, family_with, prefix_of, route_words, with_port, with_routes, AddsPort, AddsRow}
use Rattle.pim_session.proofs.Words.{rows_seen, any_seen, first_address, Adds, AddsTo, AddsFirst, Gathered}
use Rattle.pim_session.specs.declared.setup.AnyRow.TheVariants.{Port, Rp, Via}
use Rattle.pim_session.specs.declared.setup.Rows.{Rows}

-- ---- a fault changes nothing

abbrev first_of : List ℕ → ℕ
first_of [] = 0
first_of (byte ∷ bytes) = byte

not_ok : (words : List ℕ) → fault_line words ≡ ok_line → ⊥
not_ok words is = let e : 102 ≡ 111 = ap first_of is in cc

if_memory : (gathered end next : Gathered) (words : List ℕ) → OrMemory gathered (Done end) (fault_line words) next → next ≡ gathered
if_memory gathered end next words (inl (is, same)) = absurd (not_ok words is)
if_memory gathered end next words (inr (is, same)) = same

if_tested : (b : Bool) (said words : List ℕ) (gathered next : Gathered) (Does : List ℕ → Gathered → Type 0) → (Does (fault_line words) next → next ≡ gathered) → RefusedIf b said gathered Does (fault_line words) next → next ≡ gathered
if_tested true said words gathered next Does by p = p.1
if_tested false said words gathered next Does by p = by p

if_listed : (list : List (List ℕ)) (words : List ℕ) (gathered next : Gathered) (Does : List ℕ → Gathered → Type 0) → (Does (fault_line words) next → next ≡ gathered) → RefusedBy list gathered Does (fault_line words) next → next ≡ gathered
if_listed [] words gathered next Does by p = by p
if_listed (first ∷ others) words gathered next Does by p = p.1

port_keeps : (row : PortRow) (gathered next : Gathered) (words : List ℕ) → AddsPort row gathered (fault_line words) next → next ≡ gathered
port_keeps row gathered next words p =
    let end : Gathered = with_port (family_with gathered row.address) row gathered in
    if_tested (differ_from (family_with gathered row.address) (row.address ∷ [])) family_words words gathered next (OrMemory gathered (Done end)) (if_memory gathered end next words) p

row_keeps : (row : RouteRow) (faults : AddressFamily → List RouteFault) (table : RouteTable) (gathered next : Gathered) (words : List ℕ) → AddsRow row faults table gathered (fault_line words) next → next ≡ gathered
row_keeps row faults table gathered next words p =
    let family : AddressFamily = family_with gathered row.prefix in
    let end : Gathered = with_routes family table gathered in
    if_tested (differ_from family (row.prefix ∷ row.to ∷ [])) family_words words gathered next (RefusedBy (map route_words (faults family)) gathered (OrMemory gathered (Done end)))
    (λ q. if_listed (map route_words (faults family)) words gathered next (OrMemory gathered (Done end)) (if_memory gathered end next words) q) p

pub fault_keeps : (row : AnyRow) (gathered next : Gathered) (words : List ℕ) → Adds row gathered (fault_line words) next → next ≡ gathered
fault_keeps (Port row) gathered next words p = port_keeps row gathered next words p
fault_keeps (Rp row) gathered next words p = row_keeps row (λ family. rp_faults family (prefix_of row) (address_bytes row.to) gathered.routes.rps) (with_rp (prefix_of row) (address_bytes row.to) gathered.routes) gathered next words p
fault_keeps (Via row) gathered next words p = row_keeps row (λ family. via_faults family (prefix_of row) (address_bytes row.to) gathered.routes.vias) (with_via (prefix_of row) (address_bytes row.to) gathered.routes) gathered next words p

-- ---- the first row, and more

module _ {F A N : Type 0} (family : AddressFamily) (bytes_of : A → List ℕ) (row : AnyRow) where
  none_seen : (old : Rows F A N) (limit : ℕ) → old.ports.items ≡ [] → old.routes ≡ no_routes → rows_seen bytes_of None limit old ≡ any_seen limit Free
  none_seen old limit ports routes = rw (ports, routes) refl

  pub first_done : (old new : Rows F A N) → old.ports.items ≡ [] → old.routes ≡ no_routes → family_of (first_address row) ≡ family → AddsTo family bytes_of (Adds row) (first_address row) old (Ok tt) new
      → AddsFirst (rows_seen bytes_of (Some family)) row (Ok new)
  first_done old new ports routes same adds =
      λ limit. subst (λ (g : Gathered). Adds row g ok_line (rows_seen bytes_of (Some family) limit new)) (none_seen old limit ports routes) (adds None limit same)

  pub first_faulty : (fault : AnswerFault) (old new : Rows F A N) → old.ports.items ≡ [] → old.routes ≡ no_routes → family_of (first_address row) ≡ family → AddsTo family bytes_of (Adds row) (first_address row) old (Err fault) new
      → (limit : ℕ) → Adds row (any_seen limit Free) (fault_line (fault_words fault)) (any_seen limit Free)
  first_faulty fault old new ports routes same adds limit =
      let words : List ℕ = fault_words fault in
      let text : List ℕ = fault_line words in
      let p : Adds row (any_seen limit Free) text (rows_seen bytes_of None limit new) =
      subst (λ (g : Gathered). Adds row g text (rows_seen bytes_of None limit new)) (none_seen old limit ports routes) (adds None limit same) in
      subst (λ (g : Gathered). Adds row (any_seen limit Free) text g) (fault_keeps row (any_seen limit Free) (rows_seen bytes_of None limit new) words p) p

  pub more_added : (old new : Rows F A N) (result : Result (Unit {0}) AnswerFault) → AddsTo family bytes_of (Adds row) (first_address row) old result new
      → (limit : ℕ) → Adds row (rows_seen bytes_of (Some family) limit old) (done_text result) (rows_seen bytes_of (Some family) limit new)
  more_added old new (Ok done) adds limit = adds (Some family) limit refl
  more_added old new (Err fault) adds limit = adds (Some family) limit refl
