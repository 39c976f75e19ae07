-- Counts over all ports.
use Rattle.std.proofs.Common.{◌≡◌, ◌≤◌, ◌<◌, ◌+◌, ◌*◌, ◌∙◌, ℕ, zero, suc, add-one, Bool, true, false, if◌then◌else◌, ◌==◌, nat_lt, List, [], ◌∷◌, length, drop, slice_index_or, refl, sym, ap, subst, arith}
use Rattle.pim_trace.proofs.Words.{eqb-true, eq-eqb, false≢true, ltb-true, ltb-false, lt-ltb, le-ltb, AllByRecursion}
use Rattle.pim_trace.proofs.Words.{AddressFamily, Table, no_neighbours, neighbour_limit, Record, count_on, IsReal}
use Rattle.pim_trace.proofs.Words.{IsSound, Downstream, neighbours_in}

-- ---- neighbours

-- the neighbours of the ports from one on
pub from_port : (tables : List Table) (port : ℕ) → port < length tables
    → neighbours_in (drop port tables) ≡ length (slice_index_or tables port no_neighbours).entries + neighbours_in (drop (suc port) tables)
unfolding neighbours_in
from_port [] port inside = absurd (omega (arith, inside))
from_port (table ∷ tables) zero inside = refl
from_port (table ∷ tables) (suc port) inside = from_port tables port (omega (arith, inside))

pub from_none : (tables : List Table) (port : ℕ) → port ≡ length tables → neighbours_in (drop port tables) ≡ 0
unfolding neighbours_in
from_none [] zero is = refl
from_none [] (suc port) is = refl
from_none (table ∷ tables) zero is = absurd (omega (arith, is))
from_none (table ∷ tables) (suc port) is = from_none tables port (omega (arith, is))

pub few_neighbours : (tables : List Table) → AllByRecursion (λ (table : Table). length table.entries ≤ neighbour_limit) tables → neighbours_in tables ≤ 1024 * length tables
unfolding neighbours_in
few_neighbours [] few = omega arith
few_neighbours (table ∷ tables) few =
    let rest = few_neighbours tables few.1 in
    omega (arith, few.0, rest)

-- ---- machines

-- the records of the ports from one on
unfoldable pub records_from : ℕ → List (Record (List ℕ)) → ℕ
records_from port [] = 0
records_from port (held ∷ records) = (if nat_lt held.key.port port then 0 else 1) + records_from port records

step_port : (p q : ℕ) → (if nat_lt p q then 0 else 1) ≡ (if p == q then 1 else 0) + (if nat_lt p (suc q) then 0 else 1)
step_port p q = by (nat_lt p q) refl (p == q) refl (nat_lt p (suc q)) refl
  where
    by : (b : Bool) → nat_lt p q ≡ b → (c : Bool) → (p == q) ≡ c → (d : Bool) → nat_lt p (suc q) ≡ d → (if b then 0 else 1) ≡ (if c then 1 else 0) + (if d then 0 else 1)
    by true x true y d z = let less = ltb-true p q x in let same = eqb-true p q y in absurd (omega (arith, less, same))
    by true x false y true z = omega arith
    by true x false y false z = let less = ltb-true p q x in let over = ltb-false p (suc q) z in absurd (omega (arith, less, over))
    by false x true y true z = omega arith
    by false x true y false z = let same = eqb-true p q y in let over = ltb-false p (suc q) z in absurd (omega (arith, same, over))
    by false x false y true z =
        let up = ltb-false p q x in
        let less = ltb-true p (suc q) z in
        let same : p ≡ q = omega (arith, up, less) in
        absurd (false≢true (sym y ∙ eq-eqb p q same))
    by false x false y false z = omega arith

pub from_first : (records : List (Record (List ℕ))) → records_from 0 records ≡ length records
unfolding records_from
from_first [] = refl
from_first (held ∷ records) = let others = from_first records in rw (le-ltb held.key.port 0 (omega arith)) (omega (arith, others))

pub next_port : (port : ℕ) (records : List (Record (List ℕ))) → records_from port records ≡ count_on port records + records_from (suc port) records
unfolding records_from count_on
next_port port [] = refl
next_port port (held ∷ records) =
    let first = step_port held.key.port port in
    let rest = next_port port records in
    omega (arith, first, rest)

pub from_none_left : (family : AddressFamily) (ports port : ℕ) (records : List (Record (List ℕ))) → AllByRecursion (IsReal family ports) records → ports ≤ port → records_from port records ≡ 0
unfolding records_from
from_none_left family ports port [] real up = refl
from_none_left family ports port (held ∷ records) real up =
    let inside = real.0.port in
    let others = from_none_left family ports port records real.1 up in
    rw (lt-ltb held.key.port port (omega (arith, inside, up))) (omega (arith, others))

-- ---- a port more

pub neighbours_more : (tables : List Table) (port count one : ℕ) → port < length tables → one ≡ length (slice_index_or tables port no_neighbours).entries
    → count + neighbours_in (drop port tables) ≡ neighbours_in tables → (count + one) + neighbours_in (drop (port + 1) tables) ≡ neighbours_in tables
neighbours_more tables port count one inside is counted =
    let step = from_port tables port inside in
    let more : (count + one) + neighbours_in (drop (suc port) tables) ≡ neighbours_in tables = omega (arith, is, counted, step) in
    rw add-one more

pub machines_more : (records : List (Record (List ℕ))) (port count one : ℕ) → one ≡ count_on port records
    → count + records_from port records ≡ length records → (count + one) + records_from (port + 1) records ≡ length records
machines_more records port count one is counted =
    let step = next_port port records in
    let more : (count + one) + records_from (suc port) records ≡ length records = omega (arith, is, counted, step) in
    rw add-one more

-- ---- bounds

pub few_in : (family : AddressFamily) (tables : List Table) (machines seen : Downstream) → seen ≡ machines → IsSound family seen → length tables ≡ machines.ports
    → AllByRecursion (λ (table : Table). length table.entries ≤ neighbour_limit) tables → neighbours_in tables ≤ 1024 * 64
few_in family tables machines seen same sound long few =
    let real = subst (λ (d : Downstream). IsSound family d) same sound in
    let limit = real.ports in
    let all = few_neighbours tables few in
    omega (arith, limit, all, long)

-- the machines that are sound
module _ (family : AddressFamily) (machines seen : Downstream) (same : seen ≡ machines) (sound : IsSound family seen) where
  is_sound : IsSound family machines
  is_sound = subst (λ (d : Downstream). IsSound family d) same sound

  pub few_ports : machines.ports ≤ 64
  few_ports = is_sound.ports

  pub few_on : (port one : ℕ) (again : Downstream) → again ≡ machines → one ≡ count_on port again.records → one ≤ 100000
  few_on port one again is counted =
      let within = is_sound.within port in
      let limit = is_sound.limit in
      let here : one ≡ count_on port machines.records = counted ∙ ap (λ (d : Downstream). count_on port d.records) is in
      omega (arith, within, limit, here)

  pub none_behind : (port : ℕ) → machines.ports ≤ port → records_from port machines.records ≡ 0
  none_behind port up = from_none_left family machines.ports port machines.records is_sound.real up
