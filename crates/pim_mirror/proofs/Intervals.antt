-- The override interval of a port that has heard the sender and others.
use Rattle.pim_mirror.proofs.Words.{◌≡◌, ℕ, max, Bool, cond, List, ◌∷◌, map, ap, arith, Parameters, Delays, greatest}
use Rattle.pim_mirror.proofs.Words.{delays_sent, all_sent_delays, jp_override_interval, Port, OtherNeighbour, Neighbour}
use Rattle.pim_mirror.proofs.Words.{sender_hello, neighbour_seen}

max_again : (a b : ℕ) → max a (max a b) ≡ max a b
max_again a b = omega arith

-- the greatest propagation and override delays of those who sent them
abbrev propagations : List Parameters → ℕ
propagations hellos = greatest (map (λ (d : Delays). d.propagation) (delays_sent hellos))

abbrev overrides : List Parameters → ℕ
overrides hellos = greatest (map (λ (d : Delays). d.override_ms) (delays_sent hellos))

sums : (b : Bool) (m n : ℕ) → m ≡ n → cond b m 3000 ≡ cond b n 3000
sums b m n same = ap (λ (k : ℕ). cond b k 3000) same

-- the sender has the port's own delays
pub with_sender : (port : Port) (hellos : List Parameters) →
    jp_override_interval port.propagation port.override_ms (sender_hello port ∷ hellos) ≡ jp_override_interval port.propagation port.override_ms hellos
with_sender port hellos =
    let first = max_again port.propagation (propagations hellos) in
    let second = max_again port.override_ms (overrides hellos) in
    sums (all_sent_delays hellos) _ _ (omega (arith, first, second))

module _ {A : Type 0} (bytes_of : A → List ℕ) where
  abbrev pub hellos_of : List (OtherNeighbour A) → List Parameters
  hellos_of others = map (λ (neighbour : Neighbour). neighbour.hello) (map (neighbour_seen bytes_of) others)
