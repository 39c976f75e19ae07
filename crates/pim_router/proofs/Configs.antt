-- The faults of a configuration, in terms of the ports as the code has them.
use Rattle.pim_router.proofs.Words.{◌≡◌, ◌∙◌, ℕ, Bool, Option, not, nat_lt, List, ◌++◌, length, map, Result, sym, ap}
use Rattle.pim_router.proofs.Words.{position, length-map, AddressFamily, is_source, fault_if, judged, RouteTable}
use Rattle.pim_router.proofs.Words.{ConfigFault, Ports, Address, Delay, Limit, PortConfig, config_faults, fault_at}
use Rattle.pim_router.proofs.Words.{has_bad_count, has_bad_limit, port_seen, Port, Setup}
use Rattle.pim_router.proofs.Positions.{position_map}

module _ {A : Type 0} (family : AddressFamily) (bytes_of : A → List ℕ) (ports : List (PortConfig A)) (routes : RouteTable) (limit : ℕ) where
  abbrev setup : Setup
  setup = record { ports = map (port_seen bytes_of) ports; routes = routes; limit = limit }

  abbrev faults_of : ℕ → Option ℕ → Option ℕ → List ConfigFault
  faults_of count address delay =
      fault_if (has_bad_count count) Ports ++ fault_at Address address ++ fault_at Delay delay
      ++ fault_if (has_bad_limit limit) Limit

  abbrev address_test : Port → Bool
  address_test port = not (is_source family port.address)

  abbrev delay_test : Port → Bool
  delay_test port = nat_lt 32767 port.propagation

  abbrev pub plain_faults : List ConfigFault
  plain_faults = faults_of (length ports)
      (position (λ (port : PortConfig A). not (is_source family (bytes_of port.address))) ports)
      (position (λ (port : PortConfig A). nat_lt 32767 port.propagation) ports)

  same_faults : config_faults family setup ≡ plain_faults
  same_faults =
      ap (λ n. faults_of n (position address_test setup.ports) (position delay_test setup.ports))
      (length-map ports (port_seen bytes_of))
      ∙ ap (λ p. faults_of (length ports) p (position delay_test setup.ports))
      (position_map address_test (port_seen bytes_of) ports)
      ∙ ap (λ p. faults_of (length ports) (position (λ (port : PortConfig A). address_test (port_seen bytes_of port)) ports) p)
      (position_map delay_test (port_seen bytes_of) ports)

  pub reported : {B : Type 0} (value : B) (result : Result B ConfigFault) → result ≡ judged plain_faults value →
      result ≡ judged (config_faults family setup) value
  reported value result is = is ∙ sym (ap (λ faults. judged faults value) same_faults)
