-- The faults of a router's configuration.
use Rattle.std.specs.Prelude.{◌≡◌, ℕ, Bool, ◌||◌, ◌==◌, not, nat_lt, List, [], ◌∷◌, ◌++◌, length, Option, None, Some}
use Rattle.std.specs.Prelude.{Result, Ok, Err}
use Rattle.std.specs.List.{position}
use Rattle.pim_addr.specs.declared.family.AddressFamily.{AddressFamily}
use Rattle.pim_addr.specs.Address.{is_source}
use Rattle.pim_addr.specs.Faults.{fault_if}
use Rattle.pim_router.specs.declared.config.ConfigFault.{ConfigFault}
use Rattle.pim_router.specs.declared.config.ConfigFault.TheVariants.{Ports, Address, Delay, Limit, Memory}
use Rattle.pim_router.specs.State.{Port, Setup}

-- There is no port, or there are more than 64.
abbrev pub has_bad_count : ℕ → Bool
has_bad_count count = count == 0 || nat_lt 64 count

-- The limit of records for each port isn't 1 to 100,000.
abbrev pub has_bad_limit : ℕ → Bool
has_bad_limit limit = limit == 0 || nat_lt 100000 limit

-- The fault of the port with this number; no fault where there is no number.
abbrev pub fault_at : (ℕ → ConfigFault) → Option ℕ → List ConfigFault
fault_at fault None = []
fault_at fault (Some port) = fault port ∷ []

-- The faults of a configuration in the order of their report: number of ports, address, propagation
-- delay above 15 bits (RFC 7761, 4.9.2), limit of records. A fault of ports names the first port
-- that has it.
abbrev pub config_faults : AddressFamily → Setup → List ConfigFault
config_faults family setup =
    fault_if (has_bad_count (length setup.ports)) Ports
    ++ fault_at Address (position (λ (port : Port). not (is_source family port.address)) setup.ports)
    ++ fault_at Delay (position (λ (port : Port). nat_lt 32767 port.propagation) setup.ports)
    ++ fault_if (has_bad_limit setup.limit) Limit

-- The result of a call that makes a value: the first fault of the list. Where the list is empty it
-- is the value, or `Memory`.
abbrev pub IsMadeUnless : {A : Type 0} → List ConfigFault → A → Result A ConfigFault → Type 0
IsMadeUnless [] value (Ok made) = made ≡ value
IsMadeUnless [] value (Err reported) = reported ≡ Memory
IsMadeUnless (first ∷ others) value result = result ≡ Err first
