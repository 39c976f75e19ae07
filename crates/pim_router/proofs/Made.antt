-- What is true of a new router.
use Rattle.pim_router.proofs.Words.{not, arith, ◌≡◌, ◌∙◌, ◌≤◌, ℕ, false, nat_lt, List, [], ◌∷◌, ◌++◌, length, map, replicate}
use Rattle.pim_router.proofs.Words.{Result, Ok, Err, Option, Some, None, refl, sym, ap, subst, zero, suc, position}
use Rattle.pim_router.proofs.Words.{AllByRecursion, length-map, length-replicate, ltb-false, AddressFamily, is_source, fault_if}
use Rattle.pim_router.proofs.Words.{judged, RouteTable, Table, no_neighbours, Downstream, ConfigFault, Ports, Address, Delay}
use Rattle.pim_router.proofs.Words.{Limit, PortConfig, config_faults, fault_at, has_bad_count, has_bad_limit, IsMadeUnless}
use Rattle.pim_router.proofs.Words.{port_seen, setup_seen, router_seen, IsCurrent, IsRouter, Port, Setup, new_router}
use Rattle.pim_router.proofs.Positions.{none_passes}

err_or_ok : {E : Type 0} (fault : E) → ◌≡◌ {A = Result (Unit {0}) E} (Err fault) (Ok (tt {0})) → ⊥
err_or_ok fault e = cc

no_fault : {E : Type 0} (faults : List E) → judged faults (tt {0}) ≡ Ok (tt {0}) → faults ≡ []
no_fault [] ok = refl
no_fault (fault ∷ faults) ok = absurd (err_or_ok fault ok)

some_or_none : {E : Type 0} (fault : E) (others : List E) → fault ∷ others ≡ [] → ⊥
some_or_none fault others e = cc

left_none : {E : Type 0} (before after : List E) → before ++ after ≡ [] → before ≡ []
left_none [] after none = refl
left_none (fault ∷ before) after none = absurd (some_or_none fault (before ++ after) none)

right_none : {E : Type 0} (before after : List E) → before ++ after ≡ [] → after ≡ []
right_none [] after none = none
right_none (fault ∷ before) after none = absurd (some_or_none fault (before ++ after) none)

none_at : (fault : ℕ → ConfigFault) (place : Option ℕ) → fault_at fault place ≡ [] → place ≡ None
none_at fault None none = refl
none_at fault (Some place) none = absurd (some_or_none (fault place) [] none)

short_delays : (ports : List Port) →
    AllByRecursion (λ (port : Port). nat_lt 32767 port.propagation ≡ false) ports →
    AllByRecursion (λ (port : Port). port.propagation ≤ 32767) ports
short_delays [] all = tt
short_delays (port ∷ ports) all = (ltb-false 32767 port.propagation all.0, short_delays ports all.1)

all_current : (count : ℕ) → AllByRecursion (IsCurrent 0) (replicate count no_neighbours)
all_current zero = tt
all_current (suc count) = (record { moment_now = refl; none_ended = tt }, all_current count)

all_few : (count : ℕ) → AllByRecursion (λ (table : Table). length table.entries ≤ 1024) (replicate count no_neighbours)
all_few zero = tt
all_few (suc count) = (omega arith, all_few count)

module _ (family : AddressFamily) (setup : Setup) (ok : judged (config_faults family setup) (tt {0}) ≡ Ok (tt {0})) where
  none : config_faults family setup ≡ []
  none = no_fault (config_faults family setup) ok

  abbrev of_ports : List ConfigFault
  of_ports = fault_if (has_bad_count (length setup.ports)) Ports
      ++ fault_at Address (position (λ (port : Port). not (is_source family port.address)) setup.ports)

  abbrev of_delays : List ConfigFault
  of_delays = fault_at Delay (position (λ (port : Port). nat_lt 32767 port.propagation) setup.ports)

  pub delays : AllByRecursion (λ (port : Port). port.propagation ≤ 32767) setup.ports
  delays = short_delays setup.ports
      (none_passes (λ (port : Port). nat_lt 32767 port.propagation) setup.ports
      (none_at Delay (position (λ (port : Port). nat_lt 32767 port.propagation) setup.ports)
      (right_none of_ports of_delays
      (left_none (of_ports ++ of_delays) (fault_if (has_bad_limit setup.limit) Limit) none))))

  pub made : {A : Type 0} (value result : A) → result ≡ value → IsMadeUnless (config_faults family setup) value (Ok result)
  made value result same = subst (λ faults. IsMadeUnless faults value (Ok result)) (sym none) same

  pub new_is_sound : IsRouter (new_router setup)
  new_is_sound = record {
    ports = refl;
    tables = length-replicate (length setup.ports) no_neighbours;
    delays = delays;
    current = all_current (length setup.ports);
    few = all_few (length setup.ports);
    refresh = omega arith;
  }

-- what the code puts together is the new router
module _ {A : Type 0} (bytes_of : A → List ℕ) (ports : List (PortConfig A)) (routes : RouteTable) (limit : ℕ) where
  abbrev machines_of : ℕ → Downstream
  machines_of count = record { ports = count; limit = limit; moment = 0; records = [] }

  pub is_new : (machines : Downstream) (tables : List Table) → machines ≡ machines_of (length ports) →
      tables ≡ replicate (length ports) no_neighbours →
      router_seen bytes_of ports routes machines tables 60000 ≡ new_router (setup_seen bytes_of ports routes limit)
  is_new machines tables m t =
      let count : length ports ≡ length (map (port_seen bytes_of) ports) = sym (length-map ports (port_seen bytes_of)) in
      ap (λ d. router_seen bytes_of ports routes d tables 60000) (m ∙ ap machines_of count)
      ∙ ap (λ ts. router_seen bytes_of ports routes (machines_of (length (map (port_seen bytes_of) ports))) ts 60000)
      (t ∙ ap (λ n. replicate n no_neighbours) count)
