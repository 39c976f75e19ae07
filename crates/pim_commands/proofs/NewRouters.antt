-- Routers that are made, and the program's result for that of an engine.
use Rattle.pim_commands.proofs.Words.{◌≡◌, refl, sym, ap, ◌∙◌, ℕ, Bool, true, false, cond, List, [], ◌∷◌, ◌++◌, length, map}
use Rattle.pim_commands.proofs.Words.{Option, None, Some, Ok, Err, Result, filter, length-map, AddressFamily, RouteTable}
use Rattle.pim_commands.proofs.Words.{ExchangeFault, failures_of_exchange, PortConfig, IsMadeUnless, port_seen, setup_seen}
use Rattle.pim_commands.proofs.Words.{RouterState, new_router, PortFiles, Port, Fault, write_failures_after, answer_of, in_file}
use Rattle.pim_commands.proofs.Words.{file_at, is_memory, port_fault, is_in, config_of, config_fault, IsFirstCause}
use Rattle.std.specs.Borrow.{Bor}
use Rattle.pim_merge.specs.declared.merge.MergeFault.{MergeFault}
use Rattle.pim_run.specs.declared.fault.RunFault.TheVariants as of_replay
use Rattle.pim_exchange.specs.declared.fault.ExchangeFault.TheVariants as of_exchange
use Rattle.pim_router.specs.declared.config.ConfigFault.{ConfigFault}
use Rattle.pim_router.specs.declared.config.ConfigFault.TheVariants as of_config
use Rattle.pim_capture.specs.declared.fault.CaptureFault.{CaptureFault}
use Rattle.pim_faults.specs.declared.fault.Fault.TheVariants as of_run

-- a value that was made
pub made_is : {A : Type 0} (faults : List ConfigFault) (value made : A) → IsMadeUnless faults value (Ok made) → (faults ≡ []) × (made ≡ value)
made_is [] value made is = (refl, is)
made_is (first ∷ others) value made is = absurd cc

-- the first cause is told, or want of memory
told_first : (first : ConfigFault) (others : List Fault) → IsFirstCause (config_fault first ∷ others) (config_fault first)
told_first of_config.Ports others = refl
told_first (of_config.Address port) others = refl
told_first (of_config.Delay port) others = refl
told_first of_config.Limit others = refl
told_first of_config.Memory others = tt

pub unmade_is : {A : Type 0} (faults : List ConfigFault) (value : A) (reported : ConfigFault) → IsMadeUnless faults value (Err reported) → IsFirstCause (map config_fault faults) (config_fault reported)
unmade_is [] value reported is = rw (is) tt
unmade_is (first ∷ others) value reported is = let same : reported ≡ first = cc in rw (same) (told_first first (map config_fault others))

pub in_front : (these others : List Fault) (fault : Fault) → IsFirstCause these fault → IsFirstCause (these ++ others) fault
in_front these others of_run.Memory is = tt
in_front [] others fault is = absurd is
in_front (first ∷ these) others fault is = is

-- ---- the program's result

-- a fault of a capture isn't one of writing
is_read : (before : ℕ) (memory : Bool) (file : Option (Bor (List ℕ))) (number : ℕ) (cause : CaptureFault) → write_failures_after {A = ℕ} before (Err (cond memory of_run.Memory (in_file file number cause))) ≡ before
is_read before true file number cause = refl
is_read before false None number cause = refl
is_read before false (Some file) number cause = refl

pub capture_is_read : {A : Type 0} (before : ℕ) (ports : List (PortFiles A)) (reported : MergeFault) → write_failures_after {A = ℕ} before (Err (port_fault ports reported)) ≡ before
capture_is_read before ports reported = is_read before (is_memory reported.fault) (file_at ports reported.capture reported.file) reported.«record» reported.fault

-- the device's failures are those that are told
pub failures_answered : {A P : Type 0} (ports others : List (PortFiles P)) (family : AddressFamily) (bytes_of : A → List ℕ) (before : ℕ) (reported : Result ℕ (ExchangeFault A))
    → failures_of_exchange before reported ≡ write_failures_after before (answer_of ports others family bytes_of reported)
failures_answered ports others family bytes_of before (Ok status) = refl
failures_answered ports others family bytes_of before (Err (of_exchange.TooBig group)) = refl
failures_answered ports others family bytes_of before (Err (of_exchange.Full needed)) = refl
failures_answered ports others family bytes_of before (Err (of_exchange.Second reported)) = sym (capture_is_read before others reported)
failures_answered ports others family bytes_of before (Err (of_exchange.Replay (of_replay.Capture reported))) = sym (capture_is_read before ports reported)
failures_answered ports others family bytes_of before (Err (of_exchange.Replay of_replay.Output)) = refl
failures_answered ports others family bytes_of before (Err (of_exchange.Replay of_replay.Memory)) = refl

-- ---- the conditions of a replay

-- all ports are those of the one router
pub all_in : {A : Type 0} (ports : List (Port A)) → filter (is_in None) ports ≡ ports
all_in [] = refl
all_in (port ∷ ports) = ap (λ l. port ∷ l) (all_in ports)

-- as many ports as words
pub as_many : {A : Type 0} (bytes_of : A → List ℕ) (ports : List (Port A)) (configs : List (PortConfig A)) (routes : RouteTable) (limit : ℕ) (router : RouterState)
    → configs ≡ map config_of ports → router ≡ new_router (setup_seen bytes_of configs routes limit) → length router.ports ≡ length ports
as_many {A} bytes_of ports configs routes limit router same made =
    ap (λ (s : RouterState). length s.ports) made ∙ ap (λ (l : List (PortConfig A)). length (map (port_seen bytes_of) l)) same
    ∙ length-map (map config_of ports) (port_seen bytes_of) ∙ length-map ports config_of
