-- The program's result for a result of an engine.
use Rattle.std.specs.Prelude.{ℕ, List, Result, Ok, Err}
use Rattle.pim_addr.specs.declared.family.AddressFamily.{AddressFamily}
use Rattle.pim_files.specs.Captures.{PortFiles}
use Rattle.pim_lines.specs.AnyAddress.{address_in}
use Rattle.pim_run.specs.declared.fault.RunFault.TheVariants as of_replay
use Rattle.pim_exchange.specs.declared.fault.ExchangeFault.{ExchangeFault}
use Rattle.pim_exchange.specs.declared.fault.ExchangeFault.TheVariants as of_exchange
use Rattle.pim_faults.specs.declared.fault.Fault.{Fault}
use Rattle.pim_faults.specs.declared.fault.Fault.TheVariants.{TooBig, Full, Output, Memory}
use Rattle.pim_warnings.specs.Naming.{port_fault}

-- The router has the ports `ports`. The second one of two has the ports `others`.
module _ {A P : Type 0} (ports others : List (PortFiles P)) (family : AddressFamily) (bytes_of : A → List ℕ) where
  -- The program's fault for a fault of an engine.
  abbrev pub engine_fault : ExchangeFault A → Fault
  engine_fault (of_exchange.Replay (of_replay.Capture reported)) = port_fault ports reported
  engine_fault (of_exchange.Replay of_replay.Output) = Output
  engine_fault (of_exchange.Replay of_replay.Memory) = Memory
  engine_fault (of_exchange.Second reported) = port_fault others reported
  engine_fault (of_exchange.TooBig group) = TooBig (address_in family (bytes_of group))
  engine_fault (of_exchange.Full needed) = Full needed

  -- The program's result for a result of an engine.
  abbrev pub answer_of : Result ℕ (ExchangeFault A) → Result ℕ Fault
  answer_of (Ok status) = Ok status
  answer_of (Err fault) = Err (engine_fault fault)
