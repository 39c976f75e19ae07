-- The verdicts for the results of `pim_hello` and `pim_down`. They serve private functions; no
-- public clause names them.
use Rattle.std.specs.Prelude.{Result, Ok, Err}
use Rattle.std.specs.declared.alloc.AllocError.{AllocError}
use Rattle.std.specs.Allocator.{alloc_error}
use Rattle.pim_hello.specs.declared.heard.Heard.{Heard}
use Rattle.pim_hello.specs.declared.heard.NeighbourFault.{NeighbourFault}
use Rattle.pim_hello.specs.declared.heard.NeighbourFault.TheVariants as neighbours
use Rattle.pim_down.specs.declared.machines.fault.HearFault.{HearFault}
use Rattle.pim_down.specs.declared.machines.fault.HearFault.TheVariants as machines
use Rattle.pim_router.specs.declared.verdict.Verdict.{Verdict}
use Rattle.pim_router.specs.declared.verdict.Verdict.TheVariants.{HelloTaken, Applied, Full}
use Rattle.pim_router.specs.declared.verdict.Store.TheVariants.{Neighbours, Records}

-- The verdict on a Hello, from the result of the neighbour table.
abbrev pub hello_verdict : Result Heard NeighbourFault → Result Verdict AllocError
hello_verdict (Ok heard) = Ok (HelloTaken heard)
hello_verdict (Err neighbours.Full) = Ok (Full Neighbours)
hello_verdict (Err neighbours.Memory) = Err alloc_error

-- The verdict on a Join/Prune message, from the result of the machines.
abbrev pub message_verdict : Result (Unit {0}) HearFault → Result Verdict AllocError
message_verdict (Ok done) = Ok Applied
message_verdict (Err (machines.Full needed)) = Ok (Full (Records needed))
message_verdict (Err machines.Memory) = Err alloc_error
