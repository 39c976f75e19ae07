use Rattle.std.proofs.Common.{◌≡◌, replicate}
use Rattle.pim_trace.proofs.ledger.for_each_port.Given as goal

abbrev pub invariant-loop : goal.invariant-loop
invariant-loop g l = l.items.items ≡ replicate l.counter l.item
