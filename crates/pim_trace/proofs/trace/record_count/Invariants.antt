use Rattle.std.proofs.Common.{◌≡◌, ◌≤◌, ◌+◌, ◌*◌, length}
use Rattle.pim_trace.proofs.Counts.{records_from}
use Rattle.pim_trace.proofs.trace.record_count.Given as goal

-- the machines of the ports so far were counted
abbrev pub invariant-loop-port : goal.invariant-loop-port
invariant-loop-port g l = record {
  counted : l.count + records_from l.port l.router.machines.records ≡ length l.router.machines.records;
  few : l.count ≤ 100000 * l.port;
}
