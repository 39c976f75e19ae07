use Rattle.pim_trace.proofs.Words.{◌≡◌, ◌≤◌, ◌+◌, ◌*◌, drop, neighbours_in}
use Rattle.pim_trace.proofs.trace.neighbour_count.Given as goal

-- the neighbours of the ports so far were counted
abbrev pub invariant-loop-port : goal.invariant-loop-port
invariant-loop-port g l = record {
  counted : l.count + neighbours_in (drop l.port l.router.tables) ≡ neighbours_in l.router.tables;
  few : neighbours_in l.router.tables ≤ 1024 * 64;
}
