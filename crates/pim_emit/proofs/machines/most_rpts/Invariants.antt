use Rattle.pim_emit.proofs.Words.{ℕ, ◌<◌, ◌≤◌, rpt_count_on}
use Rattle.pim_emit.proofs.machines.most_rpts.Given as goal

-- no port before this one has more
abbrev pub invariant-loop-port : goal.invariant-loop-port
invariant-loop-port g l = (port : ℕ) → port < l.port → rpt_count_on port l.ports.records ≤ l.most
