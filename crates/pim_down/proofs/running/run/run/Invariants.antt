use Rattle.pim_down.proofs.Words.{◌+◌, ◌≤◌, ℕ, List, Step, IsAscending, Downstream, records_seen, downstream_at, weight, AreLate}
use Rattle.pim_down.proofs.Firings.{RunsFiring}
use Rattle.pim_down.proofs.running.run.run.Given as goal

-- whatever runs from here runs from the start
abbrev pub invariant-loop-first : goal.invariant-loop-first
invariant-loop-first g l = record {
  from_start : (ports limit : ℕ) (answer : Step (List ℕ)) (after : Downstream) (timers : ℕ) → RunsFiring l.fn.moment (downstream_at g.F.Family.bytes_of ports limit l.now l.records.items) answer after timers → RunsFiring l.fn.moment (downstream_at g.F.Family.bytes_of ports limit l.fn.now l.fn.records.items) answer after (l.looks + timers);
  few : l.looks + weight (records_seen g.F.Family.bytes_of l.records.items) ≤ weight (records_seen g.F.Family.bytes_of l.fn.records.items);
  later : l.fn.now ≤ l.now;
  within : l.now ≤ l.last;
  ascending : IsAscending (records_seen g.F.Family.bytes_of l.records.items);
  late : AreLate l.now (records_seen g.F.Family.bytes_of l.records.items);
}

abbrev pub decreases-loop-first : goal.decreases-loop-first
decreases-loop-first g l = weight (records_seen g.F.Family.bytes_of l.records.items)
