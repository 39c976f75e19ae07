use Rattle.pim_down.proofs.Words.{ℕ, ◌+◌, ◌-◌, ◌≤◌, drop, Ascend, key_seen}
use Rattle.pim_down.proofs.records.alarms.count_ascending.Given as goal

-- where those that are left ascend, all do
abbrev pub invariant-loop-count : goal.invariant-loop-count
invariant-loop-count g l = record {
  within : l.count ≤ l.most;
  ascend : (n : ℕ) → Ascend g.O.KeyOrder.bytes_of l.slab n (key_seen g.O.KeyOrder.bytes_of l.last) (drop l.count l.numbers) → Ascend g.O.KeyOrder.bytes_of l.slab (l.count + n) (key_seen g.O.KeyOrder.bytes_of l.fn.key) l.numbers;
}

abbrev pub decreases-loop-count : goal.decreases-loop-count
decreases-loop-count g l = l.most - l.count
