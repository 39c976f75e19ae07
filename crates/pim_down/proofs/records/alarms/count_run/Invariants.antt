use Rattle.std.proofs.Common.{◌≡◌, ℕ, ◌-◌, ◌<◌, ◌≤◌, slice_index_or}
use Rattle.pim_down.specs.declared.records.deadline.Alarm.{Alarm}
use Rattle.pim_down.proofs.records.alarms.count_run.Given as goal

abbrev pub invariant-loop-count : goal.invariant-loop-count
invariant-loop-count l = record {
  within : l.count ≤ l.most;
  same : (i d : ℕ) (a : Alarm) → i < l.count → slice_index_or l.row i a ≡ record { ends_at = l.from; number = slice_index_or l.numbers i d };
}

abbrev pub decreases-loop-count : goal.decreases-loop-count
decreases-loop-count l = l.most - l.count
