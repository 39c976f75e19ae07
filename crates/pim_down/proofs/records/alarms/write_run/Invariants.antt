use Rattle.pim_down.proofs.Words.{◌≡◌, ◌-◌, ◌≤◌, length, map, take, alarm_at}
use Rattle.pim_down.proofs.records.alarms.write_run.Given as goal

abbrev pub invariant-loop-count : goal.invariant-loop-count
invariant-loop-count l = record {
  within : l.count ≤ length l.numbers;
  long : length l.row ≡ 32;
  written : take l.count l.row ≡ map (alarm_at l.to) (take l.count l.numbers);
}

abbrev pub decreases-loop-count : goal.decreases-loop-count
decreases-loop-count l = length l.numbers - l.count
