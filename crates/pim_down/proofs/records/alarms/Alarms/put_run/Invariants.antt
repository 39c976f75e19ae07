use Rattle.pim_down.proofs.Words.{◌≡◌, ℕ, List, ◌+◌, ◌-◌, ◌≤◌, length, map, take, Held, with_run, Numbered, alarm_of, AreKnown}
use Rattle.pim_down.proofs.records.alarms.Alarms.put_run.Given as goal

abbrev pub invariant-loop-at : goal.invariant-loop-at
invariant-loop-at g l = record {
  alarms : (ends : ℕ) (run : List (Held g.row.A.Denot)) (timers : List Numbered) → length run ≡ length l.numbers →
      AreKnown g.O.KeyOrder.bytes_of l.slab (with_run g.O.KeyOrder.bytes_of ends l.numbers run timers) → l.fn.self.alarms ≡ map alarm_of timers →
      l.self.alarms ≡ map alarm_of (with_run g.O.KeyOrder.bytes_of l.to (take l.at l.numbers) (take l.at run) timers);
  within : l.at ≤ length l.numbers;
  few : length l.self.alarms ≤ length l.fn.self.alarms + l.at;
  capacity : l.self.capacity ≡ l.fn.self.capacity;
}

abbrev pub decreases-loop-at : goal.decreases-loop-at
decreases-loop-at g l = length l.numbers - l.at
