use Rattle.pim_down.proofs.Words.{ℕ, ◌+◌, ◌≤◌, ◌*◌, List, Option, length, Record, count_new}
use Rattle.pim_down.proofs.Events.{sets_events}
use Rattle.pim_down.proofs.hearing.ordered.entry_count.Given as goal

-- the entries so far and the events of the sets that are left are no fewer than all events
abbrev pub invariant-loop-set : goal.invariant-loop-set
invariant-loop-set g l = record {
  events : (known : List ℕ → Option (List ℕ)) (port : ℕ) (records : List (Record (List ℕ))) → count_new port records (sets_events known l.message.sets) ≤ l.count + count_new port records (sets_events known l.set-iterator);
  bound : l.count + 131070 * length l.set-iterator ≤ 131070 * length l.message.sets;
}
