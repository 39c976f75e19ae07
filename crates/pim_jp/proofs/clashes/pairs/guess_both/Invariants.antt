use Rattle.std.proofs.Common.{◌+◌, ◌-◌, ◌^◌, ◌≤◌, length, min}
use Rattle.pim_jp.proofs.clashes.pairs.guess_both.Given as goal

abbrev pub invariant-loop-done : goal.invariant-loop-done
invariant-loop-done g l = record {
  one : l.guesses.one + 2 ^ min l.shift (12 - l.done) ≤ length l.fn.sorted;
  other : l.guesses.other + 2 ^ min l.shift (12 - l.done) ≤ length l.fn.sorted;
}
