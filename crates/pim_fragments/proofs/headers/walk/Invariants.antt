use Rattle.std.proofs.Common.{◌≡◌, ◌≤◌, ◌-◌}
use Rattle.pim_fragments.specs.Headers.{walk, most_headers}
use Rattle.pim_fragments.proofs.headers.walk.Given as goal

abbrev pub invariant-loop : goal.invariant-loop
invariant-loop l = record {
  after : l.fn.at ≤ l.at;
  inside : l.at ≤ l.total;
  same : walk (most_headers - l.counter) l.next l.at l.total l.bytes ≡ walk most_headers l.fn.next l.fn.at l.total l.bytes;
}
