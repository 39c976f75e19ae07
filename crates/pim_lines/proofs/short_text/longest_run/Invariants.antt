use Rattle.std.proofs.Common.{◌≡◌, ◌+◌, ◌≤◌, length, drop}
use Rattle.std.specs.Net.Text.{zero_run, longest_zero_run}
use Rattle.pim_lines.proofs.short_text.longest_run.Given as goal

abbrev pub invariant-loop-index : goal.invariant-loop-index
invariant-loop-index l =
    (l.run ≡ zero_run (drop l.index l.groups)) × (l.count ≡ (longest_zero_run (drop l.index l.groups)).1)
    × (l.start ≡ l.index + (longest_zero_run (drop l.index l.groups)).0)
    × (l.index + l.run ≤ length l.groups) × (l.start + l.count ≤ length l.groups)
