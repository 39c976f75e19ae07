use Rattle.std.proofs.Common.{◌≡◌, map, drop}
use Rattle.pim_audit_events.specs.Seen.{lines_seen}
use Rattle.pim_audit.specs.Totals.{with_lines}
use Rattle.pim_audit.proofs.totals.with_lines.Given as goal

-- what was counted and what is left to count are all
abbrev pub invariant-loop-line : goal.invariant-loop-line
invariant-loop-line g l =
    let bytes_of = g.F.Family.bytes_of in
    with_lines (map bytes_of l.groups) (lines_seen bytes_of (drop l.line-index l.lines)) l.counted ≡ with_lines (map bytes_of l.groups) (lines_seen bytes_of l.lines) l.fn.totals
