use Rattle.std.proofs.Common.{◌≡◌, ◌++◌, map, drop}
use Rattle.pim_audit.specs.Lines.{late_line}
use Rattle.pim_audit_events.specs.Seen.{lines_seen}
use Rattle.pim_audit.specs.Seen.{dues_seen}
use Rattle.pim_audit.proofs.lines.push_late.Given as goal

-- what was added and what is left to add are all
abbrev pub invariant-loop-held : goal.invariant-loop-held
invariant-loop-held g l =
    let bytes_of = g.F.Family.bytes_of in
    lines_seen bytes_of l.lines.items ++ map (late_line l.moment) (dues_seen bytes_of (drop l.held-index l.late))
    ≡ lines_seen bytes_of l.fn.lines.items ++ map (late_line l.moment) (dues_seen bytes_of l.late)
