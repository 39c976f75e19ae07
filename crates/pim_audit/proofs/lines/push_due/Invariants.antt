use Rattle.std.proofs.Common.{◌≡◌, ◌++◌, map, drop}
use Rattle.pim_down.specs.Seen.{event_seen}
use Rattle.pim_audit_events.specs.Seen.{lines_seen}
use Rattle.pim_audit.specs.Lines.{due_line}
use Rattle.pim_audit.proofs.lines.push_due.Given as goal

-- what was added and what is left to add are all
abbrev pub invariant-loop-entry : goal.invariant-loop-entry
invariant-loop-entry g l =
    let bytes_of = g.F.Family.bytes_of in
    lines_seen bytes_of l.lines.items ++ map (due_line l.moment) (map (event_seen bytes_of) (drop l.entry-index l.entries))
    ≡ lines_seen bytes_of l.fn.lines.items ++ map (due_line l.moment) (map (event_seen bytes_of) l.entries)
