use Rattle.std.proofs.Common.{◌≡◌, ◌++◌, drop}
use Rattle.std.specs.List.{flat_map}
use Rattle.pim_audit_events.specs.Seen.{lines_seen}
use Rattle.pim_audit.specs.TurnLines.{end_lines}
use Rattle.pim_audit.proofs.lines.push_ends.Given as goal

-- what was added and what is left to add are all
abbrev pub invariant-loop-ended : goal.invariant-loop-ended
invariant-loop-ended g l =
    let bytes_of = g.F.Family.bytes_of in
    lines_seen bytes_of l.lines.items ++ flat_map (end_lines bytes_of) (drop l.ended-index l.ends)
    ≡ lines_seen bytes_of l.fn.lines.items ++ flat_map (end_lines bytes_of) l.ends
