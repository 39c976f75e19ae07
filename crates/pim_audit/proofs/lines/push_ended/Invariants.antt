use Rattle.std.proofs.Common.{◌≡◌, ◌++◌, map, drop}
use Rattle.std.specs.Option.{option_map}
use Rattle.pim_audit.specs.Lines.{ended_line}
use Rattle.pim_audit_events.specs.Seen.{origin_seen, lines_seen}
use Rattle.pim_audit.specs.Seen.{dues_seen}
use Rattle.pim_audit.proofs.lines.push_ended.Given as goal

-- what was added and what is left to add are all
abbrev pub invariant-loop-held : goal.invariant-loop-held
invariant-loop-held g l =
    let bytes_of = g.F.Family.bytes_of in
    lines_seen bytes_of l.lines.items ++ map (ended_line l.moment (option_map (origin_seen bytes_of) l.origin)) (dues_seen bytes_of (drop l.held-index l.ended))
    ≡ lines_seen bytes_of l.fn.lines.items ++ map (ended_line l.moment (option_map (origin_seen bytes_of) l.origin)) (dues_seen bytes_of l.ended)
