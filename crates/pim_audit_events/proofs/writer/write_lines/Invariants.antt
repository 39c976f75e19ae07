use Rattle.std.proofs.Common.{◌≡◌, drop}
use Rattle.std.specs.List.{flat_map}
use Rattle.pim_audit_events.specs.Seen.{lines_seen}
use Rattle.pim_audit_events.proofs.Writing.{IsWriting}
use Rattle.pim_audit_events.proofs.writer.write_lines.Given as goal

-- the lines that are left are still to be written
abbrev pub invariant-loop-line : goal.invariant-loop-line
invariant-loop-line g l =
    let text = flat_map (g.T.AuditWriter.line l.writer l.begin) in
    let bytes_of = g.F.Family.bytes_of in
    IsWriting (g.T.AuditWriter.contents l.fn.device) (g.T.AuditWriter.contents l.device) (text (lines_seen bytes_of (drop l.line-index l.lines))) (text (lines_seen bytes_of l.lines))
    × (g.T.AuditWriter.failures l.device ≡ g.T.AuditWriter.failures l.fn.device)
