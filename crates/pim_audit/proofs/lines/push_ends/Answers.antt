use Rattle.std.proofs.Common.{◌++◌}
use Rattle.std.specs.List.{flat_map}
use Rattle.pim_audit_events.specs.Seen.{lines_seen}
use Rattle.pim_audit.specs.TurnLines.{end_lines}
use Rattle.pim_audit.proofs.AddedLines.{more_added}
use Rattle.pim_audit.proofs.lines.push_ends.Goals as goal

pub loop-ended-preserved : goal.loop-ended-preserved
loop-ended-preserved g c =
    let bytes_of = g.F.Family.bytes_of in
    more_added (end_lines bytes_of) c.args.ends.now c.loop-ended.ended-index c.ended-item.result (lines_seen bytes_of c.loop-ended.lines.items)
    (lines_seen bytes_of c.push_end.new.lines.items)
    (lines_seen bytes_of c.args.lines.now.items ++ flat_map (end_lines bytes_of) c.args.ends.now)
    c.loop-ended-test.true c.ended-item.is c.loop-ended.invariant c.in_ok-push_end.ensures
