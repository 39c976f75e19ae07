use Rattle.std.proofs.Common.{◌∙◌, ◌++◌, List, None, ap}
use Rattle.std.specs.List.{flat_map}
use Rattle.std.specs.Option.{option_map}
use Rattle.std.proofs.lemmas.Result.{on_ok_weaker}
use Rattle.pim_audit_events.specs.Seen.{origin_seen, lines_seen}
use Rattle.pim_audit.specs.declared.passing.Ended.{Ended}
use Rattle.pim_audit.specs.Lines.{message_lines, origin_if_heard}
use Rattle.pim_audit.specs.TurnLines.{report_lines, end_lines}
use Rattle.pim_audit.proofs.AddedLines.{four_added}
use Rattle.pim_audit.proofs.lines.push_turn.Goals as goal

pub returns : goal.returns
returns g c =
    let bytes_of = g.F.Family.bytes_of in
    let report = c.args.report.now in
    let origin = option_map (origin_seen bytes_of) c.args.origin in
    on_ok_weaker c.push_look-2.result
    (λ last. four_added (lines_seen bytes_of c.args.lines.now.items) (lines_seen bytes_of c.push_ends.new.lines.items)
    (lines_seen bytes_of c.push_look.new.lines.items) (lines_seen bytes_of c.push_message.new.lines.items)
    (lines_seen bytes_of c.push_look-2.new.lines.items)
    (flat_map (end_lines bytes_of) report.ended.items)
    (report_lines bytes_of c.args.moment None report.before)
    (message_lines c.args.moment origin report.effect c.args.restart)
    (report_lines bytes_of c.args.moment (origin_if_heard origin report.effect) report.after)
    (c.in_ok-push_ends.ensures ∙ ap (λ (ends : List (Ended g.row.F-Addr.Denot)). lines_seen bytes_of c.args.lines.now.items ++ flat_map (end_lines bytes_of) ends) c.deref.ensures.value)
    c.in_ok-push_look.ensures c.in_ok-push_message.ensures
    (last ∙ ap (λ o. lines_seen bytes_of c.push_message.new.lines.items ++ report_lines bytes_of c.args.moment o report.after) (c.origin_if_heard-heard.ensures bytes_of)))
    c.push_look-2.ensures
