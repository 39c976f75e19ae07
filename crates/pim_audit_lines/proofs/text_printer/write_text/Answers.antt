use Rattle.std.proofs.Common.{rules, subst, ◌∙◌, ap}
use Rattle.pim_event_lines.specs.Files.{files_of}
use Rattle.std.specs.Option.{option_map}
use Rattle.pim_device.specs.Device.{AppendsAll}
use Rattle.pim_events.specs.Events.{epoch_at}
use Rattle.pim_audit_events.specs.Seen.{origin_seen, said_seen}
use Rattle.pim_event_lines.specs.TextLine.{head_text}
use Rattle.pim_audit_lines.specs.AuditText.{port_of, said_text}
use Rattle.pim_audit_lines.proofs.Written.{both, stopped_first, same_head}
use Rattle.pim_audit_lines.proofs.text_printer.write_text.Goals as goal

pub returns-in_err-write_text_head-clause-bytes : goal.returns-in_err-write_text_head-clause-bytes
returns-in_err-write_text_head-clause-bytes g c =
    subst (λ t. AppendsAll (g.W.Drain.contents c.args.writer.now) (g.W.Drain.contents c.write_text_head.new.writer) c.from_residual.result t)
    (same_head (λ epoch port. head_text c.args.printer.now.names.now c.args.printer.now.form c.args.line.now.moment epoch port) (said_text g.F.Family.family (files_of c.args.printer.now.files.now (port_of (option_map (origin_seen g.F.Family.bytes_of) c.args.line.now.origin))) c.args.printer.now.form (g.F.Family.bytes_of c.args.printer.now.upstream) c.args.begin (option_map (origin_seen g.F.Family.bytes_of) c.args.line.now.origin) (said_seen g.F.Family.bytes_of c.args.line.now.said)) c.epoch_at-epoch.result (epoch_at c.args.begin c.args.line.now.moment) c.port_of-port.result (port_of (option_map (origin_seen g.F.Family.bytes_of) c.args.line.now.origin)) (search rules) (search rules))
    (stopped_first _ _ c.from_residual.result _ _ c.from_residual.ensures.0 c.in_err-write_text_head.ensures.bytes)

pub returns-clause-bytes : goal.returns-clause-bytes
returns-clause-bytes g c =
    subst (λ t. AppendsAll (g.W.Drain.contents c.args.writer.now) (g.W.Drain.contents c.write_said.new.writer) c.write_said.result t)
    (same_head (λ epoch port. head_text c.args.printer.now.names.now c.args.printer.now.form c.args.line.now.moment epoch port) (said_text g.F.Family.family (files_of c.args.printer.now.files.now (port_of (option_map (origin_seen g.F.Family.bytes_of) c.args.line.now.origin))) c.args.printer.now.form (g.F.Family.bytes_of c.args.printer.now.upstream) c.args.begin (option_map (origin_seen g.F.Family.bytes_of) c.args.line.now.origin) (said_seen g.F.Family.bytes_of c.args.line.now.said)) c.epoch_at-epoch.result (epoch_at c.args.begin c.args.line.now.moment) c.port_of-port.result (port_of (option_map (origin_seen g.F.Family.bytes_of) c.args.line.now.origin)) (search rules) (search rules))
    (both _ _ _ c.write_said.result _ _ c.in_ok-write_text_head.ensures.bytes (
    subst (λ f. AppendsAll (g.W.Drain.contents c.write_text_head.new.writer) (g.W.Drain.contents c.write_said.new.writer) c.write_said.result
    (said_text g.F.Family.family f c.args.printer.now.form (g.F.Family.bytes_of c.args.printer.now.upstream) c.args.begin (option_map (origin_seen g.F.Family.bytes_of) c.args.line.now.origin) (said_seen g.F.Family.bytes_of c.args.line.now.said)))
    (c.files_of-files.ensures ∙ ap (files_of c.args.printer.now.files.now) c.port_of-port.ensures) c.write_said.ensures.bytes))
