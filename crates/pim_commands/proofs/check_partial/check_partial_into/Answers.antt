use Rattle.std.proofs.Common.{◌∙◌}
use Rattle.pim_commands.proofs.Words.{message_report}
use Rattle.pim_commands.proofs.Partials.{of_input}
use Rattle.pim_commands.proofs.check_partial.check_partial_into.Goals as goal

pub returns-clause-report : goal.returns-clause-report
returns-clause-report g c =
    let family = g.F.Family.family in
    let source = g.F.Family.bytes_of c.args.src in
    let destination = g.F.Family.bytes_of c.args.dst in
    of_input (g.R.Feed.remaining c.args.reader.now) (g.W.Drain.contents c.args.writer.now) (g.W.Drain.contents c.print.new.writer) family source destination c.in_ok-input.input.items
    c.deref.result.now c.deref-2.result.now c.print.result c.in_ok-input.ensures.input c.deref.ensures.value c.deref-2.ensures.value
    (c.print.ensures.report (message_report family source destination c.deref.result.now) c.report-made.ensures.report)

pub returns-clause-input_read : goal.returns-clause-input_read
returns-clause-input_read g c =
    c.in_ok-input.ensures.failed
    ∙ c.print.ensures.input_read (message_report g.F.Family.family (g.F.Family.bytes_of c.args.src) (g.F.Family.bytes_of c.args.dst) c.deref.result.now) c.report-made.ensures.report (g.R.Feed.failures c.args.reader.now)

pub returns-clause-output : goal.returns-clause-output
returns-clause-output g c =
    c.print.ensures.output (message_report g.F.Family.family (g.F.Family.bytes_of c.args.src) (g.F.Family.bytes_of c.args.dst) c.deref.result.now) c.report-made.ensures.report
