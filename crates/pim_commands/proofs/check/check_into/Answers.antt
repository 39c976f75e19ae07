use Rattle.std.proofs.Common.{refl}
use Rattle.std.proofs.lemmas.Result.{err_from_is_err_and}
use Rattle.pim_commands.proofs.Reports.{refused}
use Rattle.pim_commands.proofs.check.check_into.Goals as goal

pub returns-in_err-text-clause-report : goal.returns-in_err-text-clause-report
returns-in_err-text-clause-report g c =
    let p = err_from_is_err_and c.from_residual-in_err-text.result c.from_residual-in_err-text.ensures.1 in
    refused (g.R.Feed.remaining c.args.reader.now) (g.W.Drain.contents c.args.writer.now) g.F.Family.family (g.F.Family.bytes_of c.args.src) (g.F.Family.bytes_of c.args.dst) c.in_ok-input.input.items
    c.deref.result.now c.from_residual-in_err-text.result c.in_err-text.field-0.0 (rw (p.1, p.2) refl) c.in_ok-input.ensures.input c.deref.ensures.value c.in_err-text.ensures.report
