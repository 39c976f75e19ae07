use Rattle.std.proofs.Common.{sym, ◌∙◌}
use Rattle.std.proofs.lemmas.Result.{err_from_is_err_and}
use Rattle.pim_commands.proofs.Partials.{told, unfinished}
use Rattle.pim_commands.proofs.check_partial.end_with.Goals as goal

pub returns-in_err-write_faulty-clause-report : goal.returns-in_err-write_faulty-clause-report
returns-in_err-write_faulty-clause-report g c = λ report is.
    let p = err_from_is_err_and c.from_residual.result c.from_residual.ensures.1 in
    rw (p.1, p.2)
    (unfinished g.F.Family.family c.args.message.now report (g.W.Drain.contents c.args.writer.now) (g.W.Drain.contents c.write_faulty.new.writer) c.args.fault c.in_err-write_faulty.field-0.0 is
    (sym c.is_memory_fault.ensures ∙ c.if-is_memory_fault.false) c.in_err-write_faulty.ensures.written)

pub returns-clause-report : goal.returns-clause-report
returns-clause-report g c = λ report is.
    told g.F.Family.family c.args.message.now report (g.W.Drain.contents c.args.writer.now) (g.W.Drain.contents c.write_faulty.new.writer) c.args.fault is
    (sym c.is_memory_fault.ensures ∙ c.if-is_memory_fault.false) c.in_ok-write_faulty.ensures.written
