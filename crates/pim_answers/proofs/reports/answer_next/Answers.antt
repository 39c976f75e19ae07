use Rattle.pim_answers.proofs.Words.{◌++◌, refl, rules, ok_line, AnswersNext, moment_line}
use Rattle.pim_answers.proofs.Wrote.{told_text}
use Rattle.pim_answers.proofs.reports.answer_next.Goals as goal

pub returns-clause-reported : goal.returns-clause-reported
returns-clause-reported g c =
    told_text (AnswersNext c.args.router.now) _ _ c.answer_moment.result (moment_line c.next_due.result ++ ok_line) (c.next_due.result, (search rules), refl) c.answer_moment.ensures.bytes
