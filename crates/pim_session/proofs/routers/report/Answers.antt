use Rattle.pim_session.proofs.Words.{sym, subst, kept_as, IsFound, Reports, name_in}
use Rattle.pim_request.specs.declared.command.Command.{Command}
use Rattle.pim_answers.specs.Answered.{Wrote}
use Rattle.pim_session.proofs.routers.report.Goals as goal

pub returns-in-Change-clause-reported : goal.returns-in-Change-clause-reported
returns-in-Change-clause-reported g c = λ kept found.
    subst (λ (command : Command). Wrote (Reports g.F.Family.family command c.args.router.now kept) (g.W.Drain.contents c.args.answers.now) (g.W.Drain.contents c.answer_change.new.answers) c.answer_change.result) (sym c.in-Change.is)
    (c.answer_change.ensures.reported (kept_as c.in-Change.comparison.name.now kept)
    (subst (λ (command : Command). IsFound g.F.Family.family g.F.Family.bytes_of (name_in command) c.args.found.now (kept_as (name_in command) kept)) c.in-Change.is found))

pub returns-in-Same-clause-reported : goal.returns-in-Same-clause-reported
returns-in-Same-clause-reported g c = λ kept found.
    subst (λ (command : Command). Wrote (Reports g.F.Family.family command c.args.router.now kept) (g.W.Drain.contents c.args.answers.now) (g.W.Drain.contents c.answer_same.new.answers) c.answer_same.result) (sym c.in-Same.is)
    (c.answer_same.ensures.reported (kept_as c.in-Same.comparison.name.now kept)
    (subst (λ (command : Command). IsFound g.F.Family.family g.F.Family.bytes_of (name_in command) c.args.found.now (kept_as (name_in command) kept)) c.in-Same.is found))
