use Rattle.pim_answers.proofs.Words.{sym, subst, Appends, Appends-nil, Step, step_seen, step_line}
use Rattle.pim_answers.proofs.running.write_step.Goals as goal

pub returns-in-Reached-clause-bytes : goal.returns-in-Reached-clause-bytes
returns-in-Reached-clause-bytes g c =
    let old = g.W.Drain.contents c.args.answers.now in
    subst (λ (step : Step _). Appends old old (step_line g.F.Family.family c.args.moment (step_seen g.F.Family.bytes_of step))) (sym c.in-Reached.is) (Appends-nil old)
