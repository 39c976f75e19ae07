use Rattle.pim_answers.proofs.Words.{subst, Wrote, SaysChange, IfUsable, Kept}
use Rattle.pim_answers.proofs.Makings.{found_other, found_form}
use Rattle.pim_answers.proofs.demanding.change_found.Goals as goal

pub returns-in-Form-clause-reported : goal.returns-in-Form-clause-reported
returns-in-Form-clause-reported g c name known is =
    let family = g.F.Family.family in
    subst (λ (k : Kept). Wrote (IfUsable family c.args.router.now c.args.writer.now.upstream (SaysChange family c.args.writer.now c.args.router.now) k) (g.W.Drain.contents c.args.answers.now)
    (g.W.Drain.contents c.write_change.new.answers) c.write_change.result)
    (found_form family g.F.Family.bytes_of name c.args.found.now known c.in-Form.kept c.in-Form.is is) (c.write_change.ensures.reported name)

pub returns-in_default-clause-reported : goal.returns-in_default-clause-reported
returns-in_default-clause-reported g c name known is =
    found_other g.F.Family.family g.F.Family.bytes_of name c.args.found.now known c.args.router.now c.args.writer.now.upstream (SaysChange g.F.Family.family c.args.writer.now c.args.router.now)
    (g.W.Drain.contents c.args.answers.now) (g.W.Drain.contents c.write_tables.new.answers) c.write_tables.result c.in_default.not-Form is c.write_tables.ensures.bytes
