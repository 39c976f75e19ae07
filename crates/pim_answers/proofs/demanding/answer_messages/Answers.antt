use Rattle.pim_answers.proofs.Words.{IsDemandedBy, IsTooBig, made_text}
use Rattle.pim_answers.proofs.Makings.{messages_told, made_told}
use Rattle.pim_answers.proofs.demanding.answer_messages.Goals as goal

pub returns-in-Ok-clause-reported : goal.returns-in-Ok-clause-reported
returns-in-Ok-clause-reported g c =
    let family = g.F.Family.family in
    let router = c.args.router.now in
    messages_told family c.args.writing.now c.in-Ok.writer router (g.W.Drain.contents c.args.answers.now) (g.W.Drain.contents c.write_made.new.answers) c.write_made.result
    c.in-Some.ensures.same c.in-Ok.ensures.0 c.in-Ok.ensures.1 (made_text family g.F.Family.bytes_of c.canonical.result)
    (made_told family g.F.Family.bytes_of (IsDemandedBy family c.in-Ok.writer router) (IsTooBig family c.in-Ok.writer router) c.canonical.result c.canonical.ensures.canonical c.canonical.ensures.too_big c.canonical.ensures.tables)
    c.write_made.ensures.bytes
