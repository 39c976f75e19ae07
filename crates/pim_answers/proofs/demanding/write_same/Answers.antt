use Rattle.pim_answers.proofs.Words.{true, false, List, codes, IfOk, refl, subst, GroupForm, SaysSame, AreCompared}
use Rattle.pim_answers.proofs.Words.{same_text, SaysBig, form_seen}
use Rattle.pim_answers.proofs.Makings.{compared_told, tables_told, usable_told, usable_is, toward_here}
use Rattle.pim_answers.proofs.demanding.write_same.Goals as goal

pub returns-in_default-clause-reported : goal.returns-in_default-clause-reported
returns-in_default-clause-reported g c name =
    tables_told g.F.Family.family c.args.router.now c.args.writer.now.upstream (SaysSame g.F.Family.family c.args.writer.now c.args.router.now) (form_seen g.F.Family.family g.F.Family.bytes_of name c.args.kept.now)
    (g.W.Drain.contents c.args.answers.now) (g.W.Drain.contents c.write_tables.new.answers) c.write_tables.result
    c.routes.result.now (g.F.Family.bytes_of c.upstream.result) c.routes.ensures c.upstream.ensures (codes "tables")
    (usable_is g.F.Family.family g.F.Family.bytes_of c.routes.result.now (g.F.Family.bytes_of c.upstream.result) name c.args.kept.now false c.in_default.ensures.none) refl c.write_tables.ensures.bytes

pub is_same-requires : goal.is_same-requires
is_same-requires g c =
    let used = c.in-Some.ensures.some in
    toward_here g.F.Family.family c.in-Some.form.now c.routes.result.now c.args.router.now.routes (g.F.Family.bytes_of c.upstream.result) c.args.writer.now.upstream c.routes.ensures c.upstream.ensures used.2

pub returns-clause-reported : goal.returns-clause-reported
returns-clause-reported g c name =
    let family = g.F.Family.family in
    let router = c.args.router.now in
    let writer = c.args.writer.now in
    let kept = form_seen g.F.Family.family g.F.Family.bytes_of name c.args.kept.now in
    let used = c.in-Some.ensures.some in
    usable_told family router writer.upstream (SaysSame family writer router) kept
    (g.W.Drain.contents c.args.answers.now) (g.W.Drain.contents c.write_compared.new.answers) c.write_compared.result
    c.routes.result.now (g.F.Family.bytes_of c.upstream.result) c.routes.ensures c.upstream.ensures (same_text family g.F.Family.bytes_of c.is_same.result)
    (usable_is family g.F.Family.bytes_of c.routes.result.now (g.F.Family.bytes_of c.upstream.result) name c.args.kept.now true used.0)
    (compared_told family g.F.Family.bytes_of writer router kept c.is_same.result
    (subst (λ (form : List GroupForm). IfOk c.is_same.result (AreCompared family writer form router)) used.1 c.is_same.ensures.same)
    (subst (λ (form : List GroupForm). SaysBig family g.F.Family.bytes_of writer form router c.is_same.result) used.1 c.is_same.ensures.big)
    c.is_same.ensures.tables)
    c.write_compared.ensures.bytes
