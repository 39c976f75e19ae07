use Rattle.pim_answers.proofs.Words.{true, false, List, codes, IfOk, option_map, refl, subst, GroupForm, group_too_big}
use Rattle.pim_answers.proofs.Words.{SaysChange, made_text, form_seen}
use Rattle.pim_router.specs.Change.{IsChangeOf, IsChangeTooBig}
use Rattle.pim_answers.proofs.Makings.{made_told, tables_told, usable_told, usable_is}
use Rattle.pim_answers.proofs.demanding.write_change.Goals as goal

pub returns-in_default-clause-reported : goal.returns-in_default-clause-reported
returns-in_default-clause-reported g c name =
    tables_told g.F.Family.family c.args.router.now c.args.writer.now.upstream (SaysChange g.F.Family.family c.args.writer.now c.args.router.now) (form_seen g.F.Family.family g.F.Family.bytes_of name c.args.kept.now)
    (g.W.Drain.contents c.args.answers.now) (g.W.Drain.contents c.write_tables.new.answers) c.write_tables.result
    c.routes.result.now (g.F.Family.bytes_of c.upstream.result) c.routes.ensures c.upstream.ensures (codes "tables")
    (usable_is g.F.Family.family g.F.Family.bytes_of c.routes.result.now (g.F.Family.bytes_of c.upstream.result) name c.args.kept.now false c.in_default.ensures.none) refl c.write_tables.ensures.bytes

pub returns-clause-reported : goal.returns-clause-reported
returns-clause-reported g c name =
    let family = g.F.Family.family in
    let router = c.args.router.now in
    let writer = c.args.writer.now in
    let kept = form_seen g.F.Family.family g.F.Family.bytes_of name c.args.kept.now in
    let used = c.in-Some.ensures.some in
    usable_told family router writer.upstream (SaysChange family writer router) kept
    (g.W.Drain.contents c.args.answers.now) (g.W.Drain.contents c.write_made.new.answers) c.write_made.result
    c.routes.result.now (g.F.Family.bytes_of c.upstream.result) c.routes.ensures c.upstream.ensures (made_text family g.F.Family.bytes_of c.triggered.result)
    (usable_is family g.F.Family.bytes_of c.routes.result.now (g.F.Family.bytes_of c.upstream.result) name c.args.kept.now true used.0)
    (made_told family g.F.Family.bytes_of (IsChangeOf family writer kept.form router) (IsChangeTooBig family writer kept.form router) c.triggered.result
    (subst (λ (form : List GroupForm). IfOk c.triggered.result (IsChangeOf family writer form router)) used.1 c.triggered.ensures.change)
    (subst (λ (form : List GroupForm). IsChangeTooBig family writer form router (option_map g.F.Family.bytes_of (group_too_big c.triggered.result))) used.1 c.triggered.ensures.too_big)
    c.triggered.ensures.tables)
    c.write_made.ensures.bytes
