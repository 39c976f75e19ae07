use Rattle.std.proofs.lemmas.Result.{err_from_is_err_and}
use Rattle.pim_text.proofs.Built.{built, of_lent, refused}
use Rattle.pim_text.proofs.build.building.build_message.Goals as goal

pub returns-in_err-judge-clause-fault : goal.returns-in_err-judge-clause-fault
returns-in_err-judge-clause-fault g c =
    let p = err_from_is_err_and c.from_residual.result c.from_residual.ensures.1 in
    rw (p.1, p.2)
    (refused g.F.Family.family (g.F.Family.bytes_of c.args.src) (g.F.Family.bytes_of c.args.dst) c.args.text.now c.in-Ok.spelled.is_hello c.in-Ok.spelled.body.items c.in-Ok-sealed.message.items c.in_err-judge.field-0.0
    c.in-Ok.ensures.spelled c.in-Ok-sealed.ensures.sealed c.in-Ok-sealed.ensures.length c.in-Ok.ensures.short (of_lent g.F.Family.family (g.F.Family.bytes_of c.args.src) (g.F.Family.bytes_of c.args.dst) c.deref.result.now c.in-Ok-sealed.message.items c.judge.result _ c.judge.ensures c.deref.ensures.value c.in_err-judge.was))

pub returns-clause-built : goal.returns-clause-built
returns-clause-built g c =
    built g.F.Family.family (g.F.Family.bytes_of c.args.src) (g.F.Family.bytes_of c.args.dst) c.args.text.now (c.reads_back.ensures g.F.Family.family) c.canonical_head_is_read.ensures c.group_reads_back.ensures c.source_reads_back.ensures
    c.in-Ok.spelled.is_hello c.in-Ok.spelled.body.items c.in-Ok-sealed.message.items
    c.in-Ok.ensures.spelled c.in-Ok-sealed.ensures.sealed c.in-Ok-sealed.ensures.length c.in-Ok.ensures.short (of_lent g.F.Family.family (g.F.Family.bytes_of c.args.src) (g.F.Family.bytes_of c.args.dst) c.deref.result.now c.in-Ok-sealed.message.items c.judge.result _ c.judge.ensures c.deref.ensures.value c.in_ok-judge.was)
