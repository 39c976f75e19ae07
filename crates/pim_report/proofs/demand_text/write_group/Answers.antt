use Rattle.pim_report.proofs.Words.{map, subst, AppendsAll}
use Rattle.pim_report.proofs.Demands.{group_is}
use Rattle.pim_report.proofs.Written.{both, stopped_first}
use Rattle.pim_report.proofs.demand_text.write_group.Goals as goal

pub returns-in_err-write_star-clause-bytes : goal.returns-in_err-write_star-clause-bytes
returns-in_err-write_star-clause-bytes g c = stopped_first _ _ c.from_residual.result _ _ c.from_residual.ensures.0 c.in_err-write_star.ensures.bytes

pub returns-clause-bytes : goal.returns-clause-bytes
returns-clause-bytes g c =
    let bytes_of = g.F.Family.bytes_of in
    subst (λ t. AppendsAll (g.W.Drain.contents c.args.writer.now) (g.W.Drain.contents c.write_sources.new.writer) c.write_sources.result t)
    (group_is g.F.Family.family c.args.shows_via c.args.routes.now c.args.this.now (bytes_of c.group.result) (map bytes_of c.sources.result.now) c.group.ensures c.sources.ensures)
    (both _ _ _ c.write_sources.result _ _ c.in_ok-write_star.ensures.bytes c.write_sources.ensures.bytes)
