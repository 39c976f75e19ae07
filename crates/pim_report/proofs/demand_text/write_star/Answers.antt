use Rattle.pim_report.proofs.Words.{option_map, map, subst, rules, AppendsAll}
use Rattle.pim_report.proofs.Demands.{star_is}
use Rattle.pim_report.proofs.demand_text.write_star.Goals as goal

pub returns-clause-bytes : goal.returns-clause-bytes
returns-clause-bytes g c =
    let bytes_of = g.F.Family.bytes_of in
    subst (λ t. AppendsAll (g.W.Drain.contents c.args.writer.now) (g.W.Drain.contents c.write_starred.new.writer) c.write_starred.result t)
    (star_is g.F.Family.family c.args.shows_via c.args.routes.now c.args.this.now.group (bytes_of c.group-group.result) (option_map bytes_of c.rpf_neighbour-demanded.result)
    (map bytes_of c.exceptions.result.now) c.args.this.now.star (search rules) c.group-group.ensures c.rpf_neighbour-demanded.ensures c.exceptions.ensures)
    c.write_starred.ensures.bytes
