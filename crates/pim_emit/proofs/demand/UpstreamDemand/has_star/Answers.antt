use Rattle.pim_emit.proofs.Words.{◌∙◌, sym, ap, option_map, DemandSeen}
use Rattle.pim_emit.proofs.AskedSources.{asked_as_seen}
use Rattle.pim_emit.proofs.AskedExceptions.{star_if_reached, is_reached}
use Rattle.pim_emit.proofs.demand.UpstreamDemand.has_star.Goals as goal

pub returns-then-is_some : goal.returns-then-is_some
returns-then-is_some g c =
    let family = g.F.Family.family in
    let table = c.self.inside.routes.now in
    let upstream = g.F.Family.bytes_of c.self.inside.upstream in
    let state = c.self.inside.ports in
    let form = c.args.self.now.form in
    let group = g.F.Family.bytes_of c.args.group in
    star_if_reached family table upstream state form
    (asked_as_seen c.form_of_demand_toward.ensures family table upstream state form c.is_sound.ensures (ap (λ (s : DemandSeen). s.form) c.self.view_is))
    group c.requires c.first_starred.result c.is_neighbour.result c.first_starred.ensures (sym c.is_some.ensures ∙ c.if-is_some.true)
    (is_reached family table upstream group (option_map g.F.Family.bytes_of c.rpf_neighbour.result) c.is_neighbour.result c.rpf_neighbour.ensures c.is_neighbour.ensures)
