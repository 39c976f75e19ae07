use Rattle.pim_emit.proofs.Words.{ap, DemandSeen}
use Rattle.pim_emit.proofs.AskedSources.{asked_as_seen}
use Rattle.pim_emit.proofs.AskedExceptions.{few_on_all}
use Rattle.pim_emit.proofs.demand.UpstreamDemand.most_exceptions.Goals as goal

pub returns : goal.returns
returns g c = λ group is_group.
    let family = g.F.Family.family in
    let table = c.self.inside.routes.now in
    let upstream = g.F.Family.bytes_of c.self.inside.upstream in
    let state = c.self.inside.ports in
    let form = c.args.self.now.form in
    few_on_all family table upstream state form
    (asked_as_seen c.form_of_demand_toward.ensures family table upstream state form c.is_sound.ensures (ap (λ (s : DemandSeen). s.form) c.self.view_is))
    group is_group c.keys_are_distinct.ensures c.is_sound.ensures c.most_rpts.result c.most_rpts.ensures
