use Rattle.pim_emit.proofs.Words.{ap, DemandSeen}
use Rattle.pim_emit.proofs.AskedSources.{asked_as_seen}
use Rattle.pim_emit.proofs.AskedExceptions.{all_over}
use Rattle.pim_emit.proofs.demand.UpstreamDemand.rpts.Goals as goal

pub returns-clause-all : goal.returns-clause-all
returns-clause-all g c =
    let family = g.F.Family.family in
    let bytes_of = g.F.Family.bytes_of in
    let table = c.self.inside.routes.now in
    let upstream = bytes_of c.self.inside.upstream in
    let state = c.self.inside.ports in
    let form = c.args.self.now.form in
    all_over family table upstream state form
    (asked_as_seen c.form_of_demand_toward.ensures family table upstream state form c.is_sound.ensures (ap (λ (s : DemandSeen). s.form) c.self.view_is))
    (bytes_of c.args.group) c.requires c.rpts_of.result.bound c.rpts_of.ensures.lowest
