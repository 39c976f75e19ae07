use Rattle.pim_emit.proofs.Words.{◌<◌, ap, option_map, true, sym, subst, Downstream, DemandSeen}
use Rattle.pim_emit.proofs.AskedSources.{asked_as_seen, reached_is_some, is_via}
use Rattle.pim_emit.proofs.demand.UpstreamDemand.goes_on_at.Goals as goal

pub returns-in-Some : goal.returns-in-Some
returns-in-Some g c = λ answered.
    let family = g.F.Family.family in
    let bytes_of = g.F.Family.bytes_of in
    let table = c.self.inside.routes.now in
    let upstream = bytes_of c.self.inside.upstream in
    let state = c.self.inside.ports in
    let form = c.args.self.now.form in
    let source = bytes_of c.in-Some.source in
    let below : c.args.port < state.ports = subst (λ (d : Downstream). c.args.port < d.ports) (sym (ap (λ (s : DemandSeen). s.machines) c.self.view_is)) c.requires.port in
    reached_is_some c.keys_are_distinct.ensures family table upstream state c.is_sound.ensures form
    (asked_as_seen c.form_of_demand_toward.ensures family table upstream state form c.is_sound.ensures (ap (λ (s : DemandSeen). s.form) c.self.view_is))
    (bytes_of c.args.group) c.requires.group (option_map bytes_of c.args.bound) c.args.port source below c.in-Some.ensures
    (is_via family table upstream source (option_map bytes_of c.via.result) c.is_neighbour.result true c.via.ensures c.is_neighbour.ensures answered)
