use Rattle.pim_emit.proofs.Words.{ap, DemandSeen}
use Rattle.pim_emit.proofs.Action.{asked_of_writer}
use Rattle.pim_emit.proofs.KeptMessages.{ask_by}
use Rattle.pim_emit.proofs.kept.canonical_messages.Goals as goal

pub returns-clause-canonical : goal.returns-clause-canonical
returns-clause-canonical g c =
    let family = g.F.Family.family in
    let writing = c.args.writer.now in
    let demand_seen = c.new-demand.result in
    let demand = asked_of_writer family writing c.args.routes.now c.args.ports.now demand_seen (g.F.Family.bytes_of c.upstream.result)
    c.form_of_demand_toward.ensures c.is_sound.ensures c.new-demand.ensures c.upstream.ensures in
    ask_by family writing demand_seen c.args.routes.now c.args.ports.now _ demand.is (ap (λ (a : DemandSeen). a.table) c.new-demand.ensures) c.in-Ok-keep_all.ensures
