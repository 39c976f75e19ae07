use Rattle.pim_router.proofs.Words.{◌∙◌, ap, timing_on}
use Rattle.pim_router.proofs.Receiving.{applied_now, applied_wants}
use Rattle.pim_router.proofs.router.Router.apply.Goals as goal

pub returns-clause-reported : goal.returns-clause-reported
returns-clause-reported g c =
    applied_now g.F.Family.bytes_of c.self.inside.ports.now c.self.inside.routes.now c.self.inside.machines c.self.inside.neighbours.items c.self.inside.next_refresh
    g.F.Family.family c.args.port c.args.message.now c.args.self.now (c.self.view_is ∙ c.gather_delays.ensures) c.timing-timing.result (c.timing-timing.ensures.timing ∙ ap (timing_on c.args.port) c.gather_delays.ensures)
    c.hear-heard.result c.hear-heard.new.self c.hear-heard.ensures.ok c.hear-heard.ensures.err c.hear-heard.ensures.room c.message_verdict.result c.message_verdict.ensures

pub returns-clause-memory : goal.returns-clause-memory
returns-clause-memory g c =
    applied_wants g.F.Family.bytes_of c.self.inside.ports.now c.self.inside.routes.now c.self.inside.machines c.self.inside.neighbours.items c.self.inside.next_refresh
    g.F.Family.family c.args.port c.args.message.now c.args.self.now (c.self.view_is ∙ c.gather_delays.ensures)
    c.hear-heard.result c.hear-heard.ensures.memory c.message_verdict.result c.message_verdict.ensures
