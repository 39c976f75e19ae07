use Rattle.pim_exchange.proofs.FreshHearings.{fits_again, heard_again}
use Rattle.pim_exchange.proofs.fresh_hearing.hear_again.Goals as goal

pub demand_again-requires : goal.demand_again-requires
demand_again-requires g c = fits_again g.F.Family.family c.args.routes.now c.args.by.now c.args.messages.now c.in_ok-router.router c.in_ok-router.ensures.mirrored.1

pub returns : goal.returns
returns g c =
    heard_again g.F.Family.family c.args.routes.now c.args.by.now c.args.messages.now c.in_ok-router.router c.in_ok-router.ensures.mirrored.1 c.args.limit c.demand_again.result
    c.in_ok-router.ensures.mirrored.0 c.demand_again.ensures
