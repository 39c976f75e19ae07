use Rattle.pim_session.proofs.Words.{List, Some, Ok, subst, config_faults, IsMadeUnless, new_router, rows_seen}
use Rattle.pim_router.specs.declared.config.PortConfig.{PortConfig}
use Rattle.pim_router.specs.Seen.{setup_seen}
use Rattle.pim_session.proofs.Making.{starts_made}
use Rattle.pim_session.proofs.routers.router_of.Goals as goal

pub returns-in-Ok : goal.returns-in-Ok
returns-in-Ok g c =
    starts_made g.F.Family.family (rows_seen g.F.Family.bytes_of (Some g.F.Family.family) c.args.limit c.args.rows.now) c.in-Ok.router
    (subst (λ (ports : List (PortConfig g.row.F-Addr.Denot)). IsMadeUnless (config_faults g.F.Family.family (setup_seen g.F.Family.bytes_of ports c.args.rows.now.routes c.args.limit))
    (new_router (setup_seen g.F.Family.bytes_of ports c.args.rows.now.routes c.args.limit)) (Ok c.in-Ok.router)) c.deref.ensures.value c.in-Ok.ensures)
