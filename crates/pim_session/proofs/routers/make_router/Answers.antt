use Rattle.pim_session.proofs.Words.{Ok, Err, sym, subst, AnyRows, StartsSo, any_seen}
use Rattle.pim_session.specs.declared.routers.AnyRouter.TheVariants as router
use Rattle.pim_session.proofs.routers.make_router.Goals as goal

pub returns-in-Ok : goal.returns-in-Ok
returns-in-Ok c = subst (λ (rows : AnyRows). StartsSo (any_seen c.args.setup.now.limit rows) (Ok (router.Ipv4 c.in-Ok.router))) (sym c.in-Ipv4.is) c.in-Ok.ensures

pub returns-in-Err : goal.returns-in-Err
returns-in-Err c = subst (λ (rows : AnyRows). StartsSo (any_seen c.args.setup.now.limit rows) (Err c.in-Err.fault)) (sym c.in-Ipv4.is) c.in-Err.ensures

pub returns-in-Ok-router_of : goal.returns-in-Ok-router_of
returns-in-Ok-router_of c = subst (λ (rows : AnyRows). StartsSo (any_seen c.args.setup.now.limit rows) (Ok (router.Ipv6 c.in-Ok-router_of.router))) (sym c.in-Ipv6.is) c.in-Ok-router_of.ensures

pub returns-in-Err-router_of : goal.returns-in-Err-router_of
returns-in-Err-router_of c = subst (λ (rows : AnyRows). StartsSo (any_seen c.args.setup.now.limit rows) (Err c.in-Err-router_of.fault)) (sym c.in-Ipv6.is) c.in-Err-router_of.ensures
