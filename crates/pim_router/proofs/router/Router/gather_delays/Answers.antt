use Rattle.pim_router.proofs.Words.{◌∙◌, sym, ap, subst, List, Table, IsRouter, router_seen}
use Rattle.pim_router.proofs.Current.{put_back}
use Rattle.pim_router.proofs.router.Router.gather_delays.Goals as goal

pub invariant_of-self : goal.invariant_of-self
invariant_of-self g c =
    let same = put_back c.self.inside.neighbours.items c.args.port c.index_mut.result.now c.gather_delays.new.self c.index_mut.ensures.value c.gather_delays.ensures in (
      c.self.invariant.0,
      subst (λ (tables : List Table). IsRouter (router_seen g.F.Family.bytes_of c.self.inside.ports.now c.self.inside.routes.now c.self.inside.machines tables c.self.inside.next_refresh)) (sym same)
          c.self.invariant.1,
    )

pub returns : goal.returns
returns g c =
    let same = put_back c.self.inside.neighbours.items c.args.port c.index_mut.result.now c.gather_delays.new.self c.index_mut.ensures.value c.gather_delays.ensures in
    ap (λ (tables : List Table). router_seen g.F.Family.bytes_of c.self.inside.ports.now c.self.inside.routes.now c.self.inside.machines tables c.self.inside.next_refresh) same ∙ c.self.view_is
