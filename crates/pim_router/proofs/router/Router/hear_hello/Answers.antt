use Rattle.pim_router.proofs.Words.{◌<◌, sym, subst, length, arith, Parameters, RouterState, IsRouter, router_seen}
use Rattle.pim_hello.specs.Seen.{hello_seen}
use Rattle.pim_router.proofs.HeardHello.{hello_ends, hello_told, hello_wants, hello_wants_told, stays_router}
use Rattle.pim_router.proofs.router.Router.hear_hello.Goals as goal

pub invariant_of-self : goal.invariant_of-self
invariant_of-self g c =
    let seen : RouterState = router_seen g.F.Family.bytes_of c.self.inside.ports.now c.self.inside.routes.now c.self.inside.machines c.self.inside.neighbours.items c.self.inside.next_refresh in
    let said : Parameters = (hello_seen g.F.Family.family c.args.hello.now).parameters in
    let sound : IsRouter seen = c.self.invariant.1 in
    let here : c.args.port < length seen.ports = subst (λ (s : RouterState). c.args.port < length s.ports) (sym c.self.view_is) c.requires in
    let within : c.args.port < length seen.tables = omega (arith, here, sound.ports, sound.tables) in (
      c.self.invariant.0,
      stays_router seen c.args.port (g.F.Family.bytes_of c.args.src) said sound c.index_mut-table.result.now within c.index_mut-table.ensures.value c.now-now.result c.now-now.ensures c.hear-heard.result c.hear-heard.new.self c.hear-heard.ensures c.is_sound-2.ensures.limit,
    )

pub returns-clause-reported : goal.returns-clause-reported
returns-clause-reported g c =
    let seen : RouterState = router_seen g.F.Family.bytes_of c.self.inside.ports.now c.self.inside.routes.now c.self.inside.machines c.self.inside.neighbours.items c.self.inside.next_refresh in
    let said : Parameters = (hello_seen g.F.Family.family c.args.hello.now).parameters in
    let sound : IsRouter seen = c.self.invariant.1 in
    let here : c.args.port < length seen.ports = subst (λ (s : RouterState). c.args.port < length s.ports) (sym c.self.view_is) c.requires in
    let within : c.args.port < length seen.tables = omega (arith, here, sound.ports, sound.tables) in
    hello_told seen c.args.port (g.F.Family.bytes_of c.args.src) said c.args.self.now c.self.view_is c.hello_verdict.result c.hear-heard.result c.hello_verdict.ensures _
    (hello_ends seen c.args.port (g.F.Family.bytes_of c.args.src) said sound c.index_mut-table.result.now within c.index_mut-table.ensures.value c.now-now.result c.now-now.ensures c.hear-heard.result c.hear-heard.new.self c.hear-heard.ensures)

pub returns-clause-memory : goal.returns-clause-memory
returns-clause-memory g c =
    let seen : RouterState = router_seen g.F.Family.bytes_of c.self.inside.ports.now c.self.inside.routes.now c.self.inside.machines c.self.inside.neighbours.items c.self.inside.next_refresh in
    let said : Parameters = (hello_seen g.F.Family.family c.args.hello.now).parameters in
    let sound : IsRouter seen = c.self.invariant.1 in
    let here : c.args.port < length seen.ports = subst (λ (s : RouterState). c.args.port < length s.ports) (sym c.self.view_is) c.requires in
    let within : c.args.port < length seen.tables = omega (arith, here, sound.ports, sound.tables) in
    hello_wants_told seen c.args.port (g.F.Family.bytes_of c.args.src) said c.args.self.now c.self.view_is c.hello_verdict.result c.hear-heard.result c.hello_verdict.ensures
    (hello_wants seen c.args.port (g.F.Family.bytes_of c.args.src) said sound c.index_mut-table.result.now within c.index_mut-table.ensures.value c.now-now.result c.now-now.ensures c.hear-heard.result c.hear-heard.new.self c.hear-heard.ensures)
