use Rattle.pim_router.proofs.Words.{◌≡◌, ◌∙◌, ◌<◌, sym, subst, length, get_or, arith, get_or_read, no_neighbours}
use Rattle.pim_router.proofs.Words.{neighbours_on, RouterState, IsCurrent, IsRouter, router_seen}
use Rattle.pim_router.proofs.Current.{all_at, all_there}
use Rattle.pim_router.proofs.router.Router.table.Goals as goal

pub returns : goal.returns
returns g c =
    let tables = c.self.inside.neighbours.items in
    let seen : RouterState = router_seen g.F.Family.bytes_of c.self.inside.ports.now c.self.inside.routes.now c.self.inside.machines tables c.self.inside.next_refresh in
    let sound : IsRouter seen = c.self.invariant.1 in
    let here : c.args.port < length seen.ports = subst (λ (s : RouterState). c.args.port < length s.ports) (sym c.self.view_is) c.requires in
    let within : c.args.port < length tables = omega (arith, here, sound.ports, sound.tables) in
    let is_row = get_or_read tables c.args.port c.index.result.now within c.index.ensures no_neighbours in
    let current = all_at (IsCurrent seen.machines.moment) tables c.args.port no_neighbours sound.current within in
    subst (λ (s : RouterState). c.index.result.now ≡ neighbours_on c.args.port s) c.self.view_is
    (is_row ∙ sym (all_there (get_or tables c.args.port no_neighbours) current.none_ended))
