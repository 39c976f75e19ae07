use Rattle.pim_router.proofs.Words.{◌≡◌, ◌∙◌, ◌+◌, ◌*◌, length, map, ap, arith, expired_at}
use Rattle.pim_router.proofs.RunTo.{kept_all}
use Rattle.pim_router.proofs.ToFiring.{fires_ran, fires_sound, setup_stays}
use Rattle.pim_router.proofs.router.Router.fire_machines.Goals as goal

pub invariant_of-self : goal.invariant_of-self
invariant_of-self g c =
    let tables = c.self.inside.neighbours.items in
    let sized : length tables ≡ c.self.inside.neighbours.len = omega (arith, c.self.inside.neighbours.ok.0) in
    let left = kept_all (expired_at c.now-halted.result) tables c.expire_all.new.tables c.deref_mut.result.now c.self.inside.neighbours.len c.deref_mut.ensures.value c.expire_all.ensures sized ∙ ap (λ n. map (expired_at n) tables) c.now-halted.ensures in
    fires_sound c.expiring_twice_is_expiring_once.ensures c.firing_says_more.ensures g.F.Family.bytes_of c.self.inside.ports.now c.self.inside.routes.now c.self.inside.machines tables c.self.inside.next_refresh c.self.invariant
    c.args.moment c.fire_to-fired.new.self c.args.self.now c.self.view_is _ left c.fire_to-fired.result c.now-halted.result c.first_unpassed.result c.refreshes_before-passed.result c.now-halted.ensures c.first_unpassed.ensures
    c.refreshes_before-passed.ensures.all c.refreshes_before-passed.ensures.no_more c.fire_to-fired.ensures.ports c.fire_to-fired.ensures.later

pub returns-clause-fires : goal.returns-clause-fires
returns-clause-fires g c =
    let tables = c.self.inside.neighbours.items in
    let sized : length tables ≡ c.self.inside.neighbours.len = omega (arith, c.self.inside.neighbours.ok.0) in
    let left = kept_all (expired_at c.now-halted.result) tables c.expire_all.new.tables c.deref_mut.result.now c.self.inside.neighbours.len c.deref_mut.ensures.value c.expire_all.ensures sized ∙ ap (λ n. map (expired_at n) tables) c.now-halted.ensures in
    fires_ran c.expiring_twice_is_expiring_once.ensures c.firing_says_more.ensures g.F.Family.bytes_of c.self.inside.ports.now c.self.inside.routes.now c.self.inside.machines tables c.self.inside.next_refresh c.self.invariant
    c.args.moment c.fire_to-fired.new.self c.args.self.now c.self.view_is _ left c.fire_to-fired.result c.now-halted.result c.first_unpassed.result c.refreshes_before-passed.result c.now-halted.ensures c.first_unpassed.ensures
    c.refreshes_before-passed.ensures.all c.refreshes_before-passed.ensures.no_more c.fire_to-fired.ensures.fires

pub returns-clause-setup : goal.returns-clause-setup
returns-clause-setup g c =
    let tables = c.self.inside.neighbours.items in
    let sized : length tables ≡ c.self.inside.neighbours.len = omega (arith, c.self.inside.neighbours.ok.0) in
    let left = kept_all (expired_at c.now-halted.result) tables c.expire_all.new.tables c.deref_mut.result.now c.self.inside.neighbours.len c.deref_mut.ensures.value c.expire_all.ensures sized ∙ ap (λ n. map (expired_at n) tables) c.now-halted.ensures in
    setup_stays c.expiring_twice_is_expiring_once.ensures c.firing_says_more.ensures g.F.Family.bytes_of c.self.inside.ports.now c.self.inside.routes.now c.self.inside.machines tables c.self.inside.next_refresh c.self.invariant
    c.args.moment c.fire_to-fired.new.self c.args.self.now c.self.view_is _ left (c.self.inside.next_refresh + c.refreshes_before-passed.result * 60000) c.fire_to-fired.ensures.limit
