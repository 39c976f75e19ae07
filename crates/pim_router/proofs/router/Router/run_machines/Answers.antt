use Rattle.pim_router.proofs.Words.{◌≡◌, ◌∙◌, length, map, ap, arith, expired_at}
use Rattle.pim_router.proofs.RunTo.{kept_all}
use Rattle.pim_router.proofs.PastRefreshes.{past_ran, past_sound}
use Rattle.pim_router.proofs.router.Router.run_machines.Goals as goal

pub invariant_of-self : goal.invariant_of-self
invariant_of-self g c =
    let tables = c.self.inside.neighbours.items in
    let sized : length tables ≡ c.self.inside.neighbours.len = omega (arith, c.self.inside.neighbours.ok.0) in
    let left = kept_all (expired_at c.now-stopped.result) tables c.expire_all.new.tables c.deref_mut.result.now c.self.inside.neighbours.len c.deref_mut.ensures.value c.expire_all.ensures sized ∙ ap (λ n. map (expired_at n) tables) c.now-stopped.ensures in
    past_sound c.expiring_twice_is_expiring_once.ensures g.F.Family.bytes_of c.self.inside.ports.now c.self.inside.routes.now c.self.inside.machines tables c.self.inside.next_refresh c.self.invariant
    c.args.moment c.run_to-step.new.self c.args.self.now c.self.view_is _ left c.run_to-step.result c.now-stopped.result c.first_unreported.result c.refreshes_before-refreshes.result c.now-stopped.ensures c.first_unreported.ensures
    c.refreshes_before-refreshes.ensures.all c.refreshes_before-refreshes.ensures.no_more c.run_to-step.ensures.ports c.run_to-step.ensures.later

pub returns-clause-run : goal.returns-clause-run
returns-clause-run g c =
    let tables = c.self.inside.neighbours.items in
    let sized : length tables ≡ c.self.inside.neighbours.len = omega (arith, c.self.inside.neighbours.ok.0) in
    let left = kept_all (expired_at c.now-stopped.result) tables c.expire_all.new.tables c.deref_mut.result.now c.self.inside.neighbours.len c.deref_mut.ensures.value c.expire_all.ensures sized ∙ ap (λ n. map (expired_at n) tables) c.now-stopped.ensures in
    past_ran c.expiring_twice_is_expiring_once.ensures g.F.Family.bytes_of c.self.inside.ports.now c.self.inside.routes.now c.self.inside.machines tables c.self.inside.next_refresh c.self.invariant
    c.args.moment c.run_to-step.new.self c.args.self.now c.self.view_is _ left c.run_to-step.result c.now-stopped.result c.first_unreported.result c.refreshes_before-refreshes.result c.now-stopped.ensures c.first_unreported.ensures
    c.refreshes_before-refreshes.ensures.all c.refreshes_before-refreshes.ensures.no_more c.run_to-step.ensures.run
