use Rattle.pim_router.proofs.Words.{◌≡◌, ◌+◌, ◌∙◌, length, map, min, ap, refl, arith, expired_at}
use Rattle.pim_router.proofs.RunTo.{echo_told, reached_told, refresh_told, sound_again, kept_all}
use Rattle.pim_router.proofs.router.Router.run_until.Goals as goal

pub invariant_of-self : goal.invariant_of-self
invariant_of-self g c =
    let tables = c.self.inside.neighbours.items in
    let after = c.run_to-step.new.self in
    let sized : length tables ≡ c.self.inside.neighbours.len = omega (arith, c.self.inside.neighbours.ok.0) in
    let left = kept_all (expired_at c.now.result) tables c.expire_all.new.tables c.deref_mut.result.now c.self.inside.neighbours.len c.deref_mut.ensures.value c.expire_all.ensures sized ∙ ap (λ n. map (expired_at n) tables) c.now.ensures in
    let bound = c.self.invariant.0 in
    let soon = c.self.invariant.1.refresh in
    let on = c.run_to-step.ensures.later in
    let within = c.run_to-step.ensures.moment in
    let first : c.min.result ≡ min c.args.moment c.self.inside.next_refresh = c.min.ensures in
    sound_again c.expiring_twice_is_expiring_once.ensures g.F.Family.bytes_of c.self.inside.ports.now c.self.inside.routes.now c.self.inside.machines tables c.self.inside.next_refresh c.self.invariant
    c.args.moment c.min.result c.min.ensures after c.args.self.now c.self.view_is _ left c.run_to-step.ensures.ports on c.self.inside.next_refresh
    (omega (arith, bound, within, first)) (omega (arith, bound, within, first, on, soon))

pub returns-in-Echo-clause-run : goal.returns-in-Echo-clause-run
returns-in-Echo-clause-run g c =
    let tables = c.self.inside.neighbours.items in
    let after = c.run_to-step.new.self in
    let sized : length tables ≡ c.self.inside.neighbours.len = omega (arith, c.self.inside.neighbours.ok.0) in
    let left = kept_all (expired_at c.now.result) tables c.expire_all.new.tables c.deref_mut.result.now c.self.inside.neighbours.len c.deref_mut.ensures.value c.expire_all.ensures sized ∙ ap (λ n. map (expired_at n) tables) c.now.ensures in
    echo_told c.expiring_twice_is_expiring_once.ensures g.F.Family.bytes_of c.self.inside.ports.now c.self.inside.routes.now c.self.inside.machines tables c.self.inside.next_refresh c.self.invariant
    c.args.moment c.min.result c.min.ensures after c.args.self.now c.self.view_is _ left _ _ _ (c.in-Echo.ensures {u = tt}).run

pub invariant_of-self-then-now-self : goal.invariant_of-self-then-now-self
invariant_of-self-then-now-self g c =
    let tables = c.self.inside.neighbours.items in
    let after = c.run_to-step.new.self in
    let sized : length tables ≡ c.self.inside.neighbours.len = omega (arith, c.self.inside.neighbours.ok.0) in
    let left = kept_all (expired_at c.now.result) tables c.expire_all.new.tables c.deref_mut.result.now c.self.inside.neighbours.len c.deref_mut.ensures.value c.expire_all.ensures sized ∙ ap (λ n. map (expired_at n) tables) c.now.ensures in
    let bound = c.self.invariant.0 in
    let soon = c.self.invariant.1.refresh in
    let on = c.run_to-step.ensures.later in
    let within = c.run_to-step.ensures.moment in
    let first : c.min.result ≡ min c.args.moment c.self.inside.next_refresh = c.min.ensures in
    sound_again c.expiring_twice_is_expiring_once.ensures g.F.Family.bytes_of c.self.inside.ports.now c.self.inside.routes.now c.self.inside.machines tables c.self.inside.next_refresh c.self.invariant
    c.args.moment c.min.result c.min.ensures after c.args.self.now c.self.view_is _ left c.run_to-step.ensures.ports on c.self.inside.next_refresh
    (omega (arith, bound, within, first)) (omega (arith, bound, within, first, on, soon))

pub returns-then-now-self-clause-run : goal.returns-then-now-self-clause-run
returns-then-now-self-clause-run g c =
    let tables = c.self.inside.neighbours.items in
    let after = c.run_to-step.new.self in
    let sized : length tables ≡ c.self.inside.neighbours.len = omega (arith, c.self.inside.neighbours.ok.0) in
    let left = kept_all (expired_at c.now.result) tables c.expire_all.new.tables c.deref_mut.result.now c.self.inside.neighbours.len c.deref_mut.ensures.value c.expire_all.ensures sized ∙ ap (λ n. map (expired_at n) tables) c.now.ensures in
    reached_told c.expiring_twice_is_expiring_once.ensures g.F.Family.bytes_of c.self.inside.ports.now c.self.inside.routes.now c.self.inside.machines tables c.self.inside.next_refresh c.self.invariant
    c.args.moment c.min.result c.min.ensures after c.args.self.now c.self.view_is _ left (c.in-Reached.ensures {u = tt}).run
    (omega (arith, c.now-2.ensures, c.if-now-self.true)) ((c.in-Reached.ensures {u = tt}).reached refl)

pub overflow_add-self : goal.overflow_add-self
overflow_add-self g c = let small = c.is_sound.ensures.moment in omega (arith, small, c.now-2.ensures, c.if-now-self.false)

pub invariant_of-self-2 : goal.invariant_of-self-2
invariant_of-self-2 g c =
    let tables = c.self.inside.neighbours.items in
    let after = c.run_to-step.new.self in
    let sized : length tables ≡ c.self.inside.neighbours.len = omega (arith, c.self.inside.neighbours.ok.0) in
    let left = kept_all (expired_at c.now.result) tables c.expire_all.new.tables c.deref_mut.result.now c.self.inside.neighbours.len c.deref_mut.ensures.value c.expire_all.ensures sized ∙ ap (λ n. map (expired_at n) tables) c.now.ensures in
    let bound = c.self.invariant.0 in
    let soon = c.self.invariant.1.refresh in
    let on = c.run_to-step.ensures.later in
    let within = c.run_to-step.ensures.moment in
    let first : c.min.result ≡ min c.args.moment c.self.inside.next_refresh = c.min.ensures in
    sound_again c.expiring_twice_is_expiring_once.ensures g.F.Family.bytes_of c.self.inside.ports.now c.self.inside.routes.now c.self.inside.machines tables c.self.inside.next_refresh c.self.invariant
    c.args.moment c.min.result c.min.ensures after c.args.self.now c.self.view_is _ left c.run_to-step.ensures.ports on (c.self.inside.next_refresh + 60000)
    (omega (arith, bound, within, first, c.now-2.ensures, c.if-now-self.false)) (omega (arith, bound, within, first, on, soon, c.now-2.ensures, c.if-now-self.false))

pub returns-clause-run : goal.returns-clause-run
returns-clause-run g c =
    let tables = c.self.inside.neighbours.items in
    let after = c.run_to-step.new.self in
    let sized : length tables ≡ c.self.inside.neighbours.len = omega (arith, c.self.inside.neighbours.ok.0) in
    let left = kept_all (expired_at c.now.result) tables c.expire_all.new.tables c.deref_mut.result.now c.self.inside.neighbours.len c.deref_mut.ensures.value c.expire_all.ensures sized ∙ ap (λ n. map (expired_at n) tables) c.now.ensures in
    refresh_told c.expiring_twice_is_expiring_once.ensures g.F.Family.bytes_of c.self.inside.ports.now c.self.inside.routes.now c.self.inside.machines tables c.self.inside.next_refresh c.self.invariant
    c.args.moment c.min.result c.min.ensures after c.args.self.now c.self.view_is _ left (c.in-Reached.ensures {u = tt}).run
    (omega (arith, c.now-2.ensures, c.if-now-self.false)) c.run_to-step.ensures.moment
