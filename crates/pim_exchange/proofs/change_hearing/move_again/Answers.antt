use Rattle.pim_exchange.proofs.Words.{◌∙◌, Ok, Err, subst, err_from_is_err_and, IsSound}
use Rattle.pim_exchange.proofs.Moves.{change_short, from_own, is_early, one_port, fits_then, moved_again, not_moved}
use Rattle.pim_exchange.proofs.change_hearing.move_again.Goals as goal

pub hear_change-requires-clause-port : goal.hear_change-requires-clause-port
hear_change-requires-clause-port g c =
    let reported = c.requires.reported.1 in
    c.is_router.ensures.ports ∙ one_port (record { moves = c.change_moves_a_router.ensures; long = c.long_timers_last.ensures; mirrors = c.mirror_is_settled.ensures; same = c.same_messages_same_demand_toward.ensures; tests = c.test_finds_the_neighbour.ensures }) g.F.Family.family c.args.routes.now c.args.by.now c.args.limit c.args.before.now c.args.change.now c.requires.reported.0
    c.is_sound.ensures c.is_writing.ensures reported c.in_ok-router.router (c.in_ok-router.ensures.wrote reported.was)

pub hear_change-requires-clause-short : goal.hear_change-requires-clause-short
hear_change-requires-clause-short g c =
    change_short c.change_messages_are_short.ensures c.demanded_stars_have_rps.ensures g.F.Family.family c.args.routes.now c.args.by.now c.args.before.now c.args.change.now c.requires.reported.0 c.is_sound.ensures c.is_writing.ensures c.requires.reported.1

pub hear_change-requires-clause-early : goal.hear_change-requires-clause-early
hear_change-requires-clause-early g c =
    let reported = c.requires.reported.1 in
    is_early (record { moves = c.change_moves_a_router.ensures; long = c.long_timers_last.ensures; mirrors = c.mirror_is_settled.ensures; same = c.same_messages_same_demand_toward.ensures; tests = c.test_finds_the_neighbour.ensures }) g.F.Family.family c.args.routes.now c.args.by.now c.args.limit c.args.before.now c.args.change.now c.requires.reported.0
    c.is_sound.ensures c.is_writing.ensures reported c.in_ok-router.router (c.in_ok-router.ensures.wrote reported.was)

pub demand_again-requires : goal.demand_again-requires
demand_again-requires g c =
    let reported = c.requires.reported.1 in
    fits_then (record { moves = c.change_moves_a_router.ensures; long = c.long_timers_last.ensures; mirrors = c.mirror_is_settled.ensures; same = c.same_messages_same_demand_toward.ensures; tests = c.test_finds_the_neighbour.ensures }) g.F.Family.family c.args.routes.now c.args.by.now c.args.limit c.args.before.now c.args.change.now c.requires.reported.0
    c.is_sound.ensures c.is_writing.ensures reported c.in_ok-router.router (c.in_ok-router.ensures.wrote reported.was) (subst (IsSound g.F.Family.family) c.ports.ensures c.is_sound-2.ensures) c.hear_change.new.router (from_own g.F.Family.family c.args.change.now (g.F.Family.bytes_of c.own-2.result) c.args.by.now.own c.in_ok-router.router.machines.moment c.in_ok-router.router c.hear_change.new.router (Ok tt) c.own-2.ensures c.in_ok-hear_change.ensures)

pub returns : goal.returns
returns g c = λ wanted reported.
    moved_again (record { moves = c.change_moves_a_router.ensures; long = c.long_timers_last.ensures; mirrors = c.mirror_is_settled.ensures; same = c.same_messages_same_demand_toward.ensures; tests = c.test_finds_the_neighbour.ensures }) g.F.Family.family c.args.routes.now c.args.by.now c.args.limit c.args.before.now c.args.change.now wanted
    c.is_sound.ensures c.is_writing.ensures reported c.in_ok-router.router (c.in_ok-router.ensures.wrote reported.was) (subst (IsSound g.F.Family.family) c.ports.ensures c.is_sound-2.ensures) c.hear_change.new.router (from_own g.F.Family.family c.args.change.now (g.F.Family.bytes_of c.own-2.result) c.args.by.now.own c.in_ok-router.router.machines.moment c.in_ok-router.router c.hear_change.new.router (Ok tt) c.own-2.ensures c.in_ok-hear_change.ensures) c.demand_again.result c.demand_again.ensures

pub returns-in_err-hear_change : goal.returns-in_err-hear_change
returns-in_err-hear_change g c = λ wanted reported.
    let p = err_from_is_err_and c.from_residual-in_err-hear_change.result c.from_residual-in_err-hear_change.ensures.1 in
    rw (p.1, p.2)
    (not_moved (record { moves = c.change_moves_a_router.ensures; long = c.long_timers_last.ensures; mirrors = c.mirror_is_settled.ensures; same = c.same_messages_same_demand_toward.ensures; tests = c.test_finds_the_neighbour.ensures }) g.F.Family.family c.args.routes.now c.args.by.now c.args.limit c.args.before.now c.args.change.now wanted
    c.is_sound.ensures c.is_writing.ensures reported c.in_ok-router.router (c.in_ok-router.ensures.wrote reported.was) c.in_err-hear_change.field-0.0 c.hear_change.new.router (from_own g.F.Family.family c.args.change.now (g.F.Family.bytes_of c.own-2.result) c.args.by.now.own c.in_ok-router.router.machines.moment c.in_ok-router.router c.hear_change.new.router (Err c.in_err-hear_change.field-0.0) c.own-2.ensures c.in_err-hear_change.ensures))
