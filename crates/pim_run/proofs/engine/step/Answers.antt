use Rattle.pim_run.proofs.Underway.{ended, failed, stepped, turn_stopped}
use Rattle.pim_run.proofs.engine.step.Goals as goal

pub returns-in-Err-clause-taken : goal.returns-in-Err-clause-taken
returns-in-Err-clause-taken g c start first state old w =
    failed (g.H.Hooks.takes c.args.hooks.now) (g.H.Hooks.begins c.args.hooks.now) c.args.end start first state old c.args.merge.now c.args.kept.now c.args.router.now (g.H.Hooks.contents c.args.device.now) w
    c.advance.new.self c.in-Err.fault (c.in-Err.ensures.run start w.taken w.run) c.stopped_by.result c.stopped_by.ensures

pub returns-in_default-clause-taken : goal.returns-in_default-clause-taken
returns-in_default-clause-taken g c start first state old w =
    ended (g.H.Hooks.takes c.args.hooks.now) (g.H.Hooks.begins c.args.hooks.now) c.args.end start first state old c.args.merge.now c.args.kept.now c.args.router.now (g.H.Hooks.contents c.args.device.now) w
    c.in-Ok.next c.advance.new.self c.in_default.is (c.in-Ok.ensures.run start w.taken w.run)

pub returns-in-Ok-take-clause-taken : goal.returns-in-Ok-take-clause-taken
returns-in-Ok-take-clause-taken g c start first state old w =
    stepped (g.H.Hooks.takes c.args.hooks.now) (g.H.Hooks.begins c.args.hooks.now) c.args.end start first state old c.args.merge.now c.args.kept.now c.args.router.now (g.H.Hooks.contents c.args.device.now) w
    c.advance.new.self c.in-Ok.next c.in-Some.turn c.bytes-bytes.result.now c.in-Some.is c.bytes-bytes.ensures.bytes (c.in-Ok.ensures.run start w.taken w.run)
    c.take.new.kept c.take.new.router (g.H.Hooks.contents c.take.new.device) c.in-Ok-take.ensures.taken

pub returns-in-Err-take-clause-taken : goal.returns-in-Err-take-clause-taken
returns-in-Err-take-clause-taken g c start first state old w =
    turn_stopped (g.H.Hooks.takes c.args.hooks.now) (g.H.Hooks.begins c.args.hooks.now) c.args.end start first state old c.args.merge.now c.args.kept.now c.args.router.now (g.H.Hooks.contents c.args.device.now) w
    c.advance.new.self c.in-Ok.next c.in-Some.turn c.bytes-bytes.result.now c.in-Some.is c.bytes-bytes.ensures.bytes (c.in-Ok.ensures.run start w.taken w.run)
    c.in-Err-take.fault c.of_turn.result c.take.new.kept c.take.new.router (g.H.Hooks.contents c.take.new.device) c.of_turn.ensures c.in-Err-take.ensures.taken

pub returns-in-Err-clause-tallied : goal.returns-in-Err-clause-tallied
returns-in-Err-clause-tallied g c start taken has = c.advance.ensures.tallied start taken has

pub returns-in_default-clause-tallied : goal.returns-in_default-clause-tallied
returns-in_default-clause-tallied g c start taken has = c.advance.ensures.tallied start taken has

pub returns-in-Ok-take-clause-tallied : goal.returns-in-Ok-take-clause-tallied
returns-in-Ok-take-clause-tallied g c start taken has = c.advance.ensures.tallied start taken has

pub returns-in-Err-take-clause-tallied : goal.returns-in-Err-take-clause-tallied
returns-in-Err-take-clause-tallied g c start taken has = c.advance.ensures.tallied start taken has
