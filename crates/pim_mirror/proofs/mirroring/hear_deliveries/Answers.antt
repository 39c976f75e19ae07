use Rattle.pim_mirror.proofs.Words.{map, ◌∷◌, ◌++◌, [], Ok, flat_map, runs_to, delivery_seen, delivery_inputs}
use Rattle.pim_mirror.proofs.Ways.{reached_passes, then_passes, then_stops, refused_anywhere}
use Rattle.pim_mirror.proofs.mirroring.hear_deliveries.Goals as goal

pub returns-in-Err-clause-passes : goal.returns-in-Err-clause-passes
returns-in-Err-clause-passes g c =
    let inputs = flat_map (delivery_inputs g.F.Family.family c.args.messages.now (g.F.Family.bytes_of c.args.sender)) (map delivery_seen c.args.deliveries.now) in
    refused_anywhere g.F.Family.family (inputs ++ runs_to c.args.moment ∷ []) c.args.router.now c.hear.new.router _ c.in-Err.fault
    (then_stops c.course_goes_on.ensures c.every_list_has_a_course.ensures g.F.Family.family inputs (runs_to c.args.moment ∷ [])
    c.args.router.now c.hear.new.router c.in-Err.fault c.in-Err.ensures.passes)

pub returns-clause-passes : goal.returns-clause-passes
returns-clause-passes g c =
    then_passes c.course_goes_on.ensures c.every_list_has_a_course.ensures g.F.Family.family
    (flat_map (delivery_inputs g.F.Family.family c.args.messages.now (g.F.Family.bytes_of c.args.sender)) (map delivery_seen c.args.deliveries.now)) (runs_to c.args.moment ∷ [])
    c.args.router.now c.hear.new.router c.reach.new.router (Ok tt) c.in-Ok.ensures.passes
    (reached_passes g.F.Family.family c.args.moment c.hear.new.router c.reach.new.router c.reach.ensures.reaches)
