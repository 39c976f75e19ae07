use Rattle.pim_mirror.proofs.Words.{ℕ, ◌∷◌, [], ◌++◌, Ok, Err, subst, flat_map, err_from_is_err_and, runs_to}
use Rattle.pim_mirror.proofs.Words.{fresh_seen, Passes, delivery_inputs}
use Rattle.pim_mirror.proofs.Heard.{mirror_ends, mirror_stops}
use Rattle.pim_mirror.proofs.mirroring.go_through.Goals as goal

pub returns-in_err-hear_deliveries : goal.returns-in_err-hear_deliveries
returns-in_err-hear_deliveries g c =
    let reported = err_from_is_err_and c.from_residual.result c.from_residual.ensures.1 in
    let fresh = fresh_seen g.F.Family.bytes_of c.args.fresh.now in
    rw (reported.1, reported.2) (mirror_stops c.course_goes_on.ensures c.every_list_has_a_course.ensures g.F.Family.family c.args.messages.now fresh
    c.in-Ok.router c.hear_deliveries.new.router c.in_err-hear_deliveries.field-0.0 c.in-Ok.ensures.passes
    (subst (λ (k : ℕ). Passes g.F.Family.family (flat_map (delivery_inputs g.F.Family.family c.args.messages.now fresh.sender) fresh.deliveries ++ runs_to k ∷ [])
    c.in-Ok.router (Err c.in_err-hear_deliveries.field-0.0) c.hear_deliveries.new.router) c.end_of.ensures.end c.in_err-hear_deliveries.ensures.passes))

pub returns : goal.returns
returns g c =
    let fresh = fresh_seen g.F.Family.bytes_of c.args.fresh.now in
    mirror_ends c.course_goes_on.ensures c.every_list_has_a_course.ensures g.F.Family.family c.args.messages.now fresh
    c.in-Ok.router c.hear_deliveries.new.router c.in-Ok.ensures.passes
    (subst (λ (k : ℕ). Passes g.F.Family.family (flat_map (delivery_inputs g.F.Family.family c.args.messages.now fresh.sender) fresh.deliveries ++ runs_to k ∷ [])
    c.in-Ok.router (Ok tt) c.hear_deliveries.new.router) c.end_of.ensures.end c.in_ok-hear_deliveries.ensures.passes)
