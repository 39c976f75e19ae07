use Rattle.pim_mirror.proofs.Words.{◌∙◌, ◌+◌, List, Ok, drop, map, slice_index_or, sym, subst, flat_map}
use Rattle.pim_mirror.proofs.Words.{err_from_is_err_and, delivery_seen, Passes, delivery_inputs}
use Rattle.pim_mirror.specs.declared.config.Delivery as code
use Rattle.pim_mirror.proofs.Heard.{early_at, left_is, none_left, more_heard, stopped_there}
use Rattle.pim_mirror.proofs.Refused.{stops_here, stops_behind}
use Rattle.pim_mirror.proofs.Ways.{nothing_passes}
use Rattle.pim_mirror.proofs.mirroring.hear.Goals as goal

pub hear_one-requires-clause-early : goal.hear_one-requires-clause-early
hear_one-requires-clause-early g c = early_at c.args.deliveries.now c.loop-delivery.delivery-index _ c.requires.early c.loop-delivery-test.true

pub returns-in_err-hear_one-clause-passes : goal.returns-in_err-hear_one-clause-passes
returns-in_err-hear_one-clause-passes g c =
    let deliveries = c.args.deliveries.now in
    let i = c.loop-delivery.delivery-index in
    let reported = err_from_is_err_and c.from_residual.result c.from_residual.ensures.1 in
    c.loop-delivery.invariant.0 c.from_residual.result c.hear_one.new.router
    (rw (reported.1, reported.2) (stopped_there c.course_goes_on.ensures c.every_list_has_a_course.ensures g.F.Family.family c.args.messages.now
    (g.F.Family.bytes_of c.args.sender) (drop i deliveries) (drop (i + 1) deliveries) (slice_index_or deliveries i _) c.loop-delivery.router c.hear_one.new.router c.in_err-hear_one.field-0.0
    (left_is deliveries i _ c.loop-delivery-test.true) c.in_err-hear_one.ensures.passes))

pub returns-in_err-hear_one-clause-stops : goal.returns-in_err-hear_one-clause-stops
returns-in_err-hear_one-clause-stops g c =
    let deliveries = c.args.deliveries.now in
    let i = c.loop-delivery.delivery-index in
    let reported = err_from_is_err_and c.from_residual.result c.from_residual.ensures.1 in
    rw (reported.1, reported.2) (c.loop-delivery.invariant.2 c.in_err-hear_one.field-0.0 c.hear_one.new.router
    (stops_here c.course_goes_on.ensures c.every_list_has_a_course.ensures g.F.Family.family c.args.messages.now
    (g.F.Family.bytes_of c.args.sender) (drop i deliveries) (drop (i + 1) deliveries) (slice_index_or deliveries i _) c.loop-delivery.router c.hear_one.new.router c.in_err-hear_one.field-0.0
    (left_is deliveries i _ c.loop-delivery-test.true) c.in_err-hear_one.ensures.reaches c.in_err-hear_one.ensures.refused))

pub loop-delivery-preserved : goal.loop-delivery-preserved
loop-delivery-preserved g c =
    let deliveries = c.args.deliveries.now in
    let i = c.loop-delivery.delivery-index in (
      λ result after more. c.loop-delivery.invariant.0 result after
          (more_heard c.course_goes_on.ensures c.every_list_has_a_course.ensures g.F.Family.family c.args.messages.now
          (g.F.Family.bytes_of c.args.sender) (drop i deliveries) (drop (i + 1) deliveries) (slice_index_or deliveries i _) c.loop-delivery.router c.hear_one.new.router after result
          (left_is deliveries i _ c.loop-delivery-test.true) c.in_ok-hear_one.ensures.passes more),
      c.hear_one.ensures.ports ∙ c.loop-delivery.invariant.1,
      λ why after stops. c.loop-delivery.invariant.2 why after
          (stops_behind c.course_goes_on.ensures c.every_list_has_a_course.ensures g.F.Family.family c.args.messages.now
          (g.F.Family.bytes_of c.args.sender) (drop i deliveries) (drop (i + 1) deliveries) (slice_index_or deliveries i _) c.loop-delivery.router c.hear_one.new.router after why
          (left_is deliveries i _ c.loop-delivery-test.true) c.in_ok-hear_one.ensures.passes stops),
    )

pub returns-clause-passes : goal.returns-clause-passes
returns-clause-passes g c =
    c.loop-delivery.invariant.0 (Ok tt) c.loop-delivery.router
    (subst (λ (left : List code.Delivery). Passes g.F.Family.family (flat_map (delivery_inputs g.F.Family.family c.args.messages.now (g.F.Family.bytes_of c.args.sender))
    (map delivery_seen left)) c.loop-delivery.router (Ok tt) c.loop-delivery.router) (sym (none_left c.args.deliveries.now c.loop-delivery.delivery-index c.loop-delivery-test.false))
    (nothing_passes g.F.Family.family c.loop-delivery.router))
