use Rattle.pim_trace.proofs.Words.{List, refl, sym, subst, ◌∙◌}
use Rattle.pim_form.specs.NormalForm.{GroupForm}
use Rattle.pim_trace.proofs.Writing.{IsWriting, start_writing, stopped}
use Rattle.pim_trace.proofs.StateTexts.{group_piece, groups_text, group_cons, item_written, item_begun, none_left}
use Rattle.pim_trace.proofs.state_events.write_demand.Goals as goal

pub loop-group-init : goal.loop-group-init
loop-group-init g c =
    let old = g.T.EventWriter.contents c.args.device.now in
    let text = groups_text (g.T.EventWriter.line c.args.event_writer.now) c.args.at.now.ms c.args.at.now.epoch
    g.F.Family.family c.args.routes.now in (
      subst (λ (left : List GroupForm). IsWriting old old (text left) (text c.args.form.now))
          (sym c.groups-group-items.ensures ∙ sym c.into_iter-group-iterator.ensures.into_iter_gives) (start_writing old _),
      refl,
    )

pub returns-in_err-write_group-clause-bytes : goal.returns-in_err-write_group-clause-bytes
returns-in_err-write_group-clause-bytes g c =
    let line = g.T.EventWriter.line c.args.event_writer.now in
    let at = c.args.at.now in
    let family = g.F.Family.family in
    let routes = c.args.routes.now in
    stopped _ _ c.from_residual.result _ c.from_residual.ensures.0
    (item_begun (group_piece line at.ms at.epoch family routes) (groups_text line at.ms at.epoch family routes)
    (group_cons line at.ms at.epoch family routes)
    _ _ _ _ c.loop-group.invariant.0 _ _ _ c.in-Some.ensures.steps c.in_err-write_group.ensures.bytes)

pub loop-group-preserved : goal.loop-group-preserved
loop-group-preserved g c =
    let line = g.T.EventWriter.line c.args.event_writer.now in
    let at = c.args.at.now in
    let family = g.F.Family.family in
    let routes = c.args.routes.now in (
      item_written (group_piece line at.ms at.epoch family routes) (groups_text line at.ms at.epoch family routes)
          (group_cons line at.ms at.epoch family routes)
          _ _ _ _ c.loop-group.invariant.0 _ _ _ c.in-Some.ensures.steps c.in_ok-write_group.ensures.bytes,
      c.in_ok-write_group.ensures.count ∙ c.loop-group.invariant.1,
    )

pub returns-clause-bytes : goal.returns-clause-bytes
returns-clause-bytes g c =
    let line = g.T.EventWriter.line c.args.event_writer.now in
    let at = c.args.at.now in
    let family = g.F.Family.family in
    let routes = c.args.routes.now in
    none_left (group_piece line at.ms at.epoch family routes) (groups_text line at.ms at.epoch family routes)
    (group_cons line at.ms at.epoch family routes)
    _ _ _ _ c.loop-group.invariant.0 refl c.in-None.ensures.steps.0
