use Rattle.pim_report.proofs.Words.{List, refl, sym, subst, ◌∙◌, flat_map, GroupForm, group_text}
use Rattle.pim_report.proofs.Written.{IsLeft, left_all, first_written, first_stopped, none_left, stopped}
use Rattle.pim_report.proofs.demand_text.write_demand.Goals as goal

pub loop-group-init : goal.loop-group-init
loop-group-init g c =
    let old = g.W.Drain.contents c.args.writer.now in
    let text = group_text g.F.Family.family c.args.shows_via c.args.routes.now in (
      subst (λ (left : List GroupForm). IsLeft old old (flat_map text left) (flat_map text c.args.form.now))
          (sym c.groups-group-items.ensures ∙ sym c.into_iter-group-iterator.ensures.into_iter_gives) (left_all old _),
      refl,
    )

pub returns-in_err-write_group-clause-bytes : goal.returns-in_err-write_group-clause-bytes
returns-in_err-write_group-clause-bytes g c =
    stopped _ _ c.from_residual.result _ c.from_residual.ensures.0
    (first_stopped (group_text g.F.Family.family c.args.shows_via c.args.routes.now) _ _ _ _ _ _ _ c.in-Some.ensures.steps c.loop-group.invariant.0 c.in_err-write_group.ensures.bytes)

pub loop-group-preserved : goal.loop-group-preserved
loop-group-preserved g c = (
  first_written (group_text g.F.Family.family c.args.shows_via c.args.routes.now) _ _ _ _ _ _ _ c.in-Some.ensures.steps c.loop-group.invariant.0 c.in_ok-write_group.ensures.bytes,
  c.in_ok-write_group.ensures.count ∙ c.loop-group.invariant.1,
)

pub returns-clause-bytes : goal.returns-clause-bytes
returns-clause-bytes g c = none_left (group_text g.F.Family.family c.args.shows_via c.args.routes.now) _ _ _ _ c.in-None.ensures.steps.0 c.loop-group.invariant.0
