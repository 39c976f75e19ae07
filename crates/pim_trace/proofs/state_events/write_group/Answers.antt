use Rattle.pim_trace.proofs.Words.{List, ℕ, map, refl, subst, AppendsAll}
use Rattle.pim_trace.specs.StateEvents.{star_entries, source_entry}
use Rattle.pim_trace.specs.WrittenEvents.{wanted_text}
use Rattle.pim_trace.proofs.Written.{front-longer}
use Rattle.pim_trace.proofs.Writing.{all-more, stopped}
use Rattle.pim_trace.proofs.StateTexts.{group_is}
use Rattle.pim_trace.proofs.state_events.write_group.Goals as goal

pub returns-in_err-write_star-clause-bytes : goal.returns-in_err-write_star-clause-bytes
returns-in_err-write_star-clause-bytes g c =
    let line = g.T.EventWriter.line c.args.event_writer.now in
    let at = c.args.at.now in
    let form = c.args.this.now in
    let family = g.F.Family.family in
    let routes = c.args.routes.now in
    subst (λ (text : List ℕ). AppendsAll (g.T.EventWriter.contents c.args.device.now)
    (g.T.EventWriter.contents c.write_star.new.device) c.from_residual.result text)
    (group_is line at.ms at.epoch family routes form form.group form.sources refl refl)
    (stopped _ _ c.from_residual.result _ c.from_residual.ensures.0
    (front-longer _ _ (wanted_text line at.ms at.epoch (star_entries family routes form.group form.star))
    (wanted_text line at.ms at.epoch (map (source_entry family routes form.group) form.sources))
    c.in_err-write_star.ensures.bytes))

pub returns-clause-bytes : goal.returns-clause-bytes
returns-clause-bytes g c =
    let bytes_of = g.F.Family.bytes_of in
    let line = g.T.EventWriter.line c.args.event_writer.now in
    subst (λ (text : List ℕ). AppendsAll (g.T.EventWriter.contents c.args.device.now)
    (g.T.EventWriter.contents c.write_sources.new.device) c.write_sources.result text)
    (group_is line c.args.at.now.ms c.args.at.now.epoch g.F.Family.family c.args.routes.now c.args.this.now
    (bytes_of c.group.result) (map bytes_of c.sources.result.now) c.group.ensures c.sources.ensures)
    (all-more c.write_sources.result _ _ _ _ _ c.in_ok-write_star.ensures.bytes c.write_sources.ensures.bytes)
