use Rattle.pim_trace.proofs.Words.{List, ℕ, option_map, map, refl, subst, AppendsAll}
use Rattle.std.proofs.Common.{rules}
use Rattle.pim_form.specs.Rows.{exceptions_of}
use Rattle.pim_events.specs.declared.event.WantedEntry.{WantedEntry}
use Rattle.pim_events.specs.declared.event.WantedWhat.TheVariants.{Star, Except}
use Rattle.pim_trace.specs.StateEvents.{wanted_event, wanted_of}
use Rattle.pim_trace.specs.WrittenEvents.{wanted_text}
use Rattle.pim_trace.proofs.Written.{front-longer}
use Rattle.pim_trace.proofs.Writing.{all-more, stopped}
use Rattle.pim_trace.proofs.StateTexts.{star_is}
use Rattle.pim_trace.proofs.state_events.write_star.Goals as goal

pub returns-in_err-write_entry-clause-bytes : goal.returns-in_err-write_entry-clause-bytes
returns-in_err-write_entry-clause-bytes g c =
    let bytes_of = g.F.Family.bytes_of in
    let line = g.T.EventWriter.line c.args.event_writer.now in
    let at = c.args.at.now in
    let via = option_map bytes_of c.rpf_neighbour-via.result in
    let group = bytes_of c.group-group.result in
    let exceptions = exceptions_of c.args.this.now.star in
    let rest : List (WantedEntry (List ℕ)) = map (λ source. wanted_of group via (Except source)) exceptions in
    subst (λ (entries : List (WantedEntry (List ℕ))). AppendsAll (g.T.EventWriter.contents c.args.device.now)
    (g.T.EventWriter.contents c.write_entry.new.device) c.from_residual.result (wanted_text line at.ms at.epoch entries))
    (star_is line at.ms at.epoch g.F.Family.family c.args.routes.now c.args.this.now.group group via exceptions
    c.args.this.now.star (search rules) c.group-group.ensures c.rpf_neighbour-via.ensures refl)
    (stopped _ _ c.from_residual.result _ c.from_residual.ensures.0
    (front-longer _ _ (line (wanted_event at.ms at.epoch (wanted_of group via Star))) (wanted_text line at.ms at.epoch rest)
    c.in_err-write_entry.ensures.bytes))

pub returns-clause-bytes : goal.returns-clause-bytes
returns-clause-bytes g c =
    let bytes_of = g.F.Family.bytes_of in
    let line = g.T.EventWriter.line c.args.event_writer.now in
    let at = c.args.at.now in
    let via = option_map bytes_of c.rpf_neighbour-via.result in
    let group = bytes_of c.group-group.result in
    let exceptions = map bytes_of c.exceptions.result.now in
    let rest : List (WantedEntry (List ℕ)) = map (λ source. wanted_of group via (Except source)) exceptions in
    subst (λ (entries : List (WantedEntry (List ℕ))). AppendsAll (g.T.EventWriter.contents c.args.device.now)
    (g.T.EventWriter.contents c.write_exceptions.new.device) c.write_exceptions.result
    (wanted_text line at.ms at.epoch entries))
    (star_is line at.ms at.epoch g.F.Family.family c.args.routes.now c.args.this.now.group group via exceptions
    c.args.this.now.star (search rules) c.group-group.ensures c.rpf_neighbour-via.ensures c.exceptions.ensures)
    (all-more c.write_exceptions.result _ (g.T.EventWriter.contents c.write_entry.new.device) _
    (line (wanted_event at.ms at.epoch (wanted_of group via Star))) (wanted_text line at.ms at.epoch rest)
    c.in_ok-write_entry.ensures.bytes c.write_exceptions.ensures.bytes)
