use Rattle.pim_event_lines.proofs.Cited.{rules, subst, AppendsAll, held_seen}
use Rattle.pim_event_lines.proofs.TextPieces.{record_pieces}
use Rattle.pim_event_lines.proofs.text_state.write_record.Goals as goal

pub returns-clause-bytes : goal.returns-clause-bytes
returns-clause-bytes g c =
    subst (λ t. AppendsAll (g.W.Drain.contents c.args.writer.now) (g.W.Drain.contents c.write_pieces.new.writer) c.write_pieces.result t)
    (record_pieces g.F.Family.family (held_seen g.F.Family.bytes_of c.args.held.now) c.kind.result.now c.source.result.now c.gap.result.now c.text.result.now c.state_name.result.now c.as_bytes.result.now c.number_or.result.now (search rules) (search rules) (search rules) (search rules) (search rules) (search rules))
    c.write_pieces.ensures.bytes
