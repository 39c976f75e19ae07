use Rattle.pim_event_lines.proofs.Cited.{rules, subst, AppendsAll, cause_seen}
use Rattle.pim_event_lines.proofs.TextPieces.{cause_pieces}
use Rattle.pim_event_lines.proofs.text_machines.write_cause.Goals as goal

pub returns-clause-bytes : goal.returns-clause-bytes
returns-clause-bytes g c =
    subst (λ t. AppendsAll (g.W.Drain.contents c.args.writer.now) (g.W.Drain.contents c.write_pieces.new.writer) c.write_pieces.result t)
    (cause_pieces g.F.Family.family c.args.ms c.args.timer c.args.files.now (cause_seen g.F.Family.bytes_of c.args.cause) c.cause_words.result.now c.text.result.now c.file_of.result.now c.as_bytes.result.now c.as_bytes-2.result.now (search rules) (search rules) (search rules) (search rules) (search rules))
    c.write_pieces.ensures.bytes
