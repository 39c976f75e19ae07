use Rattle.pim_event_lines.proofs.Cited.{rules, subst, AppendsAll}
use Rattle.pim_event_lines.proofs.TextPieces.{one_sender_pieces}
use Rattle.pim_event_lines.proofs.text_machines.write_sender.Goals as goal

pub returns-clause-bytes : goal.returns-clause-bytes
returns-clause-bytes g c =
    subst (λ t. AppendsAll (g.W.Drain.contents c.args.writer.now) (g.W.Drain.contents c.write_pieces.new.writer) c.write_pieces.result t)
    (one_sender_pieces g.F.Family.family c.args.files.now c.args.change.now.frame (g.F.Family.bytes_of c.args.change.now.from) c.file_of.result.now c.as_bytes.result.now c.text.result.now (search rules) (search rules) (search rules))
    c.write_pieces.ensures.bytes
