use Rattle.pim_event_lines.proofs.Cited.{rules, subst, AppendsAll, time_out_seen}
use Rattle.pim_event_lines.proofs.TextPieces.{time_out_pieces}
use Rattle.pim_event_lines.proofs.text_machines.write_time_out_line.Goals as goal

pub returns-clause-bytes : goal.returns-clause-bytes
returns-clause-bytes g c =
    subst (λ t. AppendsAll (g.W.Drain.contents c.args.writer.now) (g.W.Drain.contents c.write_pieces.new.writer) c.write_pieces.result t)
    (time_out_pieces g.F.Family.family c.args.ms c.args.files.now (time_out_seen g.F.Family.bytes_of c.args.over.now) c.text.result.now c.file_of.result.now c.as_bytes.result.now c.as_bytes-2.result.now (search rules) (search rules) (search rules) (search rules))
    c.write_pieces.ensures.bytes
