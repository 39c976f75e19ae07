use Rattle.pim_event_lines.proofs.Cited.{rules, subst, AppendsAll}
use Rattle.pim_event_lines.proofs.TextPieces.{held_pieces}
use Rattle.pim_event_lines.proofs.text_machines.write_held.Goals as goal

pub returns-clause-bytes : goal.returns-clause-bytes
returns-clause-bytes g c =
    subst (λ t. AppendsAll (g.W.Drain.contents c.args.writer.now) (g.W.Drain.contents c.write_pieces.new.writer) c.write_pieces.result t)
    (held_pieces c.args.records c.args.neighbours c.as_bytes.result.now c.as_bytes-2.result.now (search rules) (search rules))
    c.write_pieces.ensures.bytes
