use Rattle.pim_event_lines.proofs.Cited.{rules, subst, AppendsAll}
use Rattle.pim_event_lines.proofs.TextPieces.{generation_pieces}
use Rattle.pim_event_lines.proofs.text_packets.write_generation.Goals as goal

pub returns-clause-bytes : goal.returns-clause-bytes
returns-clause-bytes g c =
    subst (λ t. AppendsAll (g.W.Drain.contents c.args.writer.now) (g.W.Drain.contents c.write_pieces.new.writer) c.write_pieces.result t)
    (generation_pieces c.args.generation c.number_or.result.now (search rules))
    c.write_pieces.ensures.bytes
