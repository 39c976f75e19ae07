use Rattle.pim_event_lines.proofs.Cited.{rules, subst, AppendsAll}
use Rattle.pim_event_lines.proofs.JsonPieces.{generations_members}
use Rattle.pim_event_lines.proofs.json_packets.write_generations.Goals as goal

pub returns-clause-bytes : goal.returns-clause-bytes
returns-clause-bytes g c =
    subst (λ t. AppendsAll (g.W.Drain.contents c.args.writer.now) (g.W.Drain.contents c.write_pieces.new.writer) c.write_pieces.result t)
    (generations_members c.args.restart c.number_or.result.now c.number_or-2.result.now (search rules) (search rules))
    c.write_pieces.ensures.bytes
