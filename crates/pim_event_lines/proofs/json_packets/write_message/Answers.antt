use Rattle.pim_event_lines.proofs.Cited.{rules, subst, AppendsAll}
use Rattle.pim_event_lines.proofs.JsonPieces.{message_members}
use Rattle.pim_event_lines.proofs.json_packets.write_message.Goals as goal

pub returns-clause-bytes : goal.returns-clause-bytes
returns-clause-bytes g c =
    rw c.in-Some.is (subst (λ t. AppendsAll (g.W.Drain.contents c.args.writer.now) (g.W.Drain.contents c.write_pieces.new.writer) c.write_pieces.result t)
    (message_members g.F.Family.family c.in-Some.message c.text.result.now c.as_bytes.result.now c.as_bytes-2.result.now (search rules) (search rules) (search rules))
    c.write_pieces.ensures.bytes)
