use Rattle.pim_event_lines.proofs.Cited.{rules, subst, AppendsAll, held_seen}
use Rattle.pim_event_lines.proofs.JsonPieces.{held_machine_members}
use Rattle.pim_event_lines.proofs.json_state.write_machine.Goals as goal

pub returns-clause-bytes : goal.returns-clause-bytes
returns-clause-bytes g c =
    subst (λ t. AppendsAll (g.W.Drain.contents c.args.writer.now) (g.W.Drain.contents c.write_pieces.new.writer) c.write_pieces.result t)
    (held_machine_members g.F.Family.family (held_seen g.F.Family.bytes_of c.args.held.now) c.text.result.now c.text-2.result.now c.front.result.now c.address.result.now c.back.result.now (search rules) (search rules) (search rules))
    c.write_pieces.ensures.bytes
