use Rattle.pim_event_lines.proofs.Cited.{rules, subst, AppendsAll, transition_seen}
use Rattle.pim_event_lines.proofs.JsonPieces.{by_members}
use Rattle.pim_event_lines.proofs.json_machines.write_by.Goals as goal

pub returns-clause-bytes : goal.returns-clause-bytes
returns-clause-bytes g c =
    subst (λ t. AppendsAll (g.W.Drain.contents c.args.writer.now) (g.W.Drain.contents c.write_pieces.new.writer) c.write_pieces.result t)
    (by_members g.F.Family.family (transition_seen g.F.Family.bytes_of c.args.change.now) c.by_word.result.now c.text.result.now c.text-2.result.now (search rules) (search rules) (search rules))
    c.write_pieces.ensures.bytes
