use Rattle.pim_event_lines.proofs.Cited.{rules, subst, AppendsAll, held_seen}
use Rattle.pim_event_lines.proofs.JsonPieces.{held_times_members}
use Rattle.pim_event_lines.proofs.json_state.write_held_times.Goals as goal

pub returns-clause-bytes : goal.returns-clause-bytes
returns-clause-bytes g c =
    subst (λ t. AppendsAll (g.W.Drain.contents c.args.writer.now) (g.W.Drain.contents c.write_pieces.new.writer) c.write_pieces.result t)
    (held_times_members (held_seen g.F.Family.bytes_of c.args.held.now) c.state_name.result.now c.as_bytes.result.now c.number_or.result.now c.pending_json.result.now (search rules) (search rules) (search rules) (search rules))
    c.write_pieces.ensures.bytes
