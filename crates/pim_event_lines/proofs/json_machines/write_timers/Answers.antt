use Rattle.pim_event_lines.proofs.Cited.{rules, subst, AppendsAll, transition_seen}
use Rattle.pim_event_lines.proofs.JsonPieces.{timers_members}
use Rattle.pim_event_lines.proofs.json_machines.write_timers.Goals as goal

pub returns-clause-bytes : goal.returns-clause-bytes
returns-clause-bytes g c =
    subst (λ t. AppendsAll (g.W.Drain.contents c.args.writer.now) (g.W.Drain.contents c.write_pieces.new.writer) c.write_pieces.result t)
    (timers_members (transition_seen g.F.Family.bytes_of c.args.change.now) c.state_text.result.now c.state_text-2.result.now c.expiry_json.result.now c.pending_json.result.now c.as_bytes.result.now (search rules) (search rules) (search rules) (search rules) (search rules))
    c.write_pieces.ensures.bytes
