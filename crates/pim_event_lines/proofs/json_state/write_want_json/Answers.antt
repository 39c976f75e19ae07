use Rattle.pim_event_lines.proofs.Cited.{rules, subst, AppendsAll, wanted_seen}
use Rattle.pim_event_lines.proofs.JsonPieces.{want_members}
use Rattle.pim_event_lines.proofs.json_state.write_want_json.Goals as goal

pub returns-clause-bytes : goal.returns-clause-bytes
returns-clause-bytes g c =
    subst (λ t. AppendsAll (g.W.Drain.contents c.args.writer.now) (g.W.Drain.contents c.write_pieces.new.writer) c.write_pieces.result t)
    (want_members g.F.Family.family (wanted_seen g.F.Family.bytes_of c.args.entry.now) c.text.result.now c.text-2.result.now c.front.result.now c.address.result.now c.back.result.now c.front-2.result.now c.address-2.result.now c.back-2.result.now (search rules) (search rules) (search rules) (search rules))
    c.write_pieces.ensures.bytes
