use Rattle.pim_event_lines.proofs.Cited.{rules, subst, AppendsAll, ignored_seen}
use Rattle.pim_event_lines.proofs.JsonPieces.{entry_members}
use Rattle.pim_event_lines.proofs.json_packets.write_entry.Goals as goal

pub returns-clause-bytes : goal.returns-clause-bytes
returns-clause-bytes g c =
    subst (λ t. AppendsAll (g.W.Drain.contents c.args.writer.now) (g.W.Drain.contents c.write_pieces.new.writer) c.write_pieces.result t)
    (entry_members g.F.Family.family c.args.files.now (ignored_seen g.F.Family.bytes_of c.args.entry.now) c.as_bytes.result.now c.if_several.result.now c.file_of.result.now c.if_several-2.result.now c.text.result.now c.text-2.result.now c.text-3.result.now (search rules) (search rules) (search rules) (search rules) (search rules) (search rules) (search rules))
    c.write_pieces.ensures.bytes
