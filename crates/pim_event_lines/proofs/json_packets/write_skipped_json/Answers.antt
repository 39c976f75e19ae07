use Rattle.pim_event_lines.proofs.Cited.{rules, subst, AppendsAll}
use Rattle.pim_event_lines.proofs.JsonPieces.{skipped_members}
use Rattle.pim_event_lines.proofs.json_packets.write_skipped_json.Goals as goal

pub returns-clause-bytes : goal.returns-clause-bytes
returns-clause-bytes g c =
    subst (λ t. AppendsAll (g.W.Drain.contents c.args.writer.now) (g.W.Drain.contents c.write_pieces.new.writer) c.write_pieces.result t)
    (skipped_members c.args.files.now c.args.skipped c.as_bytes.result.now c.if_several.result.now c.file_of.result.now c.if_several-2.result.now c.skip_word.result.now (search rules) (search rules) (search rules) (search rules) (search rules))
    c.write_pieces.ensures.bytes
