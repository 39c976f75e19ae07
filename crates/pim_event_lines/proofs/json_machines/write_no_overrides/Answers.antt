use Rattle.pim_event_lines.proofs.Cited.{rules, subst, AppendsAll}
use Rattle.pim_event_lines.proofs.JsonPieces.{no_overrides_members}
use Rattle.pim_event_lines.proofs.json_machines.write_no_overrides.Goals as goal

pub returns-clause-bytes : goal.returns-clause-bytes
returns-clause-bytes g c =
    subst (λ t. AppendsAll (g.W.Drain.contents c.args.writer.now) (g.W.Drain.contents c.write_pieces.new.writer) c.write_pieces.result t)
    (no_overrides_members c.args.files.now c.if_several.result.now (search rules))
    c.write_pieces.ensures.bytes
