use Rattle.pim_event_lines.proofs.Cited.{rules, subst, AppendsAll}
use Rattle.pim_event_lines.proofs.TextPieces.{overrides_pieces}
use Rattle.pim_event_lines.proofs.text_machines.write_overrides.Goals as goal

pub returns-clause-bytes : goal.returns-clause-bytes
returns-clause-bytes g c =
    rw c.in-Some.is (subst (λ t. AppendsAll (g.W.Drain.contents c.args.writer.now) (g.W.Drain.contents c.write_pieces.new.writer) c.write_pieces.result t)
    (overrides_pieces c.args.files.now c.in-Some.place c.file_of.result.now c.as_bytes.result.now (search rules) (search rules))
    c.write_pieces.ensures.bytes)
