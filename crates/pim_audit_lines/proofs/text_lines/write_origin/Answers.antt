use Rattle.std.proofs.Common.{rules, subst}
use Rattle.pim_device.specs.Device.{AppendsAll}
use Rattle.pim_audit_events.specs.Seen.{origin_seen}
use Rattle.pim_audit_lines.proofs.TextPieces.{origin_pieces}
use Rattle.pim_audit_lines.proofs.text_lines.write_origin.Goals as goal

pub returns-clause-bytes : goal.returns-clause-bytes
returns-clause-bytes g c =
    rw c.in-Some.is (subst (λ t. AppendsAll (g.W.Drain.contents c.args.writer.now) (g.W.Drain.contents c.write_pieces.new.writer) c.write_pieces.result t)
    (origin_pieces g.F.Family.family c.args.files.now (origin_seen g.F.Family.bytes_of c.in-Some.message) c.file_of.result.now c.as_bytes.result.now c.text.result.now (search rules) (search rules) (search rules))
    c.write_pieces.ensures.bytes)
