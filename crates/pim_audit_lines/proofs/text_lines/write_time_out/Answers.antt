use Rattle.std.proofs.Common.{rules, subst}
use Rattle.pim_device.specs.Device.{AppendsAll}
use Rattle.pim_audit_lines.proofs.TextPieces.{time_out_pieces}
use Rattle.pim_audit_lines.proofs.text_lines.write_time_out.Goals as goal

pub returns-clause-bytes : goal.returns-clause-bytes
returns-clause-bytes g c =
    subst (λ t. AppendsAll (g.W.Drain.contents c.args.writer.now) (g.W.Drain.contents c.write_pieces.new.writer) c.write_pieces.result t)
    (time_out_pieces g.F.Family.family (g.F.Family.bytes_of c.args.upstream) c.text.result.now (search rules))
    c.write_pieces.ensures.bytes
