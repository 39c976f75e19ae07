use Rattle.std.proofs.Common.{rules, subst}
use Rattle.pim_device.specs.Device.{AppendsAll}
use Rattle.pim_audit_lines.proofs.JsonPieces.{needed_members}
use Rattle.pim_audit_lines.proofs.json_lines.write_needed.Goals as goal

pub returns-clause-bytes : goal.returns-clause-bytes
returns-clause-bytes g c =
    subst (λ t. AppendsAll (g.W.Drain.contents c.args.writer.now) (g.W.Drain.contents c.write_pieces.new.writer) c.write_pieces.result t)
    (needed_members c.args.needed c.as_bytes.result.now (search rules))
    c.write_pieces.ensures.bytes
