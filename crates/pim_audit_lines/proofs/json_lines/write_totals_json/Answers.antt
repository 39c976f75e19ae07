use Rattle.std.proofs.Common.{rules, subst}
use Rattle.pim_device.specs.Device.{AppendsAll}
use Rattle.pim_audit_lines.proofs.JsonPieces.{totals_members}
use Rattle.pim_audit_lines.proofs.json_lines.write_totals_json.Goals as goal

pub returns-clause-bytes : goal.returns-clause-bytes
returns-clause-bytes g c =
    subst (λ t. AppendsAll (g.W.Drain.contents c.args.writer.now) (g.W.Drain.contents c.write_pieces.new.writer) c.write_pieces.result t)
    (totals_members c.args.totals c.as_bytes.result.now c.as_bytes-2.result.now c.as_bytes-3.result.now c.as_bytes-4.result.now (search rules) (search rules) (search rules) (search rules))
    c.write_pieces.ensures.bytes
