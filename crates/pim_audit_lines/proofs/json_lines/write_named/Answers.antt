use Rattle.std.proofs.Common.{rules, subst}
use Rattle.pim_device.specs.Device.{AppendsAll}
use Rattle.pim_audit_events.specs.Seen.{origin_seen}
use Rattle.pim_audit_lines.proofs.JsonPieces.{named_members}
use Rattle.pim_audit_lines.proofs.json_lines.write_named.Goals as goal

pub returns-clause-bytes : goal.returns-clause-bytes
returns-clause-bytes g c =
    rw c.in-Some.is (subst (λ t. AppendsAll (g.W.Drain.contents c.args.writer.now) (g.W.Drain.contents c.write_pieces-2.new.writer) c.write_pieces-2.result t)
    (named_members g.F.Family.family c.args.files.now c.args.name.now (origin_seen g.F.Family.bytes_of c.in-Some.message) c.as_bytes.result.now c.if_several.result.now c.file_of.result.now c.if_several-2.result.now c.text.result.now (search rules) (search rules) (search rules) (search rules) (search rules))
    c.write_pieces-2.ensures.bytes)
