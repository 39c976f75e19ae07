use Rattle.std.proofs.Common.{rules, subst}
use Rattle.pim_device.specs.Device.{AppendsAll}
use Rattle.pim_down.specs.Seen.{event_seen}
use Rattle.pim_audit_lines.proofs.JsonPieces.{asked_members}
use Rattle.pim_audit_lines.proofs.json_lines.write_asked.Goals as goal

pub returns-clause-bytes : goal.returns-clause-bytes
returns-clause-bytes g c =
    subst (λ t. AppendsAll (g.W.Drain.contents c.args.writer.now) (g.W.Drain.contents c.write_pieces.new.writer) c.write_pieces.result t)
    (asked_members g.F.Family.family (event_seen g.F.Family.bytes_of c.args.entry.now) c.asked_word.result.now c.text.result.now c.text-2.result.now (search rules) (search rules) (search rules))
    c.write_pieces.ensures.bytes
