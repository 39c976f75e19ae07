use Rattle.pim_report.proofs.Words.{rules, subst, AppendsAll}
use Rattle.pim_report.proofs.Texts.{sender_pieces}
use Rattle.pim_report.proofs.packet_line.write_sender.Goals as goal

pub returns-clause-bytes : goal.returns-clause-bytes
returns-clause-bytes g c =
    subst (λ t. AppendsAll (g.W.Drain.contents c.args.writer.now) (g.W.Drain.contents c.write_pieces.new.writer) c.write_pieces.result t)
    (sender_pieces g.F.Family.family c.args.moment c.args.port (g.F.Family.bytes_of c.args.source)
    c.as_bytes.result.now c.as_bytes-2.result.now c.text.result.now (search rules) (search rules) (search rules))
    c.write_pieces.ensures.bytes
