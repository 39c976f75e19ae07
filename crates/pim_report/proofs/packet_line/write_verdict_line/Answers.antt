use Rattle.pim_report.proofs.Words.{rules, subst, AppendsAll}
use Rattle.pim_report.proofs.Texts.{verdict_pieces}
use Rattle.pim_report.proofs.packet_line.write_verdict_line.Goals as goal

pub returns-clause-bytes : goal.returns-clause-bytes
returns-clause-bytes g c =
    subst (λ t. AppendsAll (g.W.Drain.contents c.args.writer.now) (g.W.Drain.contents c.write_pieces.new.writer) c.write_pieces.result t)
    (verdict_pieces c.args.verdict c.mark_of.result.now c.words.result.now c.name.result.now c.more.result.now c.digits.result.now (search rules) (search rules))
    c.write_pieces.ensures.bytes
