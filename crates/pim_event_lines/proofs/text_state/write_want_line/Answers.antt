use Rattle.pim_event_lines.proofs.Cited.{rules, subst, AppendsAll, wanted_seen}
use Rattle.pim_event_lines.proofs.TextPieces.{want_pieces}
use Rattle.pim_event_lines.proofs.text_state.write_want_line.Goals as goal

pub returns-clause-bytes : goal.returns-clause-bytes
returns-clause-bytes g c =
    subst (λ t. AppendsAll (g.W.Drain.contents c.args.writer.now) (g.W.Drain.contents c.write_pieces.new.writer) c.write_pieces.result t)
    (want_pieces g.F.Family.family (wanted_seen g.F.Family.bytes_of c.args.entry.now) c.kind.result.now c.source.result.now c.gap.result.now c.text.result.now c.words.result.now c.address.result.now c.words-2.result.now c.address-2.result.now (search rules) (search rules) (search rules) (search rules) (search rules))
    c.write_pieces.ensures.bytes
