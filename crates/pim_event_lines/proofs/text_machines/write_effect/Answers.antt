use Rattle.pim_event_lines.proofs.Cited.{rules, subst, AppendsAll, fired_seen}
use Rattle.pim_event_lines.proofs.TextPieces.{effect_pieces}
use Rattle.pim_event_lines.proofs.text_machines.write_effect.Goals as goal

pub returns-clause-bytes : goal.returns-clause-bytes
returns-clause-bytes g c =
    subst (λ t. AppendsAll (g.W.Drain.contents c.args.writer.now) (g.W.Drain.contents c.write_pieces.new.writer) c.write_pieces.result t)
    (effect_pieces g.F.Family.family (fired_seen g.F.Family.bytes_of c.args.firing.now) c.timer_words.result.now c.kind.result.now c.source.result.now c.gap.result.now c.text.result.now c.state_text.result.now c.state_text-2.result.now c.echo_text.result.now (search rules) (search rules) (search rules) (search rules) (search rules) (search rules) (search rules))
    c.write_pieces.ensures.bytes
