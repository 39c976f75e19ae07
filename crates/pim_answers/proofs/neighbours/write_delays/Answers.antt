use Rattle.pim_answers.proofs.Words.{rules, subst, sym, ap, ◌∙◌, option_map, AppendsAll, delays_seen, delays_text, option_words}
use Rattle.pim_answers.proofs.NeighbourTexts.{delays_pieces}
use Rattle.pim_answers.proofs.neighbours.write_delays.Goals as goal

pub returns-clause-bytes : goal.returns-clause-bytes
returns-clause-bytes g c =
    subst (λ t. AppendsAll (g.W.Drain.contents c.args.writer.now) (g.W.Drain.contents c.write_pieces.new.writer) c.write_pieces.result t)
    (delays_pieces (delays_seen c.in-Some.lan) c.bit.result.now c.as_bytes.result.now c.as_bytes-2.result.now (search rules) (search rules) (search rules)
    ∙ ap (λ lan. option_words (delays_text (option_map delays_seen lan))) (sym c.in-Some.is))
    c.write_pieces.ensures.bytes
