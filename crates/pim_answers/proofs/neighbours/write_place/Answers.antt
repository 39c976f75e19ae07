use Rattle.pim_answers.proofs.Words.{rules, subst, AppendsAll}
use Rattle.pim_answers.proofs.NeighbourTexts.{place_pieces}
use Rattle.pim_answers.proofs.neighbours.write_place.Goals as goal

pub returns-clause-bytes : goal.returns-clause-bytes
returns-clause-bytes g c =
    subst (λ t. AppendsAll (g.W.Drain.contents c.args.writer.now) (g.W.Drain.contents c.write_pieces.new.writer) c.write_pieces.result t)
    (place_pieces g.F.Family.family c.args.port (g.F.Family.bytes_of c.args.address) c.args.left c.as_bytes.result.now c.text.result.now c.number_or.result.now
    (search rules) (search rules) (search rules))
    c.write_pieces.ensures.bytes
