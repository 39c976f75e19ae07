use Rattle.pim_event_lines.proofs.Cited.{rules, subst, AppendsAll, name_of}
use Rattle.pim_event_lines.proofs.JsonPieces.{place_members}
use Rattle.pim_event_lines.proofs.json_printer.write_place.Goals as goal

pub returns-in-Some-clause-bytes : goal.returns-in-Some-clause-bytes
returns-in-Some-clause-bytes g c =
    rw c.in-Some.is (subst (λ t. AppendsAll (g.W.Drain.contents c.args.writer.now) (g.W.Drain.contents c.write_pieces.new.writer) c.write_pieces.result t)
    (place_members (name_of c.args.names.now c.in-Some.port) c.name_of.result.now (search rules))
    c.write_pieces.ensures.bytes)
