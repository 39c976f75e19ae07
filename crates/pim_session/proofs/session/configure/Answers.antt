use Rattle.pim_session.proofs.Words.{done_text, Gathers, gathered_seen}
use Rattle.pim_session.proofs.Commanded.{added_row, answered_text}
use Rattle.pim_session.proofs.session.configure.Goals as goal

pub returns-in-Some-clause-answered : goal.returns-in-Some-clause-answered
returns-in-Some-clause-answered g c =
    answered_text (Gathers c.args.command.now (gathered_seen c.args.setup.now)) (g.W.Drain.contents c.args.answers.now) (g.W.Drain.contents c.write_done.new.answers) c.write_done.result
    (gathered_seen c.add-added.new.self) (done_text c.add-added.result)
    (added_row c.args.command.now c.in-Some.row (gathered_seen c.args.setup.now) (gathered_seen c.add-added.new.self) (done_text c.add-added.result) c.in-Some.ensures c.add-added.ensures) c.write_done.ensures.bytes
