use Rattle.pim_session.proofs.Words.{fault_words, fault_line, Gathers, gathered_seen}
use Rattle.pim_session.proofs.Commanded.{answered_text, limit_answered, forgotten, not_started}
use Rattle.pim_session.proofs.session.set_up.Goals as goal

pub returns-in-Limit-clause-answered : goal.returns-in-Limit-clause-answered
returns-in-Limit-clause-answered g c = λ none.
    limit_answered c.args.command.now c.in-Limit.limit c.args.setup.now.limit c.args.setup.now.rows (g.W.Drain.contents c.args.answers.now) (g.W.Drain.contents c.write_ok.new.answers) c.write_ok.result
    c.in-Limit.is c.write_ok.ensures.bytes

pub returns-in-Reset-clause-answered : goal.returns-in-Reset-clause-answered
returns-in-Reset-clause-answered g c = λ none.
    forgotten c.args.command.now (gathered_seen c.args.setup.now) (gathered_seen c.reset.new.self) (g.W.Drain.contents c.args.answers.now) (g.W.Drain.contents c.write_ok-in-Reset.new.answers) c.write_ok-in-Reset.result
    c.in-Reset.is c.reset.ensures c.write_ok-in-Reset.ensures.bytes

pub returns-in_default : goal.returns-in_default
returns-in_default g c = record {
  answered = λ none. answered_text (Gathers c.args.command.now (gathered_seen c.args.setup.now)) (g.W.Drain.contents c.args.answers.now) (g.W.Drain.contents c.write_fault.new.answers) c.write_fault.result
      (gathered_seen c.args.setup.now) (fault_line (fault_words c.plain.result))
      (not_started c.args.command.now (gathered_seen c.args.setup.now) (fault_words c.plain.result) none c.in_default.not-Limit c.in_default.not-Reset c.plain.ensures) c.write_fault.ensures.bytes;
  count = c.write_fault.ensures.count;
}
