use Rattle.pim_session.proofs.Words.{store_seen, family_in, state_in}
use Rattle.pim_session.proofs.Commanded.{command_answered, reset_answered}
use Rattle.pim_session.proofs.serving.answer_any_command.Goals as goal

pub returns-in-Reset-clause-answered : goal.returns-in-Reset-clause-answered
returns-in-Reset-clause-answered g c =
    reset_answered (family_in c.args.router.now) (state_in c.args.router.now) (store_seen c.args.store.now) (g.W.Drain.contents c.args.answers.now) (g.W.Drain.contents c.write_ok.new.answers)
    c.write_ok.result c.and.result c.args.command.now c.in-Reset.is c.and.ensures c.write_ok.ensures.bytes

pub returns-in_default-clause-answered : goal.returns-in_default-clause-answered
returns-in_default-clause-answered g c =
    command_answered (family_in c.args.router.now) (state_in c.args.router.now) (store_seen c.args.store.now) (g.W.Drain.contents c.args.answers.now) (g.W.Drain.contents c.answer_command.new.answers)
    c.answer_command.result c.and-in_default.result c.args.command.now (family_in c.answer_command.new.router) (state_in c.answer_command.new.router) (store_seen c.answer_command.new.store)
    c.in_default.not-Reset c.answer_command.ensures.family c.and-in_default.ensures c.answer_command.ensures.answered
