use Rattle.pim_answers.proofs.OneAnswer.{one_run}
use Rattle.pim_answers.proofs.laws.run_has_one_answer.Goals as goal

pub returns : goal.returns
returns c = one_run c.run_has_one_end.ensures
