use Rattle.pim_answers.proofs.OneAnswer.{one_keep, one_wants, one_next}
use Rattle.pim_answers.proofs.laws.demand_has_one_answer.Goals as goal

pub returns-clause-keep : goal.returns-clause-keep
returns-clause-keep c = one_keep c.one_normal_form.ensures

pub returns-clause-wants : goal.returns-clause-wants
returns-clause-wants c = one_wants c.one_normal_form.ensures

pub returns-clause-next : goal.returns-clause-next
returns-clause-next c = one_next
