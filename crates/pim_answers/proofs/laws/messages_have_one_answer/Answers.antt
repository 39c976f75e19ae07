use Rattle.pim_answers.proofs.OneAnswer.{one_messages, one_change, one_same}
use Rattle.pim_answers.proofs.laws.messages_have_one_answer.Goals as goal

pub returns-clause-messages : goal.returns-clause-messages
returns-clause-messages c = one_messages c.one_list_is_demanded.ensures.list c.one_list_is_demanded.ensures.big

pub returns-clause-change : goal.returns-clause-change
returns-clause-change c = one_change c.one_list_is_the_change.ensures.list c.one_list_is_the_change.ensures.big

pub returns-clause-same : goal.returns-clause-same
returns-clause-same c = one_same c.one_list_of_messages.ensures c.one_list_is_demanded.ensures.list c.one_list_is_demanded.ensures.big
