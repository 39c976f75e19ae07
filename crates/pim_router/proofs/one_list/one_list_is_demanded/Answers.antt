use Rattle.pim_router.proofs.OneList.{one_list_is_demanded, one_is_too_big}
use Rattle.pim_router.proofs.one_list.one_list_is_demanded.Goals as goal

pub returns-clause-list : goal.returns-clause-list
returns-clause-list c = one_list_is_demanded c.one_normal_form.ensures c.one_list_of_messages.ensures

pub returns-clause-big : goal.returns-clause-big
returns-clause-big c = one_is_too_big c.one_normal_form.ensures
