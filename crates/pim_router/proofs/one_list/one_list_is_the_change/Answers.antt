use Rattle.pim_router.proofs.OneList.{one_list_is_the_change, one_is_too_big_to_tell}
use Rattle.pim_router.proofs.one_list.one_list_is_the_change.Goals as goal

pub returns-clause-list : goal.returns-clause-list
returns-clause-list c = one_list_is_the_change c.one_normal_form.ensures c.one_list_of_change.ensures

pub returns-clause-big : goal.returns-clause-big
returns-clause-big c = one_is_too_big_to_tell c.one_normal_form.ensures
