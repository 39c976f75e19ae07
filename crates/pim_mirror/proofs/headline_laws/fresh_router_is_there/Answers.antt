use Rattle.pim_mirror.proofs.Standing.{fresh_router_is_there}
use Rattle.pim_mirror.proofs.headline_laws.fresh_router_is_there.Goals as goal

pub returns : goal.returns
returns c =
    fresh_router_is_there c.every_list_has_a_course.ensures c.run_has_one_end.ensures c.run_goes_on.ensures c.room_is_for_the_units.ensures
