use Rattle.pim_mirror.proofs.Standing.{answers_for_the_form}
use Rattle.pim_mirror.proofs.headline_laws.mirror_answers_for_the_form.Goals as goal

pub returns : goal.returns
returns c =
    answers_for_the_form c.every_list_has_a_course.ensures c.run_has_one_end.ensures c.run_goes_on.ensures c.room_is_for_the_units.ensures c.fresh_router_mirrors.ensures c.fresh_router_sends_no_echo.ensures c.fresh_router_knows_the_writer.ensures
