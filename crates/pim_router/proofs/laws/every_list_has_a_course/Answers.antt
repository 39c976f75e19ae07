use Rattle.pim_router.proofs.Onward.{every_course}
use Rattle.pim_router.proofs.laws.every_list_has_a_course.Goals as goal

pub returns : goal.returns
returns c = every_course c.timers_run_out.ensures
