use Rattle.pim_router.proofs.Courses.{course_once}
use Rattle.pim_router.proofs.laws.course_has_one_end.Goals as goal

pub returns : goal.returns
returns c = course_once
