use Rattle.pim_router.proofs.Courses.{courses_join}
use Rattle.pim_router.proofs.laws.course_goes_on.Goals as goal

pub returns : goal.returns
returns c = courses_join
