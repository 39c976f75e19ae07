use Rattle.pim_mirror.proofs.CourseSteps.{course_hears}
use Rattle.pim_mirror.proofs.laws.course_hears_all.Goals as goal

pub returns : goal.returns
returns c = course_hears c.delivery_is_taken.ensures c.writer_stays_heard.ensures
