use Rattle.pim_settling.proofs.Courses.{Machines, courses_are_kept}
use Rattle.pim_settling.proofs.laws.courses_are_kept.Goals as goal

pub returns : goal.returns
returns c =
    let laws : Machines = record {
      keys = c.keys_are_distinct.ensures;
      order = c.hearing_keeps_the_order.ensures;
      hears = c.hearing_acts_at_each_key.ensures;
    } in
    courses_are_kept laws
