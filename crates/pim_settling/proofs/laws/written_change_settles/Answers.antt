use Rattle.pim_settling.proofs.Courses.{Machines}
use Rattle.pim_settling.proofs.Read.{written_change_settles}
use Rattle.pim_settling.proofs.laws.written_change_settles.Goals as goal

pub returns : goal.returns
returns c =
    let laws : Machines = record {
      keys = c.keys_are_distinct.ensures;
      order = c.hearing_keeps_the_order.ensures;
      hears = c.hearing_acts_at_each_key.ensures;
    } in
    written_change_settles laws c.change_is_read.ensures
