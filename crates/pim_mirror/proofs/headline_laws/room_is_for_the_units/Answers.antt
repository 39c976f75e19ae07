use Rattle.pim_mirror.proofs.Rooms.{room_is_for_the_units}
use Rattle.pim_mirror.proofs.headline_laws.room_is_for_the_units.Goals as goal

pub returns : goal.returns
returns c =
    room_is_for_the_units c.written_hellos_are_read.ensures c.hellos_are_heard.ensures c.demanded_stars_have_rps.ensures c.delivery_is_taken.ensures c.course_hears_all.ensures
