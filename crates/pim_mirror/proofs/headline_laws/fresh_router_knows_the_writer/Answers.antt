use Rattle.pim_mirror.proofs.Headlines.{knows_the_writer}
use Rattle.pim_mirror.proofs.headline_laws.fresh_router_knows_the_writer.Goals as goal

pub returns : goal.returns
returns c =
    knows_the_writer
    (record { read = c.written_hellos_are_read.ensures; hellos_heard = c.hellos_are_heard.ensures; stars = c.demanded_stars_have_rps.ensures; room = c.room_is_for_the_units.ensures; course_hears = c.course_hears_all.ensures; leaves_port = c.router_leaves_its_port.ensures; tell = c.canonical_messages_carry_form.ensures })
    c.run_keeps_its_bounds.ensures
