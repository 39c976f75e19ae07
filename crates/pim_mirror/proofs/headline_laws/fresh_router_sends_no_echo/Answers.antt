use Rattle.pim_mirror.proofs.Headlines.{tells_no_echo_before}
use Rattle.pim_mirror.proofs.headline_laws.fresh_router_sends_no_echo.Goals as goal

pub returns : goal.returns
returns c =
    tells_no_echo_before
    (record { read = c.written_hellos_are_read.ensures; hellos_heard = c.hellos_are_heard.ensures; stars = c.demanded_stars_have_rps.ensures; room = c.room_is_for_the_units.ensures; course_hears = c.course_hears_all.ensures; leaves_port = c.router_leaves_its_port.ensures; tell = c.canonical_messages_carry_form.ensures })
    c.delivery_is_taken.ensures c.no_echo_is_due.ensures c.every_hearing_reaches.ensures c.run_has_one_end.ensures
