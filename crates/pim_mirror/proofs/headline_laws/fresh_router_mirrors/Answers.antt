use Rattle.pim_mirror.proofs.Headlines.{fresh_router_mirrors}
use Rattle.pim_mirror.proofs.headline_laws.fresh_router_mirrors.Goals as goal

pub returns : goal.returns
returns c =
    fresh_router_mirrors
    (record { read = c.written_hellos_are_read.ensures; hellos_heard = c.hellos_are_heard.ensures; stars = c.demanded_stars_have_rps.ensures; room = c.room_is_for_the_units.ensures; course_hears = c.course_hears_all.ensures; leaves_port = c.router_leaves_its_port.ensures; tell = c.canonical_messages_carry_form.ensures })
    c.heard_messages_are_demanded_again.ensures c.span_is_of_its_message.ensures
