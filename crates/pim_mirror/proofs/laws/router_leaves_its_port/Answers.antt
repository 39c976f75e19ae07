use Rattle.pim_mirror.proofs.Course.{leaves_its_port}
use Rattle.pim_mirror.proofs.laws.router_leaves_its_port.Goals as goal

pub returns : goal.returns
returns c = leaves_its_port c.canonical_messages_carry_form.ensures c.canonical_packet_is_heard.ensures c.no_echo_is_due.ensures c.every_hearing_reaches.ensures c.needs_the_units.ensures c.run_keeps_its_bounds.ensures c.run_has_one_end.ensures
