use Rattle.pim_mirror.proofs.Course.{one_more_taken}
use Rattle.pim_mirror.proofs.laws.delivery_is_taken.Goals as goal

pub returns : goal.returns
returns c = one_more_taken c.router_leaves_its_port.ensures c.canonical_messages_carry_form.ensures c.canonical_packet_is_heard.ensures c.needs_the_units.ensures c.run_keeps_its_bounds.ensures
