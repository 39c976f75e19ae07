use Rattle.pim_trace.proofs.StateCaused.{state_names}
use Rattle.pim_trace.proofs.laws.state_names_causes.Goals as goal

pub returns : goal.returns
returns c = state_names (record {
  apart = c.keys_are_distinct.ensures;
  says_more = c.firing_says_more.ensures;
  keeps = c.hearing_keeps_the_order.ensures;
  leaves = c.hearing_leaves_other_ports.ensures;
})
