use Rattle.pim_trace.proofs.FoldedTrace.{turns_tell}
use Rattle.pim_trace.proofs.laws.turns_show_the_state.Goals as goal

pub returns : goal.returns
returns c = turns_tell (record {
  apart = c.keys_are_distinct.ensures;
  says_more = c.firing_says_more.ensures;
  keeps = c.hearing_keeps_the_order.ensures;
  leaves = c.hearing_leaves_other_ports.ensures;
})
