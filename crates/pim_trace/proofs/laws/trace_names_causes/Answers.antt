use Rattle.pim_trace.proofs.FoldedTrace.{trace_names}
use Rattle.pim_trace.proofs.laws.trace_names_causes.Goals as goal

pub returns : goal.returns
returns c = trace_names (record {
  apart = c.keys_are_distinct.ensures;
  says_more = c.firing_says_more.ensures;
  keeps = c.hearing_keeps_the_order.ensures;
  leaves = c.hearing_leaves_other_ports.ensures;
})
