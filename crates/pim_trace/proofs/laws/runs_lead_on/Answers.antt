use Rattle.pim_trace.proofs.FoldedTrace.{runs_lead}
use Rattle.pim_trace.proofs.laws.runs_lead_on.Goals as goal

pub returns : goal.returns
returns c = runs_lead (record {
  apart = c.keys_are_distinct.ensures;
  says_more = c.firing_says_more.ensures;
  keeps = c.hearing_keeps_the_order.ensures;
  leaves = c.hearing_leaves_other_ports.ensures;
})
