use Rattle.pim_trace.proofs.StateListed.{trace_lists}
use Rattle.pim_trace.proofs.laws.trace_lists_state.Goals as goal

pub returns : goal.returns
returns c = trace_lists
