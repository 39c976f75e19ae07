use Rattle.pim_commands.proofs.TraceAndReplay.{trace_and_report}
use Rattle.pim_commands.proofs.laws.trace_ends_as_replay.Goals as goal

pub returns : goal.returns
returns c family shows_via end merge captures state after other events text =
    trace_and_report c.merge_by_has_one_end.ensures c.runs_past_are_turns.ensures c.happening_goes_on.ensures c.happening_has_one_end.ensures family
    shows_via end merge captures state after other events text
