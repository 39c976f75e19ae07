use Rattle.std.proofs.Common.{◌∙◌, ap, subst}
use Rattle.pim_router.specs.State.{RouterState}
use Rattle.pim_commands.specs.Laws.{ListsAsReplay, lines_of}
use Rattle.pim_commands.proofs.StateLines.{lines_same}
use Rattle.pim_trace.specs.StateLaws.{without_state}
use Rattle.pim_commands.proofs.laws.state_lists_what_replay_prints.Goals as goal

pub returns : goal.returns
returns c family shows_via end merge captures state after other events ledger text coming traced report =
    let both = c.trace_lists_state.ensures family end merge state events ledger after traced in
    let lists = both.0 in
    let same = c.trace_ends_as_replay.ensures family shows_via end merge captures state after other (without_state events) text coming both.1 report in
    subst (λ (r : RouterState). ListsAsReplay family shows_via events r) same (record {
      records = lists.records;
      form = lists.form;
      demand = lists.demand;
      lines = ap (lines_of family shows_via) lists.entries ∙ lines_same family shows_via after.routes lists.form;
    })
