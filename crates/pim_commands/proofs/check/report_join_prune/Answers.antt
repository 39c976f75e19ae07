use Rattle.pim_commands.proofs.Words.{join_prune, IsStated}
use Rattle.pim_commands.proofs.Reports.{if_returned, stated_message}
use Rattle.pim_commands.proofs.check.report_join_prune.Goals as goal

pub returns-in-Ok-clause-states : goal.returns-in-Ok-clause-states
returns-in-Ok-clause-states g c =
    if_returned c.map_err.result (IsStated g.F.Family.family (join_prune c.args.body.now))
    (stated_message c.message_text_states.ensures g.F.Family.family c.args.body.now c.in-Ok.message c.in-Ok.ensures.answer c.is_legal.ensures)
