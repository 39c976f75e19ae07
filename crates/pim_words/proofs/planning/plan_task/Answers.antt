use Rattle.std.proofs.Common.{sym, ◌∙◌}
use Rattle.pim_words.proofs.Planned.{once}
use Rattle.pim_words.proofs.planning.plan_task.Goals as goal

pub returns : goal.returns
returns c = once c.args.task.now c.plan_typed.result (sym c.names_input_twice.ensures ∙ c.if-names_input_twice.false) c.plan_typed.ensures
