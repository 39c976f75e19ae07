use Rattle.pim_words.proofs.Words.{refl, found_of, rows_of}
use Rattle.pim_words.specs.Given.{kind_name}
use Rattle.pim_words.proofs.Planned.{of_task}
use Rattle.pim_words.proofs.planning.plan_kind.Goals as goal

pub returns : goal.returns
returns c =
    of_task (kind_name c.args.kind, rows_of (found_of c.args.options.now)) c.in_ok-task.task c.plan_task.result (c.args.kind, refl, c.in_ok-task.ensures) c.plan_task.ensures
