use Rattle.pim_words.proofs.Words.{◌∙◌, refl, IfOk-weaker}
use Rattle.pim_words.proofs.commands.with_command.Goals as goal

pub returns-clause-app : goal.returns-clause-app
returns-clause-app c = IfOk-weaker c.subcommand.result _ _ (λ r adds. adds.shape c.requires.command) c.subcommand.ensures

pub returns-clause-local : goal.returns-clause-local
returns-clause-local c = IfOk-weaker c.subcommand.result _ _ (λ r adds. adds.globals ∙ rw (c.requires.local, c.requires.command) refl) c.subcommand.ensures
