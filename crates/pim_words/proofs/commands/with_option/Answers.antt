use Rattle.pim_words.proofs.Words.{◌∙◌, refl, IfOk-weaker}
use Rattle.pim_words.proofs.commands.with_option.Goals as goal

pub returns-clause-app : goal.returns-clause-app
returns-clause-app c = IfOk-weaker c.arg.result _ _ (λ r adds. adds.shape c.requires.option) c.arg.ensures

pub returns-clause-local : goal.returns-clause-local
returns-clause-local c = IfOk-weaker c.arg.result _ _ (λ r adds. adds.globals ∙ rw (c.requires.local, c.requires.option) refl) c.arg.ensures
