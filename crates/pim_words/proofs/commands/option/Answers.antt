use Rattle.pim_words.proofs.Words.{Some, true, ap, Rule}
use Rattle.clap.specs.declared.builder.action.ArgAction.TheVariants.{Append}
use Rattle.pim_words.proofs.commands.option.Goals as goal

pub returns-in-Required-clause-rule : goal.returns-in-Required-clause-rule
returns-in-Required-clause-rule c = rw (c.required.ensures, c.in-Required.is) (ap (λ (r : Rule). record r { required = true }) c.text_option-in-Required.ensures.rule)

pub returns-in-Repeated-clause-rule : goal.returns-in-Repeated-clause-rule
returns-in-Repeated-clause-rule c = rw (c.action.ensures, c.in-Repeated.is) (ap (λ (r : Rule). record r { action = Some Append }) c.text_option-in-Repeated.ensures.rule)
