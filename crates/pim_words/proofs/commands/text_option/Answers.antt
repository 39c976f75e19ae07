use Rattle.pim_words.proofs.Words.{Some, ap, Rule}
use Rattle.pim_words.proofs.commands.text_option.Goals as goal

pub returns-clause-rule : goal.returns-clause-rule
returns-clause-rule c =
    rw (c.help.ensures, c.value_name.ensures, c.long.ensures)
    (ap (λ (r : Rule). record r { long = Some c.args.row.name.now; value_names = 1 }) c.new.ensures.rule)

pub returns-clause-local : goal.returns-clause-local
returns-clause-local c = rw (c.help.ensures, c.value_name.ensures, c.long.ensures) c.new.ensures.optional.1
