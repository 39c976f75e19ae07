use Rattle.pim_words.proofs.Words.{◌≡◌, Some, ap, Rule, Unsigned}
use Rattle.pim_words.proofs.commands.number_option.Goals as goal

pub returns-clause-rule : goal.returns-clause-rule
returns-clause-rule c =
    let same : c.value_parser.result.value_parser ≡ Some (Unsigned c.args.low c.args.high) = cc (c.value_parser.ensures.given.1, c.value_parser.ensures.given.2, c.unsigned.ensures) in
    rw (c.value_parser.ensures.others, same)
    (ap (λ (r : Rule). record r { parser = Some (Unsigned c.args.low c.args.high) }) c.text_option.ensures.rule)

pub returns-clause-local : goal.returns-clause-local
returns-clause-local c = rw c.value_parser.ensures.others c.text_option.ensures.local
