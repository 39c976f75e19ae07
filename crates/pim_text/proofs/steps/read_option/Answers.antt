use Rattle.pim_text.proofs.FieldEnds.{not_some}
use Rattle.pim_text.proofs.WhichLine.{only_delays, only_secondary, no_option}
use Rattle.pim_text.proofs.steps.read_option.Goals as goal

pub returns-in-Some-delays_line-clause-only : goal.returns-in-Some-delays_line-clause-only
returns-in-Some-delays_line-clause-only c line so is = only_delays c.args.text.now c.in-Some-delays_line.delays c.in-Some-delays_line.ensures.read c.in-Some-delays_line.ensures.only line so is

pub returns-in-Some-address_line-clause-only : goal.returns-in-Some-address_line-clause-only
returns-in-Some-address_line-clause-only c line so is = only_secondary c.args.text.now c.in-Some-address_line.address c.in-Some-address_line.ensures.read c.in-Some-address_line.ensures.only line so is

pub returns-in-None-clause-only : goal.returns-in-None-clause-only
returns-in-None-clause-only c line so is =
    absurd (no_option c.args.text.now (λ n it. not_some n (c.in_default.ensures.only n it.0 it.1)) (λ d it. not_some d (c.in_default-delays_line.ensures.only d it))
    (λ n it. not_some n (c.in_default-number_line.ensures.only n it.0 it.1)) (λ n it. not_some n (c.in_default-number_line-2.ensures.only n it.0 it.1))
    (λ a it. not_some a (c.in-None.ensures.only a it)) line so is)
