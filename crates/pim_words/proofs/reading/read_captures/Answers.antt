use Rattle.pim_words.proofs.Words.{Option, subst, err_from_is_err_and, Text, found_of, rows_of, IsTimed}
use Rattle.pim_words.proofs.Orders.{wrong_ports}
use Rattle.pim_words.proofs.reading.read_captures.Goals as goal

pub returns-in_err-labelled-clause-reported : goal.returns-in_err-labelled-clause-reported
returns-in_err-labelled-clause-reported c =
    let timed = subst (λ (o : Option Text). IsTimed o c.in_ok-at.at) c.option_of.ensures c.in_ok-at.ensures.read in
    let p = err_from_is_err_and c.from_residual-in_err-labelled.result c.from_residual-in_err-labelled.ensures.1 in
    rw (p.1, p.2) (wrong_ports c.args.kind (rows_of (found_of c.args.options.now)) c.in_ok-at.at _ timed c.in_err-labelled.ensures)
