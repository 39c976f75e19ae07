use Rattle.pim_words.proofs.Words.{Option, subst, inl, err_from_is_err_and, Text, found_of, rows_of, IsTimed}
use Rattle.pim_words.proofs.Words.{IsWrongTrace}
use Rattle.pim_words.proofs.Orders.{or_memory, wrong_shown, wrong_words}
use Rattle.pim_words.proofs.reading.read_traced.Goals as goal

pub returns-in_err-end-clause-reported : goal.returns-in_err-end-clause-reported
returns-in_err-end-clause-reported c =
    let untimed = rw c.option_of.ensures at c.in_err-end.ensures.read in
    let p = err_from_is_err_and c.from_residual.result c.from_residual.ensures.1 in
    rw (p.1, p.2) (or_memory (IsWrongTrace c.args.command (rows_of (found_of c.args.options.now))) _ (inl untimed))

pub returns-in_err-shown-clause-reported : goal.returns-in_err-shown-clause-reported
returns-in_err-shown-clause-reported c =
    let timed = subst (λ (o : Option Text). IsTimed o c.in_ok-end.end) c.option_of.ensures c.in_ok-end.ensures.read in
    let p = err_from_is_err_and c.from_residual-in_err-shown.result c.from_residual-in_err-shown.ensures.1 in
    rw (p.1, p.2) (wrong_shown c.args.command (rows_of (found_of c.args.options.now)) c.in_ok-end.end timed _ c.in_err-shown.ensures)

pub returns-in_err-labelled-clause-reported : goal.returns-in_err-labelled-clause-reported
returns-in_err-labelled-clause-reported c =
    let rows = rows_of (found_of c.args.options.now) in
    let timed = subst (λ (o : Option Text). IsTimed o c.in_ok-end.end) c.option_of.ensures c.in_ok-end.ensures.read in
    let p = err_from_is_err_and c.from_residual-in_err-labelled.result c.from_residual-in_err-labelled.ensures.1 in
    rw (p.1, p.2) (wrong_words c.args.command rows c.in_ok-end.end timed c.in_ok-shown.shown _ c.in_ok-shown.ensures c.in_err-labelled.ensures)
