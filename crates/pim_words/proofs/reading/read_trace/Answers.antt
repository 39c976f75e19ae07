use Rattle.pim_words.proofs.Words.{Option, subst, err_from_is_err_and, Text, found_of, rows_of, ReadsAddressOption}
use Rattle.pim_words.proofs.Unreadable.{of_trace}
use Rattle.pim_words.proofs.reading.read_trace.Goals as goal

pub returns-in_err-traced : goal.returns-in_err-traced
returns-in_err-traced c =
    let named = subst (λ (o : Option Text). ReadsAddressOption o c.in_ok-rp.rp) c.option_of.ensures c.in_ok-rp.ensures in
    let p = err_from_is_err_and c.from_residual-in_err-traced.result c.from_residual-in_err-traced.ensures.1 in
    rw (p.1, p.2) (of_trace (rows_of (found_of c.args.options.now)) c.in_ok-rp.rp c.in_ok-judge_end.ensures named _ c.in_err-traced.ensures.reported)
