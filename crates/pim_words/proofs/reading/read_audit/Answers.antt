use Rattle.pim_words.proofs.Words.{err_from_is_err_and, found_of, rows_of}
use Rattle.pim_words.proofs.Unreadable.{of_audit}
use Rattle.pim_words.proofs.reading.read_audit.Goals as goal

pub returns-in_err-traced : goal.returns-in_err-traced
returns-in_err-traced c =
    let p = err_from_is_err_and c.from_residual-in_err-traced.result c.from_residual-in_err-traced.ensures.1 in
    rw (p.1, p.2) (of_audit (rows_of (found_of c.args.options.now)) c.in_ok-addresses.addresses c.in_ok-judge_end.ensures c.in_ok-addresses.ensures _ c.in_err-traced.ensures.reported)
