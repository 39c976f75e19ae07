use Rattle.pim_words.proofs.Words.{err_from_is_err_and, found_of, rows_of}
use Rattle.pim_words.proofs.Unreadable.{of_written}
use Rattle.pim_words.proofs.reading.read_written.Goals as goal

pub returns-in_err-captures : goal.returns-in_err-captures
returns-in_err-captures c =
    let p = err_from_is_err_and c.from_residual-in_err-captures.result c.from_residual-in_err-captures.ensures.1 in
    rw (p.1, p.2) (of_written (rows_of (found_of c.args.options.now)) c.in_ok-addresses.addresses _ c.in_ok-judge_end.ensures c.in_ok-addresses.ensures c.args.kind c.requires.writer c.in_err-captures.ensures.reported)
