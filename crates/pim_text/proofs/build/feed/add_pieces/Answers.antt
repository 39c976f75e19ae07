use Rattle.std.proofs.Common.{arith}
use Rattle.std.proofs.lemmas.Result.{err_from_is_err_and}
use Rattle.pim_text.proofs.BuiltPieces.{stopped, taken_also}
use Rattle.pim_text.proofs.build.feed.add_pieces.Goals as goal

pub returns-in_err-is_end-clause-text : goal.returns-in_err-is_end-clause-text
returns-in_err-is_end-clause-text g c =
    let p = err_from_is_err_and c.from_residual.result c.from_residual.ensures.1 in
    rw (p.1, p.2) (stopped (g.R.Feed.remaining c.args.reader.now) c.in_err-is_end.field-0.0 c.in_err-is_end.ensures.causes)

pub returns-in_err-is_end-clause-taken : goal.returns-in_err-is_end-clause-taken
returns-in_err-is_end-clause-taken g c =
    taken_also (g.R.Feed.remaining c.args.reader.now) (g.R.Feed.remaining c.loop-reader.reader) (g.R.Feed.remaining c.add_piece.new.reader) c.loop-reader.text.items _ c.loop-reader.invariant.0
    (omega (arith, c.len.ensures, c.loop-reader-test.true)) c.loop-reader.invariant.2 c.add_piece.ensures.taken
