use Rattle.pim_container.proofs.Words.{arith, vec_len, err_from_is_err_and, Failed, ReaderStep, FoundPiece, answers_in}
use Rattle.pim_container.proofs.Steps.{head_some, found_known, fault_known}
use Rattle.pim_container.proofs.Room.{memory_passed}
use Rattle.pim_container.proofs.Taken.{takes_passed}
use Rattle.pim_container.proofs.Needs.{piece_passed}
use Rattle.pim_container.proofs.reader.go_on.Goals as goal

pub returns-in_err-found-clause-answer : goal.returns-in_err-found-clause-answer
returns-in_err-found-clause-answer g c =
    let p = err_from_is_err_and c.from_residual.result c.from_residual.ensures.1 in
    rw (p.1, p.2) (fault_known c.args.left c.args.container c.args.interfaces.now.items c.take_piece.new.interfaces.items c.args.head.now c.take_piece.new.buffer.items
    (g.R.Feed.remaining c.args.device.now) (g.R.Feed.remaining c.take_piece.new.device) c.in_err-found.field-0.0 (g.R.Feed.failures c.args.device.now) (g.R.Feed.failures c.take_piece.new.device)
    (answers_in Failed c.take_piece.new.interfaces.items) (omega arith) (omega (arith, head_some c.args.container)) c.in_err-found.ensures.answer c.in_err-found.ensures.reads)

pub returns-clause-answer : goal.returns-clause-answer
returns-clause-answer g c =
    found_known c.args.left c.args.container c.args.interfaces.now.items c.take_piece.new.interfaces.items c.args.head.now c.take_piece.new.buffer.items
    (g.R.Feed.remaining c.args.device.now) (g.R.Feed.remaining c.take_piece.new.device) c.in_ok-found.found (omega arith) (omega (arith, head_some c.args.container)) c.in_ok-found.ensures.record c.in_ok-found.ensures.answer

pub returns-in_err-found-clause-memory : goal.returns-in_err-found-clause-memory
returns-in_err-found-clause-memory g c =
    let p = err_from_is_err_and c.from_residual.result c.from_residual.ensures.1 in
    rw (p.1, p.2) (memory_passed FoundPiece ReaderStep c.in_err-found.field-0.0 _ _ (λ m. m) c.in_err-found.ensures.memory)

pub returns-in_err-found-clause-taken : goal.returns-in_err-found-clause-taken
returns-in_err-found-clause-taken g c =
    let p = err_from_is_err_and c.from_residual.result c.from_residual.ensures.1 in
    rw (p.1, p.2) (takes_passed FoundPiece ReaderStep _ c.in_err-found.field-0.0 _ _ c.in_err-found.ensures.taken)

pub returns-in_err-found-clause-lacking : goal.returns-in_err-found-clause-lacking
returns-in_err-found-clause-lacking g c =
    let p = err_from_is_err_and c.from_residual.result c.from_residual.ensures.1 in
    rw (p.1, p.2) (memory_passed FoundPiece ReaderStep c.in_err-found.field-0.0 _ _ (λ m. m) c.in_err-found.ensures.lacking)

pub returns-clause-ahead : goal.returns-clause-ahead
returns-clause-ahead g c =
    piece_passed c.args.left c.args.container (vec_len c.args.interfaces.now) (vec_len c.take_piece.new.interfaces) c.args.interfaces.now.items c.take_piece.new.interfaces.items c.args.head.now
    c.take_piece.new.buffer.items (g.R.Feed.remaining c.args.device.now) (g.R.Feed.remaining c.take_piece.new.device) c.in_ok-found.found (omega arith) c.in_ok-found.ensures.answer
    c.in_ok-found.ensures.counted
