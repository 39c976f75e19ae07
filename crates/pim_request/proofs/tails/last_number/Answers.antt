use Rattle.pim_request.proofs.Cited.{refl, [], decimal, number, IsFault, number_forms, no_words, words_left}
use Rattle.pim_request.proofs.Faults.{reported, at_slot, step}
use Rattle.pim_request.proofs.tails.last_number.Goals as goal

pub returns-in_err-read-clause-fault : goal.returns-in_err-read-clause-fault
returns-in_err-read-clause-fault c =
    reported (IsFault (number_forms c.args.low c.args.high) c.args.command.now (words_left c.args.left)) c.in_err-read.field-0.0 c.from_residual.result c.from_residual.ensures.1
    (at_slot (number c.args.low c.args.high) [] [] c.args.command.now (words_left c.args.left) c.in_err-read.field-0.0 c.in_err-read.ensures.fault)

pub returns-in_err-line_end-clause-fault : goal.returns-in_err-line_end-clause-fault
returns-in_err-line_end-clause-fault c =
    reported (IsFault (number_forms c.args.low c.args.high) c.args.command.now (words_left c.args.left)) c.in_err-line_end.field-0.0 c.from_residual-in_err-line_end.result c.from_residual-in_err-line_end.ensures.1
    (step (number c.args.low c.args.high) no_words c.args.command.now (decimal c.in_ok-read.read.number) (words_left c.in_ok-read.read.left) (words_left c.args.left) c.in_err-line_end.field-0.0 c.in_ok-read.ensures.read
    (c.in_ok-read.read.number, c.in_ok-read.ensures.low, c.in_ok-read.ensures.high, refl) (c.in_err-line_end.ensures.fault c.args.command.now))
