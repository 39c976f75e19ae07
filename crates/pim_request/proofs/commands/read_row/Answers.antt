use Rattle.pim_request.proofs.Cited.{[], ◌∷◌, prefix, address, IsFault, row_forms, address_forms, words_left}
use Rattle.pim_request.proofs.Faults.{reported, at_slot, step}
use Rattle.pim_request.proofs.commands.read_row.Goals as goal

pub returns-in_err-read-clause-fault : goal.returns-in_err-read-clause-fault
returns-in_err-read-clause-fault c =
    reported (IsFault row_forms c.args.command.now (words_left c.args.left)) c.in_err-read.field-0.0 c.from_residual.result c.from_residual.ensures.1
    (at_slot prefix (address ∷ []) [] c.args.command.now (words_left c.args.left) c.in_err-read.field-0.0 c.in_err-read.ensures.fault)

pub returns-in_err-to-clause-fault : goal.returns-in_err-to-clause-fault
returns-in_err-to-clause-fault c =
    reported (IsFault row_forms c.args.command.now (words_left c.args.left)) c.in_err-to.field-0.0 c.from_residual-in_err-to.result c.from_residual-in_err-to.ensures.1
    (let read = c.in_ok-read.ensures.read in
    step prefix address_forms c.args.command.now read.1 (words_left c.in_ok-read.read.left) (words_left c.args.left) c.in_err-to.field-0.0 read.4 (c.in_ok-read.read.address, read.0, c.in_ok-read.read.length, read.2, read.3) c.in_err-to.ensures.fault)
