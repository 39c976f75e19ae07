use Rattle.pim_request.proofs.Cited.{[], ◌∷◌, name, address, IsFault, kept_forms, address_forms, words_left}
use Rattle.pim_request.proofs.Faults.{reported, at_slot, step}
use Rattle.pim_request.proofs.commands.read_keep.Goals as goal

pub returns-in_err-cut-clause-fault : goal.returns-in_err-cut-clause-fault
returns-in_err-cut-clause-fault c =
    reported (IsFault kept_forms c.args.command.now (words_left c.args.left)) c.in_err-cut.field-0.0 c.from_residual.result c.from_residual.ensures.1
    (at_slot name (address ∷ []) [] c.args.command.now (words_left c.args.left) c.in_err-cut.field-0.0 c.in_err-cut.ensures.fault)

pub returns-in_err-upstream-clause-fault : goal.returns-in_err-upstream-clause-fault
returns-in_err-upstream-clause-fault c =
    reported (IsFault kept_forms c.args.command.now (words_left c.args.left)) c.in_err-upstream.field-0.0 c.from_residual-in_err-upstream.result c.from_residual-in_err-upstream.ensures.1
    (step name address_forms c.args.command.now c.in_ok-cut.cut.word.now (words_left c.in_ok-cut.cut.left) (words_left c.args.left) c.in_err-upstream.field-0.0 c.in_ok-cut.ensures.read c.in_ok-cut.ensures.some c.in_err-upstream.ensures.fault)
