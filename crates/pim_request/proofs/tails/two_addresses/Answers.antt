use Rattle.pim_request.proofs.Cited.{address, words_left, IsFrontFault, [], ◌∷◌}
use Rattle.pim_request.proofs.Faults.{reported, front_first, front_second}
use Rattle.pim_request.proofs.tails.two_addresses.Goals as goal

pub returns-in_err-first-clause-fault : goal.returns-in_err-first-clause-fault
returns-in_err-first-clause-fault c =
    reported (IsFrontFault (address ∷ address ∷ []) c.args.command.now (words_left c.args.left)) c.in_err-first.field-0.0 c.from_residual.result c.from_residual.ensures.1
    (front_first address address c.args.command.now (words_left c.args.left) c.in_err-first.field-0.0 c.in_err-first.ensures.fault)

pub returns-in_err-second-clause-fault : goal.returns-in_err-second-clause-fault
returns-in_err-second-clause-fault c =
    reported (IsFrontFault (address ∷ address ∷ []) c.args.command.now (words_left c.args.left)) c.in_err-second.field-0.0 c.from_residual-in_err-second.result c.from_residual-in_err-second.ensures.1
    (let first = c.in_ok-first.ensures.read in
    front_second address address c.args.command.now first.0 (words_left c.in_ok-first.first.left) (words_left c.args.left) c.in_err-second.field-0.0 first.2 (c.in_ok-first.first.address, first.1) c.in_err-second.ensures.fault)
